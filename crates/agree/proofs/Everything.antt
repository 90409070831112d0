-- Everything written back or lost: then every place is empty, and what is in memory is all there is.
use Prim.Native.Nat.{ℕ, zero, suc, ◌+◌, ◌<◌}
use native.Mathlib.Omega.{arith}
use mathlib.Core.Path.{◌≡◌, refl, sym, ◌∙◌, subst}
use mathlib.Core.Logic.{◌≢◌}
use mathlib.Core.Bool.{false, false≢true}
use mathlib.Core.List.{List}
use lib.ListN.{length}
use Rattle.lists.specs.Bytes.{Bytes}
use Rattle.lists.proofs.Cases.{by-eq}
use Rattle.lists.proofs.PartLaws.{by_parts}
use Rattle.model.specs.Cipher.{Cipher}
use Rattle.model.specs.CipherLaws.{Sized, CipherLaws}
use Rattle.model.specs.Lines.{line_at, mac_at}
use Rattle.model.specs.Placement.{Placement}
use Rattle.model.specs.PlacementLaws.{PlacementLaws}
use Rattle.model.specs.Uncached.{Uncached}
use Rattle.model.specs.Cached.{Cached, then_do, evict_place, evict_from, evict_all, lose_place, lose_from, lose_all}
use Rattle.model.specs.Cached.{as_it_stands}
use Rattle.keeps.specs.Good.{Good}
use Rattle.keeps.proofs.Evict.{evict-length, evict-here, evict_other}
use Rattle.keeps.proofs.Requests.{lose_good, lose_length}
use Rattle.agree.specs.Agree.{Free, Agree, AllEmpty}
use Rattle.agree.proofs.Evict.{evict-agrees}

module _ (c : Cipher) (CL : CipherLaws c) (P : Placement) (L : PlacementLaws P) (N C : ℕ) where
  -- the places below m are empty
  record EmptyBelow (m : ℕ) (d : List ℕ) : Type 0 where
    none : (p : ℕ) → p < m → p < length d → (P.look d p).used ≡ false

  -- one more place was emptied, and the others are as they were
  one_more : (p : ℕ) (d d' : List ℕ) → EmptyBelow p d → length d' ≡ length d
      → (p < length d → (P.look d' p).used ≡ false)
      → ((q : ℕ) → q ≢ p → P.look d' q ≡ P.look d q) → EmptyBelow (p + 1) d'
  one_more p d d' E e h o =
      record {
        none =
            λ q a b.
            by-eq q p
            (λ z. rw z (h (subst (λ (r : ℕ). r < length d) z (rw e at b))))
            (λ z. rw (o q z) (E.none q (omega arith) (rw e at b)));
      }

  flush_agrees : (k p : ℕ) (u : Uncached) (s : Cached) → p + k ≡ length s.dir → Agree c P L N C u s
      → Agree c P L N C u (evict_from c P k p s).state
  unfolding evict_from then_do
  flush_agrees zero p u s e A = A
  flush_agrees (suc k) p u s e A =
      flush_agrees k (p + 1) u (evict_place c P p s).state (rw (evict-length c CL P L N C s p) (omega arith))
      (evict-agrees c CL P L N C u s p A (omega arith))

  all_of_them : (p : ℕ) (d : List ℕ) → p ≡ length d → EmptyBelow p d → AllEmpty P d
  all_of_them p d e E = record { unused = λ q h. E.none q (omega arith) h }

  flush_empties : (k p : ℕ) (s : Cached) → p + k ≡ length s.dir → EmptyBelow p s.dir
      → AllEmpty P (evict_from c P k p s).state.dir
  unfolding evict_from then_do
  flush_empties zero p s e E = all_of_them p s.dir (omega arith) E
  flush_empties (suc k) p s e E =
      flush_empties k (p + 1) (evict_place c P p s).state (rw (evict-length c CL P L N C s p) (omega arith))
      (one_more p s.dir (evict_place c P p s).state.dir E (evict-length c CL P L N C s p)
      (evict-here c CL P L N C s p) (evict_other c CL P L N C s p))

  -- after everything is written back the memories still agree, and every place is empty
  pub all-agrees : (u : Uncached) (s : Cached) → Agree c P L N C u s → Agree c P L N C u (evict_all c P s).state
  unfolding evict_all
  all-agrees u s A = flush_agrees (length s.dir) 0 u s (omega arith) A

  pub all_empties : (s : Cached) → AllEmpty P (evict_all c P s).state.dir
  unfolding evict_all
  all_empties s = flush_empties (length s.dir) 0 s (omega arith) (record { none = λ q a b. absurd (omega arith) })

  -- a memory in use: a key of 16 bytes, memory of bytes, right sizes and an orderly directory
  pub record Proper (s : Cached) : Type 0 where
    pub key : Sized 16 s.key
    pub bytes : Bytes s.mem
    pub good : Good P L N C s

  pub proper : (u : Uncached) (s : Cached) → Agree c P L N C u s → Proper s
  proper u s A = record { key = A.key; bytes = A.bytes; good = A.good }

  -- with every place empty, memory and MAC area as they stand agree: at the start, and after a cut
  pub fresh_agrees : (s : Cached) → Proper s → AllEmpty P s.dir → Agree c P L N C (as_it_stands s) s
  unfolding as_it_stands
  fresh_agrees s r E =
      record {
        keys = refl;
        key = r.key;
        plain_mem = record { size = r.good.mem; bytes = r.bytes };
        plain_macs = r.good.macs;
        bytes = r.bytes;
        good = r.good;
        held = λ p h w. absurd (false≢true (sym (E.unused p h) ∙ w));
        free = λ n h f. record { lines = refl; macs = refl };
      }

  nowhere : (d : List ℕ) (n : ℕ) → AllEmpty P d → Free P d n
  nowhere d n E = record { nowhere = λ p h w z. false≢true (sym (E.unused p h) ∙ w) }

  -- with every place empty, the two memories are one
  pub same_mem : (u : Uncached) (s : Cached) → Agree c P L N C u s → AllEmpty P s.dir → u.mem ≡ s.mem
  unfolding line_at
  same_mem u s A E = by_parts 64 N u.mem s.mem A.plain_mem.size A.good.mem
      (λ n h. (A.free n h (nowhere s.dir n E)).lines)

  pub same-macs : (u : Uncached) (s : Cached) → Agree c P L N C u s → AllEmpty P s.dir → u.macs ≡ s.macs
  unfolding mac_at
  same-macs u s A E = by_parts 16 N u.macs s.macs A.plain_macs A.good.macs
      (λ n h. (A.free n h (nowhere s.dir n E)).macs)

  -- with every place empty, another key may be taken
  pub rekey-agrees : (u : Uncached) (s : Cached) (k : List ℕ) → Agree c P L N C u s → AllEmpty P s.dir
      → Sized 16 k → Agree c P L N C (record { key = k; mem = u.mem; macs = u.macs })
      (record { key = k; mem = s.mem; macs = s.macs; cache = s.cache; dir = s.dir })
  unfolding as_it_stands
  rekey-agrees u s k A E z =
      rw (same_mem u s A E, same-macs u s A E)
      (fresh_agrees (record { key = k; mem = s.mem; macs = s.macs; cache = s.cache; dir = s.dir })
      (record {
        key = z;
        bytes = A.bytes;
        good = record {
          mem = A.good.mem;
          macs = A.good.macs;
          cache =
              A.good.cache;
          places = A.good.places;
          orderly = A.good.orderly;
        };
      }) E)

  -- a slot that is lost: memory and MAC area stand, the rest is as after an eviction
  lose_proper : (s : Cached) (p : ℕ) → p < length s.dir → Proper s → Proper (lose_place P p s)
  unfolding lose_place
  lose_proper s p hp r = record { key = r.key; bytes = r.bytes; good = lose_good c CL P L N C s p hp r.good }

  lose_dir : (s : Cached) (p : ℕ) → (lose_place P p s).dir ≡ (evict_place c P p s).state.dir
  unfolding lose_place evict_place
  lose_dir s p = refl

  -- the slots that are lost: a memory in use, with every place empty
  record Lost (t : Cached) : Type 0 where
    rest : Proper t
    gone : AllEmpty P t.dir

  losing : (k p : ℕ) (s : Cached) → p + k ≡ length s.dir → EmptyBelow p s.dir → Proper s
      → Lost (lose_from P k p s)
  unfolding lose_from
  losing zero p s e E r = record { rest = r; gone = all_of_them p s.dir (omega arith) E }
  losing (suc k) p s e E r =
      let t = lose_place P p s in
      let l : length t.dir ≡ length s.dir = lose_length c CL P L N C s p in
      losing k (p + 1) t (rw l (omega arith))
      (one_more p s.dir t.dir E l (λ h. rw (lose_dir s p) (evict-here c CL P L N C s p h))
      (λ q d. rw (lose_dir s p) (evict_other c CL P L N C s p q d)))
      (lose_proper s p (omega arith) r)

  -- after a power cut every place is empty, and the memory is still one in use
  cut_lost : (s : Cached) → Proper s → Lost (lose_all P s)
  unfolding lose_all
  cut_lost s r = losing (length s.dir) 0 s (omega arith) (record { none = λ q a b. absurd (omega arith) }) r

  pub cut-proper : (s : Cached) → Proper s → Proper (lose_all P s)
  cut-proper s r = (cut_lost s r).rest

  pub cut_empties : (s : Cached) → Proper s → AllEmpty P (lose_all P s).dir
  cut_empties s r = (cut_lost s r).gone

  -- the manual's memory is given what the cut left, and the two agree
  pub cut-agrees : (s : Cached) → Proper s → Agree c P L N C (as_it_stands (lose_all P s)) (lose_all P s)
  cut-agrees s r = fresh_agrees (lose_all P s) (cut-proper s r) (cut_empties s r)

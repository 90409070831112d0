-- Evicting any slot keeps the agreement.
use Prim.Native.Nat.{ℕ, ◌<◌}
use mathlib.Core.Path.{◌≡◌, refl, sym, ap, ◌∙◌, subst}
use mathlib.Core.Bool.{true, false≢true}
use mathlib.Core.List.{List}
use lib.ListN.{length}
use Rattle.lists.specs.If.{if}
use Rattle.lists.specs.Bytes.{zeros}
use Rattle.lists.proofs.ByteLaws.{length-zeros}
use Rattle.lists.proofs.Cases.{by-eq, by_test}
use Rattle.lists.proofs.NthLaws.{nth_put-here, nth_put_other, nth_put-bytes}
use Rattle.model.specs.Cipher.{Cipher}
use Rattle.model.specs.CipherLaws.{Sized, CipherLaws}
use Rattle.model.specs.Lines.{line_at, put_line, mac_at, put_mac, stored, signed}
use Rattle.model.specs.Placement.{Entry, Placement}
use Rattle.model.specs.PlacementLaws.{PlacementLaws}
use Rattle.model.specs.Uncached.{Uncached}
use Rattle.model.specs.Cached.{Cached, evict_place}
use Rattle.model.proofs.LineLaws.{line-sized, seen-sized, stored-sized}
use Rattle.keeps.proofs.Evict.{evict-length, evict-here, evict_other, evict-empty, evict-good, in_memory, home-mac}
use Rattle.agree.proofs.Update.{one_place, update_agrees}
use Rattle.agree.specs.Agree.{Free, Agree}

module _ (c : Cipher) (CL : CipherLaws c) (P : Placement) (L : PlacementLaws P) (N C : ℕ) where
  -- the bytes of a held line are 64 bytes
  pub body-sized : (u : Uncached) (s : Cached) (p : ℕ) → Agree c P L N C u s → p < length s.dir
      → (P.look s.dir p).used ≡ true → Sized 64 (line_at p s.cache)
  body-sized u s p A hp h =
      let e = P.look s.dir p in
      rw (A.held p hp h).viewed (seen-sized c CL s.key A.key e.line e.tag (line_at e.line u.mem)
      (line-sized N e.line u.mem A.plain_mem (L.held-line s.dir p A.good.orderly hp h)))

  -- a used slot is evicted
  module _ (u : Uncached) (s : Cached) (p : ℕ) (A : Agree c P L N C u s) (hp : p < length s.dir)
      (h : (P.look s.dir p).used ≡ true) where
    abbrev e : Entry
    e = P.look s.dir p

    abbrev line : List ℕ
    line = stored c e.tag s.key e.line (line_at p s.cache)

    abbrev mac : List ℕ
    mac = signed c e.tag s.key e.line line (mac_at e.line s.macs)

    abbrev next : Cached
    next =
        record {
          key = s.key;
          mem = if e.dirty (put_line e.line line s.mem) s.mem;
          macs = if e.dirty (put_mac e.line mac s.macs) s.macs;
          cache = put_line p (zeros 64) s.cache;
          dir = P.clear s.dir p;
        }

    line-fits : Sized 64 line
    line-fits = stored-sized c CL s.key A.key e.line e.tag (line_at p s.cache) (body-sized u s p A hp h)

    evict-used : Agree c P L N C u next
    unfolding line_at mac_at put_line put_mac evict_place
    evict-used =
        update_agrees c P L N C e.line p u u s next A hp
        (record {
          occupant = λ w. refl;
          alone = λ q d hq w z. d (one_place c P L N C s.dir p q A.good.orderly hp hq h w z);
          named = λ w. absurd (false≢true (sym (L.clear-here s.dir p hp) ∙ w));
          plain_key = refl;
          key = refl;
          looks = L.clear_other s.dir p;
          slots = λ q d. nth_put_other 64 (length s.dir) s.cache A.good.cache true q p (zeros 64) hp
              (length-zeros 64) d;
          plain_lines = λ i d. refl;
          plain_macs = λ i d. refl;
          lines = λ i d. nth_put_other 64 N s.mem A.good.mem e.dirty i e.line line
              (in_memory c CL P L N C s p A.good hp h) line-fits.size d;
          macs = λ i d. nth_put_other 16 N s.macs A.good.macs e.dirty i e.line mac
              (in_memory c CL P L N C s p A.good hp h) (home-mac c CL P L N C s p A.good hp h) d;
          plain_mem_size = A.plain_mem;
          plain_macs_size = A.plain_macs;
          bytes = nth_put-bytes 64 e.line e.dirty line s.mem line-fits.bytes A.bytes;
          good = rw h at (evict-good c CL P L N C s p A.good hp);
          here = λ w. absurd (false≢true (sym (L.clear-here s.dir p hp) ∙ w));
          home =
              λ w.
              record {
                lines = (A.held p hp h).lines
                    ∙ sym (nth_put-here 64 N s.mem A.good.mem e.dirty e.line line
                    (in_memory c CL P L N C s p A.good hp h) line-fits.size);
                macs = (A.held p hp h).macs
                    ∙ sym (nth_put-here 16 N s.macs A.good.macs e.dirty e.line mac
                    (in_memory c CL P L N C s p A.good hp h) (home-mac c CL P L N C s p A.good hp h));
              };
        })

  pub evict-agrees : (u : Uncached) (s : Cached) (p : ℕ) → Agree c P L N C u s → p < length s.dir
      → Agree c P L N C u (evict_place c P p s).state
  unfolding evict_place
  evict-agrees u s p A hp =
      by_test (P.look s.dir p).used
      (λ h. rw h (evict-used u s p A hp h))
      (λ h. rw (evict-empty c CL P L N C s p A.good.orderly hp h) A)

  -- a line whose place was evicted is held nowhere
  pub evict_frees : (s : Cached) (n p : ℕ) → L.Orderly N s.dir → p < length s.dir
      → P.choose s.dir n ≡ p → Free P (evict_place c P p s).state.dir n
  evict_frees s n p o hp e =
      record {
        nowhere =
            λ q hq w z.
            by-eq q p
            (λ a. false≢true (sym (evict-here c CL P L N C s p hp)
            ∙ subst (λ (r : ℕ). (P.look (evict_place c P p s).state.dir r).used ≡ true) a w))
            (λ a.
            let hq' : q < length s.dir = rw (evict-length c CL P L N C s p) at hq in
            let w' : (P.look s.dir q).used ≡ true = rw (evict_other c CL P L N C s p q a) at w in
            let z' : (P.look s.dir q).line ≡ n = rw (evict_other c CL P L N C s p q a) at z in
            a (sym (L.held-chosen s.dir q o hq' w') ∙ (ap (P.choose s.dir) z' ∙ e)));
      }

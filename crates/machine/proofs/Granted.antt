-- Each way that a wish may go is what the cached memory makes of it.
use Prim.Native.Nat.{ℕ, ◌+◌, ◌*◌, ◌/◌, ◌%◌, ◌≤◌, ◌<◌}
use Rattle.std.specs.Prelude.{Option, Some, None}
use native.Mathlib.Omega.{arith}
use mathlib.Core.Path.{◌≡◌, refl, sym, ap, ◌∙◌}
use mathlib.Core.Bool.{Bool, true, false}
use mathlib.Core.List.{List, append-nil}
use lib.ListN.{length}
use lib.Dec.{eqb}
use borrow.Author.Tests.{eq-eqb, ne_eqb}
use Rattle.lists.specs.If.{if}
use Rattle.lists.specs.Parts.{part_at, put_at}
use Rattle.lists.specs.Words.{little, little_bytes}
use Rattle.lists.proofs.PartLaws.{part_part}
use Rattle.model.specs.Tags.{Tag, no_tag, secure_instruction}
use Rattle.model.specs.Lines.{line_at, put_line}
use Rattle.model.specs.Log.{Counts, no_counts, counts_of}
use Rattle.model.specs.Placement.{Placement, holding}
use Rattle.model.specs.Requests.{perform}
use Rattle.model.specs.Cached.{Cached, Did, cached, cached_handle, ready_place, hit_place, write_place, access_place}
use Rattle.model.specs.Cached.{serves, evict_all, evict_place, fill_place, then_do}
use Rattle.model.proofs.CachedRules.{ready_hit, ready_miss}
use Rattle.directory.specs.Direct.{direct}
use Rattle.directory.specs.TagIn.{tag_in}
use Rattle.directory.specs.declared.tag.Tag as code
use Rattle.instructions.specs.Wishes.{Wish, idle, word, new_key, grant, got_from}
use Rattle.ciphers.specs.Cipher.{aes_cipher}
use Rattle.cache.specs.Lent.{Fit}
use Rattle.cache.specs.Does.{Does}
use Rattle.cache.proofs.Dropping.{choose-slot}
use Rattle.directory.proofs.DirectLaws.{direct_laws}
use Rattle.machine.specs.Grants.{Grants, Obtains, Inside, Touches, fetch_of}
use Rattle.registers.specs.Wanted.{wish_in}
use Rattle.registers.specs.declared.decide.Wish.TheVariants.{Word}
use Rattle.machine.proofs.InsideLaws.{put_inside}

-- a hit uses the slot and does nothing else, and a miss is the slow way
module _ (P : Placement) (s : Cached) (t : Tag) (n p : ℕ) where
  pub readies_hit : (dir' : List ℕ) (k : Counts) → k ≡ no_counts → true ≡ serves (P.look s.dir p) t n
      → dir' ≡ P.touch s.dir p
      → Does (ready_place aes_cipher P t n p s) true k
      (record { key = s.key; mem = s.mem; macs = s.macs; cache = s.cache; dir = dir' })
  unfolding hit_place counts_of
  readies_hit dir' k z h e =
      rw (ready_hit aes_cipher P p s t n (sym h))
      (record {
        answer = refl;
        counted = z;
        left = λ i. record { key = s.key; mem = s.mem; macs = s.macs; cache = s.cache; dir = e i };
      })

  pub readies_miss : (u : Cached) (ok : Bool) (k : Counts) → false ≡ serves (P.look s.dir p) t n
      → Does (then_do (evict_place aes_cipher P p s) (fill_place aes_cipher P t n p)) ok k u
      → Does (ready_place aes_cipher P t n p s) ok k u
  readies_miss u ok k h D = rw (ready_miss aes_cipher P p s t n (sym h)) D

-- nothing was wished
pub idle_granted : (s : Cached) → Grants idle s false 0 no_counts s
unfolding grant perform counts_of
idle_granted s = record { missed = refl; found = refl; counted = refl; left = refl }

module _ (s t : Cached) (tag : Tag) (a j p : ℕ) (k : Counts) (chosen : p ≡ direct.choose s.dir (a / 64)) where
  abbrev n : ℕ
  n = a / 64

  abbrev ready : Did
  ready = ready_place aes_cipher direct tag n p s

  -- the line's check failed
  pub failed_granted : (write : Bool) (v : ℕ) → Does ready false k t → Grants (word tag a j write v) s true 0 k t
  unfolding grant perform cached cached_handle access_place got_from write_place
  failed_granted write v D =
      let o : ready.ok ≡ false = sym D.answer in
      record {
        missed = rw (← chosen, o);
        found = rw (← chosen, o);
        counted = rw (← chosen) (D.counted ∙ ap counts_of (sym (append-nil ready.log)));
        left = rw (← chosen, o) D.left;
      }

  -- the line is there: the number is read
  pub read_granted : (v x : ℕ) → a % 64 + j ≤ 64 → x ≡ little (part_at (p * 64 + a % 64) j t.cache)
      → Does ready true k t → Grants (word tag a j false v) s false x k t
  unfolding grant perform cached cached_handle access_place got_from write_place line_at
  read_granted v x h e D =
      let o : ready.ok ≡ true = sym D.answer in
      record {
        missed = rw (← chosen, o);
        found = rw (← chosen, o, ← D.left, part_part (a % 64) j (p * 64) 64 t.cache h) e;
        counted = rw (← chosen) (D.counted ∙ ap counts_of (sym (append-nil ready.log)));
        left = rw (← chosen, o) D.left;
      }

  -- and written
  pub write_granted : (v x : ℕ) (cache' dir' : List ℕ) → a % 64 + j ≤ 64
      → p * 64 + 64 ≤ length t.cache
      → x ≡ little (part_at (p * 64 + a % 64) j t.cache)
      → cache' ≡ put_at (p * 64 + a % 64) j (little_bytes j v) t.cache
      → dir' ≡ direct.put t.dir p (holding n tag true) → Does ready true k t
      → Grants (word tag a j true v) s false x k
      (record { key = t.key; mem = t.mem; macs = t.macs; cache = cache'; dir = dir' })
  unfolding grant perform cached cached_handle access_place got_from write_place line_at put_line
  write_granted v x cache' dir' h z e b d D =
      let o : ready.ok ≡ true = sym D.answer in
      let w = put_at (a % 64) j (little_bytes j v) (part_at (p * 64) 64 t.cache) in
      let f : cache' ≡ put_at (p * 64) 64 w t.cache =
      b ∙ sym (put_inside (p * 64) 64 (a % 64) j (little_bytes j v) t.cache h z) in
      record {
        missed = rw (← chosen, o);
        found = rw (← chosen, o, ← D.left, part_part (a % 64) j (p * 64) 64 t.cache h) e;
        counted = rw (← chosen) (D.counted ∙ ap counts_of (sym (append-nil ready.log)));
        left =
            rw (← chosen, o, ← D.left)
            (λ i. record { key = t.key; mem = t.mem; macs = t.macs; cache = f i; dir = d i });
      }

-- the fetch
pub fetch_idle : (s : Cached) (fault mode pc : ℕ) (k : Counts) → k ≡ no_counts → (fault ≡ 0 → ⊥)
    → Grants (fetch_of fault mode pc) s false 0 k s
unfolding fetch_of
fetch_idle s fault mode pc k z h = rw (z, ne_eqb fault 0 h) (idle_granted s)

module _ (s t : Cached) (fault mode pc : ℕ) (tag : Tag) (p : ℕ) (ok : Bool) (k : Counts)
    (chosen : p ≡ direct.choose s.dir (pc / 64)) (right : fault ≡ 0)
    (e : tag ≡ if (eqb mode 1) secure_instruction no_tag)
    (D : Does (ready_place aes_cipher direct tag (pc / 64) p s) ok k t) where
  pub fetch_read : (x M : ℕ) → Inside pc 4 M → ok ≡ true
      → x ≡ little (part_at (p * 64 + pc % 64) 4 t.cache)
      → Grants (fetch_of fault mode pc) s false x k t
  unfolding fetch_of
  fetch_read x M I o q =
      let g = read_granted s t tag pc 4 p k chosen 0 x I.place q (rw o at D) in
      rw (eq-eqb fault 0 right, ← e) g

  pub fetch_failed : ok ≡ false → Grants (fetch_of fault mode pc) s true 0 k t
  unfolding fetch_of
  fetch_failed o =
      let g = failed_granted s t tag pc 4 p k chosen false 0 (rw o at D) in
      rw (eq-eqb fault 0 right, ← e) g

-- buffers are those of the next memory
pub grants_obtains : (wish : Wish) (s t : Cached) (failed : Bool) (x : ℕ) (k : Counts) → Grants wish s failed x k t
    → Obtains wish s failed x k t.mem t.macs t.cache t.dir
grants_obtains wish s t failed x k G =
    let u = (perform (cached aes_cipher direct) (grant wish) s).state in
    let e = G.left in
    record {
      grants =
          record {
            missed = G.missed;
            found = G.found;
            counted = G.counted;
            left = λ i. record { key = u.key; mem = (e i).mem; macs = (e i).macs; cache = (e i).cache; dir = (e i).dir };
          };
    }

-- the data access: nothing, or another key
pub access_idle : (s : Cached) (k : Counts) → k ≡ no_counts → Obtains idle s false 0 k s.mem s.macs s.cache s.dir
access_idle s k z = rw z (grants_obtains idle s s false 0 no_counts (idle_granted s))

pub access_rekey : (s t : Cached) (key : List ℕ) (k : Counts) → Does (evict_all aes_cipher direct s) true k t
    → Obtains (new_key key) s false 0 k t.mem t.macs t.cache t.dir
unfolding grant perform cached cached_handle
access_rekey s t key k D =
    let e = D.left in
    record {
      grants =
          record {
            missed = refl;
            found = refl;
            counted = D.counted ∙ ap counts_of (sym (append-nil (evict_all aes_cipher direct s).log));
            left = λ i. record { key = key; mem = (e i).mem; macs = (e i).macs; cache = (e i).cache; dir = (e i).dir };
          };
    }

-- or a word
module _ (s t : Cached) (tag : code.Tag) (a p : ℕ) (ok : Bool) (k : Counts)
    (chosen : p ≡ direct.choose s.dir (a / 64))
    (D : Does (ready_place aes_cipher direct (tag_in tag) (a / 64) p s) ok k t) where
  pub word_failed : (store : Option ℕ) → ok ≡ false
      → Obtains (wish_in (Word tag a store)) s true 0 k t.mem t.macs t.cache t.dir
  word_failed None o =
      grants_obtains _ s t true 0 k (failed_granted s t (tag_in tag) a 8 p k chosen false 0 (rw o at D))
  word_failed (Some v) o =
      grants_obtains _ s t true 0 k (failed_granted s t (tag_in tag) a 8 p k chosen true v (rw o at D))

  pub word_done : (store : Option ℕ) (x M : ℕ) (cache' dir' : List ℕ) → Inside a 8 M → ok ≡ true
      → p * 64 + 64 ≤ length t.cache
      → Touches p (a % 64) (tag_in tag) (a / 64) store x t.cache t.dir cache' dir'
      → Obtains (wish_in (Word tag a store)) s false x k t.mem t.macs cache' dir'
  word_done None x M cache' dir' I o z T =
      let g = read_granted s t (tag_in tag) a 8 p k chosen 0 x I.place T.number (rw o at D) in
      rw (T.bytes, T.marks) (grants_obtains _ s t false x k g)
  word_done (Some v) x M cache' dir' I o z T =
      let g =
      write_granted s t (tag_in tag) a 8 p k chosen v x cache' dir' I.place z T.number T.bytes T.marks (rw o at D) in
      grants_obtains _ s _ false x k g

-- a line's slot lies within the cache's bytes, and a line's number is small
pub slot-room : (s : Cached) (p : ℕ) → Fit s → p < length s.dir → p * 64 + 64 ≤ length s.cache
slot-room s p F h = omega (arith, F.cache)

-- the slot of a word that lies inside a line is a slot, and the word lies in it
module _ (s : Cached) (a j p : ℕ) (F : Fit s) (chosen : p ≡ direct.choose s.dir (a / 64))
    (I : Inside a j (length s.mem)) where
  pub word-slot : p < length s.dir
  word-slot = choose-slot direct s (a / 64) p chosen direct_laws F I.line

  pub word_room : p * 64 + a % 64 + j ≤ length s.cache
  word_room = omega (arith, slot-room s p F word-slot, I.place)

pub line_small : (s : Cached) (n : ℕ) → Fit s → n < length s.mem / 64 → n ≤ 1024
unfolding direct_laws
line_small s n F h = omega (arith, F.orderly.lines)

-- Each way that filling a slot may go is what the cached memory does.
use Prim.Native.Nat.{ℕ}
use mathlib.Core.Path.{◌≡◌, refl, sym, ap, ◌∙◌}
use mathlib.Core.Bool.{Bool, true, false}
use mathlib.Core.List.{List, [], ◌∷◌}
use Rattle.lists.specs.Bytes.{zeros}
use Rattle.model.specs.Tags.{Tag}
use Rattle.model.specs.Lines.{line_at, put_line, mac_at, passes, seen}
use Rattle.model.specs.Log.{Note, Counts, counts_of}
use Rattle.model.specs.Placement.{Placement, holding}
use Rattle.model.specs.Cached.{Cached, fill_place}
use Rattle.model.proofs.CachedRules.{fill_passed, fill_failed}
use Rattle.ciphers.specs.Cipher.{aes_cipher}
use Rattle.cache.specs.Does.{Does}

module _ (P : Placement) (s : Cached) (tag : Tag) (n p : ℕ) (cache' dir' : List ℕ) (k : Counts) where
  abbrev next : Cached
  next = record { key = s.key; mem = s.mem; macs = s.macs; cache = cache'; dir = dir' }

  pub fills_passed : (dir₁ : List ℕ) → ((n : ℕ) (ok : Bool) → k ≡ counts_of (Note.filled tag n ok ∷ []))
      → true ≡ passes aes_cipher tag s.key n (line_at n s.mem) (mac_at n s.macs)
      → cache' ≡ put_line p (seen aes_cipher tag s.key n (line_at n s.mem)) s.cache
      → dir₁ ≡ P.put s.dir p (holding n tag false) → dir' ≡ P.touch dir₁ p
      → Does (fill_place aes_cipher P tag n p s) true k next
  fills_passed dir₁ m h a b d =
      let e : dir' ≡ P.touch (P.put s.dir p (holding n tag false)) p = d ∙ ap (λ l. P.touch l p) b in
      rw (fill_passed aes_cipher P p s tag n (sym h))
      (record {
        answer = refl;
        counted = m n true;
        left = λ i. record { key = s.key; mem = s.mem; macs = s.macs; cache = a i; dir = e i };
      })

  pub fills_failed : ((n : ℕ) (ok : Bool) → k ≡ counts_of (Note.filled tag n ok ∷ []))
      → false ≡ passes aes_cipher tag s.key n (line_at n s.mem) (mac_at n s.macs)
      → (cache' ≡ put_line p (zeros 64) s.cache) × (dir' ≡ P.clear s.dir p)
      → Does (fill_place aes_cipher P tag n p s) false k next
  fills_failed m h e =
      rw (fill_failed aes_cipher P p s tag n (sym h))
      (record {
        answer = refl;
        counted = m n false;
        left = λ i. record { key = s.key; mem = s.mem; macs = s.macs; cache = e.0 i; dir = e.1 i };
      })

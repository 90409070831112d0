-- Each way that dropping a line may go is what the cached memory does.
use Prim.Native.Nat.{ℕ, ◌<◌, ◌/◌}
use mathlib.Core.Path.{◌≡◌, refl}
use mathlib.Core.Bool.{true, false}
use lib.ListN.{length}
use Rattle.model.specs.Log.{Counts, no_counts, counts_of}
use Rattle.model.specs.Placement.{Placement}
use Rattle.model.specs.PlacementLaws.{PlacementLaws}
use Rattle.model.specs.Cached.{Cached, holds, evict_place, evict_line}
use Rattle.model.proofs.CachedRules.{drop-held, drop_other}
use Rattle.directory.proofs.DirectLaws.{direct_laws}
use Rattle.ciphers.specs.Cipher.{aes_cipher}
use Rattle.cache.specs.Lent.{Fit, FitAt}
use Rattle.cache.specs.Does.{Does}

-- a fit memory has a slot
pub some_slot : (s : Cached) → Fit s → 0 < length s.dir
unfolding direct_laws
some_slot s F = F.orderly.slots

module _ (P : Placement) (s : Cached) (n p : ℕ) (chosen : p ≡ P.choose s.dir n) where
  -- the slot of one of memory's lines is a slot
  pub choose-slot : (L : PlacementLaws P) → FitAt P L s → n < length s.mem / 64 → p < length s.dir
  choose-slot L F h = rw chosen (L.choose-place s.dir n F.orderly h)

  pub drops_other : holds (P.look s.dir p) n ≡ false → Does (evict_line aes_cipher P n s) true no_counts s
  unfolding counts_of
  drops_other h =
      rw (drop_other aes_cipher P n s (rw chosen at h)) (record { answer = refl; counted = refl; left = refl })

  pub drops_held : (k : Counts) (t : Cached) → holds (P.look s.dir p) n ≡ true
      → Does (evict_place aes_cipher P p s) true k t → Does (evict_line aes_cipher P n s) true k t
  drops_held k t h D = rw (drop-held aes_cipher P n s (rw chosen at h)) (rw chosen at D)

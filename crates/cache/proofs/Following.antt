-- One thing done after another: what is done, what is counted, and that the memory stays fit.
use Prim.Native.Nat.{ℕ, ◌/◌, ◌≤◌, ◌<◌, ◌^◌}
use native.Mathlib.Omega.{arith}
use mathlib.Core.Path.{◌≡◌, sym, ap, ap₂, ◌∙◌}
use mathlib.Core.Bool.{Bool, true}
use lib.ListN.{length}
use Rattle.model.specs.Tags.{Tag}
use Rattle.model.specs.Log.{Counts, counts_of, plus}
use Rattle.model.specs.Placement.{Placement}
use Rattle.model.specs.PlacementLaws.{PlacementLaws}
use Rattle.model.specs.Cached.{Cached, Did, then_do, evict_place, fill_place}
use Rattle.model.proofs.Sums.{counts-append}
use Rattle.directory.specs.Direct.{direct}
use Rattle.directory.proofs.DirectLaws.{direct_laws}
use Rattle.keeps.specs.Good.{Good}
use Rattle.keeps.specs.Within.{Within}
use Rattle.keeps.proofs.Evict.{evict-good}
use Rattle.keeps.proofs.Counts.{evict-within, fill_within}
use Rattle.ciphers.specs.Cipher.{aes_cipher}
use Rattle.ciphers.proofs.Laws.{aes_laws}
use Rattle.cache.specs.Lent.{FitAt, Fit}
use Rattle.cache.specs.Does.{Does}

-- a good memory is fit, whatever its sizes are called
good-fit-at : (P : Placement) (L : PlacementLaws P) (N C : ℕ) (s : Cached) → Good P L N C s → FitAt P L s
good-fit-at P L N C s G =
    let n : length s.mem / 64 ≡ N = omega (arith, G.mem) in
    let c : length s.dir ≡ C = G.places in
    rw (n, c) G

pub good-fit : (N C : ℕ) (s : Cached) → Good direct direct_laws N C s → Fit s
good-fit N C s G = good-fit-at direct direct_laws N C s G

pub does_then : (a : Did) (f : Cached → Did) (j k r : Counts) (s t : Cached) (ok : Bool) → Does a true j s
    → Does (f s) ok k t → r ≡ plus j k → Does (then_do a f) ok r t
unfolding then_do
does_then a f j k r s t ok x y e =
    record {
      answer = y.answer ∙ ap (λ (z : Cached). (f z).ok) x.left;
      counted =
          e
          ∙ (ap₂ plus x.counted (y.counted ∙ ap (λ (z : Cached). counts_of (f z).log) x.left)
          ∙ sym (counts-append a.log (f a.state).log));
      left = y.left ∙ ap (λ (z : Cached). (f z).state) x.left;
    }

-- counts that are small
pub record Small (b : ℕ) (k : Counts) : Type 0 where
  pub filled : k.filled ≤ b
  pub written : k.written ≤ b
  pub checked : k.checked ≤ b
  pub made : k.made ≤ b

pub small_bounded : (b : ℕ) (k : Counts) → b ≤ 2 ^ 62 → Small b k
    → (k.filled ≤ 2 ^ 62) × (k.written ≤ 2 ^ 62) × (k.checked ≤ 2 ^ 62) × (k.made ≤ 2 ^ 62)
small_bounded b k h S =
    (omega (arith, S.filled), omega (arith, S.written), omega (arith, S.checked), omega (arith, S.made))

pub within-small : (f w b : ℕ) (d : Did) (ok : Bool) (k : Counts) (t : Cached) → f ≤ b → w ≤ b
    → Within f w d.log
    → Does d ok k t → Small b k
within-small f w b d ok k t hf hw W D =
    rw D.counted
    (record {
      filled = omega (arith, W.filled);
      written = omega (arith, W.written);
      checked = omega (arith, W.filled, W.checked);
      made = omega (arith, W.written, W.made);
    })

module _ (P : Placement) (s t : Cached) (p : ℕ) (k : Counts) where
  -- after an eviction the memory is fit, and at most one line was written
  pub evicted-fit : (L : PlacementLaws P) → FitAt P L s → p < length s.dir
      → Does (evict_place aes_cipher P p s) true k t → FitAt P L t
  evicted-fit L F hp D =
      let N = length s.mem / 64 in
      let C = length s.dir in
      rw D.left (good-fit-at P L N C (evict_place aes_cipher P p s).state
      (evict-good aes_cipher aes_laws P L N C s p F hp))

  pub evicted-small : Does (evict_place aes_cipher P p s) true k t → Small 1 k
  evicted-small D =
      within-small 0 1 1 (evict_place aes_cipher P p s) true k t (omega arith) (omega arith)
      (evict-within aes_cipher P s p) D

  pub filled-small : (tag : Tag) (n : ℕ) (ok : Bool) → Does (fill_place aes_cipher P tag n p s) ok k t → Small 1 k
  filled-small tag n ok D =
      within-small 1 0 1 (fill_place aes_cipher P tag n p s) ok k t (omega arith) (omega arith)
      (fill_within aes_cipher P s tag n p) D

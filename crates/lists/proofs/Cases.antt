-- The two case splits that proofs use: equal numbers or not, a test that holds or does not.
use Prim.Native.Nat.{ℕ}
use native.Mathlib.Decide.{ℕ_discrete}
use mathlib.Core.Path.{◌≡◌, refl}
use mathlib.Core.Logic.{◌≢◌}
use mathlib.Core.Bool.{Bool, true, false, ◌&&◌, false≢true}

pub by-eq {ℓ} : {P : Type ℓ} (j n : ℕ) → (j ≡ n → P) → (j ≢ n → P) → P
by-eq {P = P} j n f g = go (ℕ_discrete j n)
  where
    go : Dec (j ≡ n) → P
    go (yes e) = f e
    go (no d) = g d

pub by_test {ℓ} : {P : Type ℓ} (b : Bool) → (b ≡ true → P) → (b ≡ false → P) → P
by_test true f g = f refl
by_test false f g = g refl

-- two tests that both hold
pub both_hold : (a b : Bool) → (a && b) ≡ true → (a ≡ true) × (b ≡ true)
both_hold true b e = (refl, e)
both_hold false b e = absurd (false≢true e)

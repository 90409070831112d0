-- Lists of bytes.
use Rattle.std.specs.Prelude.{ℕ, ◌<◌, List, [], ◌∷◌, Bool, true, false, ◌&&◌, eqb, get_or, replicate}

-- every element of the list is below 256
pub record Bytes (l : List ℕ) : Type 0 where
  pub byte : (i : ℕ) → get_or l i 0 < 256

-- k bytes, each zero
unfoldable pub zeros : ℕ → List ℕ
zeros k = replicate k 0

-- the two lists are equal, as a test
unfoldable pub same : List ℕ → List ℕ → Bool
same [] [] = true
same [] (y ∷ r) = false
same (x ∷ l) [] = false
same (x ∷ l) (y ∷ r) = eqb x y && same l r

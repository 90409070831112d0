-- A table of numbers, and the rule that it keeps.
use Rattle.std.specs.Prelude.{◌≡◌, List, ℕ, ◌<◌, get_or}

-- Each of the table's entries is its rule's value at the entry's place.
pub record Table (size : ℕ) (rule : ℕ → ℕ) (entries : List ℕ) : Type 0 where
  pub entry : (k : ℕ) → k < size → get_or entries k 0 ≡ rule k

-- On bytes, g gives bytes and f undoes g.
pub record Undoes (f g : ℕ → ℕ) : Type 0 where
  pub byte : (k : ℕ) → k < 256 → g k < 256
  pub undone : (k : ℕ) → k < 256 → f (g k) ≡ k

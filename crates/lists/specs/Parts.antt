-- A part of a list, and a list with a part replaced: how lines, MACs and words lie in a buffer.
use Rattle.std.specs.Prelude.{ℕ, List, ◌++◌, take, drop}

module _ {ℓ} {A : Type ℓ} where
  -- the k elements of l from place a on
  unfoldable pub part_at : ℕ → ℕ → List A → List A
  part_at a k l = take k (drop a l)

  -- l with the k elements from place a on replaced by x
  unfoldable pub put_at : ℕ → ℕ → List A → List A → List A
  put_at a k x l = take a l ++ (x ++ drop k (drop a l))

-- Two lists of bytes compared: by the library's word, and by the one that the meaning of a suspension cites.
use Rattle.std.proofs.Common.{◌≡◌, ℕ, ◌&&◌, eqb, List, [], ◌∷◌, refl, ap}
use lib.Pointwise.{pointwise}
use Rattle.lists.specs.Bytes.{same}

pub same_pointwise : (a b : List ℕ) → same a b ≡ pointwise eqb a b
unfolding same
same_pointwise [] [] = refl
same_pointwise [] (y ∷ b) = refl
same_pointwise (x ∷ a) [] = refl
same_pointwise (x ∷ a) (y ∷ b) = ap (λ t. eqb x y && t) (same_pointwise a b)

-- Rules as lists: the first that applies, and what a table says of a number.
use Rattle.std.specs.Prelude.{ℕ, Bool, false, ◌||◌, List, [], ◌∷◌, eqb}
use Rattle.lists.specs.If.{if}

-- of numbers, each with the test by which it applies, the first that applies, and 0 where none does
abbrev pub first_of : List (Bool × ℕ) → ℕ
first_of [] = 0
first_of (r ∷ rs) = if r.0 r.1 (first_of rs)

-- the first number unless it is 0, and then the second
unfoldable pub or_else : ℕ → ℕ → ℕ
or_else a b = if (eqb a 0) b a

-- what a table says of number n, and the last argument where it has no line for n
abbrev pub pick {ℓ} : {A : Type ℓ} → ℕ → List (ℕ × A) → A → A
pick n [] d = d
pick n (r ∷ rs) d = if (eqb n r.0) r.1 (pick n rs d)

-- is the number one of these?
abbrev pub one_of : ℕ → List ℕ → Bool
one_of n [] = false
one_of n (k ∷ ks) = eqb n k || one_of n ks

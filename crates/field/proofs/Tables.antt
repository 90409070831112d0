-- A list that passes the test of a rule at each entry is the rule's table: how each table is tied to its rule, once.
use mathlib.Core.Path.{◌≡◌, ◌∙◌}
use mathlib.Core.Bool.{Bool}
use mathlib.Core.List.{List}
use Prim.Native.Nat.{ℕ, ◌<◌}
use lib.Dec.{T, eqb, eqb→eq}
use lib.ListN.{length, get_or}
use Rattle.field.specs.Table.{Table}
use Rattle.field.proofs.Every.{every, at}

-- the test that an entry is the rule's value
abbrev pub is : (ℕ → ℕ) → ℕ → ℕ → Bool
is rule k x = eqb x (rule k)

pub table : (size : ℕ) (rule : ℕ → ℕ) (xs : List ℕ) → length xs ≡ size → T (every (is rule) 0 xs)
    → Table size rule xs
table size rule xs len t =
    record { entry = λ k h. eqb→eq (get_or xs k 0) (rule k) (at (is rule) xs t k (rw len h)) }

-- the same by another rule, which is quicker to compute and gives the same at each entry
pub table-by : (size : ℕ) (quick rule : ℕ → ℕ) → ((k : ℕ) → k < size → quick k ≡ rule k)
    → (xs : List ℕ)
    → length xs ≡ size
    → T (every (is quick) 0 xs) → Table size rule xs
table-by size quick rule same xs len t =
    record { entry = λ k h. (table size quick xs len t).entry k h ∙ same k h }

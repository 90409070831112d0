-- The placement of document 01: line n may sit only in slot n mod C, C being the directory's length.
-- Which directories refusal 104 lets pass.
use Rattle.std.specs.Prelude.{ℕ, ◌+◌, ◌/◌, ◌%◌, ◌<◌, ◌≤◌, ◌≡◌, Bool, true, ◌&&◌, ◌||◌, not, List, [], ◌∷◌, length, get_or, set, eqb, ltb}
use Rattle.model.specs.Placement.{Placement}
use Rattle.directory.specs.Numbers.{line_of, dirty_of, entry_of, number_of, is_number}

-- line n may sit only in slot n mod C; using a slot leaves the directory as it is
unfoldable pub direct : Placement
direct =
    record {
      choose = λ d n. n % length d;
      look = λ d p. entry_of (get_or d p 0);
      clear = λ d p. set d p 0;
      put = λ d p e. set d p (number_of e);
      touch = λ d p. d;
    }

-- is the number right in slot p of C, for a memory of N lines: a directory number, with its line in the right slot
-- and below N, and tag 1 not dirty?
unfoldable pub fine : ℕ → ℕ → ℕ → ℕ → Bool
fine N C p d =
    is_number d && (eqb d 0 || (eqb (line_of d % C) p && (ltb (line_of d) N && not (eqb (d / 2 % 4) 1 && dirty_of d))))

-- are the numbers from slot p on right?
unfoldable pub all_fine : ℕ → ℕ → ℕ → List ℕ → Bool
all_fine N C p [] = true
all_fine N C p (d ∷ ds) = fine N C p d && all_fine N C (p + 1) ds

-- an orderly directory: at least one slot, a memory whose lines fit ten bits, and each number right in its slot
pub record OrderlyDirect (N : ℕ) (dir : List ℕ) : Type 0 where
  pub slots : 0 < length dir
  pub lines : N ≤ 1024
  pub numbers : (p : ℕ) → p < length dir → fine N (length dir) p (get_or dir p 0) ≡ true

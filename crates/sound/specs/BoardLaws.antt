-- What a board must satisfy: its placement is lawful, its entry check is for orderly directories, and whole words
-- make a line.
use Rattle.std.specs.Prelude.{ℕ, ◌*◌, ◌≤◌, ◌≡◌, true, List, length}
use Rattle.model.specs.PlacementLaws.{PlacementLaws}
use Rattle.instructions.specs.Board.{Board}

-- the laws of a board
pub record BoardLaws (B : Board) : Type 1 where
  pub placement : PlacementLaws B.placement
  -- what refusals 103 and 104 let pass is orderly, and an orderly directory is let pass
  pub passed : (N : ℕ) (dir : List ℕ) → B.slots_fine (length dir) ≡ true → N ≤ 1024
      → B.directory_fine N dir ≡ true
      → placement.Orderly N dir
  pub passes : (N : ℕ) (dir : List ℕ) → placement.Orderly N dir → B.directory_fine N dir ≡ true
  -- a line is a whole number of words
  pub words : ℕ
  pub whole_words : words * B.word_bytes ≡ 64

-- What holds of every board that is read from a text.
use Rattle.std.specs.Prelude.{ℕ, ◌%◌, ◌≤◌, ◌<◌, ◌≡◌, Result, MatchResult}
use Rattle.board_numbers.specs.declared.errors.Misread.{Misread}
use Rattle.board_file.specs.declared.board.Board.{Board}

-- sizes that document 01 allows
pub record Within (b : Board) : Type 0 where
  pub memory : b.memory ≤ 65536
  pub lines : b.memory % 64 ≡ 0
  pub slots : b.slots ≤ 64
  pub steps : b.steps ≤ 10000

-- a board within its bounds, with a memory and slots
pub record Whole (b : Board) : Type 0 where
  pub within : Within b
  pub memory : 0 < b.memory
  pub slots : 0 < b.slots

-- what is read of a text of so many bytes: a whole board, or an error whose line is one of the text's
abbrev pub Read : ℕ → Result Board Misread → Type 0
Read size r = MatchResult r (λ b. Whole b) (λ m. m.line ≤ size)

-- What a line says, by its words.
use Rattle.std.specs.Prelude.{◌+◌, ◌<◌, ◌≤◌, List, ℕ, length}
use Rattle.board_text.specs.declared.statement.Said.{Said}

-- a first word of a byte at least, and what is left behind it, both within the line
abbrev pub Begins : List ℕ → Said → Type 0
Begins line s = (0 < length s.first.now) × (length s.first.now + length s.behind.rest.now ≤ length line)

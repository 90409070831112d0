-- The numbers of a statement.
use Rattle.std.specs.Prelude.{List, take}
use Rattle.board_numbers.specs.declared.number.Number.{Number}
use Rattle.board_text.specs.declared.numbers.Numbers.{Numbers}

-- the numbers in their order, as many as there are
abbrev pub row : Numbers → List Number
row s = take s.count s.all

-- The value of a number that was read, be it plain or a register's.
use Rattle.std.specs.Prelude.{ℕ}
use Rattle.board_numbers.specs.declared.number.Number.{Number}
use Rattle.board_numbers.specs.declared.number.Number.TheVariants.{Plain, Register}

-- what a number says: its value, or which register it is
abbrev pub said_by : Number → ℕ
said_by (Plain n) = n
said_by (Register n) = n

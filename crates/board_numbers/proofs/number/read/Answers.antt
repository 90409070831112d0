-- `read` gives the number of a word, by its first letters.
use Rattle.std.proofs.Common.{rules, arith}
use Rattle.board_numbers.proofs.DigitLaws.{number_minus, number_register, number_hex, number_plain}
use Rattle.board_numbers.proofs.number.read.Goals as goal
use Rattle.board_numbers.proofs.number.read.Goals.{in_default-via-then-word-lt1, in_default-via-else-word-lt1+then-word-lt2+in_default-1, in_default-via-else-word-lt1+else-word-lt2+in-48+in_default-1, in_default-via-else-word-lt1+else-word-lt2+in_default-1}

pub returns-in_ok-digits-in-48 : goal.returns-in_ok-digits-in-48
returns-in_ok-digits-in-48 c = search (rules, arith, number_hex)

pub returns-in_ok-register-in-114 : goal.returns-in_ok-register-in-114
returns-in_ok-register-in-114 c = search (rules, arith, number_register)

pub returns-in_ok-negated-in-45 : goal.returns-in_ok-negated-in-45
returns-in_ok-negated-in-45 c = search (rules, arith, number_minus)

pub returns-in_ok-digits-in_default : goal.returns-in_ok-digits-in_default
returns-in_ok-digits-in_default c = elim c.in_default.branch [
  | in_default-via-then-word-lt1 w ↦ grind (arith, number_plain)
  | in_default-via-else-word-lt1+then-word-lt2+in_default-1 w ↦ grind (arith, number_plain)
  | in_default-via-else-word-lt1+else-word-lt2+in-48+in_default-1 w ↦ grind (arith, number_plain)
  | in_default-via-else-word-lt1+else-word-lt2+in_default-1 w ↦ grind (arith, number_plain)
]

-- `digits` reads a number from the left: what is read so far, with the digits left, is the whole.
use Rattle.std.proofs.Common.{◌≡◌, drop}
use Rattle.board_numbers.specs.Digits.{value_from}
use Rattle.board_numbers.proofs.number.digits.Given as goal

abbrev pub invariant-loop-c : goal.invariant-loop-c
invariant-loop-c l = value_from l.base 0 l.text ≡ value_from l.base l.value (drop l.c-index l.text)

-- What is read so far takes in one digit more; at the end no digit is left.
use Rattle.std.proofs.Common.{◌≡◌, ◌<◌, ◌+◌, ◌*◌, get_or, sym, ◌∙◌, arith, rules}
use Rattle.std.specs.Char.{digit_value}
use Rattle.board_numbers.specs.Digits.{value_of}
use Rattle.board_numbers.proofs.DigitLaws.{digit_same, value_more, value-done}
use Rattle.board_numbers.proofs.number.digits.Goals as goal

pub loop-c-preserved : goal.loop-c-preserved
loop-c-preserved c =
    let text = c.args.text.now in
    let i = c.loop-c.c-index in
    let digit : (digit_value (get_or text i 0) < c.args.base) × (digit_value (get_or text i 0) ≡ c.in_ok-digit.digit) = search rules in
    let more : c.in_ok-value.value ≡ c.loop-c.value * c.args.base + c.in_ok-digit.digit = search rules in
    rw more (rw (← digit.1) (rw (← (digit_same c.args.base _ c.requires.high digit.0)) (c.loop-c.invariant ∙ value_more c.args.base c.loop-c.value text i (omega arith))))

pub returns-clause-value : goal.returns-clause-value
unfolding value_of
returns-clause-value c =
    sym (c.loop-c.invariant ∙ value-done c.args.base c.loop-c.value c.args.text.now c.loop-c.c-index (omega arith))

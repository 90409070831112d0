-- `lay` counts the lines, of which each has a byte of the text.
use Rattle.std.proofs.Common.{◌+◌, ◌≤◌, length}
use Rattle.laying.proofs.lines.lay.Given as goal

abbrev pub invariant-loop-line : goal.invariant-loop-line
invariant-loop-line l = l.line-iterator.passed + length l.line-iterator.rest.now ≤ length l.text

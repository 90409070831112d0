-- `read` counts the lines, of which each has a byte of the text.
use Rattle.std.proofs.Common.{◌≡◌, ◌+◌, ◌≤◌, length}
use Rattle.board_file.proofs.board.read.Given as goal

abbrev pub invariant-loop-line : goal.invariant-loop-line
invariant-loop-line l = (l.last ≡ l.line-iterator.passed) × (l.line-iterator.passed + length l.line-iterator.rest.now ≤ length l.text)

-- Each number takes a byte at least of what stands behind the first word.
use Rattle.std.proofs.Common.{◌+◌, ◌≤◌, length}
use Rattle.board_text.proofs.statement.Said.statement.Given as goal

abbrev pub invariant-loop-word : goal.invariant-loop-word
invariant-loop-word l = l.numbers.count + length l.word-iterator.rest.now ≤ length l.fn.self.behind.rest.now

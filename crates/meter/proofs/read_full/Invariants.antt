-- `read_full` stays within the buffer, and ends: each turn reads a byte at least.
use Rattle.std.proofs.Common.{◌-◌, ◌≤◌, length}
use Rattle.meter.proofs.read_full.Given as goal

abbrev pub invariant-loop-n : goal.invariant-loop-n
invariant-loop-n g l = l.done ≤ length l.text

abbrev pub decreases-loop-n : goal.decreases-loop-n
decreases-loop-n g l = length l.text - l.done

-- `machine::run::run` meets its promise.
use Rattle.cache.specs.Lent.{counts_in}
use Rattle.cache.specs.Held.{SameBuffers}
use Rattle.machine.specs.Steps.{machine_on}
use Rattle.machine.proofs.Running.{Going}
use Rattle.machine.proofs.run.run.Given as goal

abbrev pub invariant-loop-i : goal.invariant-loop-i
invariant-loop-i l =
    SameBuffers l.initial.buffers l.buffers
    × Going l.n l.i (machine_on l.initial.r l.initial.special l.initial.buffers)
    (machine_on l.r l.special l.buffers) (counts_in l.counts)

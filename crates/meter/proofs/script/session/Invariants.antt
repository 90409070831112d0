-- The four buffers stay the ones that were lent, whatever the operations before did in them.
use Rattle.cache.specs.Held.{SameBuffers}
use Rattle.meter.proofs.script.session.Given as goal

abbrev pub invariant-loop-line : goal.invariant-loop-line
invariant-loop-line g l = SameBuffers l.fn.lent l.lent

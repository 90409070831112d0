-- The blocks before block j stand, and the rest of the stream is still to be laid down.
use Rattle.hiding.proofs.RegisterLaws.{StreamTo}
use Rattle.hiding.proofs.key_stream.Given as goal

abbrev pub invariant-loop-j : goal.invariant-loop-j
invariant-loop-j l = StreamTo l.j l.w l.h l.s

-- What stands in front of register i, with the registers from there on, is the text.
use Rattle.hiding.proofs.RegisterLaws.{TextTo}
use Rattle.hiding.proofs.hash.Given as goal

abbrev pub invariant-loop-i : goal.invariant-loop-i
invariant-loop-i l = TextTo l.i l.r l.text

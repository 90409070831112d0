-- The registers before register i are hidden.
use Rattle.hiding.proofs.RegisterLaws.{HiddenTo}
use Rattle.hiding.proofs.hide.Given as goal

abbrev pub invariant-loop-i : goal.invariant-loop-i
invariant-loop-i l = HiddenTo l.i l.s l.fn.r l.q

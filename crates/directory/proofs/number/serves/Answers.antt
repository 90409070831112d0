-- `directory::number::serves` meets its promise.
use Rattle.std.proofs.Common.{ne_eqb}
use Rattle.directory.proofs.NumberLaws.{serves_other, serves-same}
use Rattle.directory.proofs.number.serves.Goals as goal

pub returns-then-d-number : goal.returns-then-d-number
returns-then-d-number c = rw c.line.ensures (serves-same _ _ _ (rw c.number.ensures.0 at c.if-d-number.true))

pub returns-else-d-number : goal.returns-else-d-number
returns-else-d-number c =
    rw (ne_eqb _ _ c.if-d-number.false) (serves_other _ _ _ c.requires (rw c.number.ensures.0 at c.if-d-number.false))

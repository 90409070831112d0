-- `directory::number::holding` meets its promise.
use Rattle.directory.proofs.NumberLaws.{number_clean, number-dirty}
use Rattle.directory.proofs.number.holding.Goals as goal

pub returns-then-dirty : goal.returns-then-dirty
returns-then-dirty c = rw c.number.ensures.0 (number-dirty _ _ _ c.if-dirty.true)

pub returns : goal.returns
returns c = rw c.number.ensures.0 (number_clean _ _ _ c.if-dirty.false)

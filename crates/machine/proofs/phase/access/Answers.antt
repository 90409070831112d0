-- `machine::phase::access` meets its promise.
use Rattle.machine.proofs.Granted.{access_idle, access_rekey}
use Rattle.machine.proofs.phase.access.Goals as goal

pub returns-in-Nothing-clause-finds : goal.returns-in-Nothing-clause-finds
returns-in-Nothing-clause-finds c = rw c.in-Nothing.is (access_idle _ _ c.none.ensures)

pub returns-in-NewKey-clause-finds : goal.returns-in-NewKey-clause-finds
returns-in-NewKey-clause-finds c = rw c.in-NewKey.is (access_rekey _ _ _ _ c.evict_all.ensures.does)

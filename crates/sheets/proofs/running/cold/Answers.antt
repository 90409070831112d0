-- `sheets::running::cold` meets its promise.
use Rattle.sheets.proofs.Starting.{cold-gives}
use Rattle.sheets.proofs.running.cold.Goals as goal

pub returns-clause-gives : goal.returns-clause-gives
returns-clause-gives c = cold-gives _ _ _ _ _ _ c.power_cut.ensures.leaves c.run.ensures.leaves

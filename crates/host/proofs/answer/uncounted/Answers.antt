-- `host::answer::uncounted` meets its promise.
use Rattle.host.proofs.answer.uncounted.Goals as goal

pub returns : goal.returns
returns c = rw c.none.ensures at c.report.ensures

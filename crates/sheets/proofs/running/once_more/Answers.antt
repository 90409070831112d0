-- `sheets::running::once_more` meets its promise.
use Rattle.std.proofs.Common.{true}
use Rattle.host.specs.Outcome.{Leaves}
use Rattle.sheets.proofs.Saying.{orderly-counts, says}
use Rattle.sheets.proofs.running.once_more.Goals as goal

pub of-requires : goal.of-requires
unfolding Leaves
of-requires c = orderly-counts c.run-x.ensures.leaves

pub returns-clause-says : goal.returns-clause-says
unfolding Leaves
returns-clause-says c = says c.run-x.ensures.leaves true _ c.of.ensures

pub returns-clause-left : goal.returns-clause-left
unfolding Leaves
returns-clause-left c = c.run-x.ensures.leaves.left

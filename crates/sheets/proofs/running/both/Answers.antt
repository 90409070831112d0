-- `sheets::running::both` meets its promise.
use Rattle.std.proofs.Common.{true, false}
use Rattle.machine.specs.Lent.{given}
use Rattle.sheets.proofs.Saying.{orderly-counts, says}
use Rattle.sheets.proofs.Starting.{warm-gives}
use Rattle.sheets.proofs.running.both.Goals as goal

pub of-empty_start-requires : goal.of-empty_start-requires
of-empty_start-requires c = orderly-counts c.cold-first.ensures.gives

pub of-kept_start-requires : goal.of-kept_start-requires
of-kept_start-requires c =
    orderly-counts (warm-gives c.args.n (given c.args.p c.args.buffers.now) c.cold-first.result.processor _
    c.cold-first.ensures.gives.left c.again.ensures c.run-second.ensures.leaves)

pub returns-clause-cold : goal.returns-clause-cold
returns-clause-cold c = says c.cold-first.ensures.gives false _ c.of-empty_start.ensures

pub returns-clause-warm : goal.returns-clause-warm
returns-clause-warm c =
    says (warm-gives c.args.n (given c.args.p c.args.buffers.now) c.cold-first.result.processor _
    c.cold-first.ensures.gives.left c.again.ensures c.run-second.ensures.leaves) true _ c.of-kept_start.ensures

pub returns-clause-left : goal.returns-clause-left
returns-clause-left c =
    (warm-gives c.args.n (given c.args.p c.args.buffers.now) c.cold-first.result.processor _
    c.cold-first.ensures.gives.left c.again.ensures c.run-second.ensures.leaves).left

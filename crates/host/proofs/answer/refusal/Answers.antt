-- `host::answer::refusal` meets its promise.
use Rattle.std.proofs.lemmas.Result.{err_from_is_err_and}
use Rattle.instructions.specs.Record.{reg}
use Rattle.instructions.specs.Refusals.{or_else, record_flaws}
use Rattle.host.specs.Outcome.{lowest}
use Rattle.host.proofs.Refusing.{stops}
use Rattle.host.proofs.answer.refusal.Goals as goal

pub returns-in_err-lent : goal.returns-in_err-lent
unfolding lowest
returns-in_err-lent c =
    let p = err_from_is_err_and c.from_residual.result c.from_residual.ensures.1 in
    rw (p.1, p.2, ← c.in_err-lent.ensures) (stops _ _)

pub returns-in_err-record : goal.returns-in_err-record
unfolding lowest or_else record_flaws reg
returns-in_err-record c =
    let p = err_from_is_err_and c.from_residual-in_err-record.result c.from_residual-in_err-record.ensures.1 in
    rw (p.1, p.2, ← c.in_ok-lent.ensures, ← c.in_err-record.ensures) (stops _ _)

pub returns : goal.returns
unfolding lowest or_else record_flaws reg
returns c = rw (← c.in_ok-lent.ensures, ← c.in_ok-record.ensures)

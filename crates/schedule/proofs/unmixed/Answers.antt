-- The S-box undoes the substitution that the table's shares begin with.
use Rattle.schedule.proofs.InverseLaws.{unmixed_key}
use Rattle.rounds.proofs.WayLaws.{shares_back}
use Rattle.schedule.proofs.unmixed.Goals as goal

pub returns : goal.returns
returns c =
    let args = c.args in
    let x = c.substituted-x in
    unmixed_key args.s.now.entries args.t.now.entries args.k x.result c.shared.result args.s.now.rule
    (shares_back args.t.now.entries args.t.now.rule)
    (rw c.alike.ensures at x.ensures) (rw c.alike-2.ensures at c.shared.ensures)

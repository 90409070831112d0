-- `host::listing::refusal` meets its promise.
use Rattle.instructions.specs.Refusals.{row_flaws}
use Rattle.machine.specs.Lent.{handed}
use Rattle.host.proofs.Refusing.{listing-judged}
use Rattle.host.proofs.listing.refusal.Goals as goal

pub returns : goal.returns
unfolding row_flaws
returns c =
    let a = c.args in
    listing-judged (handed a.p a.mem.now a.macs.now a.cache.now a.dir.now) _ c.row-own.ensures
    c.refusal.ensures

-- The first and the last key stay, and the others go through InvMixColumns.
use Rattle.schedule.proofs.InverseLaws.{key-kept, key_unmixed}
use Rattle.std.proofs.Common.{arith}
use Rattle.schedule.proofs.inverse_key.Goals as goal

pub returns-then-r-eq0 : goal.returns-then-r-eq0
returns-then-r-eq0 c =
    rw c.flip-k.ensures (key-kept c.args.w.now c.args.r c.round_key.result (λ p q. omega (arith, c.then-r-eq0.either)) c.round_key.ensures)

pub returns : goal.returns
returns c =
    let flip = c.flip-k.ensures in
    key_unmixed c.args.w.now c.args.r c.round_key.result _ (omega arith) (omega arith) c.round_key.ensures
    (rw flip at c.unmixed.ensures) (rw flip at c.unmixed-2.ensures) (rw flip at c.unmixed-3.ensures)
    (rw flip at c.unmixed-4.ensures)

-- A key more in each turn.
use Rattle.schedule.proofs.InverseLaws.{keys_none, keys_more, keys-all}
use Rattle.std.proofs.Common.{arith, refl}
use lib.ListN.{length-set}
use Rattle.schedule.proofs.invert.Goals as goal

pub loop-r-init : goal.loop-r-init
loop-r-init c = (refl, keys_none c.args.w.now _)

pub loop-r-preserved : goal.loop-r-preserved
loop-r-preserved c =
    let turn = c.loop-r in
    let key = c.inverse_key in (
      rw c.put.ensures (simp length-set turn.invariant.0),
      keys_more c.args.w.now turn.v _ turn.r key.result turn.invariant.0 (omega arith) turn.invariant.1
          key.ensures c.put.ensures,
    )

pub returns : goal.returns
returns c = keys-all c.args.w.now c.loop-r.v _ (omega arith) c.loop-r.invariant.1

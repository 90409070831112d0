-- A round key more in each turn.
use lib.ListN.{replicate}
use Rattle.field.specs.Mixing.{word}
use Rattle.field.specs.Field.{◌⊕◌, xtimes}
use Rattle.aes_standard.specs.Schedule.{xpower, rcon}
use Rattle.field.proofs.Tables.{table}
use Rattle.std.proofs.Common.{◌+◌, arith, refl}
use Rattle.schedule.proofs.ScheduleLaws.{laid_first, laid_next, laid_all, with_constant}
use Rattle.schedule.proofs.expand.Goals as goal

pub loop-r-init : goal.loop-r-init
unfolding ◌⊕◌ xtimes xpower rcon word
loop-r-init c = (
  table 10 (λ k. rcon (k + 1)) _ refl tt,
  rw c.put.ensures (laid_first c.args.key.now
      (replicate 44 0) c.from-x.result refl c.from-x.ensures),
)

pub loop-r-preserved : goal.loop-r-preserved
loop-r-preserved c =
    let args = c.args in
    let turn = c.loop-r in
    let next = c.next-x in (
      turn.invariant.0,
      rw c.put-in-loop-r.ensures (laid_next args.key.now turn.w turn.r turn.x next.result (omega arith)
          (with_constant _ turn.r turn.x next.result turn.invariant.0 (omega arith) next.ensures)
          turn.invariant.1),
    )

pub returns : goal.returns
returns c =
    let turn = c.loop-r in
    laid_all c.args.key.now turn.w _ turn.x (omega arith) turn.invariant.1

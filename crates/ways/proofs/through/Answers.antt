-- A round more in each turn, and then the last one.
use Rattle.std.proofs.Common.{arith}
use Rattle.columns.specs.Words.{block_of}
use Rattle.ways.proofs.CipherLaws.{rounds-none, rounds_more, through_done}
use Rattle.ways.proofs.through.Goals as goal

pub loop-r-init : goal.loop-r-init
loop-r-init c = rounds-none c.args.t.now c.args.w.now (block_of c.add_round_key-x.result)

pub loop-r-preserved : goal.loop-r-preserved
loop-r-preserved c =
    rounds_more c.args.t.now c.args.w.now (block_of c.add_round_key-x.result) c.loop-r.r _ _ (block_of c.loop-r.x) _
    (omega arith) (omega arith) c.full-x.ensures c.loop-r.invariant

pub returns : goal.returns
returns c =
    let turn = c.loop-r in
    let args = c.args in
    through_done args.t.now args.u.now args.w.now (block_of args.block) (block_of c.add_round_key-x.result) _
    (block_of turn.x) (block_of c.last.result) (omega arith) c.add_round_key-x.ensures turn.invariant c.last.ensures

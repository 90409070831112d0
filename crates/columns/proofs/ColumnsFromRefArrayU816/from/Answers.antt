-- The columns from place 0 on, whose words are the block's.
use Rattle.columns.proofs.WordLaws.{loaded}
use Rattle.std.proofs.Common.{arith}
use Rattle.columns.proofs.ColumnsFromRefArrayU816.from.Goals as goal

pub returns : goal.returns
returns c =
    loaded c.args.block.now c.columns_at.result (omega arith) (omega arith) (omega arith) (omega arith)
    c.columns_at.ensures

-- `packed` puts the fields side by side.
use Rattle.std.proofs.Common.{◌%◌, arith}
use Rattle.coding.proofs.WordLaws.{side_by_side}
use Rattle.coding.proofs.packed.Goals as goal

pub returns : goal.returns
returns c =
    let a = c.args in
    side_by_side (a.op % 64) (a.a % 32) (a.b % 32) (a.low % 65536) (omega arith) (omega arith) (omega arith) (omega arith)

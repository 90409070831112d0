-- `cache::parts::bring` meets its promise.
use Rattle.std.proofs.Common.{◌*◌, arith}
use Rattle.sealing.specs.Lines.{drk_of, deciphered}
use Rattle.cache.proofs.PartsBack.{changed}
use Rattle.cache.proofs.Tagged.{brought_data, brought_plain}
use Rattle.cache.proofs.parts.bring.Goals as goal

pub returns-then-is_data : goal.returns-then-is_data
returns-then-is_data c =
    brought_data _ c.args.n c.args.slot _ c.args.mem.now c.args.cache.now _ _ _ c.is_data.ensures c.if-is_data.true (omega arith)
    (omega arith) c.copy_line.ensures
    (changed (deciphered (drk_of c.args.drk.high c.args.drk.low) (c.args.n * 64)) c.args.slot _ _ c.unseal.ensures)

pub returns-else-is_data : goal.returns-else-is_data
returns-else-is_data c = brought_plain _ _ _ _ _ _ _ _ c.is_data.ensures c.if-is_data.false c.copy_line.ensures

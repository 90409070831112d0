-- `bus::write_mac` meets its promise.
use Rattle.cache.proofs.PartsBack.{copied}
use Rattle.bus.proofs.Transfers.{mac-done}
use Rattle.bus.proofs.write_mac.Goals as goal

pub returns-clause-handles : goal.returns-clause-handles
returns-clause-handles c =
    mac-done c.args.n _ _ _ c.drop_line-k.ensures.does (copied _ 16 c.args.mac.now _ _ c.copy_from_slice.ensures.after)

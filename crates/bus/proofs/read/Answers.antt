-- `bus::read` meets its promise.
use Rattle.bus.proofs.Transfers.{read_done}
use Rattle.bus.proofs.read.Goals as goal

pub returns-clause-handles : goal.returns-clause-handles
returns-clause-handles c = read_done c.args.n _ _ _ c.drop_line-k.ensures.does _ c.load.ensures

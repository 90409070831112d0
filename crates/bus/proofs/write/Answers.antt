-- `bus::write` meets its promise.
use Rattle.model.specs.Lines.{put_line}
use Rattle.bus.proofs.Transfers.{write_done}
use Rattle.bus.proofs.write.Goals as goal

pub returns-clause-handles : goal.returns-clause-handles
unfolding put_line
returns-clause-handles c = write_done c.args.n _ _ _ c.drop_line-k.ensures.does c.save.ensures

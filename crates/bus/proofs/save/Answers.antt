-- `bus::save` meets its promise.
use Rattle.model.specs.Lines.{put_line}
use Rattle.cache.proofs.PartsBack.{copied}
use Rattle.bus.proofs.save.Goals as goal

pub returns : goal.returns
unfolding put_line
returns c = copied _ 64 c.args.line.now _ _ c.copy_from_slice.ensures.after

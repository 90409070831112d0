-- `cache::parts::copy_line` meets its promise.
use Rattle.cache.proofs.PartsBack.{line-copied}
use Rattle.cache.proofs.parts.copy_line.Goals as goal

pub returns : goal.returns
returns c = line-copied c.args.i c.args.j c.args.from.now c.args.to.now _ c.copy_from_slice.ensures.after

-- `cache::parts::wipe` meets its promise.
use Rattle.std.proofs.Common.{rules}
use Rattle.lists.specs.Bytes.{zeros}
use Rattle.cache.proofs.PartsBack.{wiped}
use Rattle.cache.proofs.parts.wipe.Goals as goal

pub returns : goal.returns
unfolding zeros
returns c = wiped c.args.i c.args.to.now _ (search rules)

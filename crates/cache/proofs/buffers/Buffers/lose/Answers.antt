-- `cache::buffers::Buffers::lose` meets its promise.
use Rattle.std.proofs.Common.{sym, ◌∙◌}
use Rattle.directory.specs.Direct.{direct}
use Rattle.cache.proofs.Everything.{loses_used, loses_free}
use Rattle.cache.proofs.buffers.Buffers.lose.Goals as goal

pub returns-then-used-clause-loses : goal.returns-then-used-clause-loses
unfolding direct
returns-then-used-clause-loses c = loses_used _ _ _ _ _ (sym c.used.ensures ∙ c.if-used.true) c.empty.ensures.emptied

pub returns-else-used-clause-loses : goal.returns-else-used-clause-loses
unfolding direct
returns-else-used-clause-loses c = loses_free _ _ _ (sym c.used.ensures ∙ c.if-used.false)

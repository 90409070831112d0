-- `cache::slots::written` meets its promise.
use Rattle.std.proofs.Common.{true, false}
use Rattle.cache.proofs.Tagged.{counts-written}
use Rattle.cache.proofs.slots.written.Goals as goal

pub returns-then-is_data : goal.returns-then-is_data
returns-then-is_data c = counts-written _ _ true c.is_data.ensures c.if-is_data.true

pub returns-else-is_data : goal.returns-else-is_data
returns-else-is_data c = counts-written _ _ false c.is_data.ensures c.if-is_data.false

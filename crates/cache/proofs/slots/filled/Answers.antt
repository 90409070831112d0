-- `cache::slots::filled` meets its promise.
use Rattle.std.proofs.Common.{true, false}
use Rattle.cache.proofs.Tagged.{counts_brought}
use Rattle.cache.proofs.slots.filled.Goals as goal

pub returns-then-is_checked : goal.returns-then-is_checked
returns-then-is_checked c = counts_brought _ _ true c.is_checked.ensures c.if-is_checked.true

pub returns-else-is_checked : goal.returns-else-is_checked
returns-else-is_checked c = counts_brought _ _ false c.is_checked.ensures c.if-is_checked.false

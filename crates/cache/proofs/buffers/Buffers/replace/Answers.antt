-- `cache::buffers::Buffers::replace` meets its promise.
use Rattle.std.proofs.Common.{arith}
use Rattle.directory.specs.Direct.{direct}
use Rattle.directory.proofs.DirectLaws.{direct_laws}
use Rattle.cache.proofs.Following.{small_bounded, does_then, evicted-fit, evicted-small, filled-small}
use Rattle.cache.proofs.buffers.Buffers.replace.Goals as goal

pub fill-f-requires-clause-fit : goal.fill-f-requires-clause-fit
fill-f-requires-clause-fit c =
    evicted-fit direct _ _ _ _ direct_laws c.requires.fit c.requires.slot_in_bounds.0 c.evict-k.ensures.does

pub add-requires-clause-filled_bound : goal.add-requires-clause-filled_bound
add-requires-clause-filled_bound c = small_bounded 1 _ (omega arith) (evicted-small direct _ _ _ _ c.evict-k.ensures.does)

pub add-requires-clause-filled_bound_2 : goal.add-requires-clause-filled_bound_2
add-requires-clause-filled_bound_2 c =
    small_bounded 1 _ (omega arith) (filled-small direct _ _ _ _ _ _ _ c.fill-f.ensures.does)

pub returns-clause-does : goal.returns-clause-does
returns-clause-does c = does_then _ _ _ _ _ _ _ _ c.evict-k.ensures.does c.fill-f.ensures.does c.add.ensures

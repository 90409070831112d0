-- `cache::buffers::Buffers::fill` meets its promise.
use Rattle.std.proofs.Common.{sym, ◌∙◌}
use Rattle.directory.specs.Direct.{direct}
use Rattle.cache.proofs.Evicting.{room}
use Rattle.cache.proofs.Filling.{fills_passed, fills_failed}
use Rattle.cache.proofs.buffers.Buffers.fill.Goals as goal

pub right-requires-clause-n_bound : goal.right-requires-clause-n_bound
right-requires-clause-n_bound c = (room _ _ _ c.requires.fit c.requires.slot_in_bounds.0 c.requires.slot_in_bounds.1).3

pub bring-requires-clause-n_bound : goal.bring-requires-clause-n_bound
bring-requires-clause-n_bound c = (room _ _ _ c.requires.fit c.requires.slot_in_bounds.0 c.requires.slot_in_bounds.1).3

pub put-requires : goal.put-requires
put-requires c =
    (c.requires.slot_in_bounds.0, (room _ _ _ c.requires.fit c.requires.slot_in_bounds.0 c.requires.slot_in_bounds.1).3)

pub returns-then-right-clause-does : goal.returns-then-right-clause-does
returns-then-right-clause-does c =
    fills_passed direct _ _ _ _ _ _ _ _ c.filled-counts.ensures (sym c.if-right.true ∙ c.right.ensures) c.bring.ensures
    c.put.ensures c.touch.ensures

pub returns-clause-does : goal.returns-clause-does
returns-clause-does c =
    rw (c.empty.ensures.lines.0, c.empty.ensures.lines.1)
    (fills_failed direct _ _ _ _ _ _ _ c.filled-counts.ensures (sym c.if-right.false ∙ c.right.ensures) c.empty.ensures.emptied)

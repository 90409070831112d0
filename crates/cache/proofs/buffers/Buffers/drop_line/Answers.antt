-- `cache::buffers::Buffers::drop_line` meets its promise.
use Rattle.std.proofs.Common.{sym, ◌∙◌, arith}
use Rattle.directory.specs.Direct.{direct}
use Rattle.directory.proofs.DirectLaws.{direct_laws}
use Rattle.cache.proofs.Dropping.{some_slot, choose-slot, drops_other, drops_held}
use Rattle.cache.proofs.buffers.Buffers.drop_line.Goals as goal

pub choose-slot-requires : goal.choose-slot-requires
choose-slot-requires c = some_slot _ c.requires.fit

pub offset_bounds-dir-slot : goal.offset_bounds-dir-slot
offset_bounds-dir-slot c =
    omega (arith, choose-slot direct _ _ _ c.choose-slot.ensures direct_laws c.requires.fit c.requires.n_in_bounds)

pub bounds-dir-slot : goal.bounds-dir-slot
bounds-dir-slot c = choose-slot direct _ _ _ c.choose-slot.ensures direct_laws c.requires.fit c.requires.n_in_bounds

pub returns-then-not-holds-clause-does : goal.returns-then-not-holds-clause-does
unfolding direct
returns-then-not-holds-clause-does c =
    rw c.none.ensures (drops_other direct _ _ _ c.choose-slot.ensures (sym c.holds.ensures ∙ c.if-not-holds.true))

pub evict-requires-clause-fit : goal.evict-requires-clause-fit
evict-requires-clause-fit c = c.requires.fit

pub evict-requires-clause-slot_in_bounds : goal.evict-requires-clause-slot_in_bounds
evict-requires-clause-slot_in_bounds c =
    choose-slot direct _ _ _ c.choose-slot.ensures direct_laws c.requires.fit c.requires.n_in_bounds

pub returns-clause-does : goal.returns-clause-does
unfolding direct
returns-clause-does c =
    drops_held direct _ _ _ c.choose-slot.ensures _ _ (sym c.holds.ensures ∙ c.if-not-holds.false) c.evict.ensures.does

-- `cache::buffers::Buffers::evict` meets its promise.
use Rattle.std.proofs.Common.{sym, ◌∙◌}
use Rattle.directory.specs.Direct.{direct}
use Rattle.cache.proofs.Evicting.{empty_clean, home-room, evicts_free, evicts_clean, evicts_dirty}
use Rattle.cache.proofs.buffers.Buffers.evict.Goals as goal

pub returns-then-not-used-clause-does : goal.returns-then-not-used-clause-does
unfolding direct
returns-then-not-used-clause-does c =
    let free = sym c.used.ensures ∙ c.if-not-used.true in
    rw c.none.ensures (evicts_free direct _ _ free (empty_clean _ _ c.requires.fit c.requires.slot_in_bounds free))

pub returns-then-not-dirty-clause-does : goal.returns-then-not-dirty-clause-does
unfolding direct
returns-then-not-dirty-clause-does c =
    let used = sym c.used.ensures ∙ c.if-not-used.false in
    let clean = sym c.dirty.ensures ∙ c.if-not-dirty.true in
    rw (c.none-then-not-dirty.ensures, c.empty.ensures.lines.0, c.empty.ensures.lines.1)
    (evicts_clean direct _ _ _ _ used clean c.empty.ensures.emptied)

pub write_back-requires-clause-n_in_bounds : goal.write_back-requires-clause-n_in_bounds
unfolding direct
write_back-requires-clause-n_in_bounds c =
    let used = sym c.used.ensures ∙ c.if-not-used.false in
    (home-room _ _ c.requires.fit c.requires.slot_in_bounds _ used c.line-n.ensures).0

pub write_back-requires-clause-n_in_bounds_2 : goal.write_back-requires-clause-n_in_bounds_2
unfolding direct
write_back-requires-clause-n_in_bounds_2 c =
    let used = sym c.used.ensures ∙ c.if-not-used.false in
    (home-room _ _ c.requires.fit c.requires.slot_in_bounds _ used c.line-n.ensures).1.0

pub write_back-requires-clause-n_bound : goal.write_back-requires-clause-n_bound
unfolding direct
write_back-requires-clause-n_bound c =
    let used = sym c.used.ensures ∙ c.if-not-used.false in
    (home-room _ _ c.requires.fit c.requires.slot_in_bounds _ used c.line-n.ensures).1.1.1

pub returns-clause-does : goal.returns-clause-does
unfolding direct
returns-clause-does c =
    let used = sym c.used.ensures ∙ c.if-not-used.false in
    let dirty = sym c.dirty.ensures ∙ c.if-not-dirty.false in
    let fits = (home-room _ _ c.requires.fit c.requires.slot_in_bounds _ used c.line-n.ensures).1.1.0 in
    rw (c.empty-2.ensures.lines.0, c.empty-2.ensures.lines.1)
    (evicts_dirty direct _ _ _ _ _ _ _ _ _ _ c.tag-tag.ensures c.line-n.ensures used dirty fits c.write_back.ensures
    c.empty-2.ensures.emptied c.written.ensures)

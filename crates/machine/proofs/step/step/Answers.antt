-- `machine::step::step` meets its promise.
use native.Mathlib.Omega.{arith}
use mathlib.Core.Path.{sym, ◌∙◌}
use Rattle.cache.proofs.Following.{small_bounded}
use Rattle.machine.proofs.Stepping.{err_fault, fetch_inside, data_inside, fetched-fit, grants-small, stepped}
use Rattle.machine.proofs.step.step.Goals as goal

pub fetch-got-requires-clause-inside : goal.fetch-got-requires-clause-inside
fetch-got-requires-clause-inside c =
    λ z. fetch_inside _ _ (omega (arith, c.requires.fit.mem))
    (sym (err_fault _ _ _ c.err.ensures.value c.fetch_fault-fetch.ensures) ∙ z)

pub access-data-requires-clause-fit : goal.access-data-requires-clause-fit
access-data-requires-clause-fit c =
    rw c.drk-drk.ensures
    (fetched-fit _ _ _ _ _ _ _ (err_fault _ _ _ c.err.ensures.value c.fetch_fault-fetch.ensures) c.requires.fit
    (rw c.drk-drk.ensures at c.fetch-got.ensures.finds))

pub access-data-requires-clause-inside : goal.access-data-requires-clause-inside
access-data-requires-clause-inside c =
    rw (c.unwrap_or.ensures, c.fetch-got.ensures.same.0.1)
    (data_inside _ _ _ _ _ (omega (arith, c.requires.fit.mem)) c.decide-wish.ensures)

pub add-counts-requires-clause-filled_bound : goal.add-counts-requires-clause-filled_bound
add-counts-requires-clause-filled_bound c =
    small_bounded _ _ (omega (arith, c.well_formed)) (grants-small _ _ _ _ _ _ c.fetch-got.ensures.finds)

pub add-counts-requires-clause-filled_bound_2 : goal.add-counts-requires-clause-filled_bound_2
add-counts-requires-clause-filled_bound_2 c =
    small_bounded _ _ (omega (arith, c.well_formed, c.fetch-got.ensures.same))
    (grants-small _ _ _ _ _ _ c.access-data.ensures.finds.grants)

pub returns-clause-steps : goal.returns-clause-steps
returns-clause-steps c =
    stepped _ _ c.args.buffers.now _ _ c.fetch-got.new.buffers _ _ c.access-data.new.buffers _ _ _ _
    (err_fault _ _ _ c.err.ensures.value c.fetch_fault-fetch.ensures)
    (rw c.drk-drk.ensures at c.fetch-got.ensures.finds) c.decide-wish.ensures
    (rw (c.unwrap_or.ensures, c.drk-drk.ensures) at c.access-data.ensures.finds) c.add-counts.ensures
    c.finish-end.ensures

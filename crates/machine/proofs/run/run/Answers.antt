-- `machine::run::run` meets its promise.
use Prim.Native.Nat.{◌*◌}
use native.Mathlib.Omega.{arith}
use Rattle.cache.proofs.Following.{small_bounded}
use Rattle.machine.proofs.Serving.{fault_none, fault_some}
use Rattle.machine.proofs.Running.{step_small, going_none, going_more, going_stops, going_all}
use Rattle.machine.proofs.run.run.Goals as goal

pub loop-i-init : goal.loop-i-init
loop-i-init c =
    (search, rw c.none-counts.ensures (going_none _ _ c.requires.fit))

pub step-x-requires-clause-in_bounds : goal.step-x-requires-clause-in_bounds
step-x-requires-clause-in_bounds c = omega (arith, c.loop-i.invariant.0, c.requires.in_bounds)

pub step-x-requires-clause-fit : goal.step-x-requires-clause-fit
step-x-requires-clause-fit c = c.loop-i.invariant.1.fit

pub add-counts-requires-clause-filled_bound : goal.add-counts-requires-clause-filled_bound
add-counts-requires-clause-filled_bound c =
    small_bounded (c.loop-i.i * 130) _ (omega (arith, c.requires.in_bounds, c.loop-i-test.true))
    c.loop-i.invariant.1.small

pub add-counts-requires-clause-filled_bound_2 : goal.add-counts-requires-clause-filled_bound_2
add-counts-requires-clause-filled_bound_2 c =
    small_bounded 130 _ (omega arith)
    (step_small _ _ _ _ c.loop-i.invariant.1.fit (omega (arith, c.loop-i.invariant.0, c.requires.in_bounds))
    c.step-x.ensures.steps)

pub loop-i-preserved : goal.loop-i-preserved
loop-i-preserved c = (
  search,
  going_more _ _ _ _ _ _ _ _ _ c.loop-i-test.true
      (omega (arith, c.loop-i.invariant.0, c.requires.in_bounds)) c.loop-i.invariant.1 c.step-x.ensures.steps
      c.add-counts.ensures (fault_none _ c.if-is_some.ensures),
)

pub returns-then-is_some-clause-runs : goal.returns-then-is_some-clause-runs
returns-then-is_some-clause-runs c =
    going_stops _ _ _ _ _ _ _ _ _ c.loop-i-test.true
    (omega (arith, c.loop-i.invariant.0, c.requires.in_bounds)) c.loop-i.invariant.1 c.step-x.ensures.steps
    c.add-counts.ensures (fault_some _ c.if-is_some.ensures)

pub returns-clause-runs : goal.returns-clause-runs
returns-clause-runs c = going_all _ _ _ _ _ (omega (arith, c.loop-i-test.false, c.loop-i.auto)) c.loop-i.invariant.1

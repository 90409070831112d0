-- `host::running::run` meets its promise.
use Rattle.std.proofs.Common.{refl}
use Rattle.instructions.specs.Calls.{run, buffer_of, call_flaws, accepted}
use Rattle.machine.specs.Lent.{given}
use Rattle.host.proofs.Refusing.{refusal-leaves, accepts}
use Rattle.host.proofs.Accepting.{run-asks, run_leaves}
use Rattle.host.proofs.running.run.Goals as goal

pub returns-in-Err-clause-leaves : goal.returns-in-Err-clause-leaves
unfolding buffer_of call_flaws
returns-in-Err-clause-leaves c =
    refusal-leaves _ _ c.steps-own.ensures c.refusal_on.ensures c.in-Err.is c.refused.ensures refl

pub run-x-requires : goal.run-x-requires
unfolding call_flaws
run-x-requires c =
    let j = accepts (run c.args.n) (given c.args.p c.args.buffers.now) c.steps-own.ensures c.refusal_on.ensures c.in_default.is in
    let asked = run-asks j _ refl in
    record { in_bounds = asked.0; fit = asked.1 }

pub returns-clause-leaves : goal.returns-clause-leaves
unfolding accepted call_flaws
returns-clause-leaves c =
    let j = accepts (run c.args.n) (given c.args.p c.args.buffers.now) c.steps-own.ensures c.refusal_on.ensures c.in_default.is in
    run_leaves j _ _ refl (rw c.number_of.ensures c.run-x.ensures.runs)

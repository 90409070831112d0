-- `host::running::interrupt` meets its promise.
use Rattle.std.proofs.Common.{refl}
use Rattle.model.specs.Cached.{cached}
use Rattle.instructions.specs.Calls.{interrupt, buffer_of, call_flaws, accepted, cached_setup}
use Rattle.machine.specs.Lent.{given}
use Rattle.host.proofs.Refusing.{refusal-leaves, accepts}
use Rattle.host.proofs.Accepting.{changed_leaves}
use Rattle.host.proofs.running.interrupt.Goals as goal

pub returns-in-Err-clause-leaves : goal.returns-in-Err-clause-leaves
unfolding buffer_of call_flaws
returns-in-Err-clause-leaves c =
    refusal-leaves _ _ refl c.refusal_on.ensures c.in-Err.is c.refused.ensures refl

pub returns-clause-leaves : goal.returns-clause-leaves
unfolding accepted cached_setup cached call_flaws
returns-clause-leaves c =
    let j = accepts (interrupt) (given c.args.p c.args.buffers.now) refl c.refusal_on.ensures c.in_default.is in
    changed_leaves j c.done.ensures c.enter-s.ensures refl c.none.ensures refl

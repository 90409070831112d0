-- `host::restarts::reboot` meets its promise.
use Rattle.std.proofs.Common.{[], refl}
use Rattle.model.specs.Requests as asks
use Rattle.instructions.specs.Calls.{reboot, buffer_of, call_flaws, accepted}
use Rattle.machine.specs.Lent.{given}
use Rattle.host.proofs.Refusing.{refusal-leaves, accepts}
use Rattle.host.proofs.Accepting.{fit, asked_leaves, flush_handles}
use Rattle.host.proofs.restarts.reboot.Goals as goal

pub returns-in-Err-clause-leaves : goal.returns-in-Err-clause-leaves
unfolding buffer_of call_flaws
returns-in-Err-clause-leaves c =
    refusal-leaves _ _ refl c.refusal_on.ensures c.in-Err.is c.refused.ensures refl

pub evict_all-k-requires : goal.evict_all-k-requires
unfolding call_flaws
evict_all-k-requires c =
    let j = accepts (reboot) (given c.args.p c.args.buffers.now) refl c.refusal_on.ensures c.in_default.is in
    rw c.drk.ensures (fit j)

pub returns-clause-leaves : goal.returns-clause-leaves
unfolding accepted call_flaws
returns-clause-leaves c =
    let j = accepts (reboot) (given c.args.p c.args.buffers.now) refl c.refusal_on.ensures c.in_default.is in
    asked_leaves j c.done.ensures c.cleared.ensures asks.write_back (λ _. []) refl
    (flush_handles (rw c.drk.ensures at c.evict_all-k.ensures.does))

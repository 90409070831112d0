-- `host::dropping::evict_line` meets its promise.
use Rattle.std.proofs.Common.{[], refl}
use Rattle.model.specs.Requests as asks
use Rattle.instructions.specs.Refusals.{line_flaws}
use Rattle.instructions.specs.Calls.{evict_line, buffer_of, call_flaws, accepted}
use Rattle.machine.specs.Lent.{given}
use Rattle.host.proofs.Refusing.{refusal-leaves, accepts}
use Rattle.host.proofs.Accepting.{fit, line-asks, same_record, asked_leaves, evict_handles}
use Rattle.host.proofs.dropping.evict_line.Goals as goal

pub returns-in-Err-clause-leaves : goal.returns-in-Err-clause-leaves
unfolding buffer_of call_flaws line_flaws
returns-in-Err-clause-leaves c =
    refusal-leaves _ _ c.line-own.ensures c.refusal_on.ensures c.in-Err.is c.refused.ensures refl

pub drop_line-requires : goal.drop_line-requires
unfolding call_flaws line_flaws
drop_line-requires c =
    let j = accepts (evict_line c.args.n) (given c.args.p c.args.buffers.now) c.line-own.ensures c.refusal_on.ensures c.in_default.is in
    rw c.drk.ensures (record { fit = fit j; n_in_bounds = (line-asks j _ [] refl).0 })

pub returns-clause-leaves : goal.returns-clause-leaves
unfolding accepted call_flaws line_flaws
returns-clause-leaves c =
    let j = accepts (evict_line c.args.n) (given c.args.p c.args.buffers.now) c.line-own.ensures c.refusal_on.ensures c.in_default.is in
    asked_leaves j c.done.ensures (same_record c.args.p) (asks.evict c.args.n) (λ _. []) refl
    (evict_handles (rw c.drk.ensures at c.drop_line.ensures.does))

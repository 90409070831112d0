-- `host::transfers::bus_write_mac` meets its promise.
use Rattle.std.proofs.Common.{refl}
use Rattle.model.specs.Requests as asks
use Rattle.instructions.specs.Refusals.{buffer_flaws}
use Rattle.instructions.specs.Calls.{bus_mac, buffer_of, call_flaws, accepted}
use Rattle.machine.specs.Lent.{given}
use Rattle.host.proofs.Refusing.{refusal-leaves, accepts}
use Rattle.host.proofs.Accepting.{transfer_asks, same_record, asked_leaves}
use Rattle.host.proofs.transfers.bus_write_mac.Goals as goal

pub returns-in-Err-clause-leaves : goal.returns-in-Err-clause-leaves
unfolding buffer_of call_flaws buffer_flaws
returns-in-Err-clause-leaves c =
    refusal-leaves _ _ c.transfer-own.ensures c.refusal_on.ensures c.in-Err.is c.refused.ensures refl

pub write_mac-requires : goal.write_mac-requires
unfolding call_flaws buffer_flaws
write_mac-requires c =
    let j = accepts (bus_mac c.args.n c.args.mac.now) (given c.args.p c.args.buffers.now) c.transfer-own.ensures c.refusal_on.ensures c.in_default.is in
    let asked = transfer_asks j c.args.n 16 c.args.mac.now refl in
    rw c.drk.ensures (record { fit = asked.0; n_in_bounds = asked.1 })

pub returns-clause-leaves : goal.returns-clause-leaves
unfolding accepted call_flaws buffer_flaws
returns-clause-leaves c =
    let j = accepts (bus_mac c.args.n c.args.mac.now) (given c.args.p c.args.buffers.now) c.transfer-own.ensures c.refusal_on.ensures c.in_default.is in
    asked_leaves j c.done.ensures (same_record c.args.p) (asks.bus_mac c.args.n c.args.mac.now) (λ _. c.args.mac.now) refl
    (rw c.drk.ensures at c.write_mac.ensures.handles)

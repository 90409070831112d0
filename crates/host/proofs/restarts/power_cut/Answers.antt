-- `host::restarts::power_cut` meets its promise.
use Rattle.std.proofs.Common.{refl}
use Rattle.model.specs.Cached.{cached}
use Rattle.instructions.specs.Board.{document_board}
use Rattle.instructions.specs.Calls.{power_cut, buffer_of, call_flaws, accepted, cached_setup}
use Rattle.machine.specs.Lent.{given}
use Rattle.host.proofs.Refusing.{refusal-leaves, accepts}
use Rattle.host.proofs.Accepting.{fit, changed_leaves}
use Rattle.host.proofs.restarts.power_cut.Goals as goal

pub returns-in-Err-clause-leaves : goal.returns-in-Err-clause-leaves
unfolding buffer_of call_flaws
returns-in-Err-clause-leaves c =
    refusal-leaves _ _ refl c.refusal_on.ensures c.in-Err.is c.refused.ensures refl

pub lose_all-requires : goal.lose_all-requires
unfolding call_flaws
lose_all-requires c =
    let j = accepts (power_cut) (given c.args.p c.args.buffers.now) refl c.refusal_on.ensures c.in_default.is in
    (fit j).cache

pub returns-clause-leaves : goal.returns-clause-leaves
unfolding accepted cached_setup cached document_board call_flaws
returns-clause-leaves c =
    let j = accepts (power_cut) (given c.args.p c.args.buffers.now) refl c.refusal_on.ensures c.in_default.is in
    let cut = c.lose_all.ensures in
    changed_leaves j c.done.ensures c.cleared.ensures refl c.none.ensures
    (rw (cut.lines.0, cut.lines.1) (cut.loses.left _ _ _))

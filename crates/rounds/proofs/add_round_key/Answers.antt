-- `rounds::add_round_key` meets its promise.
use Rattle.rounds.proofs.RoundLaws.{key-added}
use mathlib.Core.Path.{◌∙◌}
use Rattle.rounds.proofs.add_round_key.Goals as goal

pub returns : goal.returns
returns c =
    let args = c.args in
    c.bitxor.ensures ∙ key-added args.w.now args.r args.x c.round_key.result
    c.round_key.ensures

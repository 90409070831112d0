-- Each column is the sum of the shares on its diagonal.
use Rattle.rounds.proofs.RoundLaws.{full_round}
use Rattle.std.proofs.Common.{rules, ◌≡◌}
use Rattle.field.specs.Field.{◌⊕◌}
use Rattle.columns.specs.Words.{shared_word}
use Rattle.rounds.proofs.full.Goals as goal

pub returns : goal.returns
returns c =
    let args = c.args in
    let x = c.args.x in
    let z = c.each.result in
    let key = c.round_key in
    let k = key.result in
    let a : z.a ≡ shared_word args.t.now x.a x.b x.c x.d ⊕ k.a = search rules in
    let b : z.b ≡ shared_word args.t.now x.b x.c x.d x.a ⊕ k.b = search rules in
    let d : z.c ≡ shared_word args.t.now x.c x.d x.a x.b ⊕ k.c = search rules in
    let e : z.d ≡ shared_word args.t.now x.d x.a x.b x.c ⊕ k.d = search rules in
    rw (a, b, d, e)
    (full_round args.t.now args.w.now args.r args.x key.result key.ensures)

-- Each column is the word of the bytes on its diagonal, substituted.
use Rattle.rounds.proofs.RoundLaws.{last-round}
use Rattle.std.proofs.Common.{rules, ◌≡◌}
use Rattle.field.specs.Field.{◌⊕◌}
use Rattle.columns.specs.Words.{lowest_word}
use Rattle.rounds.proofs.last.Goals as goal

pub returns : goal.returns
returns c =
    let args = c.args in
    let x = c.args.x in
    let z = c.each.result in
    let key = c.round_key in
    let k = key.result in
    let a : z.a ≡ lowest_word args.u.now x.a x.b x.c x.d ⊕ k.a = search rules in
    let b : z.b ≡ lowest_word args.u.now x.b x.c x.d x.a ⊕ k.b = search rules in
    let d : z.c ≡ lowest_word args.u.now x.c x.d x.a x.b ⊕ k.c = search rules in
    let e : z.d ≡ lowest_word args.u.now x.d x.a x.b x.c ⊕ k.d = search rules in
    rw (a, b, d, e)
    (last-round args.u.now args.w.now args.x key.result key.ensures)

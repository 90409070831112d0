-- Each entry stands at a byte, below the table's end.
use Rattle.rounds.proofs.RoundLaws.{entry_at}
use Rattle.std.proofs.Common.{rules, ◌≡◌, ◌∷◌, [], length, refl}
use Rattle.aes_standard.proofs.WordBytes.{byte_of-last}
use Rattle.aes_standard.specs.State.{byte_of}
use Rattle.rounds.proofs.diagonal.Goals as goal

pub returns : goal.returns
unfolding byte_of
returns g c e i =
    let size : length c.args.t.now ≡ 256 = search rules in
    let t = c.args.t.now in
    let x = c.args.x in
    entry_at t _ 0 x.a c.index-t-to_be_bytes.result e size c.to_be_bytes.ensures refl i ∷ entry_at t _ 1 x.b c.index-t-to_be_bytes-2.result e size c.to_be_bytes-2.ensures refl i
    ∷ entry_at t _ 2 x.c c.index-t-to_be_bytes-3.result e size c.to_be_bytes-3.ensures refl i
    ∷ entry_at t _ 3 x.d c.index-t-to_be_bytes-4.result e size c.to_be_bytes-4.ensures (byte_of-last x.d) i ∷ []

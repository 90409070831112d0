-- The first word takes the fourth one, turned and substituted; each other one takes the word before it.
use mathlib.Core.Path.{refl, ap}
use Prim.Native.Nat.{ℕ}
use lib.Bits.{bit_xor}
use Rattle.field.specs.Field.{◌⊕◌}
use Rattle.schedule.proofs.ScheduleLaws.{fourth_part}
use Rattle.schedule.proofs.next.Goals as goal

pub returns : goal.returns
unfolding ◌⊕◌
returns c =
    let args = c.args in
    record {
      first = ap (λ (z : ℕ). bit_xor args.x.a z)
          (fourth_part args.t.now.entries args.x.d c.turn.result args.rcon c.substituted.result
          args.t.now.rule c.turn.ensures (rw c.alike.ensures at c.substituted.ensures));
      second = refl;
      third = refl;
      fourth = refl;
    }

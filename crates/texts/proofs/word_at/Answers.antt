-- The word of the eight bytes that were copied.
use mathlib.Core.Path.{◌≡◌, ap, ◌∙◌}
use Prim.Native.Nat.{ℕ, ◌+◌, ◌-◌}
use native.Mathlib.Omega.{arith}
use Rattle.std.specs.Int.{w64, from_be_bytes}
use Rattle.lists.specs.Parts.{part_at}
use Rattle.lists.proofs.PartLaws.{length_part}
use Rattle.texts.proofs.TextLaws.{word-is}
use Rattle.texts.proofs.word_at.Goals as goal

pub returns : goal.returns
unfolding part_at
returns c =
    let size : c.args.k + 8 - c.args.k ≡ 8 = omega arith in
    c.from_be_bytes.ensures
    ∙ ap (from_be_bytes w64) (c.copy_from_slice.ensures.after ∙ ap (λ (n : ℕ). part_at c.args.k n c.args.s.now) size)
    ∙ word-is (part_at c.args.k 8 c.args.s.now) (length_part c.args.k 8 c.args.s.now c.requires)

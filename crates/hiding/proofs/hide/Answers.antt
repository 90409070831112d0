-- Behind the last register all are hidden.
use mathlib.Core.Path.{ap, ◌∙◌}
use mathlib.Core.List.{List}
use Prim.Native.Nat.{ℕ}
use native.Mathlib.Omega.{arith}
use borrow.Author.Rules.{rules}
use Rattle.lists.specs.Words.{xored_behind}
use Rattle.hiding.proofs.RegisterLaws.{hidden-all}
use Rattle.hiding.proofs.hide.Goals as goal

pub returns : goal.returns
returns c =
    hidden-all c.loop-i.i _ c.args.r _ (omega arith) (search rules) c.loop-i.invariant
    ∙ ap (λ (s : List ℕ). xored_behind 8 s c.args.r) c.key_stream-s.ensures

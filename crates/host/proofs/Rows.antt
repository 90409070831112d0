-- A truth value as a number of the listing's row.
use mathlib.Core.Path.{◌≡◌, refl}
use mathlib.Core.Bool.{Bool, true, false}
use mir.Val.{bool_byte}
use Rattle.lists.specs.If.{if}

pub one_or_none : (b : Bool) → bool_byte b ≡ if b 1 0
one_or_none true = refl
one_or_none false = refl

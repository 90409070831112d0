-- `registers::special::gr_get` meets its promise where only one word is within the four.
use Rattle.std.proofs.Common.{refl}
use Rattle.registers.proofs.special.gr_get.Goals as goal

pub returns-in-3 : goal.returns-in-3
returns-in-3 c = rw (← c.sel.ensures, c.in-3.is) (record { record' = λ regs. refl; key' = refl })

-- The number of a slot that is to serve, and whether a fault is there.
use Prim.Native.Nat.{ℕ, ◌/◌, ◌<◌}
use mathlib.Core.Path.{◌≡◌, refl, sym}
use mathlib.Core.Bool.{true, false, true≢false}
use Rattle.std.specs.Prelude.{Option, Some, None, is_some}
use Rattle.answers.specs.declared.faults.Fault.{Fault}
use Rattle.answers.specs.Numbers.{fault_in}
use lib.ListN.{length, get_or}
use Rattle.model.specs.Cached.{Cached}
use Rattle.directory.specs.Numbers.{is_number}
use Rattle.directory.proofs.NumberLaws.{fine-number}
use Rattle.directory.proofs.DirectLaws.{direct_laws}
use Rattle.cache.specs.Lent.{Fit}
use Rattle.registers.proofs.Decoding.{fault_number_some}

-- a slot of a fit directory has a directory number
pub slot-number : (s : Cached) (p : ℕ) → Fit s → p < length s.dir → is_number (get_or s.dir p 0) ≡ true
unfolding direct_laws
slot-number s p F hp = fine-number (length s.mem / 64) (length s.dir) p (get_or s.dir p 0)
    (F.orderly.numbers p hp)

-- whether a fault is there is whether its number is not 0
pub fault_none : (f : Option Fault) → false ≡ is_some f → fault_in f ≡ 0
fault_none None h = refl
fault_none (Some f) h = absurd (true≢false (sym h))

pub fault_some : (f : Option Fault) → true ≡ is_some f → fault_in f ≡ 0 → ⊥
fault_some None h = absurd (true≢false h)
fault_some (Some f) h = fault_number_some f

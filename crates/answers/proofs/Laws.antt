-- A fault's number and a refusal's are not 0, which stands for none.
use Rattle.std.proofs.Common.{◌≢◌, arith}
use Rattle.answers.specs.declared.faults.Fault.{Fault}
use Rattle.answers.specs.declared.faults.Fault.TheVariants as fault
use Rattle.answers.specs.declared.refusals.Refusal.{Refusal}
use Rattle.answers.specs.declared.refusals.Refusal.TheVariants as refusal
use Rattle.answers.specs.Numbers.{fault_number, refusal_number}

pub fault_some : (f : Fault) → fault_number f ≢ 0
fault_some fault.DrkLocked = omega arith
fault_some fault.ActiveModeNeeded = omega arith
fault_some fault.OutsideNormalMode = omega arith
fault_some fault.CodeLineWrong = omega arith
fault_some fault.DataLineWrong = omega arith
fault_some fault.RegisterHashWrong = omega arith
fault_some fault.NotOnThisProcessor = omega arith
fault_some fault.RestoreRefused = omega arith
fault_some fault.NotAligned = omega arith
fault_some fault.BeyondMemory = omega arith
fault_some fault.UndefinedOpcode = omega arith

pub refusal_some : (r : Refusal) → refusal_number r ≢ 0
refusal_some refusal.MemorySize = omega arith
refusal_some refusal.MacAreaSize = omega arith
refusal_some refusal.CacheSize = omega arith
refusal_some refusal.DirectoryNumber = omega arith
refusal_some refusal.Record = omega arith
refusal_some refusal.NoSuchLine = omega arith
refusal_some refusal.BufferSize = omega arith
refusal_some refusal.TooManySteps = omega arith
refusal_some refusal.MacWrong = omega arith
refusal_some refusal.RowSize = omega arith

-- Document 01's numbers of the faults and the refusals; 0 is none.
use Rattle.std.specs.Prelude.{ℕ, ◌≡◌, ◌≢◌, Option, Some, None, Result, Ok, Err, MatchResult, List, ◌++◌, codes}
use Rattle.std.specs.Fmt.{decimal}
use Rattle.answers.specs.declared.faults.Fault.{Fault}
use Rattle.answers.specs.declared.faults.Fault.TheVariants as fault
use Rattle.answers.specs.declared.faults.NoFault.{NoFault}
use Rattle.answers.specs.declared.refusals.Refusal.{Refusal}
use Rattle.answers.specs.declared.refusals.Refusal.TheVariants as refusal
use Rattle.answers.specs.declared.refusals.NoRefusal.{NoRefusal}

-- the number of a fault
abbrev pub fault_number : Fault → ℕ
fault_number fault.DrkLocked = 1
fault_number fault.ActiveModeNeeded = 2
fault_number fault.OutsideNormalMode = 3
fault_number fault.CodeLineWrong = 4
fault_number fault.DataLineWrong = 5
fault_number fault.RegisterHashWrong = 6
fault_number fault.NotOnThisProcessor = 7
fault_number fault.RestoreRefused = 8
fault_number fault.NotAligned = 9
fault_number fault.BeyondMemory = 10
fault_number fault.UndefinedOpcode = 11

-- the number of a fault that may be there
abbrev pub fault_in : Option Fault → ℕ
fault_in None = 0
fault_in (Some f) = fault_number f

-- the number of the fault in place of an answer
abbrev pub fault_of : {A : Type 0} → Result A Fault → ℕ
fault_of (Ok x) = 0
fault_of (Err f) = fault_number f

-- the number of a refusal
abbrev pub refusal_number : Refusal → ℕ
refusal_number refusal.MemorySize = 101
refusal_number refusal.MacAreaSize = 102
refusal_number refusal.CacheSize = 103
refusal_number refusal.DirectoryNumber = 104
refusal_number refusal.Record = 105
refusal_number refusal.NoSuchLine = 106
refusal_number refusal.BufferSize = 107
refusal_number refusal.TooManySteps = 108
refusal_number refusal.MacWrong = 109
refusal_number refusal.RowSize = 110

-- the number of the refusal in place of an answer
abbrev pub refusal_in : {A : Type 0} → Result A Refusal → ℕ
refusal_in (Ok x) = 0
refusal_in (Err r) = refusal_number r

-- the name of a fault
abbrev pub fault_name : Fault → List ℕ
fault_name fault.DrkLocked = codes "DRK locked"
fault_name fault.ActiveModeNeeded = codes "active mode needed"
fault_name fault.OutsideNormalMode = codes "begin_cem.a outside normal mode"
fault_name fault.CodeLineWrong = codes "code line's MAC or place wrong"
fault_name fault.DataLineWrong = codes "data line's MAC wrong"
fault_name fault.RegisterHashWrong = codes "register hash wrong"
fault_name fault.NotOnThisProcessor = codes "not on this processor"
fault_name fault.RestoreRefused = codes "restore refused"
fault_name fault.NotAligned = codes "address not aligned"
fault_name fault.BeyondMemory = codes "address beyond memory"
fault_name fault.UndefinedOpcode = codes "undefined opcode"

-- a fault as it is printed: its number, and its name in brackets
abbrev pub fault_text : Fault → List ℕ
fault_text f = decimal (fault_number f) ++ codes " (" ++ fault_name f ++ codes ")"

-- the fault with this number, or that no fault has it
abbrev pub IsFault : ℕ → Result Fault NoFault → Type 0
IsFault n r = MatchResult r (λ f. fault_number f ≡ n) (λ e. (e.0 ≡ n) × ((f : Fault) → fault_number f ≢ n))

-- the name of a refusal
abbrev pub refusal_name : Refusal → List ℕ
refusal_name refusal.MemorySize = codes "memory size"
refusal_name refusal.MacAreaSize = codes "MAC area size"
refusal_name refusal.CacheSize = codes "cache size"
refusal_name refusal.DirectoryNumber = codes "directory number"
refusal_name refusal.Record = codes "record"
refusal_name refusal.NoSuchLine = codes "no such line"
refusal_name refusal.BufferSize = codes "transfer buffer size"
refusal_name refusal.TooManySteps = codes "more than 10000 steps"
refusal_name refusal.MacWrong = codes "MAC wrong"
refusal_name refusal.RowSize = codes "listing row size"

-- a refusal as it is printed: its number, and its name in brackets
abbrev pub refusal_text : Refusal → List ℕ
refusal_text f = decimal (refusal_number f) ++ codes " (" ++ refusal_name f ++ codes ")"

-- the refusal with this number, or that no refusal has it
abbrev pub IsRefusal : ℕ → Result Refusal NoRefusal → Type 0
IsRefusal n r = MatchResult r (λ f. refusal_number f ≡ n) (λ e. (e.0 ≡ n) × ((f : Refusal) → refusal_number f ≢ n))

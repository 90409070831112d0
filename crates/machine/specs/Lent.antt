-- What is lent to a run and to every call of the host, as one value: the record and the four buffers.
use Rattle.std.specs.Prelude.{ℕ, List}
use Rattle.std.specs.Borrow.{MutBor}
use denote.Triple.Both.{Both}
use Rattle.model.specs.Cached.{Cached}
use Rattle.instructions.specs.Calls.{Machine}
use Rattle.registers.specs.declared.record.Processor.{Processor}
use Rattle.machine.specs.Steps.{machine_of}
use Rattle.cache.specs.declared.buffers.Buffers.{Buffers}

-- the record and the four buffers, as they stand before or after a call
pub record Lent : Type 0 where
  pub processor : Processor
  pub mem : List ℕ
  pub macs : List ℕ
  pub cache : List ℕ
  pub dir : List ℕ

-- the machine that they are; its DRK goes with the memory
abbrev pub machine_in : Lent → Machine Cached
machine_in l = machine_of l.processor.r l.processor.special l.mem l.macs l.cache l.dir

-- a record and four buffers
abbrev pub handed : Processor → List ℕ → List ℕ → List ℕ → List ℕ → Lent
handed p mem macs cache dir =
    record { processor = p; mem = mem; macs = macs; cache = cache; dir = dir }

-- the same of the four buffers as one value
abbrev pub given : Processor → Buffers → Lent
given p b = handed p b.mem.now b.macs.now b.cache.now b.dir.now

-- a lent slice, on entry and at exit
abbrev pub Slice : Type 0
Slice = Both (MutBor (List ℕ)) (MutBor (List ℕ))

-- what a call finds in its slices, beside a record
abbrev pub before : Processor → Slice → Slice → Slice → Slice → Lent
before p mem macs cache dir = handed p mem.entry.now macs.entry.now cache.entry.now dir.entry.now

-- what it leaves in them
abbrev pub after : Processor → Slice → Slice → Slice → Slice → Lent
after p mem macs cache dir = handed p mem.exit.now macs.exit.now cache.exit.now dir.exit.now

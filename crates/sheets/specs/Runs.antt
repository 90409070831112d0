-- The cold run and the warm run, on the machine of document 01 with a cache.
use Rattle.std.specs.Prelude.{ℕ}
use Rattle.model.specs.Cached.{Cached}
use Rattle.instructions.specs.Record.{Processor, keeping}
use Rattle.instructions.specs.Calls.{run, power_cut, Machine, Result}
use Rattle.registers.specs.declared.record.Processor as code
use Rattle.registers.specs.Map.{processor_of, key_of}
use Rattle.registers.specs.Effects.{Holds}
use Rattle.host.specs.Outcome.{result_of}

-- the cache emptied by a power cut, and the record as it was given
unfoldable pub emptied : Machine Cached → Machine Cached
emptied m = record { processor = m.processor; memory = (result_of power_cut m).machine.memory }

-- the cold run: at most n instructions from an empty cache
unfoldable pub cold_run : ℕ → Machine Cached → Result Cached
cold_run n m = result_of (run n) (emptied m)

-- the record to start from again: as it was given, but for what every restart keeps (the SRH, and the DRK, which is the
-- memory's)
abbrev pub start_again : Processor → Processor → Processor
start_again r left = keeping left r

-- the same start again, on what a run left of a machine
unfoldable pub again : {S : Type 0} → Processor → Machine S → Machine S
again r m = record { processor = start_again r m.processor; memory = m.memory }

-- the warm run: the same run again, with the cache as the cold run left it
unfoldable pub warm_run : ℕ → Machine Cached → Result Cached
warm_run n m = result_of (run n) (again m.processor (cold_run n m).machine)

-- the same start again, as the code's record p, with what a run left of it
abbrev pub StartsAgain : code.Processor → code.Processor → code.Processor → Type 0
StartsAgain p left start =
    Holds (start_again (processor_of p.r p.special) (processor_of left.r left.special)) (key_of left.special)
    start.r start.special

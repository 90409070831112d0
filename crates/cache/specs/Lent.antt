-- How the code's values are read: the lent buffers with the key as a cached memory, the four counts.
use Rattle.std.specs.Prelude.{ℕ, ◌/◌, List, length}
use Rattle.model.specs.Log as log
use Rattle.model.specs.Placement.{Placement}
use Rattle.model.specs.PlacementLaws.{PlacementLaws}
use Rattle.model.specs.Cached.{Cached}
use Rattle.directory.specs.Direct.{direct}
use Rattle.directory.proofs.DirectLaws.{direct_laws}
use Rattle.keeps.specs.Good.{Good}
use Rattle.sealing.specs.Lines.{drk_of}
use Rattle.cache.specs.declared.slots.Counts.{Counts}

-- the memory that is lent, under the DRK in two words, the high one first
abbrev pub lent : ℕ → ℕ → List ℕ → List ℕ → List ℕ → List ℕ → Cached
lent hi lo mem macs cache dir = record { key = drk_of hi lo; mem = mem; macs = macs; cache = cache; dir = dir }

-- the four counts
abbrev pub counts_in : Counts → log.Counts
counts_in k = record { filled = k.filled; written = k.written; checked = k.checked; made = k.made }

-- a memory in good order at the sizes that it has, under a placement
abbrev pub FitAt : (P : Placement) → PlacementLaws P → Cached → Type 0
FitAt P L s = Good P L (length s.mem / 64) (length s.dir) s

-- what refusals 101 to 104 let pass
abbrev pub Fit : Cached → Type 0
Fit s = FitAt direct direct_laws s

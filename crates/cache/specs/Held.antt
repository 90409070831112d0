-- The four lent buffers as one value: the memory that they are under a DRK, and that they stay the ones that were lent.
use Rattle.std.specs.Prelude.{◌≡◌, List, ℕ, length}
use denote.Ref.{MutBor}
use Rattle.model.specs.Cached.{Cached}
use Rattle.sealing.specs.declared.Drk.{Drk}
use Rattle.cache.specs.declared.buffers.Buffers.{Buffers}
use Rattle.cache.specs.Lent.{lent}

-- the memory that is lent, under a DRK
abbrev pub memory_in : Drk → Buffers → Cached
memory_in k b = lent k.high k.low b.mem.now b.macs.now b.cache.now b.dir.now

-- the same slice, of the same length, whatever is in it
abbrev pub SameSlice : MutBor (List ℕ) → MutBor (List ℕ) → Type 0
SameSlice s s' = (s'.ghost_name ≡ s.ghost_name) × (length s'.now ≡ length s.now)

-- the same four buffers, of the same lengths, whatever is in them
abbrev pub SameBuffers : Buffers → Buffers → Type 0
SameBuffers b b' =
    SameSlice b.mem b'.mem × SameSlice b.macs b'.macs × SameSlice b.cache b'.cache × SameSlice b.dir b'.dir

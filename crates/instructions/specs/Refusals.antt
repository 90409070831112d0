-- The refusals, by number: the lowest that applies to the call is given, and none (0) otherwise.
use Rattle.std.specs.Prelude.{ℕ, ◌*◌, ◌/◌, ◌%◌, Bool, not, ◌&&◌, ◌||◌, List, [], ◌∷◌, ◌++◌, length, eqb, leb, ltb}
use Rattle.model.specs.Uncached.{Uncached}
use Rattle.model.specs.Cached.{Cached}
unfoldable pub use Rattle.instructions.specs.Rules.{or_else}
use Rattle.instructions.specs.Board.{Board}
use Rattle.instructions.specs.Record.{Processor, reg}

-- M is a multiple of 64, 128 ≤ M ≤ 65,536
unfoldable pub size_fine : ℕ → Bool
size_fine M = eqb (M % 64) 0 && (leb 128 M && leb M 65536)

-- 101 M not as above; 102 MAC area not M/4 bytes
unfoldable pub memory_flaws : ℕ → ℕ → List (Bool × ℕ)
memory_flaws M A = (not (size_fine M), 101) ∷ (not (eqb A (M / 4)), 102) ∷ []

-- 103 C or the data bytes not as above; 104 the directory not as above
unfoldable pub cache_flaws : Board → ℕ → ℕ → List ℕ → List (Bool × ℕ)
cache_flaws B M bytes dir =
    (not (B.slots_fine (length dir) && eqb bytes (length dir * 64)), 103)
    ∷ (not (B.directory_fine (M / 64) dir), 104)
    ∷ []

-- 105 R0 in the record is not zero, or its mode is above 2
unfoldable pub record_flaws : Processor → List (Bool × ℕ)
record_flaws r = (not (eqb (reg r 0) 0) || ltb 2 r.cem.mode, 105) ∷ []

-- 106 line ≥ M/64
unfoldable pub line_flaws : ℕ → ℕ → List (Bool × ℕ)
line_flaws M n = (leb (M / 64) n, 106) ∷ []

-- 107 a transfer buffer not of its k bytes
unfoldable pub buffer_flaws : ℕ → List ℕ → List (Bool × ℕ)
buffer_flaws k x = (not (eqb (length x) k), 107) ∷ []

-- 108 n > 10,000
unfoldable pub run_flaws : ℕ → List (Bool × ℕ)
run_flaws n = (ltb 10000 n, 108) ∷ []

-- 110 listing row not C records
unfoldable pub row_flaws : ℕ → List ℕ → List (Bool × ℕ)
row_flaws rows dir = (not (eqb rows (length dir)), 110) ∷ []

-- 101 to 104, for what is lent to the machine with a cache
unfoldable pub cached_flaws : Board → Cached → List (Bool × ℕ)
cached_flaws B s =
    memory_flaws (length s.mem) (length s.macs) ++ cache_flaws B (length s.mem) (length s.cache) s.dir

-- 101 and 102, for what is lent to the machine without one
unfoldable pub uncached_flaws : Uncached → List (Bool × ℕ)
uncached_flaws s = memory_flaws (length s.mem) (length s.macs)

-- What refusals 101 to 104 let pass, for N lines and C slots: right sizes and an orderly directory. Every request keeps
-- it, whatever else was lent.
use Rattle.std.specs.Prelude.{ℕ, ◌*◌, ◌≡◌, length}
use Rattle.lists.specs.Bytes.{Bytes}
use Rattle.model.specs.CipherLaws.{Sized}
use Rattle.model.specs.Placement.{Placement}
use Rattle.model.specs.PlacementLaws.{PlacementLaws}
use Rattle.model.specs.Cached.{Cached}

-- a memory in good order
pub record Good (P : Placement) (L : PlacementLaws P) (N C : ℕ) (s : Cached) : Type 0 where
  pub mem : length s.mem ≡ N * 64
  pub macs : length s.macs ≡ N * 16
  pub cache : length s.cache ≡ length s.dir * 64
  pub places : length s.dir ≡ C
  pub orderly : L.Orderly N s.dir

-- a DRK of 16 bytes, memory and cache of bytes
pub record MadeOfBytes (s : Cached) : Type 0 where
  pub key : Sized 16 s.key
  pub mem : Bytes s.mem
  pub cache : Bytes s.cache

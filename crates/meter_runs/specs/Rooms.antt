-- What a room holds before anything is laid into it.
use Rattle.std.specs.Prelude.{◌≡◌, replicate}
use Rattle.meter_runs.specs.declared.room.Room.{Room}

-- zeros, everywhere
pub record IsEmpty (r : Room) : Type 0 where
  pub mem : r.mem ≡ replicate 65536 0
  pub macs : r.macs ≡ replicate 16384 0
  pub cache : r.cache ≡ replicate 4096 0
  pub dir : r.dir ≡ replicate 64 0

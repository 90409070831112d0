-- No bus write passes under a slot: behind it no slot holds its line, so that the next access looks at what was
-- written.
use Prim.Native.Nat.{ℕ, ◌<◌}
use mathlib.Core.List.{List}
use Rattle.model.specs.Cipher.{Cipher}
use Rattle.model.specs.CipherLaws.{CipherLaws}
use Rattle.model.specs.Placement.{Placement}
use Rattle.model.specs.PlacementLaws.{PlacementLaws}
use Rattle.model.specs.Requests.{bus_write, bus_mac}
use Rattle.model.specs.Cached.{Cached, cached_handle}
use Rattle.agree.specs.Agree.{Free}
use Rattle.agree.proofs.Bus.{drop_frees}

module _ (c : Cipher) (CL : CipherLaws c) (P : Placement) (L : PlacementLaws P) (N C : ℕ) (s : Cached) (n : ℕ)
    (x : List ℕ) (hn : n < N) (o : L.Orderly N s.dir) where
  pub bus_write_frees : Free P (cached_handle c P (bus_write n x) s).state.dir n
  unfolding cached_handle
  bus_write_frees = drop_frees c CL P L N C s n hn o

  pub bus_mac_frees : Free P (cached_handle c P (bus_mac n x) s).state.dir n
  unfolding cached_handle
  bus_mac_frees = drop_frees c CL P L N C s n hn o

-- A MAC is not freshness: an old line with its old MAC, put back over the bus, passes. Guarding against it is the
-- module's own work with SRH.
use Prim.Native.Nat.{ℕ, ◌*◌, ◌<◌}
use mathlib.Core.Path.{◌≡◌}
use mathlib.Core.Bool.{true, false}
use mathlib.Core.List.{List}
use mathlib.Core.Option.{some}
use lib.ListN.{length}
use Rattle.lists.proofs.NthLaws.{nth_put-here}
use Rattle.model.specs.Tags.{secure_data}
use Rattle.model.specs.Cipher.{Cipher}
use Rattle.model.specs.Lines.{line_at, put_line, mac_at, put_mac, seen, passes}
use Rattle.model.specs.Requests.{access, bus_write, bus_mac}
use Rattle.model.specs.Uncached.{Uncached, uncached_handle}

pub old_line-passes :
    (c : Cipher) (N n : ℕ) (u : Uncached) (line mac : List ℕ) (change : List ℕ → List ℕ)
    → n < N → length u.mem ≡ N * 64 → length u.macs ≡ N * 16 → length line ≡ 64
    → length mac ≡ 16
    → passes c secure_data u.key n line mac ≡ true
    → (uncached_handle c (access secure_data n false change)
    (uncached_handle c (bus_mac n mac) (uncached_handle c (bus_write n line) u).state).state).reply ≡ some
    (c.decipher u.key (n * 64) line)
unfolding uncached_handle seen line_at put_line mac_at put_mac
old_line-passes c N n u line mac change h e f l m p =
    rw (nth_put-here 64 N u.mem e true n line h l, nth_put-here 16 N u.macs f true n mac h m, p)

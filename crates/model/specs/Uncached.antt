-- The manual's memory: the machine without a cache works on memory and MAC area at once.
use Rattle.std.specs.Prelude.{ℕ, ◌&&◌, List, [], length}
use Rattle.std.proofs.Math.Option.{none, some}
use Rattle.lists.specs.If.{if}
use Rattle.model.specs.Cipher.{Cipher}
use Rattle.model.specs.Lines.{line_at, put_line, mac_at, put_mac, seen, stored, signed, passes}
use Rattle.model.specs.Requests.{Request, access, evict, bus_read, bus_write, bus_mac, write_back, rekey, Handled}
use Rattle.model.specs.Requests.{Memory}

-- the DRK, the bytes of memory and the MAC area
pub record Uncached : Type 0 where
  pub key : List ℕ
  pub mem : List ℕ
  pub macs : List ℕ

-- each protected access checks its line there; a secure store opens, seals and signs it again there; evictions do
-- nothing
unfoldable pub uncached_handle : Cipher → Request → Uncached → Handled Uncached
uncached_handle c (access tag n write change) s =
    let line = line_at n s.mem in
    let ok = passes c tag s.key n line (mac_at n s.macs) in
    let body = seen c tag s.key n line in
    let next = stored c tag s.key n (change body) in
    record {
      reply = if ok (some body) none;
      state =
          record {
            key = s.key;
            mem = if (ok && write) (put_line n next s.mem) s.mem;
            macs = if (ok && write) (put_mac n (signed c tag s.key n next (mac_at n s.macs)) s.macs) s.macs;
          };
      log = [];
    }
uncached_handle c (evict n) s = record { reply = some []; state = s; log = [] }
uncached_handle c (bus_read n) s = record { reply = some (line_at n s.mem); state = s; log = [] }
uncached_handle c (bus_write n x) s =
    record { reply = some []; state = record { key = s.key; mem = put_line n x s.mem; macs = s.macs }; log = [] }
uncached_handle c (bus_mac n x) s =
    record { reply = some []; state = record { key = s.key; mem = s.mem; macs = put_mac n x s.macs }; log = [] }
uncached_handle c write_back s = record { reply = some []; state = s; log = [] }
uncached_handle c (rekey k) s = record {
  reply = some [];
  state = record { key = k; mem = s.mem; macs = s.macs };
  log =
      [];
}

-- the manual's memory; at a power cut it is given what the cut left of the machine beside it
unfoldable pub uncached : Cipher → Uncached → Memory Uncached
uncached c left = record {
  key = λ s. s.key;
  size = λ s. length s.mem;
  handle = uncached_handle c;
  cut =
      λ s. left;
}

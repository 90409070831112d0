-- The cached memory: lines are held in slots, filled when they are missed, and written back when they are evicted
-- dirty. It notes what it does.
use Rattle.std.specs.Prelude.{ℕ, zero, suc, ◌+◌, Bool, true, false, ◌&&◌, List, [], ◌∷◌, ◌++◌, length, eqb}
use Rattle.std.proofs.Math.Option.{none, some}
use Rattle.lists.specs.If.{if}
use Rattle.lists.specs.Bytes.{zeros}
use Rattle.model.specs.Tags.{Tag, same_tag}
use Rattle.model.specs.Cipher.{Cipher}
use Rattle.model.specs.Lines.{line_at, put_line, mac_at, put_mac, seen, stored, signed, passes}
use Rattle.model.specs.Log.{Note}
use Rattle.model.specs.Placement.{Entry, Placement, holding}
use Rattle.model.specs.Uncached.{Uncached}
use Rattle.model.specs.Requests.{Request, access, evict, bus_read, bus_write, bus_mac, write_back, rekey, Handled}
use Rattle.model.specs.Requests.{Memory}

-- the DRK, the bytes of memory, the MAC area, the cache's data bytes (64 a slot) and its directory (a number a slot)
pub record Cached : Type 0 where
  pub key : List ℕ
  pub mem : List ℕ
  pub macs : List ℕ
  pub cache : List ℕ
  pub dir : List ℕ

-- a next state and the notes of what was done; 'ok' says whether the wanted line is there
pub record Did : Type 0 where
  pub ok : Bool
  pub state : Cached
  pub log : List Note

-- the slot is evicted: a dirty line is written back, a Secure Data line sealed and with its MAC; the slot gets 64 zero
-- bytes. An empty slot changes nothing
unfoldable pub evict_place : Cipher → Placement → ℕ → Cached → Did
evict_place c P p s =
    let e = P.look s.dir p in
    let line = stored c e.tag s.key e.line (line_at p s.cache) in
    record {
      ok = true;
      state =
          record {
            key = s.key;
            mem = if e.dirty (put_line e.line line s.mem) s.mem;
            macs = if e.dirty (put_mac e.line
                (signed c e.tag s.key e.line line (mac_at e.line s.macs)) s.macs) s.macs;
            cache = if e.used (put_line p (zeros 64) s.cache) s.cache;
            dir = if e.used (P.clear s.dir p) s.dir;
          };
      log = if e.used (Note.evicted e.tag e.line e.dirty ∷ []) [];
    }

-- line n is filled into the slot under the tag: clean where its check passes, and otherwise the slot stays empty with
-- 64 zero bytes
unfoldable pub fill_place : Cipher → Placement → Tag → ℕ → ℕ → Cached → Did
fill_place c P tag n p s =
    let line = line_at n s.mem in
    let ok = passes c tag s.key n line (mac_at n s.macs) in
    record {
      ok = ok;
      state =
          record {
            key = s.key;
            mem = s.mem;
            macs = s.macs;
            cache = put_line p (if ok (seen c tag s.key n line) (zeros 64)) s.cache;
            dir = if ok (P.touch (P.put s.dir p (holding n tag false)) p) (P.clear s.dir p);
          };
      log = Note.filled tag n ok ∷ [];
    }

-- one thing done after another
unfoldable pub then_do : Did → (Cached → Did) → Did
then_do a f =
    let b = f a.state in
    record { ok = b.ok; state = b.state; log = a.log ++ b.log }

-- does the entry serve an access to line n under the tag?
unfoldable pub serves : Entry → Tag → ℕ → Bool
serves e tag n = e.used && (eqb e.line n && same_tag e.tag tag)

-- does the entry hold line n, under whatever tag?
unfoldable pub holds : Entry → ℕ → Bool
holds e n = e.used && eqb e.line n

-- the slot was hit
unfoldable pub hit_place : Placement → ℕ → Cached → Did
hit_place P p s =
    record {
      ok = true;
      state = record { key = s.key; mem = s.mem; macs = s.macs; cache = s.cache; dir = P.touch s.dir p };
      log = [];
    }

-- line n is made ready in the slot under the tag: a hit, or the occupant is evicted and then the line is filled
unfoldable pub ready_place : Cipher → Placement → Tag → ℕ → ℕ → Cached → Did
ready_place c P tag n p s =
    if (serves (P.look s.dir p) tag n) (hit_place P p s) (then_do (evict_place c P p s) (fill_place c P tag n p))

-- the slot's bytes are changed, memory and MAC area not yet, and the slot is dirty, whatever the bytes
unfoldable pub write_place : Placement → Tag → ℕ → ℕ → Bool → (List ℕ → List ℕ) → Cached → Cached
write_place P tag n p write change s =
    record {
      key = s.key;
      mem = s.mem;
      macs = s.macs;
      cache = if write (put_line p (change (line_at p s.cache)) s.cache) s.cache;
      dir = if write (P.put s.dir p (holding n tag true)) s.dir;
    }

-- an access at the slot that was chosen for its line
unfoldable pub access_place : Cipher → Placement → Tag → ℕ → ℕ → Bool → (List ℕ → List ℕ)
    → Cached → Handled Cached
access_place c P tag n p write change s =
    let r = ready_place c P tag n p s in
    record {
      reply = if r.ok (some (line_at p r.state.cache)) none;
      state = write_place P tag n p (r.ok && write) change r.state;
      log = r.log;
    }

-- line n is evicted where its slot holds it
unfoldable pub evict_line : Cipher → Placement → ℕ → Cached → Did
evict_line c P n s =
    let p = P.choose s.dir n in
    if (holds (P.look s.dir p) n) (evict_place c P p s) (record { ok = true; state = s; log = [] })

-- the k slots from slot p on are evicted, one after the other
unfoldable pub evict_from : Cipher → Placement → ℕ → ℕ → Cached → Did
evict_from c P zero p s = record { ok = true; state = s; log = [] }
evict_from c P (suc k) p s = then_do (evict_place c P p s) (evict_from c P k (p + 1))

-- every slot is evicted
unfoldable pub evict_all : Cipher → Placement → Cached → Did
evict_all c P s = evict_from c P (length s.dir) 0 s

-- how the cached memory handles each request; the bus first evicts its line
unfoldable pub cached_handle : Cipher → Placement → Request → Cached → Handled Cached
cached_handle c P (access tag n write change) s = access_place c P tag n (P.choose s.dir n) write change s
cached_handle c P (evict n) s =
    let d = evict_line c P n s in
    record { reply = some []; state = d.state; log = d.log }
cached_handle c P (bus_read n) s =
    let d = evict_line c P n s in
    record { reply = some (line_at n d.state.mem); state = d.state; log = d.log }
cached_handle c P (bus_write n x) s =
    let d = evict_line c P n s in
    let t = d.state in
    record {
      reply = some [];
      state = record { key = t.key; mem = put_line n x t.mem; macs = t.macs; cache = t.cache; dir = t.dir };
      log = d.log;
    }
cached_handle c P (bus_mac n x) s =
    let d = evict_line c P n s in
    let t = d.state in
    record {
      reply = some [];
      state = record { key = t.key; mem = t.mem; macs = put_mac n x t.macs; cache = t.cache; dir = t.dir };
      log = d.log;
    }
cached_handle c P write_back s =
    let d = evict_all c P s in
    record { reply = some []; state = d.state; log = d.log }
cached_handle c P (rekey k) s =
    let d = evict_all c P s in
    let t = d.state in
    record {
      reply = some [];
      state = record { key = k; mem = t.mem; macs = t.macs; cache = t.cache; dir = t.dir };
      log = d.log;
    }

-- a power cut empties the slot without writing back; an empty slot changes nothing
unfoldable pub lose_place : Placement → ℕ → Cached → Cached
lose_place P p s =
    let e = P.look s.dir p in
    record {
      key = s.key;
      mem = s.mem;
      macs = s.macs;
      cache = if e.used (put_line p (zeros 64) s.cache) s.cache;
      dir = if e.used (P.clear s.dir p) s.dir;
    }

-- the k slots from slot p on are lost
unfoldable pub lose_from : Placement → ℕ → ℕ → Cached → Cached
lose_from P zero p s = s
lose_from P (suc k) p s = lose_from P k (p + 1) (lose_place P p s)

-- every slot is lost
unfoldable pub lose_all : Placement → Cached → Cached
lose_all P s = lose_from P (length s.dir) 0 s

-- the cached memory
unfoldable pub cached : Cipher → Placement → Memory Cached
cached c P = record { key = λ s. s.key; size = λ s. length s.mem; handle = cached_handle c P; cut = lose_all P }

-- memory and MAC area as they stand, without what the cache holds
unfoldable pub as_it_stands : Cached → Uncached
as_it_stands s = record { key = s.key; mem = s.mem; macs = s.macs }

-- The cached memory's rules, one law for each way that a case may go: what the sentences of document 01's 'Protected
-- lines' say.
use Prim.Native.Nat.{ℕ, ◌*◌}
use mathlib.Core.Path.{◌≡◌, refl}
use mathlib.Core.Bool.{true, false, ◌&&◌}
use mathlib.Core.List.{List, [], ◌∷◌}
use lib.Dec.{eqb}
use borrow.Author.Tests.{eqb-true}
use Rattle.lists.specs.Bytes.{zeros}
use Rattle.lists.proofs.Cases.{both_hold}
use Rattle.lists.proofs.PartLaws.{put_part}
use Rattle.model.specs.Tags.{Tag, no_tag, secure_instruction, secure_data, is_data, same_tag}
use Rattle.model.specs.Cipher.{Cipher}
use Rattle.model.specs.Lines.{line_at, put_line, mac_at, put_mac, seen, stored, signed, passes}
use Rattle.model.specs.Log.{Note}
use Rattle.model.specs.Placement.{Entry, Placement, holding}
use Rattle.model.specs.Requests.{bus_write, bus_mac, rekey}
use Rattle.model.specs.Cached.{Cached, evict_place, fill_place, then_do, serves, holds, hit_place, ready_place}
use Rattle.model.specs.Cached.{write_place, evict_line, evict_all, cached_handle, lose_place}
use Rattle.model.proofs.LineLaws.{same_tag_true}

-- a write-back under no tag leaves the MAC area
pub unsigned : (c : Cipher) (t : Tag) (key : List ℕ) (n : ℕ) (line macs : List ℕ) → is_data t ≡ false
    → put_mac n (signed c t key n line (mac_at n macs)) macs ≡ macs
unfolding is_data signed put_mac mac_at
unsigned c no_tag key n line macs e = put_part (n * 16) 16 macs
unsigned c secure_instruction key n line macs e = put_part (n * 16) 16 macs
unsigned c secure_data key n line macs e = cc

-- an entry that serves holds the line under the tag
pub serving : (e : Entry) (tag : Tag) (n : ℕ) → serves e tag n ≡ true → e ≡ holding n tag e.dirty
unfolding serves holding
serving e tag n h =
    let a : (e.used ≡ true) × ((eqb e.line n && same_tag e.tag tag) ≡ true) =
    both_hold e.used (eqb e.line n && same_tag e.tag tag) h in
    let b : (eqb e.line n ≡ true) × (same_tag e.tag tag ≡ true) =
    both_hold (eqb e.line n) (same_tag e.tag tag) a.1 in
    let l : e.line ≡ n = eqb-true e.line n b.0 in
    let t : e.tag ≡ tag = same_tag_true e.tag tag b.1 in
    λ i. record { used = a.0 i; line = l i; tag = t i; dirty = e.dirty }

module _ (c : Cipher) (P : Placement) (p : ℕ) (s : Cached) where
  abbrev here : Entry
  here = P.look s.dir p

  -- evicting a dirty line writes it back, a Secure Data line sealed and with its MAC, under the DRK of this moment
  pub evict-dirty : here.used ≡ true → here.dirty ≡ true → evict_place c P p s ≡ record {
    ok = true;
    state =
        record {
          key = s.key;
          mem =
              put_line here.line (stored c here.tag s.key here.line (line_at p s.cache)) s.mem;
          macs =
              put_mac here.line (signed c here.tag s.key here.line
              (stored c here.tag s.key here.line (line_at p s.cache)) (mac_at here.line s.macs))
              s.macs;
          cache = put_line p (zeros 64) s.cache;
          dir = P.clear s.dir p;
        };
    log = Note.evicted here.tag here.line
        true ∷ [];
  }
  unfolding evict_place
  evict-dirty u d = rw (u, d)

  -- a clean one writes nothing
  pub evict_clean : here.used ≡ true → here.dirty ≡ false → evict_place c P p s ≡ record {
    ok = true;
    state =
        record {
          key = s.key;
          mem = s.mem;
          macs = s.macs;
          cache = put_line p (zeros 64) s.cache;
          dir =
              P.clear s.dir p;
        };
    log = Note.evicted here.tag here.line false ∷ [];
  }
  unfolding evict_place
  evict_clean u d = rw (u, d)

  -- evicting an empty slot changes nothing
  pub evict-free : here.used ≡ false → here.dirty ≡ false → evict_place c P p s ≡ record {
    ok = true;
    state =
        s;
    log = [];
  }
  unfolding evict_place
  evict-free u d = rw (u, d)

  -- a power cut writes nothing back
  pub lose_used : here.used ≡ true → lose_place P p s ≡ record {
    key = s.key;
    mem = s.mem;
    macs = s.macs;
    cache = put_line p (zeros 64) s.cache;
    dir = P.clear s.dir p;
  }
  unfolding lose_place
  lose_used u = rw u

  pub lose_free : here.used ≡ false → lose_place P p s ≡ s
  unfolding lose_place
  lose_free u = rw u

  module _ (tag : Tag) (n : ℕ) where
    -- a fill whose check passes is clean, and a slot of 64 bytes as the tag sees them
    pub fill_passed : passes c tag s.key n (line_at n s.mem) (mac_at n s.macs) ≡ true
        → fill_place c P tag n p s ≡ record {
          ok = true;
          state = record {
            key = s.key;
            mem = s.mem;
            macs = s.macs;
            cache = put_line p (seen c tag s.key n (line_at n s.mem)) s.cache;
            dir =
                P.touch (P.put s.dir p (holding n tag false)) p;
          };
          log = Note.filled tag n true ∷ [];
        }
    unfolding fill_place
    fill_passed h = rw h

    -- on failure the slot stays empty, with 64 zero bytes
    pub fill_failed : passes c tag s.key n (line_at n s.mem) (mac_at n s.macs) ≡ false
        → fill_place c P tag n p s ≡ record {
          ok = false;
          state =
              record {
                key = s.key;
                mem = s.mem;
                macs = s.macs;
                cache = put_line p (zeros 64) s.cache;
                dir =
                    P.clear s.dir p;
              };
          log = Note.filled tag n false ∷ [];
        }
    unfolding fill_place
    fill_failed h = rw h

    -- a slot serves only if it holds the line with the wanted tag; otherwise its occupant is evicted, then the line is
    -- filled
    pub ready_hit : serves here tag n ≡ true → ready_place c P tag n p s ≡ hit_place P p s
    unfolding ready_place
    ready_hit h = rw h

    pub ready_miss : serves here tag n ≡ false → ready_place c P tag n p s ≡ then_do (evict_place c P p s)
        (fill_place c P tag n p)
    unfolding ready_place
    ready_miss h = rw h

    -- a store changes the slot alone, and makes it dirty, whatever the bytes
    pub write_slot : (change : List ℕ → List ℕ) → write_place P tag n p true change s ≡ record {
      key = s.key;
      mem = s.mem;
      macs = s.macs;
      cache = put_line p (change (line_at p s.cache)) s.cache;
      dir =
          P.put s.dir p (holding n tag true);
    }
    unfolding write_place
    write_slot change = refl

    pub write_none : (change : List ℕ → List ℕ) → write_place P tag n p false change s ≡ s
    unfolding write_place
    write_none change = refl

module _ (c : Cipher) (P : Placement) (n : ℕ) (s : Cached) where
  -- a line is evicted where its slot holds it, with whatever tag, and not otherwise
  pub drop-held : holds (P.look s.dir (P.choose s.dir n)) n ≡ true → evict_line c P n s ≡ evict_place c P
      (P.choose s.dir n) s
  unfolding evict_line
  drop-held h = rw h

  pub drop_other : holds (P.look s.dir (P.choose s.dir n)) n ≡ false
      → evict_line c P n s ≡ record { ok = true; state = s; log = [] }
  unfolding evict_line
  drop_other h = rw h

  -- a bus write first evicts its line, and so does a bus write of a MAC entry
  pub bus_write_evicts : (x : List ℕ) → (cached_handle c P (bus_write n x) s).state.dir ≡ (evict_line c P n
      s).state.dir
  unfolding cached_handle
  bus_write_evicts x = refl

  pub bus_mac_evicts : (x : List ℕ) → (cached_handle c P (bus_mac n x) s).state.dir ≡ (evict_line c P n s).state.dir
  unfolding cached_handle
  bus_mac_evicts x = refl

-- drk.set evicts every slot before the DRK changes: dirty lines belong to the old key
pub rekey_old_key : (c : Cipher) (P : Placement) (s : Cached) (k : List ℕ)
    → ((cached_handle c P (rekey k) s).state.mem ≡ (evict_all c P s).state.mem)
    × ((cached_handle c P (rekey k) s).state.macs ≡ (evict_all c P s).state.macs)
    × ((cached_handle c P (rekey k) s).state.key ≡ k)
unfolding cached_handle
rekey_old_key c P s k = (refl, refl, refl)

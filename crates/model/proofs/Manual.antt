-- The manual's memory, one law for each way that an access may go.
use Prim.Native.Nat.{ℕ}
use mathlib.Core.Path.{◌≡◌, refl}
use mathlib.Core.Bool.{Bool, true, false}
use mathlib.Core.List.{List, []}
use mathlib.Core.Option.{none, some}
use Rattle.model.specs.Tags.{Tag}
use Rattle.model.specs.Cipher.{Cipher}
use Rattle.model.specs.Lines.{line_at, put_line, mac_at, put_mac, seen, stored, signed, passes}
use Rattle.model.specs.Requests.{access, evict, write_back}
use Rattle.model.specs.Uncached.{Uncached, uncached_handle}

module _ (c : Cipher) (tag : Tag) (n : ℕ) (change : List ℕ → List ℕ) (s : Uncached) where
  abbrev line : List ℕ
  line = line_at n s.mem

  abbrev next : List ℕ
  next = stored c tag s.key n (change (seen c tag s.key n line))

  -- a line whose check fails is neither read nor written
  pub manual_failed : (write : Bool) → passes c tag s.key n line (mac_at n s.macs) ≡ false
      → uncached_handle c (access tag n write change) s ≡ record { reply = none; state = s; log = [] }
  unfolding uncached_handle
  manual_failed write h = rw h

  -- a line is read as the tag sees it
  pub manual_read : passes c tag s.key n line (mac_at n s.macs) ≡ true
      → uncached_handle c (access tag n false change) s ≡ record {
        reply = some (seen c tag s.key n line);
        state =
            s;
        log = [];
      }
  unfolding uncached_handle
  manual_read h = rw h

  -- a store opens, seals and signs the line again, there
  pub manual_store : passes c tag s.key n line (mac_at n s.macs) ≡ true
      → uncached_handle c (access tag n true change) s ≡ record {
        reply = some (seen c tag s.key n line);
        state =
            record {
              key = s.key;
              mem = put_line n next s.mem;
              macs =
                  put_mac n (signed c tag s.key n next (mac_at n s.macs)) s.macs;
            };
        log = [];
      }
  unfolding uncached_handle
  manual_store h = rw h

  -- evictions do nothing
  pub manual_evict : (uncached_handle c (evict n) s).state ≡ s
  unfolding uncached_handle
  manual_evict = refl

  pub manual_write_back : (uncached_handle c write_back s).state ≡ s
  unfolding uncached_handle
  manual_write_back = refl

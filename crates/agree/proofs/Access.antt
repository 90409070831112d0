-- An access, by a hit or after an eviction and a fill, with or without a change, answers alike in both memories and
-- keeps the agreement.
use Prim.Native.Nat.{ℕ, ◌<◌}
use mathlib.Core.Path.{◌≡◌, refl, sym, ap, ◌∙◌}
use mathlib.Core.Bool.{Bool, true, false, ◌&&◌, false≢true}
use mathlib.Core.List.{List}
use mathlib.Core.Option.{none, some}
use lib.ListN.{length}
use Rattle.lists.specs.If.{if}
use Rattle.lists.proofs.Cases.{by_test}
use Rattle.lists.proofs.NthLaws.{nth_put-length, nth_put-here, nth_put_other, nth_put-bytes}
use Rattle.model.specs.Tags.{Tag, no_tag, secure_instruction, secure_data}
use Rattle.model.specs.Cipher.{Cipher}
use Rattle.model.specs.CipherLaws.{Sized, CipherLaws}
use Rattle.model.specs.Lines.{line_at, put_line, mac_at, put_mac, seen, stored, signed}
use Rattle.model.specs.Placement.{Entry, Placement, holding}
use Rattle.model.specs.PlacementLaws.{PlacementLaws}
use Rattle.model.specs.Requests.{access}
use Rattle.model.specs.Uncached.{Uncached, uncached_handle}
use Rattle.model.specs.Cached.{Cached, serves, hit_place, evict_place, then_do, ready_place, write_place}
use Rattle.model.proofs.LineLaws.{mac-length, stored-sized, signed-length, seen_stored, passes-signed}
use Rattle.model.proofs.CachedRules.{serving}
use Rattle.keeps.specs.Good.{Good}
use Rattle.keeps.proofs.Evict.{evict-here}
use Rattle.keeps.proofs.Access.{Placed, chosen-placed, evict-placed, hit_placed, write_good}
use Rattle.agree.specs.Agree.{HeldAt, Free, Agree}
use Rattle.agree.proofs.Update.{one_place, update_agrees}
use Rattle.agree.proofs.Evict.{body-sized, evict-agrees, evict_frees}
use Rattle.agree.proofs.Fill.{Ready, fill_ready}

-- what is signed does not depend on a MAC that itself came from signing, or that stands as it was
signed-again : (c : Cipher) (tag : Tag) (key : List ℕ) (n : ℕ) (l k m h : List ℕ) (d : Bool)
    → m ≡ if d (signed c tag key n k h) h → signed c tag key n l m ≡ signed c tag key n l h
unfolding signed
signed-again c no_tag key n l k m h true e = e
signed-again c no_tag key n l k m h false e = e
signed-again c secure_instruction key n l k m h true e = e
signed-again c secure_instruction key n l k m h false e = e
signed-again c secure_data key n l k m h d e = refl

module _ (c : Cipher) (CL : CipherLaws c) (P : Placement) (L : PlacementLaws P) (N C : ℕ) where
  -- using a place keeps the agreement
  touch-agrees : (u : Uncached) (s : Cached) (p : ℕ) → Agree c P L N C u s → Good P L N C (hit_place P p s).state
      → Agree c P L N C u (hit_place P p s).state
  unfolding hit_place
  touch-agrees u s p A g =
      record {
        keys = A.keys;
        key = A.key;
        plain_mem = A.plain_mem;
        plain_macs = A.plain_macs;
        bytes = A.bytes;
        good = g;
        held = λ q hq w. rw (L.touch-look s.dir p q) (A.held q (rw (L.touch-length s.dir p) at hq)
            (rw (L.touch-look s.dir p q) at w));
        free =
            λ n hn f.
            let g : Free P s.dir n =
            record {
              nowhere = λ q hq w z. f.nowhere q (rw (L.touch-length s.dir p) hq)
                  (rw (L.touch-look s.dir p q) w) (rw (L.touch-look s.dir p q) z);
            } in
            record { lines = (A.free n hn g).lines; macs = (A.free n hn g).macs };
      }

  -- a slot that serves is ready
  hit_ready : (u : Uncached) (s : Cached) (tag : Tag) (n p : ℕ) → Agree c P L N C u s → p < length s.dir
      → serves (P.look s.dir p) tag n ≡ true → Placed c CL P L N C n p (hit_place P p s).state
      → Ready c CL P L N C u tag n p true (hit_place P p s).state
  unfolding hit_place holding
  hit_ready u s tag n p A hp h Q =
      let e : P.look s.dir p ≡ holding n tag (P.look s.dir p).dirty = serving (P.look s.dir p) tag n h in
      let w : (P.look s.dir p).used ≡ true = ap (λ (x : Entry). x.used) e in
      let l : (P.look s.dir p).line ≡ n = ap (λ (x : Entry). x.line) e in
      let t : (P.look s.dir p).tag ≡ tag = ap (λ (x : Entry). x.tag) e in
      record {
        agrees = touch-agrees u s p A Q.good;
        placed = Q;
        told = rw (A.keys, ← l, ← t) (sym (A.held p hp w).checked);
        entry = λ x. ((P.look s.dir p).dirty, L.touch-look s.dir p p ∙ e);
      }

  -- a line is made ready at the place chosen for it
  pub ready : (u : Uncached) (s : Cached) (tag : Tag) (n p : ℕ) → Agree c P L N C u s → n < N
      → P.choose s.dir n ≡ p → Ready c CL P L N C u tag n p (ready_place c P tag n p s).ok
      (ready_place c P tag n p s).state
  unfolding ready_place then_do hit_place
  ready u s tag n p A hn e =
      let Q = chosen-placed c CL P L N C s n p A.good hn e in
      let hp = Q.place in
      by_test (serves (P.look s.dir p) tag n)
      (λ h. rw h (hit_ready u s tag n p A hp h (hit_placed c CL P L N C s n p Q)))
      (λ h.
      rw h
      (fill_ready c CL P L N C u (evict_place c P p s).state tag n p (evict-agrees c CL P L N C u s p A hp)
      (evict-placed c CL P L N C s n p Q) hn
      (evict-here c CL P L N C s p hp) (evict_frees c CL P L N C s n p A.good.orderly hp e)))

  -- a change of a held line, in the slot here and in memory there
  module _ (u : Uncached) (s : Cached) (tag : Tag) (n p : ℕ) (dirty : Bool) (b : List ℕ) (A : Agree c P L N C u s)
      (hp : p < length s.dir) (hn : n < N)
      (e : P.look s.dir p ≡ holding n tag dirty) (g : Good P L N C (write_place P tag n p true (λ l. b) s))
      (t : tag ≡ secure_instruction → ⊥) (z : Sized 64 b) where
    abbrev line : List ℕ
    line = stored c tag s.key n b

    abbrev mac : List ℕ
    mac = signed c tag s.key n line (mac_at n u.macs)

    abbrev written : Uncached
    written = record { key = s.key; mem = put_line n line u.mem; macs = put_mac n mac u.macs }

    abbrev changed : Cached
    changed = record {
      key = s.key;
      mem = s.mem;
      macs = s.macs;
      cache = put_line p b s.cache;
      dir =
          P.put s.dir p (holding n tag true);
    }

    line-fits : Sized 64 line
    line-fits = stored-sized c CL s.key A.key n tag b z

    mac-fits : length mac ≡ 16
    mac-fits = signed-length c CL s.key n tag line (mac_at n u.macs) line-fits.size
        (mac-length N n u.macs A.plain_macs hn)

    used : (P.look s.dir p).used ≡ true
    unfolding holding
    used = ap (λ (x : Entry). x.used) e

    named : (P.look s.dir p).line ≡ n
    unfolding holding
    named = ap (λ (x : Entry). x.line) e

    -- the MAC that the manual's memory has is what the cached memory will make
    one-mac : mac ≡ signed c tag s.key n line (mac_at n s.macs)
    unfolding holding
    one-mac =
        let h : HeldAt c (holding n tag dirty) p u s = rw e at (A.held p hp used) in
        signed-again c tag s.key n line (stored c tag s.key n (line_at p s.cache)) (mac_at n u.macs)
        (mac_at n s.macs) dirty h.macs

    write_agrees : Agree c P L N C written changed
    unfolding line_at mac_at put_line put_mac holding write_place
    write_agrees =
        let put : P.look (P.put s.dir p (holding n tag true)) p ≡ holding n tag true =
        L.put-here s.dir n p tag true A.good.orderly hp hn in
        let here : line_at p changed.cache ≡ b = nth_put-here 64 (length s.dir) s.cache A.good.cache true
        p b hp z.size in
        let at_home : line_at n written.mem ≡ line = nth_put-here 64 N u.mem A.plain_mem.size true n line hn
        line-fits.size in
        let atMacs : mac_at n written.macs ≡ mac = nth_put-here 16 N u.macs A.plain_macs true n mac hn mac-fits
        in
        update_agrees c P L N C n p u written s changed A hp
        (record {
          occupant = λ w. named;
          alone = λ q a hq w i. a (one_place c P L N C s.dir p q A.good.orderly hp hq used w (i ∙ sym named));
          named = λ w. ap (λ (x : Entry). x.line) put;
          plain_key = sym A.keys;
          key = refl;
          looks = λ q a. L.put_other s.dir p q (holding n tag true) a;
          slots = λ q a. nth_put_other 64 (length s.dir) s.cache A.good.cache true q p b hp z.size a;
          plain_lines = λ i a. nth_put_other 64 N u.mem A.plain_mem.size true i n line hn line-fits.size a;
          plain_macs = λ i a. nth_put_other 16 N u.macs A.plain_macs true i n mac hn mac-fits a;
          lines = λ i a. refl;
          macs = λ i a. refl;
          plain_mem_size =
              record {
                size = nth_put-length 64 N u.mem A.plain_mem.size true n line hn line-fits.size;
                bytes = nth_put-bytes 64 n true line u.mem line-fits.bytes A.plain_mem.bytes;
              };
          plain_macs_size = nth_put-length 16 N u.macs A.plain_macs true n mac hn mac-fits;
          bytes = A.bytes;
          good = g;
          here =
              λ w.
              rw put
              (record {
                lines = rw here at_home;
                macs = rw here (atMacs ∙ one-mac);
                checked = rw (at_home, atMacs) (passes-signed c CL s.key n tag line (mac_at n u.macs) t);
                viewed = rw (here, at_home) (sym (seen_stored c CL s.key A.key n tag b z));
              });
          home = λ w. absurd (false≢true (sym w ∙ ap (λ (x : Entry). x.used) put));
        })

  -- once the line is ready, the reply and the change are alike
  module _ (u : Uncached) (t : Cached) (tag : Tag) (n p : ℕ) (ok write : Bool) (change : List ℕ → List ℕ)
      (R : Ready c CL P L N C u tag n p ok t) (hn : n < N)
      (k : write ≡ true → tag ≡ secure_instruction → ⊥) (lines : (l : List ℕ) → Sized 64 l
      → Sized 64 (change l)) where
    -- where the check passes, both see the same bytes
    viewed : ok ≡ true → seen c tag u.key n (line_at n u.mem) ≡ line_at p t.cache
    unfolding holding
    viewed h =
        let e = (R.entry h).1 in
        let w : (P.look t.dir p).used ≡ true = ap (λ (x : Entry). x.used) e in
        let H : HeldAt c (holding n tag (R.entry h).0) p u t = rw e at (R.agrees.held p R.placed.place w) in
        rw R.agrees.keys (sym H.viewed)

    pub reply-alike : (uncached_handle c (access tag n write change) u).reply ≡ if ok (some (line_at p t.cache)) none
    unfolding uncached_handle
    reply-alike = by_test ok (λ h. rw (← R.told, h) (ap some (viewed h))) (λ h. rw (← R.told, h))

    pub state-alike : Agree c P L N C (uncached_handle c (access tag n write change) u).state
        (write_place P tag n p (ok && write) change t)
    unfolding uncached_handle write_place holding
    state-alike =
        rw (← R.told)
        (by_test ok
        (λ h.
        by_test write
        (λ v.
        let b = change (line_at p t.cache) in
        let z : Sized 64 b = lines (line_at p t.cache) (body-sized c CL P L N C u t p R.agrees R.placed.place
        (ap (λ (x : Entry). x.used) (R.entry h).1)) in
        rw (h, v, viewed h, R.agrees.keys)
        (write_agrees u t tag n p (R.entry h).0 b R.agrees R.placed.place hn (R.entry h).1
        (write_good c CL P L N C t tag n p true (λ l. b) hn (λ q. k v) (λ l q. z.size) R.placed) (k v) z))
        (λ v. rw (h, v) R.agrees))
        (λ h. rw h R.agrees))

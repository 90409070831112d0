-- Every fair request, every sound program and a power cut keep a memory good.
use Prim.Native.Nat.{ℕ, zero, suc, ◌+◌, ◌<◌}
use native.Mathlib.Omega.{arith}
use mathlib.Core.Path.{◌≡◌, refl, ◌∙◌}
use mathlib.Core.Bool.{true}
use lib.ListN.{length}
use Rattle.lists.specs.Bytes.{zeros}
use Rattle.lists.proofs.ByteLaws.{length-zeros}
use Rattle.lists.proofs.Cases.{by_test}
use Rattle.lists.proofs.NthLaws.{nth_put-length}
use Rattle.model.specs.Cipher.{Cipher}
use Rattle.model.specs.CipherLaws.{CipherLaws}
use Rattle.model.specs.Lines.{put_line, put_mac}
use Rattle.model.specs.Placement.{Placement}
use Rattle.model.specs.PlacementLaws.{PlacementLaws}
use Rattle.model.specs.Requests.{Request, access, evict, bus_read, bus_write, bus_mac, write_back, rekey, Prog, ret, ask}
use Rattle.model.specs.Requests.{perform}
use Rattle.model.specs.Cached.{Cached, holds, evict_place, evict_line, evict_from, evict_all, then_do, cached_handle, cached}
use Rattle.model.specs.Cached.{lose_place, lose_from, lose_all}
use Rattle.keeps.specs.Good.{Good}
use Rattle.keeps.specs.Sound.{Fair, fair_access, fair_evict, fair_bus_read, fair_bus_write, fair_bus_mac}
use Rattle.keeps.specs.Sound.{fair_write_back, fair_rekey, Sound, sound_ret, sound_ask}
use Rattle.keeps.proofs.Evict.{evict-length, evict-good}
use Rattle.keeps.proofs.Access.{chosen-placed, access-good}

module _ (c : Cipher) (CL : CipherLaws c) (P : Placement) (L : PlacementLaws P) (N C : ℕ) where
  pub drop-good : (s : Cached) (n : ℕ) → n < N → Good P L N C s → Good P L N C (evict_line c P n s).state
  unfolding evict_line
  drop-good s n hn G =
      by_test (holds (P.look s.dir (P.choose s.dir n)) n)
      (λ h. rw h (evict-good c CL P L N C s (P.choose s.dir n) G (L.choose-place s.dir n G.orderly hn)))
      (λ h. rw h G)

  from-good : (k p : ℕ) (s : Cached) → p + k ≡ length s.dir → Good P L N C s
      → Good P L N C (evict_from c P k p s).state
  unfolding evict_from then_do
  from-good zero p s e G = G
  from-good (suc k) p s e G =
      from-good k (p + 1) (evict_place c P p s).state (rw (evict-length c CL P L N C s p) (omega arith))
      (evict-good c CL P L N C s p G (omega arith))

  pub all-good : (s : Cached) → Good P L N C s → Good P L N C (evict_all c P s).state
  unfolding evict_all
  all-good s G = from-good (length s.dir) 0 s (omega arith) G

  pub handle-good : (q : Request) (s : Cached) → Fair N q → Good P L N C s
      → Good P L N C (cached_handle c P q s).state
  unfolding cached_handle put_line put_mac
  handle-good (access tag n write change) s (fair_access hn t z b) G =
      access-good c CL P L N C s tag n (P.choose s.dir n) write change hn t z
      (chosen-placed c CL P L N C s n (P.choose s.dir n) G hn refl)
  handle-good (evict n) s (fair_evict hn) G = drop-good s n hn G
  handle-good (bus_read n) s (fair_bus_read hn) G = drop-good s n hn G
  handle-good (bus_write n x) s (fair_bus_write hn z) G =
      let D = drop-good s n hn G in
      record {
        mem = nth_put-length 64 N (evict_line c P n s).state.mem D.mem true n x hn z.size;
        macs = D.macs;
        cache = D.cache;
        places = D.places;
        orderly = D.orderly;
      }
  handle-good (bus_mac n x) s (fair_bus_mac hn z) G =
      let D = drop-good s n hn G in
      record {
        mem = D.mem;
        macs = nth_put-length 16 N (evict_line c P n s).state.macs D.macs true n x hn z.size;
        cache = D.cache;
        places = D.places;
        orderly = D.orderly;
      }
  handle-good write_back s fair_write_back G = all-good s G
  handle-good (rekey k) s (fair_rekey z) G =
      let D = all-good s G in
      record { mem = D.mem; macs = D.macs; cache = D.cache; places = D.places; orderly = D.orderly }

  pub perform-good : {Out : Type 0} (q : Prog Out) (s : Cached) → Sound N q → Good P L N C s
      → Good P L N C (perform (cached c P) q s).state
  unfolding perform cached
  perform-good (ret o) s sound_ret G = G
  perform-good (ask q k) s (sound_ask f g) G =
      let h = cached_handle c P q s in
      perform-good (k h.reply) h.state (g h.reply) (handle-good q s f G)

  -- a slot that is lost
  pub lose_good : (s : Cached) (p : ℕ) → p < length s.dir → Good P L N C s → Good P L N C (lose_place P p s)
  unfolding lose_place put_line
  lose_good s p hp G =
      by_test (P.look s.dir p).used
      (λ h.
      rw h
      (record {
        mem = G.mem;
        macs = G.macs;
        cache = rw (L.clear-length s.dir p) (nth_put-length 64 (length s.dir) s.cache G.cache true p
            (zeros 64) hp (length-zeros 64));
        places = L.clear-length s.dir p ∙ G.places;
        orderly = L.clear-orderly s.dir p G.orderly hp;
      }))
      (λ h. rw h G)

  pub lose_length : (s : Cached) (p : ℕ) → length (lose_place P p s).dir ≡ length s.dir
  unfolding lose_place
  lose_length s p = by_test (P.look s.dir p).used (λ h. rw h (L.clear-length s.dir p)) (λ h. rw h)

  lose_from-good : (k p : ℕ) (s : Cached) → p + k ≡ length s.dir → Good P L N C s
      → Good P L N C (lose_from P k p s)
  unfolding lose_from
  lose_from-good zero p s e G = G
  lose_from-good (suc k) p s e G = lose_from-good k (p + 1) (lose_place P p s) (rw (lose_length s p) (omega arith))
      (lose_good s p (omega arith) G)

  pub cut-good : (s : Cached) → Good P L N C s → Good P L N C (lose_all P s)
  unfolding lose_all
  cut-good s G = lose_from-good (length s.dir) 0 s (omega arith) G

-- A hit, a fill and a change keep a memory good, and the place stays the line's own.
use Prim.Native.Nat.{ℕ, ◌<◌}
use mathlib.Core.Path.{◌≡◌, refl, ◌∙◌, subst}
use mathlib.Core.Bool.{Bool, true, false, ◌&&◌}
use mathlib.Core.List.{List}
use lib.ListN.{length}
use Rattle.lists.specs.Bytes.{zeros}
use Rattle.lists.proofs.ByteLaws.{length-zeros}
use Rattle.lists.proofs.Cases.{by_test, both_hold}
use Rattle.lists.proofs.NthLaws.{nth_put-length}
use Rattle.model.specs.Tags.{Tag, secure_instruction}
use Rattle.model.specs.Cipher.{Cipher}
use Rattle.model.specs.CipherLaws.{CipherLaws}
use Rattle.model.specs.Lines.{line_at, put_line, mac_at, seen, passes}
use Rattle.model.specs.Placement.{Placement, holding}
use Rattle.model.specs.PlacementLaws.{PlacementLaws, Tame}
use Rattle.model.specs.Cached.{Cached, serves, hit_place, evict_place, fill_place, then_do, ready_place, write_place}
use Rattle.model.specs.Cached.{access_place}
use Rattle.model.proofs.LineLaws.{line-length, seen-length}
use Rattle.keeps.specs.Good.{Good}
use Rattle.keeps.proofs.Evict.{evict-length, evict-mine, evict-good}

-- a slot that is not dirty needs no care for its tag
pub clean_tame : (t : Tag) → Tame t false
clean_tame t = record { tame = λ e. refl }

module _ (c : Cipher) (CL : CipherLaws c) (P : Placement) (L : PlacementLaws P) (N C : ℕ) where
  -- a good memory in which p is line n's own place
  pub record Placed (n p : ℕ) (s : Cached) : Type 0 where
    pub good : Good P L N C s
    pub place : p < length s.dir
    pub mine : L.Mine N s.dir n p

  -- the place chosen for a line
  pub chosen-placed : (s : Cached) (n p : ℕ) → Good P L N C s → n < N → P.choose s.dir n ≡ p
      → Placed n p s
  chosen-placed s n p G hn e =
      record {
        good = G;
        place = subst (λ (r : ℕ). r < length s.dir) e (L.choose-place s.dir n G.orderly hn);
        mine = subst (λ (r : ℕ). L.Mine N s.dir n r) e (L.choose-mine s.dir n G.orderly hn);
      }

  -- a slot whose bytes and whose directory were replaced
  replaced : (s : Cached) (p : ℕ) (b d : List ℕ) → Good P L N C s → p < length s.dir → length b ≡ 64
      → length d ≡ length s.dir → L.Orderly N d
      → Good P L N C (record { key = s.key; mem = s.mem; macs = s.macs; cache = put_line p b s.cache; dir = d })
  unfolding put_line
  replaced s p b d G hp z e o =
      record {
        mem = G.mem;
        macs = G.macs;
        cache = rw e (nth_put-length 64 (length s.dir) s.cache G.cache true p b hp z);
        places = e ∙ G.places;
        orderly = o;
      }

  pub evict-placed : (s : Cached) (n p : ℕ) → Placed n p s → Placed n p (evict_place c P p s).state
  evict-placed s n p Q =
      record {
        good = evict-good c CL P L N C s p Q.good Q.place;
        place = rw (evict-length c CL P L N C s p) Q.place;
        mine = evict-mine c CL P L N C s p n p Q.good.orderly Q.place Q.mine;
      }

  pub hit_placed : (s : Cached) (n p : ℕ) → Placed n p s → Placed n p (hit_place P p s).state
  unfolding hit_place
  hit_placed s n p Q =
      let G = Q.good in
      record {
        good =
            record {
              mem = G.mem;
              macs = G.macs;
              cache = rw (L.touch-length s.dir p) G.cache;
              places = L.touch-length s.dir p ∙ G.places;
              orderly = L.touch-orderly s.dir p G.orderly Q.place;
            };
        place = rw (L.touch-length s.dir p) Q.place;
        mine = L.touch-mine s.dir n p p G.orderly Q.place Q.mine;
      }

  pub fill_placed : (s : Cached) (tag : Tag) (n p : ℕ) → n < N → Placed n p s
      → Placed n p (fill_place c P tag n p s).state
  unfolding fill_place
  fill_placed s tag n p hn Q =
      by_test (passes c tag s.key n (line_at n s.mem) (mac_at n s.macs))
      (λ h.
      let G = Q.good in
      let e = holding n tag false in
      let d = P.put s.dir p e in
      let len : length d ≡ length s.dir = L.put-length s.dir p e in
      let place : p < length d = rw len Q.place in
      let fine = L.put-orderly s.dir n p tag false G.orderly Q.place hn Q.mine (clean_tame tag) in
      rw h
      (record {
        good =
            replaced s p (seen c tag s.key n (line_at n s.mem)) (P.touch d p) G Q.place
            (seen-length c CL s.key n tag (line_at n s.mem) (line-length N n s.mem G.mem hn))
            (L.touch-length d p ∙ len) (L.touch-orderly d p fine place);
        place = rw (L.touch-length d p) place;
        mine = L.touch-mine d n p p fine place (L.put-mine s.dir n p tag false G.orderly Q.place hn
            Q.mine);
      }))
      (λ h.
      let G = Q.good in
      rw h
      (record {
        good = replaced s p (zeros 64) (P.clear s.dir p) G Q.place (length-zeros 64) (L.clear-length s.dir p)
            (L.clear-orderly s.dir p G.orderly Q.place);
        place = rw (L.clear-length s.dir p) Q.place;
        mine = L.clear-mine s.dir n p p G.orderly Q.place Q.mine;
      }))

  pub ready-placed : (s : Cached) (tag : Tag) (n p : ℕ) → n < N → Placed n p s
      → Placed n p (ready_place c P tag n p s).state
  unfolding ready_place then_do
  ready-placed s tag n p hn Q =
      by_test (serves (P.look s.dir p) tag n)
      (λ h. rw h (hit_placed s n p Q))
      (λ h. rw h (fill_placed (evict_place c P p s).state tag n p hn (evict-placed s n p Q)))

  pub write_good : (s : Cached) (tag : Tag) (n p : ℕ) (write : Bool) (change : List ℕ → List ℕ) → n < N
      → (write ≡ true → tag ≡ secure_instruction → ⊥)
      → ((l : List ℕ) → length l ≡ 64 → length (change l) ≡ 64) → Placed n p s
      → Good P L N C (write_place P tag n p write change s)
  unfolding write_place
  write_good s tag n p true change hn t z Q =
      let G = Q.good in
      replaced s p (change (line_at p s.cache)) (P.put s.dir p (holding n tag true)) G Q.place
      (z (line_at p s.cache) (line-length (length s.dir) p s.cache G.cache Q.place))
      (L.put-length s.dir p (holding n tag true))
      (L.put-orderly s.dir n p tag true G.orderly Q.place hn Q.mine
      (record { tame = λ e. absurd (t refl e) }))
  write_good s tag n p false change hn t z Q = Q.good

  -- an access at the place chosen for its line
  pub access-good : (s : Cached) (tag : Tag) (n p : ℕ) (write : Bool) (change : List ℕ → List ℕ) → n < N
      → (write ≡ true → tag ≡ secure_instruction → ⊥)
      → ((l : List ℕ) → length l ≡ 64 → length (change l) ≡ 64) → Placed n p s
      → Good P L N C (access_place c P tag n p write change s).state
  unfolding access_place
  access-good s tag n p write change hn t z Q =
      let r = ready_place c P tag n p s in
      write_good r.state tag n p (r.ok && write) change hn (λ e. t (both_hold r.ok write e).1) z
      (ready-placed s tag n p hn Q)

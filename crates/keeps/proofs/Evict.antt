-- What evicting does to the directory, and that it keeps a memory good.
use Prim.Native.Nat.{ℕ, ◌<◌}
use mathlib.Core.Path.{◌≡◌, ◌∙◌}
use mathlib.Core.Logic.{◌≢◌}
use mathlib.Core.Bool.{true, false}
use mathlib.Core.List.{List}
use lib.ListN.{length}
use Rattle.lists.specs.Bytes.{zeros}
use Rattle.lists.proofs.ByteLaws.{length-zeros}
use Rattle.lists.proofs.Cases.{by_test}
use Rattle.lists.proofs.NthLaws.{nth_put-length}
use Rattle.model.specs.Cipher.{Cipher}
use Rattle.model.specs.CipherLaws.{CipherLaws}
use Rattle.model.specs.Lines.{line_at, put_line, mac_at, put_mac, stored, signed}
use Rattle.model.specs.Placement.{Entry, Placement}
use Rattle.model.specs.PlacementLaws.{PlacementLaws}
use Rattle.model.specs.Cached.{Cached, evict_place}
use Rattle.model.proofs.LineLaws.{line-length, mac-length, stored-length, signed-length}
use Rattle.keeps.specs.Good.{Good}

module _ (c : Cipher) (CL : CipherLaws c) (P : Placement) (L : PlacementLaws P) (N C : ℕ) where
  -- the directory keeps its length, the slot is empty, the other places are as they were, and a place stays its line's
  pub evict-length : (s : Cached) (p : ℕ) → length (evict_place c P p s).state.dir ≡ length s.dir
  unfolding evict_place
  evict-length s p = by_test (P.look s.dir p).used (λ h. rw h (L.clear-length s.dir p)) (λ h. rw h)

  pub evict-here : (s : Cached) (p : ℕ) → p < length s.dir → (P.look (evict_place c P p s).state.dir
      p).used ≡ false
  unfolding evict_place
  evict-here s p hp = by_test (P.look s.dir p).used (λ h. rw h (L.clear-here s.dir p hp)) (λ h. rw h h)

  pub evict_other : (s : Cached) (p q : ℕ) → q ≢ p → P.look (evict_place c P p s).state.dir q ≡ P.look
      s.dir q
  unfolding evict_place
  evict_other s p q d = by_test (P.look s.dir p).used (λ h. rw h (L.clear_other s.dir p q d)) (λ h. rw h)

  pub evict-mine : (s : Cached) (p n q : ℕ) → L.Orderly N s.dir → p < length s.dir
      → L.Mine N s.dir n q → L.Mine N (evict_place c P p s).state.dir n q
  unfolding evict_place
  evict-mine s p n q o hp m = by_test (P.look s.dir p).used (λ h. rw h (L.clear-mine s.dir n q p o hp m))
      (λ h. rw h m)

  -- an empty slot changes nothing
  pub evict-empty : (s : Cached) (p : ℕ) → L.Orderly N s.dir → p < length s.dir
      → (P.look s.dir p).used ≡ false → (evict_place c P p s).state ≡ s
  unfolding evict_place
  evict-empty s p o hp h = rw (L.empty_clean s.dir p o hp h, h)

  -- the line that a used slot would write back, and its MAC entry, have their sizes
  module _ (s : Cached) (p : ℕ) (G : Good P L N C s) (hp : p < length s.dir)
      (h : (P.look s.dir p).used ≡ true) where
    abbrev pub entry : Entry
    entry = P.look s.dir p

    abbrev pub home_line : List ℕ
    home_line = stored c entry.tag s.key entry.line (line_at p s.cache)

    abbrev pub home_mac : List ℕ
    home_mac = signed c entry.tag s.key entry.line home_line (mac_at entry.line s.macs)

    pub in_memory : entry.line < N
    in_memory = L.held-line s.dir p G.orderly hp h

    pub home-line : length home_line ≡ 64
    home-line = stored-length c CL s.key entry.line entry.tag (line_at p s.cache)
        (line-length (length s.dir) p s.cache G.cache hp)

    pub home-mac : length home_mac ≡ 16
    home-mac =
        signed-length c CL s.key entry.line entry.tag home_line (mac_at entry.line s.macs) home-line
        (mac-length N entry.line s.macs G.macs in_memory)

  pub evict-good : (s : Cached) (p : ℕ) → Good P L N C s → p < length s.dir
      → Good P L N C (evict_place c P p s).state
  unfolding evict_place put_line put_mac
  evict-good s p G hp =
      by_test (P.look s.dir p).used
      (λ h.
      let e = P.look s.dir p in
      rw h
      (record {
        mem = nth_put-length 64 N s.mem G.mem e.dirty e.line (home_line s p G hp h) (in_memory s p G hp h)
            (home-line s p G hp h);
        macs = nth_put-length 16 N s.macs G.macs e.dirty e.line (home_mac s p G hp h) (in_memory s p G hp h)
            (home-mac s p G hp h);
        cache = rw (L.clear-length s.dir p) (nth_put-length 64 (length s.dir) s.cache G.cache true p
            (zeros 64) hp (length-zeros 64));
        places = L.clear-length s.dir p ∙ G.places;
        orderly = L.clear-orderly s.dir p G.orderly hp;
      }))
      (λ h. rw (evict-empty s p G.orderly hp h) G)

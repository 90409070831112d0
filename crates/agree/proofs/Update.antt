-- A change of one slot and of the one line that it concerns keeps the agreement, if that slot and that line agree
-- again: the one argument behind evict, fill and write.
use Prim.Native.Nat.{ℕ, ◌*◌, ◌<◌}
use mathlib.Core.Path.{◌≡◌, sym, ap, ◌∙◌, subst}
use mathlib.Core.Logic.{◌≢◌}
use mathlib.Core.Bool.{true, false}
use mathlib.Core.List.{List}
use lib.ListN.{length}
use Rattle.lists.specs.Bytes.{Bytes}
use Rattle.lists.proofs.Cases.{by-eq, by_test}
use Rattle.model.specs.Cipher.{Cipher}
use Rattle.model.specs.CipherLaws.{Sized}
use Rattle.model.specs.Lines.{line_at, mac_at}
use Rattle.model.specs.Placement.{Entry, Placement}
use Rattle.model.specs.PlacementLaws.{PlacementLaws}
use Rattle.model.specs.Uncached.{Uncached}
use Rattle.model.specs.Cached.{Cached}
use Rattle.keeps.specs.Good.{Good}
use Rattle.agree.specs.Agree.{Held, HeldAt, Free, Same, Agree}

-- a held line after the lists around it were replaced by equal ones
pub held_moves : (c : Cipher) (e : Entry) {key key' l m h g b l' m' h' g' b' : List ℕ} → key ≡ key'
    → l ≡ l' → m ≡ m' → h ≡ h' → g ≡ g' → b ≡ b' → Held c key e l m h g b
    → Held c key' e l' m' h' g' b'
held_moves c e k p q r t v H = rw (← k, ← p, ← q, ← r, ← t, ← v) H

module _ (c : Cipher) (P : Placement) (L : PlacementLaws P) (N C : ℕ) where
  -- two used places that hold one line are one place
  pub one_place : (d : List ℕ) (p q : ℕ) → L.Orderly N d → p < length d → q < length d
      → (P.look d p).used ≡ true → (P.look d q).used ≡ true → (P.look d q).line ≡ (P.look d p).line
      → q ≡ p
  one_place d p q o hp hq up uq e = sym (L.held-chosen d q o hq uq)
      ∙ (ap (P.choose d) e ∙ L.held-chosen d p o hp up)

  -- only slot p and line n changed
  pub record Updated (n p : ℕ) (u u' : Uncached) (s s' : Cached) : Type 0 where
    -- line n was at p if it was anywhere, and p holds line n if it holds anything
    pub occupant : (P.look s.dir p).used ≡ true → (P.look s.dir p).line ≡ n
    pub alone : (q : ℕ) → q ≢ p → q < length s.dir → (P.look s.dir q).used ≡ true
        → (P.look s.dir q).line ≢ n
    pub named : (P.look s'.dir p).used ≡ true → (P.look s'.dir p).line ≡ n
    -- what stands
    pub plain_key : u'.key ≡ u.key
    pub key : s'.key ≡ s.key
    pub looks : (q : ℕ) → q ≢ p → P.look s'.dir q ≡ P.look s.dir q
    pub slots : (q : ℕ) → q ≢ p → line_at q s'.cache ≡ line_at q s.cache
    pub plain_lines : (i : ℕ) → i ≢ n → line_at i u'.mem ≡ line_at i u.mem
    pub plain_macs : (i : ℕ) → i ≢ n → mac_at i u'.macs ≡ mac_at i u.macs
    pub lines : (i : ℕ) → i ≢ n → line_at i s'.mem ≡ line_at i s.mem
    pub macs : (i : ℕ) → i ≢ n → mac_at i s'.macs ≡ mac_at i s.macs
    -- sizes
    pub plain_mem_size : Sized (N * 64) u'.mem
    pub plain_macs_size : length u'.macs ≡ N * 16
    pub bytes : Bytes s'.mem
    pub good : Good P L N C s'
    -- the slot and the line agree again
    pub here : (P.look s'.dir p).used ≡ true → HeldAt c (P.look s'.dir p) p u' s'
    pub home : (P.look s'.dir p).used ≡ false → Same n u' s'

  module _ (n p : ℕ) (u u' : Uncached) (s s' : Cached) (A : Agree c P L N C u s) (hp : p < length s.dir)
      (U : Updated n p u u' s s') where
    same-places : length s'.dir ≡ length s.dir
    same-places = U.good.places ∙ sym A.good.places

    others : (q : ℕ) → q ≢ p → q < length s.dir → (P.look s.dir q).used ≡ true
        → HeldAt c (P.look s.dir q) q u' s'
    others q d hq w =
        let i = (P.look s.dir q).line in
        let a : i ≢ n = U.alone q d hq w in
        held_moves c (P.look s.dir q) (sym U.key) (sym (U.plain_lines i a)) (sym (U.plain_macs i a))
        (sym (U.lines i a)) (sym (U.macs i a)) (sym (U.slots q d))
        (A.held q hq w)

    -- another line that no place holds now was held by no place before
    was_free : (i : ℕ) → i ≢ n → Free P s'.dir i → Free P s.dir i
    was_free i a f =
        record {
          nowhere =
              λ q hq w z.
              by-eq q p
              (λ b. a (sym z ∙ (ap (λ (r : ℕ). (P.look s.dir r).line) b
              ∙ U.occupant (subst (λ (r : ℕ). (P.look s.dir r).used ≡ true) b w))))
              (λ b. f.nowhere q (rw same-places hq) (rw (U.looks q b) w) (rw (U.looks q b) z));
        }

    elsewhere : (i : ℕ) → i ≢ n → i < N → Free P s'.dir i → Same i u' s'
    elsewhere i a hi f =
        let z : Same i u s = A.free i hi (was_free i a f) in
        record {
          lines = U.plain_lines i a ∙ (z.lines ∙ sym (U.lines i a));
          macs = U.plain_macs i a ∙ (z.macs ∙ sym (U.macs i a));
        }

    pub update_agrees : Agree c P L N C u' s'
    update_agrees =
        record {
          keys = U.plain_key ∙ (A.keys ∙ sym U.key);
          key = rw U.key A.key;
          plain_mem = U.plain_mem_size;
          plain_macs = U.plain_macs_size;
          bytes = U.bytes;
          good = U.good;
          held =
              λ q hq w.
              by-eq q p
              (λ a. rw a (U.here (subst (λ (r : ℕ). (P.look s'.dir r).used ≡ true) a w)))
              (λ a. rw (U.looks q a) (others q a (rw same-places at hq) (rw (U.looks q a) at w)));
          free =
              λ i hi f.
              by-eq i n
              (λ a.
              by_test (P.look s'.dir p).used
              (λ w. absurd (f.nowhere p (rw same-places hp) w (U.named w ∙ sym a)))
              (λ w. rw a (U.home w)))
              (λ a. elsewhere i a hi f);
        }

-- Packing an entry into a number and looking at it again; which numbers are right in a slot.
use Prim.Native.Nat.{ℕ, ◌+◌, ◌*◌, ◌/◌, ◌%◌, ◌<◌, ◌≤◌}
use native.Mathlib.Omega.{arith}
use mathlib.Core.Path.{◌≡◌, refl, sym, ◌∙◌}
use mathlib.Core.Bool.{Bool, true, false, ◌&&◌, ◌||◌, not, false≢true}
use lib.Dec.{eqb, leb, ltb}
use borrow.Author.Tests.{eq-eqb, ne_eqb, eqb-true, le-leb, leb-true, lt-ltb, ltb-true}
use Rattle.lists.specs.If.{if}
use Rattle.lists.proofs.Cases.{by-eq, by_test, both_hold}
use Rattle.model.specs.Tags.{Tag, no_tag, secure_instruction, secure_data, tag_number, tag_named}
use Rattle.model.specs.Placement.{empty, holding}
use Rattle.model.specs.PlacementLaws.{Tame}
use Rattle.model.specs.Cached.{serves, holds}
use Rattle.model.proofs.LineLaws.{same_tag_refl}
use Rattle.directory.specs.Numbers.{used_of, tag_of, dirty_of, line_of, entry_of, number_of, is_number}
use Rattle.directory.specs.Direct.{fine}
use Rattle.directory.proofs.TagLaws.{number-named, named-number, number-le, same_tag_false}

-- the number of line n under tag t
abbrev packed : ℕ → ℕ → ℕ → ℕ
packed n t b = 1 + 2 * t + 8 * b + 16 * n

module _ (n t b : ℕ) (hn : n < 1024) (ht : t ≤ 2) (hb : b ≤ 1) where
  packed-used : packed n t b % 2 ≡ 1
  packed-used = omega arith

  packed-tag : packed n t b / 2 % 4 ≡ t
  packed-tag = omega arith

  packed-dirty : packed n t b / 8 % 2 ≡ b
  packed-dirty = omega arith

  packed-line : packed n t b / 16 % 1024 ≡ n
  packed-line = omega arith

  packed-small : packed n t b < 16384
  packed-small = omega arith

bit_le : (b : Bool) → if b 1 0 ≤ 1
bit_le true = omega arith
bit_le false = omega arith

bit_is : (b : Bool) → eqb (if b 1 0) 1 ≡ b
bit_is true = refl
bit_is false = refl

-- an entry is what its number says
pub entry-number : (n : ℕ) (t : Tag) (b : Bool) → n < 1024 → entry_of (number_of (holding n t b)) ≡ holding n t b
unfolding entry_of used_of line_of tag_of dirty_of number_of holding tag_named
entry-number n t b hn =
    let m = tag_number t in
    let k : ℕ = if b 1 0 in
    let ht = number-le t in
    let hb = bit_le b in
    rw (
      packed-used n m k hn ht hb,
      packed-line n m k hn ht hb,
      packed-tag n m k hn ht hb,
      packed-dirty n m k hn ht hb,
      bit_is b,
      named-number t,
    )

-- the fields of an empty slot are zero
pub entry_zero : entry_of 0 ≡ empty
unfolding entry_of used_of line_of tag_of dirty_of empty
entry_zero = refl

-- the number that the code makes
pub number_clean : (n : ℕ) (t : Tag) (b : Bool) → b ≡ false
    → 1 + 2 * tag_number t + 16 * n ≡ number_of (holding n t b)
unfolding number_of holding
number_clean n t b e = rw e (omega arith)

pub number-dirty : (n : ℕ) (t : Tag) (b : Bool) → b ≡ true
    → 1 + 2 * tag_number t + 16 * n + 8 ≡ number_of (holding n t b)
unfolding number_of holding
number-dirty n t b e = rw e (omega arith)

-- a number other than 0 that is right in slot p, bit by bit
pub record Sits (N C p d : ℕ) : Type 0 where
  pub odd : d % 2 ≡ 1
  pub tag : d / 2 % 4 ≤ 2
  pub small : d < 16384
  pub slot : d / 16 % C ≡ p
  pub line : d / 16 < N
  pub tame : d / 2 % 4 ≡ 1 → d / 8 % 2 ≡ 1 → ⊥

small_line : (d : ℕ) → d < 16384 → d / 16 % 1024 ≡ d / 16
small_line d h = omega arith

number_bits : (d : ℕ) → is_number d ≡ true → (d ≡ 0 → ⊥) → (d % 2 ≡ 1)
    × ((d / 2 % 4 ≤ 2) × (d < 16384))
unfolding is_number used_of
number_bits d h z =
    let a = both_hold (eqb (d % 2) 1) (leb (d / 2 % 4) 2 && ltb d 16384) (rw (ne_eqb d 0 z) at h) in
    let b = both_hold (leb (d / 2 % 4) 2) (ltb d 16384) a.1 in
    (eqb-true (d % 2) 1 a.0, (leb-true (d / 2 % 4) 2 b.0, ltb-true d 16384 b.1))

-- the tag of a directory number exists
pub number-tag : (d : ℕ) → is_number d ≡ true → d / 2 % 4 ≤ 2
number-tag d h = by-eq d 0 (λ e. omega arith) (λ z. (number_bits d h z).1.0)

not_both : (a b : ℕ) → not (eqb a 1 && eqb b 1) ≡ true → a ≡ 1 → b ≡ 1 → ⊥
not_both a b h e f = false≢true (rw (eq-eqb a 1 e, eq-eqb b 1 f) at h)

both_not : (a b : ℕ) → (a ≡ 1 → b ≡ 1 → ⊥) → not (eqb a 1 && eqb b 1) ≡ true
both_not a b h =
    by-eq a 1 (λ e. rw (eq-eqb a 1 e, ne_eqb b 1 (h e))) (λ z. rw (ne_eqb a 1 z))

module _ (N C p d : ℕ) where
  pub fine-number : fine N C p d ≡ true → is_number d ≡ true
  unfolding fine
  fine-number h =
      (both_hold (is_number d)
      (eqb d 0 || (eqb (line_of d % C) p && (ltb (line_of d) N && not (eqb (d / 2 % 4) 1 && dirty_of d)))) h).0

  pub fine-sits : fine N C p d ≡ true → (d ≡ 0 → ⊥) → Sits N C p d
  unfolding fine line_of dirty_of
  fine-sits h z =
      let n = number_bits d (fine-number h) z in
      let m = small_line d n.1.1 in
      let t = not (eqb (d / 2 % 4) 1 && eqb (d / 8 % 2) 1) in
      let tests = eqb (d / 16 % 1024 % C) p && (ltb (d / 16 % 1024) N && t) in
      let r : tests ≡ true = rw (ne_eqb d 0 z) at (both_hold (is_number d) (eqb d 0 || tests) h).1 in
      let a = both_hold (eqb (d / 16 % 1024 % C) p) (ltb (d / 16 % 1024) N && t) r in
      let b = both_hold (ltb (d / 16 % 1024) N) t a.1 in
      record {
        odd = n.0;
        tag = n.1.0;
        small = n.1.1;
        slot = rw m at (eqb-true (d / 16 % 1024 % C) p a.0);
        line = rw m at (ltb-true (d / 16 % 1024) N b.0);
        tame = not_both (d / 2 % 4) (d / 8 % 2) b.1;
      }

  pub sits-fine : Sits N C p d → fine N C p d ≡ true
  unfolding fine is_number used_of line_of dirty_of
  sits-fine s =
      let z : d ≡ 0 → ⊥ = λ e. omega (arith, s.odd) in
      rw (
        ne_eqb d 0 z,
        eq-eqb (d % 2) 1 s.odd,
        le-leb (d / 2 % 4) 2 s.tag,
        lt-ltb d 16384 s.small,
        small_line d s.small,
        eq-eqb (d / 16 % C) p s.slot,
        lt-ltb (d / 16) N s.line,
        both_not (d / 2 % 4) (d / 8 % 2) s.tame,
      )

  pub zero_fine : d ≡ 0 → fine N C p d ≡ true
  unfolding fine is_number
  zero_fine e = rw e

  -- a number that could only be right in the slot by sitting there wrongly is not right
  pub unfit_fine : (d ≡ 0 → ⊥) → (Sits N C p d → ⊥) → fine N C p d ≡ false
  unfit_fine z wrong = by_test (fine N C p d) (λ h. absurd (wrong (fine-sits h z))) (λ h. h)

  -- an unused number that is right is 0
  pub fine-unused : fine N C p d ≡ true → used_of d ≡ false → d ≡ 0
  unfolding used_of
  fine-unused h u =
      by-eq d 0 (λ e. e) (λ z. absurd (false≢true (sym u ∙ eq-eqb (d % 2) 1 (fine-sits h z).odd)))

-- the tests of the code: the low four bits of a right number are not those of a dirty line under tag 1
pub fine_tests : (N C p d : ℕ) → N ≤ 1024
    → fine N C p d ≡ (eqb d 0 || (ltb (d / 16) N && (eqb (d / 16 % C) p && (eqb (d % 2) 1
    && (not (eqb (d / 2 % 4) 3) && not (eqb (d % 16) 11))))))
fine_tests N C p d hN = by-eq d 0 (λ e. rw (eq-eqb d 0 e) (zero_fine N C p d e)) (λ z. rw (ne_eqb d 0 z) (line z))
  where
    unfit : (d ≡ 0 → ⊥) → (Sits N C p d → ⊥) → fine N C p d ≡ false
    unfit = unfit_fine N C p d

    sits : d / 16 < N → d / 16 % C ≡ p → d % 2 ≡ 1 → (d / 2 % 4 ≡ 3 → ⊥) → (d % 16 ≡ 11 → ⊥) → Sits N C p d
    sits line slot odd tag q =
        record {
          odd = odd;
          tag = omega arith;
          small = omega arith;
          slot = slot;
          line = line;
          tame = λ t b. q (omega (arith, odd, t, b));
        }

    low : (d ≡ 0 → ⊥) → d / 16 < N → d / 16 % C ≡ p → d % 2 ≡ 1 → fine N C p d
        ≡ (not (eqb (d / 2 % 4) 3) && not (eqb (d % 16) 11))
    low z l s odd =
        by-eq (d / 2 % 4) 3 (λ q. rw (eq-eqb (d / 2 % 4) 3 q) (unfit z (λ s. omega (arith, s.tag))))
        (λ tag.
        rw (ne_eqb (d / 2 % 4) 3 tag)
        (by-eq (d % 16) 11
        (λ q. rw (eq-eqb (d % 16) 11 q) (unfit z (λ s. s.tame (omega (arith, q)) (omega (arith, q)))))
        (λ q. rw (ne_eqb (d % 16) 11 q) (sits-fine N C p d (sits l s odd tag q)))))

    slot : (d ≡ 0 → ⊥) → d / 16 < N → fine N C p d ≡ (eqb (d / 16 % C) p && (eqb (d % 2) 1
        && (not (eqb (d / 2 % 4) 3) && not (eqb (d % 16) 11))))
    slot z l =
        by-eq (d / 16 % C) p
        (λ s.
        rw (eq-eqb (d / 16 % C) p s)
        (by-eq (d % 2) 1 (λ odd. rw (eq-eqb (d % 2) 1 odd) (low z l s odd))
        (λ even. rw (ne_eqb (d % 2) 1 even) (unfit z (λ s. even s.odd)))))
        (λ other. rw (ne_eqb (d / 16 % C) p other) (unfit z (λ s. other s.slot)))

    line : (d ≡ 0 → ⊥) → fine N C p d ≡ (ltb (d / 16) N && (eqb (d / 16 % C) p && (eqb (d % 2) 1
        && (not (eqb (d / 2 % 4) 3) && not (eqb (d % 16) 11)))))
    line z =
        by_test (ltb (d / 16) N) (λ a. rw a (slot z (ltb-true (d / 16) N a)))
        (λ b. rw b (unfit z (λ s. false≢true (sym b ∙ lt-ltb (d / 16) N s.line))))

-- a used number that is right in its slot
pub record Right (N C p d : ℕ) : Type 0 where
  pub slot : line_of d % C ≡ p
  pub line : line_of d < N
  pub tame : Tame (tag_of d) (dirty_of d)

-- the tag is Secure Instruction only where bits 1-2 say so
tag_one : (d : ℕ) → tag_of d ≡ secure_instruction → d / 2 % 4 ≡ 1
unfolding tag_of
tag_one d e = go (eqb (d / 2 % 4) 1) (eqb (d / 2 % 4) 2) e (eqb-true (d / 2 % 4) 1)
  where
    go : (a b : Bool) → if a secure_instruction (if b secure_data no_tag) ≡ secure_instruction
        → (a ≡ true → d / 2 % 4 ≡ 1) → d / 2 % 4 ≡ 1
    go true b h f = f refl
    go false true h f = let z : ◌≡◌ {A = ℕ} 0 1 = cc in absurd (omega arith)
    go false false h f = let z : ◌≡◌ {A = ℕ} 0 1 = cc in absurd (omega arith)

pub fine-used : (N C p d : ℕ) → fine N C p d ≡ true → used_of d ≡ true → Right N C p d
unfolding used_of line_of dirty_of
fine-used N C p d h u =
    let z : d ≡ 0 → ⊥ = λ e. omega (arith, eqb-true (d % 2) 1 u) in
    let s = fine-sits N C p d h z in
    let m = small_line d s.small in
    record {
      slot = rw m s.slot;
      line = rw m s.line;
      tame =
          record { tame = λ e. ne_eqb (d / 8 % 2) 1 (s.tame (tag_one d e)) };
    }

-- a tame entry's bits are tame
tame_bits : (t : Tag) (b : Bool) → Tame t b → tag_number t ≡ 1 → ◌≡◌ {A = ℕ} (if b 1 0) 1 → ⊥
unfolding tag_number
tame_bits no_tag b h e f = omega arith
tame_bits secure_instruction b h e f = let g : ◌≡◌ {A = ℕ} (if b 1 0) 0 = rw (h.tame refl) in omega arith
tame_bits secure_data b h e f = omega arith

-- a line put into its own slot gets a number that is right there
pub number-fine : (N C p n : ℕ) (t : Tag) (b : Bool) → N ≤ 1024 → n < N → n % C ≡ p → Tame t b
    → fine N C p (number_of (holding n t b)) ≡ true
unfolding number_of holding
number-fine N C p n t b hN hn e h =
    let m = tag_number t in
    let k : ℕ = if b 1 0 in
    let small : n < 1024 = omega arith in
    let ht = number-le t in
    let hb = bit_le b in
    let q : packed n m k / 16 ≡ n = omega arith in
    let tag = packed-tag n m k small ht hb in
    sits-fine N C p (packed n m k)
    (record {
      odd = packed-used n m k small ht hb;
      tag = rw tag ht;
      small = packed-small n m k small ht hb;
      slot = rw q e;
      line = rw q hn;
      tame = rw (tag, packed-dirty n m k small ht hb) (tame_bits t b h);
    })

and_false : (b : Bool) → (b && false) ≡ false
and_false true = refl
and_false false = refl

and_true : (b : Bool) → (b && true) ≡ b
and_true true = refl
and_true false = refl

low-used : (d t : ℕ) → d % 8 ≡ 1 + 2 * t → d % 2 ≡ 1
low-used d t e = omega arith

low-tag : (d t : ℕ) → d % 8 ≡ 1 + 2 * t → t ≤ 2 → d / 2 % 4 ≡ t
low-tag d t e h = omega arith

module _ (d n : ℕ) where
  -- what a number says of holding line n
  pub holds-unused : (entry_of d).used ≡ false → false ≡ holds (entry_of d) n
  unfolding holds
  holds-unused h = rw h

  pub holds-used : (entry_of d).used ≡ true → eqb (entry_of d).line n ≡ holds (entry_of d) n
  unfolding holds
  holds-used h = rw h

  -- what it says of serving an access under the tag: the used bit and the tag at once, and then the line
  serves-empty : (t : Tag) → d % 2 ≡ 0 → false ≡ serves (entry_of d) t n
  unfolding serves entry_of used_of
  serves-empty t h =
      let e : d % 2 ≡ 1 → ⊥ = λ k. omega arith in
      rw (ne_eqb (d % 2) 1 e)

  serves-tag : (t : Tag) → d / 2 % 4 ≤ 2 → (d / 2 % 4 ≡ tag_number t → ⊥) → false ≡ serves (entry_of d) t n
  unfolding serves entry_of tag_of tag_named
  serves-tag t hd h =
      rw (same_tag_false (tag_of d) t (λ e. h (sym (number-named (d / 2 % 4) hd) ∙ e)), and_false (eqb (line_of d) n))
      (sym (and_false (used_of d)))

  pub serves_other : (t : Tag) → is_number d ≡ true → (d % 8 ≡ 1 + 2 * tag_number t → ⊥)
      → false ≡ serves (entry_of d) t n
  serves_other t number h =
      by-eq (d % 2) 0 (serves-empty t)
      (λ (used : d % 2 ≡ 0 → ⊥).
      serves-tag t (number-tag d number) (λ (e : d / 2 % 4 ≡ tag_number t). h (omega (arith, used, e))))

  pub serves-same : (t : Tag) → d % 8 ≡ 1 + 2 * tag_number t → eqb (entry_of d).line n ≡ serves (entry_of d) t n
  unfolding serves entry_of used_of tag_of tag_named
  serves-same t e =
      let u : d % 2 ≡ 1 = low-used d (tag_number t) e in
      let f : d / 2 % 4 ≡ tag_number t = low-tag d (tag_number t) e (number-le t) in
      rw (f, eq-eqb (d % 2) 1 u, named-number t, same_tag_refl t) (sym (and_true (eqb (line_of d) n)))

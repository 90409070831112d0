-- The key schedule, four words at a time, and how far the code has laid it down.
use mathlib.Core.Path.{◌≡◌, refl, sym, ap, ap₂, ◌∙◌}
use mathlib.Core.List.{List, [], ◌∷◌, ◌++◌, append_assoc, append-nil}
use Prim.Native.Nat.{ℕ, suc, ◌+◌, ◌-◌, ◌*◌, ◌/◌, ◌%◌, ◌≤◌, ◌<◌}
use native.Mathlib.Numerals.{add-one, add-two, add-three}
use native.Mathlib.Omega.{arith}
use borrow.Author.Tests.{eq-eqb, ne_eqb}
use lib.ListN.{length, take, drop, length-append, length-set}
use lib.Seq.{sets-eq, take_at, take_all, length-take-le}
use Rattle.field.specs.Field.{◌⊕◌, sub_byte}
use Rattle.field.specs.Mixing.{word}
use Rattle.field.specs.Table.{Table}
use Rattle.columns.specs.declared.Columns.{Columns}
use Rattle.aes_standard.specs.State.{at, byte_of}
use Rattle.aes_standard.specs.Schedule.{sub_word, rot_word, rcon, words_from, key_expansion}
use Rattle.columns.specs.Words.{turned, picked_word, substituted_word, NextKey, Loaded, four_set}
use Rattle.aes_standard.proofs.WordBytes.{byte_of-lt}

-- a word turned and substituted by the code is SubWord of RotWord
pub sub_word_lem : (t : List ℕ) (w : ℕ) → Table 256 sub_byte t → substituted_word t w w w w ≡ sub_word w
unfolding picked_word sub_word
sub_word_lem t w h i =
    word (h.entry (byte_of w 0) (byte_of-lt w 0) i) (h.entry (byte_of w 1) (byte_of-lt w 1) i)
    (h.entry (byte_of w 2) (byte_of-lt w 2) i)
    (h.entry (byte_of w 3) (byte_of-lt w 3) i)

pub turned_rot : (w : ℕ) → turned w 3 ≡ rot_word w
unfolding turned rot_word
turned_rot w = refl

-- what the code adds to a fourth word
pub fourth_part : (t : List ℕ) (d v k s : ℕ) → Table 256 sub_byte t → v ≡ turned d 3
    → s ≡ substituted_word t v v v v ⊕ k
    → s ≡ sub_word (rot_word d) ⊕ k
fourth_part t d v k s h e p = p ∙ ap (λ (x : ℕ). x ⊕ k) (sub_word_lem t v h ∙ ap sub_word (e ∙ turned_rot d))

-- a fourth word of the schedule, and a word that is none
words_from-fourth : (n i a b c d e : ℕ) → i % 4 ≡ 0 → e ≡ a ⊕ (sub_word (rot_word d) ⊕ rcon (i / 4))
    → words_from (suc n) i a b c d ≡ e ∷ words_from n (suc i) b c d e
unfolding words_from
words_from-fourth n i a b c d e h p = rw (p, eq-eqb (i % 4) 0 h)

words_from_other : (n i a b c d e : ℕ) → (i % 4 ≡ 0 → ⊥) → e ≡ a ⊕ d
    → words_from (suc n) i a b c d ≡ e ∷ words_from n (suc i) b c d e
unfolding words_from
words_from_other n i a b c d e h p = rw (p, ne_eqb (i % 4) 0 h)

-- the next four words of the schedule, from word 4 r + 4 on
words-four : (n r : ℕ) (x y : Columns) → NextKey x (rcon (r + 1)) y
    → words_from (suc (suc (suc (suc n)))) (r * 4 + 4) x.a x.b x.c x.d
    ≡ y.a ∷ y.b ∷ y.c ∷ y.d ∷ words_from n (r * 4 + 8) y.a y.b y.c y.d
words-four n r x y h =
    words_from-fourth (suc (suc (suc n))) (r * 4 + 4) x.a x.b x.c x.d y.a (omega arith)
    (h.first ∙ ap (λ (k : ℕ). x.a ⊕ (sub_word (rot_word x.d) ⊕ rcon k)) (omega arith))
    ∙ ap (λ (l : List ℕ). y.a ∷ l)
    (words_from_other (suc (suc n)) (suc (r * 4 + 4)) x.b x.c x.d y.a y.b (omega arith) h.second
    ∙ ap (λ (l : List ℕ). y.b ∷ l)
    (words_from_other (suc n) (suc (suc (r * 4 + 4))) x.c x.d y.a y.b y.c (omega arith) h.third
    ∙ ap (λ (l : List ℕ). y.c ∷ l)
    (words_from_other n (suc (suc (suc (r * 4 + 4)))) x.d y.a y.b y.c y.d (omega arith) h.fourth
    ∙ ap (λ (i : ℕ). y.d ∷ words_from n i y.a y.b y.c y.d) (omega arith))))

-- four words laid down behind what was laid before
take-four_set : (w : List ℕ) (k a b c d : ℕ) → length w ≡ 44 → k + 4 ≤ 44
    → take (k + 4) (four_set w k a b c d) ≡ take k w ++ (a ∷ b ∷ c ∷ d ∷ [])
take-four_set w k a b c d len fits =
    let vs : List ℕ = a ∷ b ∷ c ∷ d ∷ [] in
    ap (take (k + 4)) (rw (add-one, add-two, add-three) (sets-eq vs w k (omega arith)))
    ∙ take_at (take k w ++ vs) (drop (k + 4) w) (k + 4)
    (length-append (take k w) vs ∙ ap (λ (n : ℕ). n + 4) (length-take-le k w (omega arith)))

-- the first r + 1 round keys are laid down, and x is the last of them
pub record LaidTo (key : List ℕ) (r : ℕ) (w : List ℕ) (x : Columns) : Type 0 where
  pub size : length w ≡ 44
  pub rest : take (r * 4 + 4) w ++ words_from (40 - r * 4) (r * 4 + 4) x.a x.b x.c x.d ≡ key_expansion key

-- the start: the key's own four words
pub laid_first : (key w : List ℕ) (x : Columns) → length w ≡ 44 → Loaded key x
    → LaidTo key 0 (four_set w 0 x.a x.b x.c x.d) x
unfolding key_expansion
laid_first key w x len h =
    record {
      size = simp length-set len;
      rest =
          ap (λ (l : List ℕ). l ++ words_from 40 4 x.a x.b x.c x.d)
          (take-four_set w 0 x.a x.b x.c x.d len (omega arith))
          ∙ rw (h.first, h.second, h.third, h.fourth);
    }

-- a round key more
pub laid_next : (key w : List ℕ) (r : ℕ) (x y : Columns) → r < 10 → NextKey x (rcon (r + 1)) y
    → LaidTo key r w x
    → LaidTo key (r + 1) (four_set w ((r + 1) * 4) y.a y.b y.c y.d) y
laid_next key w r x y lt h before =
    let left : 40 - (r + 1) * 4 ≡ 36 - r * 4 = omega arith in
    let four : suc (suc (suc (suc (36 - r * 4)))) ≡ 40 - r * 4 = omega arith in
    let place : (r + 1) * 4 + 4 ≡ r * 4 + 8 = omega arith in
    let so_far : (r + 1) * 4 ≡ r * 4 + 4 = omega arith in
    record {
      size = simp length-set before.size;
      rest =
          ap₂ (λ (l m : List ℕ). l ++ m)
          (take-four_set w ((r + 1) * 4) y.a y.b y.c y.d before.size (omega arith))
          (ap₂ (λ (n i : ℕ). words_from n i y.a y.b y.c y.d) left place)
          ∙ append_assoc (take ((r + 1) * 4) w) (y.a ∷ y.b ∷ y.c ∷ y.d ∷ [])
          (words_from (36 - r * 4) (r * 4 + 8) y.a y.b y.c y.d)
          ∙ ap₂ (λ (n : ℕ) (m : List ℕ). take n w ++ m) so_far
          (sym (words-four (36 - r * 4) r x y h)
          ∙ ap (λ (n : ℕ). words_from n (r * 4 + 4) x.a x.b x.c x.d) four)
          ∙ before.rest;
    }

-- the end: all of the schedule
pub laid_all : (key w : List ℕ) (r : ℕ) (x : Columns) → r ≡ 10 → LaidTo key r w x → w ≡ key_expansion key
unfolding words_from
laid_all key w r x ten h = all (rw ten at h)
  where
    all : LaidTo key 10 w x → w ≡ key_expansion key
    all h = sym (append-nil w) ∙ ap (λ (l : List ℕ). l ++ []) (sym (take_all 44 w (omega (arith, h.size))))
        ∙ h.rest

-- the code's table of round constants holds Rcon[1], Rcon[2], ..
pub with_constant : (constants : List ℕ) (r : ℕ) (x y : Columns) → Table 10 (λ k. rcon (k + 1)) constants
    → r < 10
    → NextKey x (at constants r) y → NextKey x (rcon (r + 1)) y
with_constant constants r x y t lt h = rw (t.entry r lt) at h

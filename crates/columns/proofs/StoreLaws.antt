-- Words laid down in a buffer one after the other, and the bytes of a buffer from a place on, as parts of it.
use mathlib.Core.Path.{◌≡◌, refl, sym, ap, ap₂, ◌∙◌}
use mathlib.Core.List.{List, [], ◌∷◌, ◌++◌, append_assoc, append-nil}
use Prim.Native.Nat.{ℕ, zero, suc, ◌+◌, ◌≤◌, ◌<◌}
use native.Mathlib.Nat.{add-zero, add-suc, suc-add}
use native.Mathlib.Numerals.{add-one, add-two, add-three}
use native.Mathlib.Omega.{arith}
use lib.ListN.{length, take, drop, set}
use lib.Seq.{sets, sets-eq, get_or-take, get_or-drop, drop-length, drop-drop}
use Rattle.lists.specs.Parts.{part_at, put_at}
use Rattle.lists.proofs.PartLaws.{length_part}
use Rattle.aes_standard.specs.State.{at, state, byte_of}
use Rattle.aes_standard.proofs.StateLaws.{tabulate, tabulated}
use Rattle.columns.specs.Words.{four_words, four_set}
use Rattle.aes_standard.proofs.WordBytes.{byte_of-last}
use Rattle.std.specs.Int.{bytes_high_first}
use borrow.Rule.Slice.PartMut.{put_mid}

tabulate-same : (n : ℕ) (f g : ℕ → ℕ) → ((i : ℕ) → i < n → f i ≡ g i)
    → tabulate n f ≡ tabulate n g
tabulate-same zero f g h = refl
tabulate-same (suc n) f g h =
    ap₂ (λ (x : ℕ) (l : List ℕ). x ∷ l) (h 0 (omega arith))
    (tabulate-same n (λ i. f (suc i)) (λ i. g (suc i)) (λ i lt. h (suc i) (omega arith)))

-- the bytes of a buffer from place k on are a part of it
pub tabulate-part_at : (n : ℕ) (l : List ℕ) (k : ℕ) → k + n ≤ length l
    → tabulate n (λ i. at l (k + i)) ≡ part_at k n l
unfolding part_at
tabulate-part_at n l k h =
    tabulate-same n (λ i. at l (k + i)) (at (part_at k n l))
    (λ i lt. sym (get_or-take n (drop k l) i 0 lt ∙ get_or-drop k l i 0))
    ∙ sym (tabulated n (part_at k n l) (length_part k n l h))

-- sixteen of them
pub state-part_at : (l : List ℕ) (k : ℕ) → k + 16 ≤ length l → state (λ i. at l (k + i)) ≡ part_at k 16 l
state-part_at = tabulate-part_at 16

-- sixteen stores in a row replace a part
pub sets_put_at : (l : List ℕ) (k : ℕ) (vs : List ℕ) → k + length vs ≤ length l
    → sets l k vs ≡ put_at k (length vs) vs l
unfolding put_at
sets_put_at l k vs h =
    sets-eq vs l k h ∙ append_assoc (take k l) vs (drop (k + length vs) l)
    ∙ ap (λ (r : List ℕ). take k l ++ (vs ++ r)) (sym (drop-drop (length vs) k l))

-- four words laid down one after the other are laid down in a row
four_sets : (l : List ℕ) (k a b c d : ℕ) → four_set l k a b c d ≡ sets l k (a ∷ b ∷ c ∷ d ∷ [])
four_sets l k a b c d = rw (add-one, add-two, add-three)

sets_more : (xs l : List ℕ) (k : ℕ) (ys : List ℕ) → sets (sets l k xs) (k + length xs) ys ≡ sets l k
    (xs ++ ys)
sets_more [] l k ys = ap (λ (n : ℕ). sets l n ys) (add-zero k)
sets_more (x ∷ xs) l k ys = ap (λ (n : ℕ). sets (sets (set l k x) (suc k) xs) n ys)
    (add-suc k (length xs) ∙ sym (suc-add k (length xs))) ∙ sets_more xs (set l k x) (suc k) ys

-- the four bytes of a word
abbrev word_bytes : ℕ → List ℕ
word_bytes x = byte_of x 0 ∷ byte_of x 1 ∷ byte_of x 2 ∷ byte_of x 3 ∷ []

-- one word more behind those that were laid down
word_more : (xs l r z : List ℕ) (k x : ℕ) → r ≡ sets l k xs
    → z ≡ four_set r (k + length xs) (byte_of x 0) (byte_of x 1) (byte_of x 2) (byte_of x 3)
    → z ≡ sets l k (xs ++ word_bytes x)
word_more xs l r z k x p q =
    q ∙ four_sets r (k + length xs) (byte_of x 0) (byte_of x 1) (byte_of x 2) (byte_of x 3)
    ∙ ap (λ (m : List ℕ). sets m (k + length xs) (word_bytes x)) p ∙ sets_more xs l k (word_bytes x)

-- a list that is replaced whole
pub put_at-all : (n : ℕ) (x l : List ℕ) → length l ≡ n → put_at 0 n x l ≡ x
unfolding put_at
put_at-all n x l e = ap (λ (r : List ℕ). x ++ r) (ap (λ (k : ℕ). drop k l) (sym e) ∙ drop-length l)
    ∙ append-nil x

-- the code's four words, laid down one after the other, replace a part
pub four_words-stored : (l p q r z : List ℕ) (k a b c d : ℕ) → k + 16 ≤ length l
    → p ≡ four_set l k (byte_of a 0) (byte_of a 1) (byte_of a 2) (byte_of a 3)
    → q ≡ four_set p (k + 4) (byte_of b 0) (byte_of b 1) (byte_of b 2) (byte_of b 3)
    → r ≡ four_set q (k + 8) (byte_of c 0) (byte_of c 1) (byte_of c 2) (byte_of c 3)
    → z ≡ four_set r (k + 12) (byte_of d 0) (byte_of d 1) (byte_of d 2) (byte_of d 3)
    → z ≡ put_at k 16 (four_words a b c d) l
four_words-stored l p q r z k a b c d h e f g i =
    word_more (word_bytes a ++ word_bytes b ++ word_bytes c) l r z k d
    (word_more (word_bytes a ++ word_bytes b) l q r k c
    (word_more (word_bytes a) l p q k b (e ∙ four_sets l k (byte_of a 0) (byte_of a 1) (byte_of a 2) (byte_of a 3)) f) g) i
    ∙ sets_put_at l k (four_words a b c d) h

-- the four bytes of a word, copied from place k on
pub word_laid : (l bytes : List ℕ) (k n x : ℕ) → k + 4 ≤ length l → n ≡ 4 → bytes ≡ bytes_high_first 4 x
    → put_mid k n l bytes ≡ four_set l k (byte_of x 0) (byte_of x 1) (byte_of x 2) (byte_of x 3)
unfolding byte_of put_at
word_laid l bytes k n x h e f =
    ap₂ (λ (m : ℕ) (ys : List ℕ). put_mid k m l ys) e
    (f ∙ (λ i. byte_of x 0 ∷ byte_of x 1 ∷ byte_of x 2 ∷ byte_of-last x i ∷ []))
    ∙ sym (four_sets l k (byte_of x 0) (byte_of x 1) (byte_of x 2) (byte_of x 3) ∙ sets_put_at l k (word_bytes x) h)

-- Laws of digits and of the numbers that they say.
use Rattle.std.proofs.Common.{◌≡◌, ℕ, ◌+◌, ◌-◌, ◌*◌, ◌<◌, ◌≤◌, Bool, true, false, List, length, get_or, take, drop, drop_of_length-le, drop-cons, length-drop, take_all, refl, slice_index, ap, ◌%◌, ◌^◌, ◌≢◌, arith, add-one, cond, le-ltb, eq-eqb, ne_eqb}
use Rattle.std.specs.Char.{digit_value}
use Rattle.std.proofs.lemmas.Bool.Decides.{nat_tests}
use Rattle.lists.specs.If.{if}
use Rattle.board_numbers.specs.Digits.{digit_of, value_from, value_of, zero_of, number_of}

-- the two ways of choosing by a test are one
if_is-cond : (b : Bool) (x y : ℕ) → if b x y ≡ cond b x y
if_is-cond true x y = refl
if_is-cond false x y = refl

-- a digit in a base up to 16, as the library reads it, has the value that its letter says
pub digit_same : (base c : ℕ) → base ≤ 16 → digit_value c < base → digit_of c ≡ digit_value c
unfolding digit_of
digit_same base c most below = grind (arith, nat_tests, if_is-cond)

-- one digit more
pub value_more : (base acc : ℕ) (l : List ℕ) (i : ℕ) → i < length l
    → value_from base acc (drop i l) ≡ value_from base (acc * base + digit_of (get_or l i 0)) (drop (i + 1) l)
unfolding value_from
value_more base acc l i h = rw (drop-cons l i 0 h, add-one)

-- no digit left
pub value-done : (base acc : ℕ) (l : List ℕ) (i : ℕ) → length l ≤ i → value_from base acc (drop i l) ≡ acc
unfolding value_from
value-done base acc l i h = rw (drop_of_length-le l h)

-- a part up to a list's end is all that is left of it
pub tail_is : (k : ℕ) (l : List ℕ) → take (length l - k) (drop k l) ≡ drop k l
tail_is k l = take_all (length l - k) (drop k l) (rw (length-drop k l) (omega arith))

-- the number behind a minus sign
pub number_minus : (w : List ℕ) (n m : ℕ) → 0 < length (take (length w - 1) (drop 1 w)) → get_or w 0 0 ≡ 45
    → n ≡ value_of 10 (take (length w - 1) (drop 1 w)) → m ≡ (2 ^ 64 - n) % 2 ^ 64 → m ≡ number_of w
unfolding number_of
number_minus w n m h e v d =
    let long : 1 < length w = omega (arith, length-drop 1 w, ap length (tail_is 1 w)) in
    rw d (rw v (rw (tail_is 1 w) (simp (le-ltb _ _ long, eq-eqb _ _ e) refl)))

-- the number of a register
pub number_register : (w : List ℕ) (n m : ℕ) → 0 < length (take (length w - 1) (drop 1 w)) → get_or w 0 0 ≡ 114
    → n ≡ value_of 10 (take (length w - 1) (drop 1 w)) → m ≡ n → m ≡ number_of w
unfolding number_of
number_register w n m h e v d =
    let long : 1 < length w = omega (arith, length-drop 1 w, ap length (tail_is 1 w)) in
    rw d (rw v (rw (tail_is 1 w) (simp (le-ltb _ _ long, ne_eqb (get_or w 0 0) 45 (omega (arith, e)), eq-eqb _ _ e) refl)))

-- the number behind 0x
pub number_hex : (w : List ℕ) (n : ℕ) → 2 ≤ length w → get_or w 0 0 ≡ 48 → get_or w 1 0 ≡ 120
    → n ≡ value_of 16 (take (length w - 2) (drop 2 w)) → n ≡ number_of w
unfolding number_of zero_of
number_hex w n long e x v =
    rw v (rw (tail_is 2 w) (simp (le-ltb _ _ long, ne_eqb (get_or w 0 0) 45 (omega (arith, e)), ne_eqb (get_or w 0 0) 114 (omega (arith, e)), eq-eqb _ _ e, eq-eqb _ _ x) refl))

-- the number of any other word
pub number_plain : (w : List ℕ) → (1 < length w → slice_index w 0 ≢ 45) → (1 < length w → slice_index w 0 ≢ 114)
    → (1 < length w → slice_index w 0 ≡ 48 → slice_index w 1 ≢ 120) → number_of w ≡ value_of 10 w
unfolding number_of zero_of
number_plain w minus register hex = grind (arith, nat_tests, if_is-cond)

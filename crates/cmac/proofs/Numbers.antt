-- A block as one number: its bytes, where it is shifted and where a byte is added at its end.
use mathlib.Core.Path.{◌≡◌, refl, ap, ap₂, ◌∙◌}
use mathlib.Core.List.{List, [], ◌∷◌}
use Prim.Native.Nat.{ℕ, ◌*◌, ◌/◌, ◌%◌, ◌^◌, ◌<◌}
use native.Mathlib.Omega.{arith}
use Rattle.std.specs.Int.{w128, to_be_bytes, from_be_bytes}
use Rattle.field.specs.Field.{◌⊕◌}
use Rattle.field.proofs.Xor.{⊕-div, ⊕-mod}
use Rattle.aes_standard.specs.State.{at, state, plus}
use Rattle.cmac.specs.Subkeys.{shifted, last_byte, doubled}

-- the byte of a sum that stands above e digits, where the second number has none there
added : (a b e : ℕ) → b / 2 ^ e % 256 ≡ 0 → (a ⊕ b) / 2 ^ e % 256 ≡ (a / 2 ^ e % 256) ⊕ 0
added a b e none =
    ap (λ (n : ℕ). n % 256) (⊕-div a b e) ∙ ⊕-mod (a / 2 ^ e) (b / 2 ^ e) 8
    ∙ ap (λ (n : ℕ). (a / 2 ^ e % 256) ⊕ n) none

last-added : (a b : ℕ) → b < 256 → (a ⊕ b) % 256 ≡ (a % 256) ⊕ b
last-added a b small = ⊕-mod a b 8 ∙ ap (λ (n : ℕ). (a % 256) ⊕ n) (omega arith)

-- a byte added at the end
pub number-added : (x v : ℕ) → v < 256 → to_be_bytes w128 (x ⊕ v) ≡ plus (to_be_bytes w128 x) (last_byte v)
unfolding plus last_byte
number-added x v small i =
    added x v 120 (omega arith) i
    ∷ added x v 112 (omega arith) i
    ∷ added x v 104 (omega arith) i
    ∷ added x v 96 (omega arith) i
    ∷ added x v 88 (omega arith) i
    ∷ added x v 80 (omega arith) i
    ∷ added x v 72 (omega arith) i
    ∷ added x v 64 (omega arith) i
    ∷ added x v 56 (omega arith) i
    ∷ added x v 48 (omega arith) i
    ∷ added x v 40 (omega arith) i
    ∷ added x v 32 (omega arith) i
    ∷ added x v 24 (omega arith) i
    ∷ added x v 16 (omega arith) i
    ∷ added x v 8 (omega arith) i
    ∷ last-added x v small i ∷ []

-- two lists, byte by byte
cons : {x y : ℕ} {l m : List ℕ} → x ≡ y → l ≡ m → x ∷ l ≡ y ∷ m
cons = ap₂ ◌∷◌

-- the number shifted to the left by one digit
number-shifted : (x : ℕ) → to_be_bytes w128 (x * 2 % 2 ^ 128) ≡ shifted (to_be_bytes w128 x)
unfolding shifted
number-shifted x =
    cons (omega arith)
    (cons (omega arith)
    (cons (omega arith)
    (cons (omega arith)
    (cons (omega arith)
    (cons (omega arith)
    (cons (omega arith)
    (cons (omega arith)
    (cons (omega arith)
    (cons (omega arith)
    (cons (omega arith)
    (cons (omega arith)
    (cons (omega arith)
    (cons (omega arith)
    (cons (omega arith)
    (cons (omega arith) refl)))))))))))))))

-- the bytes of the number that a block is
pub number-bytes : (l : List ℕ) → ((i : ℕ) → at l i < 256) → to_be_bytes w128 (from_be_bytes w128 l) ≡ state (at l)
number-bytes l small =
    let small0 = small 0 in
    let small1 = small 1 in
    let small2 = small 2 in
    let small3 = small 3 in
    let small4 = small 4 in
    let small5 = small 5 in
    let small6 = small 6 in
    let small7 = small 7 in
    let small8 = small 8 in
    let small9 = small 9 in
    let small10 = small 10 in
    let small11 = small 11 in
    let small12 = small 12 in
    let small13 = small 13 in
    let small14 = small 14 in
    let small15 = small 15 in
    cons (omega arith)
    (cons (omega arith)
    (cons (omega arith)
    (cons (omega arith)
    (cons (omega arith)
    (cons (omega arith)
    (cons (omega arith)
    (cons (omega arith)
    (cons (omega arith)
    (cons (omega arith)
    (cons (omega arith)
    (cons (omega arith)
    (cons (omega arith)
    (cons (omega arith)
    (cons (omega arith)
    (cons (omega arith) refl)))))))))))))))

-- the code's block is the block doubled
pub doubled-is : (l r : List ℕ) (x : ℕ) → ((i : ℕ) → at l i < 256) → x < 2 ^ 128 → x ≡ from_be_bytes w128 l
    → r ≡ to_be_bytes w128 ((x * 2 % 2 ^ 128) ⊕ (x / 2 ^ 127 * 0x87)) → r ≡ doubled l
unfolding doubled shifted
doubled-is l r x small fits number store =
    let first : x / 2 ^ 127 ≡ x / 2 ^ 120 % 256 / 128 = omega arith in
    store ∙ number-added (x * 2 % 2 ^ 128) (x / 2 ^ 127 * 0x87) (omega arith)
    ∙ ap₂ (λ (b : List ℕ) (n : ℕ). plus b (last_byte (n * 0x87))) (number-shifted x) first
    ∙ ap doubled (ap (to_be_bytes w128) number ∙ number-bytes l small)

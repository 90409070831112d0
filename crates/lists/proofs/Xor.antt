-- Exclusive or of numbers: in any grouping, and undone by itself; words under a key stream come back by it.
use Prim.Native.Nat.{ℕ, zero, suc, ◌+◌, ◌*◌, ◌/◌, ◌%◌, ◌<◌}
use native.Mathlib.Omega.{arith}
use mathlib.Core.Path.{◌≡◌, refl, sym, ap, ap₂, ◌∙◌}
use mathlib.Core.List.{List, [], ◌∷◌}
use lib.Arith.{bin_ind}
use Rattle.lists.specs.Parts.{part_at}
use Rattle.lists.specs.Words.{big, xored, xored_behind}
use lib.Bits.{bit_xor, differ, xor_step, xor_zero_r, xor_self, xor_shr, xor_mod}

-- exclusive or of digits goes together in any grouping
differ_assoc : (x y z : ℕ) → x < 2 → y < 2 → z < 2 → differ (differ x y) z ≡ differ x (differ y z)
differ_assoc zero y z hx hy hz = refl
differ_assoc (suc zero) zero z hx hy hz = refl
differ_assoc (suc zero) (suc zero) zero hx hy hz = refl
differ_assoc (suc zero) (suc zero) (suc zero) hx hy hz = refl
differ_assoc (suc zero) (suc zero) (suc (suc z)) hx hy hz = absurd (omega arith)
differ_assoc (suc zero) (suc (suc y)) z hx hy hz = absurd (omega arith)
differ_assoc (suc (suc x)) y z hx hy hz = absurd (omega arith)

-- the exclusive or of two digits
digit : (x y : ℕ) → x < 2 → y < 2 → bit_xor x y ≡ differ x y
digit zero y hx hy = refl
digit (suc zero) zero hx hy = refl
digit (suc zero) (suc zero) hx hy = refl
digit (suc zero) (suc (suc y)) hx hy = absurd (omega arith)
digit (suc (suc x)) y hx hy = absurd (omega arith)

low : (a b : ℕ) → bit_xor a b % 2 ≡ differ (a % 2) (b % 2)
low a b = xor_mod a b 1 ∙ digit (a % 2) (b % 2) (omega arith) (omega arith)

low_assoc : (a b c : ℕ) → differ (bit_xor a b % 2) (c % 2) ≡ differ (a % 2) (bit_xor b c % 2)
low_assoc a b c =
    ap (λ (x : ℕ). differ x (c % 2)) (low a b)
    ∙ differ_assoc (a % 2) (b % 2) (c % 2) (omega arith) (omega arith) (omega arith)
    ∙ ap (λ (x : ℕ). differ (a % 2) x) (sym (low b c))

pub xor_assoc : (a b c : ℕ) → bit_xor (bit_xor a b) c ≡ bit_xor a (bit_xor b c)
xor_assoc =
    bin_ind (λ (a : ℕ). (b c : ℕ) → bit_xor (bit_xor a b) c ≡ bit_xor a (bit_xor b c)) (λ b c. refl)
    (λ a ih b c.
    xor_step (bit_xor a b) c
    ∙ ap₂ (λ (x y : ℕ). x * 2 + y)
    (ap (λ (x : ℕ). bit_xor x (c / 2)) (xor_shr a b 1) ∙ ih (b / 2) (c / 2)
    ∙ ap (λ (x : ℕ). bit_xor (a / 2) x) (sym (xor_shr b c 1)))
    (low_assoc a b c)
    ∙ sym (xor_step a (bit_xor b c)))

-- what was xored comes back
pub xor_undo : (x y : ℕ) → bit_xor (bit_xor x y) y ≡ x
xor_undo x y = xor_assoc x y y ∙ ap (bit_xor x) (xor_self y) ∙ xor_zero_r x

-- words xored with a key stream come back when they are xored with it again
xored_undo : (k : ℕ) (stream : List ℕ) (i : ℕ) (l : List ℕ) → xored k stream i (xored k stream i l) ≡ l
unfolding xored
xored_undo k stream i [] = refl
xored_undo k stream i (x ∷ l) = ap₂ ◌∷◌ (xor_undo x (big (part_at i k stream))) (xored_undo k stream (i + k) l)

pub xored_behind_undo : (k : ℕ) (stream l : List ℕ) → xored_behind k stream (xored_behind k stream l) ≡ l
unfolding xored_behind
xored_behind_undo k stream [] = refl
xored_behind_undo k stream (x ∷ l) = ap (λ (r : List ℕ). x ∷ r) (xored_undo k stream 0 l)

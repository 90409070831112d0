-- States of bytes: each transformation keeps bytes bytes, and its inverse undoes it.
use mathlib.Core.Path.{◌≡◌, refl, sym, ap}
use mathlib.Core.List.{List, [], ◌∷◌}
use Prim.Native.Nat.{ℕ, zero, suc, ◌+◌, ◌-◌, ◌*◌, ◌/◌, ◌%◌, ◌<◌}
use native.Mathlib.Omega.{arith}
use lib.ListN.{length}
use Rattle.lists.specs.Bytes.{Bytes}
use Rattle.lists.proofs.ByteLaws.{bytes-none, bytes_cons}
use Rattle.field.specs.Field.{◌⊕◌, ◌•◌, sub_byte, inv_sub_byte}
use Rattle.field.proofs.Xor.{⊕-lt, ⊕-again}
use Rattle.field.proofs.Product.{•-lt}
use Rattle.field.proofs.SBoxLaws.{sub-undone, inv_sub_undone}
use Rattle.field.proofs.MixingLaws.{row, undo_row, unmix_mix}
use Rattle.aes_standard.specs.State.{at, state, plus, Block, byte_of, below, sub_bytes, shift_rows, mix_with}
use Rattle.aes_standard.specs.State.{mix_columns, add_round_key, inv_sub_bytes, inv_shift_rows, inv_mix_columns}
use Rattle.aes_standard.proofs.WordBytes.{byte_of-lt}

-- a list of n numbers, by what stands at each place
abbrev pub tabulate : ℕ → (ℕ → ℕ) → List ℕ
tabulate zero f = []
tabulate (suc n) f = f 0 ∷ tabulate n (λ i. f (suc i))

pub tabulated : (n : ℕ) (l : List ℕ) → length l ≡ n → l ≡ tabulate n (at l)
tabulated zero [] h = refl
tabulated zero (x ∷ l) h = absurd (omega arith)
tabulated (suc n) [] h = absurd (omega arith)
tabulated (suc n) (x ∷ l) h = ap (λ (r : List ℕ). x ∷ r) (tabulated n l (omega arith))

tabulate-bytes : (n : ℕ) (f : ℕ → ℕ) → ((i : ℕ) → f i < 256) → Bytes (tabulate n f)
tabulate-bytes zero f h = bytes-none
tabulate-bytes (suc n) f h = bytes_cons (f 0) (tabulate n (λ i. f (suc i))) (h 0)
    (tabulate-bytes n (λ i. f (suc i)) (λ i. h (suc i)))

-- a state of bytes is a block
pub state-block : (f : ℕ → ℕ) → ((i : ℕ) → f i < 256) → Block (state f)
state-block f h = record { size = refl; bytes = tabulate-bytes 16 f h }

-- a block is the state of its bytes
pub block-state : (b : List ℕ) → Block b → state (at b) ≡ b
block-state b h = sym (tabulated 16 b h.size)

pub plus-block : (a b : List ℕ) → Bytes a → Bytes b → Block (plus a b)
unfolding plus
plus-block a b ha hb = state-block (λ i. at a i ⊕ at b i)
    (λ i. ⊕-lt 8 (at a i) (at b i) (ha.byte i) (hb.byte i))

-- adding a block twice takes it away again
pub plus-again : (a b : List ℕ) → plus (plus a b) b ≡ state (at a)
unfolding plus
plus-again a b k = state (λ i. ⊕-again (at a i) (at b i) k)

pub add_round_key-block : (w : List ℕ) (r : ℕ) (s : List ℕ) → Bytes s → Block (add_round_key w r s)
unfolding add_round_key
add_round_key-block w r s h =
    state-block (λ i. at s i ⊕ byte_of (at w (r * 4 + i / 4)) (i % 4))
    (λ i. ⊕-lt 8 (at s i) (byte_of (at w (r * 4 + i / 4)) (i % 4)) (h.byte i)
    (byte_of-lt (at w (r * 4 + i / 4)) (i % 4)))

pub add_round_key-again : (w : List ℕ) (r : ℕ) (s : List ℕ) → add_round_key w r (add_round_key w r s) ≡ state (at s)
unfolding add_round_key
add_round_key-again w r s k = state (λ i. ⊕-again (at s i) (byte_of (at w (r * 4 + i / 4)) (i % 4)) k)

pub sub_bytes-block : (s : List ℕ) → Bytes s → Block (sub_bytes s)
unfolding sub_bytes
sub_bytes-block s h = state-block (λ i. sub_byte (at s i)) (λ i. sub-undone.byte (at s i) (h.byte i))

pub inv_sub_bytes-block : (s : List ℕ) → Bytes s → Block (inv_sub_bytes s)
unfolding inv_sub_bytes
inv_sub_bytes-block s h = state-block (λ i. inv_sub_byte (at s i)) (λ i. inv_sub_undone.byte (at s i) (h.byte i))

pub shift_rows-block : (s : List ℕ) → Bytes s → Block (shift_rows s)
unfolding shift_rows
shift_rows-block s h = state-block (λ i. at s ((i + i % 4 * 4) % 16)) (λ i. h.byte _)

pub inv_shift_rows-block : (s : List ℕ) → Bytes s → Block (inv_shift_rows s)
unfolding inv_shift_rows
inv_shift_rows-block s h = state-block (λ i. at s ((i + (4 - i % 4) * 4) % 16)) (λ i. h.byte _)

-- SubBytes and ShiftRows are undone by their inverses, in this order
pub rows_bytes-undone : (s : List ℕ) → Bytes s → inv_sub_bytes (inv_shift_rows (shift_rows (sub_bytes s))) ≡ state
    (at s)
unfolding inv_sub_bytes inv_shift_rows shift_rows sub_bytes
rows_bytes-undone s h k = state (λ i. sub-undone.undone (at s i) (h.byte i) k)

mixed_lt : (m0 m1 m2 m3 a b c d : ℕ) → a < 256 → b < 256 → c < 256 → d < 256
    → m0 • a ⊕ m1 • b ⊕ m2 • c ⊕ m3 • d < 256
mixed_lt m0 m1 m2 m3 a b c d ha hb hc hd =
    ⊕-lt 8 (m0 • a ⊕ m1 • b ⊕ m2 • c) (m3 • d)
    (⊕-lt 8 (m0 • a ⊕ m1 • b) (m2 • c) (⊕-lt 8 (m0 • a) (m1 • b) (•-lt m0 a ha) (•-lt m1 b hb))
    (•-lt m2 c hc))
    (•-lt m3 d hd)

pub mix_with-block : (m0 m1 m2 m3 : ℕ) (s : List ℕ) → Bytes s → Block (mix_with m0 m1 m2 m3 s)
unfolding mix_with
mix_with-block m0 m1 m2 m3 s h =
    state-block (λ i. m0 • at s i ⊕ m1 • at s (below i 1) ⊕ m2 • at s (below i 2) ⊕ m3 • at s
    (below i 3))
    (λ i. mixed_lt m0 m1 m2 m3 (at s i) (at s (below i 1)) (at s (below i 2)) (at s (below i 3)) (h.byte _)
    (h.byte _)
    (h.byte _) (h.byte _))

pub mix_columns-undone : (s : List ℕ) → Bytes s → inv_mix_columns (mix_columns s) ≡ state (at s)
unfolding inv_mix_columns mix_columns mix_with row
mix_columns-undone s h k =
    state (λ i. undo_row 14 11 13 9 2 3 1 1 unmix_mix (at s i) (at s (below i 1)) (at s (below i 2)) (at s (below i 3))
    (h.byte _) (h.byte _) (h.byte _) (h.byte _) k)

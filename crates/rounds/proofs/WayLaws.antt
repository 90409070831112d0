-- The tables of the two ways, the way there as the cipher, and columns that have changed places.
use mathlib.Core.Path.{◌≡◌, refl, ap, ◌∙◌}
use mathlib.Core.List.{List}
use Prim.Native.Nat.{ℕ, zero, suc, ◌%◌, ◌<◌}
use native.Mathlib.Omega.{arith}
use Rattle.field.specs.Field.{sub_byte, inv_sub_byte}
use Rattle.field.specs.Mixing.{mixed_entry, unmixed_entry}
use Rattle.field.specs.Table.{Table}
use Rattle.field.proofs.SBoxLaws.{sub-undone, inv_sub_undone}
use Rattle.field.proofs.MixingLaws.{one-•}
use Rattle.aes_standard.specs.State.{at, sub_bytes, mix_columns, add_round_key}
use Rattle.aes_standard.specs.Cipher.{round, rounds, cipher}
use Rattle.aes_standard.proofs.WordBytes.{byte_of-last}
use Rattle.columns.specs.declared.Columns.{Columns}
use Rattle.columns.specs.Words.{block_of, changed}
use Rattle.rounds.specs.Ways.{there, back, moved_by, round_by, rounds_by, last_by, cipher_by, Shares, Puts, flipped}
use Rattle.rounds.proofs.RoundLaws.{looked_up}

-- the tables of the way there
pub shares_there : (t : List ℕ) → Table 256 mixed_entry t → Shares there t
unfolding mixed_entry
shares_there t h = record { entry = h.entry; byte = sub-undone.byte }

pub puts_there : (t : List ℕ) → Table 256 mixed_entry t → Puts there t
puts_there t h =
    record {
      entry = λ k lt.
          byte_of-last (at t k) ∙ (looked_up there t (shares_there t h) k lt).byte3
          ∙ one-• (sub_byte k) (sub-undone.byte k lt);
    }

-- the tables of the way back
pub shares_back : (t : List ℕ) → Table 256 unmixed_entry t → Shares back t
unfolding unmixed_entry
shares_back t h = record { entry = h.entry; byte = inv_sub_undone.byte }

mod-small : (n x : ℕ) → n < 256 → x ≡ n → x % 256 ≡ n
mod-small n x lt e = omega arith

pub puts_back : (u : List ℕ) → Table 256 inv_sub_byte u → Puts back u
puts_back u h = record { entry = λ k lt. mod-small (inv_sub_byte k) (at u k) (inv_sub_undone.byte k lt) (h.entry k lt) }

-- the way there is the cipher
rounds-there : (w : List ℕ) (n : ℕ) (s : List ℕ) → rounds_by there w n s ≡ rounds w n s
unfolding rounds_by rounds round_by round moved_by sub_bytes mix_columns
rounds-there w zero s = refl
rounds-there w (suc n) s = ap (round w (suc n)) (rounds-there w n s)

pub there-cipher : (w s : List ℕ) → cipher_by there w s ≡ cipher w s
unfolding cipher_by last_by moved_by sub_bytes cipher
there-cipher w s = ap (last_by there w) (rounds-there w 9 (add_round_key w 0 s))

-- the block of columns that have changed places
pub block-changed : (x f : Columns) → f ≡ changed x → block_of f ≡ flipped (block_of x)
unfolding flipped
block-changed x f e = ap block_of e

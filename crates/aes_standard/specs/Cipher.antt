-- Cipher and InvCipher of AES-128 on one block, under the 44 words of a key schedule (FIPS 197, sections 5.1 and 5.3).
use Rattle.std.specs.Prelude.{List, ℕ, zero, suc, ◌-◌}
use Rattle.aes_standard.specs.State.{sub_bytes, shift_rows, mix_columns, add_round_key, inv_sub_bytes, inv_shift_rows}
use Rattle.aes_standard.specs.State.{inv_mix_columns}

-- One of the nine full rounds, with round key r.
unfoldable pub round : List ℕ → ℕ → List ℕ → List ℕ
round w r s = add_round_key w r (mix_columns (shift_rows (sub_bytes s)))

-- The first n full rounds, with round keys 1, 2, ..
unfoldable pub rounds : List ℕ → ℕ → List ℕ → List ℕ
rounds w zero s = s
rounds w (suc n) s = round w (suc n) (rounds w n s)

-- Cipher: round key 0 is added, nine full rounds follow, and a last one that mixes no columns.
unfoldable pub cipher : List ℕ → List ℕ → List ℕ
cipher w s = add_round_key w 10 (shift_rows (sub_bytes (rounds w 9 (add_round_key w 0 s))))

-- One of the nine full rounds of the inverse cipher, with round key r.
unfoldable pub inv_round : List ℕ → ℕ → List ℕ → List ℕ
inv_round w r s = inv_mix_columns (add_round_key w r (inv_sub_bytes (inv_shift_rows s)))

-- The first n full rounds of the inverse cipher, with round keys 9, 8, ..
unfoldable pub inv_rounds : List ℕ → ℕ → List ℕ → List ℕ
inv_rounds w zero s = s
inv_rounds w (suc n) s = inv_round w (9 - n) (inv_rounds w n s)

-- InvCipher: round key 10 is added, nine full rounds follow, and a last one that mixes no columns.
unfoldable pub inv_cipher : List ℕ → List ℕ → List ℕ
inv_cipher w s = add_round_key w 0 (inv_sub_bytes (inv_shift_rows (inv_rounds w 9 (add_round_key w 10 s))))

-- CBC decryption by the equivalent inverse cipher.
use Rattle.std.specs.Prelude.{List, ℕ, ◌/◌, length}
use Rattle.lists.specs.Parts.{part_at, put_at}
use Rattle.aes_standard.specs.State.{plus}
use Rattle.aes_standard.specs.Chain.{unchained}
use Rattle.rounds.specs.Ways.{eq_inv_cipher}

-- A list whose sixteen bytes from place k on are deciphered and added to the block before.
abbrev pub unlinked : List ℕ → List ℕ → ℕ → List ℕ → List ℕ
unlinked v before k l = put_at k 16 (plus (eq_inv_cipher v (part_at k 16 l)) before) l

-- CBC decryption.
unfoldable pub eq_decrypt : List ℕ → List ℕ → List ℕ → List ℕ
eq_decrypt v iv l = unchained (eq_inv_cipher v) (length l / 16) iv l

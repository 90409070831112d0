-- The code's way from a block to its inverse cipher.
use mathlib.Core.Path.{◌≡◌, ap₂, ◌∙◌}
use mathlib.Core.List.{List}
use Prim.Native.Nat.{ℕ}
use Rattle.aes_standard.specs.State.{at, state}
use Rattle.aes_standard.specs.Schedule.{key_expansion}
use Rattle.aes_standard.specs.Cipher.{inv_cipher}
use Rattle.aes_standard.proofs.RoundTrip.{inv_cipher-state}
use Rattle.columns.specs.declared.Columns.{Columns}
use Rattle.columns.specs.Words.{block_of, changed}
use Rattle.rounds.specs.Ways.{flipped, eq_inv_cipher}
use Rattle.rounds.proofs.WayLaws.{block-changed}
use Rattle.schedule.specs.Inverse.{InverseKeys}
use Rattle.schedule.proofs.InverseLaws.{eq_inv_cipher-inv_cipher}

pub decipher-is : (key w v s x r : List ℕ) (z y : Columns) → w ≡ key_expansion key → InverseKeys 11 w v
    → x ≡ state (at s)
    → flipped (block_of z) ≡ eq_inv_cipher v x → y ≡ changed z → r ≡ block_of y
    → r ≡ inv_cipher (key_expansion key) s
decipher-is key w v s x r z y schedule keys load run turn store =
    store ∙ block-changed z y turn ∙ run ∙ eq_inv_cipher-inv_cipher w v keys x ∙ ap₂ inv_cipher schedule load
    ∙ inv_cipher-state (key_expansion key) s

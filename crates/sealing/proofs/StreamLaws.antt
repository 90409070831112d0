-- The length of the key stream.
use mathlib.Core.Path.{◌≡◌, refl, ap₂, ◌∙◌}
use mathlib.Core.List.{List}
use Prim.Native.Nat.{ℕ, zero, suc, ◌+◌, ◌*◌}
use native.Mathlib.Omega.{arith}
use lib.ListN.{length, length-append}
use Rattle.aes_standard.specs.Schedule.{key_expansion}
use Rattle.aes_standard.specs.Cipher.{cipher}
use Rattle.aes_standard.proofs.RoundTrip.{cipher-length}
use Rattle.sealing.specs.Lines.{line_key}
use Rattle.sealing.specs.Stream.{counted, stream_from, stream}

-- the key stream has 256 bytes
stream_from-length : (w h : List ℕ) (n j : ℕ) → length (stream_from w h n j) ≡ n * 16
unfolding stream_from
stream_from-length w h zero j = refl
stream_from-length w h (suc n) j =
    length-append (cipher w (counted h j)) (stream_from w h n (j + 1))
    ∙ ap₂ ◌+◌ (cipher-length w (counted h j)) (stream_from-length w h n (j + 1)) ∙ omega arith

pub stream-length : (drk h : List ℕ) → length (stream drk h) ≡ 256
unfolding stream
stream-length drk h = stream_from-length (key_expansion (line_key drk)) h 16 0

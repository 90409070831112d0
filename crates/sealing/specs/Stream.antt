-- The key stream of Suspend (document 01, 'Faults of the machine').
use Rattle.std.specs.Prelude.{List, [], ◌++◌, ℕ, zero, suc, ◌+◌}
use Rattle.aes_standard.specs.State.{plus}
use Rattle.aes_standard.specs.Schedule.{key_expansion}
use Rattle.aes_standard.specs.Cipher.{cipher}
use Rattle.cmac.specs.Subkeys.{last_byte}
use Rattle.sealing.specs.Lines.{line_key}

-- The hash with j xored into its last byte.
unfoldable pub counted : List ℕ → ℕ → List ℕ
counted hash j = plus hash (last_byte j)

-- Blocks j, j + 1, .. of the key stream, n of them: AES under the line key of the hash with the block's number xored
-- into its last byte.
unfoldable pub stream_from : List ℕ → List ℕ → ℕ → ℕ → List ℕ
stream_from w hash zero j = []
stream_from w hash (suc n) j = cipher w (counted hash j) ++ stream_from w hash n (j + 1)

-- The key stream of a hash: blocks 0 to 15.
unfoldable pub stream : List ℕ → List ℕ → List ℕ
stream drk hash = stream_from (key_expansion (line_key drk)) hash 16 0

-- Numbers as bytes: little-endian in memory, high byte first towards the cipher.
use Rattle.std.specs.Prelude.{ℕ, zero, suc, ◌+◌, ◌*◌, ◌/◌, ◌%◌, List, [], ◌∷◌, ◌++◌, reverse}
use Rattle.std.specs.Int.Bits.{bit_xor}
use Rattle.lists.specs.Parts.{part_at}

-- the number that a list of bytes is, the lowest byte first
unfoldable pub little : List ℕ → ℕ
little [] = 0
little (b ∷ l) = b + little l * 256

-- the lowest k bytes of a number, the lowest first
unfoldable pub little_bytes : ℕ → ℕ → List ℕ
little_bytes zero n = []
little_bytes (suc k) n = n % 256 ∷ little_bytes k (n / 256)

-- the number that a list of bytes is, the highest byte first
unfoldable pub big : List ℕ → ℕ
big l = little (reverse l)

-- the lowest k bytes of a number, the highest first
unfoldable pub big_bytes : ℕ → ℕ → List ℕ
big_bytes k n = reverse (little_bytes k n)

-- words as bytes, k bytes each, the highest first
unfoldable pub words_bytes : ℕ → List ℕ → List ℕ
words_bytes k [] = []
words_bytes k (x ∷ l) = big_bytes k x ++ words_bytes k l

-- words xored with a key stream, each taking its k bytes in turn, the highest first, from byte i on
unfoldable pub xored : ℕ → List ℕ → ℕ → List ℕ → List ℕ
xored k stream i [] = []
xored k stream i (x ∷ l) = bit_xor x (big (part_at i k stream)) ∷ xored k stream (i + k) l

-- words of which the first stays and the others are xored with a key stream
unfoldable pub xored_behind : ℕ → List ℕ → List ℕ → List ℕ
xored_behind k stream [] = []
xored_behind k stream (first ∷ rest) = first ∷ xored k stream 0 rest

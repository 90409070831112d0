-- The number that a word of a board file says.
use Rattle.std.specs.Prelude.{ℕ, ◌+◌, ◌-◌, ◌*◌, ◌%◌, ◌^◌, List, [], ◌∷◌, length, drop, ◌==◌, nat_le, nat_lt, slice_index}
use Rattle.lists.specs.If.{if}

-- the value of a digit by its letter: 0 to 9, A to F, a to f; 16 for any other
unfoldable pub digit_of : ℕ → ℕ
digit_of c = if (nat_lt c 48) 16
    (if (nat_le c 57) (c - 48) (if (nat_lt c 65) 16
    (if (nat_le c 70) (c - 65 + 10) (if (nat_lt c 97) 16 (if (nat_le c 102) (c - 97 + 10) 16)))))

-- digits read from the left, behind those whose value is `acc`
unfoldable pub value_from : ℕ → ℕ → List ℕ → ℕ
value_from base acc [] = acc
value_from base acc (c ∷ cs) = value_from base (acc * base + digit_of c) cs

-- the value of digits in a base
unfoldable pub value_of : ℕ → List ℕ → ℕ
value_of base word = value_from base 0 word

-- the value of a word that begins with 0: hexadecimal behind 0x (x is 120), else decimal
unfoldable pub zero_of : List ℕ → ℕ
zero_of w = if (slice_index w 1 == 120) (value_of 16 (drop 2 w)) (value_of 10 w)

-- the value of a word: with a minus sign (45) modulo 2^64, a register behind r (114), behind 0 (48) as above, else
-- decimal
unfoldable pub number_of : List ℕ → ℕ
number_of w =
    if (nat_lt (length w) 2) (value_of 10 w)
    (if (slice_index w 0 == 45) ((2 ^ 64 - value_of 10 (drop 1 w)) % 2 ^ 64)
    (if (slice_index w 0 == 114) (value_of 10 (drop 1 w)) (if (slice_index w 0 == 48) (zero_of w) (value_of 10 w))))

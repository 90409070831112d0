-- What one board has and another may not: its word width, its table of opcodes, where its cache puts lines, and which
-- caches it takes.
use Rattle.std.specs.Prelude.{ℕ, ◌^◌, Bool, ◌&&◌, List, [], ◌∷◌, length, leb}
use Rattle.model.specs.Placement.{Placement}
use Rattle.directory.specs.Direct.{direct, all_fine}

-- a board
pub record Board : Type 0 where
  -- the bytes of a word
  pub word_bytes : ℕ
  -- for each opcode from 0 on: 0 it does not exist, 1 it exists, 2 it exists and needs active mode
  pub opcodes : List ℕ
  -- where lines sit in the cache
  pub placement : Placement
  -- can the cache have so many slots? (refusal 103)
  pub slots_fine : ℕ → Bool
  -- is the directory one for a memory of so many lines? (refusal 104)
  pub directory_fine : ℕ → List ℕ → Bool

-- one more than the largest word: sums, differences, addresses and branch targets are taken modulo this
unfoldable pub modulus : Board → ℕ
modulus B = 256 ^ B.word_bytes

-- the table of opcodes: 1 to 16, 32 to 43 exist; 34 to 38 and 40 to 42 need active mode
unfoldable pub opcode_table : List ℕ
opcode_table =
    0 ∷ 1 ∷ 1 ∷ 1 ∷ 1 ∷ 1 ∷ 1 ∷ 1 ∷ 1 ∷ 1 ∷ 1 ∷ 1 ∷ 1 ∷ 1 ∷ 1 ∷ 1 ∷
    1 ∷ 0 ∷ 0 ∷ 0 ∷ 0 ∷ 0 ∷ 0 ∷ 0 ∷ 0 ∷ 0 ∷ 0 ∷ 0 ∷ 0 ∷ 0 ∷ 0 ∷ 0 ∷
    1 ∷ 1 ∷ 2 ∷ 2 ∷ 2 ∷ 2 ∷ 2 ∷ 1 ∷ 2 ∷ 2 ∷ 2 ∷ 1 ∷ 0 ∷ 0 ∷ 0 ∷ 0 ∷
    0 ∷ 0 ∷ 0 ∷ 0 ∷ 0 ∷ 0 ∷ 0 ∷ 0 ∷ 0 ∷ 0 ∷ 0 ∷ 0 ∷ 0 ∷ 0 ∷ 0 ∷ 0 ∷ []

-- the board of document 01: 64-bit words, its table, line n in slot n mod C, 1 to 64 slots
unfoldable pub document_board : Board
document_board =
    record {
      word_bytes = 8;
      opcodes = opcode_table;
      placement = direct;
      slots_fine = λ C. leb 1 C && leb C 64;
      directory_fine = λ N dir. all_fine N (length dir) 0 dir;
    }

-- What the customer quotes, on one page: the board of document 01 with AES-128, CBC and CMAC.
-- Two machines stand side by side, one with a cache and one without; `AlwaysSame` says that after each call they
-- cannot be told apart.
use Rattle.std.specs.Prelude.{ℕ, ◌*◌, ◌/◌, ◌≤◌, ◌≡◌, true, List, length}
use Rattle.lists.specs.Bytes.{Bytes, zeros}
use Rattle.model.specs.CipherLaws.{Sized}
use Rattle.instructions.specs.Board.{document_board}
use Rattle.instructions.specs.Record.{Processor, reset}
use Rattle.instructions.specs.Refusals.{size_fine}
use Rattle.instructions.specs.Calls.{Call}
use Rattle.instructions.specs.Marked.{Marked}
use Rattle.demand3.specs.Statement.{AlwaysSame, LentBytes}
use Rattle.ciphers.specs.Cipher.{aes_cipher}

-- Demand 3: from reset with an empty cache, whatever the memory, the MACs, the DRK and the SRH are, for every cache
-- size from 1 to 64 slots and every sequence of calls, a cache changes the counts and nothing else.
abbrev pub Demand3 : Type 0
Demand3 =
    (drk mem macs : List ℕ) (before : Processor) (C : ℕ)
    → Sized 16 drk → Bytes mem → size_fine (length mem) ≡ true → length macs ≡ length mem / 4 → 1 ≤ C
    → C ≤ 64
    → (calls : List Call) → LentBytes calls
    → AlwaysSame document_board aes_cipher calls
    (record { processor = reset document_board before; memory = record { key = drk; mem = mem; macs = macs } })
    (record {
      processor = reset document_board before;
      memory = record { key = drk; mem = mem; macs = macs; cache = zeros (C * 64); dir = zeros C };
    })

-- The marked cases P1 to P12, as one list.
abbrev pub MarkedCases : Type 0
MarkedCases = Marked aes_cipher

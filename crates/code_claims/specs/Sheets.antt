-- The two sheets obey the customer's rule: beside the cold run and beside the warm run stands the machine without a
-- cache, and the registers, the fault, the steps and both memories once written back are its own. What the two sheets
-- differ in are the counts.
use Rattle.std.specs.Prelude.{ℕ}
use Rattle.model.specs.Uncached.{Uncached}
use Rattle.model.specs.Cached.{Cached, as_it_stands}
use Rattle.keeps.specs.Good.{MadeOfBytes}
use Rattle.instructions.specs.Board.{document_board}
use Rattle.instructions.specs.Calls.{run, Machine, Result}
use Rattle.sound.specs.Acceptable.{Acceptable}
use Rattle.ciphers.specs.Cipher.{aes_cipher}
use Rattle.demand3.specs.Statement.{without_cache, SameOutside}
use Rattle.sheets.specs.Runs.{emptied, cold_run, again, warm_run}

-- the cold run on the machine without a cache: from the same record, on the memory and MAC area that the power cut left
unfoldable pub cold_beside : ℕ → Machine Cached → Result Uncached
cold_beside n m = without_cache document_board aes_cipher (run n) (record {
  processor = m.processor;
  memory = as_it_stands (emptied m).memory;
}) (cold_run n m)

-- the warm run on the machine without a cache: the same start again, on what its own cold run left
unfoldable pub warm_beside : ℕ → Machine Cached → Result Uncached
warm_beside n m = without_cache document_board aes_cipher (run n) (again m.processor (cold_beside n m).machine)
    (warm_run n m)

-- both runs
pub record ObeyTheRule (n : ℕ) (m : Machine Cached) : Type 0 where
  pub cold : SameOutside document_board aes_cipher (cold_beside n m) (cold_run n m)
  pub warm : SameOutside document_board aes_cipher (warm_beside n m) (warm_run n m)

-- whatever was lent, as far as it is accepted and made of bytes, and whatever n is
abbrev pub SheetsObeyTheRule : Type 0
SheetsObeyTheRule = (n : ℕ) (m : Machine Cached) → Acceptable document_board m → MadeOfBytes m.memory
    → ObeyTheRule n m

-- The listing: a lent row of line records, one per slot, is filled with used or empty, line, tag, dirty.
use Rattle.std.specs.Prelude.{ℕ, zero, suc, ◌+◌, List, [], ◌∷◌, length, eqb}
use Rattle.lists.specs.If.{if}
use Rattle.model.specs.Placement.{Entry, Placement}
use Rattle.model.specs.Cached.{Cached}
use Rattle.instructions.specs.Rules.{first_of}
use Rattle.instructions.specs.Board.{Board}
use Rattle.instructions.specs.Refusals.{or_else, cached_flaws, record_flaws, row_flaws}
use Rattle.instructions.specs.Calls.{Machine}

-- what the k places from place p on hold
unfoldable pub entries_from : Placement → List ℕ → ℕ → ℕ → List Entry
entries_from P dir zero p = []
entries_from P dir (suc k) p = P.look dir p ∷ entries_from P dir k (p + 1)

-- the answer and the later row; the machine stays as it is, and nothing is counted
pub record Listed : Type 0 where
  pub answer : ℕ
  pub row : List Entry

-- the refusal of a listing into a row of so many records: 101 to 105 as for every machine call, then 110
unfoldable pub listing_refusal : Board → Machine Cached → ℕ → ℕ
listing_refusal B m rows =
    or_else (first_of (cached_flaws B m.memory))
    (or_else (first_of (record_flaws m.processor)) (first_of (row_flaws rows m.memory.dir)))

-- the row gets what each place holds; a refused row keeps its records
unfoldable pub listing : Board → Machine Cached → List Entry → Listed
listing B m row =
    let n = listing_refusal B m (length row) in
    let dir = m.memory.dir in
    record { answer = n; row = if (eqb n 0) (entries_from B.placement dir (length dir) 0) row }

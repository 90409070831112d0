-- What a listing gives: the report, and the row of line records after it.
use Rattle.std.specs.Prelude.{ℕ, ◌≡◌, List, map, eqb, length, replicate}
use Rattle.lists.specs.If.{if}
use Rattle.model.specs.Log.{no_counts}
use Rattle.model.specs.Placement.{empty}
use Rattle.instructions.specs.Board.{document_board}
use Rattle.instructions.specs.Listing.{Listed, listing}
use Rattle.machine.specs.declared.answer.Report.{Report}
use Rattle.machine.specs.Lent.{Lent, machine_in}
use Rattle.host.specs.declared.listing.LineRecord.{LineRecord}
use Rattle.host.specs.Outcome.{Reports}
use Rattle.host.specs.Row.{row_of}

-- The meaning's listing on the machine that was lent, into a row of so many empty entries: they are all overwritten,
-- or the call is refused.
abbrev pub listing_of : Lent → ℕ → Listed
listing_of l rows = listing document_board (machine_in l) (replicate rows empty)

-- The report has the meaning's answer. The row has a record of each of the meaning's entries; refused, it is as it
-- was lent.
pub record Lists (l : Lent) (rows : List LineRecord) (x : Report) (rows' : List LineRecord) : Type 0 where
  pub reported : Reports (listing_of l (length rows)).answer no_counts x
  pub filled : rows' ≡ if (eqb (listing_of l (length rows)).answer 0) (map row_of (listing_of l (length rows)).row)
      rows

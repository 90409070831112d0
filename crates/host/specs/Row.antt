-- A record of the listing's row, by the numbers of its four fields.
use Rattle.lists.specs.If.{if}
use Rattle.model.specs.Tags.{tag_number}
use Rattle.model.specs.Placement.{Entry}
use Rattle.host.specs.declared.listing.LineRecord.{LineRecord}

-- used or empty, line, tag, dirty: 1 for yes, 0 for no
unfoldable pub row_of : Entry → LineRecord
row_of e = record { used = if e.used 1 0; line = e.line; tag = tag_number e.tag; dirty = if e.dirty 1 0 }

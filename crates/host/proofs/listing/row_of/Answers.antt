-- `host::listing::row_of` meets its promise.
use Rattle.host.specs.Row.{row_of}
use Rattle.host.proofs.Rows.{one_or_none}
use Rattle.host.proofs.listing.row_of.Goals as goal

pub returns : goal.returns
unfolding row_of
returns c = simp one_or_none (cc)

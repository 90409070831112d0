-- `host::listing::row_at` meets its promise.
use Rattle.std.proofs.Common.{◌≡◌, rules}
use lib.ListN.{get_or}
use Rattle.directory.specs.Direct.{direct}
use Rattle.host.proofs.listing.row_at.Goals as goal

pub returns : goal.returns
unfolding direct
returns c =
    let number : c.unwrap_or.result ≡ get_or c.args.dir.now c.args.i 0 = search rules in
    rw (← number) c.row_of.ensures

-- `entry::scan::all_fine` meets its promise.
use Rattle.std.proofs.Common.{rules}
use Rattle.directory.proofs.Scan.{scan_decides}
use Rattle.entry.proofs.scan.all_fine.Goals as goal

pub returns : goal.returns
returns c = scan_decides _ _ _ _ (search rules)

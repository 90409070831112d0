-- A rotation by N bytes.
use Rattle.columns.proofs.WordLaws.{turned_is}
use Rattle.std.proofs.Common.{◌∙◌, arith}
use Rattle.columns.proofs.turn.Goals as goal

pub returns : goal.returns
returns g c = c.rotate_right.ensures ∙ turned_is c.args.x g.row.N c.requires (omega arith)

-- `bus::load` meets its promise.
use Rattle.std.proofs.Common.{◌∙◌}
use Rattle.model.specs.Lines.{line_at}
use Rattle.cache.proofs.PartsBack.{lent_part_lem}
use Rattle.bus.proofs.load.Goals as goal

pub returns : goal.returns
unfolding line_at
returns c = c.copy_from_slice.ensures.after ∙ lent_part_lem _ 64 _

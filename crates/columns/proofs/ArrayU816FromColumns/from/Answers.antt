-- The sixteen bytes that are laid down are the whole block.
use Rattle.columns.proofs.StoreLaws.{put_at-all}
use Rattle.columns.specs.Words.{block_of}
use lib.ListN.{replicate}
use mathlib.Core.Path.{refl, ◌∙◌}
use Rattle.columns.proofs.ArrayU816FromColumns.from.Goals as goal

pub returns : goal.returns
returns c = c.store.ensures
    ∙ put_at-all 16 (block_of c.args.x) (replicate 16 0) refl

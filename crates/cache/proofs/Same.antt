-- What keeps the four buffers, one thing after another, keeps them.
use Rattle.std.proofs.Common.{◌∙◌}
use Rattle.cache.specs.declared.buffers.Buffers.{Buffers}
use Rattle.cache.specs.Held.{SameBuffers}

pub same_then : (a b c : Buffers) → SameBuffers a b → SameBuffers b c → SameBuffers a c
same_then a b c x y = (
  (y.0.0 ∙ x.0.0, y.0.1 ∙ x.0.1),
  (y.1.0 ∙ x.1.0, y.1.1 ∙ x.1.1),
  (y.2.0 ∙ x.2.0, y.2.1 ∙ x.2.1),
  (y.3.0 ∙ x.3.0, y.3.1 ∙ x.3.1),
)

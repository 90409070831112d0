-- Each byte of the sum is the sum of the bytes.
use Rattle.aes_standard.proofs.WordBytes.{byte_of-⊕}
use Rattle.field.specs.Field.{◌⊕◌}
use Rattle.columns.proofs.ColumnsBitXor.bitxor.Goals as goal

pub returns : goal.returns
unfolding ◌⊕◌
returns c = simp byte_of-⊕

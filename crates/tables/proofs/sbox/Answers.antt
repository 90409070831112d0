-- The S-box keeps its rule.
use Rattle.std.proofs.Common.{refl}
use Rattle.field.specs.Field.{◌⊕◌, digit, from_digits, affine, sub_byte}
use Rattle.field.proofs.Inverses.{inverses}
use Rattle.field.proofs.SBoxLaws.{listed_sub, listed_sub-sub_byte}
use Rattle.field.proofs.Tables.{table-by}
use Rattle.tables.proofs.sbox.Goals as goal

pub invariant_of-result : goal.invariant_of-result
unfolding ◌⊕◌ digit from_digits affine inverses listed_sub
invariant_of-result c = record { rule = table-by 256 listed_sub sub_byte listed_sub-sub_byte _ refl tt }

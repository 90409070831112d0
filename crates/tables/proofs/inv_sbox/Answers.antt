-- The inverse S-box keeps its rule.
use Rattle.std.proofs.Common.{refl}
use Rattle.field.specs.Field.{◌⊕◌, digit, from_digits, inv_affine, inv_sub_byte}
use Rattle.field.proofs.Inverses.{inverses}
use Rattle.field.proofs.SBoxLaws.{listed_inv_sub, listed_inv_sub-inv_sub_byte}
use Rattle.field.proofs.Tables.{table-by}
use Rattle.tables.proofs.inv_sbox.Goals as goal

pub invariant_of-result : goal.invariant_of-result
unfolding ◌⊕◌ digit from_digits inv_affine inverses listed_inv_sub
invariant_of-result c = record { rule = table-by 256 listed_inv_sub inv_sub_byte listed_inv_sub-inv_sub_byte _ refl tt }

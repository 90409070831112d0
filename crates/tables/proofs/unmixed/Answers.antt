-- The table that substitutes back and unmixes keeps its rule.
use Rattle.std.proofs.Common.{refl, ap}
use Rattle.field.specs.Field.{◌⊕◌, xtimes, product_by, ◌•◌, digit, from_digits, inv_affine}
use Rattle.field.specs.Mixing.{word, share, unmixed_entry}
use Rattle.field.proofs.Inverses.{inverses}
use Rattle.field.proofs.SBoxLaws.{listed_inv_sub, listed_inv_sub-inv_sub_byte}
use Rattle.field.proofs.Tables.{table-by}
use Rattle.tables.proofs.unmixed.Goals as goal

pub invariant_of-result : goal.invariant_of-result
unfolding ◌⊕◌ xtimes product_by ◌•◌ digit from_digits inv_affine inverses listed_inv_sub word share unmixed_entry
invariant_of-result c =
    let unmixing = share 14 11 13 9 in
    record {
      rule = table-by 256 (λ k. unmixing (listed_inv_sub k)) unmixed_entry
          (λ k h. ap unmixing (listed_inv_sub-inv_sub_byte k h)) _ refl tt;
    }

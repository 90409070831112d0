-- The table that substitutes and mixes keeps its rule.
use Rattle.std.proofs.Common.{refl, ap}
use Rattle.field.specs.Field.{◌⊕◌, xtimes, product_by, ◌•◌, digit, from_digits, affine}
use Rattle.field.specs.Mixing.{word, share, mixed_entry}
use Rattle.field.proofs.Inverses.{inverses}
use Rattle.field.proofs.SBoxLaws.{listed_sub, listed_sub-sub_byte}
use Rattle.field.proofs.Tables.{table-by}
use Rattle.tables.proofs.mixed.Goals as goal

pub invariant_of-result : goal.invariant_of-result
unfolding ◌⊕◌ xtimes product_by ◌•◌ digit from_digits affine inverses listed_sub word share mixed_entry
invariant_of-result c =
    let mixing = share 2 3 1 1 in
    record {
      rule = table-by 256 (λ k. mixing (listed_sub k)) mixed_entry
          (λ k h. ap mixing (listed_sub-sub_byte k h)) _ refl tt;
    }

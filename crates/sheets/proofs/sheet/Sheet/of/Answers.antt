-- `sheets::sheet::Sheet::of` meets its promise.
use Rattle.std.proofs.Common.{refl, ℕ, rules}
use lib.ListN.{get_or}
use Rattle.sheets.proofs.CopiedNumbers.{made_at}
use Rattle.sheets.proofs.sheet.Sheet.of.Goals as goal

pub returns : goal.returns
returns c =
    let number = λ (i : ℕ). get_or c.args.buffers.now.dir.now i 0 in
    record {
      kind = refl;
      report = refl;
      kinds = c.of.ensures;
      slots = record {
        each = λ i h. made_at _ number _ (λ i y q k. search rules) 64 _ c.from_fn.ensures.items i h;
      };
    }

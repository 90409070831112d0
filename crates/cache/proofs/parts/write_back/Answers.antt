-- `cache::parts::write_back` meets its promise.
use Rattle.std.proofs.Common.{◌*◌, ◌∙◌, arith}
use Rattle.sealing.specs.Lines.{drk_of, enciphered}
use Rattle.cache.proofs.PartsBack.{changed, mac-put}
use Rattle.cache.proofs.Tagged.{home_data, home-plain}
use Rattle.cache.proofs.parts.write_back.Goals as goal
use Rattle.cache.proofs.parts.write_back.Goals.{then-is_data, else-is_data}

pub returns : goal.returns
returns c =
    elim c.if-is_data.branch [
      | then-is_data w ↦
          home_data _ c.args.n c.args.slot _ c.args.mem.now c.args.macs.now c.args.cache.now _ _ _ _ c.is_data.ensures
          w.if-is_data.true (omega arith)
          (w.cache-is
          ∙ changed (enciphered (drk_of c.args.drk.high c.args.drk.low) (c.args.n * 64)) c.args.slot c.args.cache.now _
          w.seal.ensures)
          (rw w.cache-is
          (w.macs-is ∙ mac-put c.args.n c.args.slot _ _ _ c.args.macs.now _ w.data_mac.ensures w.copy_from_slice.ensures.after))
          c.copy_line.ensures
      | else-is_data w ↦
          rw (w.macs-is, w.cache-is)
          (home-plain _ _ _ _ _ _ _ _ _ c.is_data.ensures w.if-is_data.false (rw w.cache-is at c.copy_line.ensures))
    ]

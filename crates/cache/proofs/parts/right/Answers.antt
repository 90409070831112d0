-- `cache::parts::right` meets its promise.
use Rattle.model.specs.Lines.{passes}
use Rattle.sealing.proofs.LineLaws.{same_is}
use Rattle.cache.proofs.PartsBack.{code_checked, data_checked}
use Rattle.cache.proofs.parts.right.Goals as goal

pub returns-in-Ordinary : goal.returns-in-Ordinary
unfolding passes
returns-in-Ordinary c = rw c.in-Ordinary.is

pub returns-in-SecureInstruction : goal.returns-in-SecureInstruction
returns-in-SecureInstruction c =
    rw c.in-SecureInstruction.is
    (code_checked c.args.n _ _ c.args.mem.now _ _ c.code_mac.ensures (same_is _ _ _ (rw c.as_slice.ensures at c.eq.ensures)))

pub returns-in-SecureData : goal.returns-in-SecureData
returns-in-SecureData c =
    rw c.in-SecureData.is
    (data_checked c.args.n _ _ c.args.mem.now c.args.macs.now _ c.data_mac.ensures
    (same_is _ _ _ (rw c.as_slice-in-SecureData.ensures at c.eq-in-SecureData.ensures)))

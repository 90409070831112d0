-- `depot::seal` meets its promise.
use Rattle.ciphers.specs.Cipher.{aes_cipher}
use Rattle.sealing.specs.Lines.{drk_of}
use Rattle.depot.proofs.CallLaws.{seal_done}
use Rattle.depot.proofs.seal.Goals as goal

pub returns : goal.returns
unfolding aes_cipher
returns c =
    seal_done aes_cipher (drk_of c.args.drk.high c.args.drk.low) c.args.address c.args.line.now c.args.mac.now _ c.data_mac.result _
    c.if-address-ne0.false c.if-line-ne64.false c.if-mac-ne16.false c.seal.ensures c.data_mac.ensures
    c.copy_from_slice.ensures.after

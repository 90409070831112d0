-- `depot::open_line` meets its promise.
use Rattle.std.proofs.Common.{rules, refl, ◌≡◌, true, false}
use Rattle.std.specs.Str.{bytes_eq}
use Rattle.ciphers.specs.Cipher.{aes_cipher}
use Rattle.sealing.specs.Lines.{drk_of}
use Rattle.sealing.proofs.LineLaws.{same_is}
use Rattle.depot.proofs.CallLaws.{open_109, open_done}
use Rattle.depot.proofs.open_line.Goals as goal

pub returns-then-ne : goal.returns-then-ne
unfolding aes_cipher
returns-then-ne c =
    let wrong : bytes_eq c.data_mac.result c.args.mac.now ≡ false = search rules in
    open_109 aes_cipher (drk_of c.args.drk.high c.args.drk.low) c.args.address c.args.line.now c.args.mac.now c.data_mac.result _
    c.if-address-ne0.false c.if-line-ne64.false c.if-mac-ne16.false c.data_mac.ensures (same_is _ _ _ refl) wrong

pub returns : goal.returns
unfolding aes_cipher
returns c =
    let right : bytes_eq c.data_mac.result c.args.mac.now ≡ true = search rules in
    open_done aes_cipher (drk_of c.args.drk.high c.args.drk.low) c.args.address c.args.line.now c.args.mac.now _ c.data_mac.result _
    c.if-address-ne0.false c.if-line-ne64.false c.if-mac-ne16.false c.data_mac.ensures (same_is _ _ _ refl) right c.unseal.ensures

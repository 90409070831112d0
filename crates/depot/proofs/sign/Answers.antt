-- `depot::sign` meets its promise.
use Rattle.std.proofs.Common.{sym, ap, ◌++◌, ◌-◌, length, take, drop, List, ℕ, arith}
use lib.Seq.{length-take-le}
use Rattle.sealing.specs.Lines.{drk_of}
use Rattle.ciphers.specs.Cipher.{aes_cipher}
use Rattle.depot.proofs.CallLaws.{sign_done}
use Rattle.depot.proofs.sign.Goals as goal

pub slice_bounds-code_mac-end-2 : goal.slice_bounds-code_mac-end-2
slice_bounds-code_mac-end-2 c = sym (length-take-le 48 c.args.line.now (omega (arith, c.if-line-ne64.false)))

pub code_mac-mac-requires : goal.code_mac-mac-requires
code_mac-mac-requires c = length-take-le 48 c.args.line.now (omega (arith, c.if-line-ne64.false))

pub returns : goal.returns
unfolding aes_cipher
returns c =
    let line = c.args.line.now in
    sign_done aes_cipher (drk_of c.args.drk.high c.args.drk.low) c.args.address line c.code_mac-mac.result _
    c.if-address-ne0.false c.if-line-ne64.false c.code_mac-mac.ensures
    (ap (λ (y : List ℕ). take 48 line ++ (y ++ drop (length line - 48) (drop 48 line))) c.copy_from_slice.ensures.after)

-- `aes::decipher` meets its promise.
use Rattle.ways.proofs.CipherLaws.{through_back}
use Rattle.aes.proofs.DecipherLaws.{decipher-is}
use Rattle.columns.specs.Words.{block_of}
use Rattle.aes.proofs.decipher.Goals as goal

pub returns : goal.returns
returns c =
    let args = c.args in
    let w = c.expand-w in
    let v = c.invert-v in
    let t = c.unmixed.result in
    let u = c.inv_sbox.result in
    let x = c.from in
    let f = c.flip in
    let z = c.through-x in
    let y = c.flip-2 in
    decipher-is args.key.now w.result v.result args.block.now (block_of x.result) c.into.result
    z.result y.result
    w.ensures v.ensures x.ensures.block
    (through_back t.entries u.entries v.result x.result f.result (block_of z.result) t.rule u.rule
    f.ensures z.ensures)
    y.ensures c.into.ensures

-- `columns::store` meets its promise.
use Rattle.columns.proofs.StoreLaws.{four_words-stored}
use Rattle.columns.proofs.store.Goals as goal

pub returns : goal.returns
returns c =
    let args = c.args in
    four_words-stored args.b.now _ _ _ _ args.k args.x.a args.x.b args.x.c args.x.d c.requires
    c.put_word.ensures c.put_word-2.ensures c.put_word-3.ensures c.put_word-4.ensures

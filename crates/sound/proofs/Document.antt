-- The board of document 01 is lawful.
use mathlib.Core.Path.{refl}
use lib.ListN.{length}
use lib.Dec.{leb}
use borrow.Author.Tests.{leb-true}
use Rattle.lists.proofs.Cases.{both_hold}
use Rattle.directory.proofs.DirectLaws.{direct_laws}
use Rattle.directory.proofs.Scan.{scan_orderly, orderly_scan}
use Rattle.instructions.specs.Board.{document_board}
use Rattle.sound.specs.BoardLaws.{BoardLaws}

unfoldable pub document_laws : BoardLaws document_board
unfolding document_board direct_laws
document_laws =
    record {
      placement = direct_laws;
      passed = λ N dir s l h. scan_orderly N dir
          (leb-true 1 (length dir) (both_hold (leb 1 (length dir)) (leb (length dir) 64) s).0) l h;
      passes = λ N dir o. orderly_scan N dir o;
      words = 8;
      whole_words = refl;
    }

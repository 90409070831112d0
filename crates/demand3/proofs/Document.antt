-- Demand 3 for the board of document 01, from reset.
use Prim.Native.Nat.{ℕ, ◌*◌, ◌/◌, ◌%◌, ◌≤◌}
use native.Mathlib.Omega.{arith}
use mathlib.Core.Path.{◌≡◌, refl}
use mathlib.Core.Bool.{true, ◌&&◌}
use lib.ListN.{length}
use lib.Dec.{eqb, leb}
use borrow.Author.Tests.{eq-eqb, leb-true, le-leb}
use Rattle.lists.specs.Bytes.{zeros}
use Rattle.lists.proofs.ByteLaws.{length-zeros, get_d_zeros}
use Rattle.lists.proofs.Cases.{both_hold}
use Rattle.model.specs.Cached.{Cached, as_it_stands}
use Rattle.agree.specs.Agree.{AllEmpty}
use Rattle.directory.specs.Numbers.{entry_of}
use Rattle.directory.specs.Direct.{direct, all_fine}
use Rattle.directory.proofs.DirectLaws.{zero_unused}
use Rattle.directory.proofs.Scan.{orderly_scan, zeros-orderly}
use Rattle.instructions.specs.Rules.{first_of}
use Rattle.instructions.specs.Board.{document_board}
use Rattle.instructions.specs.Record.{reset}
use Rattle.instructions.specs.Refusals.{size_fine, memory_flaws, cache_flaws, cached_flaws}
use Rattle.sound.proofs.Document.{document_laws}
use Rattle.demand3.specs.Statement.{Demand3FromReset}
use Rattle.demand3.proofs.Demand3.{demand3}

-- a directory of zeros is empty
zeros-empty : (C : ℕ) → AllEmpty direct (zeros C)
unfolding direct entry_of
zeros-empty C = record { unused = λ p h. rw (get_d_zeros C p (rw (length-zeros C) at h)) zero_unused }

document_empty : (C : ℕ) → AllEmpty document_board.placement (zeros C)
unfolding document_board
document_empty C = zeros-empty C

-- a memory of document 01's size has at most 1,024 lines
size-lines : (M : ℕ) → size_fine M ≡ true → M / 64 ≤ 1024
unfolding size_fine
size-lines M z =
    let a = both_hold (eqb (M % 64) 0) (leb 128 M && leb M 65536) z in
    let b = both_hold (leb 128 M) (leb M 65536) a.1 in
    omega (arith, leb-true M 65536 b.1)

-- nothing of such a memory with an empty cache is refused
fresh_accepted : (s : Cached) (C : ℕ) → s.cache ≡ zeros (C * 64) → s.dir ≡ zeros C
    → size_fine (length s.mem) ≡ true → length s.macs ≡ length s.mem / 4 → 1 ≤ C → C ≤ 64
    → first_of (cached_flaws document_board s) ≡ 0
unfolding document_board cached_flaws memory_flaws cache_flaws
fresh_accepted s C p q z e lo hi =
    let M = length s.mem in
    let scan : all_fine (M / 64) (length (zeros C)) 0 (zeros C) ≡ true =
    orderly_scan (M / 64) (zeros C) (zeros-orderly (M / 64) C lo (size-lines M z)) in
    rw (
      p,
      q,
      z,
      e,
      eq-eqb (M / 4) (M / 4) refl,
      scan,
      length-zeros C,
      length-zeros (C * 64),
      le-leb 1 C lo,
      le-leb C
          64 hi,
      eq-eqb (C * 64) (C * 64) refl,
    )

pub demand3-from-reset : Demand3FromReset
unfolding as_it_stands
demand3-from-reset c CL drk mem macs before C k b z e lo hi calls bs =
    let s : Cached = record { key = drk; mem = mem; macs = macs; cache = zeros (C * 64); dir = zeros C } in
    demand3 document_board document_laws c CL s
    (record { accepted = fresh_accepted s C refl refl z e lo hi; bytes = b; key = k; empty = document_empty C })
    (reset document_board before) calls bs

-- A row that is filled whole, record by record from the first on, is what the meaning's listing gives.
use mathlib.Core.Path.{◌≡◌, refl, sym, ap, ◌∙◌}
use Prim.Native.Nat.{ℕ, zero, suc, ◌+◌}
use native.Mathlib.Omega.{arith}
use mathlib.Core.Bool.{not}
use mathlib.Core.List.{List, [], ◌∷◌, map}
use lib.ListN.{length, set, length-set, replicate, length-replicate}
use borrow.Author.Tests.{eqb-true, ne_eqb, not-false}
use lib.Dec.{eqb}
use Rattle.model.specs.Placement.{Entry, Placement, empty}
use Rattle.directory.specs.Direct.{direct}
use Rattle.instructions.specs.Rules.{first_of}
use Rattle.instructions.specs.Board.{document_board}
use Rattle.instructions.specs.Refusals.{row_flaws}
use Rattle.instructions.proofs.RuleLaws.{first_of-none, or_else-none}
use Rattle.instructions.specs.Listing.{entries_from, listing_refusal, listing}
use Rattle.machine.specs.Lent.{Lent, machine_in}
use Rattle.board.specs.Listed.{Lists}
use Rattle.answers.specs.declared.refusals.Refusal.{Refusal}
use Rattle.answers.specs.Numbers.{refusal_number}
use Rattle.machine.specs.declared.answer.Report.{Report}
use Rattle.model.specs.Log.{no_counts}
use Rattle.host.specs.Outcome.{Reports}
use Rattle.host.proofs.Refusing.{some_number}
use Rattle.host.specs.declared.listing.LineRecord.{LineRecord}
use Rattle.host.specs.Row.{row_of}

module _ {X : Type 0} where
  -- the first i places have what f gives
  abbrev pub written : (ℕ → X) → ℕ → List X → List X
  written f zero ys = ys
  written f (suc i) ys = set (written f i ys) i (f i)

  pub length-written : (f : ℕ → X) (i : ℕ) (ys : List X) → length (written f i ys) ≡ length ys
  length-written f zero ys = refl
  length-written f (suc i) ys = length-set (written f i ys) i (f i) ∙ length-written f i ys

  written-first : (f : ℕ → X) (i : ℕ) (y : X) (ys : List X) → written f (suc i) (y ∷ ys) ≡ f zero
      ∷ written (λ (j : ℕ). f (suc j)) i ys
  written-first f zero y ys = refl
  written-first f (suc i) y ys = ap (λ (l : List X). set l (suc i) (f (suc i))) (written-first f i y ys)

-- a record of what place i holds
abbrev pub row_at : Placement → List ℕ → ℕ → LineRecord
row_at P dir i = row_of (P.look dir i)

module _ (P : Placement) (dir : List ℕ) where
  filled-from : (p : ℕ) (f : ℕ → LineRecord) (ys : List LineRecord)
      → ((i : ℕ) → f i ≡ row_at P dir (p + i))
      → written f (length ys) ys ≡ map row_of (entries_from P dir (length ys) p)
  unfolding entries_from
  filled-from p f [] e = refl
  filled-from p f (y ∷ ys) e =
      let here : p + zero ≡ p = omega arith in
      let next : (j : ℕ) → p + suc j ≡ p + 1 + j = λ j. omega arith in
      written-first f (length ys) y ys ∙ (λ i. (e zero ∙ ap (row_at P dir) here) i
      ∷ filled-from (p + 1) (λ (j : ℕ). f (suc j)) ys (λ j. e (suc j) ∙ ap (row_at P dir) (next j)) i)

  pub filled_whole : (ys : List LineRecord) → written (row_at P dir) (length ys) ys
      ≡ map row_of (entries_from P dir (length ys) 0)
  filled_whole ys =
      let here : (j : ℕ) → j ≡ 0 + j = λ j. omega arith in
      filled-from 0 (row_at P dir) ys (λ j. ap (row_at P dir) (here j))

-- ---- a listing that is not refused has a row of as many records as there are slots
row_fits : (rows : ℕ) (dir : List ℕ) → first_of (row_flaws rows dir) ≡ 0 → rows ≡ length dir
unfolding row_flaws
row_fits rows dir e =
    let same = first_of-none (not (eqb rows (length dir))) 110 0 (λ q. omega arith) e in
    eqb-true rows (length dir) (not-false (eqb rows (length dir)) same.0)

module _ (l : Lent) (ys : List LineRecord) where
  abbrev refused : ℕ → ℕ
  refused = listing_refusal document_board (machine_in l)

  as_many : (rows : ℕ) → refused rows ≡ 0 → rows ≡ length l.dir
  unfolding listing_refusal
  as_many rows e = row_fits rows l.dir (or_else-none _ _ (or_else-none _ _ e).1).1

  abbrev entries : List Entry
  entries = entries_from direct l.dir (length l.dir) 0

  carried : refused (length ys) ≡ 0 → written (row_at direct l.dir) (length ys) ys ≡ map row_of entries
  carried e = filled_whole direct l.dir ys ∙ ap (λ (c : ℕ). map row_of (entries_from direct l.dir c 0))
      (as_many (length ys) e)

  -- refused by the length of the row, or by that of as many empty entries
  same-refusal : refused (length ys) ≡ refused (length (replicate (length ys) empty))
  same-refusal = ap refused (sym (length-replicate (length ys) empty))

  -- a row that is refused
  pub refused-lists : {x : Report} (e : Refusal) → refusal_number e ≡ refused (length ys)
      → Reports (refusal_number e) no_counts x → Lists l ys x ys
  unfolding listing document_board
  refused-lists e is r =
      let number = is ∙ same-refusal in
      record { reported = rw number at r; filled = rw (← number, ne_eqb (refusal_number e) 0 (some_number e)) }

  -- one that is filled whole
  pub filled-lists : {x : Report} → 0 ≡ refused (length ys) → Reports 0 no_counts x
      → Lists l ys x (written (row_at direct l.dir) (length ys) ys)
  unfolding listing document_board
  filled-lists is r =
      let number = is ∙ same-refusal in
      record { reported = rw number at r; filled = rw (← number) (carried (sym is)) }

-- Traps met before, as small theorems: R0 is not hidden and a resume works; end_cem at offset 44 does not fall into
-- the MAC; a restart keeps the SRH; a run goes on.
use Prim.Native.Nat.{ℕ, suc, ◌+◌, ◌*◌, ◌/◌, ◌%◌}
use mathlib.Core.Path.{◌≡◌, refl, ap₂}
use mathlib.Core.Bool.{Bool, true, false, ◌&&◌, ◌||◌}
use mathlib.Core.List.{List, [], ◌++◌}
use lib.Dec.{leb}
use borrow.Author.Tests.{eq-eqb, ne_eqb}
use Rattle.lists.specs.If.{if}
use Rattle.lists.proofs.ByteLaws.{same_refl}
use Rattle.lists.proofs.Xor.{xored_behind_undo}
use Rattle.model.specs.Cipher.{Cipher}
use Rattle.instructions.specs.Board.{Board, modulus}
use Rattle.instructions.specs.Record.{Processor, with_srh, active, blank, reset}
use Rattle.instructions.specs.Fields.{opcode}
use Rattle.instructions.specs.Operations.{next_mode, taken, behind, next_pc, executed}
use Rattle.instructions.specs.Suspend.{hash_of, hidden, suspended, entered, resumes, restored, hash_right}
use Rattle.instructions.specs.Suspend.{returned}
use Rattle.instructions.specs.Calls.{Machine, Setup, step, run_from}

-- what was hidden by a key stream comes back by it
hidden_undo : (B : Board) (c : Cipher) (key hash regs : List ℕ)
    → hidden B c key hash (hidden B c key hash regs) ≡ regs
unfolding hidden
hidden_undo B c key hash regs = xored_behind_undo B.word_bytes (c.stream key hash) regs

-- a thread that was suspended by a fault or an interrupt and is resumed as it stands has its registers, its mode and
-- its pc again
module _ (B : Board) (c : Cipher) (key : List ℕ) (n : ℕ) (r : Processor) (on : active r ≡ true) where
  abbrev asleep : Processor
  asleep = entered B c key n r

  pub resume_matches : resumes asleep ≡ true
  unfolding resumes entered suspended
  resume_matches = rw (on, eq-eqb r.pc r.pc refl, eq-eqb r.pid r.pid refl, eq-eqb r.cid r.cid refl)

  pub resume_restores : restored B c key asleep ≡ r.regs
  unfolding restored entered suspended
  resume_restores = rw on (hidden_undo B c key (hash_of B c key r.regs) r.regs)

  saved-hash : asleep.cem.saved.hash ≡ hash_of B c key r.regs
  unfolding entered suspended
  saved-hash = rw on

  pub resume_hash : hash_right B c key asleep ≡ true
  unfolding hash_right
  resume_hash = rw (resume_restores, saved-hash) (same_refl (hash_of B c key r.regs))

  pub resumed :
      let awake = returned B c key asleep in
      (awake.regs ≡ r.regs) × (awake.pc ≡ r.pc) × (awake.cem.mode ≡ 1)
  unfolding returned
  resumed = (rw (resume_matches, resume_restores), kept-pc, rw resume_matches)
    where
      kept-pc : asleep.epc ≡ r.pc
      kept-pc = unfold entered in refl

-- end_cem in active mode at offset 44 goes to the next line
pub end_at_44 : (B : Board) (c : Cipher) (key : List ℕ) (r : Processor) (w loaded : ℕ) → opcode w ≡ 40
    → active r ≡ true → r.pc % 64 ≡ 44 → (executed B c key r w loaded).pc ≡ (r.pc / 64 * 64 + 64) % modulus
    B
unfolding executed next_pc taken behind active next_mode
end_at_44 B c key r w loaded e a p =
    let next = (r.pc / 64 * 64 + 64) % modulus B in
    rw e (ap₂ (λ (t : Bool) (o : ℕ). if ((t || false) && leb 44 o) next ((r.pc + 4) % modulus B)) a p)

-- a restart keeps the SRH, and all else is as in the blank record
pub restart_keeps_srh : (B : Board) (r : Processor) → (reset B r).cem.srh ≡ r.cem.srh
unfolding reset
restart_keeps_srh B r = refl

pub restart_clears_all_else : (B : Board) (r : Processor) (srh : List ℕ)
    → with_srh srh (reset B r) ≡ with_srh srh (blank B)
unfolding reset
restart_clears_all_else B r srh = refl

-- a run goes on with the next instruction after each step without fault, and stops behind a step that faults
module _ {S : Type 0} (B : Board) (c : Cipher) (H : Setup S) (k i : ℕ) (m : Machine S) where
  abbrev after : Machine S
  after = record { processor = (step B c H m).out.processor; memory = (step B c H m).state }

  pub run_goes_on : (step B c H m).out.fault ≡ 0
      → run_from B c H (suc k) i m ≡ record {
        answer = (run_from B c H k (i + 1) after).answer;
        steps = (run_from B c H k (i + 1) after).steps;
        buffer = [];
        machine = (run_from B c H k (i + 1) after).machine;
        log = (step B c H m).log ++ (run_from B c H k (i + 1) after).log;
      }
  unfolding run_from
  run_goes_on e = rw (eq-eqb (step B c H m).out.fault 0 e)

  pub run_stops : ((step B c H m).out.fault ≡ 0 → ⊥)
      → run_from B c H (suc k) i m ≡ record {
        answer = (step B c H m).out.fault;
        steps = i + 1;
        buffer = [];
        machine = after;
        log = (step B c H m).log ++ [];
      }
  unfolding run_from
  run_stops d = rw (ne_eqb (step B c H m).out.fault 0 d)

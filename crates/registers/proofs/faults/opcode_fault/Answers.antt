-- `registers::faults::opcode_fault` meets its promise.
use Rattle.std.proofs.Common.{refl, sym, ◌∙◌, eqb, eq-eqb, ne_eqb, get_or}
use Rattle.std.proofs.Math.Bool.{and-false}
use Rattle.instructions.specs.Board.{opcode_table}
use Rattle.opcodes.specs.Numbers.{opcode_number}
use Rattle.instructions.specs.Faults.{opcode_faults}
use Rattle.instructions.specs.Record.{active}
use Rattle.registers.proofs.Decoding.{opcode_exists, opcode_active}
use Rattle.registers.proofs.faults.opcode_fault.Goals.{else-q-ne1-via-then-q-ne1+else-needs_active, else-q-ne1-via-else-q-ne1}
use Rattle.registers.proofs.faults.opcode_fault.Goals as goal

pub returns-then-needs_active : goal.returns-then-needs_active
unfolding opcode_faults active
returns-then-needs_active c =
    let e = sym c.instruction.ensures ∙ c.in-Some.is in
    rw (opcode_exists _ _ e, opcode_active _ _ e, ← c.needs_active.ensures, c.if-needs_active.true, ne_eqb _ _ c.if-q-ne1.true) refl

pub returns : goal.returns
unfolding opcode_faults active
returns c =
    let e = sym c.instruction.ensures ∙ c.in-Some.is in
    rw (opcode_exists _ _ e, opcode_active _ _ e)
    (elim c.else-q-ne1.branch [
      | else-q-ne1-via-then-q-ne1+else-needs_active w ↦ rw (← w.needs_active.ensures, w.if-needs_active.false) c.thread_fault.ensures
      | else-q-ne1-via-else-q-ne1 w ↦ rw (eq-eqb _ _ w.if-q-ne1.false, and-false (eqb (get_or opcode_table (opcode_number c.in-Some.opcode) 0) 2))
          c.thread_fault.ensures
    ])

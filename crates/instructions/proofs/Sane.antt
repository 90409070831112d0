-- Every step, interrupt and reset leaves R0 zero and the mode at most 2.
use Prim.Native.Nat.{ℕ, ◌≤◌}
use native.Mathlib.Omega.{arith}
use mathlib.Core.Path.{◌≡◌, refl, sym, ◌∙◌}
use mathlib.Core.Bool.{Bool, true, false, not, ◌||◌}
use mathlib.Core.List.{List, [], ◌∷◌}
use lib.ListN.{get_or}
use lib.Seq.{get_or-set_other}
use lib.Dec.{eqb, ltb}
use borrow.Author.Tests.{eqb-true, eqb-false, eq-eqb, ltb-false, le-ltb, not-false}
use Rattle.lists.specs.Words.{xored_behind}
use Rattle.lists.specs.If.{if}
use Rattle.lists.proofs.Cases.{by_test}
use Rattle.lists.proofs.ByteLaws.{get_d_zeros}
use Rattle.model.specs.Cipher.{Cipher}
use Rattle.instructions.specs.Rules.{first_of}
use Rattle.instructions.specs.Board.{Board}
use Rattle.instructions.specs.Record.{Processor, reg, with_reg, active, reset, Sane}
use Rattle.instructions.specs.Fields.{opcode, field_a}
use Rattle.instructions.specs.Operations.{has_value, value, modes, next_mode, executed}
use Rattle.instructions.specs.Suspend.{hash_of, hidden, suspended, entered, resumes, restored, returned}
use Rattle.instructions.specs.Faults.{late_fault}
use Rattle.instructions.specs.Wishes.{Got}
use Rattle.instructions.specs.Step.{known_fault, finished}
use Rattle.instructions.specs.Refusals.{record_flaws}
use Rattle.instructions.proofs.RuleLaws.{if-each, pick-each}

-- refusal 105 lets exactly these records pass
pub flaws-sane : (r : Processor) → first_of (record_flaws r) ≡ 0 → Sane r
unfolding record_flaws
flaws-sane r z = go (not (eqb (reg r 0) 0)) (ltb 2 r.cem.mode) refl refl z
  where
    go : (a b : Bool) → not (eqb (reg r 0) 0) ≡ a → ltb 2 r.cem.mode ≡ b
        → ◌≡◌ {A = ℕ} (if (a || b) 105 0) 0
        → Sane r
    go true b p q e = absurd (omega arith)
    go false true p q e = absurd (omega arith)
    go false false p q e =
        record { zeroth = eqb-true (reg r 0) 0 (not-false (eqb (reg r 0) 0) p); mode = ltb-false 2 r.cem.mode q }

pub sane-flaws : (r : Processor) → Sane r → first_of (record_flaws r) ≡ 0
unfolding record_flaws
sane-flaws r S = rw (eq-eqb (reg r 0) 0 S.zeroth, le-ltb 2 r.cem.mode S.mode)

-- a write leaves R0 as it was
with_zeroth : (n v : ℕ) (regs : List ℕ) → get_or (with_reg n v regs) 0 0 ≡ get_or regs 0 0
unfolding with_reg
with_zeroth n v regs =
    by_test (eqb n 0) (λ h. rw h) (λ h. rw h (get_or-set_other regs n 0 v 0 (λ e. eqb-false n 0 h (sym e))))

-- hiding leaves R0 as it was
hidden-zeroth : (B : Board) (c : Cipher) (key hash regs : List ℕ) → get_or (hidden B c key hash regs) 0 0 ≡ get_or
    regs 0 0
unfolding hidden xored_behind
hidden-zeroth B c key hash [] = refl
hidden-zeroth B c key hash (x ∷ l) = refl

-- registers of which R0 is zero, and a mode that is at most 2
abbrev Zeroth : List ℕ → Type 0
Zeroth regs = get_or regs 0 0 ≡ 0

abbrev Low : ℕ → Type 0
Low mode = mode ≤ 2

module _ (B : Board) (c : Cipher) (key : List ℕ) (r : Processor) (S : Sane r) where
  abbrev zeroth : get_or r.regs 0 0 ≡ 0
  zeroth = unfold reg in S.zeroth

  hidden-kept : (hash : List ℕ) → Zeroth (hidden B c key hash r.regs)
  hidden-kept hash = hidden-zeroth B c key hash r.regs ∙ zeroth

  sane-executed : (w loaded : ℕ) → Sane (executed B c key r w loaded)
  unfolding executed reg next_mode
  sane-executed w loaded =
      let written = with_zeroth (field_a w) (value B r w loaded) r.regs ∙ zeroth in
      record {
        zeroth =
            if-each Zeroth (has_value w) (with_reg (field_a w) (value B r w loaded) r.regs) r.regs written zeroth;
        mode = pick-each Low (opcode w) modes r.cem.mode (λ e. omega arith, (λ e. omega arith, tt {0})) S.mode;
      }

  pub sane-entered : (n : ℕ) → Sane (entered B c key n r)
  unfolding entered suspended reg
  sane-entered n =
      let hash = hash_of B c key r.regs in
      record {
        zeroth = if-each Zeroth (active r) (hidden B c key hash r.regs) r.regs (hidden-kept hash) zeroth;
        mode = if-each Low (active r) 2 r.cem.mode (omega arith) S.mode;
      }

  sane-returned : Sane (returned B c key r)
  unfolding returned restored reg
  sane-returned =
      record {
        zeroth = if-each Zeroth (resumes r) (restored B c key r) r.regs (hidden-kept r.cem.saved.hash) zeroth;
        mode = if-each Low (resumes r) 1 r.cem.mode (omega arith) S.mode;
      }

  pub sane-finished : (M : ℕ) (got data' : Got) → Sane (finished B c key M r got data').processor
  unfolding finished
  sane-finished M got data' =
      let w = got.number in
      let known = known_fault B M r got in
      let fault = if (eqb known 0) (late_fault B c key r w data'.failed) known in
      by_test (eqb fault 0)
      (λ h. rw h (by_test (eqb (opcode w) 16) (λ k. rw k sane-returned)
      (λ k. rw k (sane-executed w data'.number))))
      (λ h. rw h (sane-entered fault))

pub sane-reset : (B : Board) (r : Processor) → Sane (reset B r)
unfolding reset reg
sane-reset B r = record { zeroth = get_d_zeros 32 0 (omega arith); mode = omega arith }

-- The effect of an instruction that writes a value, and what a change of one register makes of the record.
use Rattle.std.proofs.Common.{◌≡◌, ℕ, Bool, true, false, ◌||◌, eqb, List, [], ◌∷◌, refl, ◌∙◌}
use Rattle.model.specs.Cipher.{Cipher}
use Rattle.instructions.specs.Rules.{one_of}
use Rattle.instructions.specs.Board.{Board}
use Rattle.instructions.specs.Record.{Processor, with_reg, with_regs, with_pc}
use Rattle.instructions.specs.Fields.{opcode, field_a}
use Rattle.instructions.specs.Operations.{Ra, Rb, value_opcodes, has_value, value, behind, next_pc, modes, next_mode}
use Rattle.instructions.specs.Operations.{taken, effects, effect, executed}
use Rattle.instructions.proofs.RuleLaws.{outside, eqb-outside, pick-outside}
use Rattle.registers.specs.Map.{processor_of}
use Rattle.registers.specs.Effects.{Holds, Changes, next_key}
use Rattle.registers.specs.declared.record.Special.{Special}

or_self : (b : Bool) → (b || b) ≡ b
or_self true = refl
or_self false = refl

-- the opcodes that write a value
abbrev is_value : ℕ → Bool
is_value k = one_of k value_opcodes

-- they keep the DRK
module _ (key : List ℕ) (p : Processor) (w : ℕ) where
  pub next_key-value : has_value w ≡ true → key ≡ next_key key p w
  unfolding has_value next_key
  next_key-value h = rw (eqb-outside is_value (opcode w) 32 h refl)

module _ (B : Board) (c : Cipher) (key : List ℕ) (p : Processor) (w loaded : ℕ) where
  abbrev op : ℕ
  op = opcode w

  -- an opcode that a test tells from those of a table does nothing there
  module _ (test : ℕ → Bool) (h : test op ≡ true) where
    effect-outside : outside test (effects c key p w (Ra p w) (Rb p w)) ≡ true → effect c key p w ≡ p
    unfolding effect
    effect-outside o = pick-outside test op (effects c key p w (Ra p w) (Rb p w)) p h o

    next_mode-outside : outside test modes ≡ true → next_mode p w ≡ p.cem.mode
    unfolding next_mode
    next_mode-outside o = pick-outside test op modes p.cem.mode h o

  -- an opcode that writes a value changes Ra and pc alone
  pub executed-value : (regs : List ℕ) (pc : ℕ) → has_value w ≡ true
      → regs ≡ with_reg (field_a w) (value B p w loaded) p.regs
      → pc ≡ behind B p.pc (eqb p.cem.mode 1) → with_regs regs (with_pc pc p) ≡ executed B c key p w loaded
  unfolding has_value executed next_pc taken
  executed-value regs pc h a b =
      rw (
        h,
        pick-outside is_value op ((8, eqb (Ra p w) (Rb p w)) ∷ (9, true) ∷ []) false h refl,
        next_mode-outside is_value h refl,
        effect-outside is_value h refl,
        or_self (eqb p.cem.mode 1),
        a,
        b,
      )

-- what changed one register, where the meaning's rule changes it so
pub changed : {f : Processor → Processor} {key key' regs : List ℕ} {p : Processor} {q x : Special} → Changes f key q x
    → f (processor_of regs q) ≡ p → key ≡ key' → Holds p key' regs x
changed {regs = regs} C r s = record { record' = C.record' regs ∙ r; key' = C.key' ∙ s }

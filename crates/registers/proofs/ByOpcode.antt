-- Functions that go by the opcode: what the arm of opcode k promises is what the meaning's table says at k.
use Rattle.std.proofs.Common.{◌≡◌, ℕ, eqb, List, get_or, sym, ◌∙◌, ne_eqb}
use Rattle.lists.specs.If.{if}
use Rattle.model.specs.Cipher.{Cipher}
use Rattle.instructions.specs.Rules.{pick}
use Rattle.instructions.specs.Board.{Board}
use Rattle.instructions.specs.Record.{Processor, reg}
use Rattle.instructions.specs.Fields.{opcode, field_a, field_b, field_c}
use Rattle.instructions.specs.Operations.{Ra, Rb, Rc, address, values, value, effects, effect, modes, next_mode}
use Rattle.instructions.specs.Operations.{two_words}
use Rattle.instructions.specs.Wishes.{idle}
use Rattle.instructions.specs.Step.{wishes, wish_for}
use Rattle.instructions.proofs.RuleLaws.{Apart, pick-none}
use Rattle.registers.specs.Map.{processor_of, key_of}
use Rattle.registers.specs.Effects.{Holds, Changes, next_key}
use Rattle.registers.specs.Wanted.{wish_in}
use Rattle.registers.specs.declared.decide.Wish.{Wish}
use Rattle.registers.specs.declared.record.Special.{Special}

-- what was read of an instruction: its opcode, and the words x and y in registers i and j
pub record Reads (regs : List ℕ) (w op i x j y : ℕ) : Type 0 where
  pub op-is : op ≡ opcode w
  pub x_is : x ≡ get_or regs i 0
  pub y_is : y ≡ get_or regs j 0

pub read : {regs : List ℕ} {w op i x j y : ℕ} → op ≡ opcode w → x ≡ get_or regs i 0 → y ≡ get_or regs j 0
    → Reads regs w op i x j y
read o e f = record { op-is = o; x_is = e; y_is = f }

module _ (B : Board) (p : Processor) {w op b c : ℕ} (R : Reads p.regs w op (field_b w) b (field_c w) c)
    (loaded : ℕ)
  where
    pub value-at : (k v : ℕ) → op ≡ k → v ≡ pick k (values B p w loaded b c) 0 → v ≡ value B p w loaded
    unfolding value Rb Rc reg
    value-at k v e h = rw (← R.op-is, ← R.x_is, ← R.y_is, e) h

    pub value_none : Apart op Unit (values B p w loaded b c) → 0 ≡ value B p w loaded
    unfolding value Rb Rc reg
    value_none a = rw (← R.op-is, ← R.x_is, ← R.y_is)
        (sym (pick-none op Unit (values B p w loaded b c) 0 a))

-- the mode
pub next_mode-at : (p : Processor) (w op k m : ℕ) → op ≡ opcode w → op ≡ k
    → m ≡ pick k modes p.cem.mode
    → m ≡ next_mode p w
unfolding next_mode
next_mode-at p w op k m o e h = rw (← o, e) h

pub next_mode-none : (p : Processor) (w op : ℕ) → op ≡ opcode w → Apart op Unit modes
    → p.cem.mode ≡ next_mode p w
unfolding next_mode
next_mode-none p w op o a = rw (← o) (sym (pick-none op Unit modes p.cem.mode a))

-- the data access
module _ (B : Board) (c : Cipher) (key : List ℕ) (p : Processor) {w op x y : ℕ}
    (R : Reads p.regs w op (field_a w) x (field_b w) y)
    {a : ℕ} (a-is : a ≡ address B p w) (q : Wish) where
  pub granted_at : (k : ℕ) → op ≡ k → wish_in q ≡ pick k (wishes B a x y) idle → wish_in q ≡ wish_for B c key p w
  unfolding wish_for Ra Rb reg
  granted_at k e h = rw (← R.op-is, ← R.x_is, ← R.y_is, ← a-is, e) h

  pub granted_none : Apart op Unit (wishes B a x y) → wish_in q ≡ idle → wish_in q ≡ wish_for B c key p w
  unfolding wish_for Ra Rb reg
  granted_none n h = rw (
    ← R.op-is,
    ← R.x_is,
    ← R.y_is,
    ← a-is,
    pick-none op Unit (wishes B a x y) idle
        n,
  ) h

-- the effect on registers other than Ra, pc and the mode
module _ (c : Cipher) (regs : List ℕ) (q : Special) {w op a b : ℕ} (R : Reads regs w op (field_a w) a (field_b w) b)
  where
    abbrev p : Processor
    p = processor_of regs q

    abbrev Affected : Special → Type 0
    Affected x = Holds (effect c (key_of q) p w) (next_key (key_of q) p w) regs x

    pub effect-at : {f : Processor → Processor} {key : List ℕ} {x : Special} (k : ℕ) → op ≡ k
        → Changes f key q x
        → f p ≡ pick k (effects c (key_of q) p w a b) p → key ≡ if (eqb k 32) (two_words a b) (key_of q)
        → Affected x
    unfolding effect next_key Ra Rb reg
    effect-at k e C r s =
        record {
          record' = rw (← R.op-is, ← R.x_is, ← R.y_is, e) (C.record' regs ∙ r);
          key' = rw (← R.op-is, ← R.x_is, ← R.y_is, e) (C.key' ∙ s);
        }

    pub effect-none : (op ≡ 32 → ⊥) → Apart op Unit (effects c (key_of q) p w a b) → Affected q
    unfolding effect next_key Ra Rb reg
    effect-none d n =
        record {
          record' = rw (← R.op-is, ← R.x_is, ← R.y_is)
              (sym (pick-none op Unit (effects c (key_of q) p w a b) p n));
          key' = rw (← R.op-is, ne_eqb op 32 d);
        }

-- What the end of a step promises: the record of the meaning, and the DRK that goes with it.
use Rattle.std.specs.Prelude.{◌≡◌, ℕ, List, ◌==◌}
use Rattle.lists.specs.If.{if}
use Rattle.model.specs.Cipher.{Cipher}
use Rattle.instructions.specs.Board.{Board}
use Rattle.instructions.specs.Record.{Processor}
use Rattle.instructions.specs.Fields.{opcode}
use Rattle.instructions.specs.Operations.{key_from}
use Rattle.instructions.specs.Wishes.{Got}
use Rattle.instructions.specs.Suspend.{tampered, entered, returned}
use Rattle.instructions.specs.Step.{finished}
use Rattle.registers.specs.Map.{processor_of, key_of}
use Rattle.registers.specs.declared.record.Special.{Special}

-- the record is p, and the DRK is the key
pub record Holds (p : Processor) (key : List ℕ) (regs : List ℕ) (q : Special) : Type 0 where
  pub record' : processor_of regs q ≡ p
  pub key' : key_of q ≡ key

-- the registers but R0 to R31 are changed as f says, and the DRK is the key
pub record Changes (f : Processor → Processor) (key : List ℕ) (q q' : Special) : Type 0 where
  pub record' : (regs : List ℕ) → processor_of regs q' ≡ f (processor_of regs q)
  pub key' : key_of q' ≡ key

module _ (B : Board) (c : Cipher) where
  -- rfi: fault 6 where it resumes and the hash is wrong, and the record after it
  pub record Returns (key : List ℕ) (p : Processor) (n : ℕ) (regs : List ℕ) (q : Special) : Type 0 where
    pub number : n ≡ if (tampered B c key p) 6 0
    pub holds : Holds (if (tampered B c key p) (entered B c key 6 p) (returned B c key p)) key regs q

-- the DRK after an instruction that had its effect: drk.set's new key, and otherwise the old one
unfoldable pub next_key : List ℕ → Processor → ℕ → List ℕ
next_key key p w = if (opcode w == 32) (key_from p w) key

module _ (B : Board) (c : Cipher) where
  -- the end of a step: its fault and record, and the DRK where it has none
  pub record Finishes (M : ℕ) (key : List ℕ) (p : Processor) (got data' : Got) (n : ℕ) (regs : List ℕ)
      (q : Special) : Type 0 where
    pub number : n ≡ (finished B c key M p got data').fault
    pub holds : processor_of regs q ≡ (finished B c key M p got data').processor
    pub drk : key_of q ≡ if (n == 0) (next_key key p got.number) key

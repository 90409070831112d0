-- The marked cases of document 01, P1 to P12, as one list, on a memory of 256 bytes and with any cipher.
use Rattle.std.specs.Prelude.{ℕ, ◌+◌, ◌*◌, ◌-◌, ◌^◌, ◌≡◌, Bool, true, false, ◌∷◌, length}
use Rattle.lists.specs.Bytes.{zeros}
use Rattle.lists.specs.Parts.{part_at, put_at}
use Rattle.lists.specs.Words.{little, little_bytes}
use Rattle.model.specs.Tags.{secure_instruction}
use Rattle.model.specs.Cipher.{Cipher}
use Rattle.model.specs.Lines.{line_at, mac_at, passes}
use Rattle.model.specs.Uncached.{Uncached}
use Rattle.instructions.specs.Board.{document_board}
use Rattle.instructions.specs.Record.{Processor, reg, with_regs, with_pc, with_mode, with_lock, blank}
use Rattle.instructions.specs.Fields.{opcode, field_a, field_b, field_c}
use Rattle.instructions.specs.Step.{Stepped}
use Rattle.instructions.specs.Calls.{uncached_setup, step}

-- an instruction word from its opcode, its registers a, b, c and its lowest bits
unfoldable pub encoded : ℕ → ℕ → ℕ → ℕ → ℕ → ℕ
encoded op a b c low = op * 67108864 + a * 2097152 + b * 65536 + c * 2048 + low

-- a record with a mode, a lock, a pc, and words in R1 and R2; all else zero
unfoldable pub thread : ℕ → Bool → ℕ → ℕ → ℕ → Processor
thread mode lock pc x y =
    with_regs (0 ∷ x ∷ y ∷ zeros 29) (with_pc pc (with_mode mode (with_lock lock (blank document_board))))

-- one step of a record on a memory
unfoldable pub step_on : Cipher → Processor → Uncached → Stepped
step_on c r u = (step document_board c (uncached_setup c u) (record { processor = r; memory = u })).out

-- 256 bytes of memory, all zero but an instruction word at address 0
unfoldable pub holding_word : ℕ → Uncached
holding_word w = record { key = zeros 16; mem = put_at 0 4 (little_bytes 4 w) (zeros 256); macs = zeros 64 }

-- the step of an instruction word at address 0, with words in R1 and R2, in a mode and with a lock
unfoldable pub step_of : Cipher → ℕ → Bool → ℕ → ℕ → ℕ → Stepped
step_of c mode lock x y w = step_on c (thread mode lock 0 x y) (holding_word w)

-- the twelve marked cases
pub record Marked (c : Cipher) : Type 0 where
  -- all ones + 1 gives 0
  pub p1 : reg (step_of c 0 false (2 ^ 64 - 1) 1 (encoded 1 3 1 2 0)).processor 3 ≡ 0
  -- addi to R0 leaves 0
  pub p2 : reg (step_of c 0 false 7 0 (encoded 6 0 1 0 5)).processor 0 ≡ 0
  -- clz of 0 is 64
  pub p3 : reg (step_of c 0 false 0 0 (encoded 7 3 1 0 0)).processor 3 ≡ 64
  -- clz of 1 is 63
  pub p4 : reg (step_of c 0 false 1 0 (encoded 7 3 1 0 0)).processor 3 ≡ 63
  -- word 04611000 hex is add R3,R1,R2
  pub p5 : (opcode 0x04611000 ≡ 1) × (field_a 0x04611000 ≡ 3) × (field_b 0x04611000 ≡ 1)
      × (field_c 0x04611000 ≡ 2)
  -- drk.set locked, sel 2: fault 1
  pub p6 : (step_of c 0 true 1 2 (encoded 32 1 2 0 2)).fault ≡ 1
  -- begin_cem.a suspended: 3
  pub p7 : (step_of c 2 false 0 0 (encoded 39 0 0 0 0)).fault ≡ 3
  -- end_cem in normal mode: 2
  pub p8 : (step_of c 0 false 0 0 (encoded 40 0 0 0 0)).fault ≡ 2
  -- active, pc 48: 4
  pub p9 : (w : ℕ) → (step_on c (thread 1 false 48 0 0) (holding_word w)).fault ≡ 4
  -- load at 252: 9, not 10
  pub p10 : (step_of c 0 false 252 0 (encoded 10 3 1 0 0)).fault ≡ 9
  -- load at 256: 10; at 248 served
  pub p11 :
      ((step_of c 0 false 256 0 (encoded 10 3 1 0 0)).fault ≡ 10)
      × ((step_of c 0 false 248 0 (encoded 10 3 1 0 0)).fault ≡ 0)
  -- add at pc 44, in active mode with its line's MAC right: next pc 64; in normal mode 48
  pub p12 :
      (u : Uncached) → length u.mem ≡ 256 → little (part_at 44 4 (line_at 0 u.mem)) ≡ encoded 1 3 1 2 0
      → (passes c secure_instruction u.key 0 (line_at 0 u.mem) (mac_at 0 u.macs) ≡ true
      → (step_on c (thread 1 false 44 0 0) u).processor.pc ≡ 64)
      × ((step_on c (thread 0 false 44 0 0) u).processor.pc ≡ 48)

-- What decoding finds: an address beyond the memory, and the faults of the opcode before those of the address.
use Rattle.std.proofs.Common.{◌≡◌, ℕ, ◌+◌, ◌-◌, ◌/◌, ◌%◌, ◌<◌, ◌≤◌, Bool, true, false, not, T, zero, suc, get_or, eqb, ltb, sym, refl, ◌∙◌, arith, eqb→eq, ltb-false, ltb-true, le-ltb, lt-ltb, mod-lt, Option, Some, None}
use Rattle.lists.proofs.Cases.{by_test}
use Rattle.instructions.specs.Rules.{first_of}
use Rattle.instructions.specs.Board.{Board, opcode_table, document_board}
use Rattle.instructions.specs.Fields.{opcode, exists, needs_active}
use Rattle.instructions.specs.Record.{Processor}
use Rattle.instructions.specs.Faults.{thread_faults, opcode_faults, address_faults, decode_fault}
use Rattle.opcodes.specs.Numbers.{opcode_number, opcode_named}
use Rattle.opcodes.specs.declared.opcode.Opcode.{Opcode}
use Rattle.answers.specs.declared.faults.Fault.{Fault}
use Rattle.answers.specs.declared.faults.Fault.TheVariants as fault
use Rattle.answers.specs.Numbers.{fault_number}
use Rattle.instructions.proofs.RuleLaws.{first_of-first, first_of-second}

-- an address beyond the last word of a memory, in a difference that cannot wrap
pub ltb_minus : (M a k : ℕ) → k ≤ M → ltb M (a + k) ≡ ltb (M - k) a
ltb_minus M a k h =
    by_test (ltb (M - k) a)
    (λ e.
    let l : M - k < a = ltb-true (M - k) a e in
    lt-ltb M (a + k) (omega arith) ∙ sym e)
    (λ e.
    let l : a ≤ M - k = ltb-false (M - k) a e in
    le-ltb M (a + k) (omega arith) ∙ sym e)

-- the number of a fault is not 0
pub fault_number_some : (f : Fault) → fault_number f ≡ 0 → ⊥
fault_number_some fault.DrkLocked e = omega arith
fault_number_some fault.ActiveModeNeeded e = omega arith
fault_number_some fault.OutsideNormalMode e = omega arith
fault_number_some fault.CodeLineWrong e = omega arith
fault_number_some fault.DataLineWrong e = omega arith
fault_number_some fault.RegisterHashWrong e = omega arith
fault_number_some fault.NotOnThisProcessor e = omega arith
fault_number_some fault.RestoreRefused e = omega arith
fault_number_some fault.NotAligned e = omega arith
fault_number_some fault.BeyondMemory e = omega arith
fault_number_some fault.UndefinedOpcode e = omega arith

-- the opcode has a fault, or it has none and the address decides
module _ (B : Board) (M : ℕ) (p : Processor) (w : ℕ) where
  pub decode_fault_opcode : (f : Fault) → fault_number f ≡ first_of (opcode_faults B p w)
      → fault_number f ≡ decode_fault B M p w
  unfolding decode_fault
  decode_fault_opcode f e =
      first_of-first (fault_number f) (opcode_faults B p w) (address_faults B M p w) e (fault_number_some f)

  pub decode_fault_address : (n : ℕ) → 0 ≡ first_of (opcode_faults B p w) → n ≡ first_of (address_faults B M p w)
      → n ≡ decode_fault B M p w
  unfolding decode_fault opcode_faults thread_faults
  decode_fault_address n none e =
      first_of-second n (opcode_faults B p w) (address_faults B M p w) refl (sym none) e

-- a test that antt computes at each number below n holds of each
abbrev both : Bool → Bool → Bool
both true b = b
both false b = false

both_left : (a b : Bool) → T (both a b) → T a
both_left true b t = tt
both_left false b t = t

both_right : (a b : Bool) → T (both a b) → T b
both_right true b t = t
both_right false b t = absurd t

abbrev every : (ℕ → Bool) → ℕ → Bool
every test zero = true
every test (suc n) = both (test 0) (every (λ i. test (suc i)) n)

below : (test : ℕ → Bool) (n k : ℕ) → T (every test n) → k < n → T (test k)
below test zero k t h = absurd (omega (arith, h))
below test (suc n) zero t h = both_left _ _ t
below test (suc n) (suc k) t h = below (λ i. test (suc i)) n k (both_right _ _ t) (omega (arith, h))

-- what the table of opcodes says of an instruction, and 0 where there is none
abbrev listed : Option Opcode → ℕ
listed None = 0
listed (Some x) = get_or opcode_table (opcode_number x) 0

table_listed : (w : ℕ) → get_or opcode_table (opcode w) 0 ≡ listed (opcode_named (opcode w))
unfolding opcode opcode_table
table_listed w =
    eqb→eq _ _ (below (λ n. eqb (get_or opcode_table n 0) (listed (opcode_named n))) 64 (w / 67108864 % 64) tt
    (mod-lt (w / 67108864) (omega arith)))

pub opcode_undefined : (w : ℕ) → opcode_named (opcode w) ≡ None → exists document_board w ≡ false
unfolding exists document_board
opcode_undefined w e = rw (table_listed w, e) refl

-- an instruction is in the table
abbrev in_table : Option Opcode → Bool
in_table None = true
in_table (Some x) = not (eqb (get_or opcode_table (opcode_number x) 0) 0)

known : (w : ℕ) → T (in_table (opcode_named (opcode w)))
unfolding opcode opcode_table
known w = below (λ n. in_table (opcode_named n)) 64 (w / 67108864 % 64) tt (mod-lt (w / 67108864) (omega arith))

is_true : (b : Bool) → T b → b ≡ true
is_true true t = refl
is_true false t = absurd t

pub opcode_exists : (w : ℕ) (x : Opcode) → opcode_named (opcode w) ≡ Some x → exists document_board w ≡ true
unfolding exists document_board
opcode_exists w x e = rw (table_listed w, e) (is_true _ (rw e at (known w)))

pub opcode_active : (w : ℕ) (x : Opcode) → opcode_named (opcode w) ≡ Some x
    → needs_active document_board w ≡ eqb (get_or opcode_table (opcode_number x) 0) 2
unfolding needs_active document_board
opcode_active w x e = rw (table_listed w, e) refl

-- The faults of the machine, in the order checked; 0 is no fault.
use Rattle.std.specs.Prelude.{ℕ, ◌+◌, ◌%◌, Bool, true, not, ◌&&◌, ◌||◌, List, [], ◌∷◌, ◌++◌, eqb, leb, ltb}
use Rattle.model.specs.Cipher.{Cipher}
use Rattle.instructions.specs.Rules.{first_of, pick, one_of}
use Rattle.instructions.specs.Board.{Board}
use Rattle.instructions.specs.Record.{Processor, active}
use Rattle.instructions.specs.Fields.{opcode, sel, exists, needs_active}
use Rattle.instructions.specs.Operations.{address}
use Rattle.instructions.specs.Suspend.{tampered}

-- before the fetch: 9 if pc is not a multiple of 4; 10 if pc ≥ M; in active mode 4 if pc mod 64 ≥ 48
unfoldable pub fetch_fault : ℕ → Processor → ℕ
fetch_fault M r =
    first_of ((not (eqb (r.pc % 4) 0), 9) ∷ (leb M r.pc, 10) ∷ (active r && leb 48 (r.pc % 64), 4) ∷ [])

-- is sel one that the opcode lists: 0 for drk.set, 0 and 2 for gr.get, 0 to 3 for gr.set? No other opcode has one
unfoldable pub sel_listed : ℕ → Bool
sel_listed w = pick (opcode w) ((32, eqb (sel w) 0) ∷ (37, one_of (sel w) (0 ∷ 2 ∷ [])) ∷ (38, leb (sel w) 3)
    ∷ []) true

-- does the instruction name a data address: load, store, secure_load, secure_store?
unfoldable pub has_address : ℕ → Bool
has_address w = one_of (opcode w) (10 ∷ 11 ∷ 41 ∷ 42 ∷ [])

-- of the concealed thread's instructions: 1 drk.set while locked; 3 begin_cem.a outside normal mode; 7 opcode 43 or a
-- sel not listed
unfoldable pub thread_faults : Processor → ℕ → List (Bool × ℕ)
thread_faults r w =
    (eqb (opcode w) 32 && r.cem.lock, 1)
    ∷ (eqb (opcode w) 39 && not (eqb r.cem.mode 0), 3)
    ∷ (eqb (opcode w) 43 || not (sel_listed w), 7)
    ∷ []

-- of the opcode: 11 undefined; 2 active mode needed; and those of the concealed thread
unfoldable pub opcode_faults : Board → Processor → ℕ → List (Bool × ℕ)
opcode_faults B r w = (not (exists B w), 11) ∷ (needs_active B w && not (active r), 2) ∷ thread_faults r w

-- of the data address: 9 not a multiple of a word's bytes; 10 beyond M less a word
unfoldable pub address_faults : Board → ℕ → Processor → ℕ → List (Bool × ℕ)
address_faults B M r w =
    (has_address w && not (eqb (address B r w % B.word_bytes) 0), 9)
    ∷ (has_address w && ltb M (address B r w + B.word_bytes), 10)
    ∷ []

-- after the fetch: the rules of the opcode, then those of the address
unfoldable pub decode_fault : Board → ℕ → Processor → ℕ → ℕ
decode_fault B M r w = first_of (opcode_faults B r w ++ address_faults B M r w)

-- after the data access: 5 data MAC fails; 6 register hash fails at rfi
unfoldable pub late_fault : Board → Cipher → List ℕ → Processor → ℕ → Bool → ℕ
late_fault B c key r w failed = first_of ((failed, 5) ∷ (eqb (opcode w) 16 && tampered B c key r, 6) ∷ [])

-- What each opcode does to the record once nothing is amiss: its value for Ra, the other registers, the next pc.
use Rattle.std.specs.Prelude.{ℕ, ◌+◌, ◌-◌, ◌*◌, ◌/◌, ◌%◌, ◌^◌, Bool, true, false, ◌&&◌, ◌||◌, List, [], ◌∷◌, ◌++◌, get_or, set, eqb, leb}
use Rattle.std.specs.Int.Bits.{bit_and, bit_or, bit_xor}
use Rattle.std.specs.Int.Count.{count_leading_zeros}
use Rattle.lists.specs.If.{if}
use Rattle.lists.specs.Parts.{part_at}
use Rattle.lists.specs.Words.{big, big_bytes}
use Rattle.model.specs.Cipher.{Cipher}
use Rattle.instructions.specs.Rules.{pick, one_of}
use Rattle.instructions.specs.Board.{Board, modulus}
use Rattle.instructions.specs.Record.{Processor, reg, with_reg, with_regs, with_pc, with_epc, with_ids, with_mode}
use Rattle.instructions.specs.Record.{with_lock, with_srh, with_buffer}
use Rattle.instructions.specs.Fields.{opcode, field_a, field_b, field_c, imm, sel}

-- the word in the register that field a names
unfoldable pub Ra : Processor → ℕ → ℕ
Ra r w = reg r (field_a w)

-- the word in the register that field b names
unfoldable pub Rb : Processor → ℕ → ℕ
Rb r w = reg r (field_b w)

-- the word in the register that field c names
unfoldable pub Rc : Processor → ℕ → ℕ
Rc r w = reg r (field_c w)

-- Rb + imm: addi's sum, and the address of a load or store
unfoldable pub address : Board → Processor → ℕ → ℕ
address B r w = (Rb r w + imm B w) % modulus B

-- the opcodes that write a value to Ra
abbrev pub value_opcodes : List ℕ
value_opcodes = 1 ∷ 2 ∷ 3 ∷ 4 ∷ 5 ∷ 6 ∷ 7 ∷ 10 ∷ 12 ∷ 14 ∷ 38 ∷ 41 ∷ []

-- does the opcode write a value to Ra?
unfoldable pub has_value : ℕ → Bool
has_value w = one_of (opcode w) value_opcodes

-- the values by opcode, of the words b and c in Rb and Rc: add, sub, and, or, xor; addi; leading zeros; the word
-- loaded; EPC; cause; word sel of CEM_Buffer
abbrev pub values : Board → Processor → ℕ → ℕ → ℕ → ℕ → List (ℕ × ℕ)
values B r w loaded b c =
    (1, (b + c) % modulus B)
    ∷ (2, (b + (modulus B - c)) % modulus B)
    ∷ (3, bit_and b c)
    ∷ (4, bit_or b c)
    ∷ (5, bit_xor b c)
    ∷ (6, (b + imm B w) % modulus B)
    ∷ (7, count_leading_zeros (8 * B.word_bytes) b)
    ∷ (10, loaded)
    ∷ (12, r.epc)
    ∷ (14, r.cause)
    ∷ (38, get_or r.cem.buffer (sel w) 0)
    ∷ (41, loaded)
    ∷ []

-- the value that the opcode writes to Ra
unfoldable pub value : Board → Processor → ℕ → ℕ → ℕ
value B r w loaded = pick (opcode w) (values B r w loaded (Rb r w) (Rc r w)) 0

-- two words as sixteen bytes, the first one high
abbrev pub two_words : ℕ → ℕ → List ℕ
two_words a b = big_bytes 8 a ++ big_bytes 8 b

-- the DRK that drk.set gives: Ra then Rb, Ra high
abbrev pub key_from : Processor → ℕ → List ℕ
key_from r w = two_words (Ra r w) (Rb r w)

-- drk.derive of words a and b: words 1, 0 are the MAC of a then b under the DRK, words 3, 2 are 0
unfoldable pub derived : Cipher → List ℕ → ℕ → ℕ → List ℕ
derived c key a b =
    let m = c.mac key (two_words a b) in
    big (part_at 8 8 m) ∷ big (part_at 0 8 m) ∷ 0 ∷ 0 ∷ []

-- the modes by opcode: begin_cem.a makes it active, end_cem normal
abbrev pub modes : List (ℕ × ℕ)
modes = (39, 1) ∷ (40, 0) ∷ []

-- the mode after the instruction
unfoldable pub next_mode : Processor → ℕ → ℕ
next_mode r w = pick (opcode w) modes r.cem.mode

-- does the instruction set pc itself: beq where Ra = Rb, and jr
unfoldable pub taken : Processor → ℕ → Bool
taken r w = pick (opcode w) ((8, eqb (Ra r w) (Rb r w)) ∷ (9, true) ∷ []) false

-- the pc that it sets: beq's is counted from its own pc
unfoldable pub target : Board → Processor → ℕ → ℕ
target B r w = pick (opcode w) ((8, (r.pc + 4 * imm B w) % modulus B) ∷ (9, Ra r w) ∷ []) 0

-- the pc behind the instruction; the start of the next line where the mode is active before or after and pc mod 64 ≥
-- 44
unfoldable pub behind : Board → ℕ → Bool → ℕ
behind B pc concealed = if (concealed && leb 44 (pc % 64)) ((pc / 64 * 64 + 64) % modulus B) ((pc + 4) % modulus B)

-- the next pc: what a taken beq or jr sets, and otherwise the pc behind (rfi has its own rule)
unfoldable pub next_pc : Board → Processor → ℕ → ℕ
next_pc B r w = if (taken r w) (target B r w) (behind B r.pc (eqb r.cem.mode 1 || eqb (next_mode r w) 1))

-- the effects by opcode, of the words a and b in Ra and Rb, on registers other than Ra, pc and the mode: EPC; PID and
-- CID; drk.set's new key is the memory's; DRK_Lock; CEM_Buffer by drk.derive and srh.get; SRH; and gr.get, where word
-- sel + 1 is a and word sel is b
abbrev pub effects : Cipher → List ℕ → Processor → ℕ → ℕ → ℕ → List (ℕ × Processor)
effects c key r w a b =
    (13, with_epc a r)
    ∷ (15, with_ids (a % 2 ^ 32) (b % 2 ^ 16) r)
    ∷ (32, r)
    ∷ (33, with_lock true r)
    ∷ (34, with_buffer (derived c key a b) r)
    ∷ (35, with_buffer r.cem.srh r)
    ∷ (36, with_srh r.cem.buffer r)
    ∷ (37, with_buffer (set (set r.cem.buffer (sel w + 1) a) (sel w) b) r)
    ∷ []

-- the record with the opcode's effect on those
unfoldable pub effect : Cipher → List ℕ → Processor → ℕ → Processor
effect c key r w = pick (opcode w) (effects c key r w (Ra r w) (Rb r w)) r

-- the record after an instruction other than rfi, the word that it loaded being given
unfoldable pub executed : Board → Cipher → List ℕ → Processor → ℕ → ℕ → Processor
executed B c key r w loaded =
    let regs = if (has_value w) (with_reg (field_a w) (value B r w loaded) r.regs) r.regs in
    with_regs regs (with_pc (next_pc B r w) (with_mode (next_mode r w) (effect c key r w)))

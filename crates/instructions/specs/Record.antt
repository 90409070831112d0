-- The processor's record: all of 'The machine's parts' but the DRK, which lives with the memory that it seals.
use Rattle.std.specs.Prelude.{ℕ, ◌/◌, ◌≤◌, ◌≡◌, Bool, false, List, get_or, set, eqb}
use Rattle.lists.specs.If.{if}
use Rattle.lists.specs.Bytes.{zeros}
use Rattle.instructions.specs.Board.{Board}

-- what a suspended thread left: Interrupt_Hash (16 bytes), Interrupt_Address, saved PID, saved CID
pub record Saved : Type 0 where
  pub hash : List ℕ
  pub address : ℕ
  pub pid : ℕ
  pub cid : ℕ

-- the concealed thread's registers: CEM_Mode (0 normal, 1 active, 2 suspended), DRK_Lock, SRH and CEM_Buffer (words,
-- word 0 first)
pub record Cem : Type 0 where
  pub mode : ℕ
  pub lock : Bool
  pub srh : List ℕ
  pub buffer : List ℕ
  pub saved : Saved

-- R0 to R31, pc, EPC, cause, PID, CID and the concealed thread's registers
pub record Processor : Type 0 where
  pub regs : List ℕ
  pub pc : ℕ
  pub epc : ℕ
  pub cause : ℕ
  pub pid : ℕ
  pub cid : ℕ
  pub cem : Cem

-- the word in register n
unfoldable pub reg : Processor → ℕ → ℕ
reg r n = get_or r.regs n 0

-- the registers with a word written to register n; a write to R0 is lost
unfoldable pub with_reg : ℕ → ℕ → List ℕ → List ℕ
with_reg n v regs = if (eqb n 0) regs (set regs n v)

-- the record with one of its parts replaced, and all else as it is: whoever changes a part names it alone
abbrev pub with_regs : List ℕ → Processor → Processor
with_regs x r = record { regs = x; pc = r.pc; epc = r.epc; cause = r.cause; pid = r.pid; cid = r.cid; cem = r.cem }

abbrev pub with_pc : ℕ → Processor → Processor
with_pc x r = record { regs = r.regs; pc = x; epc = r.epc; cause = r.cause; pid = r.pid; cid = r.cid; cem = r.cem }

abbrev pub with_epc : ℕ → Processor → Processor
with_epc x r = record { regs = r.regs; pc = r.pc; epc = x; cause = r.cause; pid = r.pid; cid = r.cid; cem = r.cem }

abbrev pub with_cause : ℕ → Processor → Processor
with_cause x r = record { regs = r.regs; pc = r.pc; epc = r.epc; cause = x; pid = r.pid; cid = r.cid; cem = r.cem }

abbrev pub with_ids : ℕ → ℕ → Processor → Processor
with_ids x y r = record { regs = r.regs; pc = r.pc; epc = r.epc; cause = r.cause; pid = x; cid = y; cem = r.cem }

abbrev pub with_cem : Cem → Processor → Processor
with_cem x r = record { regs = r.regs; pc = r.pc; epc = r.epc; cause = r.cause; pid = r.pid; cid = r.cid; cem = x }

-- and with one of the concealed thread's
abbrev pub with_mode : ℕ → Processor → Processor
with_mode x r =
    let k = r.cem in
    with_cem (record { mode = x; lock = k.lock; srh = k.srh; buffer = k.buffer; saved = k.saved }) r

abbrev pub with_lock : Bool → Processor → Processor
with_lock x r =
    let k = r.cem in
    with_cem (record { mode = k.mode; lock = x; srh = k.srh; buffer = k.buffer; saved = k.saved }) r

abbrev pub with_srh : List ℕ → Processor → Processor
with_srh x r =
    let k = r.cem in
    with_cem (record { mode = k.mode; lock = k.lock; srh = x; buffer = k.buffer; saved = k.saved }) r

abbrev pub with_buffer : List ℕ → Processor → Processor
with_buffer x r =
    let k = r.cem in
    with_cem (record { mode = k.mode; lock = k.lock; srh = k.srh; buffer = x; saved = k.saved }) r

abbrev pub with_saved : Saved → Processor → Processor
with_saved x r =
    let k = r.cem in
    with_cem (record { mode = k.mode; lock = k.lock; srh = k.srh; buffer = k.buffer; saved = x }) r

-- is a concealed thread active?
unfoldable pub active : Processor → Bool
active r = eqb r.cem.mode 1

-- the record with everything zero, mode 0
abbrev pub blank : Board → Processor
blank B =
    record {
      regs = zeros 32;
      pc = 0;
      epc = 0;
      cause = 0;
      pid = 0;
      cid = 0;
      cem =
          record {
            mode = 0;
            lock = false;
            srh = zeros (32 / B.word_bytes);
            buffer = zeros (32 / B.word_bytes);
            saved = record { hash = zeros 16; address = 0; pid = 0; cid = 0 };
          };
    }

-- a record with what every restart keeps of the one that was: the SRH (the DRK stays with the memory)
abbrev pub keeping : Processor → Processor → Processor
keeping was r = with_srh was.cem.srh r

-- what reboot and power cut leave of a record
unfoldable pub reset : Board → Processor → Processor
reset B r = keeping r (blank B)

-- a record that refusal 105 lets pass: R0 is zero and the mode is at most 2
pub record Sane (r : Processor) : Type 0 where
  pub zeroth : reg r 0 ≡ 0
  pub mode : r.cem.mode ≤ 2

-- Suspend and rfi: the registers are hashed and hidden when a fault or an interrupt meets active mode, and come back
-- only unchanged.
use Rattle.std.specs.Prelude.{ℕ, Bool, not, ◌&&◌, List, ◌∷◌, drop, eqb}
use Rattle.lists.specs.If.{if}
use Rattle.lists.specs.Bytes.{same}
use Rattle.lists.specs.Words.{words_bytes, xored_behind}
use Rattle.model.specs.Cipher.{Cipher}
use Rattle.instructions.specs.Board.{Board}
use Rattle.instructions.specs.Record.{Saved, Processor, with_regs, with_pc, with_epc, with_cause, with_mode}
use Rattle.instructions.specs.Record.{with_saved, active}

-- the hash of the registers: the MAC under the DRK of byte 4, R1..R31, each high byte first
unfoldable pub hash_of : Board → Cipher → List ℕ → List ℕ → List ℕ
hash_of B c key regs = c.mac key (4 ∷ words_bytes B.word_bytes (drop 1 regs))

-- R1 to R31 hidden by the key stream of the hash, or brought back; R0 stays
unfoldable pub hidden : Board → Cipher → List ℕ → List ℕ → List ℕ → List ℕ
hidden B c key hash regs = xored_behind B.word_bytes (c.stream key hash) regs

-- what a suspended thread leaves
abbrev pub saved_of : List ℕ → Processor → Saved
saved_of hash r = record { hash = hash; address = r.pc; pid = r.pid; cid = r.cid }

-- an active thread is suspended: hash, then hide the registers, save pc, PID and CID, mode 2; any other record stays
unfoldable pub suspended : Board → Cipher → List ℕ → Processor → Processor
suspended B c key r =
    let hash = hash_of B c key r.regs in
    let on = active r in
    with_regs (if on (hidden B c key hash r.regs) r.regs)
    (with_mode (if on 2 r.cem.mode) (with_saved (if on (saved_of hash r) r.cem.saved) r))

-- a fault or an interrupt: an active thread is suspended; then EPC = pc, cause = number, pc = 64
unfoldable pub entered : Board → Cipher → List ℕ → ℕ → Processor → Processor
entered B c key n r = with_pc 64 (with_epc r.pc (with_cause n (suspended B c key r)))

-- does rfi resume: mode 2, and EPC, PID and CID equal to the saved three?
unfoldable pub resumes : Processor → Bool
resumes r =
    let s = r.cem.saved in
    eqb r.cem.mode 2 && (eqb r.epc s.address && (eqb r.pid s.pid && eqb r.cid s.cid))

-- the registers as a resume brings them back
unfoldable pub restored : Board → Cipher → List ℕ → Processor → List ℕ
restored B c key r = hidden B c key r.cem.saved.hash r.regs

-- is the hash of the registers brought back the saved one?
unfoldable pub hash_right : Board → Cipher → List ℕ → Processor → Bool
hash_right B c key r = same (hash_of B c key (restored B c key r)) r.cem.saved.hash

-- does rfi resume registers that were changed?
abbrev pub tampered : Board → Cipher → List ℕ → Processor → Bool
tampered B c key r = resumes r && not (hash_right B c key r)

-- the record after rfi: a resume brings the registers back with mode 1; pc = EPC
unfoldable pub returned : Board → Cipher → List ℕ → Processor → Processor
returned B c key r =
    let on = resumes r in
    with_regs (if on (restored B c key r) r.regs) (with_pc r.epc (with_mode (if on 1 r.cem.mode) r))

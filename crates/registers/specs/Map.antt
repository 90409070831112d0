-- How the code's record is read: R0 to R31 and the other registers as the processor's record of the meaning; the DRK
-- goes to the memory.
use Rattle.std.specs.Prelude.{ℕ, List, [], ◌∷◌}
use Rattle.instructions.specs.Record.{Processor}
use Rattle.sealing.specs.Lines.{drk_of}
use Rattle.sealing.specs.declared.Drk.{Drk}
use Rattle.registers.specs.declared.record.Special.{Special}

-- CEM_Buffer, word 0 first
abbrev pub words_of : Special → List ℕ
words_of q = q.word0 ∷ q.word1 ∷ q.word2 ∷ q.word3 ∷ []

-- the processor's record: all of 'The machine's parts' but the DRK
abbrev pub processor_of : List ℕ → Special → Processor
processor_of regs q =
    record {
      regs = regs;
      pc = q.pc;
      epc = q.epc;
      cause = q.cause;
      pid = q.pid;
      cid = q.cid;
      cem =
          record {
            mode = q.mode;
            lock = q.lock;
            srh = q.srh0 ∷ q.srh1 ∷ q.srh2 ∷ q.srh3 ∷ [];
            buffer = words_of q;
            saved = record { hash = q.hash; address = q.address; pid = q.savedpid; cid = q.savedcid };
          };
    }

-- the DRK, as its two words
abbrev pub drk_held : Special → Drk
drk_held q = record { high = q.drkhi; low = q.drklo }

-- the DRK, which is the memory's key
abbrev pub key_of : Special → List ℕ
key_of q = drk_of q.drkhi q.drklo

-- What one instruction on the lent record and buffers promises: the step of the meaning, its counts being the sums over
-- the notes.
use Rattle.std.specs.Prelude.{ℕ, ◌≡◌, List}
use Rattle.model.specs.Log.{Counts, counts_of}
use Rattle.model.specs.Cached.{Cached}
use Rattle.instructions.specs.Board.{document_board}
use Rattle.instructions.specs.Calls.{Machine, cached_setup, step}
use Rattle.ciphers.specs.Cipher.{aes_cipher}
use Rattle.cache.specs.Lent.{lent}
use Rattle.registers.specs.Map.{processor_of}
use Rattle.registers.specs.declared.record.Special.{Special}
use Rattle.cache.specs.declared.buffers.Buffers.{Buffers}

-- the machine that is lent: R0 to R31, the other registers, and the four buffers
abbrev pub machine_of : List ℕ → Special → List ℕ → List ℕ → List ℕ → List ℕ → Machine Cached
machine_of regs q mem macs cache dir = record {
  processor = processor_of regs q;
  memory =
      lent q.drkhi q.drklo mem macs cache dir;
}

-- the same of the four buffers as one value
abbrev pub machine_on : List ℕ → Special → Buffers → Machine Cached
machine_on regs q b = machine_of regs q b.mem.now b.macs.now b.cache.now b.dir.now

-- the fault, the counts and the next machine are those of one instruction
pub record Steps (m : Machine Cached) (fault : ℕ) (k : Counts) (m' : Machine Cached) : Type 0 where
  pub number : fault ≡ (step document_board aes_cipher (cached_setup document_board aes_cipher) m).out.fault
  pub processor : m'.processor ≡ (step document_board aes_cipher (cached_setup document_board aes_cipher)
      m).out.processor
  pub memory : m'.memory ≡ (step document_board aes_cipher (cached_setup document_board aes_cipher) m).state
  pub counted : k ≡ counts_of (step document_board aes_cipher (cached_setup document_board aes_cipher) m).log

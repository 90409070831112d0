-- What a call of the host gives: everything that the meaning's call gives on the machine that was lent.
use Rattle.std.specs.Prelude.{ℕ, ◌≡◌, List, ◌++◌}
use Rattle.model.specs.Log.{Counts}
use Rattle.model.specs.Cached.{Cached}
use Rattle.instructions.specs.Board.{document_board}
use Rattle.instructions.specs.Rules.{first_of}
use Rattle.instructions.specs.Refusals.{or_else, memory_flaws, cache_flaws, record_flaws}
use Rattle.instructions.specs.Calls.{Call, Machine, Result, cached_setup, called, counts}
use Rattle.ciphers.specs.Cipher.{aes_cipher}
use Rattle.cache.specs.Lent.{counts_in}
use Rattle.registers.specs.declared.record.Processor.{Processor}
use Rattle.registers.specs.Map.{processor_of}
use Rattle.machine.specs.declared.answer.Answer.{Answer}
use Rattle.machine.specs.declared.answer.Report.{Report}
use Rattle.machine.specs.Lent.{Lent, machine_in}

-- A call on the board of document 01 with a cache.
unfoldable pub result_of : Call → Machine Cached → Result Cached
result_of call m = called document_board aes_cipher (cached_setup document_board aes_cipher) call m

-- The answer, run's steps, the counts, the later bytes of the call's buffer and the machine after it are those of a
-- result.
pub record Gives (x : Result Cached) (report : Report) (buffer : List ℕ) (m : Machine Cached) : Type 0 where
  pub answered : report.answer ≡ x.answer
  pub stepped : report.steps ≡ x.steps
  pub counted : counts_in report.counts ≡ counts x
  pub later : buffer ≡ x.buffer
  pub left : m ≡ x.machine

-- A call on what was lent leaves a report, the later bytes of the call's own buffer, and another record and four
-- buffers: what the meaning's call gives.
unfoldable pub Leaves : Call → Lent → Report → List ℕ → Lent → Type 0
Leaves call l report buffer l' = Gives (result_of call (machine_in l)) report buffer (machine_in l')

-- The report of a call that has no steps: its number, and what it counted.
pub record Reports (n : ℕ) (k : Counts) (x : Report) : Type 0 where
  pub answered : x.answer ≡ n
  pub stepped : x.steps ≡ 0
  pub counted : counts_in x.counts ≡ k

-- The record after such a call, and its report.
pub record Answers (p : Processor) (n : ℕ) (k : Counts) (a : Answer) : Type 0 where
  pub record' : a.processor ≡ p
  pub report' : Reports n k a.report

-- The lowest refusal of a record, of buffers of these lengths and a directory, and of the call itself.
unfoldable pub lowest : Processor → ℕ → ℕ → ℕ → List ℕ → ℕ → ℕ
lowest p mem macs cache dir own =
    or_else (first_of (memory_flaws mem macs ++ cache_flaws document_board mem cache dir))
    (or_else (first_of (record_flaws (processor_of p.r p.special))) own)

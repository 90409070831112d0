-- What run promises: the run of the meaning, its counts being the sums over the notes.
use Rattle.std.specs.Prelude.{ℕ, ◌≡◌}
use Rattle.model.specs.Log.{Counts, counts_of}
use Rattle.model.specs.Cached.{Cached}
use Rattle.instructions.specs.Board.{document_board}
use Rattle.instructions.specs.Calls.{Machine, Result, cached_setup, run_from}
use Rattle.ciphers.specs.Cipher.{aes_cipher}
use Rattle.cache.specs.Lent.{counts_in}
use Rattle.machine.specs.declared.answer.Report.{Report}
use Rattle.machine.specs.Lent.{Lent, machine_in}

-- at most k instructions more on a machine, after i were done
abbrev pub running : ℕ → ℕ → Machine Cached → Result Cached
running k i m = run_from document_board aes_cipher (cached_setup document_board aes_cipher) k i m

-- the answer, the steps, the counts and the next machine are those of a run of at most n instructions
pub record Runs (n : ℕ) (m : Machine Cached) (answer steps : ℕ) (k : Counts) (m' : Machine Cached) : Type 0 where
  pub number : answer ≡ (running n 0 m).answer
  pub done : steps ≡ (running n 0 m).steps
  pub machine : m' ≡ (running n 0 m).machine
  pub counted : k ≡ counts_of (running n 0 m).log

-- the same of what was lent, with a report
abbrev pub RunGives : ℕ → Lent → Report → Lent → Type 0
RunGives n l x l' = Runs n (machine_in l) x.answer x.steps (counts_in x.counts) (machine_in l')

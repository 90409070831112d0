-- The two sheets obey the rule: agreement holds behind the power cut, over the cold run, at the new start, and over
-- the warm run.
use mathlib.Core.Path.{◌≡◌, refl, ap}
use mathlib.Core.Bool.{true}
use mathlib.Core.List.{[], ◌∷◌}
use Prim.Native.Nat.{ℕ, ◌/◌}
use lib.ListN.{length}
use Rattle.lists.specs.Bytes.{Bytes}
use Rattle.lists.proofs.ByteLaws.{bytes-none}
use Rattle.model.specs.Uncached.{Uncached}
use Rattle.model.specs.Cached.{Cached, as_it_stands}
use Rattle.agree.proofs.Everything.{fresh_agrees}
use Rattle.instructions.specs.Board.{document_board}
use Rattle.instructions.specs.Record.{Processor}
use Rattle.instructions.specs.Calls.{run, buffer_of, Machine}
use Rattle.sound.proofs.Lent.{lent-good}
use Rattle.sound.proofs.Document.{document_laws}
use Rattle.ciphers.specs.Cipher.{aes_cipher}
use Rattle.ciphers.proofs.Laws.{aes_laws}
use Rattle.demand3.specs.Statement as meaning
use Rattle.demand3.specs.Statement.{with_cache, without_cache, SameOutside, Agreeing, no_more, bytes_then}
use Rattle.demand3.proofs.Starts.{cut-starts}
use Rattle.demand3.proofs.Demand3.{always_same, calls_keep_agreement}
use Rattle.host.specs.Outcome.{result_of}
use Rattle.sheets.specs.Runs.{emptied, cold_run, again, warm_run}
use Rattle.code_claims.specs.Sheets.{cold_beside, warm_beside, SheetsObeyTheRule}

-- two machines that agree, for N lines and C slots
abbrev Alike : ℕ → ℕ → Machine Uncached → Machine Cached → Type 0
Alike N C u s = Agreeing document_board document_laws aes_cipher N C u s

module _ (N C : ℕ) (slots : document_board.slots_fine C ≡ true) (n : ℕ) (u : Machine Uncached) (s : Machine Cached)
    (A : Alike N C u s) where
  bytes : Bytes (buffer_of (run n))
  unfolding buffer_of
  bytes = bytes-none

  -- a run on both
  same : SameOutside document_board aes_cipher (without_cache document_board aes_cipher (run n) u
      (with_cache document_board aes_cipher (run n) s)) (with_cache document_board aes_cipher (run n) s)
  same = first (always_same document_board document_laws aes_cipher aes_laws N C slots (run n ∷ []) u s
      (bytes_then bytes no_more) A)
    where
      first : meaning.AlwaysSame document_board aes_cipher (run n ∷ []) u s
          → SameOutside document_board aes_cipher (without_cache document_board aes_cipher (run n) u
          (with_cache document_board aes_cipher (run n) s)) (with_cache document_board aes_cipher (run n) s)
      first (meaning.next S R) = S

  kept : Alike N C (without_cache document_board aes_cipher (run n) u
      (with_cache document_board aes_cipher (run n) s)).machine (with_cache document_board aes_cipher (run n) s).machine
  kept = calls_keep_agreement document_board document_laws aes_cipher aes_laws N C slots (run n) u s bytes A

-- the same start again on both
again-alike : (N C : ℕ) (r : Processor) (u : Machine Uncached) (s : Machine Cached) → Alike N C u s
    → Alike N C (again r u) (again r s)
unfolding again
again-alike N C r u s A =
    record {
      processors = ap (λ (p : Processor). (again r (record { processor = p; memory = s.memory })).processor)
          A.processors;
      memories = A.memories;
    }

pub both_sheets_obey : SheetsObeyTheRule
unfolding cold_beside warm_beside cold_run warm_run result_of with_cache emptied
both_sheets_obey n m acceptable made =
    let Z = cut-starts document_board document_laws aes_cipher aes_laws m acceptable made in
    let s = emptied m in
    let l = lent-good document_board document_laws s.memory Z.accepted in
    let N = length s.memory.mem / 64 in
    let C = length s.memory.dir in
    let u : Machine Uncached = record { processor = m.processor; memory = as_it_stands s.memory } in
    let A : Alike N C u s = record {
      processors = refl;
      memories = fresh_agrees aes_cipher aes_laws _ _ N C s.memory
          (record { key = Z.key; bytes = Z.bytes; good = l.good }) Z.empty;
    } in
    let again-A = again-alike N C m.processor _ _ (kept N C l.slots n u s A) in
    record { cold = same N C l.slots n u s A; warm = same N C l.slots n _ _ again-A }

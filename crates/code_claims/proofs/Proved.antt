-- Demand 3 at the code holds: each contract carries the theorem on the meaning over one call.
use mathlib.Core.Path.{◌≡◌, sym, ap, ◌∙◌}
use mathlib.Core.List.{List, [], ◌∷◌}
use lib.ListN.{length-append}
use Prim.Native.Nat.{ℕ}
use Rattle.lists.specs.Words.{big_bytes}
use Rattle.lists.proofs.ByteLaws.{bytes-append}
use Rattle.lists.proofs.WordLaws.{length-big_bytes, bytes-big_bytes}
use Rattle.model.specs.CipherLaws.{Sized}
use Rattle.sealing.specs.Lines.{drk_of}
use Rattle.model.specs.Uncached.{Uncached}
use Rattle.model.specs.Cached.{Cached, as_it_stands}
use Rattle.instructions.specs.Board.{document_board}
use Rattle.instructions.specs.Record as r
use Rattle.instructions.specs.Record.{reset}
use Rattle.instructions.specs.Calls.{Call, Machine, Result, uncached_setup, called}
use Rattle.ciphers.specs.Cipher.{aes_cipher}
use Rattle.ciphers.proofs.Laws.{aes_laws}
use Rattle.demand3.specs.Statement as meaning
use Rattle.demand3.specs.Statement.{written_back, with_cache, without_cache, SameOutside}
use Rattle.demand3.proofs.Document.{demand3-from-reset}
use Rattle.registers.specs.declared.record.Processor.{Processor}
use Rattle.registers.specs.Effects.{Holds}
use Rattle.machine.specs.Lent.{Lent, machine_in}
use Rattle.host.specs.Outcome.{result_of, Gives, Leaves}
use Rattle.code_claims.specs.Claim.{Made, Session, ended, and_then, beside, Same, AlwaysSame, none, next}
use Rattle.code_claims.specs.Claim.{AfterReset, Demand3AtTheCode}

module _ (call : Call) (l : Lent) (made : Made call l) where
  -- the call of the meaning
  abbrev result : Result Cached
  result = with_cache document_board aes_cipher call (machine_in l)

  gives : Gives result made.report made.buffer (machine_in made.after)
  unfolding Leaves result_of with_cache
  gives = made.promised

  -- what stands beside the code is what stands beside the meaning
  same_beside : (u : Machine Uncached) → without_cache document_board aes_cipher call u result
      ≡ beside call u made.after
  unfolding without_cache
  same_beside u = ap (λ (m : Machine Cached). called document_board aes_cipher
      (uncached_setup aes_cipher (as_it_stands m.memory)) call u) (sym gives.left)

  -- one call
  carried : (u : Machine Uncached) → SameOutside document_board aes_cipher (beside call u made.after) result
      → Same (beside call u made.after) made.report made.buffer made.after
  carried u S =
      record {
        answers = S.answers ∙ sym gives.answered;
        steps = S.steps ∙ sym gives.stepped;
        buffers = S.buffers ∙ sym gives.later;
        processors = S.processors ∙ sym (ap (λ (m : Machine Cached). m.processor) gives.left);
        memories = S.memories ∙ sym (ap (λ (m : Machine Cached). written_back document_board aes_cipher m.memory)
            gives.left);
      }

-- every session
all_same : (calls : List Call) (l : Lent) (session : Session calls l) (u : Machine Uncached)
    → meaning.AlwaysSame document_board aes_cipher calls u (machine_in l)
    → AlwaysSame calls l session u
all_same [] l ended u S = none
all_same (call ∷ calls) l (and_then made rest) u (meaning.next S R) =
    next (carried call l made u (rw (same_beside call l made u) at S))
    (all_same calls made.after rest (beside call u made.after).machine
    (rw (same_beside call l made u, ← (gives call l made).left) at R))

-- the DRK of two words is one of 16 bytes
drk-sized : (hi lo : ℕ) → Sized 16 (drk_of hi lo)
unfolding drk_of
drk-sized hi lo =
    record {
      size = length-append (big_bytes 8 hi) (big_bytes 8 lo) ∙ rw (length-big_bytes 8 hi, length-big_bytes 8 lo);
      bytes = bytes-append (big_bytes 8 hi) (big_bytes 8 lo) (bytes-big_bytes 8 hi) (bytes-big_bytes 8 lo);
    }

-- such a start there is: what `registers::record::cleared`, and so every reboot and power cut, leaves of any record
pub cleared-after-reset : (was : r.Processor) {key : List ℕ} (p : Processor)
    → Holds (reset document_board was) key p.r p.special
    → AfterReset p
cleared-after-reset was p h = record { was = was; cleared = h.record' }

pub a_cache_changes_the_counts_and_nothing_else : Demand3AtTheCode
unfolding as_it_stands
a_cache_changes_the_counts_and_nothing_else p behind mem macs C b z e lo hi calls bs session =
    all_same calls _ session _
    (rw behind.cleared
    (demand3-from-reset aes_cipher aes_laws _ mem macs behind.was C
    (drk-sized p.special.drkhi p.special.drklo) b z e lo hi calls bs))

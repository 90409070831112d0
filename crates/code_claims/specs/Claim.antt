-- Demand 3 at the code, as the customer reads it. `Leaves` is the whole contract of each call of `host`, and of its
-- outer face; here such calls are made one after the other on one record and four buffers, and beside them the same
-- calls on the manual's machine with no cache. What a reader must believe: `instructions` and `model` (the machine and
-- its two memories), `host/specs/Outcome.antt` (what a contract says), and this page.
use Rattle.std.specs.Prelude.{ℕ, ◌*◌, ◌/◌, ◌≤◌, ◌≡◌, true, List, [], ◌∷◌, length}
use Rattle.lists.specs.Bytes.{Bytes, zeros}
use Rattle.model.specs.Uncached.{Uncached}
use Rattle.model.specs.Cached.{as_it_stands}
use Rattle.instructions.specs.Board.{document_board}
use Rattle.instructions.specs.Record as meaning
use Rattle.instructions.specs.Record.{reset}
use Rattle.instructions.specs.Refusals.{size_fine}
use Rattle.instructions.specs.Calls.{Call, Machine, Result, uncached_setup, called}
use Rattle.ciphers.specs.Cipher.{aes_cipher}
use Rattle.demand3.specs.Statement.{written_back, LentBytes}
use Rattle.registers.specs.declared.record.Processor.{Processor}
use Rattle.registers.specs.Map.{processor_of}
use Rattle.machine.specs.declared.answer.Report.{Report}
use Rattle.machine.specs.Lent.{Lent, machine_in}
use Rattle.host.specs.Outcome.{Leaves}

-- a call made on a record and four buffers, as its contract says: its report, the later bytes of its own buffer, and
-- what it left of the five
pub record Made (call : Call) (l : Lent) : Type 0 where
  pub report : Report
  pub buffer : List ℕ
  pub after : Lent
  pub promised : Leaves call l report buffer after

-- calls made one after the other, nobody else touching the record or the buffers: each finds what the one before it
-- left
pub data Session : List Call → Lent → Type 0 where
  ended : {l : Lent} → Session [] l
  and_then : {call : Call} {calls : List Call} {l : Lent} (made : Made call l) → Session calls made.after
      → Session (call ∷ calls) l

-- the same call on the machine without a cache; at a power cut it is given the memory and MAC area that the cut left
abbrev pub beside : Call → Machine Uncached → Lent → Result Uncached
beside call u after = called document_board aes_cipher (uncached_setup aes_cipher
    (as_it_stands (machine_in after).memory)) call u

-- the two cannot be told apart: the answer, run's steps, the later bytes of the call's buffer, the whole record, and
-- the DRK, memory and MAC area once everything is written back. The counts, the cache's bytes and the directory are not
-- compared
pub record Same (u : Result Uncached) (x : Report) (buffer : List ℕ) (after : Lent) : Type 0 where
  pub answers : u.answer ≡ x.answer
  pub steps : u.steps ≡ x.steps
  pub buffers : u.buffer ≡ buffer
  pub processors : u.machine.processor ≡ (machine_in after).processor
  pub memories : u.machine.memory ≡ written_back document_board aes_cipher (machine_in after).memory

-- after each call of the session the two cannot be told apart
pub data AlwaysSame : (calls : List Call) (l : Lent) → Session calls l → Machine Uncached → Type 0 where
  none : {l : Lent} {u : Machine Uncached} → AlwaysSame [] l ended u
  next :
      {call : Call} {calls : List Call} {l : Lent} {u : Machine Uncached} {made : Made call l} {rest : Session calls
      made.after}
      → Same (beside call u made.after) made.report made.buffer made.after
      → AlwaysSame calls made.after rest (beside call u made.after).machine
      → AlwaysSame (call ∷ calls) l (and_then made rest) u

-- a record behind a reset: what reset leaves of some record, under any DRK
pub record AfterReset (p : Processor) : Type 0 where
  pub was : meaning.Processor
  pub cleared : processor_of p.r p.special ≡ reset document_board was

-- that record with an empty cache of C slots, any memory and MAC area
abbrev pub with_empty_cache : Processor → List ℕ → List ℕ → ℕ → Lent
with_empty_cache p mem macs C = record { processor = p; mem = mem; macs = macs; cache = zeros (C * 64); dir = zeros C }

-- Demand 3: from reset with an empty cache, whatever the memory, the MACs, the DRK and the SRH, for every allowed cache
-- size and every session of calls, a cache changes the counts and nothing else. (Memory and the lent buffers are bytes,
-- which is what their type says.)
abbrev pub Demand3AtTheCode : Type 0
Demand3AtTheCode =
    (p : Processor) → AfterReset p → (mem macs : List ℕ) (C : ℕ) → Bytes mem
    → size_fine (length mem) ≡ true
    → length macs ≡ length mem / 4
    → 1 ≤ C → C ≤ 64 → (calls : List Call) → LentBytes calls
    → (session : Session calls (with_empty_cache p mem macs C))
    → AlwaysSame calls (with_empty_cache p mem macs C) session
    (record {
      processor = (machine_in (with_empty_cache p mem macs C)).processor;
      memory = as_it_stands (machine_in (with_empty_cache p mem macs C)).memory;
    })

-- The theorems as the customer reads them; their proofs are elsewhere. Two machines stand side by side, one with a
-- cache and one without. What a reader must believe: the definitions of `instructions` (the machine) and of `model`
-- (its two memories), and this page.
use Rattle.std.specs.Prelude.{ℕ, ◌+◌, ◌*◌, ◌/◌, ◌≤◌, ◌≡◌, ◌≢◌, true, List, [], ◌∷◌, length}
use Rattle.lists.specs.Bytes.{Bytes, zeros}
use Rattle.model.specs.Cipher.{Cipher}
use Rattle.model.specs.CipherLaws.{Sized, CipherLaws}
use Rattle.model.specs.Uncached.{Uncached}
use Rattle.model.specs.Cached.{Cached, evict_all, as_it_stands}
use Rattle.keeps.specs.Good.{MadeOfBytes}
use Rattle.keeps.specs.Within.{Within}
use Rattle.agree.specs.Agree.{Agree, AllEmpty}
use Rattle.instructions.specs.Rules.{first_of}
use Rattle.instructions.specs.Board.{Board, document_board}
use Rattle.instructions.specs.Record.{Processor, reset}
use Rattle.instructions.specs.Fields.{opcode}
use Rattle.instructions.specs.Refusals.{size_fine, cached_flaws}
use Rattle.instructions.specs.Calls.{Call, reboot, power_cut, buffer_of, Machine, Result, cached_setup, uncached_setup}
use Rattle.instructions.specs.Calls.{step, run_from, called}
use Rattle.sound.specs.BoardLaws.{BoardLaws}
use Rattle.sound.specs.Acceptable.{Acceptable, fetched}

-- ---- the two machines

-- memory and MAC area once everything is written back
unfoldable pub written_back : Board → Cipher → Cached → Uncached
written_back B c s = as_it_stands (evict_all c B.placement s).state

-- a call on the machine with a cache
unfoldable pub with_cache : Board → Cipher → Call → Machine Cached → Result Cached
with_cache B c call s = called B c (cached_setup B c) call s

-- the same call on the machine without a cache beside it; at a power cut it is given the memory and MAC area that the
-- cut left of the other
unfoldable pub without_cache : Board → Cipher → Call → Machine Uncached → Result Cached → Result Uncached
without_cache B c call u s = called B c (uncached_setup c (as_it_stands s.machine.memory)) call u

-- the two cannot be told apart: the answer, run's steps, the later bytes of the lent buffer, the whole record, and
-- the DRK, memory and MAC area once everything is written back
pub record SameOutside (B : Board) (c : Cipher) (u : Result Uncached) (s : Result Cached) : Type 0 where
  pub answers : u.answer ≡ s.answer
  pub steps : u.steps ≡ s.steps
  pub buffers : u.buffer ≡ s.buffer
  pub processors : u.machine.processor ≡ s.machine.processor
  pub memories : u.machine.memory ≡ written_back B c s.machine.memory

-- after each call of the sequence the two cannot be told apart
pub data AlwaysSame (B : Board) (c : Cipher) : List Call → Machine Uncached → Machine Cached → Type 0 where
  ended : {u : Machine Uncached} {s : Machine Cached} → AlwaysSame B c [] u s
  next :
      {call : Call} {calls : List Call} {u : Machine Uncached} {s : Machine Cached}
      → SameOutside B c (without_cache B c call u (with_cache B c call s)) (with_cache B c call s)
      → AlwaysSame B c calls (without_cache B c call u (with_cache B c call s)).machine (with_cache B c call s).machine
      → AlwaysSame B c (call ∷ calls) u s

-- the buffers that are lent are bytes
pub data LentBytes : List Call → Type 0 where
  no_more : LentBytes []
  bytes_then : {call : Call} {calls : List Call} → Bytes (buffer_of call) → LentBytes calls
      → LentBytes (call ∷ calls)

-- ---- 1: demand 3

-- a memory to start from: nothing that refusals 101 to 104 name, memory made of bytes, a DRK of 16 bytes, and every
-- slot empty. (A lent slot with a tag is trusted and need not match memory: from arbitrary lent contents the two
-- machines may differ, so the cache starts empty.)
pub record Startable (B : Board) (s : Cached) : Type 0 where
  pub accepted : first_of (cached_flaws B s) ≡ 0
  pub bytes : Bytes s.mem
  pub key : Sized 16 s.key
  pub empty : AllEmpty B.placement s.dir

-- Demand 3: on every lawful board, with every lawful cipher, from every such memory and every record, under every
-- sequence of calls, a cache changes the counts and nothing else. Nothing is asked of the program, the keys or the
-- MACs.
abbrev pub Demand3 : Type 1
Demand3 =
    (B : Board) → BoardLaws B → (c : Cipher) → CipherLaws c → (s : Cached) → Startable B s
    → (r : Processor) (calls : List Call) → LentBytes calls
    → AlwaysSame B c calls (record { processor = r; memory = as_it_stands s }) (record { processor = r; memory = s })

-- Demand 3 for the board of document 01, from reset with an empty cache: any M, C, memory, MAC area, DRK and SRH
abbrev pub Demand3FromReset : Type 0
Demand3FromReset =
    (c : Cipher) → CipherLaws c → (drk mem macs : List ℕ) (before : Processor) (C : ℕ)
    → Sized 16 drk → Bytes mem → size_fine (length mem) ≡ true → length macs ≡ length mem / 4 → 1 ≤ C
    → C ≤ 64
    → (calls : List Call) → LentBytes calls
    → AlwaysSame document_board c calls
    (record { processor = reset document_board before; memory = record { key = drk; mem = mem; macs = macs } })
    (record {
      processor = reset document_board before;
      memory = record { key = drk; mem = mem; macs = macs; cache = zeros (C * 64); dir = zeros C };
    })

-- whatever was lent, as far as it is accepted and made of bytes: behind a reboot one can start
abbrev pub RebootStarts : Type 1
RebootStarts =
    (B : Board) → BoardLaws B → (c : Cipher) → CipherLaws c → (m : Machine Cached) → Acceptable B m
    → MadeOfBytes m.memory
    → Startable B (with_cache B c reboot m).machine.memory

-- and so behind a power cut
abbrev pub CutStarts : Type 1
CutStarts =
    (B : Board) → BoardLaws B → (c : Cipher) → CipherLaws c → (m : Machine Cached) → Acceptable B m
    → MadeOfBytes m.memory
    → Startable B (with_cache B c power_cut m).machine.memory

-- ---- 2: what is kept

-- two machines that agree: the same record, and memories that agree line by line
pub record Agreeing (B : Board) (BL : BoardLaws B) (c : Cipher) (N C : ℕ) (u : Machine Uncached)
    (s : Machine Cached) : Type 0 where
  pub processors : u.processor ≡ s.processor
  pub memories : Agree c B.placement BL.placement N C u.memory s.memory

-- every call keeps the agreement
abbrev pub CallsKeepAgreement : Type 1
CallsKeepAgreement =
    (B : Board) (BL : BoardLaws B) (c : Cipher) → CipherLaws c → (N C : ℕ) → B.slots_fine C ≡ true
    → (call : Call) (u : Machine Uncached) (s : Machine Cached) → Bytes (buffer_of call) → Agreeing B BL c N C u s
    → Agreeing B BL c N C (without_cache B c call u (with_cache B c call s)).machine (with_cache B c call s).machine

-- every call leaves an acceptable machine acceptable, whatever its slots hold
abbrev pub CallsKeepAcceptable : Type 1
CallsKeepAcceptable =
    (B : Board) → BoardLaws B → (c : Cipher) → CipherLaws c → (call : Call) (m : Machine Cached)
    → Bytes (buffer_of call) → Acceptable B m
    → Acceptable B (with_cache B c call m).machine

-- ---- 3: bounds on the counts

-- no instruction but drk.set (opcode 32) fills or writes more than two lines
abbrev pub TwoLines : Type 0
TwoLines = (B : Board) (c : Cipher) (m : Machine Cached) → opcode (fetched B c m) ≢ 32
    → Within 2 2 (step B c (cached_setup B c) m).log

-- any instruction fills at most two lines and writes at most two more than the cache has slots
abbrev pub StepBound : Type 1
StepBound =
    (B : Board) → BoardLaws B → (c : Cipher) → CipherLaws c → (m : Machine Cached) → Acceptable B m
    → Within 2 (length m.memory.dir + 2) (step B c (cached_setup B c) m).log

-- a run of n counts at most n times that
abbrev pub RunBound : Type 1
RunBound =
    (B : Board) → BoardLaws B → (c : Cipher) → CipherLaws c → (n : ℕ) (m : Machine Cached) → Acceptable B m
    → Within (n * 2) (n * (length m.memory.dir + 2)) (run_from B c (cached_setup B c) n 0 m).log

-- no call counts more than this
abbrev pub CallBound : Type 1
CallBound =
    (B : Board) → BoardLaws B → (c : Cipher) → CipherLaws c → (m : Machine Cached) → Acceptable B m
    → (call : Call)
    → Within 20000 (10000 * (length m.memory.dir + 2)) (with_cache B c call m).log

-- The calls of the host: each on any memory, so that the machine with a cache and the machine without one cannot
-- differ in a call by mistake.
use Rattle.std.specs.Prelude.{ℕ, zero, suc, ◌+◌, Bool, List, [], ◌++◌, eqb}
use Rattle.std.proofs.Math.Option.{none, some}
use Rattle.lists.specs.If.{if}
use Rattle.model.specs.Cipher.{Cipher}
use Rattle.model.specs.Log.{Note, Counts, counts_of}
use Rattle.model.specs.Requests.{Request, evict, write_back, Reply, Memory, Ran, perform}
use Rattle.model.specs.Uncached.{Uncached, uncached}
use Rattle.model.specs.Cached.{Cached, cached}
use Rattle.instructions.specs.Rules.{first_of}
use Rattle.instructions.specs.Board.{Board}
use Rattle.instructions.specs.Record.{Processor, reset}
use Rattle.instructions.specs.Suspend.{entered}
use Rattle.instructions.specs.Step.{Stepped, instruction}
use Rattle.instructions.specs.Refusals.{or_else, cached_flaws, uncached_flaws, record_flaws, line_flaws, buffer_flaws}
use Rattle.instructions.specs.Refusals.{run_flaws}

-- the machine calls but the listing, with the line, the n and the buffer that each is lent
pub data Call : Type 0 where
  -- run at most n instructions
  run : ℕ → Call
  interrupt : Call
  -- bus read of a line into a buffer
  bus_read : ℕ → List ℕ → Call
  -- bus write of a line from a buffer
  bus_write : ℕ → List ℕ → Call
  -- bus write of a MAC entry from a buffer
  bus_mac : ℕ → List ℕ → Call
  evict_line : ℕ → Call
  write_back_all : Call
  reboot : Call
  power_cut : Call

-- the processor's record with the memory that it works on
pub record Machine (S : Type 0) : Type 0 where
  pub processor : Processor
  pub memory : S

-- what a call gives: the answer, the steps of run, the later bytes of its buffer, the machine, and the notes of which
-- the counts are the sums
pub record Result (S : Type 0) : Type 0 where
  pub answer : ℕ
  pub steps : ℕ
  pub buffer : List ℕ
  pub machine : Machine S
  pub log : List Note

-- the four counts of a call
unfoldable pub counts : {S : Type 0} → Result S → Counts
counts r = counts_of r.log

-- a memory for the host's calls: how it works, and what of it is refused
pub record Setup (S : Type 0) : Type 0 where
  pub memory : Memory S
  pub flaws : S → List (Bool × ℕ)

-- the machine with a cache
unfoldable pub cached_setup : Board → Cipher → Setup Cached
cached_setup B c = record { memory = cached c B.placement; flaws = cached_flaws B }

-- the machine without a cache; at a power cut it is given what the cut left of the machine beside it
unfoldable pub uncached_setup : Cipher → Uncached → Setup Uncached
uncached_setup c left = record { memory = uncached c left; flaws = uncached_flaws }

-- the buffer that a call is lent
unfoldable pub buffer_of : Call → List ℕ
buffer_of (run n) = []
buffer_of interrupt = []
buffer_of (bus_read n x) = x
buffer_of (bus_write n x) = x
buffer_of (bus_mac n x) = x
buffer_of (evict_line n) = []
buffer_of write_back_all = []
buffer_of reboot = []
buffer_of power_cut = []

-- what of the call itself is refused, on a memory of M bytes
unfoldable pub call_flaws : ℕ → Call → List (Bool × ℕ)
call_flaws M (run n) = run_flaws n
call_flaws M interrupt = []
call_flaws M (bus_read n x) = line_flaws M n ++ buffer_flaws 64 x
call_flaws M (bus_write n x) = line_flaws M n ++ buffer_flaws 64 x
call_flaws M (bus_mac n x) = line_flaws M n ++ buffer_flaws 16 x
call_flaws M (evict_line n) = line_flaws M n
call_flaws M write_back_all = []
call_flaws M reboot = []
call_flaws M power_cut = []

-- the lowest number that applies to the call, and 0 where none does
unfoldable pub refusal : {S : Type 0} → Setup S → Call → Machine S → ℕ
refusal H call m =
    or_else (first_of (H.flaws m.memory))
    (or_else (first_of (record_flaws m.processor)) (first_of (call_flaws (H.memory.size m.memory) call)))

-- a refused call: its number, nothing done, nothing counted, the buffer and the machine as they were
unfoldable pub refused : {S : Type 0} → ℕ → Call → Machine S → Result S
refused n call m = record { answer = n; steps = 0; buffer = buffer_of call; machine = m; log = [] }

-- a call that only changes the record, or the whole of memory at once
unfoldable pub changed : {S : Type 0} → Processor → S → Result S
changed r s = record { answer = 0; steps = 0; buffer = []; machine = record { processor = r; memory = s }; log = [] }

-- a call that is one request, after which the record is as given; the buffer gets what the reply makes of it
unfoldable pub asked : {S : Type 0} → Setup S → Request → Processor → (Reply → List ℕ) → S → Result S
asked H q r buffer s =
    let h = H.memory.handle q s in
    record {
      answer = 0;
      steps = 0;
      buffer = buffer h.reply;
      machine = record { processor = r; memory = h.state };
      log = h.log;
    }

-- the bytes of a reply, or the buffer as it was lent
unfoldable pub replied : List ℕ → Reply → List ℕ
replied x none = x
replied x (some line) = line

module _ {S : Type 0} (B : Board) (c : Cipher) (H : Setup S) where
  -- one instruction on the machine
  unfoldable pub step : Machine S → Ran Stepped S
  step m =
      let s = m.memory in
      perform H.memory (instruction B c (H.memory.key s) (H.memory.size s) m.processor) s

  -- run: at most so many instructions more, after i were done; it stops behind the first step that faults, that step
  -- counted
  unfoldable pub run_from : ℕ → ℕ → Machine S → Result S
  run_from zero i m = record { answer = 0; steps = i; buffer = []; machine = m; log = [] }
  run_from (suc k) i m =
      let s = step m in
      let next : Machine S = record { processor = s.out.processor; memory = s.state } in
      let rest = run_from k (i + 1) next in
      let going = eqb s.out.fault 0 in
      record {
        answer = if going rest.answer s.out.fault;
        steps = if going rest.steps (i + 1);
        buffer = [];
        machine = if going rest.machine next;
        log = s.log ++ (if going rest.log []);
      }

  -- what a call does that is not refused
  unfoldable pub accepted : Call → Machine S → Result S
  accepted (run n) m = run_from n 0 m
  accepted interrupt m = changed (entered B c (H.memory.key m.memory) 32 m.processor) m.memory
  accepted (bus_read n x) m = asked H (Request.bus_read n) m.processor (replied x) m.memory
  accepted (bus_write n x) m = asked H (Request.bus_write n x) m.processor (λ reply. x) m.memory
  accepted (bus_mac n x) m = asked H (Request.bus_mac n x) m.processor (λ reply. x) m.memory
  accepted (evict_line n) m = asked H (evict n) m.processor (λ reply. []) m.memory
  accepted write_back_all m = asked H write_back m.processor (λ reply. []) m.memory
  accepted reboot m = asked H write_back (reset B m.processor) (λ reply. []) m.memory
  accepted power_cut m = changed (reset B m.processor) (H.memory.cut m.memory)

  -- a machine call of the host
  unfoldable pub called : Call → Machine S → Result S
  called call m =
      let n = refusal H call m in
      if (eqb n 0) (accepted call m) (refused n call m)

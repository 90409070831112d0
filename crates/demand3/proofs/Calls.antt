-- Every call of the host is answered alike by the two machines, and leaves machines that agree.
use Prim.Native.Nat.{ℕ, zero, suc, ◌+◌, ◌*◌, ◌/◌}
use native.Mathlib.Omega.{arith}
use mathlib.Core.Path.{◌≡◌, refl, sym, ap, ap₂, ◌∙◌, subst}
use mathlib.Core.Bool.{Bool, true, false}
use mathlib.Core.List.{List, []}
use lib.ListN.{length}
use lib.Dec.{eqb}
use borrow.Author.Tests.{eqb-true, eq-eqb}
use Rattle.lists.specs.If.{if}
use Rattle.lists.specs.Bytes.{Bytes}
use Rattle.lists.proofs.Cases.{by_test}
use Rattle.model.specs.Cipher.{Cipher}
use Rattle.model.specs.CipherLaws.{CipherLaws}
use Rattle.model.specs.Log.{Note}
use Rattle.model.specs.Requests.{Request, evict, write_back, Reply, Prog, perform}
use Rattle.model.specs.Uncached.{Uncached, uncached_handle, uncached}
use Rattle.model.specs.Cached.{Cached, cached_handle, cached, lose_all, as_it_stands}
use Rattle.agree.specs.Agree.{Agree}
use Rattle.keeps.specs.Sound.{Fair, fair_evict, fair_bus_read, fair_bus_write, fair_bus_mac, fair_write_back}
use Rattle.agree.proofs.Requests.{Alike, answers-alike, RanAlike, runs_alike}
use Rattle.agree.proofs.Everything.{proper, cut-agrees}
use Rattle.instructions.specs.Rules.{first_of}
use Rattle.instructions.specs.Board.{Board}
use Rattle.instructions.specs.Record.{Processor, reset}
use Rattle.instructions.specs.Suspend.{entered}
use Rattle.instructions.specs.Step.{Stepped, instruction}
use Rattle.instructions.specs.Refusals.{or_else, memory_flaws, cache_flaws, cached_flaws, uncached_flaws, record_flaws}
use Rattle.instructions.specs.Refusals.{line_flaws, buffer_flaws}
use Rattle.instructions.specs.Calls.{Call, run, interrupt, bus_read, bus_write, bus_mac, evict_line, write_back_all, reboot}
use Rattle.instructions.specs.Calls.{power_cut, buffer_of, call_flaws, Machine, Result, cached_setup, uncached_setup}
use Rattle.instructions.specs.Calls.{refusal, step, run_from, asked, changed, replied, accepted, refused, called}
use Rattle.sound.specs.BoardLaws.{BoardLaws}
use Rattle.demand3.specs.Statement.{with_cache, without_cache, Agreeing}
use Rattle.sound.proofs.Programs.{instruction_sound}
use Rattle.sound.proofs.Refused.{line_in, buffer-sized, none-refused}

module _ (B : Board) (BL : BoardLaws B) (c : Cipher) (CL : CipherLaws c) (N C : ℕ) (slots : B.slots_fine C ≡ true)
  where
    -- two results that are alike, of machines that agree
    pub record ResultsAlike (u : Result Uncached) (s : Result Cached) : Type 0 where
      pub answers : u.answer ≡ s.answer
      pub steps : u.steps ≡ s.steps
      pub buffers : u.buffer ≡ s.buffer
      pub machines : Agreeing B BL c N C u.machine s.machine

    -- one step
    step-alike : (left : Uncached) (u : Machine Uncached) (s : Machine Cached) → Agreeing B BL c N C u s
        → RanAlike c CL B.placement BL.placement N C (step B c (uncached_setup c left) u)
        (step B c (cached_setup B c) s)
    unfolding step uncached_setup cached_setup uncached cached
    step-alike left u s G =
        let A = G.memories in
        let sizes : length s.memory.mem ≡ length u.memory.mem = A.good.mem ∙ sym A.plain_mem.size in
        let one = instruction B c s.memory.key (length s.memory.mem) s.processor in
        let other = instruction B c u.memory.key (length u.memory.mem) u.processor in
        let e : one ≡ other = λ i. instruction B c (sym A.keys i) (sizes i) (sym G.processors i) in
        subst (λ (q : Prog Stepped). RanAlike c CL B.placement BL.placement N C
        (perform (uncached c left) q u.memory) (perform (cached c B.placement) one s.memory)) e
        (runs_alike c CL B.placement BL.placement N C left one u.memory s.memory
        (instruction_sound B BL.words BL.whole_words N (length s.memory.mem) A.good.mem s.processor c
        s.memory.key) A)

    -- a run that goes on with what its rest gives, or stops behind the step
    goes_on : (going : Bool) (f i : ℕ) (ru : Result Uncached) (rs : Result Cached) (mu : Machine Uncached)
        (ms : Machine Cached) (lu ls : List Note) → ResultsAlike ru rs → Agreeing B BL c N C mu ms
        → ResultsAlike (record {
          answer = if going ru.answer f;
          steps = if going ru.steps i;
          buffer = [];
          machine = if going ru.machine mu;
          log = lu;
        })
        (record {
          answer = if going rs.answer f;
          steps = if going rs.steps i;
          buffer = [];
          machine = if going rs.machine ms;
          log = ls;
        })
    goes_on true f i ru rs mu ms lu ls R G =
        record { answers = R.answers; steps = R.steps; buffers = refl; machines = R.machines }
    goes_on false f i ru rs mu ms lu ls R G = record { answers = refl; steps = refl; buffers = refl; machines = G }

    run-alike : (left : Uncached) (k i : ℕ) (u : Machine Uncached) (s : Machine Cached) → Agreeing B BL c N C u s
        → ResultsAlike (run_from B c (uncached_setup c left) k i u) (run_from B c (cached_setup B c) k i s)
    unfolding run_from
    run-alike left zero i u s G = record { answers = refl; steps = refl; buffers = refl; machines = G }
    run-alike left (suc k) i u s G =
        let a = step B c (uncached_setup c left) u in
        let b = step B c (cached_setup B c) s in
        let S : RanAlike c CL B.placement BL.placement N C a b = step-alike left u s G in
        let H : Agreeing B BL c N C (record { processor = b.out.processor; memory = a.state })
        (record { processor = b.out.processor; memory = b.state }) =
        record { processors = refl; memories = S.states } in
        rw S.outs
        (goes_on (eqb b.out.fault 0) b.out.fault (i + 1)
        (run_from B c (uncached_setup c left) k (i + 1) (record { processor = b.out.processor; memory = a.state }))
        (run_from B c (cached_setup B c) k (i + 1) (record { processor = b.out.processor; memory = b.state }))
        (record { processor = b.out.processor; memory = a.state })
        (record { processor = b.out.processor; memory = b.state }) _ _
        (run-alike left k (i + 1) (record { processor = b.out.processor; memory = a.state })
        (record { processor = b.out.processor; memory = b.state }) H) H)

    -- a call that is one fair request
    asked-alike : (left : Uncached) (q : Request) (ru rs : Processor) (f : Reply → List ℕ) (u : Uncached)
        (s : Cached)
        → Fair N q → ru ≡ rs → Agree c B.placement BL.placement N C u s
        → ResultsAlike (asked (uncached_setup c left) q ru f u) (asked (cached_setup B c) q rs f s)
    unfolding asked uncached_setup cached_setup uncached cached
    asked-alike left q ru rs f u s h e A =
        let R : Alike c CL B.placement BL.placement N C (uncached_handle c q u) (cached_handle c B.placement q s)
        =
        answers-alike c CL B.placement BL.placement N C q u s h A in
        record {
          answers = refl;
          steps = refl;
          buffers = ap f R.replies;
          machines = record { processors = e; memories = R.states };
        }

    -- a call that only changes the record
    changed-alike : (ru rs : Processor) (u : Uncached) (s : Cached) → ru ≡ rs
        → Agree c B.placement BL.placement N C u s → ResultsAlike (changed ru u) (changed rs s)
    unfolding changed
    changed-alike ru rs u s e A =
        record { answers = refl; steps = refl; buffers = refl; machines = record { processors = e; memories = A } }

    -- a call that is not refused
    accepted-alike : (call : Call) (u : Machine Uncached) (s : Machine Cached) → Bytes (buffer_of call)
        → first_of (call_flaws (length s.memory.mem) call) ≡ 0 → Agreeing B BL c N C u s
        → ResultsAlike (accepted B c (uncached_setup c
        (as_it_stands (accepted B c (cached_setup B c) call s).machine.memory)) call u)
        (accepted B c (cached_setup B c) call s)
    unfolding accepted call_flaws buffer_of uncached_setup cached_setup uncached cached changed line_flaws
    accepted-alike (run n) u s b z G = run-alike _ n 0 u s G
    accepted-alike interrupt u s b z G =
        changed-alike (entered B c u.memory.key 32 u.processor) (entered B c s.memory.key 32 s.processor)
        u.memory s.memory
        (ap₂ (λ (k : List ℕ) (r : Processor). entered B c k 32 r) G.memories.keys G.processors)
        G.memories
    accepted-alike (bus_read n x) u s b z G =
        asked-alike _ (Request.bus_read n) u.processor s.processor (replied x) u.memory s.memory
        (fair_bus_read (line_in N (length s.memory.mem) n (buffer_flaws 64 x) G.memories.good.mem z).0)
        G.processors G.memories
    accepted-alike (bus_write n x) u s b z G =
        let h = line_in N (length s.memory.mem) n (buffer_flaws 64 x) G.memories.good.mem z in
        asked-alike _ (Request.bus_write n x) u.processor s.processor (λ reply. x) u.memory s.memory
        (fair_bus_write h.0 (buffer-sized 64 x h.1 b)) G.processors G.memories
    accepted-alike (bus_mac n x) u s b z G =
        let h = line_in N (length s.memory.mem) n (buffer_flaws 16 x) G.memories.good.mem z in
        asked-alike _ (Request.bus_mac n x) u.processor s.processor (λ reply. x) u.memory s.memory
        (fair_bus_mac h.0 (buffer-sized 16 x h.1 b)) G.processors G.memories
    accepted-alike (evict_line n) u s b z G =
        asked-alike _ (evict n) u.processor s.processor (λ reply. []) u.memory s.memory
        (fair_evict (line_in N (length s.memory.mem) n [] G.memories.good.mem z).0) G.processors
        G.memories
    accepted-alike write_back_all u s b z G =
        asked-alike _ write_back u.processor s.processor (λ reply. []) u.memory s.memory fair_write_back
        G.processors G.memories
    accepted-alike reboot u s b z G =
        asked-alike _ write_back (reset B u.processor) (reset B s.processor) (λ reply. []) u.memory s.memory
        fair_write_back
        (ap (reset B) G.processors) G.memories
    accepted-alike power_cut u s b z G =
        changed-alike (reset B u.processor) (reset B s.processor)
        (as_it_stands (lose_all B.placement s.memory)) (lose_all B.placement s.memory)
        (ap (reset B) G.processors)
        (cut-agrees c CL B.placement BL.placement N C s.memory
        (proper c CL B.placement BL.placement N C u.memory s.memory G.memories))

    -- the refusals for what is lent: neither 103 nor 104 applies to a memory that agrees
    flaws-alike : (u : Uncached) (s : Cached) → Agree c B.placement BL.placement N C u s
        → first_of (uncached_flaws u) ≡ first_of (cached_flaws B s)
    unfolding uncached_flaws cached_flaws memory_flaws cache_flaws
    flaws-alike u s A =
        let n : length s.mem / 64 ≡ N = omega (arith, A.good.mem) in
        rw (
          A.plain_mem.size,
          A.plain_macs,
          A.good.mem,
          A.good.macs,
          A.good.cache,
          eq-eqb (length s.dir * 64)
              (length s.dir * 64) refl,
          A.good.places,
          slots,
          ← A.good.mem,
          n,
          BL.passes N s.dir
              A.good.orderly,
        )

    refusal-alike : (left : Uncached) (call : Call) (u : Machine Uncached) (s : Machine Cached)
        → Agreeing B BL c N C u s → refusal (uncached_setup c left) call u ≡ refusal (cached_setup B c) call s
    unfolding refusal uncached_setup cached_setup uncached cached
    refusal-alike left call u s G =
        let sizes : length u.memory.mem ≡ length s.memory.mem =
        G.memories.plain_mem.size ∙ sym G.memories.good.mem in
        λ i. or_else (flaws-alike u.memory s.memory G.memories i)
        (or_else (first_of (record_flaws (G.processors i))) (first_of (call_flaws (sizes i) call)))

    -- every call is answered alike
    pub called-alike : (call : Call) (u : Machine Uncached) (s : Machine Cached) → Bytes (buffer_of call)
        → Agreeing B BL c N C u s → ResultsAlike (without_cache B c call u (with_cache B c call s))
        (with_cache B c call s)
    unfolding without_cache with_cache called refused cached_setup cached
    called-alike call u s b G =
        let n = refusal (cached_setup B c) call s in
        by_test (eqb n 0)
        (λ h.
        rw (h, refusal-alike (as_it_stands (accepted B c (cached_setup B c) call s).machine.memory) call u s G, h)
        (accepted-alike call u s b (none-refused (cached_setup B c) call s (eqb-true n 0 h)) G))
        (λ h.
        rw (h, refusal-alike (as_it_stands (refused n call s).machine.memory) call u s G, h)
        (record { answers = refl; steps = refl; buffers = refl; machines = G }))

-- Every call leaves an acceptable machine acceptable, whatever its slots hold.
use Prim.Native.Nat.{ℕ, zero, suc, ◌+◌, ◌/◌}
use mathlib.Core.Path.{◌≡◌}
use mathlib.Core.Bool.{Bool, true, false}
use mathlib.Core.List.{List, []}
use lib.ListN.{length}
use lib.Dec.{eqb}
use borrow.Author.Tests.{eqb-true}
use Rattle.lists.specs.If.{if}
use Rattle.lists.specs.Bytes.{Bytes}
use Rattle.lists.proofs.Cases.{by_test}
use Rattle.model.specs.Cipher.{Cipher}
use Rattle.model.specs.CipherLaws.{CipherLaws}
use Rattle.model.specs.Requests.{Request, evict, write_back, Reply, Memory, perform}
use Rattle.model.specs.Cached.{Cached, cached}
use Rattle.keeps.specs.Good.{Good}
use Rattle.keeps.specs.Sound.{Fair, fair_evict, fair_bus_read, fair_bus_write, fair_bus_mac, fair_write_back}
use Rattle.keeps.proofs.Requests.{handle-good, perform-good, cut-good}
use Rattle.instructions.specs.Rules.{first_of}
use Rattle.instructions.specs.Board.{Board}
use Rattle.instructions.specs.Record.{Processor, reset, Sane}
use Rattle.instructions.specs.Step.{instruction}
use Rattle.instructions.specs.Refusals.{line_flaws, buffer_flaws}
use Rattle.instructions.specs.Calls.{Call, run, interrupt, bus_read, bus_write, bus_mac, evict_line, write_back_all, reboot}
use Rattle.instructions.specs.Calls.{power_cut, buffer_of, call_flaws, Machine, cached_setup, refusal, step, run_from}
use Rattle.instructions.specs.Calls.{asked, changed, replied, accepted, refused, called}
use Rattle.instructions.proofs.Phases.{fetch_phase, data_phase, phases}
use Rattle.instructions.proofs.Sane.{flaws-sane, sane-flaws, sane-entered, sane-finished, sane-reset}
use Rattle.sound.specs.BoardLaws.{BoardLaws}
use Rattle.sound.specs.Acceptable.{Acceptable}
use Rattle.sound.proofs.Programs.{instruction_sound}
use Rattle.sound.proofs.Lent.{lent-good, good-lent}
use Rattle.sound.proofs.Refused.{line_in, buffer-sized, none-refused}

-- the record after an instruction is sane, whatever the memory answered
step-sane : {S : Type 0} (M : Memory S) (B : Board) (c : Cipher) (key : List ℕ) (size : ℕ) (r : Processor) (s : S)
    → Sane r → Sane (perform M (instruction B c key size r) s).out.processor
step-sane M B c key size r s S =
    rw (phases M B c key size r s) (sane-finished B c key r S size (fetch_phase M B c key size r s).out
    (data_phase M B c key size r s).out)

module _ (B : Board) (BL : BoardLaws B) (c : Cipher) (CL : CipherLaws c) (N C : ℕ) (slots : B.slots_fine C ≡ true)
  where
    -- a machine whose memory is good and whose record is sane
    pub record Kept (m : Machine Cached) : Type 0 where
      pub good : Good B.placement BL.placement N C m.memory
      pub sane : Sane m.processor

    pub step_kept : (m : Machine Cached) → Kept m
        → Kept (record {
          processor = (step B c (cached_setup B c) m).out.processor;
          memory = (step B c (cached_setup B c) m).state;
        })
    unfolding step cached_setup cached
    step_kept m K =
        let M = length m.memory.mem in
        record {
          good =
              perform-good c CL B.placement BL.placement N C (instruction B c m.memory.key M m.processor)
              m.memory
              (instruction_sound B BL.words BL.whole_words N M K.good.mem m.processor c m.memory.key)
              K.good;
          sane = step-sane (cached c B.placement) B c m.memory.key M m.processor m.memory K.sane;
        }

    chosen-kept : (t : Bool) (a b : Machine Cached) → Kept a → Kept b → Kept (if t a b)
    chosen-kept true a b p q = p
    chosen-kept false a b p q = q

    pub run-kept : (k i : ℕ) (m : Machine Cached) → Kept m → Kept (run_from B c (cached_setup B c) k i m).machine
    unfolding run_from
    run-kept zero i m K = K
    run-kept (suc k) i m K =
        let s = step B c (cached_setup B c) m in
        let next : Machine Cached = record { processor = s.out.processor; memory = s.state } in
        chosen-kept (eqb s.out.fault 0) (run_from B c (cached_setup B c) k (i + 1) next).machine next
        (run-kept k (i + 1) next (step_kept m K)) (step_kept m K)

    asked-kept : (q : Request) (r : Processor) (f : Reply → List ℕ) (s : Cached) → Fair N q → Sane r
        → Good B.placement BL.placement N C s → Kept (asked (cached_setup B c) q r f s).machine
    unfolding asked cached_setup cached
    asked-kept q r f s h S G = record { good = handle-good c CL B.placement BL.placement N C q s h G; sane = S }

    accepted-kept : (call : Call) (m : Machine Cached) → Bytes (buffer_of call)
        → first_of (call_flaws (length m.memory.mem) call) ≡ 0 → Kept m
        → Kept (accepted B c (cached_setup B c) call m).machine
    unfolding accepted changed call_flaws buffer_of line_flaws cached_setup cached
    accepted-kept (run n) m b z K = run-kept n 0 m K
    accepted-kept interrupt m b z K =
        record { good = K.good; sane = sane-entered B c m.memory.key m.processor K.sane 32 }
    accepted-kept (bus_read n x) m b z K =
        asked-kept (Request.bus_read n) m.processor (replied x) m.memory
        (fair_bus_read (line_in N (length m.memory.mem) n (buffer_flaws 64 x) K.good.mem z).0) K.sane
        K.good
    accepted-kept (bus_write n x) m b z K =
        let h = line_in N (length m.memory.mem) n (buffer_flaws 64 x) K.good.mem z in
        asked-kept (Request.bus_write n x) m.processor (λ reply. x) m.memory
        (fair_bus_write h.0 (buffer-sized 64 x h.1 b)) K.sane K.good
    accepted-kept (bus_mac n x) m b z K =
        let h = line_in N (length m.memory.mem) n (buffer_flaws 16 x) K.good.mem z in
        asked-kept (Request.bus_mac n x) m.processor (λ reply. x) m.memory
        (fair_bus_mac h.0 (buffer-sized 16 x h.1 b)) K.sane K.good
    accepted-kept (evict_line n) m b z K =
        asked-kept (evict n) m.processor (λ reply. []) m.memory
        (fair_evict (line_in N (length m.memory.mem) n [] K.good.mem z).0) K.sane K.good
    accepted-kept write_back_all m b z K =
        asked-kept write_back m.processor (λ reply. []) m.memory fair_write_back K.sane K.good
    accepted-kept reboot m b z K = asked-kept write_back (reset B m.processor) (λ reply. []) m.memory
        fair_write_back (sane-reset B m.processor) K.good
    accepted-kept power_cut m b z K = record {
      good = cut-good c CL B.placement BL.placement N C m.memory K.good;
      sane = sane-reset B
          m.processor;
    }

    called-kept : (call : Call) (m : Machine Cached) → Bytes (buffer_of call) → Kept m
        → Kept (called B c (cached_setup B c) call m).machine
    unfolding called refused cached_setup cached
    called-kept call m b K =
        let n = refusal (cached_setup B c) call m in
        by_test (eqb n 0)
        (λ h. rw h (accepted-kept call m b (none-refused (cached_setup B c) call m (eqb-true n 0 h)) K))
        (λ h. rw h K)

pub calls_keep_acceptable : (B : Board) → BoardLaws B → (c : Cipher) → CipherLaws c
    → (call : Call) (m : Machine Cached) → Bytes (buffer_of call) → Acceptable B m
    → Acceptable B (called B c (cached_setup B c) call m).machine
calls_keep_acceptable B BL c CL call m b A =
    let l = lent-good B BL m.memory A.memory in
    let N = length m.memory.mem / 64 in
    let C = length m.memory.dir in
    let K = called-kept B BL c CL N C l.slots call m b
    (record { good = l.good; sane = flaws-sane m.processor A.processor }) in
    record {
      memory = good-lent B BL N C (called B c (cached_setup B c) call m).machine.memory
          (rw (← l.good.mem) l.sized) l.slots K.good;
      processor = sane-flaws (called B c (cached_setup B c) call m).machine.processor K.sane;
    }

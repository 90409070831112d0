-- Demand 3, proved: from machines that agree, under every sequence of calls, nothing tells them apart; and which
-- machines agree.
use Prim.Native.Nat.{ℕ, ◌/◌}
use mathlib.Core.Path.{◌≡◌, refl}
use mathlib.Core.Bool.{true}
use mathlib.Core.List.{List, [], ◌∷◌}
use lib.ListN.{length}
use Rattle.model.specs.Cipher.{Cipher}
use Rattle.model.specs.CipherLaws.{CipherLaws}
use Rattle.model.specs.Uncached.{Uncached}
use Rattle.model.specs.Cached.{Cached, evict_all, as_it_stands}
use Rattle.agree.specs.Agree.{Agree, AllEmpty}
use Rattle.agree.proofs.Everything.{all-agrees, all_empties, same_mem, same-macs, fresh_agrees}
use Rattle.instructions.specs.Board.{Board}
use Rattle.instructions.specs.Calls.{Call, Machine, Result}
use Rattle.sound.specs.BoardLaws.{BoardLaws}
use Rattle.demand3.specs.Statement.{written_back, with_cache, without_cache, SameOutside, AlwaysSame, ended, next}
use Rattle.demand3.specs.Statement.{LentBytes, no_more, bytes_then, Agreeing, Demand3, CallsKeepAgreement}
use Rattle.demand3.specs.Statement.{CallsKeepAcceptable, TwoLines, StepBound, RunBound, CallBound}
use Rattle.sound.proofs.Lent.{lent-good}
use Rattle.sound.proofs.Kept.{calls_keep_acceptable}
use Rattle.sound.proofs.Bounds.{two_lines, step_bound, run_bound, call_bound}
use Rattle.demand3.proofs.Calls.{ResultsAlike, called-alike}

module _ (B : Board) (BL : BoardLaws B) (c : Cipher) (CL : CipherLaws c) (N C : ℕ) (slots : B.slots_fine C ≡ true)
  where
    -- memories that agree are one once everything is written back
    one-memory : (u : Uncached) (s : Cached) → Agree c B.placement BL.placement N C u s
        → u ≡ written_back B c s
    unfolding written_back as_it_stands
    one-memory u s A =
        let t = (evict_all c B.placement s).state in
        let D : Agree c B.placement BL.placement N C u t =
        all-agrees c CL B.placement BL.placement N C u s A in
        let E : AllEmpty B.placement t.dir = all_empties c CL B.placement BL.placement N C s in
        let m = same_mem c CL B.placement BL.placement N C u t D E in
        let a = same-macs c CL B.placement BL.placement N C u t D E in
        λ i. record { key = D.keys i; mem = m i; macs = a i }

    outside : (u : Result Uncached) (s : Result Cached) → ResultsAlike B BL c CL N C slots u s → SameOutside B c u s
    outside u s R =
        record {
          answers = R.answers;
          steps = R.steps;
          buffers = R.buffers;
          processors = R.machines.processors;
          memories = one-memory u.machine.memory s.machine.memory R.machines.memories;
        }

    -- from any machines that agree
    pub always_same : (calls : List Call) (u : Machine Uncached) (s : Machine Cached) → LentBytes calls
        → Agreeing B BL c N C u s → AlwaysSame B c calls u s
    always_same [] u s no_more G = ended
    always_same (call ∷ calls) u s (bytes_then b bs) G =
        let R = called-alike B BL c CL N C slots call u s b G in
        next (outside (without_cache B c call u (with_cache B c call s)) (with_cache B c call s) R)
        (always_same calls (without_cache B c call u (with_cache B c call s)).machine (with_cache B c call s).machine bs
        R.machines)

-- Demand 3
pub demand3 : Demand3
unfolding as_it_stands
demand3 B BL c CL s Z r calls bs =
    let l = lent-good B BL s Z.accepted in
    let N = length s.mem / 64 in
    let C = length s.dir in
    always_same B BL c CL N C l.slots calls (record { processor = r; memory = as_it_stands s })
    (record { processor = r; memory = s }) bs
    (record {
      processors = refl;
      memories = fresh_agrees c CL B.placement BL.placement N C s
          (record { key = Z.key; bytes = Z.bytes; good = l.good }) Z.empty;
    })

-- every call keeps the agreement
pub calls_keep_agreement : CallsKeepAgreement
calls_keep_agreement B BL c CL N C slots call u s b G = (called-alike B BL c CL N C slots call u s b G).machines

-- what the calls keep, and the bounds on the counts
pub acceptable_kept : CallsKeepAcceptable
unfolding with_cache
acceptable_kept = calls_keep_acceptable

pub two_lines_bound : TwoLines
two_lines_bound = two_lines

pub one-step_bound : StepBound
one-step_bound = step_bound

pub whole_run_bound : RunBound
whole_run_bound = run_bound

pub any_call_bound : CallBound
unfolding with_cache
any_call_bound = call_bound

-- No instruction but drk.set fills or writes more than two lines; and what any instruction and any run may count.
use Prim.Native.Nat.{ℕ, zero, suc, ◌+◌, ◌*◌, ◌/◌, ◌%◌, ◌≤◌}
use native.Mathlib.Nat.{suc-mul, mul-le-mul_right}
use native.Mathlib.Omega.{arith}
use mathlib.Core.Path.{◌≡◌, refl}
use mathlib.Core.Logic.{◌≢◌}
use mathlib.Core.Bool.{Bool, true, false, true≢false}
use mathlib.Core.List.{List, [], ◌++◌}
use lib.ListN.{length}
use lib.Dec.{eqb, ltb}
use borrow.Author.Tests.{eqb-true, ltb-false}
use Rattle.lists.specs.If.{if}
use Rattle.lists.specs.Parts.{put_at}
use Rattle.lists.specs.Words.{little_bytes}
use Rattle.lists.proofs.Cases.{by_test}
use Rattle.model.specs.Cipher.{Cipher}
use Rattle.model.specs.CipherLaws.{CipherLaws}
use Rattle.model.specs.Log.{Note}
use Rattle.model.specs.Placement.{Placement}
use Rattle.model.specs.Requests.{perform}
use Rattle.model.specs.Cached.{Cached, cached_handle, cached, access_place, evict_all, evict_line}
use Rattle.keeps.specs.Good.{Good}
use Rattle.keeps.specs.Within.{Within}
use Rattle.keeps.proofs.Counts.{within_none, within_more, within-append, access-within, all-within, drop-within}
use Rattle.keeps.proofs.Requests.{perform-good}
use Rattle.instructions.specs.Board.{Board}
use Rattle.instructions.specs.Record.{Processor}
use Rattle.instructions.specs.Fields.{opcode}
use Rattle.instructions.specs.Operations.{Ra, Rb, address}
use Rattle.instructions.specs.Wishes.{Wish, idle, word, new_key, Got, grant}
use Rattle.instructions.specs.Step.{fetch_of, fetch_wish, known_fault, wishes, wish_for, data_wish}
use Rattle.instructions.specs.Faults.{fetch_fault}
use Rattle.instructions.specs.Calls.{Machine, cached_setup, step, run_from, Call, run, interrupt, bus_read, bus_write}
use Rattle.instructions.specs.Calls.{bus_mac, write_back_all, reboot, power_cut, call_flaws, accepted, called, changed}
use Rattle.instructions.specs.Calls.{asked, refused, refusal}
use Rattle.instructions.proofs.Phases.{fetch_phase, data_phase, phases}
use Rattle.instructions.proofs.Sane.{flaws-sane}
use Rattle.instructions.specs.Rules.{first_of}
use Rattle.instructions.specs.Refusals.{run_flaws}
use Rattle.sound.proofs.Refused.{none-refused}
use Rattle.sound.specs.BoardLaws.{BoardLaws}
use Rattle.sound.specs.Acceptable.{Acceptable, fetched}
use Rattle.sound.proofs.Programs.{fetch_fair, grant_sound}
use Rattle.instructions.proofs.RuleLaws.{first_of-none, pick-each}
use Rattle.sound.proofs.Lent.{lent-good}
use Rattle.sound.proofs.Kept.{Kept, step_kept}

-- does the wish take another key?
takes_key : Wish → Bool
takes_key idle = false
takes_key (word tag a k write v) = false
takes_key (new_key key) = true

module _ (c : Cipher) (P : Placement) where
  -- a wish that takes no key fills at most one line and writes at most one
  wish-within : (wish : Wish) (s : Cached) → takes_key wish ≡ false
      → Within 1 1 (perform (cached c P) (grant wish) s).log
  unfolding perform grant cached cached_handle takes_key
  wish-within idle s e = within_more 0 0 1 1 [] (omega arith) (omega arith) within_none
  wish-within (word tag a k write v) s e =
      let change = put_at (a % 64) k (little_bytes k v) in
      let log = (access_place c P tag (a / 64) (P.choose s.dir (a / 64)) write change s).log in
      within_more (1 + 0) (1 + 0) 1 1 (log ++ []) (omega arith) (omega arith)
      (within-append 1 1 0 0 log [] (access-within c P s tag (a / 64) (P.choose s.dir (a / 64)) write change)
      within_none)
  wish-within (new_key key) s e = absurd (true≢false e)

  -- any wish fills at most one line and writes at most one more than the cache has slots
  pub any_within : (wish : Wish) (s : Cached)
      → Within 1 (length s.dir + 1) (perform (cached c P) (grant wish) s).log
  unfolding perform grant cached cached_handle takes_key
  any_within idle s = within_more 0 0 1 (length s.dir + 1) [] (omega arith) (omega arith) within_none
  any_within (word tag a k write v) s = within_more 1 1 1 (length s.dir + 1)
      (perform (cached c P) (grant (word tag a k write v)) s).log (omega arith) (omega arith)
      (wish-within (word tag a k write v) s refl)
  any_within (new_key key) s =
      let log = (evict_all c P s).log in
      within_more (0 + 0) (length s.dir + 0) 1 (length s.dir + 1) (log ++ []) (omega arith) (omega arith)
      (within-append 0 (length s.dir) 0 0 log [] (all-within c P s) within_none)

-- the fetch takes no key
fetch_no_key : (M : ℕ) (r : Processor) → takes_key (fetch_wish M r) ≡ false
unfolding fetch_wish fetch_of takes_key
fetch_no_key M r = by_test (eqb (fetch_fault M r) 0) (λ h. rw h) (λ h. rw h)

-- the data access takes no key unless the opcode is drk.set's
data_no_key : (B : Board) (c : Cipher) (key : List ℕ) (M : ℕ) (r : Processor) (got : Got)
    → opcode got.number ≢ 32
    → takes_key (data_wish B c key M r got) ≡ false
unfolding data_wish wish_for takes_key
data_no_key B c key M r got d =
    let w = got.number in
    by_test (eqb (known_fault B M r got) 0)
    (λ h.
    rw h
    (pick-each (λ (x : Wish). takes_key x ≡ false) (opcode w) (wishes B (address B r w) (Ra r w) (Rb r w)) idle
    (λ e. refl, (λ e. refl, (λ e. absurd (d e), (λ e. refl, (λ e. refl, tt {0}))))) refl))
    (λ h. rw h)

pub two_lines : (B : Board) (c : Cipher) (m : Machine Cached) → opcode (fetched B c m) ≢ 32
    → Within 2 2 (step B c (cached_setup B c) m).log
unfolding fetched step cached_setup cached fetch_phase data_phase
two_lines B c m d =
    let P = B.placement in
    let M = length m.memory.mem in
    let r = m.processor in
    let a = fetch_phase (cached c P) B c m.memory.key M r m.memory in
    let b = data_phase (cached c P) B c m.memory.key M r m.memory in
    rw (phases (cached c P) B c m.memory.key M r m.memory)
    (within-append 1 1 1 1 a.log b.log (wish-within c P (fetch_wish M r) m.memory (fetch_no_key M r))
    (wish-within c P (data_wish B c m.memory.key M r a.out) a.state
    (data_no_key B c m.memory.key M r a.out d)))

module _ (B : Board) (BL : BoardLaws B) (c : Cipher) (CL : CipherLaws c) (N C : ℕ) (slots : B.slots_fine C ≡ true)
  where
    -- any step
    step-within : (m : Machine Cached) → Kept B BL c CL N C slots m
        → Within 2 (C + 2) (step B c (cached_setup B c) m).log
    unfolding step cached_setup cached fetch_phase data_phase
    step-within m K =
        let P = B.placement in
        let M = length m.memory.mem in
        let r = m.processor in
        let a = fetch_phase (cached c P) B c m.memory.key M r m.memory in
        let b = data_phase (cached c P) B c m.memory.key M r m.memory in
        let G : Good P BL.placement N C a.state = perform-good c CL P BL.placement N C (grant (fetch_wish M r))
        m.memory (grant_sound N (fetch_wish M r) (fetch_fair N M r K.good.mem)) K.good in
        let W : Within 1 (C + 1) b.log =
        rw G.places at (any_within c P (data_wish B c m.memory.key M r a.out) a.state) in
        rw (phases (cached c P) B c m.memory.key M r m.memory)
        (within_more (1 + 1) (1 + (C + 1)) 2 (C + 2) (a.log ++ b.log) (omega arith) (omega arith)
        (within-append 1 1 1 (C + 1) a.log b.log (wish-within c P (fetch_wish M r) m.memory (fetch_no_key M r))
        W))

    -- what is added where a run goes on
    rest-within : (f w : ℕ) (t : Bool) (log : List Note) → Within f w log → Within f w (if t log [])
    rest-within f w true log W = W
    rest-within f w false log W = within_more 0 0 f w [] (omega arith) (omega arith) within_none

    run-within : (k i : ℕ) (m : Machine Cached) → Kept B BL c CL N C slots m
        → Within (k * 2) (k * (C + 2)) (run_from B c (cached_setup B c) k i m).log
    unfolding run_from
    run-within zero i m K = within_more 0 0 (0 * 2) (0 * (C + 2)) [] (omega arith) (omega arith) within_none
    run-within (suc k) i m K =
        let s = step B c (cached_setup B c) m in
        let next : Machine Cached = record { processor = s.out.processor; memory = s.state } in
        let rest = (run_from B c (cached_setup B c) k (i + 1) next).log in
        let going = eqb s.out.fault 0 in
        within_more (2 + k * 2) (C + 2 + k * (C + 2)) (suc k * 2) (suc k * (C + 2)) (s.log ++ (if going rest []))
        (omega arith) (omega (arith, suc-mul k (C + 2)))
        (within-append 2 (C + 2) (k * 2) (k * (C + 2)) s.log (if going rest []) (step-within m K)
        (rest-within (k * 2) (k * (C + 2)) going rest (run-within k (i + 1) next (step_kept B BL c CL N C slots m K))))

-- an acceptable machine is kept in order
in_order : (B : Board) (BL : BoardLaws B) (c : Cipher) (CL : CipherLaws c) (m : Machine Cached) (A : Acceptable B m)
    → Kept B BL c CL (length m.memory.mem / 64) (length m.memory.dir)
    (lent-good B BL m.memory A.memory).slots m
in_order B BL c CL m A =
    record { good = (lent-good B BL m.memory A.memory).good; sane = flaws-sane m.processor A.processor }

pub step_bound : (B : Board) → BoardLaws B → (c : Cipher) → CipherLaws c → (m : Machine Cached)
    → Acceptable B m
    → Within 2 (length m.memory.dir + 2) (step B c (cached_setup B c) m).log
step_bound B BL c CL m A =
    step-within B BL c CL (length m.memory.mem / 64) (length m.memory.dir)
    (lent-good B BL m.memory A.memory).slots m (in_order B BL c CL m A)

pub run_bound : (B : Board) → BoardLaws B → (c : Cipher) → CipherLaws c → (n : ℕ) (m : Machine Cached)
    → Acceptable B m → Within (n * 2) (n * (length m.memory.dir + 2)) (run_from B c (cached_setup B c) n 0 m).log
run_bound B BL c CL n m A =
    run-within B BL c CL (length m.memory.mem / 64) (length m.memory.dir)
    (lent-good B BL m.memory A.memory).slots n 0 m (in_order B BL c CL m A)

-- any call, a run being of at most 10,000 instructions
module _ (B : Board) (BL : BoardLaws B) (c : Cipher) (CL : CipherLaws c) (m : Machine Cached) (A : Acceptable B m) where
  abbrev C : ℕ
  C = length m.memory.dir

  few : (w : ℕ) (log : List Note) → w ≤ C + 1 → Within 0 w log → Within 20000 (10000 * (C + 2)) log
  few w log h W = within_more 0 w 20000 (10000 * (C + 2)) log (omega arith) (omega arith) W

  accepted_bound : (call : Call) → first_of (call_flaws (length m.memory.mem) call) ≡ 0
      → Within 20000 (10000 * (C + 2)) (accepted B c (cached_setup B c) call m).log
  unfolding accepted call_flaws changed asked cached_setup cached cached_handle run_flaws
  accepted_bound (run n) z =
      let h : n ≤ 10000 = ltb-false 10000 n (first_of-none (ltb 10000 n) 108 0 (λ q. omega arith) z).0 in
      within_more (n * 2) (n * (C + 2)) 20000 (10000 * (C + 2)) (run_from B c (cached_setup B c) n 0 m).log
      (omega arith) (mul-le-mul_right (C + 2) h) (run_bound B BL c CL n m A)
  accepted_bound interrupt z = few 0 [] (omega arith) within_none
  accepted_bound (bus_read n x) z =
      few 1 (evict_line c B.placement n m.memory).log (omega arith) (drop-within c B.placement m.memory n)
  accepted_bound (bus_write n x) z =
      few 1 (evict_line c B.placement n m.memory).log (omega arith) (drop-within c B.placement m.memory n)
  accepted_bound (bus_mac n x) z =
      few 1 (evict_line c B.placement n m.memory).log (omega arith) (drop-within c B.placement m.memory n)
  accepted_bound (Call.evict_line n) z =
      few 1 (evict_line c B.placement n m.memory).log (omega arith) (drop-within c B.placement m.memory n)
  accepted_bound write_back_all z =
      few C (evict_all c B.placement m.memory).log (omega arith) (all-within c B.placement m.memory)
  accepted_bound reboot z =
      few C (evict_all c B.placement m.memory).log (omega arith) (all-within c B.placement m.memory)
  accepted_bound power_cut z = few 0 [] (omega arith) within_none

  pub call_bound : (call : Call) → Within 20000 (10000 * (C + 2)) (called B c (cached_setup B c) call m).log
  unfolding called refused cached_setup cached
  call_bound call =
      let n = refusal (cached_setup B c) call m in
      by_test (eqb n 0)
      (λ h. rw h (accepted_bound call (none-refused (cached_setup B c) call m (eqb-true n 0 h))))
      (λ h. rw h (few 0 [] (omega arith) within_none))

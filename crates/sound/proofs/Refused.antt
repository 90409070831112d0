-- What it says of a call's line, buffer and n that the call is not refused.
use Prim.Native.Nat.{ℕ, ◌*◌, ◌/◌, ◌<◌, ◌≤◌}
use native.Mathlib.Omega.{arith}
use mathlib.Core.Path.{◌≡◌}
use mathlib.Core.Bool.{Bool, not}
use mathlib.Core.List.{List, ◌++◌}
use lib.ListN.{length}
use lib.Dec.{eqb, leb, ltb}
use borrow.Author.Tests.{eqb-true, leb-false, ltb-false, not-false}
use Rattle.lists.specs.Bytes.{Bytes}
use Rattle.model.specs.CipherLaws.{Sized}
use Rattle.instructions.specs.Rules.{first_of}
use Rattle.instructions.specs.Refusals.{or_else, record_flaws, line_flaws, buffer_flaws, run_flaws}
use Rattle.instructions.specs.Calls.{Call, call_flaws, Machine, Setup, refusal}
use Rattle.instructions.proofs.RuleLaws.{first_of-none, or_else-none}

-- a line that is not refused is a line of memory
pub line_in : (N M n : ℕ) (rest : List (Bool × ℕ)) → M ≡ N * 64 → first_of (line_flaws M n ++ rest) ≡ 0
    → (n < N) × (first_of rest ≡ 0)
unfolding line_flaws
line_in N M n rest e z =
    let a = first_of-none (leb (M / 64) n) 106 (first_of rest) (λ q. omega arith) z in
    let l : n < M / 64 = leb-false (M / 64) n a.0 in
    let h : n < N = omega arith in
    (h, a.1)

-- a buffer that is not refused has its size
pub buffer-is : (k : ℕ) (x : List ℕ) → first_of (buffer_flaws k x) ≡ 0 → length x ≡ k
unfolding buffer_flaws
buffer-is k x z =
    let a = first_of-none (not (eqb (length x) k)) 107 0 (λ q. omega arith) z in
    eqb-true (length x) k (not-false (eqb (length x) k) a.0)

pub buffer-sized : (k : ℕ) (x : List ℕ) → first_of (buffer_flaws k x) ≡ 0 → Bytes x → Sized k x
buffer-sized k x z b = record { size = buffer-is k x z; bytes = b }

-- a run that is not refused is of no more than 10,000 instructions
pub run_is : (n : ℕ) → first_of (run_flaws n) ≡ 0 → n ≤ 10000
unfolding run_flaws
run_is n z = ltb-false 10000 n (first_of-none (ltb 10000 n) 108 0 (λ q. omega arith) z).0

module _ {S : Type 0} (H : Setup S) (call : Call) (m : Machine S) (z : refusal H call m ≡ 0) where
  -- a call that is not refused is not refused for what was lent
  pub lent_unrefused : first_of (H.flaws m.memory) ≡ 0
  unfolding refusal
  lent_unrefused = (or_else-none (first_of (H.flaws m.memory)) _ z).0

  -- nor for its line, buffer or n
  pub none-refused : first_of (call_flaws (H.memory.size m.memory) call) ≡ 0
  unfolding refusal
  none-refused =
      let own = first_of (call_flaws (H.memory.size m.memory) call) in
      let r = first_of (record_flaws m.processor) in
      (or_else-none r own (or_else-none (first_of (H.flaws m.memory)) (or_else r own) z).1).1

-- The loop of run: what is done after i steps, and what is still to do.
use Prim.Native.Nat.{ℕ, suc, ◌+◌, ◌-◌, ◌*◌, ◌/◌, ◌≤◌, ◌<◌}
use native.Mathlib.Omega.{arith}
use mathlib.Core.Path.{◌≡◌, sym, ap, ◌∙◌}
use mathlib.Core.Bool.{true, false}
use mathlib.Core.List.{List, [], ◌++◌}
use lib.ListN.{length}
use lib.Dec.{eqb}
use borrow.Author.Tests.{eq-eqb, ne_eqb}
use Rattle.model.specs.Log.{Note, Counts, no_counts, counts_of, plus}
use Rattle.model.specs.Requests.{Ran, perform}
use Rattle.model.specs.Cached.{Cached, cached}
use Rattle.model.proofs.Sums.{counts-append, plus_none, plus_assoc}
use Rattle.directory.specs.Direct.{direct}
use Rattle.directory.proofs.DirectLaws.{direct_laws}
use Rattle.keeps.proofs.Counts.{within-append}
use Rattle.keeps.proofs.Requests.{perform-good}
use Rattle.instructions.specs.Board.{document_board}
use Rattle.instructions.specs.Wishes.{grant}
use Rattle.instructions.specs.Step.{Stepped, fetch_wish, data_wish}
use Rattle.instructions.specs.Calls.{Machine, Result, cached_setup, step, run_from}
use Rattle.instructions.proofs.Phases.{fetch_phase, data_phase, phases}
use Rattle.sound.proofs.Programs.{fetch_fair, grant_sound}
use Rattle.sound.proofs.Bounds.{any_within}
use Rattle.ciphers.specs.Cipher.{aes_cipher}
use Rattle.ciphers.proofs.Laws.{aes_laws}
use Rattle.cache.specs.Lent.{Fit}
use Rattle.cache.proofs.Following.{Small}
use Rattle.cache.proofs.Everything.{plus_nothing}
use Rattle.machine.specs.Steps.{Steps}
use Rattle.machine.specs.Runs.{Runs, running}
use Rattle.machine.proofs.Stepping.{steps-fit}

-- what a step counts is small
pub step_small : (m m' : Machine Cached) (fault : ℕ) (k : Counts) → Fit m.memory
    → length m.memory.dir ≤ 64 → Steps m fault k m' → Small 130 k
unfolding step cached_setup cached document_board fetch_phase data_phase
step_small m m' fault k F h S =
    let s = m.memory in
    let M = length s.mem in
    let N = M / 64 in
    let C = cached aes_cipher direct in
    let A = perform C (grant (fetch_wish M m.processor)) s in
    let D = perform C (grant (data_wish document_board aes_cipher s.key M m.processor A.out)) A.state in
    let p : length A.state.dir ≡ length s.dir = (perform-good aes_cipher aes_laws direct direct_laws N
    (length s.dir) (grant (fetch_wish M m.processor)) s
    (grant_sound N (fetch_wish M m.processor) (fetch_fair N M m.processor F.mem)) F).places in
    let W = within-append 1 (length s.dir + 1) 1 (length A.state.dir + 1) A.log D.log
    (any_within aes_cipher direct (fetch_wish M m.processor) s)
    (any_within aes_cipher direct (data_wish document_board aes_cipher s.key M m.processor A.out) A.state)
    in
    let e : k ≡ counts_of (A.log ++ D.log) = S.counted ∙ ap (λ (z : Ran Stepped Cached). counts_of z.log)
    (phases C document_board aes_cipher s.key M m.processor s) in
    rw e
    (record {
      filled = omega (arith, W.filled);
      written = omega (arith, W.written, p);
      checked = omega (arith, W.filled, W.checked);
      made = omega (arith, W.written, W.made, p);
    })

-- a step, and then the others
module _ (j i : ℕ) (m m' : Machine Cached) (fault : ℕ) (e : Counts) (S : Steps m fault e m') where
  abbrev st : Ran Stepped Cached
  st = step document_board aes_cipher (cached_setup document_board aes_cipher) m

  next-is : record { processor = st.out.processor; memory = st.state } ≡ m'
  next-is = λ i. record { processor = sym S.processor i; memory = sym S.memory i }

  run_on : fault ≡ 0 → running (suc j) i m ≡ record {
    answer = (running j (i + 1) m').answer;
    steps =
        (running j (i + 1) m').steps;
    buffer = [];
    machine = (running j (i + 1) m').machine;
    log = st.log
        ++ (running j (i + 1) m').log;
  }
  unfolding run_from
  run_on z =
      let g : eqb st.out.fault 0 ≡ true = eq-eqb st.out.fault 0 (sym S.number ∙ z) in
      rw (g, next-is)

  run_stops : (fault ≡ 0 → ⊥) → running (suc j) i m ≡ record {
    answer = st.out.fault;
    steps = i + 1;
    buffer = [];
    machine = m';
    log = st.log ++ [];
  }
  unfolding run_from
  run_stops z =
      let g : eqb st.out.fault 0 ≡ false = ne_eqb st.out.fault 0 (λ q. z (S.number ∙ q)) in
      rw (g, next-is)

-- after i steps: the memory is fit, what was counted is small, and the whole run is what was done and what is to do
pub record Going (n i : ℕ) (m₀ m : Machine Cached) (k : Counts) : Type 0 where
  pub fit : Fit m.memory
  pub small : Small (i * 130) k
  pub number : (running n 0 m₀).answer ≡ (running (n - i) i m).answer
  pub done : (running n 0 m₀).steps ≡ (running (n - i) i m).steps
  pub machine : (running n 0 m₀).machine ≡ (running (n - i) i m).machine
  pub counted : counts_of (running n 0 m₀).log ≡ plus k (counts_of (running (n - i) i m).log)

pub going_none : (n : ℕ) (m : Machine Cached) → Fit m.memory → Going n 0 m m no_counts
unfolding no_counts
going_none n m F =
    let e : n - 0 ≡ n = omega arith in
    record {
      fit = F;
      small = record { filled = omega arith; written = omega arith; checked = omega arith; made = omega arith };
      number = rw e;
      done = rw e;
      machine = rw e;
      counted = rw e (sym (plus_none (counts_of (running n 0 m).log)));
    }

small_more : (i : ℕ) (j k r : Counts) → Small (i * 130) j → Small 130 k → r ≡ plus j k
    → Small ((i + 1) * 130) r
unfolding plus
small_more i j k r a b e =
    rw e
    (record {
      filled = omega (arith, a.filled, b.filled);
      written = omega (arith, a.written, b.written);
      checked = omega (arith, a.checked, b.checked);
      made = omega (arith, a.made, b.made);
    })

module _ (n i : ℕ) (m₀ m m' : Machine Cached) (fault : ℕ) (k e r : Counts) (h : i < n)
    (c : length m.memory.dir ≤ 64) (G : Going n i m₀ m k) (S : Steps m fault e m') (q : r ≡ plus k e)
  where
    abbrev j : ℕ
    j = n - (i + 1)

    left : n - i ≡ suc j
    left = omega arith

    small_now : Small ((i + 1) * 130) r
    small_now = small_more i k e r G.small (step_small m m' fault e G.fit c S) q

    sums : (rest : List Note) → plus k (counts_of ((st j i m m' fault e S).log ++ rest)) ≡ plus r (counts_of rest)
    sums rest =
        ap (plus k) (counts-append (st j i m m' fault e S).log rest)
        ∙ (sym (plus_assoc k (counts_of (st j i m m' fault e S).log) (counts_of rest))
        ∙ ap (λ (z : Counts). plus z (counts_of rest)) (ap (plus k) (sym S.counted) ∙ sym q))

    pub going_more : fault ≡ 0 → Going n (i + 1) m₀ m' r
    going_more z =
        let o : running (n - i) i m ≡ record {
          answer = (running j (i + 1) m').answer;
          steps =
              (running j (i + 1) m').steps;
          buffer = [];
          machine = (running j (i + 1) m').machine;
          log =
              (st j i m m' fault e S).log ++ (running j (i + 1) m').log;
        } = rw left (run_on j i m m' fault e S z) in
        record {
          fit = steps-fit m m' fault e G.fit S;
          small = small_now;
          number = G.number ∙ ap (λ (x : Result Cached). x.answer) o;
          done = G.done ∙ ap (λ (x : Result Cached). x.steps) o;
          machine = G.machine ∙ ap (λ (x : Result Cached). x.machine) o;
          counted = G.counted ∙ (ap (λ (x : Result Cached). plus k (counts_of x.log)) o
              ∙ sums (running j (i + 1) m').log);
        }

    pub going_stops : (fault ≡ 0 → ⊥) → Runs n m₀ fault (i + 1) r m'
    unfolding counts_of
    going_stops z =
        let o : running (n - i) i m ≡ record {
          answer = (st j i m m' fault e S).out.fault;
          steps = i + 1;
          buffer = [];
          machine = m';
          log = (st j i m m' fault e S).log ++ [];
        } = rw left (run_stops j i m m' fault e S z) in
        record {
          number = S.number ∙ sym (G.number ∙ ap (λ (x : Result Cached). x.answer) o);
          done = sym (G.done ∙ ap (λ (x : Result Cached). x.steps) o);
          machine = sym (G.machine ∙ ap (λ (x : Result Cached). x.machine) o);
          counted = sym (G.counted ∙ (ap (λ (x : Result Cached). plus k (counts_of x.log)) o
              ∙ (sums [] ∙ plus_nothing r)));
        }

pub going_all : (n i : ℕ) (m₀ m : Machine Cached) (k : Counts) → i ≡ n → Going n i m₀ m k
    → Runs n m₀ 0 n k m
unfolding run_from counts_of
going_all n i m₀ m k h G =
    let e : n - i ≡ 0 = omega arith in
    record {
      number = sym (rw e at G.number);
      done = sym (rw e at G.done ∙ h);
      machine = sym (rw e at G.machine);
      counted = sym (rw e at G.counted ∙ plus_nothing k);
    }

-- A memory runs an instruction in two phases, the fetch and the data access, and the rest is pure.
use Prim.Native.Nat.{ℕ}
use mathlib.Core.Path.{◌≡◌, ap, ◌∙◌}
use mathlib.Core.List.{List, ◌++◌, append-nil}
use Rattle.model.specs.Cipher.{Cipher}
use Rattle.model.specs.Log.{Note}
use Rattle.model.specs.Requests.{Prog, ret, and_then, Memory, Ran, perform}
use Rattle.model.proofs.Perform.{followed, perform_then}
use Rattle.instructions.specs.Board.{Board}
use Rattle.instructions.specs.Record.{Processor}
use Rattle.instructions.specs.Wishes.{Got, grant}
use Rattle.instructions.specs.Step.{Stepped, fetch_wish, data_wish, finished, instruction}

module _ {S : Type 0} (M : Memory S) (B : Board) (c : Cipher) (key : List ℕ) (size : ℕ) (r : Processor) (s : S)
  where
    -- the first phase: the fetch
    unfoldable pub fetch_phase : Ran Got S
    fetch_phase = perform M (grant (fetch_wish size r)) s

    -- the second phase: the data access
    unfoldable pub data_phase : Ran Got S
    data_phase = perform M (grant (data_wish B c key size r fetch_phase.out)) fetch_phase.state

    pub phases : perform M (instruction B c key size r) s ≡ record {
      out = finished B c key size r fetch_phase.out data_phase.out;
      state = data_phase.state;
      log = fetch_phase.log ++ data_phase.log;
    }
    unfolding instruction fetch_phase data_phase followed perform
    phases =
        let f : Got → Prog Stepped =
        λ got. and_then (grant (data_wish B c key size r got)) (λ data'. ret (finished B c key size r got data')) in
        let a = perform M (grant (fetch_wish size r)) s in
        let b = perform M (grant (data_wish B c key size r a.out)) a.state in
        let last : Got → Prog Stepped = λ data'. ret (finished B c key size r a.out data') in
        perform_then M (grant (fetch_wish size r)) f s
        ∙ (ap (followed a) (perform_then M (grant (data_wish B c key size r a.out)) last a.state)
        ∙ ap (λ (l : List Note). record {
          out = finished B c key size r a.out b.out;
          state = b.state;
          log = a.log ++ l;
        }) (append-nil b.log))

-- One instruction: fetch, decode, data access, effect. A fault leaves undone what the instruction would have done.
use Rattle.std.specs.Prelude.{ℕ, true, false, List, [], ◌∷◌, eqb}
use Rattle.lists.specs.If.{if}
use Rattle.model.specs.Tags.{no_tag, secure_instruction, secure_data}
use Rattle.model.specs.Cipher.{Cipher}
use Rattle.model.specs.Requests.{Prog, ret, and_then}
use Rattle.instructions.specs.Rules.{pick}
use Rattle.instructions.specs.Board.{Board}
use Rattle.instructions.specs.Record.{Processor}
use Rattle.instructions.specs.Fields.{opcode}
use Rattle.instructions.specs.Operations.{Ra, Rb, two_words, address, executed}
use Rattle.instructions.specs.Suspend.{entered, returned}
use Rattle.instructions.specs.Faults.{fetch_fault, decode_fault, late_fault}
use Rattle.instructions.specs.Wishes.{Wish, idle, word, new_key, Got, grant}

-- the fetch by its fault, the mode and pc: nothing where it faulted, and otherwise the instruction word at pc, as
-- signed code in active mode
unfoldable pub fetch_of : ℕ → ℕ → ℕ → Wish
fetch_of fault mode pc = if (eqb fault 0) (word (if (eqb mode 1) secure_instruction no_tag) pc 4 false 0) idle

-- the fetch of a step
unfoldable pub fetch_wish : ℕ → Processor → Wish
fetch_wish M r = fetch_of (fetch_fault M r) r.cem.mode r.pc

-- the fault that is known once the fetch has answered: its own, 4 where the line's MAC failed, or what decoding finds
unfoldable pub known_fault : Board → ℕ → Processor → Got → ℕ
known_fault B M r got =
    if (eqb (fetch_fault M r) 0) (if got.failed 4 (decode_fault B M r got.number)) (fetch_fault M r)

-- the data accesses by opcode, at address a, of the words x and y in Ra and Rb: load and store as the line stands,
-- drk.set's new key, secure_load and secure_store on protected lines
abbrev pub wishes : Board → ℕ → ℕ → ℕ → List (ℕ × Wish)
wishes B a x y =
    (10, word no_tag a B.word_bytes false 0)
    ∷ (11, word no_tag a B.word_bytes true x)
    ∷ (32, new_key (two_words x y))
    ∷ (41, word secure_data a B.word_bytes false 0)
    ∷ (42, word secure_data a B.word_bytes true x)
    ∷ []

-- the data access of an instruction with nothing amiss, under a DRK
unfoldable pub wish_for : Board → Cipher → List ℕ → Processor → ℕ → Wish
wish_for B c key r w = pick (opcode w) (wishes B (address B r w) (Ra r w) (Rb r w)) idle

-- the data access of a step, its fetch having answered
unfoldable pub data_wish : Board → Cipher → List ℕ → ℕ → Processor → Got → Wish
data_wish B c key M r got = if (eqb (known_fault B M r got) 0) (wish_for B c key r got.number) idle

-- the fault of the step, 0 for none, and the record after it
pub record Stepped : Type 0 where
  pub fault : ℕ
  pub processor : Processor

-- the end of the step: a fault is entered, rfi returns, any other instruction has its effect
unfoldable pub finished : Board → Cipher → List ℕ → ℕ → Processor → Got → Got → Stepped
finished B c key M r got data' =
    let w = got.number in
    let known = known_fault B M r got in
    let fault = if (eqb known 0) (late_fault B c key r w data'.failed) known in
    let done = if (eqb (opcode w) 16) (returned B c key r) (executed B c key r w data'.number) in
    record {
      fault = fault;
      processor = if (eqb fault 0) done (entered B c key fault r);
    }

-- one instruction as a program of requests, under a DRK, on a memory of M bytes
unfoldable pub instruction : Board → Cipher → List ℕ → ℕ → Processor → Prog Stepped
instruction B c key M r =
    and_then (grant (fetch_wish M r))
    (λ got. and_then (grant (data_wish B c key M r got)) (λ data'. ret (finished B c key M r got data')))

-- What the machine asks of its memory, programs of such requests, and any memory that can answer them.
use Rattle.std.specs.Prelude.{ℕ, Bool, List, [], ◌++◌}
use Rattle.std.proofs.Math.Option.{Option}
use Rattle.model.specs.Tags.{Tag}
use Rattle.model.specs.Log.{Note}

-- a request to the memory
pub data Request : Type 0 where
  -- the 64 bytes of line n as the tag sees them; where the test says so, they are then changed
  access : Tag → ℕ → Bool → (List ℕ → List ℕ) → Request
  -- drop line n from the cache
  evict : ℕ → Request
  -- a line read over the bus
  bus_read : ℕ → Request
  -- a line written over the bus
  bus_write : ℕ → List ℕ → Request
  -- a MAC entry written over the bus
  bus_mac : ℕ → List ℕ → Request
  -- write back and empty everything
  write_back : Request
  -- write back and empty everything, then take another DRK
  rekey : List ℕ → Request

-- the answer to a request: bytes, or none where a check failed
abbrev pub Reply : Type 0
Reply = Option (List ℕ)

-- a program of requests: it ends with a result, or asks and goes on with the reply
pub data Prog (Out : Type 0) : Type 0 where
  ret : Out → Prog Out
  ask : Request → (Reply → Prog Out) → Prog Out

-- one program, and then another that uses its result
unfoldable pub and_then : {A B : Type 0} → Prog A → (A → Prog B) → Prog B
and_then (ret a) f = f a
and_then (ask q k) f = ask q (λ r. and_then (k r) f)

-- what a memory does at a request: its reply, its next state, and the notes of what it did
pub record Handled (S : Type 0) : Type 0 where
  pub reply : Reply
  pub state : S
  pub log : List Note

-- a memory: where its state has the DRK, how many bytes of memory it has, how it handles each request, and what a power
-- cut leaves of it
pub record Memory (S : Type 0) : Type 0 where
  pub key : S → List ℕ
  pub size : S → ℕ
  pub handle : Request → S → Handled S
  pub cut : S → S

-- the result of a program with the memory's next state and the notes of all that was done, in order
pub record Ran (Out S : Type 0) : Type 0 where
  pub out : Out
  pub state : S
  pub log : List Note

-- a memory runs a program
unfoldable pub perform : {Out S : Type 0} → Memory S → Prog Out → S → Ran Out S
perform m (ret o) s = record { out = o; state = s; log = [] }
perform m (ask q k) s =
    let h = m.handle q s in
    let r = perform m (k h.reply) h.state in
    record { out = r.out; state = r.state; log = h.log ++ r.log }

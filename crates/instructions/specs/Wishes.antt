-- What a step may wish of the memory: nothing, a word of a line, or another key; each wish is a program of requests.
use Rattle.std.specs.Prelude.{ℕ, ◌/◌, ◌%◌, Bool, true, false, List}
use Rattle.std.proofs.Math.Option.{none, some}
use Rattle.lists.specs.Parts.{part_at, put_at}
use Rattle.lists.specs.Words.{little, little_bytes}
use Rattle.model.specs.Tags.{Tag}
use Rattle.model.specs.Requests.{Reply, Prog, ret, ask, access, rekey}

-- a wish
pub data Wish : Type 0 where
  -- nothing
  idle : Wish
  -- under the tag, the number in the k bytes at an address; where the test says so, the given number is written there
  word : Tag → ℕ → ℕ → Bool → ℕ → Wish
  -- everything written back and emptied, then another DRK
  new_key : List ℕ → Wish

-- what came of a wish: did the line's check fail, and the number that stood there (0 where there is none)
pub record Got : Type 0 where
  pub failed : Bool
  pub number : ℕ

-- the number in the k bytes at an address of the line that was answered, if one was
unfoldable pub got_from : ℕ → ℕ → Reply → Got
got_from a k none = record { failed = true; number = 0 }
got_from a k (some line) = record { failed = false; number = little (part_at (a % 64) k line) }

-- a wish as a program
unfoldable pub grant : Wish → Prog Got
grant idle = ret (record { failed = false; number = 0 })
grant (word tag a k write v) =
    ask (access tag (a / 64) write (put_at (a % 64) k (little_bytes k v))) (λ reply. ret (got_from a k reply))
grant (new_key key) = ask (rekey key) (λ reply. ret (record { failed = false; number = 0 }))

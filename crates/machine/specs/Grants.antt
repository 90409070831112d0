-- What a memory phase promises: what the cached memory makes of a wish, its counts being the sums over the notes.
use Rattle.std.specs.Prelude.{ℕ, ◌+◌, ◌*◌, ◌/◌, ◌%◌, ◌<◌, ◌≤◌, ◌≡◌, Bool, true, List, Option, Some, None}
use Rattle.lists.specs.Parts.{part_at, put_at}
use Rattle.lists.specs.Words.{little, little_bytes}
use Rattle.model.specs.Tags.{Tag}
use Rattle.model.specs.Log.{Counts, counts_of}
use Rattle.model.specs.Placement.{holding}
use Rattle.model.specs.Requests.{perform}
use Rattle.model.specs.Cached.{Cached, cached}
use Rattle.directory.specs.Direct.{direct}
use Rattle.instructions.specs.Wishes.{Wish, grant}
unfoldable pub use Rattle.instructions.specs.Step.{fetch_of}
use Rattle.ciphers.specs.Cipher.{aes_cipher}

-- did the line's check fail, the number that stood there, the counts and the next memory
pub record Grants (wish : Wish) (s : Cached) (failed : Bool) (number : ℕ) (k : Counts) (t : Cached) : Type 0 where
  pub missed : failed ≡ (perform (cached aes_cipher direct) (grant wish) s).out.failed
  pub found : number ≡ (perform (cached aes_cipher direct) (grant wish) s).out.number
  pub counted : k ≡ counts_of (perform (cached aes_cipher direct) (grant wish) s).log
  pub left : t ≡ (perform (cached aes_cipher direct) (grant wish) s).state

-- the same but for the key, which the code keeps in its record: the buffers are those of the next memory
pub record Obtains (wish : Wish) (s : Cached) (failed : Bool) (number : ℕ) (k : Counts)
    (mem macs cache dir : List ℕ) : Type 0 where
  pub grants : Grants wish s failed number k
      (record {
        key = (perform (cached aes_cipher direct) (grant wish) s).state.key;
        mem = mem;
        macs = macs;
        cache = cache;
        dir = dir;
      })

-- k bytes at an address lie in one line of a memory of M bytes
pub record Inside (a k M : ℕ) : Type 0 where
  pub line : a / 64 < M / 64
  pub place : a % 64 + k ≤ 64

-- bytes with another word at a place of them, where one is given
abbrev pub with_word : ℕ → Option ℕ → List ℕ → List ℕ
with_word at None bytes = bytes
with_word at (Some value) bytes = put_at at 8 (little_bytes 8 value) bytes

-- a directory whose slot holds line n dirty under a tag, where a word was given
abbrev pub with_mark : ℕ → Tag → ℕ → Option ℕ → List ℕ → List ℕ
with_mark slot tag n None dir = dir
with_mark slot tag n (Some value) dir = direct.put dir slot (holding n tag true)

-- the word at a place of a slot is read and, where another is given, that one is written, which makes the slot dirty
pub record Touches (slot at : ℕ) (tag : Tag) (n : ℕ) (store : Option ℕ) (r : ℕ) (cache dir cache' dir' : List ℕ)
    : Type 0 where
  pub number : r ≡ little (part_at (slot * 64 + at) 8 cache)
  pub bytes : cache' ≡ with_word (slot * 64 + at) store cache
  pub marks : dir' ≡ with_mark slot tag n store dir

-- What a function on the lent buffers promises: it does what the cached memory does, and its counts are the sums over
-- the notes.
use Rattle.std.specs.Prelude.{ℕ, ◌≡◌, Bool, List}
use Rattle.model.specs.Tags.{Tag}
use Rattle.model.specs.Lines.{line_at, put_line, mac_at, put_mac, stored, signed}
use Rattle.model.specs.Log.{Counts, counts_of}
use Rattle.model.specs.Cached.{Cached, Did, lose_place, lose_all}
use Rattle.directory.specs.Direct.{direct}
use Rattle.ciphers.specs.Cipher.{aes_cipher}

-- the answer, the counts and the next memory are those of what the memory does
pub record Does (d : Did) (ok : Bool) (k : Counts) (s : Cached) : Type 0 where
  pub answer : ok ≡ d.ok
  pub counted : k ≡ counts_of d.log
  pub left : s ≡ d.state

-- a slot's line is on its way home: memory has it as it is stored, the MAC area has its MAC, and the slot holds what is
-- stored
pub record WrittenBack (t : Tag) (key : List ℕ) (n slot : ℕ)
    (mem macs cache mem' macs' cache' : List ℕ) : Type 0 where
  pub memory : mem' ≡ put_line n (stored aes_cipher t key n (line_at slot cache)) mem
  pub area : macs' ≡ put_mac n (signed aes_cipher t key n (stored aes_cipher t key n (line_at slot cache))
      (mac_at n macs)) macs
  pub slots : cache' ≡ put_line slot (stored aes_cipher t key n (line_at slot cache)) cache

-- cache bytes and directory after a slot was lost, whatever key and memory stand beside them
pub record Loses (p : ℕ) (cache dir cache' dir' : List ℕ) : Type 0 where
  pub left : (key mem macs : List ℕ) → record {
    key = key;
    mem = mem;
    macs = macs;
    cache = cache';
    dir =
        dir';
  } ≡ lose_place direct p (record { key = key; mem = mem; macs = macs; cache = cache; dir = dir })

-- the same after every slot was lost
pub record LosesAll (cache dir cache' dir' : List ℕ) : Type 0 where
  pub left : (key mem macs : List ℕ) → record {
    key = key;
    mem = mem;
    macs = macs;
    cache = cache';
    dir =
        dir';
  } ≡ lose_all direct (record { key = key; mem = mem; macs = macs; cache = cache; dir = dir })

-- What a transfer over the bus promises: what the cached memory of the model makes of the request, its counts being the
-- sums over the notes.
use Rattle.std.specs.Prelude.{◌≡◌, List, ℕ}
use Rattle.std.specs.Borrow.{MutBor}
use denote.Triple.Both.{Both}
use Rattle.model.specs.Log.{Counts, counts_of}
use Rattle.model.specs.Requests.{Request, Reply}
use Rattle.model.specs.Cached.{Cached, cached_handle}
use Rattle.directory.specs.Direct.{direct}
use Rattle.ciphers.specs.Cipher.{aes_cipher}
use Rattle.cache.specs.Lent.{lent}

-- The reply, the counts and the next memory are those of the request.
pub record Handles (q : Request) (s : Cached) (reply : Reply) (k : Counts) (t : Cached) : Type 0 where
  pub answered : reply ≡ (cached_handle aes_cipher direct q s).reply
  pub counted : k ≡ counts_of (cached_handle aes_cipher direct q s).log
  pub left : t ≡ (cached_handle aes_cipher direct q s).state

-- A lent slice, on entry and at exit.
abbrev Slice : Type 0
Slice = Both (MutBor (List ℕ)) (MutBor (List ℕ))

-- The memory that a call finds in its slices, under the DRK in two words, and the one that it leaves in them.
abbrev pub before : ℕ → ℕ → Slice → Slice → Slice → Slice → Cached
before hi lo mem macs cache dir = lent hi lo mem.entry.now macs.entry.now cache.entry.now dir.entry.now

abbrev pub after : ℕ → ℕ → Slice → Slice → Slice → Slice → Cached
after hi lo mem macs cache dir = lent hi lo mem.exit.now macs.exit.now cache.exit.now dir.exit.now

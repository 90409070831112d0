-- When a cached memory and the manual's memory agree: the invariant that demand 3 needs, said line by line.
use Rattle.std.specs.Prelude.{ℕ, ◌*◌, ◌<◌, ◌≡◌, true, false, List, length}
use Rattle.lists.specs.If.{if}
use Rattle.lists.specs.Bytes.{Bytes}
use Rattle.model.specs.Cipher.{Cipher}
use Rattle.model.specs.CipherLaws.{Sized}
use Rattle.model.specs.Lines.{line_at, mac_at, seen, stored, signed, passes}
use Rattle.model.specs.Placement.{Entry, Placement}
use Rattle.model.specs.PlacementLaws.{PlacementLaws}
use Rattle.model.specs.Uncached.{Uncached}
use Rattle.model.specs.Cached.{Cached}
use Rattle.keeps.specs.Good.{Good}

-- A held line, from its entry, the manual's line and MAC, the cached memory's line and MAC, and the slot's bytes:
-- the manual has what a write-back would leave, that passes the entry's check, and the slot has what the tag sees of
-- it.
pub record Held (c : Cipher) (key : List ℕ) (e : Entry) (line mac home home_mac body : List ℕ) : Type 0 where
  pub lines : line ≡ if e.dirty (stored c e.tag key e.line body) home
  pub macs : mac ≡ if e.dirty (signed c e.tag key e.line (stored c e.tag key e.line body) home_mac)
      home_mac
  pub checked : passes c e.tag key e.line line mac ≡ true
  pub viewed : body ≡ seen c e.tag key e.line line

-- no place holds line n
pub record Free (P : Placement) (dir : List ℕ) (n : ℕ) : Type 0 where
  pub nowhere : (p : ℕ) → p < length dir → (P.look dir p).used ≡ true → (P.look dir p).line ≡ n → ⊥

-- a line that no place holds is the same in both
pub record Same (n : ℕ) (u : Uncached) (s : Cached) : Type 0 where
  pub lines : line_at n u.mem ≡ line_at n s.mem
  pub macs : mac_at n u.macs ≡ mac_at n s.macs

-- every place is empty
pub record AllEmpty (P : Placement) (dir : List ℕ) : Type 0 where
  pub unused : (p : ℕ) → p < length dir → (P.look dir p).used ≡ false

-- what the entry e at place p must satisfy
abbrev pub HeldAt : Cipher → Entry → ℕ → Uncached → Cached → Type 0
HeldAt c e p u s =
    Held c s.key e (line_at e.line u.mem) (mac_at e.line u.macs) (line_at e.line s.mem)
    (mac_at e.line s.macs) (line_at p s.cache)

-- the two memories, of N lines and with C slots in the cache, agree
pub record Agree (c : Cipher) (P : Placement) (L : PlacementLaws P) (N C : ℕ) (u : Uncached) (s : Cached) : Type 0
  where
    pub keys : u.key ≡ s.key
    pub key : Sized 16 s.key
    pub plain_mem : Sized (N * 64) u.mem
    pub plain_macs : length u.macs ≡ N * 16
    pub bytes : Bytes s.mem
    pub good : Good P L N C s
    pub held : (p : ℕ) → p < length s.dir → (P.look s.dir p).used ≡ true
        → HeldAt c (P.look s.dir p) p u s
    pub free : (n : ℕ) → n < N → Free P s.dir n → Same n u s

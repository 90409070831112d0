-- What a tag makes of a line is a line again, what was stored is seen again, and what was signed passes.
use Prim.Native.Nat.{ℕ, ◌*◌, ◌<◌}
use mathlib.Core.Path.{◌≡◌, refl}
use mathlib.Core.Bool.{true, false≢true}
use mathlib.Core.List.{List}
use lib.ListN.{length}
use Rattle.lists.proofs.ByteLaws.{bytes_part, same_refl}
use Rattle.lists.proofs.NthLaws.{nth_length}
use Rattle.model.specs.Tags.{Tag, no_tag, secure_instruction, secure_data, same_tag}
use Rattle.model.specs.Cipher.{Cipher}
use Rattle.model.specs.CipherLaws.{Sized, CipherLaws}
use Rattle.model.specs.Lines.{line_at, mac_at, seen, stored, signed, passes}

-- a line of a memory of bytes is 64 bytes
pub line-sized : (N n : ℕ) (m : List ℕ) → Sized (N * 64) m → n < N → Sized 64 (line_at n m)
unfolding line_at
line-sized N n m z h = record { size = nth_length 64 N m z.size n h; bytes = bytes_part (n * 64) 64 m z.bytes }

-- a line of memory, or a slot of the cache, has 64 bytes
pub line-length : (N n : ℕ) (m : List ℕ) → length m ≡ N * 64 → n < N → length (line_at n m) ≡ 64
unfolding line_at
line-length N n m z h = nth_length 64 N m z n h

-- an entry of the MAC area has 16 bytes
pub mac-length : (N n : ℕ) (m : List ℕ) → length m ≡ N * 16 → n < N → length (mac_at n m) ≡ 16
unfolding mac_at
mac-length N n m z h = nth_length 16 N m z n h

-- equal tags test as one, and only they
pub same_tag_refl : (t : Tag) → same_tag t t ≡ true
unfolding same_tag
same_tag_refl no_tag = refl
same_tag_refl secure_instruction = refl
same_tag_refl secure_data = refl

pub same_tag_true : (t u : Tag) → same_tag t u ≡ true → t ≡ u
unfolding same_tag
same_tag_true no_tag no_tag e = refl
same_tag_true no_tag secure_instruction e = absurd (false≢true e)
same_tag_true no_tag secure_data e = absurd (false≢true e)
same_tag_true secure_instruction no_tag e = absurd (false≢true e)
same_tag_true secure_instruction secure_instruction e = refl
same_tag_true secure_instruction secure_data e = absurd (false≢true e)
same_tag_true secure_data no_tag e = absurd (false≢true e)
same_tag_true secure_data secure_instruction e = absurd (false≢true e)
same_tag_true secure_data secure_data e = refl

-- sizes from sizes
module _ (c : Cipher) (CL : CipherLaws c) (key : List ℕ) (n : ℕ) where
  pub seen-length : (t : Tag) (l : List ℕ) → length l ≡ 64 → length (seen c t key n l) ≡ 64
  unfolding seen
  seen-length no_tag l z = z
  seen-length secure_instruction l z = z
  seen-length secure_data l z = CL.decipher-length key (n * 64) l z

  pub stored-length : (t : Tag) (l : List ℕ) → length l ≡ 64 → length (stored c t key n l) ≡ 64
  unfolding stored
  stored-length no_tag l z = z
  stored-length secure_instruction l z = z
  stored-length secure_data l z = CL.encipher-length key (n * 64) l z

  pub signed-length : (t : Tag) (l m : List ℕ) → length l ≡ 64 → length m ≡ 16
      → length (signed c t key n l m) ≡ 16
  unfolding signed
  signed-length no_tag l m z h = h
  signed-length secure_instruction l m z h = h
  signed-length secure_data l m z h = CL.data_mac-length key (n * 64) l z

  pub passes-signed : (t : Tag) (l m : List ℕ) → (t ≡ secure_instruction → ⊥)
      → passes c t key n l (signed c t key n l m) ≡ true
  unfolding passes signed
  passes-signed no_tag l m h = refl
  passes-signed secure_instruction l m h = absurd (h refl)
  passes-signed secure_data l m h = same_refl (c.data_mac key (n * 64) l)

-- bytes from bytes
module _ (c : Cipher) (CL : CipherLaws c) (key : List ℕ) (k : Sized 16 key) (n : ℕ) where
  pub seen-sized : (t : Tag) (l : List ℕ) → Sized 64 l → Sized 64 (seen c t key n l)
  unfolding seen
  seen-sized no_tag l z = z
  seen-sized secure_instruction l z = z
  seen-sized secure_data l z = record {
    size = CL.decipher-length key (n * 64) l z.size;
    bytes =
        CL.decipher-bytes key (n * 64) l k z;
  }

  pub stored-sized : (t : Tag) (l : List ℕ) → Sized 64 l → Sized 64 (stored c t key n l)
  unfolding stored
  stored-sized no_tag l z = z
  stored-sized secure_instruction l z = z
  stored-sized secure_data l z = record {
    size = CL.encipher-length key (n * 64) l z.size;
    bytes =
        CL.encipher-bytes key (n * 64) l k z;
  }

  pub seen_stored : (t : Tag) (l : List ℕ) → Sized 64 l → seen c t key n (stored c t key n l) ≡ l
  unfolding seen stored
  seen_stored no_tag l z = refl
  seen_stored secure_instruction l z = refl
  seen_stored secure_data l z = CL.decipher-encipher key (n * 64) l k z

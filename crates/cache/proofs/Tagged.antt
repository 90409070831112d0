-- What goes home and what is brought under a tag, and what each counts.
use Prim.Native.Nat.{ℕ, ◌+◌, ◌*◌, ◌≤◌}
use native.Mathlib.Omega.{arith}
use mathlib.Core.Path.{◌≡◌, refl, sym, ap, ◌∙◌}
use mathlib.Core.Bool.{Bool, true, false, false≢true}
use mathlib.Core.List.{List, [], ◌∷◌}
use lib.ListN.{length}
use Rattle.lists.specs.If.{if}
use Rattle.lists.specs.Parts.{part_at}
use Rattle.lists.proofs.PartLaws.{put_part, part_put, put-put, length_part}
use Rattle.model.specs.Tags.{Tag, no_tag, secure_instruction, secure_data, is_data, is_checked}
use Rattle.model.specs.Lines.{line_at, put_line, mac_at, put_mac, seen, stored, signed}
use Rattle.model.specs.Log.{Note, counts_of}
use Rattle.model.proofs.Sums.{counts-evicted, counts-filled}
use Rattle.sealing.specs.Lines.{enciphered, deciphered, data_mac}
use Rattle.ciphers.specs.Cipher.{aes_cipher}
use Rattle.ciphers.proofs.Laws.{aes_laws}
use Rattle.cache.specs.Does.{WrittenBack}

-- the tag of a sealed line is Secure Data, and what holds of the two others holds of any but that
data_tag : (t : Tag) (b : Bool) → b ≡ is_data t → b ≡ true → t ≡ secure_data
unfolding is_data
data_tag no_tag b e h = absurd (false≢true (sym e ∙ h))
data_tag secure_instruction b e h = absurd (false≢true (sym e ∙ h))
data_tag secure_data b e h = refl

but_data : (P : Tag → Type 0) (t : Tag) (b : Bool) → b ≡ is_data t → b ≡ false → P no_tag → P secure_instruction → P t
unfolding is_data
but_data P no_tag b e h x y = x
but_data P secure_instruction b e h x y = y
but_data P secure_data b e h x y = absurd (false≢true (sym h ∙ e))

-- a line brought under the tag
pub brought_data : (t : Tag) (n p : ℕ) (key m l r s : List ℕ) (b : Bool) → b ≡ is_data t → b ≡ true
    → p * 64 + 64 ≤ length l
    → n * 64 + 64 ≤ length m → r ≡ put_line p (line_at n m) l
    → s ≡ put_line p (deciphered key (n * 64) (line_at p r)) r
    → s ≡ put_line p (seen aes_cipher t key n (line_at n m)) l
unfolding put_line line_at seen aes_cipher
brought_data t n p key m l r s b is h hp hn a d =
    let x = part_at (n * 64) 64 m in
    let z : length x ≡ 64 = length_part (n * 64) 64 m hn in
    d
    ∙ (rw (
      a,
      data_tag t b is h,
      part_put (p * 64) 64 x l z (omega arith),
      put-put (p * 64) 64 x (deciphered key (n * 64) x) l z (omega arith),
    ))

pub brought_plain : (t : Tag) (n p : ℕ) (key m l r : List ℕ) (b : Bool) → b ≡ is_data t → b ≡ false
    → r ≡ put_line p (line_at n m) l
    → r ≡ put_line p (seen aes_cipher t key n (line_at n m)) l
unfolding seen
brought_plain t n p key m l r b is h a =
    but_data (λ tag. r ≡ put_line p (seen aes_cipher tag key n (line_at n m)) l) t b is h a a

-- a line gone home
pub home_data : (t : Tag) (n p : ℕ) (key mem macs cache mem' macs' cache' : List ℕ) (b : Bool) → b ≡ is_data t
    → b ≡ true
    → p * 64 + 64 ≤ length cache → cache' ≡ put_line p (enciphered key (n * 64) (line_at p cache)) cache
    → macs' ≡ put_mac n (data_mac key (n * 64) (line_at p cache')) macs
    → mem' ≡ put_line n (line_at p cache') mem → WrittenBack t key n p mem macs cache mem' macs' cache'
unfolding line_at put_line stored signed aes_cipher
home_data t n p key mem macs cache mem' macs' cache' b is h hp a m d =
    let y = part_at (p * 64) 64 cache in
    let x = enciphered key (n * 64) y in
    let w : length y ≡ 64 = length_part (p * 64) 64 cache hp in
    let z : length x ≡ 64 = aes_laws.encipher-length key (n * 64) y w in
    let g : part_at (p * 64) 64 cache' ≡ x = ap (part_at (p * 64) 64) a
    ∙ part_put (p * 64) 64 x cache z (omega arith) in
    rw (data_tag t b is h)
    (record {
      memory = d ∙ (rw g);
      area = m ∙ (rw g);
      slots = a;
    })

pub home-plain : (t : Tag) (n p : ℕ) (key mem macs cache mem' : List ℕ) (b : Bool) → b ≡ is_data t → b ≡ false
    → mem' ≡ put_line n (line_at p cache) mem → WrittenBack t key n p mem macs cache mem' macs cache
unfolding stored signed line_at put_line mac_at put_mac
home-plain t n p key mem macs cache mem' b is h d =
    but_data (λ tag. WrittenBack tag key n p mem macs cache mem' macs cache) t b is h
    (record { memory = d; area = sym (put_part (n * 16) 16 macs); slots = sym (put_part (p * 64) 64 cache) })
    (record { memory = d; area = sym (put_part (n * 16) 16 macs); slots = sym (put_part (p * 64) 64 cache) })

-- a write-back counts a line written and, for a data line, a MAC made; a fill a line filled and, under a tag, a MAC
-- checked
pub counts-written : (t : Tag) (b r : Bool) → b ≡ is_data t → b ≡ r → (n : ℕ)
    → record { filled = 0; written = 1; checked = 0; made = if r 1 0 } ≡ counts_of (Note.evicted t n true ∷ [])
counts-written t b r e h n = rw (sym h ∙ e) (sym (counts-evicted t n))

pub counts_brought : (t : Tag) (b r : Bool) → b ≡ is_checked t → b ≡ r → (n : ℕ) (ok : Bool)
    → record { filled = 1; written = 0; checked = if r 1 0; made = 0 } ≡ counts_of (Note.filled t n ok ∷ [])
counts_brought t b r e h n ok = rw (sym h ∙ e) (sym (counts-filled t n ok))

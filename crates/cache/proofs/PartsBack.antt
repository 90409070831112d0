-- A part of a buffer that was lent and handed back, in the words of lines and MAC entries.
use Prim.Native.Nat.{ℕ, ◌+◌, ◌-◌, ◌*◌}
use native.Mathlib.Omega.{arith}
use mathlib.Core.Path.{◌≡◌, ap, ◌∙◌}
use mathlib.Core.Bool.{Bool}
use mathlib.Core.List.{List}
use lib.ListN.{take, drop}
use lib.Seq.{take-take}
use borrow.Rule.Slice.PartMut.{mid_of, put_mid}
use Rattle.lists.specs.Parts.{part_at, put_at}
use Rattle.lists.specs.Bytes.{zeros, same}
use Rattle.lists.proofs.PartLaws.{part_part}
use Rattle.model.specs.Tags.{secure_instruction, secure_data}
use Rattle.model.specs.Lines.{line_at, put_line, mac_at, put_mac, passes}
use Rattle.sealing.specs.Lines.{data_mac, code_mac}
use Rattle.ciphers.specs.Cipher.{aes_cipher}

-- the part from a to a + k
pub lent_part_lem : (a k : ℕ) (l : List ℕ) → mid_of a (a + k - a) l ≡ part_at a k l
unfolding part_at
lent_part_lem a k l =
    let e : a + k - a ≡ k = omega arith in
    rw e

pub part_back : (a k : ℕ) (x l : List ℕ) → put_mid a (a + k - a) l x ≡ put_at a k x l
unfolding put_at
part_back a k x l =
    let e : a + k - a ≡ k = omega arith in
    rw e

-- a copy over a whole part
pub copied : (a k : ℕ) (x l y : List ℕ) → y ≡ x → put_mid a (a + k - a) l y ≡ put_at a k x l
copied a k x l y e = rw e (part_back a k x l)

-- a slot's bytes changed in place
pub changed : (f : List ℕ → List ℕ) (p : ℕ) (l y : List ℕ)
    → y ≡ f (mid_of (p * 64) (p * 64 + 64 - p * 64) l) → put_mid (p * 64) (p * 64 + 64 - p * 64) l y ≡ put_line p
    (f (line_at p l)) l
unfolding put_line line_at
changed f p l y e = part_back (p * 64) 64 y l ∙ ap (λ (z : List ℕ). put_at (p * 64) 64 z l)
    (e ∙ ap f (lent_part_lem (p * 64) 64 l))

-- a line copied from another buffer
pub line-copied : (i j : ℕ) (m l y : List ℕ) → y ≡ mid_of (j * 64) (j * 64 + 64 - j * 64) m
    → put_mid (i * 64) (i * 64 + 64 - i * 64) l y ≡ put_line i (line_at j m) l
unfolding put_line line_at
line-copied i j m l y e =
    part_back (i * 64) 64 y l ∙ ap (λ (z : List ℕ). put_at (i * 64) 64 z l) (e ∙ lent_part_lem (j * 64) 64 m)

-- a line wiped
pub wiped : (i : ℕ) (l y : List ℕ) → y ≡ zeros 64 → put_mid (i * 64) (i * 64 + 64 - i * 64) l y ≡ put_line i (zeros 64) l
unfolding put_line
wiped i l y e = part_back (i * 64) 64 y l ∙ ap (λ (z : List ℕ). put_at (i * 64) 64 z l) e

-- a MAC entry made from a line
pub mac-put : (n p : ℕ) (key mac m l y : List ℕ)
    → mac ≡ data_mac key (n * 64) (mid_of (p * 64) (p * 64 + 64 - p * 64) m) → y ≡ mac
    → put_mid (n * 16) (n * 16 + 16 - n * 16) l y ≡ put_mac n (data_mac key (n * 64) (line_at p m)) l
unfolding put_mac line_at
mac-put n p key mac m l y e q =
    part_back (n * 16) 16 y l
    ∙ ap (λ (z : List ℕ). put_at (n * 16) 16 z l) (q ∙ (e ∙ ap (data_mac key (n * 64)) (lent_part_lem (p * 64) 64 m)))

-- the code bytes and the MAC of a code line
code_part : (n : ℕ) (m : List ℕ) → take 48 (part_at (n * 64) 64 m) ≡ part_at (n * 64) 48 m
unfolding part_at
code_part n m = take-take 48 64 (drop (n * 64) m) (omega arith)

mac_part : (n : ℕ) (m : List ℕ) → mid_of (n * 64 + 48) (n * 64 + 64 - (n * 64 + 48)) m ≡ part_at (n * 64 + 48) 16
    m
unfolding part_at
mac_part n m =
    let d : n * 64 + 64 - (n * 64 + 48) ≡ 16 = omega arith in
    rw d

-- the check of a code line
pub code_checked : (n : ℕ) (key mac m x : List ℕ) (r : Bool)
    → mac ≡ code_mac key (n * 64) (mid_of (n * 64) (n * 64 + 48 - n * 64) m)
    → r ≡ same mac (mid_of (n * 64 + 48) (n * 64 + 64 - (n * 64 + 48)) m)
    → r ≡ passes aes_cipher secure_instruction key n (line_at n m) x
unfolding passes aes_cipher line_at
code_checked n key mac m x r e q =
    q ∙ (rw (e, lent_part_lem (n * 64) 48 m, mac_part n m, code_part n m, part_part 48 16 (n * 64) 64 m (omega arith)))

-- the check of a data line
pub data_checked : (n : ℕ) (key mac m a : List ℕ) (r : Bool)
    → mac ≡ data_mac key (n * 64) (mid_of (n * 64) (n * 64 + 64 - n * 64) m)
    → r ≡ same mac (mid_of (n * 16) (n * 16 + 16 - n * 16) a) → r ≡ passes aes_cipher secure_data key n
    (line_at n m) (mac_at n a)
unfolding passes aes_cipher line_at mac_at
data_checked n key mac m a r e q = q ∙ (rw (e, lent_part_lem (n * 64) 64 m, lent_part_lem (n * 16) 16 a))

-- A number laid out as bytes has the right length, is made of bytes, and is read back as it was.
use Prim.Native.Nat.{ℕ, zero, suc, ◌+◌, ◌*◌, ◌/◌, ◌%◌, ◌^◌, ◌<◌}
use native.Mathlib.Nat.{pow-suc, div-lt_iff_lt-mul}
use native.Mathlib.Omega.{arith}
use mathlib.Core.Path.{◌≡◌, refl, ap, ◌∙◌, subst}
use mathlib.Core.List.{List, [], ◌∷◌, reverse, reverse_aux, reverse-reverse}
use lib.ListN.{length, length-reverse}
use Rattle.lists.specs.Bytes.{Bytes}
use Rattle.lists.specs.Words.{little, little_bytes, big, big_bytes}
use Rattle.lists.proofs.ByteLaws.{bytes-none, bytes_cons, bytes_head, bytes_tail}

pub length-little_bytes : (k n : ℕ) → length (little_bytes k n) ≡ k
unfolding little_bytes
length-little_bytes zero n = refl
length-little_bytes (suc k) n = ap suc (length-little_bytes k (n / 256))

pub bytes-little_bytes : (k n : ℕ) → Bytes (little_bytes k n)
unfolding little_bytes
bytes-little_bytes zero n = bytes-none
bytes-little_bytes (suc k) n = bytes_cons (n % 256) (little_bytes k (n / 256)) (omega arith)
    (bytes-little_bytes k (n / 256))

-- a number that fits k bytes is read back
pub little-little_bytes : (k n : ℕ) → n < 256 ^ k → little (little_bytes k n) ≡ n
unfolding little little_bytes
little-little_bytes zero n h = omega arith
little-little_bytes (suc k) n h =
    let e : little (little_bytes k (n / 256)) ≡ n / 256 =
    little-little_bytes k (n / 256) ((div-lt_iff_lt-mul (omega arith)).1 (subst (λ (z : ℕ). n < z) (pow-suc 256 k) h))
    in
    rw e (omega arith)

-- k bytes are a number below 256 ^ k
pub little-below : (l : List ℕ) → Bytes l → little l < 256 ^ length l
unfolding little
little-below [] b = omega arith
little-below (x ∷ l) b =
    let h : little l < 256 ^ length l = little-below l (bytes_tail x l b) in
    rw (pow-suc 256 (length l)) (omega (arith, bytes_head x l b))

-- bytes are read and laid out again as they were
pub little_bytes-little : (l : List ℕ) → Bytes l → little_bytes (length l) (little l) ≡ l
unfolding little little_bytes
little_bytes-little [] b = refl
little_bytes-little (x ∷ l) b =
    let h : x < 256 = bytes_head x l b in
    let q : (x + little l * 256) / 256 ≡ little l = omega arith in
    let r : (x + little l * 256) % 256 ≡ x = omega arith in
    rw (q, r) (ap (λ (z : List ℕ). x ∷ z) (little_bytes-little l (bytes_tail x l b)))

bytes_reverse_aux : (l r : List ℕ) → Bytes l → Bytes r → Bytes (reverse_aux l r)
bytes_reverse_aux [] r b c = c
bytes_reverse_aux (x ∷ l) r b c = bytes_reverse_aux l (x ∷ r) (bytes_tail x l b) (bytes_cons x r (bytes_head x l b) c)

pub bytes-reverse : (l : List ℕ) → Bytes l → Bytes (reverse l)
bytes-reverse l b = bytes_reverse_aux l [] b bytes-none

pub length-big_bytes : (k n : ℕ) → length (big_bytes k n) ≡ k
unfolding big_bytes
length-big_bytes k n = length-reverse (little_bytes k n) ∙ length-little_bytes k n

pub bytes-big_bytes : (k n : ℕ) → Bytes (big_bytes k n)
unfolding big_bytes
bytes-big_bytes k n = bytes-reverse (little_bytes k n) (bytes-little_bytes k n)

pub big-big_bytes : (k n : ℕ) → n < 256 ^ k → big (big_bytes k n) ≡ n
unfolding big big_bytes
big-big_bytes k n h = ap little (reverse-reverse (little_bytes k n)) ∙ little-little_bytes k n h

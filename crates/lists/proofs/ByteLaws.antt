-- Bytes stay bytes in parts, joins and puts.
use Prim.Native.Nat.{ℕ, zero, suc, ◌<◌}
use native.Mathlib.Omega.{arith}
use mathlib.Core.Path.{◌≡◌, refl, ap₂}
use mathlib.Core.Bool.{Bool, true, false, ◌&&◌, false≢true}
use borrow.Author.Tests.{eq-eqb, eqb-true}
use lib.Dec.{eqb}
use mathlib.Core.List.{List, [], ◌∷◌, ◌++◌}
use lib.ListN.{length, take, drop, get_or, replicate, length-replicate, get_or-replicate}
use Rattle.lists.specs.Parts.{part_at, put_at}
use Rattle.lists.specs.Bytes.{Bytes, zeros, same}

pub bytes-none : Bytes []
bytes-none = record { byte = λ i. omega arith }

-- a byte before bytes
pub bytes_cons : (x : ℕ) (l : List ℕ) → x < 256 → Bytes l → Bytes (x ∷ l)
bytes_cons x l h b = record { byte = go }
  where
    go : (i : ℕ) → get_or (x ∷ l) i 0 < 256
    go zero = h
    go (suc i) = b.byte i

pub bytes_head : (x : ℕ) (l : List ℕ) → Bytes (x ∷ l) → x < 256
bytes_head x l b = b.byte 0

pub bytes_tail : (x : ℕ) (l : List ℕ) → Bytes (x ∷ l) → Bytes l
bytes_tail x l b = record { byte = λ i. b.byte (suc i) }

pub bytes-append : (l r : List ℕ) → Bytes l → Bytes r → Bytes (l ++ r)
bytes-append [] r b c = c
bytes-append (x ∷ l) r b c = bytes_cons x (l ++ r) (bytes_head x l b) (bytes-append l r (bytes_tail x l b) c)

pub bytes_take : (n : ℕ) (l : List ℕ) → Bytes l → Bytes (take n l)
bytes_take zero l b = bytes-none
bytes_take (suc n) [] b = bytes-none
bytes_take (suc n) (x ∷ l) b = bytes_cons x (take n l) (bytes_head x l b) (bytes_take n l (bytes_tail x l b))

pub bytes_drop : (n : ℕ) (l : List ℕ) → Bytes l → Bytes (drop n l)
bytes_drop zero l b = b
bytes_drop (suc n) [] b = bytes-none
bytes_drop (suc n) (x ∷ l) b = bytes_drop n l (bytes_tail x l b)

pub bytes_part : (a k : ℕ) (l : List ℕ) → Bytes l → Bytes (part_at a k l)
unfolding part_at
bytes_part a k l b = bytes_take k (drop a l) (bytes_drop a l b)

pub bytes-put : (a k : ℕ) (x l : List ℕ) → Bytes x → Bytes l → Bytes (put_at a k x l)
unfolding put_at
bytes-put a k x l c b =
    bytes-append (take a l) (x ++ drop k (drop a l)) (bytes_take a l b)
    (bytes-append x (drop k (drop a l)) c (bytes_drop k (drop a l) (bytes_drop a l b)))

pub length-zeros : (k : ℕ) → length (zeros k) ≡ k
unfolding zeros
length-zeros k = length-replicate k 0

pub get_d_zeros : (k i : ℕ) → i < k → get_or (zeros k) i 0 ≡ 0
unfolding zeros
get_d_zeros k i h = get_or-replicate {A = ℕ} k i 0 0 h

pub bytes-zeros : (k : ℕ) → Bytes (zeros k)
unfolding zeros
bytes-zeros zero = bytes-none
bytes-zeros (suc k) = bytes_cons 0 (replicate k 0) (omega arith) (bytes-zeros k)

-- a list is the same as itself
pub same_refl : (l : List ℕ) → same l l ≡ true
unfolding same
same_refl [] = refl
same_refl (x ∷ l) = rw (eq-eqb x x refl) (same_refl l)

-- lists that test as the same are equal
pub same_true : (l r : List ℕ) → same l r ≡ true → l ≡ r
unfolding same
same_true [] [] e = refl
same_true [] (y ∷ r) e = absurd (false≢true e)
same_true (x ∷ l) [] e = absurd (false≢true e)
same_true (x ∷ l) (y ∷ r) e = go (eqb x y) refl e (same_true l r)
  where
    go : (b : Bool) → eqb x y ≡ b → (b && same l r) ≡ true → (same l r ≡ true → l ≡ r) → x ∷ l ≡ y
        ∷ r
    go true q h rest = ap₂ ◌∷◌ (eqb-true x y q) (rest h)
    go false q h rest = absurd (false≢true h)

-- A word of four or eight bytes, as std reads it and as std lays it down.
use Rattle.std.proofs.Common.{◌≡◌, ℕ, zero, suc, ◌+◌, ◌*◌, ◌/◌, ◌%◌, ◌^◌, ◌<◌, ◌≤◌, List, ◌∷◌, length, get_or, refl, sym, ap, ap₂, ◌∙◌, arith}
use Rattle.std.proofs.Math.Nat.{pow-suc, div-div-eq-div-mul}
use Rattle.std.proofs.Math.Seq.{drop-cons}
use Rattle.std.specs.Int.{byte_at, bytes_low_first}
use Rattle.lists.specs.Parts.{part_at, put_at}
use borrow.Rule.Slice.PartMut.{put_mid}
use Rattle.lists.specs.Words.{little, little_bytes}

-- the first byte of a part, and the rest of it
little_more : (k at next : ℕ) (l : List ℕ) → next ≡ suc at → at < length l
    → little (part_at at (suc k) l) ≡ get_or l at 0 + little (part_at next k l) * 256
unfolding part_at little
little_more k at next l e h = rw (e, drop-cons l at 0 h) refl

little_none : (at : ℕ) (l : List ℕ) → little (part_at at 0 l) ≡ 0
unfolding part_at little
little_none at l = refl

pub little_four : (at : ℕ) (l : List ℕ) → at + 4 ≤ length l
    → little (part_at at 4 l) ≡ get_or l at 0 + get_or l (at + 1) 0 * 256 + get_or l (at + 2) 0 * 65536
    + get_or l (at + 3) 0 * 16777216
little_four at l h =
    let a = little_more 3 at (at + 1) l (omega arith) (omega arith) in
    let b = little_more 2 (at + 1) (at + 2) l (omega arith) (omega arith) in
    let c = little_more 1 (at + 2) (at + 3) l (omega arith) (omega arith) in
    let d = little_more 0 (at + 3) (at + 4) l (omega arith) (omega arith) in
    omega (arith, a, b, c, d, little_none (at + 4) l)

pub little_eight : (at : ℕ) (l : List ℕ) → at + 8 ≤ length l
    → little (part_at at 8 l) ≡ get_or l at 0 + get_or l (at + 1) 0 * 256 + get_or l (at + 2) 0 * 65536
    + get_or l (at + 3) 0 * 16777216 + get_or l (at + 4) 0 * 4294967296 + get_or l (at + 5) 0 * 1099511627776
    + get_or l (at + 6) 0 * 281474976710656 + get_or l (at + 7) 0 * 72057594037927936
little_eight at l h =
    let a = little_more 7 at (at + 1) l (omega arith) (omega arith) in
    let b = little_more 6 (at + 1) (at + 2) l (omega arith) (omega arith) in
    let c = little_more 5 (at + 2) (at + 3) l (omega arith) (omega arith) in
    let d = little_more 4 (at + 3) (at + 4) l (omega arith) (omega arith) in
    let e = little_more 3 (at + 4) (at + 5) l (omega arith) (omega arith) in
    let f = little_more 2 (at + 5) (at + 6) l (omega arith) (omega arith) in
    let g = little_more 1 (at + 6) (at + 7) l (omega arith) (omega arith) in
    let i = little_more 0 (at + 7) (at + 8) l (omega arith) (omega arith) in
    omega (arith, a, b, c, d, e, f, g, i, little_none (at + 8) l)

-- the bytes that std lays down
bytes_from : (i k n : ℕ) → bytes_low_first i k n ≡ little_bytes k (n / 256 ^ i)
unfolding little_bytes
bytes_from i zero n = refl
bytes_from i (suc k) n =
    let next : n / 256 ^ i / 256 ≡ n / 256 ^ suc i = div-div-eq-div-mul n (256 ^ i) 256 ∙ ap (λ z. n / z) (sym (pow-suc 256 i)) in
    rw (next, ← bytes_from (suc i) k n) (first i)
  where
    first : (i : ℕ) → byte_at i n ∷ bytes_low_first (suc i) k n ≡ n / 256 ^ i % 256 ∷ bytes_low_first (suc i) k n
    first zero = let one : n / 1 ≡ n = omega arith in rw one refl
    first (suc i) = refl

le_bytes-little : (k n : ℕ) → bytes_low_first 0 k n ≡ little_bytes k n
le_bytes-little k n = let one : n / 1 ≡ n = omega arith in bytes_from 0 k n ∙ ap (little_bytes k) one

-- a part of n bytes, written with them
pub le_bytes-written : (at k n v : ℕ) (l bytes : List ℕ) → n ≡ k → bytes ≡ bytes_low_first 0 k v
    → put_mid at n l bytes ≡ put_at at k (little_bytes k v) l
unfolding put_at
le_bytes-written at k n v l bytes e f =
    ap₂ (λ (m : ℕ) (ys : List ℕ). put_mid at m l ys) e (f ∙ le_bytes-little k v)

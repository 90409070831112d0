-- A part put inside a part is put into the whole.
use Prim.Native.Nat.{ℕ, ◌+◌, ◌≤◌}
use native.Mathlib.Omega.{arith}
use mathlib.Core.Path.{◌≡◌, sym, ap, ◌∙◌}
use mathlib.Core.List.{List, ◌++◌, append_assoc}
use lib.ListN.{length, take, drop, length-drop, take-append-drop}
use lib.Seq.{take-take, take-add, drop-drop, drop-append-le, length-take-le}
use Rattle.lists.specs.Parts.{part_at, put_at}

-- a part put inside a part
pub put_inside : (b k o j : ℕ) (x l : List ℕ) → o + j ≤ k → b + k ≤ length l
    → put_at b k (put_at o j x (part_at b k l)) l ≡ put_at (b + o) j x l
unfolding put_at part_at
put_inside b k o j x l h f =
    let L = drop b l in
    let n : length (take k L) ≡ k = length-take-le k L (rw (length-drop b l) (omega arith)) in
    let t : take o (take k L) ≡ take o L = take-take o k L (omega arith) in
    let u : drop j (drop o (take k L)) ≡ drop (o + j) (take k L) = drop-drop j o (take k L) in
    let v : drop (o + j) (take k L) ++ drop k L ≡ drop (o + j) L =
    sym (drop-append-le (o + j) (take k L) (drop k L) (omega arith)) ∙ ap (drop (o + j)) (take-append-drop k L) in
    let i : b + o + j ≡ b + (o + j) = omega arith in
    let w : drop j (drop (b + o) l) ≡ drop (o + j) L = rw (drop-drop j (b + o) l, drop-drop (o + j) b l)
    (ap (λ (z : ℕ). drop z l) i) in
    rw (
      t,
      u,
      append_assoc (take o L) (x ++ drop (o + j) (take k L)) (drop k L),
      append_assoc x (drop (o + j) (take k L)) (drop k L),
      v,
      w,
      take-add b o l,
    )
    (sym (append_assoc (take b l) (take o L) (x ++ drop (o + j) L)))

-- What is read from a list after a part of it was replaced, over the place and the size of the part.
use Prim.Native.Nat.{ℕ, zero, suc, ◌+◌, ◌-◌, ◌*◌, ◌≤◌, ◌<◌}
use native.Mathlib.Nat.{suc-mul, zero-mul, mul-le-mul_right, add-sub_of_le}
use native.Mathlib.Omega.{arith}
use native.Mathlib.Decide.{dec_lt}
use mathlib.Core.Path.{◌≡◌, refl, sym, ap, ap₂, ◌∙◌, subst}
use mathlib.Core.Logic.{◌≢◌}
use mathlib.Core.List.{List, [], ◌∷◌, ◌++◌, append_assoc}
use lib.ListN.{length, take, drop, length-append, length-take, length-drop, take-append-drop}
use lib.Seq.{take_at, drop_at, take-append-le, drop-append-le, drop-drop, take-take, drop-append-add, take-add}
use Rattle.lists.specs.Parts.{part_at, put_at}

module _ {ℓ} {A : Type ℓ} where
  -- two lists that begin alike are alike in each part of that beginning
  same_beginning : (b j : ℕ) (t y z : List A) → b + j ≤ length t → take j (drop b (t ++ y)) ≡ take j
      (drop b (t ++ z))
  same_beginning b j t y z h =
      let u : b ≤ length t = omega arith in
      let v : j ≤ length (drop b t) = simp length-drop (omega arith) in
      rw (
        drop-append-le b t y u,
        drop-append-le b t z u,
        take-append-le j (drop b t) y v,
        take-append-le j (drop b t) z v,
      )

  -- past a beginning, the rest counts
  drop_past : (b : ℕ) (t z : List A) → length t ≤ b → drop b (t ++ z) ≡ drop (b - length t) z
  drop_past b t z h =
      ap (λ (n : ℕ). drop n (t ++ z)) (sym (add-sub_of_le h)) ∙ drop-append-add t z (b - length t)

  -- two lists that end alike behind beginnings of one length are alike from there on
  same_end : (b : ℕ) (t u z : List A) → length t ≡ length u → length t ≤ b
      → drop b (t ++ z) ≡ drop b (u ++ z)
  same_end b t u z e h =
      drop_past b t z h ∙ (ap (λ (n : ℕ). drop (b - n) z) e
      ∙ sym (drop_past b u z (subst (λ (n : ℕ). n ≤ b) e h)))

  -- inside the first k elements nothing else counts
  inside_take : (b j k : ℕ) (l : List A) → b + j ≤ k → take j (drop b (take k l)) ≡ take j (drop b l)
  inside_take zero j k l h = take-take j k l (omega arith)
  inside_take (suc b) j zero l h = absurd (omega arith)
  inside_take (suc b) j (suc k) [] h = refl
  inside_take (suc b) j (suc k) (x ∷ l) h = inside_take b j k l (omega arith)

  -- a part that fits has its size
  pub length_part : (a k : ℕ) (l : List A) → a + k ≤ length l → length (part_at a k l) ≡ k
  unfolding part_at
  length_part a k l h = simp (length-take, length-drop) (omega arith)

  -- a list with a part replaced keeps its length
  pub length-put : (a k : ℕ) (x l : List A) → length x ≡ k → a + k ≤ length l
      → length (put_at a k x l) ≡ length l
  unfolding put_at
  length-put a k x l e h = simp (length-append, length-take, length-drop) (omega arith)

  -- the part that was put is read back
  pub part_put : (a k : ℕ) (x l : List A) → length x ≡ k → a ≤ length l → part_at a k (put_at a k x l) ≡ x
  unfolding part_at put_at
  part_put a k x l e h =
      let t : length (take a l) ≡ a = simp length-take (omega arith) in
      rw (drop_at (take a l) (x ++ drop k (drop a l)) a t) (take_at x (drop k (drop a l)) k e)

  -- a part that ends before is as it was
  pub part_before : (b j a k : ℕ) (x l : List A) → b + j ≤ a → a ≤ length l
      → part_at b j (put_at a k x l) ≡ part_at b j l
  unfolding part_at put_at
  part_before b j a k x l h f =
      same_beginning b j (take a l) (x ++ drop k (drop a l)) (drop a l) (simp length-take (omega arith))
      ∙ ap (λ (z : List A). take j (drop b z)) (take-append-drop a l)

  -- a part that begins behind is as it was
  pub part_after : (b j a k : ℕ) (x l : List A) → a + k ≤ b → length x ≡ k → a + k ≤ length l
      → part_at b j (put_at a k x l) ≡ part_at b j l
  unfolding part_at put_at
  part_after b j a k x l h e f =
      ap (λ (z : List A). take j (drop b z)) (ap (λ (z : List A). take a l ++ (x ++ z)) (drop-drop k a l)
      ∙ sym (append_assoc (take a l) x (drop (a + k) l)))
      ∙ (ap (take j) (same_end b (take a l ++ x) (take (a + k) l) (drop (a + k) l)
      (simp (length-append, length-take) (omega arith)) (simp (length-append, length-take) (omega arith)))
      ∙ ap (λ (z : List A). take j (drop b z)) (take-append-drop (a + k) l))

  -- the second of two puts at one place stands
  pub put-put : (a k : ℕ) (x y l : List A) → length x ≡ k → a ≤ length l
      → put_at a k y (put_at a k x l) ≡ put_at a k y l
  unfolding put_at
  put-put a k x y l e h =
      let t : length (take a l) ≡ a = simp length-take (omega arith) in
      rw (
        take_at (take a l) (x ++ drop k (drop a l)) a t,
        drop_at (take a l) (x ++ drop k (drop a l)) a t,
        drop_at x (drop k (drop a l)) k e,
      )

  -- to put what stands there changes nothing
  pub put_part : (a k : ℕ) (l : List A) → put_at a k (part_at a k l) l ≡ l
  unfolding part_at put_at
  put_part a k l = rw (take-append-drop k (drop a l)) (take-append-drop a l)

  -- a part of a part is a part
  pub part_part : (b j a k : ℕ) (l : List A) → b + j ≤ k → part_at b j (part_at a k l) ≡ part_at (a + b) j l
  unfolding part_at
  part_part b j a k l h = inside_take b j k (drop a l) h ∙ ap (take j) (drop-drop b a l)

  -- a put inside a part, and the part put back, is a put in the whole
  pub put_inside : (b k a m : ℕ) (x l : List A) → b + k ≤ m → a + m ≤ length l
      → put_at a m (put_at b k x (part_at a m l)) l ≡ put_at (a + b) k x l
  unfolding part_at put_at
  put_inside b k a m x l h f =
      let d = drop a l in
      let front : take b (take m d) ≡ take b d = take-take b m d (omega arith) in
      let long : b + k ≤ length (take m d) = simp (length-take, length-drop) (omega arith) in
      let back : drop (b + k) (take m d) ++ drop m d ≡ drop (b + k) d =
      sym (drop-append-le (b + k) (take m d) (drop m d) long) ∙ ap (drop (b + k)) (take-append-drop m d) in
      let rest : drop k (drop b (take m d)) ++ drop m d ≡ drop k (drop (a + b) l) =
      ap (λ (z : List A). z ++ drop m d) (drop-drop k b (take m d))
      ∙ (back ∙ (sym (drop-drop k b d) ∙ ap (drop k) (drop-drop b a l))) in
      rw (front, take-add a b l)
      (simp append_assoc (ap (λ (z : List A). take a l ++ (take b d ++ (x ++ z))) rest))

  -- the n-th part of size k is another part than the m-th
  pub part_other : (k n m : ℕ) (x l : List A) → n ≢ m → length x ≡ k → m * k + k ≤ length l
      → part_at (n * k) k (put_at (m * k) k x l) ≡ part_at (n * k) k l
  part_other k n m x l d e f = by (dec_lt n m)
    where
      below : {i j : ℕ} → i < j → i * k + k ≤ j * k
      below {i} {j} h = subst (λ (z : ℕ). z ≤ j * k) (suc-mul i k) (mul-le-mul_right k h)

      by : Dec (n < m) → part_at (n * k) k (put_at (m * k) k x l) ≡ part_at (n * k) k l
      by (yes h) = part_before (n * k) k (m * k) k x l (below h) (omega arith)
      by (no h) = part_after (n * k) k (m * k) k x l (below (omega arith)) e f

  -- the part behind the first k elements
  part_behind : (k n : ℕ) (l : List A) → part_at (n * k) k (drop k l) ≡ part_at (suc n * k) k l
  unfolding part_at
  part_behind k n l =
      let e : k + n * k ≡ suc n * k = omega (arith, suc-mul n k) in
      ap (take k) (drop-drop (n * k) k l ∙ ap (λ (z : ℕ). drop z l) e)

  -- the first part
  part_first : (k : ℕ) (l : List A) → take k l ≡ part_at (0 * k) k l
  unfolding part_at
  part_first k l = rw (zero-mul k)

  -- two lists of N parts of size k are equal if they agree part by part
  pub by_parts : (k N : ℕ) (l r : List A) → length l ≡ N * k → length r ≡ N * k
      → ((n : ℕ) → n < N → part_at (n * k) k l ≡ part_at (n * k) k r) → l ≡ r
  by_parts k zero [] [] e f h = refl
  by_parts k zero [] (y ∷ r) e f h = absurd (omega (arith, zero-mul k))
  by_parts k zero (x ∷ l) r e f h = absurd (omega (arith, zero-mul k))
  by_parts k (suc N) l r e f h =
      sym (take-append-drop k l)
      ∙ (ap₂ ◌++◌
      (part_first k l ∙ (h 0 (omega arith) ∙ sym (part_first k r)))
      (by_parts k N (drop k l) (drop k r)
      (simp length-drop (omega (arith, suc-mul N k)))
      (simp length-drop (omega (arith, suc-mul N k)))
      (λ n q. part_behind k n l ∙ (h (suc n) (omega arith) ∙ sym (part_behind k n r))))
      ∙ take-append-drop k r)

-- MixColumns and InvMixColumns undo each other on a column of bytes: one argument over the two matrices' rows, and
-- tests at the powers of two.
use mathlib.Core.Path.{◌≡◌, sym, ap, ap₂, ◌∙◌}
use Prim.Native.Nat.{ℕ, ◌<◌}
use Rattle.field.specs.Field.{◌⊕◌, xtimes, product_by, ◌•◌}
use Rattle.field.proofs.Xor.{⊕_comm, ⊕_assoc, ⊕_swap, ⊕_zero}
use Rattle.field.proofs.Product.{•-⊕}
use Rattle.field.proofs.Additive.{Additive, additive_same, additive_none, same_on_bytes}

-- a row of a matrix times a column
unfoldable pub row : ℕ → ℕ → ℕ → ℕ → ℕ → ℕ → ℕ → ℕ → ℕ
row m0 m1 m2 m3 a b c d = m0 • a ⊕ m1 • b ⊕ m2 • c ⊕ m3 • d

-- four terms summed, the last one put first
pub ⊕_turn : (p q r s : ℕ) → p ⊕ q ⊕ r ⊕ s ≡ s ⊕ p ⊕ q ⊕ r
⊕_turn p q r s =
    ⊕_comm (p ⊕ q ⊕ r) s ∙ sym (⊕_assoc s (p ⊕ q) r) ∙ ap (λ (x : ℕ). x ⊕ r) (sym (⊕_assoc s p q))

-- two sums of four terms, added term by term
⊕-add-four : (p q r s p' q' r' s' : ℕ)
    → (p ⊕ q ⊕ r ⊕ s) ⊕ (p' ⊕ q' ⊕ r' ⊕ s') ≡ (p ⊕ p') ⊕ (q ⊕ q') ⊕ (r ⊕ r') ⊕ (s ⊕ s')
⊕-add-four p q r s p' q' r' s' =
    ⊕_swap (p ⊕ q ⊕ r) s (p' ⊕ q' ⊕ r') s'
    ∙ ap (λ (x : ℕ). x ⊕ (s ⊕ s')) (⊕_swap (p ⊕ q) r (p' ⊕ q') r'
    ∙ ap (λ (x : ℕ). x ⊕ (r ⊕ r')) (⊕_swap p q p' q'))

-- a row of sums is the sum of two rows
pub row-⊕ : (m0 m1 m2 m3 a b c d a' b' c' d' : ℕ)
    → row m0 m1 m2 m3 (a ⊕ a') (b ⊕ b') (c ⊕ c') (d ⊕ d') ≡ row m0 m1 m2 m3 a b c d ⊕ row m0 m1 m2 m3 a'
    b' c' d'
unfolding row
row-⊕ m0 m1 m2 m3 a b c d a' b' c' d' =
    ap₂ ◌⊕◌ (ap₂ ◌⊕◌ (ap₂ ◌⊕◌ (•-⊕ m0 a a') (•-⊕ m1 b b')) (•-⊕ m2 c c')) (•-⊕ m3 d d')
    ∙ sym (⊕-add-four (m0 • a) (m1 • b) (m2 • c) (m3 • d) (m0 • a') (m1 • b') (m2 • c') (m3 • d'))

-- a row of sums of four is the sum of four rows
row-four : (n0 n1 n2 n3 a b c d a' b' c' d' a'' b'' c'' d'' e f g h : ℕ)
    → row n0 n1 n2 n3 (a ⊕ a' ⊕ a'' ⊕ e) (b ⊕ b' ⊕ b'' ⊕ f) (c ⊕ c' ⊕ c'' ⊕ g)
    (d ⊕ d' ⊕ d'' ⊕ h)
    ≡ row n0 n1 n2 n3 a b c d ⊕ row n0 n1 n2 n3 a' b' c' d' ⊕ row n0 n1 n2 n3 a'' b'' c'' d'' ⊕ row n0 n1 n2 n3
    e f g h
row-four n0 n1 n2 n3 a b c d a' b' c' d' a'' b'' c'' d'' e f g h =
    row-⊕ n0 n1 n2 n3 (a ⊕ a' ⊕ a'') (b ⊕ b' ⊕ b'') (c ⊕ c' ⊕ c'') (d ⊕ d' ⊕ d'') e f g h
    ∙ ap (λ (x : ℕ). x ⊕ row n0 n1 n2 n3 e f g h)
    (row-⊕ n0 n1 n2 n3 (a ⊕ a') (b ⊕ b') (c ⊕ c') (d ⊕ d') a'' b'' c'' d''
    ∙ ap (λ (x : ℕ). x ⊕ row n0 n1 n2 n3 a'' b'' c'' d'') (row-⊕ n0 n1 n2 n3 a b c d a' b' c' d'))

-- the rows n and m undo each other where the products of their matrices, at each place of the first row, are 1 0 0 0
pub record UndoRow (n0 n1 n2 n3 m0 m1 m2 m3 : ℕ) : Type 0 where
  pub one : (x : ℕ) → x < 256 → row n0 n1 n2 n3 (m0 • x) (m3 • x) (m2 • x) (m1 • x) ≡ x
  pub zero1 : (x : ℕ) → x < 256 → row n0 n1 n2 n3 (m1 • x) (m0 • x) (m3 • x) (m2 • x) ≡ 0
  pub zero2 : (x : ℕ) → x < 256 → row n0 n1 n2 n3 (m2 • x) (m1 • x) (m0 • x) (m3 • x) ≡ 0
  pub zero3 : (x : ℕ) → x < 256 → row n0 n1 n2 n3 (m3 • x) (m2 • x) (m1 • x) (m0 • x) ≡ 0

module _ (n0 n1 n2 n3 m0 m1 m2 m3 : ℕ) (undo : UndoRow n0 n1 n2 n3 m0 m1 m2 m3) where
  -- the rows of the one matrix, each turned to begin with a, times the row of the other
  row_split : (a b c d : ℕ)
      → row n0 n1 n2 n3 (row m0 m1 m2 m3 a b c d) (row m0 m1 m2 m3 b c d a) (row m0 m1 m2 m3 c d a b)
      (row m0 m1 m2 m3 d a b c)
      ≡ row n0 n1 n2 n3 (m0 • a) (m3 • a) (m2 • a) (m1 • a) ⊕ row n0 n1 n2 n3 (m1 • b) (m0 • b)
      (m3 • b) (m2 • b)
      ⊕ row n0 n1 n2 n3 (m2 • c) (m1 • c) (m0 • c) (m3 • c) ⊕ row n0 n1 n2 n3 (m3 • d) (m2 • d)
      (m1 • d) (m0 • d)
  unfolding row
  row_split a b c d =
      (λ i. row n0 n1 n2 n3 (row m0 m1 m2 m3 a b c d) (⊕_turn (m0 • b) (m1 • c) (m2 • d) (m3 • a) i)
      ((⊕_turn (m0 • c) (m1 • d) (m2 • a) (m3 • b) ∙ ⊕_turn (m3 • b) (m0 • c) (m1 • d) (m2 • a))
      i)
      (sym (⊕_turn (m1 • a) (m2 • b) (m3 • c) (m0 • d)) i))
      ∙ row-four n0 n1 n2 n3 (m0 • a) (m3 • a) (m2 • a) (m1 • a) (m1 • b) (m0 • b) (m3 • b) (m2 • b)
      (m2 • c) (m1 • c) (m0 • c) (m3 • c) (m3 • d) (m2 • d) (m1 • d) (m0 • d)

  pub undo_row : (a b c d : ℕ) → a < 256 → b < 256 → c < 256 → d < 256
      → row n0 n1 n2 n3 (row m0 m1 m2 m3 a b c d) (row m0 m1 m2 m3 b c d a) (row m0 m1 m2 m3 c d a b)
      (row m0 m1 m2 m3 d a b c) ≡ a
  undo_row a b c d ha hb hc hd =
      row_split a b c d
      ∙ ap₂ ◌⊕◌ (ap₂ ◌⊕◌ (ap₂ ◌⊕◌ (undo.one a ha) (undo.zero1 b hb)) (undo.zero2 c hc))
      (undo.zero3 d hd)
      ∙ ⊕_zero (a ⊕ 0 ⊕ 0) ∙ ⊕_zero (a ⊕ 0) ∙ ⊕_zero a

-- a row times the products of one number
abbrev row_of : (n0 n1 n2 n3 m0 m1 m2 m3 x : ℕ) → ℕ
row_of n0 n1 n2 n3 m0 m1 m2 m3 x = row n0 n1 n2 n3 (m0 • x) (m1 • x) (m2 • x) (m3 • x)

row_of_additive : (n0 n1 n2 n3 m0 m1 m2 m3 : ℕ) → Additive (row_of n0 n1 n2 n3 m0 m1 m2 m3)
row_of_additive n0 n1 n2 n3 m0 m1 m2 m3 =
    record {
      sum = λ x y.
          (λ i. row n0 n1 n2 n3 (•-⊕ m0 x y i) (•-⊕ m1 x y i) (•-⊕ m2 x y i) (•-⊕ m3 x y i))
          ∙ row-⊕ n0 n1 n2 n3 (m0 • x) (m1 • x) (m2 • x) (m3 • x) (m0 • y) (m1 • y) (m2 • y)
          (m3 • y);
    }

-- once a byte is the byte
pub one-• : (x : ℕ) → x < 256 → 1 • x ≡ x
unfolding ◌⊕◌ xtimes product_by ◌•◌
one-• = same_on_bytes (λ x. 1 • x) (λ x. x) (record { sum = •-⊕ 1 }) additive_same tt

pub unmix_mix : UndoRow 14 11 13 9 2 3 1 1
unfolding row ◌⊕◌ xtimes product_by ◌•◌
unmix_mix =
    let product : ℕ → ℕ → ℕ → ℕ → ℕ → ℕ = row_of 14 11 13 9 in
    let additive = row_of_additive 14 11 13 9 in
    record {
      one = same_on_bytes (product 2 1 1 3) (λ x. x) (additive 2 1 1 3) additive_same tt;
      zero1 = same_on_bytes (product 3 2 1 1) (λ x. 0) (additive 3 2 1 1) additive_none tt;
      zero2 = same_on_bytes (product 1 3 2 1) (λ x. 0) (additive 1 3 2 1) additive_none tt;
      zero3 = same_on_bytes (product 1 1 3 2) (λ x. 0) (additive 1 1 3 2) additive_none tt;
    }

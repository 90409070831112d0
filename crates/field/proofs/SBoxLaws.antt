-- SubBytes and InvSubBytes undo each other on bytes: the inverse undoes itself, and the two affine maps each other,
-- each by one test of all bytes.
use mathlib.Core.Path.{◌≡◌, sym, ap, ◌∙◌}
use mathlib.Core.Bool.{Bool}
use Prim.Native.Nat.{ℕ, ◌<◌}
use lib.Dec.{T, eqb, ltb, eqb→eq, ltb→lt}
use lib.ListN.{replicate, get_or}
use Rattle.field.specs.Field.{◌⊕◌, inverse, digit, from_digits, affine, inv_affine, sub_byte, inv_sub_byte}
use Rattle.field.specs.Table.{Undoes}
use Rattle.field.proofs.Every.{every, all-below, both, both_left, both_right}
use Rattle.field.proofs.Inverses.{inverses, inverses-inverse}

module _ (f g : ℕ → ℕ) where
  abbrev undoes : ℕ → Bool
  undoes k = both (ltb (g k) 256) (eqb (f (g k)) k)

  tested : T (every (λ k x. undoes k) 0 (replicate 256 0)) → Undoes f g
  tested t =
      let each = all-below 256 undoes t in
      record {
        byte = λ k h. ltb→lt (g k) 256 (both_left (ltb (g k) 256) (eqb (f (g k)) k) (each k h));
        undone = λ k h. eqb→eq (f (g k)) k (both_right (ltb (g k) 256) (eqb (f (g k)) k) (each k h));
      }

-- two maps in a row are undone in turned order
undoes-∘ : (f g f' g' : ℕ → ℕ) → Undoes f g → Undoes f' g' → Undoes (λ k. f (f' k)) (λ k. g' (g k))
undoes-∘ f g f' g' h h' =
    record {
      byte = λ k lt. h'.byte (g k) (h.byte k lt);
      undone = λ k lt. ap f (h'.undone (g k) (h.byte k lt)) ∙ h.undone k lt;
    }

-- a byte's inverse, from the list
abbrev listed : ℕ → ℕ
listed k = get_or inverses k 0

listed-undone : Undoes listed listed
unfolding inverses
listed-undone = tested listed listed tt

inverse-undone : Undoes inverse inverse
inverse-undone =
    let is = inverses-inverse.entry in
    record {
      byte = λ k lt. rw (sym (is k lt)) (listed-undone.byte k lt);
      undone = λ k lt.
          ap inverse (sym (is k lt)) ∙ sym (is (listed k) (listed-undone.byte k lt)) ∙ listed-undone.undone k lt;
    }

affine-undone : Undoes inv_affine affine
unfolding ◌⊕◌ digit from_digits affine inv_affine
affine-undone = tested inv_affine affine tt

inv_affine-undone : Undoes affine inv_affine
unfolding ◌⊕◌ digit from_digits affine inv_affine
inv_affine-undone = tested affine inv_affine tt

pub sub-undone : Undoes inv_sub_byte sub_byte
unfolding sub_byte inv_sub_byte
sub-undone = undoes-∘ inverse inverse inv_affine affine inverse-undone affine-undone

pub inv_sub_undone : Undoes sub_byte inv_sub_byte
unfolding sub_byte inv_sub_byte
inv_sub_undone = undoes-∘ affine inv_affine inverse inverse inv_affine-undone inverse-undone

-- both substitutions by the list
unfoldable pub listed_sub : ℕ → ℕ
listed_sub k = affine (listed k)

unfoldable pub listed_inv_sub : ℕ → ℕ
listed_inv_sub k = listed (inv_affine k)

pub listed_sub-sub_byte : (k : ℕ) → k < 256 → listed_sub k ≡ sub_byte k
unfolding listed_sub sub_byte
listed_sub-sub_byte k lt = ap affine (inverses-inverse.entry k lt)

pub listed_inv_sub-inv_sub_byte : (k : ℕ) → k < 256 → listed_inv_sub k ≡ inv_sub_byte k
unfolding listed_inv_sub inv_sub_byte
listed_inv_sub-inv_sub_byte k lt = inverses-inverse.entry (inv_affine k) (inv_affine-undone.byte k lt)

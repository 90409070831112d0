-- The tag of a number, and the number of a tag.
use Prim.Native.Nat.{ℕ, ◌≤◌}
use native.Mathlib.Omega.{arith}
use mathlib.Core.Path.{◌≡◌, refl, sym, ap}
use mathlib.Core.Bool.{false}
use borrow.Author.Tests.{eq-eqb, ne_eqb}
use Rattle.lists.proofs.Cases.{by-eq, by_test}
use Rattle.model.specs.Tags.{Tag, no_tag, secure_instruction, secure_data, tag_number, tag_named, same_tag}
use Rattle.model.proofs.LineLaws.{same_tag_true}

named_code : (t : ℕ) → t ≡ 1 → tag_named t ≡ secure_instruction
unfolding tag_named
named_code t e = rw (eq-eqb t 1 e)

named_data : (t : ℕ) → t ≡ 2 → tag_named t ≡ secure_data
unfolding tag_named
named_data t e = rw e

named_none : (t : ℕ) → (t ≡ 1 → ⊥) → (t ≡ 2 → ⊥) → tag_named t ≡ no_tag
unfolding tag_named
named_none t a b = rw (ne_eqb t 1 a, ne_eqb t 2 b)

-- a tag's number is its number, and a number's tag its tag
pub number-named : (t : ℕ) → t ≤ 2 → tag_number (tag_named t) ≡ t
unfolding tag_number
number-named t h =
    by-eq t 1
    (λ e. rw (named_code t e) (sym e))
    (λ a. by-eq t 2 (λ e. rw (named_data t e) (sym e)) (λ b. rw (named_none t a b) (omega arith)))

pub named-number : (t : Tag) → tag_named (tag_number t) ≡ t
unfolding tag_named tag_number
named-number no_tag = refl
named-number secure_instruction = refl
named-number secure_data = refl

pub number-le : (t : Tag) → tag_number t ≤ 2
unfolding tag_number
number-le no_tag = omega arith
number-le secure_instruction = omega arith
number-le secure_data = omega arith

-- tags with two numbers are two
pub same_tag_false : (a b : Tag) → (tag_number a ≡ tag_number b → ⊥) → same_tag a b ≡ false
same_tag_false a b h = by_test (same_tag a b) (λ e. absurd (h (ap tag_number (same_tag_true a b e)))) (λ e. e)

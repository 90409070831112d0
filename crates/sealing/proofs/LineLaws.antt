-- What the code makes on its way to a sealed line, an opened one, or a comparison is what document 01 says.
use mathlib.Core.Path.{◌≡◌, refl, sym, ap, ap₂, ◌∙◌}
use mathlib.Core.Bool.{Bool, true, false}
use mathlib.Core.List.{List}
use Prim.Native.Nat.{ℕ}
use lib.Pointwise.{bytes_decides}
use Rattle.std.specs.Str.{bytes_eq}
use Rattle.lists.specs.Bytes.{same, zeros}
use Rattle.lists.specs.Words.{little_bytes, big_bytes}
use Rattle.lists.proofs.ByteLaws.{same_refl, same_true}
use Rattle.lists.proofs.Cases.{by_test}
use Rattle.aes_standard.specs.Schedule.{key_expansion}
use Rattle.aes_standard.specs.Cipher.{cipher}
use Rattle.sealing.specs.Lines.{drk_of, line_key, start_vector}

-- the code's block for the initialization vector
start_vector-is : (drk : List ℕ) (address : ℕ) (k w iv : List ℕ) → k ≡ line_key drk → w ≡ key_expansion k
    → iv ≡ cipher w (drk_of 0 address)
    → iv ≡ start_vector drk address
unfolding start_vector drk_of big_bytes little_bytes zeros
start_vector-is drk address k w iv key words vector = vector
    ∙ ap (λ (z : List ℕ). cipher z (drk_of 0 address)) (words ∙ ap key_expansion key)

-- the code's way to a line sealed or opened: a chain under the line key, from the line's vector
pub under-line-key : (cbc : List ℕ → List ℕ → List ℕ → List ℕ) (drk : List ℕ) (address : ℕ)
    (k w iv l : List ℕ)
    → k ≡ line_key drk → w ≡ key_expansion k → iv ≡ cipher w (drk_of 0 address)
    → cbc (key_expansion k) iv l ≡ cbc (key_expansion (line_key drk)) (start_vector drk address) l
under-line-key cbc drk address k w iv l key words vector =
    ap₂ (λ (a b : List ℕ). cbc a b l) (ap key_expansion key) (start_vector-is drk address k w iv key words vector)

-- a test that says of two lists whether they are equal is the test of the same name
pub same_decides : (r : Bool) (a b : List ℕ) → (r ≡ true → a ≡ b) → (a ≡ b → r ≡ true)
    → r ≡ same a b
same_decides true a b yes-then then-yes = sym (ap (same a) (sym (yes-then refl)) ∙ same_refl a)
same_decides false a b yes-then then-yes =
    by_test (same a b) (λ (e : same a b ≡ true). then-yes (same_true a b e) ∙ sym e)
    (λ (e : same a b ≡ false). sym e)

-- what `==` of two rows of bytes answers is that test
pub same_is : (r : Bool) (a b : List ℕ) → r ≡ bytes_eq a b → r ≡ same a b
same_is r a b e =
    let decides = bytes_decides a b in
    same_decides r a b (λ (yes : r ≡ true). decides.0 (sym e ∙ yes)) (λ (equal : a ≡ b). e ∙ decides.1 equal)

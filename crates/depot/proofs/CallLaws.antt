-- Each way out of a call of the depot, as the meaning has it: a refusal by its number, or the work done.
use mathlib.Core.Path.{◌≡◌, sym, ap, ap₂, ◌∙◌}
use mathlib.Core.Bool.{Bool, true, false}
use mathlib.Core.List.{List, [], ◌++◌, append-nil}
use Prim.Native.Nat.{ℕ, ◌-◌, ◌%◌}
use native.Mathlib.Omega.{arith}
use borrow.Author.Tests.{eq-eqb}
use lib.ListN.{length, take, drop, drop_of_length-le, length-drop}
use Rattle.lists.specs.Bytes.{same}
use Rattle.model.specs.Cipher.{Cipher}
use Rattle.instructions.specs.Refusals.{buffer_flaws}
use Rattle.instructions.specs.Depot.{depot_flaws, depot_sign, depot_seal, depot_open}
use Rattle.depot.specs.Answer.{gave}

-- the copy of a MAC over the end of a line, as the code makes it
abbrev copied_over : List ℕ → List ℕ → List ℕ
copied_over line mac = take 48 line ++ (mac ++ drop (length line - 48) (drop 48 line))

-- sixteen bytes copied over the last sixteen of a line
mac-copied : (line mac : List ℕ) → length line ≡ 64 → copied_over line mac ≡ take 48 line ++ mac
mac-copied line mac size =
    ap (λ (r : List ℕ). take 48 line ++ (mac ++ r))
    (drop_of_length-le (drop 48 line) {i = length line - 48} (omega (arith, length-drop 48 line)))
    ∙ ap (λ (r : List ℕ). take 48 line ++ r) (append-nil mac)

module _ (c : Cipher) (key : List ℕ) (a : ℕ) (line : List ℕ) where
  pub sign_done : (mac line' : List ℕ) → a % 64 ≡ 0 → length line ≡ 64
      → mac ≡ c.code_mac key a (take 48 line)
      → line' ≡ copied_over line mac
      → gave 0 line' [] ≡ depot_sign c key a line
  unfolding depot_sign buffer_flaws
  sign_done mac line' h g e copy =
      ap (λ (l : List ℕ). gave 0 l []) (copy ∙ mac-copied line mac g
      ∙ ap (λ (m : List ℕ). take 48 line ++ m) e)
      ∙ rw (eq-eqb (a % 64) 0 h, eq-eqb (length line) 64 g)

  -- the sizes of both buffers, and the address, as the meaning tests them
  module _ (mac : List ℕ) where
    pub seal_done : (line' made mac' : List ℕ) → a % 64 ≡ 0 → length line ≡ 64 → length mac ≡ 16
        → line' ≡ c.encipher key a line
        → made ≡ c.data_mac key a line' → mac' ≡ made → gave 0 line' mac' ≡ depot_seal c key a line mac
    unfolding depot_seal depot_flaws buffer_flaws
    seal_done line' made mac' h g f e m copy =
        ap₂ (gave 0) e (copy ∙ m ∙ ap (c.data_mac key a) e)
        ∙ rw (eq-eqb (a % 64) 0 h, eq-eqb (length line) 64 g, eq-eqb (length mac) 16 f)

    pub open_109 : (made : List ℕ) (r : Bool) → a % 64 ≡ 0 → length line ≡ 64 → length mac ≡ 16
        → made ≡ c.data_mac key a line
        → r ≡ same made mac → r ≡ false → gave 109 line mac ≡ depot_open c key a line mac
    unfolding depot_open depot_flaws buffer_flaws
    open_109 made r h g f m e wrong =
        rw (
          eq-eqb (a % 64) 0 h,
          eq-eqb (length line) 64 g,
          eq-eqb (length mac) 16 f,
          sym
              (ap (λ (x : List ℕ). same x mac) m) ∙ sym e ∙ wrong,
        )

    pub open_done : (line' made : List ℕ) (r : Bool) → a % 64 ≡ 0 → length line ≡ 64 → length mac ≡ 16
        → made ≡ c.data_mac key a line
        → r ≡ same made mac → r ≡ true → line' ≡ c.decipher key a line
        → gave 0 line' mac ≡ depot_open c key a line mac
    unfolding depot_open depot_flaws buffer_flaws
    open_done line' made r h g f m e right open' =
        ap (λ (l : List ℕ). gave 0 l mac) open'
        ∙ rw (
          eq-eqb (a % 64) 0 h,
          eq-eqb (length line) 64 g,
          eq-eqb (length mac) 16 f,
          sym
              (ap (λ (x : List ℕ). same x mac) m) ∙ sym e ∙ right,
        )

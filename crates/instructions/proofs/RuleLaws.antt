-- The laws of rules as lists: which rule or which of two lists answers, and what a table says at one of its keys and
-- past them all.
use Prim.Native.Nat.{ℕ}
use native.Mathlib.Omega.{arith}
use mathlib.Core.Path.{◌≡◌, refl, sym, ◌∙◌}
use mathlib.Core.Bool.{Bool, true, false, not, ◌&&◌, false≢true}
use mathlib.Core.List.{List, [], ◌∷◌, ◌++◌}
use lib.Dec.{eqb, ltb}
use borrow.Author.Tests.{eqb-true, eqb-false, ne_eqb, ltb-true, not-true}
use Rattle.lists.specs.If.{if}
use Rattle.lists.proofs.Cases.{by_test, both_hold}
use Rattle.instructions.specs.Rules.{first_of, or_else, pick}

-- a choice whose test holds, and one whose test does not: rules in a row are such choices
pub if-taken : {A : Type 0} (b : Bool) (x rest : A) → b ≡ true → x ≡ if b x rest
if-taken b x rest e = rw e

pub if-left : {A : Type 0} (b : Bool) (x y rest : A) → b ≡ false → x ≡ rest → x ≡ if b y rest
if-left b x y rest e h = rw e h

-- what holds of both of a choice's values holds of the choice
pub if-each : {A : Type 0} (P : A → Type 0) (b : Bool) (x y : A) → P x → P y → P (if b x y)
if-each P true x y p q = p
if-each P false x y p q = q

-- where the first number is 0, the rule did not apply and the rest has none either
pub first_of-none : (b : Bool) (n rest : ℕ) → (n ≡ 0 → ⊥) → if b n rest ≡ 0 → (b ≡ false)
    × (rest ≡ 0)
first_of-none true n rest d e = absurd (d e)
first_of-none false n rest d e = (refl, e)

-- of two numbers in a row, where neither is there
pub or_else-none : (a b : ℕ) → or_else a b ≡ 0 → (a ≡ 0) × (b ≡ 0)
unfolding or_else
or_else-none a b z =
    by_test (eqb a 0) (λ h. (eqb-true a 0 h, rw h at z)) (λ h. absurd (eqb-false a 0 h (rw h at z)))

-- no rule of the list has number 0
abbrev pub numbered : List (Bool × ℕ) → Bool
numbered [] = true
numbered (r ∷ rs) = ltb 0 r.1 && numbered rs

pub first_of-append : (rules more : List (Bool × ℕ)) → numbered rules ≡ true
    → first_of (rules ++ more) ≡ or_else (first_of rules) (first_of more)
unfolding or_else
first_of-append [] more h = refl
first_of-append (r ∷ rs) more h =
    let n = both_hold (ltb 0 r.1) (numbered rs) h in
    let some : r.1 ≡ 0 → ⊥ = λ e. omega (arith, ltb-true 0 r.1 n.0, e) in
    by_test r.0 (λ e. rw (e, ne_eqb r.1 0 some)) (λ e. rw e (first_of-append rs more n.1))

-- of two lists in a row the first answers, or it has nothing and the second does
pub first_of-first : (n : ℕ) (rules more : List (Bool × ℕ)) → n ≡ first_of rules → (n ≡ 0 → ⊥)
    → n ≡ first_of (rules ++ more)
first_of-first n [] more e some = absurd (some e)
first_of-first n (r ∷ rs) more e some =
    by_test r.0 (λ h. rw h (rw h at e)) (λ h. rw h (first_of-first n rs more (rw h at e) some))

pub first_of-second : (n : ℕ) (rules more : List (Bool × ℕ)) → numbered rules ≡ true → first_of rules ≡ 0
    → n ≡ first_of more
    → n ≡ first_of (rules ++ more)
unfolding or_else
first_of-second n rules more h e s = s ∙ sym (first_of-append rules more h ∙ (rw e))

pub first_of_neither : (rules more : List (Bool × ℕ)) → numbered rules ≡ true → first_of (rules ++ more) ≡ 0
    → (first_of rules ≡ 0) × (first_of more ≡ 0)
first_of_neither [] more h z = (refl, z)
first_of_neither (r ∷ rs) more h z =
    let n = both_hold (ltb 0 r.1) (numbered rs) h in
    let some : r.1 ≡ 0 → ⊥ = λ e. omega (arith, ltb-true 0 r.1 n.0, e) in
    let f = first_of-none r.0 r.1 (first_of (rs ++ more)) some z in
    let rest = first_of_neither rs more n.1 f.1 in
    (rw f.0 rest.0, rest.1)

-- what holds of each value where its key is the number, and of the last argument, holds of what is picked
abbrev pub Each : {A : Type 0} → (A → Type 0) → ℕ → List (ℕ × A) → Type 0
Each P n [] = Unit
Each P n (r ∷ rs) = (n ≡ r.0 → P r.1) × Each P n rs

pub pick-each : {A : Type 0} (P : A → Type 0) (n : ℕ) (table : List (ℕ × A)) (d : A) → Each P n table → P d
    → P (pick n table d)
pick-each P n [] d each last = last
pick-each P n (r ∷ rs) d each last =
    by_test (eqb n r.0) (λ h. rw h (each.0 (eqb-true n r.0 h))) (λ h. rw h (pick-each P n rs d each.1 last))

-- a number is none of the table's keys, as a match leaves it: one key after another
abbrev pub Apart : {A : Type 0} → ℕ → Type 0 → List (ℕ × A) → Type 0
Apart n Z [] = Z
Apart n Z (r ∷ rs) = Apart n (Z × (n ≡ r.0 → ⊥)) rs

apart-before : {A : Type 0} (n : ℕ) (Z : Type 0) (table : List (ℕ × A)) → Apart n Z table → Z
apart-before n Z [] a = a
apart-before n Z (r ∷ rs) a = (apart-before n (Z × (n ≡ r.0 → ⊥)) rs a).0

pub pick-none : {A : Type 0} (n : ℕ) (Z : Type 0) (table : List (ℕ × A)) (d : A) → Apart n Z table
    → pick n table d ≡ d
pick-none n Z [] d a = refl
pick-none n Z (r ∷ rs) d a =
    let here = apart-before n (Z × (n ≡ r.0 → ⊥)) rs a in
    rw (ne_eqb n r.0 here.1) (pick-none n (Z × (n ≡ r.0 → ⊥)) rs d a)

-- a test tells a number from every key of the table
abbrev pub outside : {A : Type 0} → (ℕ → Bool) → List (ℕ × A) → Bool
outside test [] = true
outside test (r ∷ rs) = not (test r.0) && outside test rs

pub eqb-outside : (test : ℕ → Bool) (n k : ℕ) → test n ≡ true → test k ≡ false → eqb n k ≡ false
eqb-outside test n k h q = ne_eqb n k (λ e. false≢true (sym q ∙ (rw e at h)))

pub pick-outside : {A : Type 0} (test : ℕ → Bool) (n : ℕ) (table : List (ℕ × A)) (d : A) → test n ≡ true
    → outside test table ≡ true
    → pick n table d ≡ d
pick-outside test n [] d h o = refl
pick-outside test n (r ∷ rs) d h o =
    let b = both_hold (not (test r.0)) (outside test rs) o in
    rw (eqb-outside test n r.0 h (not-true (test r.0) b.0)) (pick-outside test n rs d h b.1)

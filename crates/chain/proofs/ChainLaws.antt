-- Blocks in a buffer, and the chain over them, block by block.
use mathlib.Core.Path.{◌≡◌, refl, sym, ap, ap₂, fun_ext, ◌∙◌}
use mathlib.Core.List.{List, ◌++◌, append_assoc}
use Prim.Native.Nat.{ℕ, zero, suc, ◌+◌, ◌-◌, ◌*◌, ◌/◌, ◌≤◌, ◌<◌}
use native.Mathlib.Nat.{sub-zero}
use native.Mathlib.Omega.{arith}
use lib.ListN.{length, take, drop, length-append, take-append-drop}
use lib.Seq.{take_at, drop_at, drop-drop, length-take-le}
use Rattle.field.specs.Field.{◌⊕◌}
use Rattle.lists.specs.Parts.{part_at, put_at}
use Rattle.lists.proofs.PartLaws.{length-put}
use Rattle.aes_standard.specs.State.{at, state, plus}
use Rattle.aes_standard.specs.Cipher.{cipher, inv_cipher}
use Rattle.schedule.specs.Inverse.{InverseKeys}
use Rattle.rounds.specs.Ways.{flipped, eq_inv_cipher}
use Rattle.chain.specs.Equivalent.{eq_decrypt}
use Rattle.aes_standard.specs.Schedule.{key_expansion}
use Rattle.schedule.proofs.InverseLaws.{eq_inv_cipher-inv_cipher}
use Rattle.aes_standard.specs.Chain.{chained, unchained, absorbed, last_of_chain, cbc_decrypt}
use Rattle.columns.proofs.StoreLaws.{state-part_at}

-- what stands before and behind a part that was replaced
pub take-put_at : (a k : ℕ) (x l : List ℕ) → length x ≡ k → a ≤ length l
    → take (a + k) (put_at a k x l) ≡ take a l ++ x
unfolding put_at
take-put_at a k x l e h =
    ap (take (a + k)) (sym (append_assoc (take a l) x (drop k (drop a l))))
    ∙ take_at (take a l ++ x) (drop k (drop a l)) (a + k)
    (length-append (take a l) x ∙ ap₂ ◌+◌ (length-take-le a l h) e)

pub drop-put_at : (a k : ℕ) (x l : List ℕ) → length x ≡ k → a ≤ length l
    → drop (a + k) (put_at a k x l) ≡ drop k (drop a l)
unfolding put_at
drop-put_at a k x l e h =
    ap (drop (a + k)) (sym (append_assoc (take a l) x (drop k (drop a l))))
    ∙ drop_at (take a l ++ x) (drop k (drop a l)) (a + k)
    (length-append (take a l) x ∙ ap₂ ◌+◌ (length-take-le a l h) e)

-- the front of a buffer, and what f makes of the rest: the same after one more block c, where f takes c off
after_advance : (f g : List ℕ → List ℕ) (i : ℕ) (l c : List ℕ) → length c ≡ 16
    → i * 16 + 16 ≤ length l
    → f (drop (i * 16) l) ≡ c ++ g (drop 16 (drop (i * 16) l))
    → take (i * 16) l ++ f (drop (i * 16) l)
    ≡ take ((i + 1) * 16) (put_at (i * 16) 16 c l) ++ g (drop ((i + 1) * 16) (put_at (i * 16) 16 c l))
after_advance f g i l c e h step =
    let next : i * 16 + 16 ≡ (i + 1) * 16 = omega arith in
    ap (λ (r : List ℕ). take (i * 16) l ++ r) step
    ∙ sym (append_assoc (take (i * 16) l) c (g (drop 16 (drop (i * 16) l))))
    ∙ sym (ap₂ (λ (p q : List ℕ). p ++ g q) (take-put_at (i * 16) 16 c l e (omega arith))
    (drop-put_at (i * 16) 16 c l e (omega arith)))
    ∙ ap (λ (k : ℕ). take k (put_at (i * 16) 16 c l) ++ g (drop k (put_at (i * 16) 16 c l))) next

-- a loop over the blocks of a buffer after i of them: the answer is what stands in front, and what is still to be made
-- of the rest
pub record After (i : ℕ) (answer whole l : List ℕ) (rest : List ℕ → List ℕ) : Type 0 where
  pub size : length l ≡ length whole
  pub is : answer ≡ take (i * 16) l ++ rest (drop (i * 16) l)

pub after_none : (n : ℕ) (l : List ℕ) (rest : ℕ → List ℕ → List ℕ)
    → After 0 (rest n l) l l (rest (n - 0))
after_none n l rest = rw (sub-zero n) (record { size = refl; is = refl })

pub after_more : (i n : ℕ) (answer whole l c l' : List ℕ) (f g : List ℕ → List ℕ) → i < n
    → n ≡ length whole / 16
    → length c ≡ 16
    → l' ≡ put_at (i * 16) 16 c l → f (drop (i * 16) l) ≡ c ++ g (drop 16 (drop (i * 16) l))
    → After i answer whole l f → After (i + 1) answer whole l' g
after_more i n answer whole l c l' f g lt blocks e put step before =
    let fits : i * 16 + 16 ≤ length l = omega (arith, before.size) in
    rw put (record {
      size = length-put (i * 16) 16 c l e fits ∙ before.size;
      is = before.is ∙ after_advance f g i l c e fits step;
    })

pub after-all : (i : ℕ) (answer whole l : List ℕ) (rest : List ℕ → List ℕ)
    → ((r : List ℕ) → rest r ≡ r)
    → After i answer whole l rest → l ≡ answer
after-all i answer whole l rest none h =
    sym (h.is ∙ ap (λ (r : List ℕ). take (i * 16) l ++ r) (none (drop (i * 16) l))
    ∙ take-append-drop (i * 16) l)

-- one block of each chain
pub chained-one : (w : List ℕ) (n i : ℕ) (before l c : List ℕ) → i < n
    → c ≡ cipher w (plus before (part_at (i * 16) 16 l))
    → chained w (n - i) before (drop (i * 16) l) ≡ c ++ chained w (n - (i + 1)) c (drop 16 (drop (i * 16) l))
unfolding chained part_at
chained-one w n i before l c lt e =
    let less : n - i ≡ suc (n - (i + 1)) = omega arith in
    rw (less, e)

pub unchained-one : (inv : List ℕ → List ℕ) (n i : ℕ) (before l c p : List ℕ) → i < n
    → c ≡ part_at (i * 16) 16 l
    → p ≡ plus (inv (part_at (i * 16) 16 l)) before
    → unchained inv (n - i) before (drop (i * 16) l) ≡ p
    ++ unchained inv (n - (i + 1)) c (drop 16 (drop (i * 16) l))
unfolding unchained part_at
unchained-one inv n i before l c p lt e f =
    let less : n - i ≡ suc (n - (i + 1)) = omega arith in
    rw (less, f, e)

pub absorbed-one : (w : List ℕ) (n i : ℕ) (before l c : List ℕ) → i < n
    → c ≡ cipher w (plus before (part_at (i * 16) 16 l))
    → absorbed w (n - i) before (drop (i * 16) l) ≡ absorbed w (n - (i + 1)) c (drop ((i + 1) * 16) l)
unfolding absorbed part_at
absorbed-one w n i before l c lt e =
    let less : n - i ≡ suc (n - (i + 1)) = omega arith in
    let next : (i + 1) * 16 ≡ i * 16 + 16 = omega arith in
    rw (less, e, next, ← drop-drop 16 (i * 16) l)

-- no block left
pub chained-none : (w : List ℕ) (n i : ℕ) (before r : List ℕ) → i ≡ n → chained w (n - i) before r ≡ r
unfolding chained
chained-none w n i before r e = let none : n - i ≡ 0 = omega arith in rw none

pub unchained-none : (inv : List ℕ → List ℕ) (n i : ℕ) (before r : List ℕ) → i ≡ n
    → unchained inv (n - i) before r ≡ r
unfolding unchained
unchained-none inv n i before r e = let none : n - i ≡ 0 = omega arith in rw none

pub absorbed-none : (w : List ℕ) (n i : ℕ) (before r : List ℕ) → i ≡ n
    → absorbed w (n - i) before r ≡ before
unfolding absorbed
absorbed-none w n i before r e = let none : n - i ≡ 0 = omega arith in rw none

-- a chain looks at sixteen bytes of the block before it, and no further
pub chained-from : (w : List ℕ) (n : ℕ) (iv l : List ℕ) → chained w n (state (at iv)) l ≡ chained w n iv l
unfolding chained plus
chained-from w zero iv l = refl
chained-from w (suc n) iv l = refl

pub unchained-from : (inv : List ℕ → List ℕ) (n : ℕ) (iv l : List ℕ)
    → unchained inv n (state (at iv)) l ≡ unchained inv n iv l
unfolding unchained plus
unchained-from inv zero iv l = refl
unchained-from inv (suc n) iv l = refl

pub absorbed-from : (w : List ℕ) (n : ℕ) (iv l : List ℕ) → 0 < n → absorbed w n (state (at iv)) l ≡ absorbed
    w n iv l
unfolding absorbed plus
absorbed-from w zero iv l h = absurd (omega arith)
absorbed-from w (suc n) iv l h = refl

-- the code's way to the next block of a chain
pub link_is : (w l : List ℕ) (k : ℕ) (before x y r : List ℕ) → k + 16 ≤ length l
    → x ≡ state (λ i. at l (k + i))
    → y ≡ state (λ i. at before i ⊕ at x i) → r ≡ cipher w y → r ≡ cipher w (plus before (part_at k 16 l))
unfolding plus
link_is w l k before x y r h load add run = run
    ∙ ap (cipher w) (add ∙ ap (plus before) (load ∙ state-part_at l k h))

-- the code's way back from a block of a chain: its columns, the second and the fourth changed about, plus those of the
-- block before
pub unlink_is : (v l x : List ℕ) (k : ℕ) (z f before r : List ℕ) → k + 16 ≤ length l
    → x ≡ state (λ i. at l (k + i)) → f ≡ flipped z → r ≡ state (λ i. at f i ⊕ at before i)
    → flipped z ≡ eq_inv_cipher v x
    → r ≡ plus (eq_inv_cipher v (part_at k 16 l)) before
unfolding plus
unlink_is v l x k z f before r h load turn add run = add
    ∙ ap (λ (s : List ℕ). plus s before) (turn ∙ run ∙ ap (eq_inv_cipher v) (load ∙ state-part_at l k h))

-- the start of a chain's last block, and a list with no whole block
pub absorbed-start : (w : List ℕ) (n : ℕ) (before l : List ℕ)
    → absorbed w n before l ≡ absorbed w (n - 0) before (drop (0 * 16) l)
absorbed-start w n before l = ap (λ (k : ℕ). absorbed w k before l) (sym (sub-zero n))

pub last_of_chain-none : (w before l : List ℕ) → length l / 16 ≡ 0 → before ≡ last_of_chain w before l
unfolding last_of_chain absorbed
last_of_chain-none w before l e = rw e

-- CBC decryption by the equivalent inverse cipher is CBC decryption
pub eq_decrypt-cbc_decrypt : (key w v iv l : List ℕ) → w ≡ key_expansion key → InverseKeys 11 w v
    → eq_decrypt v iv l ≡ cbc_decrypt (key_expansion key) iv l
unfolding eq_decrypt cbc_decrypt
eq_decrypt-cbc_decrypt key w v iv l schedule keys =
    ap (λ (inv : List ℕ → List ℕ). unchained inv (length l / 16) iv l) (fun_ext (eq_inv_cipher-inv_cipher w v keys))
    ∙ ap (λ (k : List ℕ). unchained (inv_cipher k) (length l / 16) iv l) schedule

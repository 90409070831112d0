-- What the code makes on its way to a MAC is what the standard says: the last block and the MAC.
use mathlib.Core.Path.{◌≡◌, refl, ap, ap₂, ◌∙◌}
use mathlib.Core.List.{List, ◌++◌, append-nil}
use Prim.Native.Nat.{ℕ, suc, ◌-◌, ◌≤◌}
use native.Mathlib.Omega.{arith}
use borrow.Author.Tests.{eq-eqb, ne_eqb}
use lib.ListN.{length, take, drop, set, replicate, length-drop}
use Rattle.std.proofs.lemmas.List.{drop-replicate}
use lib.Seq.{take_all, set_at}
use Rattle.lists.specs.Bytes.{zeros}
use Rattle.aes_standard.specs.State.{plus}
use Rattle.aes_standard.specs.Cipher.{cipher}
use Rattle.aes_standard.specs.Chain.{last_of_chain}
use Rattle.cmac.specs.Subkeys.{doubled, subkey1, subkey2}
use Rattle.cmac.specs.Cmac.{before_last, padded, last_block, cmac}

-- a message that was copied in front of zeros
copied : (m b : List ℕ) → b ≡ m → b ++ drop (length m) (replicate 16 0) ≡ m ++ replicate (16 - length m) 0
copied m b e = ap₂ ◌++◌ e (drop-replicate (length m) 16 0)

-- a whole last block
pub last_whole : (k1 k2 m b r : List ℕ) → length m ≡ 16 → b ≡ m
    → r ≡ plus (b ++ drop (length m) (replicate 16 0)) k1 → r ≡ last_block k1 k2 m
unfolding last_block
last_whole k1 k2 m b r size copy add =
    let rest : 16 - length m ≡ 0 = omega arith in
    add
    ∙ ap (λ (l : List ℕ). plus l k1) (copied m b copy ∙ ap (λ (n : ℕ). m ++ replicate {A = ℕ} n 0) rest
    ∙ append-nil m)
    ∙ rw (eq-eqb (length m) 16 size)

-- a last block that is padded
pub last-padded : (k1 k2 m b r : List ℕ) → length m ≤ 16 → (length m ≡ 16 → ⊥) → b ≡ m
    → r ≡ plus (set (b ++ drop (length m) (replicate 16 0)) (length m) 0x80) k2 → r ≡ last_block k1 k2 m
unfolding last_block padded zeros
last-padded k1 k2 m b r small part copy add =
    let rest : 16 - length m ≡ suc (15 - length m) = omega arith in
    add
    ∙ ap (λ (l : List ℕ). plus (set l (length m) 0x80) k2) (copied m b copy
    ∙ ap (λ (n : ℕ). m ++ replicate n 0) rest)
    ∙ ap (λ (l : List ℕ). plus l k2) (set_at m 0 (replicate (15 - length m) 0) 0x80 (length m) refl)
    ∙ rw (ne_eqb (length m) 16 part)

-- the MAC
pub signed : (w m k1 before last x r : List ℕ) (n : ℕ) → n ≡ before_last (length m) → k1 ≡ subkey1 w
    → before ≡ last_of_chain w (replicate 16 0) (take n m)
    → last ≡ last_block k1 (doubled k1) (take (length m - n) (drop n m)) → x ≡ plus before last
    → r ≡ cipher w x → r ≡ cmac w m
unfolding cmac subkey2 zeros
signed w m k1 before last x r n split key chain end add run =
    run ∙ ap (cipher w) (add ∙ ap₂ plus (chain ∙ ap (λ (k : ℕ). last_of_chain w (replicate 16 0) (take k m))
    split)
    (end ∙ ap (λ (t : List ℕ). last_block k1 (doubled k1) t)
    (take_all (length m - n) (drop n m) (rw (length-drop n m) (omega arith)))
    ∙ ap₂ (λ (k : List ℕ) (j : ℕ). last_block k (doubled k) (drop j m)) key split))

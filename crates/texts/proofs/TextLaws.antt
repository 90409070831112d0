-- Numbers as bytes the way the code writes them, and a text laid down part by part.
use mathlib.Core.Path.{◌≡◌, sym, ap, ap₂, ◌∙◌}
use mathlib.Core.List.{List, [], ◌∷◌, ◌++◌, append-nil}
use Prim.Native.Nat.{ℕ, zero, suc, ◌+◌, ◌-◌, ◌/◌, ◌%◌, ◌^◌}
use native.Mathlib.Nat.{div-div-eq-div-mul, pow-suc}
use native.Mathlib.Omega.{arith}
use lib.ListN.{length, drop, set, replicate, length-drop, length-set, drop_of_length-le}
use lib.Seq.{take_at, drop_at}
use Rattle.std.specs.Int.{w64, to_be_bytes, from_be_bytes}
use Rattle.lists.specs.Parts.{put_at}
use Rattle.lists.specs.Words.{little, big, little_bytes, big_bytes}
use Rattle.lists.proofs.PartLaws.{length-put}
use Rattle.lists.proofs.WordLaws.{length-big_bytes}
use Rattle.aes_standard.specs.State.{at}
use Rattle.aes_standard.proofs.StateLaws.{tabulate, tabulated}

-- dividing by 256 again and again
abbrev divided : ℕ → ℕ → ℕ
divided zero x = x
divided (suc k) x = divided k x / 256

divided_power : (k x : ℕ) → x / 256 ^ k ≡ divided k x
divided_power zero x = omega arith
divided_power (suc k) x =
    ap (λ (n : ℕ). x / n) (pow-suc 256 k) ∙ sym (div-div-eq-div-mul x (256 ^ k) 256)
    ∙ ap (λ (y : ℕ). y / 256) (divided_power k x)

-- byte k of a number, counted from the lowest, as the code takes it
byte_from : (x k : ℕ) → x / 256 ^ k % 256 ≡ divided k x % 256
byte_from x k = ap (λ (y : ℕ). y % 256) (divided_power k x)

-- a word's eight bytes by the library
pub big-is : (x : ℕ) → to_be_bytes w64 x ≡ big_bytes 8 x
unfolding big_bytes little_bytes
big-is x i =
    byte_from x 7 i ∷ byte_from x 6 i ∷ byte_from x 5 i ∷ byte_from x 4 i ∷ byte_from x 3 i ∷ byte_from x 2 i
    ∷ x / 256 % 256 ∷ x % 256 ∷ []

-- two words' bytes, laid down one after the other
pub pair_is : (x y : ℕ) (p q : List ℕ) → p ≡ to_be_bytes w64 x → q ≡ to_be_bytes w64 y
    → put_at 8 8 q (p ++ replicate 8 0) ≡ big_bytes 8 x ++ big_bytes 8 y
unfolding put_at
pair_is x y p q e f =
    ap₂ (λ (l m : List ℕ). put_at 8 8 m (l ++ replicate 8 0)) e f ∙ ap₂ ◌++◌ (big-is x) (big-is y)

-- a byte, eight bytes and the rest, laid down one after the other
pub text_laid : (prefix address : ℕ) (bytes out : List ℕ) → length out ≡ 9 + length bytes
    → put_at 9 (length bytes) bytes (put_at 1 8 (big_bytes 8 address) (set out 0 prefix)) ≡ prefix
    ∷ (big_bytes 8 address ++ bytes)
unfolding put_at
text_laid prefix address bytes [] h = absurd (omega arith)
text_laid prefix address bytes (x ∷ out) h =
    let a = big_bytes 8 address in
    let e : length a ≡ 8 = length-big_bytes 8 address in
    ap₂ (λ (p q : List ℕ). prefix ∷ (p ++ (bytes ++ drop (length bytes) q))) (take_at a (drop 8 out) 8 e)
    (drop_at a (drop 8 out) 8 e)
    ∙ ap (λ (r : List ℕ). prefix ∷ (a ++ (bytes ++ r)))
    (drop_of_length-le (drop 8 out) {i = length bytes} (omega (arith, length-drop 8 out)))
    ∙ ap (λ (r : List ℕ). prefix ∷ (a ++ r)) (append-nil bytes)

-- the code's way to the text that is signed
pub text_is : (prefix address : ℕ) (bytes out p q : List ℕ) → length out ≡ 9 + length bytes
    → p ≡ to_be_bytes w64 address → q ≡ bytes
    → let l = put_at 1 8 p (set out 0 prefix) in
    put_at 9 (length l - 9) q l ≡ prefix ∷ (big_bytes 8 address ++ bytes)
text_is prefix address bytes out p q h e f =
    let a : p ≡ big_bytes 8 address = e ∙ big-is address in
    let l = put_at 1 8 p (set out 0 prefix) in
    let size : length l ≡ length out =
    length-put 1 8 p (set out 0 prefix) (ap length a ∙ length-big_bytes 8 address) (omega (arith, length-set out 0 prefix))
    ∙ length-set out 0 prefix in
    let rest : length l - 9 ≡ length bytes = omega (arith, size, h) in
    ap₂ (λ (n : ℕ) (b : List ℕ). put_at 9 n b l) rest f
    ∙ ap (λ (b : List ℕ). put_at 9 (length bytes) bytes (put_at 1 8 b (set out 0 prefix))) a
    ∙ text_laid prefix address bytes out h

-- the word of eight bytes, by the library
pub word-is : (l : List ℕ) → length l ≡ 8 → from_be_bytes w64 l ≡ big l
unfolding big little
word-is l size =
    let eight : l ≡ tabulate 8 (at l) = tabulated 8 l size in
    ap (from_be_bytes w64) eight ∙ omega arith ∙ sym (ap big eight)

-- The registers as the code hashes and hides them, one after the other.
use mathlib.Core.Path.{◌≡◌, refl, sym, ap, ap₂, ◌∙◌}
use mathlib.Core.List.{List, [], ◌∷◌, ◌++◌, append_assoc, append-nil}
use mathlib.Core.Logic.{⊎_elim}
use Prim.Native.Nat.{ℕ, zero, suc, ◌+◌, ◌-◌, ◌*◌, ◌≤◌, ◌<◌}
use native.Mathlib.Nat.{add-zero, add_assoc, add_comm, zero-mul, suc-mul, eq-or-lt_of_le}
use native.Mathlib.Numerals.{add-one}
use native.Mathlib.Omega.{arith}
use lib.Bits.{bit_xor}
use lib.ListN.{length, take, drop, get_or, set, length-set, drop_of_length-le}
use lib.Seq.{take_all, drop-cons, get_or-set_same, get_or-set_other, ext_get_or}
use Rattle.lists.specs.Parts.{part_at, put_at}
use Rattle.lists.specs.Words.{big, big_bytes, words_bytes, xored, xored_behind}
use Rattle.lists.proofs.PartLaws.{length-put}
use Rattle.lists.proofs.WordLaws.{length-big_bytes}
use Rattle.std.specs.Int.{w64, w128, to_be_bytes, from_be_bytes}
use Rattle.aes_standard.proofs.RoundTrip.{cipher-length}
use Rattle.field.specs.Field.{◌⊕◌}
use Rattle.aes_standard.specs.State.{at, plus}
use Rattle.aes_standard.specs.Schedule.{key_expansion}
use Rattle.aes_standard.specs.Cipher.{cipher}
use Rattle.cmac.proofs.Numbers.{number-added, number-bytes}
use Rattle.chain.proofs.ChainLaws.{take-put_at}
use Rattle.cmac.specs.Subkeys.{last_byte}
use Rattle.sealing.specs.Lines.{line_key}
use Rattle.sealing.specs.Stream.{counted, stream_from, stream}
use Rattle.texts.proofs.TextLaws.{big-is}

-- the code's hash with a number in its last byte
pub count-is : (h r : List ℕ) (x j : ℕ) → ((i : ℕ) → at h i < 256) → j < 256 → x ≡ from_be_bytes w128 h
    → r ≡ to_be_bytes w128 (x ⊕ j) → r ≡ counted h j
unfolding counted plus
count-is h r x j bytes small number store =
    store ∙ number-added x j small
    ∙ ap (λ (b : List ℕ). plus b (last_byte j)) (ap (to_be_bytes w128) number ∙ number-bytes h bytes)

-- the text of the hash as far as register i: what stands in front, and the registers behind
pub record TextTo (i : ℕ) (r m : List ℕ) : Type 0 where
  pub size : length m ≡ 249
  pub is : take (i * 8 - 7) m ++ words_bytes 8 (drop i r) ≡ 4 ∷ words_bytes 8 (drop 1 r)

pub text_more : (i n : ℕ) (r m a : List ℕ) → 1 ≤ i → i < 32 → length r ≡ 32 → n ≡ 8
    → a ≡ to_be_bytes w64 (get_or r i 0) → TextTo i r m → TextTo (i + 1) r (put_at (i * 8 - 7) n a m)
unfolding words_bytes
text_more i n r m a low high size count number before =
    let e : a ≡ big_bytes 8 (get_or r i 0) = number ∙ big-is (get_or r i 0) in
    let eight : length a ≡ 8 = ap length e ∙ length-big_bytes 8 (get_or r i 0) in
    let next : (i + 1) * 8 - 7 ≡ i * 8 - 7 + 8 = omega arith in
    let put8 : put_at (i * 8 - 7) n a m ≡ put_at (i * 8 - 7) 8 a m = rw count in
    record {
      size = ap length put8 ∙ length-put (i * 8 - 7) 8 a m eight (omega (arith, before.size)) ∙ before.size;
      is =
          ap₂ (λ (n : ℕ) (l : List ℕ). take n l ++ words_bytes 8 (drop (i + 1) r)) next put8
          ∙ ap (λ (l : List ℕ). l ++ words_bytes 8 (drop (i + 1) r))
          (take-put_at (i * 8 - 7) 8 a m eight (omega (arith, before.size)))
          ∙ append_assoc (take (i * 8 - 7) m) a (words_bytes 8 (drop (i + 1) r))
          ∙ ap (λ (l : List ℕ). take (i * 8 - 7) m ++ l)
          (ap (λ (l : List ℕ). l ++ words_bytes 8 (drop (i + 1) r)) e
          ∙ ap (λ (n : ℕ). big_bytes 8 (get_or r i 0) ++ words_bytes 8 (drop n r)) (add-one i)
          ∙ ap (words_bytes 8) (sym (drop-cons r i 0 (omega arith))))
          ∙ before.is;
    }

pub text_all : (i : ℕ) (r m : List ℕ) → i ≡ 32 → length r ≡ 32 → TextTo i r m → m ≡ 4
    ∷ words_bytes 8 (drop 1 r)
unfolding words_bytes
text_all i r m e size h =
    sym (append-nil m)
    ∙ ap₂ (λ (l q : List ℕ). l ++ words_bytes 8 q)
    (sym (take_all (i * 8 - 7) m (omega (arith, h.size)))) (sym (drop_of_length-le r {i = i} (omega arith)))
    ∙ h.is

-- the key stream as far as block j
pub record StreamTo (j : ℕ) (w h s : List ℕ) : Type 0 where
  pub size : length s ≡ 256
  pub is : take (j * 16) s ++ stream_from w h (16 - j) j ≡ stream_from w h 16 0

pub stream_more : (j n : ℕ) (w h s b : List ℕ) → j < 16 → n ≡ 16 → b ≡ cipher w (counted h j)
    → StreamTo j w h s → StreamTo (j + 1) w h (put_at (j * 16) n b s)
unfolding stream_from
stream_more j n w h s b lt count run before =
    let next : (j + 1) * 16 ≡ j * 16 + 16 = omega arith in
    let less : 16 - j ≡ suc (16 - (j + 1)) = omega arith in
    let sixteen : length b ≡ 16 = ap length run ∙ cipher-length w (counted h j) in
    let put16 : put_at (j * 16) n b s ≡ put_at (j * 16) 16 b s = rw count in
    record {
      size = ap length put16 ∙ length-put (j * 16) 16 b s sixteen (omega (arith, before.size)) ∙ before.size;
      is =
          ap₂ (λ (n : ℕ) (l : List ℕ). take n l ++ stream_from w h (16 - (j + 1)) (j + 1)) next put16
          ∙ ap (λ (l : List ℕ). l ++ stream_from w h (16 - (j + 1)) (j + 1))
          (take-put_at (j * 16) 16 b s sixteen (omega (arith, before.size)))
          ∙ append_assoc (take (j * 16) s) b (stream_from w h (16 - (j + 1)) (j + 1))
          ∙ ap (λ (l : List ℕ). take (j * 16) s ++ (l ++ stream_from w h (16 - (j + 1)) (j + 1))) run
          ∙ ap (λ (n : ℕ). take (j * 16) s ++ stream_from w h n j) (sym less)
          ∙ before.is;
    }

stream-none : (w h : List ℕ) (j : ℕ) → j ≡ 16 → stream_from w h (16 - j) j ≡ []
unfolding stream_from
stream-none w h j e = let none : 16 - j ≡ 0 = omega arith in rw none

pub stream-all : (drk : List ℕ) (j : ℕ) (k w h s : List ℕ) → j ≡ 16 → k ≡ line_key drk
    → w ≡ key_expansion k
    → StreamTo j w h s → s ≡ stream drk h
unfolding stream
stream-all drk j k w h s e key words to =
    sym (append-nil s)
    ∙ ap₂ (λ (l q : List ℕ). l ++ q) (sym (take_all (j * 16) s (omega (arith, to.size))))
    (sym (stream-none w h j e))
    ∙ to.is ∙ ap (λ (z : List ℕ). stream_from z h 16 0) (words ∙ ap key_expansion key)

-- words under a key stream, one by one
xored-at : (k : ℕ) (s : List ℕ) (i : ℕ) (l : List ℕ) (j : ℕ) → j < length l
    → get_or (xored k s i l) j 0 ≡ bit_xor (get_or l j 0) (big (part_at (i + j * k) k s))
unfolding xored
xored-at k s i [] j h = absurd (omega arith)
xored-at k s i (x ∷ l) zero h = ap (λ (n : ℕ). bit_xor x (big (part_at n k s)))
    (sym (ap (λ (n : ℕ). i + n) (zero-mul k) ∙ add-zero i))
xored-at k s i (x ∷ l) (suc j) h =
    xored-at k s (i + k) l j (omega arith)
    ∙ ap (λ (n : ℕ). bit_xor (get_or l j 0) (big (part_at n k s)))
    (add_assoc i k (j * k) ∙ ap (λ (n : ℕ). i + n) (add_comm k (j * k) ∙ sym (suc-mul j k)))

xored-length : (k : ℕ) (s : List ℕ) (i : ℕ) (l : List ℕ) → length (xored k s i l) ≡ length l
unfolding xored
xored-length k s i [] = refl
xored-length k s i (x ∷ l) = ap suc (xored-length k s (i + k) l)

-- the registers hidden as far as register i
pub record HiddenTo (i : ℕ) (s r q : List ℕ) : Type 0 where
  pub size : length q ≡ 32
  pub first : get_or q 0 0 ≡ get_or r 0 0
  pub done : (p : ℕ) → 1 ≤ p → p < i → get_or q p 0 ≡ bit_xor (get_or r p 0) (big (part_at (p * 8 - 8) 8 s))
  pub rest : (p : ℕ) → i ≤ p → get_or q p 0 ≡ get_or r p 0

pub hidden-none : (s r : List ℕ) → length r ≡ 32 → HiddenTo 1 s r r
hidden-none s r size =
    record { size = size; first = refl; done = λ p low high. absurd (omega arith); rest = λ p low. refl }

pub hidden_more : (i : ℕ) (s r q : List ℕ) (x : ℕ) → 1 ≤ i → i < 32 → x ≡ big (part_at (i * 8 - 8) 8 s)
    → HiddenTo i s r q
    → HiddenTo (i + 1) s r (set q i (bit_xor (get_or q i 0) x))
hidden_more i s r q x low high e h =
    record {
      size = length-set q i _ ∙ h.size;
      first = get_or-set_other q i 0 _ 0 (omega arith) ∙ h.first;
      done = λ p l below. ⊎_elim
          (λ (same : p ≡ i). rw (same, get_or-set_same q i (bit_xor (get_or q i 0) x) 0 (omega (arith, h.size)), e)
          (ap (λ (n : ℕ). bit_xor n (big (part_at (i * 8 - 8) 8 s))) (h.rest i (omega arith))))
          (λ (lt : p < i). get_or-set_other q i p (bit_xor (get_or q i 0) x) 0 (omega arith) ∙ h.done p l lt)
          (eq-or-lt_of_le (omega arith));
      rest = λ p l. get_or-set_other q i p (bit_xor (get_or q i 0) x) 0 (omega arith) ∙ h.rest p (omega arith);
    }

pub hidden-all : (i : ℕ) (s r q : List ℕ) → i ≡ 32 → length r ≡ 32 → HiddenTo i s r q
    → q ≡ xored_behind 8 s r
unfolding xored_behind
hidden-all i s [] q e size h = absurd (omega arith)
hidden-all i s (z ∷ r) q e size h =
    ext_get_or 0 q (z ∷ xored 8 s 0 r) (h.size ∙ sym (ap suc (xored-length 8 s 0 r) ∙ size)) each
  where
    each : (p : ℕ) → p < length q → get_or q p 0 ≡ get_or (z ∷ xored 8 s 0 r) p 0
    each zero lt = h.first
    each (suc p) lt =
        h.done (suc p) (omega arith) (omega (arith, h.size))
        ∙ ap (λ (n : ℕ). bit_xor (get_or r p 0) (big (part_at n 8 s))) (omega arith)
        ∙ sym (xored-at 8 s 0 r p (omega (arith, h.size)))

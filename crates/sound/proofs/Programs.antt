-- Every instruction's program is sound: its requests name lines of memory, keep lines lines and change no signed
-- code. No hypothesis on the program in memory.
use Prim.Native.Nat.{ℕ, zero, suc, ◌+◌, ◌*◌, ◌/◌, ◌%◌, ◌<◌, ◌≤◌}
use native.Mathlib.Nat.{mod-add-div', mul_assoc, add-mul-mod_self_right, mul-le-mul_right, suc-mul, mul-zero}
use native.Mathlib.Nat.{lt_of_mul-lt-mul_right}
use native.Mathlib.Omega.{arith}
use mathlib.Core.Path.{◌≡◌, refl, sym, ap, ◌∙◌, subst}
use mathlib.Core.Bool.{Bool, true, false, not, ◌&&◌, false≢true}
use mathlib.Core.List.{List, [], ◌∷◌}
use lib.ListN.{length-append}
use lib.Dec.{eqb, leb, ltb}
use borrow.Author.Tests.{eqb-true, eqb-false, leb-false, ltb-false, not-false}
use Rattle.lists.specs.If.{if}
use Rattle.lists.specs.Words.{little_bytes, big_bytes}
use Rattle.lists.proofs.Cases.{by_test}
use Rattle.lists.proofs.PartLaws.{length-put}
use Rattle.lists.proofs.ByteLaws.{bytes-put, bytes-append}
use Rattle.lists.proofs.WordLaws.{length-little_bytes, bytes-little_bytes, length-big_bytes, bytes-big_bytes}
use Rattle.model.specs.Tags.{Tag, no_tag, secure_instruction, secure_data, is_data, is_checked}
use Rattle.model.specs.Cipher.{Cipher}
use Rattle.model.specs.CipherLaws.{Sized}
use Rattle.model.specs.Requests.{Prog, ret, ask, and_then}
use Rattle.keeps.specs.Sound.{fair_access, fair_rekey, Sound, sound_ret, sound_ask}
use Rattle.instructions.specs.Rules.{first_of, one_of}
use Rattle.instructions.specs.Board.{Board}
use Rattle.instructions.specs.Record.{Processor, active}
use Rattle.instructions.specs.Fields.{opcode}
use Rattle.instructions.specs.Operations.{Ra, Rb, address, key_from}
use Rattle.instructions.specs.Faults.{fetch_fault, thread_faults, opcode_faults, address_faults, decode_fault, has_address}
use Rattle.instructions.specs.Wishes.{Wish, idle, word, new_key, Got, grant}
use Rattle.instructions.specs.Step.{Stepped, fetch_of, fetch_wish, known_fault, wishes, wish_for, data_wish, finished}
use Rattle.instructions.specs.Step.{instruction}
use Rattle.instructions.proofs.RuleLaws.{first_of-none, first_of_neither, pick-each}

-- a program and then another are sound if both are
pub sound_then : {A B : Type 0} (N : ℕ) (p : Prog A) (f : A → Prog B) → Sound N p → ((a : A) → Sound N (f a))
    → Sound N (and_then p f)
unfolding and_then
sound_then N (ret a) f sound_ret g = g a
sound_then N (ask q k) f (sound_ask h s) g = sound_ask h (λ r. sound_then N (k r) f (s r) g)

-- what is asked of a wish
pub data FairWish (N : ℕ) : Wish → Type 0 where
  fair_idle : FairWish N idle
  fair_word : {tag : Tag} {a k : ℕ} {write : Bool} {v : ℕ} → a / 64 < N → a % 64 + k ≤ 64
      → (write ≡ true → tag ≡ secure_instruction → ⊥) → FairWish N (word tag a k write v)
  fair_new_key : {key : List ℕ} → Sized 16 key → FairWish N (new_key key)

pub grant_sound : (N : ℕ) (wish : Wish) → FairWish N wish → Sound N (grant wish)
unfolding grant
grant_sound N idle fair_idle = sound_ret
grant_sound N (word tag a k write v) (fair_word h o t) =
    sound_ask
    (fair_access h t
    (λ l z. length-put (a % 64) k (little_bytes k v) l (length-little_bytes k v) (rw z o) ∙ z)
    (λ l b. bytes-put (a % 64) k (little_bytes k v) l (bytes-little_bytes k v) b))
    (λ r. sound_ret)
grant_sound N (new_key key) (fair_new_key z) = sound_ask (fair_rekey z) (λ r. sound_ret)

-- the law of rules in a row by the name that callers know
pub none_first : (b : Bool) (n rest : ℕ) → (n ≡ 0 → ⊥) → if b n rest ≡ 0 → (b ≡ false) × (rest ≡ 0)
none_first = first_of-none

-- the fetch is fair: a pc without fault lies in memory, and four bytes lie in its line
pub fetch_fair : (N M : ℕ) (r : Processor) → M ≡ N * 64 → FairWish N (fetch_wish M r)
unfolding fetch_wish fetch_of fetch_fault
fetch_fair N M r e =
    by_test (eqb (fetch_fault M r) 0)
    (λ h.
    let z : fetch_fault M r ≡ 0 = eqb-true (fetch_fault M r) 0 h in
    let rest : List (Bool × ℕ) = (leb M r.pc, 10) ∷ (active r && leb 48 (r.pc % 64), 4) ∷ [] in
    let a = first_of-none (not (eqb (r.pc % 4) 0)) 9 (first_of rest) (λ q. omega arith) z in
    let b = first_of-none (leb M r.pc) 10 (first_of ((active r && leb 48 (r.pc % 64), 4) ∷ [])) (λ q. omega arith)
    a.1 in
    let four : r.pc % 4 ≡ 0 = eqb-true (r.pc % 4) 0 (not-false (eqb (r.pc % 4) 0) a.0) in
    let inside : r.pc < M = leb-false M r.pc b.0 in
    let line : r.pc / 64 < N = omega arith in
    let offset : r.pc % 64 + 4 ≤ 64 = omega arith in
    rw h (fair_word line offset (λ p. absurd (false≢true p))))
    (λ h. rw h fair_idle)

-- a word at a multiple of its bytes lies in one line
in_line : (a k words : ℕ) → words * k ≡ 64 → a % k ≡ 0 → a % 64 + k ≤ 64
in_line a k words e z =
    let q = a / 64 in
    let m = a % 64 in
    let j = m / k in
    let split : m + q * words * k ≡ a = rw (mul_assoc q words k, e) (mod-add-div' a 64) in
    let rest : m % k ≡ 0 = sym (add-mul-mod_self_right m (q * words) k) ∙ (ap (λ (x : ℕ). x % k) split ∙ z) in
    let whole : j * k ≡ m = omega (arith, mod-add-div' m k) in
    let small : m < 64 = omega arith in
    let below : j * k < words * k = rw (whole, e) small in
    let fits : suc j * k ≤ words * k = mul-le-mul_right k (lt_of_mul-lt-mul_right k below) in
    omega (arith, suc-mul j k)

-- no data access is under tag Secure Instruction
not_code : (t : Tag) → is_data t ≡ is_checked t → t ≡ secure_instruction → ⊥
unfolding is_data is_checked
not_code t e q = false≢true (subst (λ (x : Tag). is_data x ≡ is_checked x) q e)

-- the data access is fair
module _ (B : Board) (words : ℕ) (whole : words * B.word_bytes ≡ 64) (N M : ℕ) (e : M ≡ N * 64) (r : Processor)
  where
    -- an address without fault lies in memory, and its word in one line
    word_fair : (w : ℕ) → decode_fault B M r w ≡ 0 → has_address w ≡ true
        → (tag : Tag) (write : Bool) (v : ℕ)
        → (write ≡ true → tag ≡ secure_instruction → ⊥)
        → FairWish N (word tag (address B r w) B.word_bytes write v)
    unfolding decode_fault opcode_faults thread_faults address_faults
    word_fair w z h tag write v t =
        let a = address B r w in
        let k = B.word_bytes in
        let ten = has_address w && ltb M (a + k) in
        let nine = has_address w && not (eqb (a % k) 0) in
        let rules = first_of_neither (opcode_faults B r w) (address_faults B M r w) refl z in
        let n9 : (nine ≡ false) × (first_of ((ten, 10) ∷ []) ≡ 0) =
        first_of-none nine 9 (first_of ((ten, 10) ∷ [])) (λ q. omega arith) rules.1 in
        let n10 : ten ≡ false = (first_of-none ten 10 0 (λ q. omega arith) n9.1).0 in
        let aligned : a % k ≡ 0 = eqb-true (a % k) 0 (not-false (eqb (a % k) 0) (rw h at n9.0)) in
        let inside : a + k ≤ M = ltb-false M (a + k) (rw h at n10) in
        let fits : a % 64 + k ≤ 64 = in_line a k words whole aligned in
        let some : 0 < k = pos k whole in
        let line : a / 64 < N = omega arith in
        fair_word line fits t
      where
        pos : (k : ℕ) → words * k ≡ 64 → 0 < k
        pos zero q = absurd (omega (arith, mul-zero words))
        pos (suc k) q = omega arith

    key_fair : (w : ℕ) → Sized 16 (key_from r w)
    key_fair w =
        record {
          size = length-append (big_bytes 8 (Ra r w)) (big_bytes 8 (Rb r w)) ∙ rw
              (length-big_bytes 8 (Ra r w), length-big_bytes 8 (Rb r w));
          bytes = bytes-append (big_bytes 8 (Ra r w)) (big_bytes 8 (Rb r w)) (bytes-big_bytes 8 (Ra r w))
              (bytes-big_bytes 8 (Rb r w));
        }

    -- without a known fault, nothing was found in decoding
    decoded : (got : Got) → known_fault B M r got ≡ 0 → decode_fault B M r got.number ≡ 0
    unfolding known_fault
    decoded got z =
        by_test (eqb (fetch_fault M r) 0)
        (λ h.
        by_test got.failed
        (λ f. absurd (omega (arith, rw (h, f) at z)))
        (λ f. rw (h, f) at z))
        (λ h. absurd (eqb-false (fetch_fault M r) 0 h (rw h at z)))

    has_address_lem : (w k : ℕ) → opcode w ≡ k → one_of k (10 ∷ 11 ∷ 41 ∷ 42 ∷ []) ≡ true
        → has_address w ≡ true
    unfolding has_address
    has_address_lem w k e h = rw e h

    wish_fair : (c : Cipher) (key : List ℕ) (w : ℕ) → decode_fault B M r w ≡ 0
        → FairWish N (wish_for B c key r w)
    unfolding wish_for is_data is_checked
    wish_fair c key w z =
        pick-each (FairWish N) (opcode w) (wishes B (address B r w) (Ra r w) (Rb r w)) idle (
          λ e. word_fair w z (has_address_lem w 10 e refl) no_tag false 0 (λ p. absurd (false≢true p)),
          (
            λ e. word_fair w z (has_address_lem w 11 e refl) no_tag true (Ra r w) (λ p. not_code no_tag refl),
            (
              λ e. fair_new_key (key_fair w),
              (
                λ e. word_fair w z (has_address_lem w 41 e refl) secure_data false 0 (λ p. absurd (false≢true p)),
                (
                  λ e. word_fair w z (has_address_lem w 42 e refl) secure_data true (Ra r w)
                      (λ p. not_code secure_data refl),
                  tt {0},
                ),
              ),
            ),
          ),
        )
        fair_idle

    module _ (c : Cipher) (key : List ℕ) where
      pub data_fair : (got : Got) → FairWish N (data_wish B c key M r got)
      unfolding data_wish
      data_fair got =
          by_test (eqb (known_fault B M r got) 0)
          (λ h. rw h (wish_fair c key got.number (decoded got (eqb-true (known_fault B M r got) 0 h))))
          (λ h. rw h fair_idle)

      pub instruction_sound : Sound N (instruction B c key M r)
      unfolding instruction
      instruction_sound =
          let end : Got → Got → Prog Stepped = λ got data'. ret (finished B c key M r got data') in
          sound_then N (grant (fetch_wish M r)) (λ got. and_then (grant (data_wish B c key M r got)) (end got))
          (grant_sound N (fetch_wish M r) (fetch_fair N M r e))
          (λ got. sound_then N (grant (data_wish B c key M r got)) (end got)
          (grant_sound N (data_wish B c key M r got) (data_fair got)) (λ data'. sound_ret))

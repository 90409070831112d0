-- One instruction put together from its phases.
use Prim.Native.Nat.{ℕ, ◌+◌, ◌*◌, ◌/◌, ◌%◌}
use Rattle.std.specs.Prelude.{Option, Some, None, Result, Ok, Err}
use native.Mathlib.Omega.{arith}
use mathlib.Core.Path.{◌≡◌, refl, sym, ap, ap₂, ◌∙◌, subst}
use mathlib.Core.Bool.{Bool, true, false}
use mathlib.Core.List.{List}
use lib.ListN.{length}
use lib.Dec.{eqb}
use borrow.Author.Tests.{eq-eqb, ne_eqb}
use Rattle.lists.specs.If.{if}
use Rattle.lists.proofs.Cases.{by_test, by-eq}
use Rattle.model.specs.Tags.{Tag}
use Rattle.model.specs.Log.{Counts, counts_of, plus}
use Rattle.model.specs.Requests.{Ran, perform}
use Rattle.model.specs.Cached.{Cached, cached, cached_handle, access_place, ready_place, write_place, hit_place, then_do}
use Rattle.model.specs.Cached.{evict_place, fill_place, serves}
use Rattle.model.proofs.Sums.{counts-append}
use Rattle.directory.specs.Direct.{direct}
use Rattle.directory.proofs.DirectLaws.{direct_laws}
use Rattle.keeps.proofs.Requests.{perform-good}
use Rattle.instructions.specs.Board.{document_board}
use Rattle.instructions.specs.Record.{Processor}
use Rattle.instructions.specs.Fields.{opcode}
use Rattle.instructions.specs.Operations.{Ra, Rb, address, key_from}
use Rattle.instructions.specs.Faults.{fetch_fault, late_fault}
use Rattle.instructions.specs.Wishes.{Wish, idle, word, new_key, Got, grant}
use Rattle.instructions.specs.Step.{Stepped, fetch_of, fetch_wish, wishes, wish_for, data_wish, known_fault, finished}
use Rattle.instructions.specs.Step.{instruction}
use Rattle.instructions.proofs.RuleLaws.{pick-each}
use Rattle.instructions.specs.Calls.{Machine, cached_setup, step}
use Rattle.instructions.proofs.Phases.{fetch_phase, data_phase, phases}
use Rattle.sound.proofs.Programs.{FairWish, fair_word, fetch_fair, data_fair, grant_sound, instruction_sound}
use Rattle.sound.proofs.Bounds.{any_within}
use Rattle.ciphers.specs.Cipher.{aes_cipher}
use Rattle.ciphers.proofs.Laws.{aes_laws}
use Rattle.answers.specs.declared.faults.Fault.{Fault}
use Rattle.answers.specs.Numbers.{fault_in, fault_of}
use Rattle.cache.specs.Lent.{Fit, counts_in}
use Rattle.cache.specs.Held.{memory_in}
use Rattle.cache.specs.declared.buffers.Buffers.{Buffers}
use Rattle.cache.proofs.Following.{good-fit, Small}
use Rattle.registers.specs.Map.{processor_of, key_of, drk_held}
use Rattle.registers.specs.Wanted.{Decides, wish_in, wish_of, got_in}
use Rattle.registers.specs.Effects.{Finishes, next_key}
use Rattle.registers.specs.declared.decide.Wish as code
use Rattle.registers.specs.declared.decide.Wish.TheVariants.{Nothing, Word, NewKey}
use Rattle.directory.specs.TagIn.{tag_in}
use Rattle.std.specs.Result.{result_unwrap_or, result_err}
use Rattle.registers.specs.declared.record.Special.{Special}
use Rattle.machine.specs.Grants.{Grants, Inside}
use Rattle.machine.specs.Found.{Finds, FindsIn, Reaches}
use Rattle.machine.specs.Steps.{Steps, machine_on}
use Rattle.machine.specs.declared.phase.Found.{Found}

-- a line has eight words
eight_words : 8 * document_board.word_bytes ≡ 64
unfolding document_board
eight_words = refl

-- the wish of a fetch is the meaning's
pub fetch_wish_lem : (M : ℕ) (p : Processor) (f : ℕ) → f ≡ fetch_fault M p
    → fetch_of f p.cem.mode p.pc ≡ fetch_wish M p
unfolding fetch_wish
fetch_wish_lem M p f e = rw e

inside_word : (N M : ℕ) (tag : Tag) (a k : ℕ) (write : Bool) (v : ℕ) → M ≡ N * 64
    → FairWish N (word tag a k write v)
    → Inside a k M
inside_word N M tag a k write v e (fair_word line place t) = record { line = omega arith; place = place }

-- what is decided reaches no further than a fair wish
wish-inside : (N M : ℕ) (x : Result code.Wish Fault) → M ≡ N * 64 → FairWish N (wish_of x)
    → Reaches (result_unwrap_or x Nothing) M
wish-inside N M (Err f) e fair = tt
wish-inside N M (Ok Nothing) e fair = tt
wish-inside N M (Ok (Word tag a None)) e fair = inside_word N M (tag_in tag) a 8 false 0 e fair
wish-inside N M (Ok (Word tag a (Some v))) e fair = inside_word N M (tag_in tag) a 8 true v e fair
wish-inside N M (Ok (NewKey drk)) e fair = tt

-- the wish that the code has done is the decision's, and its fault the one that is known
wish-done : (x : Result code.Wish Fault) → wish_in (result_unwrap_or x Nothing) ≡ wish_of x
wish-done (Ok wish) = refl
wish-done (Err f) = refl

-- the fault in place of an answer, as an option
fault-err : {A : Type 0} (x : Result A Fault) → fault_in (result_err x) ≡ fault_of x
fault-err (Ok x) = refl
fault-err (Err f) = refl

pub err_fault : {A : Type 0} (x : Result A Fault) (e : Option Fault) (n : ℕ) → e ≡ result_err x → fault_of x ≡ n
    → fault_in e ≡ n
err_fault x e n h k = rw h (fault-err x ∙ k)

-- a fetch without fault lies in one line of memory
pub fetch_inside : (M : ℕ) (p : Processor) → M % 64 ≡ 0 → fetch_fault M p ≡ 0 → Inside p.pc 4 M
unfolding fetch_wish fetch_of
fetch_inside M p h z =
    let N = M / 64 in
    let e : M ≡ N * 64 = omega arith in
    inside_word N M _ p.pc 4 false 0 e (rw (eq-eqb (fetch_fault M p) 0 z) at (fetch_fair N M p e))

-- and so does a data access
pub data_inside : (M : ℕ) (key : List ℕ) (p : Processor) (got : Got) (x : Result code.Wish Fault) → M % 64 ≡ 0
    → Decides document_board aes_cipher M key p got x → Reaches (result_unwrap_or x Nothing) M
data_inside M key p got x h D =
    let N = M / 64 in
    let e : M ≡ N * 64 = omega arith in
    let fair = data_fair document_board 8 eight_words N M e p aes_cipher key got in
    wish-inside N M x e (subst (FairWish N) (sym D.wish) fair)

-- after a fair wish the memory is fit
pub granted_fit : (wish : Wish) (s t : Cached) (failed : Bool) (n : ℕ) (k : Counts)
    → FairWish (length s.mem / 64) wish → Fit s
    → Grants wish s failed n k t → Fit t
granted_fit wish s t failed n k f F G =
    let N = length s.mem / 64 in
    let C = length s.dir in
    let good = perform-good aes_cipher aes_laws direct direct_laws N C (grant wish) s (grant_sound N wish f) F in
    rw G.left (good-fit N C (perform (cached aes_cipher direct) (grant wish) s).state good)

-- an access keeps the key
access-key : (tag : Tag) (n p : ℕ) (write : Bool) (change : List ℕ → List ℕ) (s : Cached)
    → (access_place aes_cipher direct tag n p write change s).state.key ≡ s.key
unfolding access_place write_place ready_place hit_place then_do evict_place fill_place
access-key tag n p write change s = by_test (serves (direct.look s.dir p) tag n) (λ h. rw h) (λ h. rw h)

wish-key : (tag : Tag) (a k : ℕ) (write : Bool) (v : ℕ) (s : Cached)
    → (perform (cached aes_cipher direct) (grant (word tag a k write v)) s).state.key ≡ s.key
unfolding perform grant cached cached_handle
wish-key tag a k write v s = access-key tag (a / 64) (direct.choose s.dir (a / 64)) write _ s

-- wishes that keep the key
record KeepsKey (x : Wish) : Type 0 where
  kept : (s : Cached) → (perform (cached aes_cipher direct) (grant x) s).state.key ≡ s.key

word_keeps : (tag : Tag) (a k : ℕ) (write : Bool) (v : ℕ) → KeepsKey (word tag a k write v)
word_keeps tag a k write v = record { kept = wish-key tag a k write v }

idle_keeps : KeepsKey idle
unfolding perform grant
idle_keeps = record { kept = λ s. refl }

if-same : {A : Type 0} (b : Bool) (x : A) → if b x x ≡ x
if-same true x = refl
if-same false x = refl

-- only drk.set's data access changes the key, and it does not fail
module _ (M : ℕ) (key : List ℕ) (p : Processor) (got : Got) (s : Cached) where
  abbrev w : ℕ
  w = got.number

  abbrev wish : Wish
  wish = data_wish document_board aes_cipher key M p got

  abbrev done : Wish → Ran Got Cached
  done x = perform (cached aes_cipher direct) (grant x) s

  key_faulty : (known_fault document_board M p got ≡ 0 → ⊥) → KeepsKey wish
  unfolding data_wish
  key_faulty h = rw (ne_eqb (known_fault document_board M p got) 0 h) idle_keeps

  new-key : known_fault document_board M p got ≡ 0 → opcode w ≡ 32 → wish ≡ new_key (key_from p w)
  unfolding data_wish wish_for
  new-key h e = rw (eq-eqb (known_fault document_board M p got) 0 h, e)

  new-key-is : (k : List ℕ) → ((done (new_key k)).state.key ≡ k) × ((done (new_key k)).out.failed ≡ false)
  unfolding perform grant cached cached_handle
  new-key-is k = (refl, refl)

  key_old : known_fault document_board M p got ≡ 0 → (opcode w ≡ 32 → ⊥) → KeepsKey wish
  unfolding data_wish wish_for
  key_old h d =
      rw (eq-eqb (known_fault document_board M p got) 0 h)
      (pick-each KeepsKey (opcode w) (wishes document_board (address document_board p w) (Ra p w) (Rb p w)) idle (
        λ e. word_keeps _ _ _ _ _,
        (
          λ e. word_keeps _ _ _ _ _,
          (
            λ e. absurd (d e),
            (λ e. word_keeps _ _ _ _ _, (λ e. word_keeps _ _ _ _ _, tt {0})),
          ),
        ),
      )
      idle_keeps)

  -- the DRK after a step is the next memory's key
  pub key-after : (data' : Got) (n : ℕ) → s.key ≡ key → data'.failed ≡ (done wish).out.failed
      → n ≡ (finished document_board aes_cipher key M p got data').fault
      → if (eqb n 0) (next_key key p w) key ≡ (done wish).state.key
  unfolding finished next_key late_fault
  key-after data' n k f e =
      by-eq (known_fault document_board M p got) 0
      (λ h.
      by-eq (opcode w) 32
      (λ o.
      let x = new-key h o in
      let z : data'.failed ≡ false = f
      ∙ (ap (λ (y : Wish). (done y).out.failed) x ∙ (new-key-is (key_from p w)).1) in
      let y : n ≡ 0 = rw (eq-eqb (known_fault document_board M p got) 0 h, z, o) at e in
      rw (y, o) (sym (ap (λ (y : Wish). (done y).state.key) x ∙ (new-key-is (key_from p w)).0)))
      (λ o. rw (ne_eqb (opcode w) 32 o) (if-same (eqb n 0) key ∙ (sym k ∙ sym ((key_old h o).kept s)))))
      (λ h.
      let y : n ≡ known_fault document_board M p got = rw (ne_eqb (known_fault document_board M p got) 0 h) at e in
      rw (y, ne_eqb (known_fault document_board M p got) 0 h) (sym k ∙ sym ((key_faulty h).kept s)))

-- one instruction, from its phases
module _ (regs : List ℕ) (q : Special) (lent : Buffers) where
  abbrev p : Processor
  p = processor_of regs q

  abbrev s : Cached
  s = memory_in (drk_held q) lent

  pub stepped : (f : ℕ) (found : Found) (fetched : Buffers) (x : Result code.Wish Fault) (done : Found)
      (b : Buffers) (k : Counts) (regs' : List ℕ) (q' : Special) (fault : ℕ)
      → f ≡ fetch_fault (length s.mem) p
      → Finds (fetch_of f q.mode q.pc) s found (memory_in (drk_held q) fetched)
      → Decides document_board aes_cipher (length s.mem) (key_of q) p (got_in found.number) x
      → FindsIn (wish_in (result_unwrap_or x Nothing)) (memory_in (drk_held q) fetched) done b
      → k ≡ plus (counts_in found.counts) (counts_in done.counts)
      → Finishes document_board aes_cipher (length s.mem) (key_of q) p (got_in found.number) (got_in done.number)
      fault regs' q'
      → Steps (machine_on regs q lent) fault k (machine_on regs' q' b)
  unfolding step cached_setup cached fetch_phase data_phase document_board
  stepped f found fetched x done b k regs' q' fault e G D O c F =
      let t = memory_in (drk_held q) fetched in
      let M = length s.mem in
      let C = cached aes_cipher direct in
      let got : Got = got_in found.number in
      let data' : Got = got_in done.number in
      let wish : Got → Wish = data_wish document_board aes_cipher (key_of q) M p in
      let end : Got → Got → Stepped = finished document_board aes_cipher (key_of q) M p in
      let A = perform C (grant (fetch_wish M p)) s in
      let u : fetch_of f q.mode q.pc ≡ fetch_wish M p = fetch_wish_lem M p f e in
      let G' : Finds (fetch_wish M p) s found t = rw u at G in
      let o₁ : got ≡ A.out = λ i. record { failed = G'.missed i; number = G'.found i } in
      let B = perform C (grant (wish got)) t in
      let H = rw (wish-done x, D.wish) at O.grants in
      let o₂ : data' ≡ B.out = λ i. record { failed = H.missed i; number = H.found i } in
      let A-then = perform C (grant (wish A.out)) A.state in
      let same-data : A-then ≡ B = λ i. perform C (grant (wish (sym o₁ i))) (sym G'.left i) in
      let same_out : data' ≡ A-then.out = o₂ ∙ ap (λ z. z.out) (sym same-data) in
      let ph = phases C document_board aes_cipher (key_of q) M p s in
      let key-is : key_of q' ≡ B.state.key =
      F.drk ∙ key-after M (key_of q) p got t data' fault refl H.missed F.number in
      let counts = ap₂ plus G'.counted (H.counted ∙ ap (λ z. counts_of z.log) (sym same-data)) in
      record {
        number = F.number ∙ (λ i. (end (o₁ i) (same_out i)).fault) ∙ ap (λ z. z.out.fault) (sym ph);
        processor = F.holds ∙ (λ i. (end (o₁ i) (same_out i)).processor) ∙ ap (λ z. z.out.processor) (sym ph);
        memory =
            (λ i. record { key = key-is i; mem = b.mem.now; macs = b.macs.now; cache = b.cache.now; dir = b.dir.now })
            ∙ (H.left ∙ (ap (λ z. z.state) (sym same-data) ∙ ap (λ z. z.state) (sym ph)));
        counted = c ∙ (counts ∙ (sym (counts-append A.log A-then.log)
            ∙ ap (λ z. counts_of z.log) (sym ph)));
      }

-- after a step the memory is fit
pub steps-fit : (m m' : Machine Cached) (fault : ℕ) (k : Counts) → Fit m.memory → Steps m fault k m'
    → Fit m'.memory
unfolding step cached_setup cached document_board
steps-fit m m' fault k F S =
    let s = m.memory in
    let N = length s.mem / 64 in
    let C = length s.dir in
    let e : length s.mem ≡ N * 64 = F.mem in
    let M = length s.mem in
    let prog = instruction document_board aes_cipher s.key M m.processor in
    let sound = instruction_sound document_board 8 eight_words N M e m.processor aes_cipher s.key in
    rw S.memory
    (good-fit N C (perform (cached aes_cipher direct) prog s).state
    (perform-good aes_cipher aes_laws direct direct_laws N C prog s sound F))

-- after the fetch the memory is fit
pub fetched-fit : (p : Processor) (f : ℕ) (s t : Cached) (failed : Bool) (n : ℕ) (k : Counts)
    → f ≡ fetch_fault (length s.mem) p → Fit s
    → Grants (fetch_of f p.cem.mode p.pc) s failed n k t → Fit t
fetched-fit p f s t failed n k e F G =
    let M = length s.mem in
    let N = M / 64 in
    let fair = subst (FairWish N) (sym (fetch_wish_lem M p f e)) (fetch_fair N M p F.mem) in
    granted_fit (fetch_of f p.cem.mode p.pc) s t failed n k fair F G

-- what a wish counts is small
pub grants-small : (wish : Wish) (s t : Cached) (failed : Bool) (n : ℕ) (k : Counts) → Grants wish s failed n k t
    → Small (length s.dir + 1) k
grants-small wish s t failed n k G =
    let W = any_within aes_cipher direct wish s in
    rw G.counted
    (record {
      filled = omega (arith, W.filled);
      written = omega (arith, W.written);
      checked = omega (arith, W.filled, W.checked);
      made = omega (arith, W.written, W.made);
    })

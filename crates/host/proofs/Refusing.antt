-- A refused call leaves what it was lent, and a call that is not refused was lent a machine in good order.
use mathlib.Core.Path.{◌≡◌, refl, sym, ap, ◌∙◌}
use Rattle.std.specs.Prelude.{Result, Ok, Err}
use mathlib.Core.List.{List}
use Prim.Native.Nat.{ℕ}
use borrow.Author.Tests.{eq-eqb, ne_eqb}
use native.Mathlib.Omega.{arith}
use lib.Dec.{eqb}
use lib.ListN.{length}
use Rattle.lists.specs.If.{if}
use Rattle.model.specs.Cipher.{Cipher}
use Rattle.model.specs.Log.{no_counts, counts_of}
use Rattle.model.specs.Cached.{Cached, cached}
use Rattle.instructions.specs.Rules.{first_of}
use Rattle.instructions.specs.Board.{Board, document_board}
use Rattle.instructions.specs.Refusals.{cached_flaws, row_flaws, or_else}
use Rattle.instructions.specs.Calls.{Call, buffer_of, call_flaws, Machine, cached_setup, refusal, refused, accepted}
use Rattle.instructions.specs.Calls.{called, counts}
use Rattle.instructions.specs.Listing.{listing_refusal}
use Rattle.sound.proofs.Refused.{lent_unrefused, none-refused}
use Rattle.sound.proofs.Lent as sound
use Rattle.sound.proofs.Document.{document_laws}
use Rattle.ciphers.specs.Cipher.{aes_cipher}
use Rattle.machine.specs.declared.answer.Answer.{Answer}
use Rattle.machine.specs.Lent.{Lent, machine_in}
use Rattle.answers.specs.declared.refusals.Refusal.{Refusal}
use Rattle.answers.specs.declared.refusals.Refusal.TheVariants as refusals
use Rattle.answers.specs.Numbers.{refusal_number, refusal_in}
use Rattle.host.specs.Outcome.{result_of, Leaves, Answers, lowest}

-- ---- a refusal has a number, and no other is looked for behind it
pub some_number : (e : Refusal) → refusal_number e ≡ 0 → ⊥
some_number refusals.MemorySize z = omega (arith, z)
some_number refusals.MacAreaSize z = omega (arith, z)
some_number refusals.CacheSize z = omega (arith, z)
some_number refusals.DirectoryNumber z = omega (arith, z)
some_number refusals.Record z = omega (arith, z)
some_number refusals.NoSuchLine z = omega (arith, z)
some_number refusals.BufferSize z = omega (arith, z)
some_number refusals.TooManySteps z = omega (arith, z)
some_number refusals.MacWrong z = omega (arith, z)
some_number refusals.RowSize z = omega (arith, z)

pub stops : (e : Refusal) (rest : ℕ) → refusal_number e ≡ or_else (refusal_number e) rest
unfolding or_else
stops e rest = rw (ne_eqb (refusal_number e) 0 (some_number e))

-- ---- on any board
module _ (B : Board) (c : Cipher) (call : Call) (m : Machine Cached) {no : ℕ} (is : no
    ≡ refusal (cached_setup B c) call m) where
  -- a call by its refusal
  by-refusal : called B c (cached_setup B c) call m
      ≡ if (eqb no 0) (accepted B c (cached_setup B c) call m) (refused no call m)
  unfolding called
  by-refusal = ap (λ (n : ℕ). if (eqb n 0) (accepted B c (cached_setup B c) call m) (refused n call m)) (sym is)

  pub refused-is : (no ≡ 0 → ⊥) → called B c (cached_setup B c) call m ≡ refused no call m
  refused-is wrong = by-refusal ∙ rw (ne_eqb no 0 wrong)

  module _ (right : no ≡ 0) where
    pub accepted-is : called B c (cached_setup B c) call m ≡ accepted B c (cached_setup B c) call m
    accepted-is = by-refusal ∙ rw (eq-eqb no 0 right)

    -- what was lent is not refused, and neither is the call itself
    pub lent_none : first_of (cached_flaws B m.memory) ≡ 0
    unfolding cached_setup
    lent_none = lent_unrefused (cached_setup B c) call m (sym is ∙ right)

    pub own-none : first_of (call_flaws (length m.memory.mem) call) ≡ 0
    unfolding cached_setup cached
    own-none = none-refused (cached_setup B c) call m (sym is ∙ right)

-- ---- on the board of document 01 the number that a call's head found is the meaning's refusal
pub record Judged (call : Call) (l : Lent) (no : ℕ) : Type 0 where
  pub number : no ≡ refusal (cached_setup document_board aes_cipher) call (machine_in l)

-- what the head found for a call whose own refusal is this one
pub judged : {call : Call} {l : Lent} {own no : ℕ} → own ≡ first_of (call_flaws (length l.mem) call)
    → no ≡ lowest l.processor (length l.mem) (length l.macs) (length l.cache) l.dir own
    → Judged call l no
unfolding refusal cached_setup cached cached_flaws lowest
judged own_is no-is = record { number = rw (← own_is) no-is }

-- what it found for the listing
pub listing-judged : (l : Lent) (rows : ℕ) {own no : ℕ} → own ≡ first_of (row_flaws rows l.dir)
    → no ≡ lowest l.processor (length l.mem) (length l.macs) (length l.cache) l.dir own
    → no ≡ listing_refusal document_board (machine_in l) rows
unfolding listing_refusal cached_flaws lowest
listing-judged l rows own_is no-is = rw (← own_is) no-is

-- a call that is not refused
pub record Accepted (call : Call) (l : Lent) : Type 0 where
  pub none : Judged call l 0

-- it is one whose head found no refusal
pub accepts : (call : Call) (l : Lent) {own : ℕ} {refusal : Result (Unit {0}) Refusal} {u : Unit {0}}
    → own ≡ first_of (call_flaws (length l.mem) call)
    → refusal_in refusal ≡ lowest l.processor (length l.mem) (length l.macs) (length l.cache) l.dir own
    → refusal ≡ Ok u → Accepted call l
accepts call l own_is no-is is = record { none = judged own_is (rw is at no-is) }

-- what was lent to it is in good order
pub in_order : {call : Call} {l : Lent} → Accepted call l
    → sound.Lent document_board document_laws (machine_in l).memory
in_order {call} {l} j =
    sound.lent-good document_board document_laws (machine_in l).memory
    (lent_none document_board aes_cipher call (machine_in l) j.none.number refl)

-- a refusal leaves everything as it was lent
pub refused_leaves : {call : Call} {l : Lent} {buffer : List ℕ} {no : ℕ} {a : Answer}
    → Judged call l no → (no ≡ 0 → ⊥) → Answers l.processor no no_counts a → buffer ≡ buffer_of call
    → Leaves call l a.report buffer
    (record { processor = a.processor; mem = l.mem; macs = l.macs; cache = l.cache; dir = l.dir })
unfolding Leaves result_of refused counts counts_of
refused_leaves {call} {l} j wrong A b =
    let r = A.report' in
    rw (refused-is document_board aes_cipher call (machine_in l) j.number wrong, A.record')
    (record { answered = r.answered; stepped = r.stepped; counted = r.counted; later = b; left = refl })

-- the same where the refusal is one by name
pub refusal-leaves : (call : Call) (l : Lent) {buffer : List ℕ} {own : ℕ} {refusal : Result (Unit {0}) Refusal}
    {e : Refusal} {a : Answer} → own ≡ first_of (call_flaws (length l.mem) call)
    → refusal_in refusal ≡ lowest l.processor (length l.mem) (length l.macs) (length l.cache) l.dir own
    → refusal ≡ Err e → Answers l.processor (refusal_number e) no_counts a → buffer ≡ buffer_of call
    → Leaves call l a.report buffer
    (record { processor = a.processor; mem = l.mem; macs = l.macs; cache = l.cache; dir = l.dir })
refusal-leaves call l {e = e} own_is no-is is A b =
    refused_leaves (judged {call = call} {l = l} {no = refusal_number e} own_is (rw is at no-is)) (some_number e) A b

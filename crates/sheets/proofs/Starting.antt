-- The machine that the code's calls start from is the meaning's: emptied by a power cut, or started again.
use mathlib.Core.Path.{◌≡◌, refl, sym, ap, ◌∙◌}
use mathlib.Core.List.{List, []}
use Prim.Native.Nat.{ℕ, zero, suc, ◌+◌}
use lib.Dec.{eqb}
use lib.ListN.{length}
use Rattle.lists.proofs.Cases.{by_test}
use Rattle.model.specs.Cached.{Cached, cached, lose_place, lose_from, lose_all}
use Rattle.directory.specs.Direct.{direct}
use Rattle.instructions.specs.Board.{document_board}
use Rattle.instructions.specs.Calls.{run, power_cut, Machine, cached_setup, refusal, refused, changed, accepted, called}
use Rattle.ciphers.specs.Cipher.{aes_cipher}
use Rattle.registers.specs.declared.record.Processor as code
use Rattle.machine.specs.declared.answer.Report.{Report}
use Rattle.machine.specs.Lent.{Lent, machine_in}
use Rattle.host.specs.Outcome.{result_of, Gives, Leaves}
use Rattle.sheets.specs.Runs.{emptied, cold_run, again, warm_run, StartsAgain}

-- a power cut keeps the DRK
lose_key : (k p : ℕ) (s : Cached) → (lose_from direct k p s).key ≡ s.key
unfolding lose_from lose_place
lose_key zero p s = refl
lose_key (suc k) p s = lose_key k (p + 1) (lose_place direct p s)

key-kept : (m : Machine Cached) → (result_of power_cut m).machine.memory.key ≡ m.memory.key
unfolding result_of called accepted refused changed cached_setup cached document_board lose_all
key-kept m = by_test (eqb (refusal (cached_setup document_board aes_cipher) power_cut m) 0)
    (λ t. rw t (lose_key (length m.memory.dir) 0 m.memory)) (λ f. rw f)

-- the four buffers of something lent, beside another record
abbrev under : code.Processor → Lent → Lent
under p l = record { processor = p; mem = l.mem; macs = l.macs; cache = l.cache; dir = l.dir }

-- behind a power cut, with the record as it was given, stands the emptied machine
cut_empties : (l l₁ : Lent) (x : Report) → Leaves power_cut l x [] l₁ → machine_in (under l.processor l₁)
    ≡ emptied (machine_in l)
unfolding Leaves emptied
cut_empties l l₁ x cut =
    let m = machine_in l in
    ap (λ (key : List ℕ). record {
      processor = m.processor;
      memory = record {
        key = key;
        mem = l₁.mem;
        macs = l₁.macs;
        cache = l₁.cache;
        dir = l₁.dir;
      };
    })
    (sym (ap (λ (y : Machine Cached). y.memory.key) cut.left ∙ key-kept m))
    ∙ ap (λ (y : Machine Cached). record { processor = m.processor; memory = y.memory }) cut.left

-- and a run from there is the cold run
pub cold-gives : (n : ℕ) (l l₁ l₂ : Lent) (x₁ x₂ : Report) → Leaves power_cut l x₁ [] l₁
    → Leaves (run n) (under l.processor l₁) x₂ [] l₂
    → Gives (cold_run n (machine_in l)) x₂ [] (machine_in l₂)
unfolding Leaves cold_run
cold-gives n l l₁ l₂ x₁ x₂ cut first = rw (← cut_empties l l₁ x₁ cut) first

-- a run from the same record again, behind the cold run, is the warm run
pub warm-gives : (n : ℕ) (l : Lent) (left : code.Processor) {start : code.Processor} {mem macs cache dir : List ℕ}
    (l₂ : Lent) {x : Report}
    → machine_in (record { processor = left; mem = mem; macs = macs; cache = cache; dir = dir })
    ≡ (cold_run n (machine_in l)).machine
    → StartsAgain l.processor left start
    → Leaves (run n) (record { processor = start; mem = mem; macs = macs; cache = cache; dir = dir }) x [] l₂
    → Gives (warm_run n (machine_in l)) x [] (machine_in l₂)
unfolding Leaves warm_run again
warm-gives n l left l₂ cold starts second = rw (← cold) (rw (starts.record', starts.key') at second)

-- A call that is not refused leaves what the accepted call of the meaning gives.
use mathlib.Core.Path.{◌≡◌, refl, sym, ap, ap₂, ◌∙◌}
use mathlib.Core.Bool.{Bool, true}
use mathlib.Core.List.{List, [], ◌++◌}
use mathlib.Core.Option.{some}
use Prim.Native.Nat.{ℕ, zero, suc, ◌/◌, ◌%◌, ◌<◌, ◌≤◌}
use borrow.Author.Tests.{leb-true}
use lib.Dec.{eqb, leb}
use lib.ListN.{length}
use Rattle.lists.proofs.Cases.{both_hold}
use Rattle.model.specs.Log.{Counts, no_counts, counts_of}
use Rattle.model.specs.Requests.{Request, Reply, evict, write_back}
use Rattle.model.specs.Cached.{Cached, cached, cached_handle, evict_line, evict_all}
use Rattle.directory.specs.Direct.{direct}
use Rattle.instructions.specs.Rules.{first_of}
use Rattle.instructions.specs.Board.{document_board}
use Rattle.instructions.specs.Record.{Processor}
use Rattle.instructions.specs.Refusals.{size_fine, line_flaws, buffer_flaws, run_flaws}
use Rattle.instructions.specs.Calls.{Call, call_flaws, Machine, Result, cached_setup, changed, asked, accepted}
use Rattle.instructions.specs.Calls.{run_from, counts}
use Rattle.sound.proofs.Refused.{line_in, buffer-is, run_is}
use Rattle.sound.proofs.Document.{document_laws}
use Rattle.ciphers.specs.Cipher.{aes_cipher}
use Rattle.cache.specs.Lent.{Fit}
use Rattle.cache.specs.Does.{Does}
use Rattle.bus.specs.Handles.{Handles}
use Rattle.machine.specs.declared.answer.Answer.{Answer}
use Rattle.machine.specs.declared.answer.Report.{Report}
use Rattle.machine.specs.Lent.{Lent, machine_in}
use Rattle.machine.specs.Runs.{RunGives, running}
use Rattle.registers.specs.Map.{processor_of, key_of}
use Rattle.registers.specs.Effects.{Holds}
use Rattle.registers.specs.declared.record.Processor as code
use Rattle.host.specs.Outcome.{result_of, Gives, Leaves, Answers}
use Rattle.host.proofs.Refusing.{Accepted, accepted-is, own-none, in_order}

-- ---- what the core asks for, once a call is not refused
module _ {call : Call} {l : Lent} (j : Accepted call l) where
  own : first_of (call_flaws (length l.mem) call) ≡ 0
  own = own-none document_board aes_cipher call (machine_in l) j.none.number refl

  pub fit : Fit (machine_in l).memory
  unfolding document_board document_laws
  fit = (in_order j).good

  -- of a call with a line, and perhaps a buffer
  pub line-asks : (n : ℕ) (rest : List (Bool × ℕ)) → call_flaws (length l.mem) call
      ≡ line_flaws (length l.mem) n ++ rest
      → (n < length l.mem / 64) × (first_of rest ≡ 0)
  line-asks n rest e = line_in (length l.mem / 64) (length l.mem) n rest fit.mem (sym (ap first_of e) ∙ own)

  pub transfer_asks : (n k : ℕ) (x : List ℕ) → call_flaws (length l.mem) call
      ≡ line_flaws (length l.mem) n ++ buffer_flaws k x
      → Fit (machine_in l).memory × ((n < length l.mem / 64) × (length x ≡ k))
  transfer_asks n k x e = let a = line-asks n (buffer_flaws k x) e in (fit, (a.0, buffer-is k x a.1))

  -- of run: at least two lines of memory, at most 64 slots and 10,000 instructions
  pub run-asks : (n : ℕ) → call_flaws (length l.mem) call ≡ run_flaws n
      → ((128 ≤ length l.mem) × (length l.dir ≤ 64) × (n ≤ 10000)) × Fit (machine_in l).memory
  unfolding size_fine document_board
  run-asks n e =
      let M = length l.mem in
      let size = both_hold (leb 128 M) (leb M 65536) (both_hold (eqb (M % 64) 0) _ (in_order j).sized).1 in
      let slots = both_hold (leb 1 (length l.dir)) (leb (length l.dir) 64) (in_order j).slots in
      ((leb-true 128 M size.0, leb-true (length l.dir) 64 slots.1, run_is n (sym (ap first_of e) ∙ own)), fit)

-- ---- what is left behind it a record holds what it is read as
pub same_record : (p : code.Processor) → Holds (processor_of p.r p.special) (key_of p.special) p.r
    p.special
same_record p = record { record' = refl; key' = refl }

abbrev on_accepted : Call → Lent → Result Cached
on_accepted call l = accepted document_board aes_cipher (cached_setup document_board aes_cipher) call (machine_in l)

no_buffer : (n i : ℕ) (m : Machine Cached) → [] ≡ (running n i m).buffer
unfolding run_from
no_buffer zero i m = refl
no_buffer (suc n) i m = refl

abbrev memory_with : List ℕ → List ℕ → List ℕ → List ℕ → List ℕ → Cached
memory_with key mem macs cache dir = record { key = key; mem = mem; macs = macs; cache = cache; dir = dir }

abbrev lent_with : code.Processor → List ℕ → List ℕ → List ℕ → List ℕ → Lent
lent_with p mem macs cache dir = record { processor = p; mem = mem; macs = macs; cache = cache; dir = dir }

module _ {call : Call} {l : Lent} (j : Accepted call l) where
  accepted_leaves : (l' : Lent) {x : Report} {buffer : List ℕ} → Gives (on_accepted call l) x buffer
      (machine_in l')
      → Leaves call l x buffer l'
  unfolding Leaves result_of
  accepted_leaves l' g = rw (accepted-is document_board aes_cipher call (machine_in l) j.none.number refl) g

  pub run_leaves : (n : ℕ) (l' : Lent) {x : Report} → on_accepted call l ≡ running n 0 (machine_in l)
      → RunGives n l x l' → Leaves call l x [] l'
  unfolding counts
  run_leaves n l' e h =
      accepted_leaves l'
      (rw e (record {
        answered = h.number;
        stepped = h.done;
        counted = h.counted;
        later = no_buffer n 0 (machine_in l);
        left = h.machine;
      }))

  -- behind another call the record is p', which is read as r, under the old key
  abbrev key : List ℕ
  key = key_of l.processor.special

  module _ {r : Processor} {k : Counts} {p' : code.Processor} {a : Answer} (A : Answers p' 0 k a)
      (H : Holds r key p'.r p'.special) where
    machine-after : (mem macs cache dir : List ℕ)
        → machine_in (lent_with a.processor mem macs cache dir) ≡ record {
          processor = r;
          memory = memory_with key mem macs cache dir;
        }
    machine-after mem macs cache dir =
        rw A.record'
        (ap₂ (λ (s : Processor) (drk : List ℕ). record {
          processor = s;
          memory =
              memory_with drk mem macs cache dir;
        })
        H.record' H.key')

    -- where it is one request of the memory
    pub asked_leaves : (q : Request) (f : Reply → List ℕ) {reply : Reply}
        {mem' macs' cache' dir' : List ℕ}
        → on_accepted call l ≡ asked (cached_setup document_board aes_cipher) q r f (machine_in l).memory
        → Handles q (machine_in l).memory reply k (memory_with key mem' macs' cache' dir')
        → Leaves call l a.report (f reply) (lent_with a.processor mem' macs' cache' dir')
    unfolding asked counts cached_setup cached document_board
    asked_leaves q f {mem' = mem'} {macs' = macs'} {cache' = cache'} {dir' = dir'} e h =
        let x = A.report' in
        accepted_leaves (lent_with a.processor mem' macs' cache' dir')
        (rw e
        (record {
          answered = x.answered;
          stepped = x.stepped;
          counted = x.counted ∙ h.counted;
          later = ap f h.answered;
          left = machine-after mem' macs' cache' dir' ∙ ap (λ (s : Cached). record {
            processor = r;
            memory = s;
          }) h.left;
        }))

    -- where it changes the record, or all of memory at once
    pub changed_leaves : {s : Cached} {mem' macs' cache' dir' : List ℕ}
        → on_accepted call l ≡ changed r s → k ≡ no_counts → memory_with key mem' macs' cache' dir' ≡ s
        → Leaves call l a.report [] (lent_with a.processor mem' macs' cache' dir')
    unfolding changed counts counts_of
    changed_leaves {mem' = mem'} {macs' = macs'} {cache' = cache'} {dir' = dir'} e none-counted m =
        let x = A.report' in
        accepted_leaves (lent_with a.processor mem' macs' cache' dir')
        (rw e
        (record {
          answered = x.answered;
          stepped = x.stepped;
          counted = x.counted ∙ none-counted;
          later = refl;
          left = machine-after mem' macs' cache' dir'
              ∙ ap (λ (s : Cached). record { processor = r; memory = s }) m;
        }))

-- a line dropped, and everything written back, as requests
pub evict_handles : {n : ℕ} {s t : Cached} {k : Counts} → Does (evict_line aes_cipher direct n s) true k t
    → Handles (evict n) s (some []) k t
unfolding cached_handle
evict_handles d = record { answered = refl; counted = d.counted; left = d.left }

pub flush_handles : {s t : Cached} {k : Counts} → Does (evict_all aes_cipher direct s) true k t
    → Handles write_back s (some []) k t
unfolding cached_handle
flush_handles d = record { answered = refl; counted = d.counted; left = d.left }

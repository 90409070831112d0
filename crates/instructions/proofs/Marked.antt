-- P1 to P12, proved together.
use Prim.Native.Nat.{ℕ}
use mathlib.Core.Path.{◌≡◌, refl, ap, ap₂, ◌∙◌}
use mathlib.Core.Bool.{true, false}
use mathlib.Core.List.{List}
use lib.ListN.{length}
use lib.Count.{count_leading_zeros}
use Rattle.lists.specs.Bytes.{zeros, same}
use Rattle.lists.specs.Parts.{part_at, put_at}
use Rattle.lists.specs.Words.{little, little_bytes}
use Rattle.model.specs.Tags.{secure_instruction}
use Rattle.model.specs.Cipher.{Cipher}
use Rattle.model.specs.Lines.{line_at, put_line, mac_at, put_mac, seen, stored, signed, passes}
use Rattle.model.specs.Requests.{Ran, perform, and_then}
use Rattle.model.specs.Uncached.{Uncached, uncached_handle, uncached}
use Rattle.instructions.specs.Board.{document_board, modulus, opcode_table}
use Rattle.instructions.specs.Record.{reg, with_reg, active}
use Rattle.instructions.specs.Fields.{opcode, field_a, field_b, field_c, imm, sel, exists, needs_active}
use Rattle.instructions.specs.Operations.{Ra, Rb, Rc, address, has_value, value, next_mode, taken, target, behind}
use Rattle.instructions.specs.Operations.{next_pc, executed}
use Rattle.instructions.specs.Suspend.{entered}
use Rattle.instructions.specs.Faults.{fetch_fault, sel_listed, has_address, thread_faults, opcode_faults}
use Rattle.instructions.specs.Faults.{address_faults, decode_fault, late_fault}
use Rattle.instructions.specs.Wishes.{Wish, idle, Got, got_from, grant}
use Rattle.instructions.specs.Step.{Stepped, fetch_of, fetch_wish, known_fault, wish_for, data_wish, finished}
use Rattle.instructions.specs.Step.{instruction}
use Rattle.instructions.specs.Calls.{uncached_setup, step}
use Rattle.instructions.proofs.Phases.{fetch_phase, data_phase, phases}
use Rattle.instructions.specs.Marked.{encoded, thread, step_on, holding_word, step_of, Marked}

-- what the fetch of add R3,R1,R2 gives
abbrev add_got : Got
add_got = record { failed = false; number = encoded 1 3 1 2 0 }

-- the end of that add at pc 44, in a mode
unfoldable added : Cipher → List ℕ → ℕ → Stepped
added c key mode =
    finished document_board c key 256 (thread mode false 44 0 0) add_got (record { failed = false; number = 0 })

-- a step at pc 44 whose fetch gives that add is that add
step_added : (c : Cipher) (u : Uncached) (mode : ℕ) → length u.mem ≡ 256
    → (fetch_phase (uncached c u) document_board c u.key 256 (thread mode false 44 0 0) u).out ≡ add_got
    → data_wish document_board c u.key 256 (thread mode false 44 0 0) add_got ≡ idle
    → step_on c (thread mode false 44 0 0) u ≡ added c u.key mode
unfolding step_on step uncached_setup uncached data_phase added perform grant
step_added c u mode e f d =
    let r = thread mode false 44 0 0 in
    let M = uncached c u in
    let a = fetch_phase M document_board c u.key 256 r u in
    let b = data_phase M document_board c u.key 256 r u in
    let wish : data_wish document_board c u.key 256 r a.out ≡ idle =
    ap (data_wish document_board c u.key 256 r) f ∙ d in
    let second : b.out ≡ record { failed = false; number = 0 } =
    ap (λ (w : Wish). (perform M (grant w) a.state).out) wish in
    ap (λ (n : ℕ). (perform M (instruction document_board c u.key n r) u).out) e
    ∙ (ap (λ (x : Ran Stepped Uncached). x.out) (phases M document_board c u.key 256 r u)
    ∙ ap₂ (finished document_board c u.key 256 r) f second)

signed_add : (c : Cipher) (u : Uncached) → length u.mem ≡ 256
    → little (part_at 44 4 (line_at 0 u.mem)) ≡ encoded 1 3 1 2 0
    → passes c secure_instruction u.key 0 (line_at 0 u.mem) (mac_at 0 u.macs) ≡ true
    → (step_on c (thread 1 false 44 0 0) u).processor.pc ≡ 64
unfolding document_board modulus opcode_table reg with_reg active opcode field_a field_b field_c imm sel exists needs_active
    Ra Rb Rc address has_value value next_mode taken target behind next_pc executed entered fetch_fault sel_listed
    has_address thread_faults opcode_faults address_faults decode_fault late_fault known_fault wish_for data_wish finished
    encoded thread zeros added fetch_phase perform grant fetch_of fetch_wish uncached uncached_handle seen got_from
signed_add c u e f h = ap (λ (x : Stepped). x.processor.pc) (step_added c u 1 e (rw (h, f)) refl)

plain-add : (c : Cipher) (u : Uncached) → length u.mem ≡ 256
    → little (part_at 44 4 (line_at 0 u.mem)) ≡ encoded 1 3 1 2 0
    → (step_on c (thread 0 false 44 0 0) u).processor.pc ≡ 48
unfolding document_board modulus opcode_table reg with_reg active opcode field_a field_b field_c imm sel exists needs_active
    Ra Rb Rc address has_value value next_mode taken target behind next_pc executed entered fetch_fault sel_listed
    has_address thread_faults opcode_faults address_faults decode_fault late_fault known_fault wish_for data_wish finished
    encoded thread zeros added fetch_phase perform grant fetch_of fetch_wish uncached uncached_handle seen got_from passes
plain-add c u e f = ap (λ (x : Stepped). x.processor.pc) (step_added c u 0 e (rw f) refl)

pub marked : (c : Cipher) → Marked c
unfolding count_leading_zeros zeros same part_at put_at little little_bytes line_at put_line mac_at put_mac seen stored signed
    passes perform and_then uncached_handle uncached document_board modulus opcode_table reg with_reg active opcode field_a
    field_b field_c imm sel exists needs_active Ra Rb Rc address has_value value next_mode taken target behind next_pc
    executed entered fetch_fault sel_listed has_address thread_faults opcode_faults address_faults decode_fault late_fault
    got_from grant fetch_of fetch_wish known_fault wish_for data_wish finished instruction uncached_setup step encoded thread
    step_on holding_word step_of
marked c =
    record {
      p1 = refl;
      p2 = refl;
      p3 = refl;
      p4 = refl;
      p5 = (refl, refl, refl, refl);
      p6 = refl;
      p7 = refl;
      p8 = refl;
      p9 = λ w. refl;
      p10 = refl;
      p11 = (refl, refl);
      p12 = λ u e f. (λ h. signed_add c u e f h, plain-add c u e f);
    }

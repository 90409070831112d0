-- Behind a reboot and behind a power cut one can start, whatever was lent.
use Prim.Native.Nat.{◌/◌}
use mathlib.Core.Path.{◌≡◌}
use lib.ListN.{length}
use Rattle.lists.proofs.ByteLaws.{bytes-none}
use Rattle.model.specs.Cipher.{Cipher}
use Rattle.model.specs.Cached.{Cached, evict_all, lose_all, cached_handle, cached}
use Rattle.keeps.proofs.Bytes.{all-bytes}
use Rattle.agree.proofs.Everything.{Proper, all_empties, cut-proper, cut_empties}
use Rattle.instructions.specs.Board.{Board}
use Rattle.instructions.specs.Refusals.{or_else}
use Rattle.instructions.specs.Calls.{reboot, power_cut, buffer_of, call_flaws, Machine, refusal, accepted, asked}
use Rattle.instructions.specs.Calls.{changed, called, cached_setup}
use Rattle.sound.specs.Acceptable.{Acceptable}
use Rattle.sound.proofs.Lent.{lent-good}
use Rattle.sound.proofs.Kept.{calls_keep_acceptable}
use Rattle.demand3.specs.Statement.{with_cache, RebootStarts, CutStarts}

-- neither call is refused on an acceptable machine, so that its memory is written back, or lost
reboot-memory : (B : Board) (c : Cipher) (m : Machine Cached) → Acceptable B m
    → (with_cache B c reboot m).machine.memory ≡ (evict_all c B.placement m.memory).state
unfolding with_cache called refusal or_else call_flaws accepted asked cached_setup cached cached_handle
reboot-memory B c m A = rw (A.memory, A.processor)

cut-memory : (B : Board) (c : Cipher) (m : Machine Cached) → Acceptable B m
    → (with_cache B c power_cut m).machine.memory ≡ lose_all B.placement m.memory
unfolding with_cache called refusal or_else call_flaws accepted changed cached_setup cached
cut-memory B c m A = rw (A.memory, A.processor)

pub reboot-starts : RebootStarts
unfolding with_cache buffer_of
reboot-starts B BL c CL m A W =
    let l = lent-good B BL m.memory A.memory in
    let P = B.placement in
    let L = BL.placement in
    let N = length m.memory.mem / 64 in
    let C = length m.memory.dir in
    let D = all-bytes c CL P L N C m.memory l.good W in
    record {
      accepted = (calls_keep_acceptable B BL c CL reboot m bytes-none A).memory;
      bytes = rw (reboot-memory B c m A) D.mem;
      key = rw (reboot-memory B c m A) D.key;
      empty = rw (reboot-memory B c m A) (all_empties c CL P L N C m.memory);
    }

pub cut-starts : CutStarts
unfolding with_cache buffer_of
cut-starts B BL c CL m A W =
    let l = lent-good B BL m.memory A.memory in
    let P = B.placement in
    let L = BL.placement in
    let N = length m.memory.mem / 64 in
    let C = length m.memory.dir in
    let R : Proper c CL P L N C m.memory = record { key = W.key; bytes = W.mem; good = l.good } in
    let D = cut-proper c CL P L N C m.memory R in
    record {
      accepted = (calls_keep_acceptable B BL c CL power_cut m bytes-none A).memory;
      bytes = rw (cut-memory B c m A) D.bytes;
      key = rw (cut-memory B c m A) D.key;
      empty = rw (cut-memory B c m A) (cut_empties c CL P L N C m.memory R);
    }

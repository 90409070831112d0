-- Programs whose requests name lines of memory, keep lines lines, and change no signed code.
use Rattle.std.specs.Prelude.{ℕ, ◌<◌, ◌≡◌, Bool, true, List, length}
use Rattle.lists.specs.Bytes.{Bytes}
use Rattle.model.specs.Tags.{Tag, secure_instruction}
use Rattle.model.specs.CipherLaws.{Sized}
use Rattle.model.specs.Requests.{Request, access, evict, bus_read, bus_write, bus_mac, write_back, rekey, Reply, Prog, ret}
use Rattle.model.specs.Requests.{ask}

-- what is asked of a request to a memory of N lines
pub data Fair (N : ℕ) : Request → Type 0 where
  fair_access : {tag : Tag} {n : ℕ} {write : Bool} {change : List ℕ → List ℕ} → n < N
      → (write ≡ true → tag ≡ secure_instruction → ⊥)
      → ((l : List ℕ) → length l ≡ 64 → length (change l) ≡ 64)
      → ((l : List ℕ) → Bytes l → Bytes (change l)) → Fair N (access tag n write change)
  fair_evict : {n : ℕ} → n < N → Fair N (evict n)
  fair_bus_read : {n : ℕ} → n < N → Fair N (bus_read n)
  fair_bus_write : {n : ℕ} {x : List ℕ} → n < N → Sized 64 x → Fair N (bus_write n x)
  fair_bus_mac : {n : ℕ} {x : List ℕ} → n < N → Sized 16 x → Fair N (bus_mac n x)
  fair_write_back : Fair N write_back
  fair_rekey : {k : List ℕ} → Sized 16 k → Fair N (rekey k)

-- every request that the program may come to is fair, whatever the replies
pub data Sound (N : ℕ) {Out : Type 0} : Prog Out → Type 0 where
  sound_ret : {o : Out} → Sound N (ret o)
  sound_ask : {q : Request} {k : Reply → Prog Out} → Fair N q → ((r : Reply) → Sound N (k r))
      → Sound N (ask q k)

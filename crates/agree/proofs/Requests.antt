-- Every fair request is answered alike by both memories, and so is every sound program: the abstract step of demand 3.
use Prim.Native.Nat.{ℕ}
use mathlib.Core.Path.{◌≡◌, refl, ap}
use mathlib.Core.Bool.{true, false}
use mathlib.Core.List.{List}
use mathlib.Core.Option.{some}
use Rattle.lists.specs.Bytes.{zeros}
use Rattle.lists.proofs.ByteLaws.{length-zeros, bytes-zeros}
use Rattle.model.specs.Cipher.{Cipher}
use Rattle.model.specs.CipherLaws.{Sized, CipherLaws}
use Rattle.model.specs.Placement.{Placement}
use Rattle.model.specs.PlacementLaws.{PlacementLaws}
use Rattle.model.specs.Requests.{Request, access, evict, bus_read, bus_write, bus_mac, write_back, rekey, Prog, ret, ask}
use Rattle.model.specs.Requests.{Handled, Ran, perform}
use Rattle.model.specs.Uncached.{Uncached, uncached_handle, uncached}
use Rattle.model.specs.Cached.{Cached, access_place, ready_place, evict_line, evict_all, cached_handle, cached}
use Rattle.agree.specs.Agree.{Agree}
use Rattle.keeps.specs.Sound.{Fair, fair_access, fair_evict, fair_bus_read, fair_bus_write, fair_bus_mac, fair_write_back}
use Rattle.keeps.specs.Sound.{fair_rekey, Sound, sound_ret, sound_ask}
use Rattle.agree.proofs.Access.{ready, reply-alike, state-alike}
use Rattle.agree.proofs.Bus.{drop_agrees, drop_frees, bus_agrees}
use Rattle.agree.proofs.Everything.{all-agrees, all_empties, rekey-agrees}

-- k zero bytes are k bytes
zeros-sized : (k : ℕ) → Sized k (zeros k)
zeros-sized k = record { size = length-zeros k; bytes = bytes-zeros k }

module _ (c : Cipher) (CL : CipherLaws c) (P : Placement) (L : PlacementLaws P) (N C : ℕ) where
  -- the same reply, and states that agree
  pub record Alike (h : Handled Uncached) (g : Handled Cached) : Type 0 where
    pub replies : h.reply ≡ g.reply
    pub states : Agree c P L N C h.state g.state

  pub answers-alike : (q : Request) (u : Uncached) (s : Cached) → Fair N q → Agree c P L N C u s
      → Alike (uncached_handle c q u) (cached_handle c P q s)
  unfolding uncached_handle cached_handle access_place
  answers-alike (access tag n write change) u s (fair_access hn k sizes bytes) A =
      let p = P.choose s.dir n in
      let r = ready_place c P tag n p s in
      let lines : (l : List ℕ) → Sized 64 l → Sized 64 (change l) =
      λ l z. record { size = sizes l z.size; bytes = bytes l z.bytes } in
      let R = ready c CL P L N C u s tag n p A hn refl in
      record {
        replies = reply-alike c CL P L N C u r.state tag n p r.ok write change R hn k lines;
        states = state-alike c CL P L N C u r.state tag n p r.ok write change R hn k lines;
      }
  answers-alike (evict n) u s (fair_evict hn) A =
      record { replies = refl; states = drop_agrees c CL P L N C u s n hn A }
  answers-alike (bus_read n) u s (fair_bus_read hn) A =
      let B : Agree c P L N C u (evict_line c P n s).state = drop_agrees c CL P L N C u s n hn A in
      record { replies = ap some (B.free n hn (drop_frees c CL P L N C s n hn A.good.orderly)).lines; states = B }
  answers-alike (bus_write n x) u s (fair_bus_write hn z) A =
      record {
        replies = refl;
        states =
            bus_agrees c CL P L N C u (evict_line c P n s).state n hn (drop_agrees c CL P L N C u s n hn A)
            (drop_frees c CL P L N C s n hn A.good.orderly)
            true false x (zeros 16) z (length-zeros 16);
      }
  answers-alike (bus_mac n x) u s (fair_bus_mac hn z) A =
      record {
        replies = refl;
        states =
            bus_agrees c CL P L N C u (evict_line c P n s).state n hn (drop_agrees c CL P L N C u s n hn A)
            (drop_frees c CL P L N C s n hn A.good.orderly)
            false true (zeros 64) x (zeros-sized 64) z.size;
      }
  answers-alike write_back u s fair_write_back A = record { replies = refl; states = all-agrees c CL P L N C u s A }
  answers-alike (rekey k) u s (fair_rekey z) A =
      record {
        replies = refl;
        states = rekey-agrees c CL P L N C u (evict_all c P s).state k (all-agrees c CL P L N C u s A)
            (all_empties c CL P L N C s) z;
      }

  -- the same result, and states that agree
  pub record RanAlike {Out : Type 0} (h : Ran Out Uncached) (g : Ran Out Cached) : Type 0 where
    pub outs : h.out ≡ g.out
    pub states : Agree c P L N C h.state g.state

  pub runs_alike : {Out : Type 0} (left : Uncached) (q : Prog Out) (u : Uncached) (s : Cached) → Sound N q
      → Agree c P L N C u s → RanAlike (perform (uncached c left) q u) (perform (cached c P) q s)
  unfolding perform uncached cached
  runs_alike left (ret o) u s sound_ret A = record { outs = refl; states = A }
  runs_alike {Out} left (ask q k) u s (sound_ask f g) A =
      let a = answers-alike q u s f A in
      let h = uncached_handle c q u in
      let j = cached_handle c P q s in
      let r : RanAlike (perform (uncached c left) (k j.reply) h.state)
      (perform (cached c P) (k j.reply) j.state) =
      runs_alike left (k j.reply) h.state j.state (g j.reply) a.states in
      rw a.replies (record { outs = r.outs; states = r.states })

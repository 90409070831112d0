-- The bus first evicts its line; then both memories have it at home, and may change it alike.
use Prim.Native.Nat.{ℕ, ◌<◌}
use mathlib.Core.Path.{◌≡◌, refl, sym, ap, ◌∙◌, subst}
use mathlib.Core.Logic.{◌≢◌}
use mathlib.Core.Bool.{Bool, false, ◌&&◌, false≢true}
use mathlib.Core.List.{List}
use lib.ListN.{length}
use lib.Dec.{eqb}
use borrow.Author.Tests.{eq-eqb}
use Rattle.lists.specs.If.{if}
use Rattle.lists.proofs.Cases.{by-eq, by_test}
use Rattle.lists.proofs.NthLaws.{nth_put-length, nth_put-here, nth_put_other, nth_put-bytes}
use Rattle.model.specs.Cipher.{Cipher}
use Rattle.model.specs.CipherLaws.{Sized, CipherLaws}
use Rattle.model.specs.Lines.{line_at, put_line, mac_at, put_mac}
use Rattle.model.specs.Placement.{Placement}
use Rattle.model.specs.PlacementLaws.{PlacementLaws}
use Rattle.model.specs.Uncached.{Uncached}
use Rattle.model.specs.Cached.{Cached, holds, evict_line}
use Rattle.agree.specs.Agree.{Free, Agree}
use Rattle.agree.proofs.Update.{held_moves}
use Rattle.agree.proofs.Evict.{evict-agrees, evict_frees}

module _ (c : Cipher) (CL : CipherLaws c) (P : Placement) (L : PlacementLaws P) (N C : ℕ) where
  -- a line that its place does not hold is held nowhere
  free_unless : (d : List ℕ) (n : ℕ) → L.Orderly N d → holds (P.look d (P.choose d n)) n ≡ false
      → Free P d n
  unfolding holds
  free_unless d n o h =
      record {
        nowhere =
            λ q hq w z.
            let a : P.choose d n ≡ q = ap (P.choose d) (sym z) ∙ L.held-chosen d q o hq w in
            let b : ((P.look d q).used && eqb (P.look d q).line n) ≡ false =
            subst (λ (r : ℕ). ((P.look d r).used && eqb (P.look d r).line n) ≡ false) a h in
            false≢true (sym b ∙ rw (w, eq-eqb (P.look d q).line n z));
      }

  -- evicting a line keeps the agreement, and then no place holds it
  pub drop_agrees : (u : Uncached) (s : Cached) (n : ℕ) → n < N → Agree c P L N C u s
      → Agree c P L N C u (evict_line c P n s).state
  unfolding evict_line
  drop_agrees u s n hn A =
      by_test (holds (P.look s.dir (P.choose s.dir n)) n)
      (λ h. rw h (evict-agrees c CL P L N C u s (P.choose s.dir n) A
      (L.choose-place s.dir n A.good.orderly hn)))
      (λ h. rw h A)

  pub drop_frees : (s : Cached) (n : ℕ) → n < N → L.Orderly N s.dir → Free P (evict_line c P n s).state.dir
      n
  unfolding evict_line
  drop_frees s n hn o =
      by_test (holds (P.look s.dir (P.choose s.dir n)) n)
      (λ h. rw h (evict_frees c CL P L N C s n (P.choose s.dir n) o (L.choose-place s.dir n o hn) refl))
      (λ h. rw h (free_unless s.dir n o h))

  -- a line that no place holds, or its MAC entry, is written over the bus in both
  module _ (u : Uncached) (s : Cached) (n : ℕ) (hn : n < N) (A : Agree c P L N C u s) (f : Free P s.dir n)
      (w v : Bool) (x y : List ℕ) (zx : Sized 64 x) (zy : length y ≡ 16) where
    abbrev plain : Uncached
    plain = record {
      key = u.key;
      mem = if w (put_line n x u.mem) u.mem;
      macs =
          if v (put_mac n y u.macs) u.macs;
    }

    abbrev after : Cached
    after =
        record {
          key = s.key;
          mem = if w (put_line n x s.mem) s.mem;
          macs = if v (put_mac n y s.macs) s.macs;
          cache = s.cache;
          dir = s.dir;
        }

    pub bus_agrees : Agree c P L N C plain after
    unfolding line_at mac_at put_line put_mac
    bus_agrees =
        record {
          keys = A.keys;
          key = A.key;
          plain_mem =
              record {
                size = nth_put-length 64 N u.mem A.plain_mem.size w n x hn zx.size;
                bytes = nth_put-bytes 64 n w x u.mem zx.bytes A.plain_mem.bytes;
              };
          plain_macs = nth_put-length 16 N u.macs A.plain_macs v n y hn zy;
          bytes = nth_put-bytes 64 n w x s.mem zx.bytes A.bytes;
          good =
              record {
                mem = nth_put-length 64 N s.mem A.good.mem w n x hn zx.size;
                macs = nth_put-length 16 N s.macs A.good.macs v n y hn zy;
                cache = A.good.cache;
                places = A.good.places;
                orderly = A.good.orderly;
              };
          held =
              λ q hq h.
              let i = (P.look s.dir q).line in
              let d : i ≢ n = λ z. f.nowhere q hq h z in
              held_moves c (P.look s.dir q) refl
              (sym (nth_put_other 64 N u.mem A.plain_mem.size w i n x hn zx.size d))
              (sym (nth_put_other 16 N u.macs A.plain_macs v i n y hn zy d))
              (sym (nth_put_other 64 N s.mem A.good.mem w i n x hn zx.size d))
              (sym (nth_put_other 16 N s.macs A.good.macs v i n y hn zy d))
              refl
              (A.held q hq h);
          free =
              λ i hi g.
              by-eq i n
              (λ a.
              rw a
              (record {
                lines =
                    nth_put-here 64 N u.mem A.plain_mem.size w n x hn zx.size
                    ∙ (rw (A.free n hn f).lines
                    (sym (nth_put-here 64 N s.mem A.good.mem w n x hn zx.size)));
                macs =
                    nth_put-here 16 N u.macs A.plain_macs v n y hn zy
                    ∙ (rw (A.free n hn f).macs (sym (nth_put-here 16 N s.macs A.good.macs v n y hn zy)));
              }))
              (λ a.
              record {
                lines =
                    nth_put_other 64 N u.mem A.plain_mem.size w i n x hn zx.size a
                    ∙ ((A.free i hi g).lines ∙ sym (nth_put_other 64 N s.mem A.good.mem w i n x hn zx.size
                    a));
                macs =
                    nth_put_other 16 N u.macs A.plain_macs v i n y hn zy a
                    ∙ ((A.free i hi g).macs ∙ sym (nth_put_other 16 N s.macs A.good.macs v i n y hn zy a));
              });
        }

-- Filling an empty slot keeps the agreement, and both memories come to the same check.
use Prim.Native.Nat.{ℕ, ◌<◌}
use mathlib.Core.Path.{◌≡◌, refl, sym, ap, ◌∙◌}
use mathlib.Core.Logic.{◌≢◌}
use mathlib.Core.Bool.{Bool, true, false, false≢true}
use mathlib.Core.List.{List}
use lib.ListN.{length}
use Rattle.lists.specs.Bytes.{zeros}
use Rattle.lists.proofs.ByteLaws.{length-zeros}
use Rattle.lists.proofs.Cases.{by_test}
use Rattle.lists.proofs.NthLaws.{nth_put-here, nth_put_other}
use Rattle.model.specs.Tags.{Tag}
use Rattle.model.specs.Cipher.{Cipher}
use Rattle.model.specs.CipherLaws.{CipherLaws}
use Rattle.model.specs.Lines.{line_at, put_line, mac_at, seen, passes}
use Rattle.model.specs.Placement.{Entry, Placement, holding}
use Rattle.model.specs.PlacementLaws.{PlacementLaws}
use Rattle.model.specs.Uncached.{Uncached}
use Rattle.model.specs.Cached.{Cached, fill_place}
use Rattle.model.proofs.LineLaws.{line-length, seen-length}
use Rattle.keeps.specs.Good.{Good}
use Rattle.keeps.proofs.Access.{Placed, fill_placed}
use Rattle.agree.specs.Agree.{Free, Same, Agree}
use Rattle.agree.proofs.Update.{update_agrees}

-- a state with one slot's bytes and the directory replaced
abbrev refill : Cached → ℕ → List ℕ → List ℕ → Cached
refill s p d b = record { key = s.key; mem = s.mem; macs = s.macs; cache = put_line p b s.cache; dir = d }

module _ (c : Cipher) (CL : CipherLaws c) (P : Placement) (L : PlacementLaws P) (N C : ℕ) where
  -- the wanted line is ready in slot p, its own place, or both memories know that its check fails
  pub record Ready (u : Uncached) (tag : Tag) (n p : ℕ) (ok : Bool) (s : Cached) : Type 0 where
    pub agrees : Agree c P L N C u s
    pub placed : Placed c CL P L N C n p s
    pub told : ok ≡ passes c tag u.key n (line_at n u.mem) (mac_at n u.macs)
    pub entry : ok ≡ true → (dirty : Bool) × (P.look s.dir p ≡ holding n tag dirty)

  module _ (u : Uncached) (s : Cached) (tag : Tag) (n p : ℕ) (A : Agree c P L N C u s) (Q : Placed c CL P L N C n p s)
      (hn : n < N)
      (gone : (P.look s.dir p).used ≡ false) (f : Free P s.dir n) where
    -- where the line stands it is the same in both memories
    alike : Same n u s
    alike = A.free n hn f

    abbrev ok : Bool
    ok = passes c tag s.key n (line_at n s.mem) (mac_at n s.macs)

    abbrev body : List ℕ
    body = seen c tag s.key n (line_at n s.mem)

    -- both memories come to the same check
    one_check : ok ≡ passes c tag u.key n (line_at n u.mem) (mac_at n u.macs)
    one_check = rw (A.keys, alike.lines, alike.macs)

    -- slot p after the fill: a directory in which p is empty or holds line n, clean, and 64 bytes
    module _ (d : List ℕ) (b : List ℕ) (fits : length b ≡ 64) (g : Good P L N C (refill s p d b))
        (looks : (q : ℕ) → q ≢ p → P.look d q ≡ P.look s.dir q)
        (named : (P.look d p).used ≡ true → (P.look d p ≡ holding n tag false) × (ok ≡ true) × (b ≡ body))
      where
        refilled : Agree c P L N C u (refill s p d b)
        unfolding line_at mac_at put_line holding
        refilled =
            update_agrees c P L N C n p u u s (refill s p d b) A Q.place
            (record {
              occupant = λ w. absurd (false≢true (sym gone ∙ w));
              alone = λ q a hq w z. f.nowhere q hq w z;
              named = λ w. ap (λ (e : Entry). e.line) (named w).0;
              plain_key = refl;
              key = refl;
              looks = looks;
              slots = λ q a. nth_put_other 64 (length s.dir) s.cache A.good.cache true q p b Q.place fits
                  a;
              plain_lines = λ i a. refl;
              plain_macs = λ i a. refl;
              lines = λ i a. refl;
              macs = λ i a. refl;
              plain_mem_size = A.plain_mem;
              plain_macs_size = A.plain_macs;
              bytes = A.bytes;
              good = g;
              here =
                  λ w.
                  rw (named w).0
                  (record {
                    lines = alike.lines;
                    macs = alike.macs;
                    checked = rw (alike.lines, alike.macs) (named w).1;
                    viewed = nth_put-here 64 (length s.dir) s.cache A.good.cache true p b Q.place fits
                        ∙ ((named w).2 ∙ rw alike.lines);
                  });
              home = λ w. record { lines = alike.lines; macs = alike.macs };
            })

    abbrev filled_dir : List ℕ
    filled_dir = P.touch (P.put s.dir p (holding n tag false)) p

    filled-here : P.look filled_dir p ≡ holding n tag false
    filled-here = L.touch-look (P.put s.dir p (holding n tag false)) p p ∙ L.put-here s.dir n p tag false
        A.good.orderly Q.place hn

    body-fits : length body ≡ 64
    body-fits = seen-length c CL s.key n tag (line_at n s.mem) (line-length N n s.mem A.good.mem hn)

    -- a fill whose check passed
    passed : ok ≡ true → Placed c CL P L N C n p (refill s p filled_dir body)
        → Ready u tag n p true (refill s p filled_dir body)
    passed h R =
        record {
          agrees =
              refilled filled_dir body body-fits R.good
              (λ q a. L.touch-look (P.put s.dir p (holding n tag false)) p q
              ∙ L.put_other s.dir p q (holding n tag false) a)
              (λ w. (filled-here, h, refl));
          placed = R;
          told = sym h ∙ one_check;
          entry = λ w. (false, filled-here);
        }

    -- a fill whose check failed leaves the slot empty
    failed : ok ≡ false → Placed c CL P L N C n p (refill s p (P.clear s.dir p) (zeros 64))
        → Ready u tag n p false (refill s p (P.clear s.dir p) (zeros 64))
    failed h R =
        record {
          agrees =
              refilled (P.clear s.dir p) (zeros 64) (length-zeros 64) R.good (L.clear_other s.dir p)
              (λ w. absurd (false≢true (sym (L.clear-here s.dir p Q.place) ∙ w)));
          placed = R;
          told = sym h ∙ one_check;
          entry = λ w. absurd (false≢true w);
        }

    pub fill_ready : Ready u tag n p (fill_place c P tag n p s).ok (fill_place c P tag n p s).state
    unfolding fill_place
    fill_ready =
        let R = fill_placed c CL P L N C s tag n p hn Q in
        by_test ok (λ h. rw h (passed h (rw h at R))) (λ h. rw h (failed h (rw h at R)))

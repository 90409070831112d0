-- The direct-mapped placement satisfies what a placement must satisfy.
use Prim.Native.Nat.{ℕ, ◌%◌, ◌<◌}
use native.Mathlib.Nat.{mod-lt}
use native.Mathlib.Omega.{arith}
use mathlib.Core.Path.{◌≡◌, refl, sym}
use mathlib.Core.Bool.{true, false}
use mathlib.Core.List.{List}
use lib.ListN.{length, get_or, set, length-set}
use lib.Seq.{get_or-set_same, get_or-set_other}
use Rattle.lists.proofs.Cases.{by-eq}
use Rattle.model.specs.Placement.{holding}
use Rattle.model.specs.PlacementLaws.{PlacementLaws}
use Rattle.directory.specs.Numbers.{used_of, dirty_of, entry_of, number_of}
use Rattle.directory.specs.Direct.{direct, fine, OrderlyDirect}
use Rattle.directory.proofs.NumberLaws.{entry-number, Right, fine-used, fine-unused, zero_fine, number-fine}

module _ {N : ℕ} (d : List ℕ) (p : ℕ) (o : OrderlyDirect N d) (hp : p < length d) where
  -- a number put into a slot where it is right keeps the directory orderly
  pub set_orderly : (x : ℕ) → fine N (length d) p x ≡ true → OrderlyDirect N (set d p x)
  set_orderly x h =
      record {
        slots = rw (length-set d p x) o.slots;
        lines = o.lines;
        numbers =
            λ q hq.
            rw (length-set d p x)
            (by-eq q p
            (λ e. rw (e, get_or-set_same d p x 0 hp) h)
            (λ e. rw (get_or-set_other d p q x 0 e) (o.numbers q (rw (length-set d p x) at hq))));
      }

  pub right : used_of (get_or d p 0) ≡ true → Right N (length d) p (get_or d p 0)
  right u = fine-used N (length d) p (get_or d p 0) (o.numbers p hp) u

pub zero_unused : used_of 0 ≡ false
unfolding used_of
zero_unused = refl

pub zero_clean : dirty_of 0 ≡ false
unfolding dirty_of
zero_clean = refl

-- what the placement must satisfy
unfoldable pub direct_laws : PlacementLaws direct
unfolding direct entry_of
direct_laws =
    record {
      Orderly = OrderlyDirect;
      Mine = λ N d n p. p ≡ n % length d;
      held-line = λ {N} d p o hp u. (right d p o hp u).line;
      held-chosen = λ {N} d p o hp u. (right d p o hp u).slot;
      held-tame = λ {N} d p o hp u. (right d p o hp u).tame;
      empty_clean = λ {N} d p o hp u. rw (fine-unused N (length d) p (get_or d p 0) (o.numbers p hp) u) zero_clean;
      choose-place = λ {N} d n o h. mod-lt n o.slots;
      choose-mine = λ {N} d n o h. refl;
      clear-length = λ d p. length-set d p 0;
      clear-here = λ d p hp. rw (get_or-set_same d p 0 0 hp) zero_unused;
      clear_other = λ d p q a. rw (get_or-set_other d p q 0 0 a);
      clear-orderly = λ {N} d p o hp. set_orderly d p o hp 0 (zero_fine N (length d) p 0 refl);
      clear-mine = λ {N} d n p q o hq m. rw (length-set d q 0) m;
      put-length = λ d p e. length-set d p (number_of e);
      put-here =
          λ {N} d n p t b o hp hn.
          rw (get_or-set_same d p (number_of (holding n t b)) 0 hp) (entry-number n t b (omega (arith, o.lines)));
      put_other = λ d p q e a. rw (get_or-set_other d p q (number_of e) 0 a);
      put-orderly =
          λ {N} d n p t b o hp hn m h.
          set_orderly d p o hp (number_of (holding n t b))
          (number-fine N (length d) p n t b o.lines hn (sym m) h);
      put-mine = λ {N} d n p t b o hp hn m. rw (length-set d p (number_of (holding n t b))) m;
      touch-length = λ d p. refl;
      touch-look = λ d p q. refl;
      touch-orderly = λ {N} d p o hp. o;
      touch-mine = λ {N} d n p q o hq m. m;
    }

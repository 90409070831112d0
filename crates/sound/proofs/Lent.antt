-- What refusals 101 to 104 let pass is good, and what is good they let pass.
use Prim.Native.Nat.{ℕ, ◌*◌, ◌/◌, ◌%◌, ◌≤◌}
use native.Mathlib.Omega.{arith}
use mathlib.Core.Path.{◌≡◌, refl}
use mathlib.Core.Bool.{true, not, ◌&&◌}
use mathlib.Core.List.{[], ◌∷◌}
use lib.ListN.{length}
use lib.Dec.{eqb, leb}
use borrow.Author.Tests.{eqb-true, eq-eqb, leb-true, not-false}
use Rattle.lists.proofs.Cases.{both_hold}
use Rattle.model.specs.Cached.{Cached}
use Rattle.keeps.specs.Good.{Good}
use Rattle.instructions.specs.Rules.{first_of}
use Rattle.instructions.specs.Board.{Board}
use Rattle.instructions.specs.Refusals.{size_fine, memory_flaws, cache_flaws, cached_flaws}
use Rattle.sound.specs.BoardLaws.{BoardLaws}
use Rattle.instructions.proofs.RuleLaws.{first_of-none}

module _ (B : Board) (BL : BoardLaws B) where
  -- what was lent: its size is one of document 01's, its slots are right in number, and it is good
  pub record Lent (s : Cached) : Type 0 where
    pub sized : size_fine (length s.mem) ≡ true
    pub slots : B.slots_fine (length s.dir) ≡ true
    pub good : Good B.placement BL.placement (length s.mem / 64) (length s.dir) s

  pub lent-good : (s : Cached) → first_of (cached_flaws B s) ≡ 0 → Lent s
  unfolding cached_flaws memory_flaws cache_flaws size_fine
  lent-good s z =
      let M = length s.mem in
      let N = M / 64 in
      let f = B.slots_fine (length s.dir) in
      let g = eqb (length s.cache) (length s.dir * 64) in
      let d = B.directory_fine N s.dir in
      let m = eqb (length s.macs) (M / 4) in
      let z1 = first_of-none (not (size_fine M)) 101
      (first_of ((not m, 102) ∷ (not (f && g), 103) ∷ (not d, 104) ∷ []))
      (λ q. omega arith) z in
      let z2 = first_of-none (not m) 102 (first_of ((not (f && g), 103) ∷ (not d, 104) ∷ [])) (λ q. omega arith)
      z1.1 in
      let z3 = first_of-none (not (f && g)) 103 (first_of ((not d, 104) ∷ [])) (λ q. omega arith) z2.1 in
      let z4 = first_of-none (not d) 104 0 (λ q. omega arith) z3.1 in
      let size : size_fine M ≡ true = not-false (size_fine M) z1.0 in
      let s1 = both_hold (eqb (M % 64) 0) (leb 128 M && leb M 65536) size in
      let s2 = both_hold (leb 128 M) (leb M 65536) s1.1 in
      let whole : M % 64 ≡ 0 = eqb-true (M % 64) 0 s1.0 in
      let most : M ≤ 65536 = leb-true M 65536 s2.1 in
      let macs : length s.macs ≡ M / 4 = eqb-true (length s.macs) (M / 4) (not-false m z2.0) in
      let fg = both_hold f g (not-false (f && g) z3.0) in
      record {
        sized = size;
        slots = fg.0;
        good =
            record {
              mem = omega arith;
              macs = omega arith;
              cache = eqb-true (length s.cache) (length s.dir * 64) fg.1;
              places = refl;
              orderly = BL.passed N s.dir fg.0 (omega arith) (not-false d z4.0);
            };
      }

  pub good-lent : (N C : ℕ) (s : Cached) → size_fine (N * 64) ≡ true → B.slots_fine C ≡ true
      → Good B.placement BL.placement N C s → first_of (cached_flaws B s) ≡ 0
  unfolding cached_flaws memory_flaws cache_flaws
  good-lent N C s z f G =
      let n : N * 64 / 64 ≡ N = omega arith in
      let q : N * 64 / 4 ≡ N * 16 = omega arith in
      rw (
        G.mem,
        G.macs,
        z,
        q,
        n,
        eq-eqb (N * 16) (N * 16) refl,
        G.cache,
        eq-eqb (length s.dir * 64)
            (length s.dir * 64) refl,
        BL.passes N s.dir G.orderly,
        G.places,
        f,
      )

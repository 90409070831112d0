-- The loops over every slot: what is done after i slots, and what is still to do.
use Prim.Native.Nat.{ℕ, zero, suc, ◌+◌, ◌-◌, ◌*◌, ◌≤◌, ◌<◌}
use native.Mathlib.Omega.{arith}
use mathlib.Core.Path.{◌≡◌, refl, sym, ap, ap₂, ◌∙◌}
use mathlib.Core.Bool.{true, false}
use mathlib.Core.List.{List}
use lib.ListN.{length}
use Rattle.lists.specs.Bytes.{zeros}
use Rattle.model.specs.Lines.{put_line}
use Rattle.model.specs.Log.{Counts, no_counts, counts_of, plus}
use Rattle.model.specs.Placement.{Placement}
use Rattle.model.specs.PlacementLaws.{PlacementLaws}
use Rattle.model.specs.Cached.{Cached, Did, then_do, evict_place, evict_from, evict_all, lose_from, lose_all}
use Rattle.model.proofs.Sums.{counts-append, plus_none, plus_assoc}
use Rattle.model.proofs.CachedRules.{lose_used, lose_free}
use Rattle.directory.specs.Direct.{direct}
use Rattle.ciphers.specs.Cipher.{aes_cipher}
use Rattle.cache.specs.Lent.{FitAt}
use Rattle.cache.specs.Does.{Does, Loses, LosesAll}
use Rattle.cache.proofs.Following.{Small, evicted-fit, evicted-small}

-- the n slots of s₀ are evicted as the first i were, to s with counts k, and then the others
pub record Emptied (P : Placement) (L : PlacementLaws P) (n i : ℕ) (s₀ s : Cached) (k : Counts) : Type 0 where
  pub within : i ≤ n
  pub slots : n ≡ length s₀.dir
  pub dir : length s.dir ≡ length s₀.dir
  pub mem : length s.mem ≡ length s₀.mem
  pub macs : length s.macs ≡ length s₀.macs
  pub cache : length s.cache ≡ length s₀.cache
  pub fit : FitAt P L s
  pub small : Small i k
  pub ok : true ≡ (evict_from aes_cipher P (n - i) i s).ok
  pub state : (evict_all aes_cipher P s₀).state ≡ (evict_from aes_cipher P (n - i) i s).state
  pub counted : counts_of (evict_all aes_cipher P s₀).log ≡ plus k (counts_of (evict_from aes_cipher P (n - i) i s).log)

small-plus : (i : ℕ) (j k r : Counts) → Small i j → Small 1 k → r ≡ plus j k → Small (i + 1) r
unfolding plus
small-plus i j k r a b e =
    rw e
    (record {
      filled = omega (arith, a.filled, b.filled);
      written = omega (arith, a.written, b.written);
      checked = omega (arith, a.checked, b.checked);
      made = omega (arith, a.made, b.made);
    })

pub plus_nothing : (a : Counts) → plus a no_counts ≡ a
unfolding plus no_counts
plus_nothing a =
    let f : a.filled + 0 ≡ a.filled = omega arith in
    let w : a.written + 0 ≡ a.written = omega arith in
    let c : a.checked + 0 ≡ a.checked = omega arith in
    let m : a.made + 0 ≡ a.made = omega arith in
    λ i. record { filled = f i; written = w i; checked = c i; made = m i }

module _ (P : Placement) (L : PlacementLaws P) where
  evict_from-ok : (k p : ℕ) (s : Cached) → true ≡ (evict_from aes_cipher P k p s).ok
  unfolding evict_from then_do
  evict_from-ok zero p s = refl
  evict_from-ok (suc k) p s = evict_from-ok k (p + 1) (evict_place aes_cipher P p s).state

  pub emptied-none : (s : Cached) → FitAt P L s → Emptied P L (length s.dir) 0 s s no_counts
  unfolding evict_all no_counts
  emptied-none s F =
      let n = length s.dir in
      let e : n - 0 ≡ n = omega arith in
      record {
        within = omega arith;
        slots = refl;
        dir = refl;
        mem = refl;
        macs = refl;
        cache = refl;
        fit = F;
        small = record { filled = omega arith; written = omega arith; checked = omega arith; made = omega arith };
        ok = evict_from-ok (n - 0) 0 s;
        state = rw e;
        counted = rw e (sym (plus_none (counts_of (evict_from aes_cipher P n 0 s).log)));
      }

  -- the next slot first, and then the others
  from_next : (n i : ℕ) (s : Cached) → i < n → evict_from aes_cipher P (n - i) i s ≡ then_do
      (evict_place aes_cipher P i s) (evict_from aes_cipher P (n - (i + 1)) (i + 1))
  unfolding evict_from
  from_next n i s h =
      let e : n - i ≡ suc (n - (i + 1)) = omega arith in
      rw e

  pub emptied_more : (n i : ℕ) (s₀ s t : Cached) (k e r : Counts) → i < n → Emptied P L n i s₀ s k
      → Does (evict_place aes_cipher P i s) true e t → r ≡ plus k e → length t.dir ≡ length s.dir
      → length t.mem ≡ length s.mem → length t.macs ≡ length s.macs
      → length t.cache ≡ length s.cache → Emptied P L n (i + 1) s₀ t r
  unfolding then_do
  emptied_more n i s₀ s t k e r h E D q hd hm ha hc =
      let f = evict_from aes_cipher P (n - (i + 1)) (i + 1) in
      let a = evict_place aes_cipher P i s in
      let hp : i < length s.dir = omega (arith, E.slots, E.dir) in
      record {
        within = omega arith;
        slots = E.slots;
        dir = hd ∙ E.dir;
        mem = hm ∙ E.mem;
        macs = ha ∙ E.macs;
        cache = hc ∙ E.cache;
        fit = evicted-fit P s t i e L E.fit hp D;
        small = small-plus i k e r E.small (evicted-small P s t i e D) q;
        ok = evict_from-ok (n - (i + 1)) (i + 1) t;
        state = E.state ∙ (ap (λ (z : Did). z.state) (from_next n i s h)
            ∙ ap (λ (z : Cached). (f z).state) (sym D.left));
        counted =
            E.counted
            ∙ (ap (λ (z : Did). plus k (counts_of z.log)) (from_next n i s h)
            ∙ (ap (plus k) (counts-append a.log (f a.state).log)
            ∙ (sym (plus_assoc k (counts_of a.log) (counts_of (f a.state).log))
            ∙ ap₂ plus (ap (plus k) (sym D.counted) ∙ sym q)
            (ap (λ (z : Cached). counts_of (f z).log) (sym D.left)))));
      }

  pub emptied-all : (n i : ℕ) (s₀ s : Cached) (k : Counts) → n ≤ i → Emptied P L n i s₀ s k
      → Does (evict_all aes_cipher P s₀) true k s
  unfolding evict_from evict_all counts_of
  emptied-all n i s₀ s k h E =
      let e : n - i ≡ 0 = omega arith in
      record {
        answer = evict_from-ok (length s₀.dir) 0 s₀;
        counted = sym (rw e at E.counted ∙ plus_nothing k);
        left = sym (rw e at E.state);
      }

-- a slot is lost
module _ (p : ℕ) (cache dir : List ℕ) where
  pub loses_used : (cache' dir' : List ℕ) → (direct.look dir p).used ≡ true
      → (cache' ≡ put_line p (zeros 64) cache) × (dir' ≡ direct.clear dir p)
      → Loses p cache dir cache' dir'
  loses_used cache' dir' u e =
      record {
        left =
            λ key mem macs.
            let s : Cached = record { key = key; mem = mem; macs = macs; cache = cache; dir = dir } in
            (λ i. record { key = key; mem = mem; macs = macs; cache = e.0 i; dir = e.1 i })
            ∙ sym (lose_used aes_cipher direct p s u);
      }

  pub loses_free : (direct.look dir p).used ≡ false → Loses p cache dir cache dir
  loses_free u =
      record {
        left =
            λ key mem macs.
            let s : Cached = record { key = key; mem = mem; macs = macs; cache = cache; dir = dir } in
            sym (lose_free aes_cipher direct p s u);
      }

-- the n slots are lost as the first i were, and then the others
pub record Lost (n i : ℕ) (cache₀ dir₀ cache dir : List ℕ) : Type 0 where
  pub within : i ≤ n
  pub slots : n ≡ length dir₀
  pub sizes : length cache ≡ length dir * 64
  pub places : length dir ≡ length dir₀
  pub bytes : length cache ≡ length cache₀
  pub state : (key mem macs : List ℕ)
      → lose_all direct (record { key = key; mem = mem; macs = macs; cache = cache₀; dir = dir₀ }) ≡ lose_from
      direct (n - i) i (record { key = key; mem = mem; macs = macs; cache = cache; dir = dir })

pub lost_none : (cache dir : List ℕ) → length cache ≡ length dir * 64 → Lost (length dir) 0 cache dir cache dir
unfolding lose_all
lost_none cache dir h =
    let e : length dir - 0 ≡ length dir = omega arith in
    record { within = omega arith; slots = refl; sizes = h; places = refl; bytes = refl; state = λ key mem macs. rw e }

pub lost_more : (n i : ℕ) (cache₀ dir₀ cache dir cache' dir' : List ℕ) → i < n
    → Lost n i cache₀ dir₀ cache dir → Loses i cache dir cache' dir' → length cache' ≡ length cache
    → length dir' ≡ length dir → Lost n (i + 1) cache₀ dir₀ cache' dir'
unfolding lose_from
lost_more n i cache₀ dir₀ cache dir cache' dir' h L D hc hd =
    let e : n - i ≡ suc (n - (i + 1)) = omega arith in
    record {
      within = omega arith;
      slots = L.slots;
      sizes = hc ∙ (L.sizes ∙ ap (λ (z : ℕ). z * 64) (sym hd));
      places = hd ∙ L.places;
      bytes = hc ∙ L.bytes;
      state = λ key mem macs. rw e at (L.state key mem macs) ∙ ap (lose_from direct (n - (i + 1)) (i + 1))
          (sym (D.left key mem macs));
    }

pub lost_all : (n i : ℕ) (cache₀ dir₀ cache dir : List ℕ) → n ≤ i → Lost n i cache₀ dir₀ cache dir
    → LosesAll cache₀ dir₀ cache dir
unfolding lose_from
lost_all n i cache₀ dir₀ cache dir h L =
    let e : n - i ≡ 0 = omega arith in
    record { left = λ key mem macs. sym (rw e at (L.state key mem macs)) }

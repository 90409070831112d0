-- Each way that evicting or losing a slot may go is what the cached memory does.
use Prim.Native.Nat.{ℕ, ◌+◌, ◌*◌, ◌/◌, ◌≤◌, ◌<◌}
use native.Mathlib.Omega.{arith}
use mathlib.Core.Path.{◌≡◌, refl, sym, ap, ◌∙◌}
use mathlib.Core.Bool.{true, false}
use mathlib.Core.List.{List, [], ◌∷◌}
use lib.ListN.{length}
use Rattle.lists.specs.Bytes.{zeros}
use Rattle.lists.specs.Parts.{put_at}
use Rattle.lists.proofs.PartLaws.{put-put, length_part}
use Rattle.model.specs.Tags.{Tag}
use Rattle.model.specs.Lines.{line_at, put_line, stored}
use Rattle.model.specs.Log.{Note, Counts, no_counts, counts_of}
use Rattle.model.specs.Placement.{Entry, Placement}
use Rattle.model.specs.Cached.{Cached, evict_place}
use Rattle.model.proofs.Sums.{counts_clean}
use Rattle.model.proofs.CachedRules.{evict-dirty, evict_clean, evict-free}
use Rattle.model.proofs.LineLaws.{stored-length}
use Rattle.directory.specs.Direct.{direct}
use Rattle.directory.proofs.DirectLaws.{direct_laws}
use Rattle.ciphers.specs.Cipher.{aes_cipher}
use Rattle.ciphers.proofs.Laws.{aes_laws}
use Rattle.cache.specs.Lent.{Fit}
use Rattle.cache.specs.Does.{Does, WrittenBack}

-- in a fit memory a line, its MAC entry and a slot lie within their buffers
pub room : (s : Cached) (n p : ℕ) → Fit s → p < length s.dir → n < length s.mem / 64
    → (n * 64 + 64 ≤ length s.mem) × (n * 16 + 16 ≤ length s.macs) × (p * 64 + 64 ≤ length s.cache)
    × (n ≤ 1024)
unfolding direct_laws
room s n p F hp hn =
    (omega (arith, F.mem), omega (arith, F.mem, F.macs), omega (arith, F.cache), omega (arith, F.orderly.lines))

module _ (s : Cached) (p : ℕ) (F : Fit s) (hp : p < length s.dir) where
  abbrev held : Entry
  held = direct.look s.dir p

  -- an empty slot is clean
  pub empty_clean : held.used ≡ false → held.dirty ≡ false
  empty_clean u = direct_laws.empty_clean s.dir p F.orderly hp u

  -- the line that a used slot holds has room
  pub home-room : (n : ℕ) → held.used ≡ true → n ≡ held.line
      → (n * 64 + 64 ≤ length s.mem)
      × ((n * 16 + 16 ≤ length s.macs) × ((p * 64 + 64 ≤ length s.cache) × (n ≤ 1024)))
  home-room n u e =
      let r = room s n p F hp (rw e (direct_laws.held-line s.dir p F.orderly hp u)) in
      (r.0, (r.1, (r.2, r.3)))

module _ (P : Placement) (p : ℕ) (s : Cached) where
  abbrev here : Entry
  here = P.look s.dir p

  pub evicts_free : here.used ≡ false → here.dirty ≡ false → Does (evict_place aes_cipher P p s) true no_counts s
  unfolding counts_of
  evicts_free u d = rw (evict-free aes_cipher P p s u d) (record { answer = refl; counted = refl; left = refl })

  pub evicts_clean : (cache' dir' : List ℕ) → here.used ≡ true → here.dirty ≡ false
      → (cache' ≡ put_line p (zeros 64) s.cache) × (dir' ≡ P.clear s.dir p)
      → Does (evict_place aes_cipher P p s) true no_counts
      (record { key = s.key; mem = s.mem; macs = s.macs; cache = cache'; dir = dir' })
  evicts_clean cache' dir' u d e =
      rw (evict_clean aes_cipher P p s u d)
      (record {
        answer = refl;
        counted = sym (counts_clean here.tag here.line);
        left = λ i. record { key = s.key; mem = s.mem; macs = s.macs; cache = e.0 i; dir = e.1 i };
      })

  pub evicts_dirty : (t : Tag) (n : ℕ) (mem' macs' cache₁ cache' dir' : List ℕ) (k : Counts)
      → t ≡ here.tag → n ≡ here.line → here.used ≡ true → here.dirty ≡ true
      → p * 64 + 64 ≤ length s.cache
      → WrittenBack t s.key n p s.mem s.macs s.cache mem' macs' cache₁
      → (cache' ≡ put_line p (zeros 64) cache₁) × (dir' ≡ P.clear s.dir p)
      → ((n : ℕ) → k ≡ counts_of (Note.evicted t n true ∷ []))
      → Does (evict_place aes_cipher P p s) true k
      (record { key = s.key; mem = mem'; macs = macs'; cache = cache'; dir = dir' })
  unfolding put_line line_at
  evicts_dirty t n mem' macs' cache₁ cache' dir' k et en u d fits written e m =
      let w = rw (et, en) at written in
      let body = line_at p s.cache in
      let x = stored aes_cipher here.tag s.key here.line body in
      let z : length x ≡ 64 =
      stored-length aes_cipher aes_laws s.key here.line here.tag body (length_part (p * 64) 64 s.cache fits)
      in
      let f : cache' ≡ put_at (p * 64) 64 (zeros 64) s.cache =
      e.0 ∙ (ap (put_at (p * 64) 64 (zeros 64)) w.slots ∙ put-put (p * 64) 64 x (zeros 64) s.cache z
      (omega arith)) in
      rw (evict-dirty aes_cipher P p s u d)
      (record {
        answer = refl;
        counted = rw et at (m here.line);
        left = λ i. record { key = s.key; mem = w.memory i; macs = w.area i; cache = f i; dir = e.1 i };
      })

-- Evicting keeps bytes bytes, in memory and in the cache, whatever was lent.
use Prim.Native.Nat.{ℕ, zero, suc, ◌+◌, ◌*◌, ◌<◌}
use native.Mathlib.Omega.{arith}
use mathlib.Core.Path.{◌≡◌}
use mathlib.Core.Bool.{true, false}
use lib.ListN.{length}
use Rattle.lists.specs.Bytes.{zeros}
use Rattle.lists.proofs.ByteLaws.{bytes-zeros}
use Rattle.lists.proofs.Cases.{by_test}
use Rattle.lists.proofs.NthLaws.{nth_put-bytes}
use Rattle.model.specs.Cipher.{Cipher}
use Rattle.model.specs.CipherLaws.{Sized, CipherLaws}
use Rattle.model.specs.Lines.{line_at, put_line, stored}
use Rattle.model.specs.Placement.{Placement}
use Rattle.model.specs.PlacementLaws.{PlacementLaws}
use Rattle.model.specs.Cached.{Cached, then_do, evict_place, evict_from, evict_all}
use Rattle.model.proofs.LineLaws.{line-sized, stored-sized}
use Rattle.keeps.specs.Good.{Good, MadeOfBytes}
use Rattle.keeps.proofs.Evict.{evict-length, evict-good}

module _ (c : Cipher) (CL : CipherLaws c) (P : Placement) (L : PlacementLaws P) (N C : ℕ) where
  evict-bytes : (s : Cached) (p : ℕ) → Good P L N C s → p < length s.dir → MadeOfBytes s
      → MadeOfBytes (evict_place c P p s).state
  unfolding evict_place put_line
  evict-bytes s p G hp W =
      let e = P.look s.dir p in
      let body : Sized 64 (line_at p s.cache) = line-sized (length s.dir) p s.cache
      (record { size = G.cache; bytes = W.cache }) hp in
      let line = stored-sized c CL s.key W.key e.line e.tag (line_at p s.cache) body in
      record {
        key = W.key;
        mem = nth_put-bytes 64 e.line e.dirty (stored c e.tag s.key e.line (line_at p s.cache))
            s.mem line.bytes W.mem;
        cache = nth_put-bytes 64 p e.used (zeros 64) s.cache (bytes-zeros 64) W.cache;
      }

  from_bytes : (k p : ℕ) (s : Cached) → p + k ≡ length s.dir → Good P L N C s → MadeOfBytes s
      → MadeOfBytes (evict_from c P k p s).state
  unfolding evict_from then_do
  from_bytes zero p s e G W = W
  from_bytes (suc k) p s e G W =
      from_bytes k (p + 1) (evict_place c P p s).state (rw (evict-length c CL P L N C s p) (omega arith))
      (evict-good c CL P L N C s p G (omega arith))
      (evict-bytes s p G (omega arith) W)

  pub all-bytes : (s : Cached) → Good P L N C s → MadeOfBytes s → MadeOfBytes (evict_all c P s).state
  unfolding evict_all
  all-bytes s G W = from_bytes (length s.dir) 0 s (omega arith) G W

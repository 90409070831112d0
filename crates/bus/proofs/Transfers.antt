-- A transfer behind an eviction is what the cached memory makes of the request.
use mathlib.Core.Path.{◌≡◌, refl, ap, ◌∙◌}
use mathlib.Core.Bool.{true}
use mathlib.Core.List.{List, []}
use mathlib.Core.Option.{some}
use Prim.Native.Nat.{ℕ, ◌*◌}
use Rattle.lists.specs.Parts.{put_at}
use Rattle.model.specs.Lines.{line_at, put_line, put_mac}
use Rattle.model.specs.Log.{Counts}
use Rattle.model.specs.Requests.{bus_read, bus_write, bus_mac}
use Rattle.model.specs.Cached.{Cached, cached_handle, evict_line}
use Rattle.directory.specs.Direct.{direct}
use Rattle.ciphers.specs.Cipher.{aes_cipher}
use Rattle.cache.specs.Does.{Does}
use Rattle.bus.specs.Handles.{Handles}

module _ (n : ℕ) (s : Cached) (k : Counts) (t : Cached) (evicted : Does (evict_line aes_cipher direct n s) true k t)
  where
    pub read_done : (buf' : List ℕ) → buf' ≡ line_at n t.mem → Handles (bus_read n) s (some buf') k t
    unfolding cached_handle
    read_done buf' copy =
        record {
          answered = ap some (copy ∙ ap (λ (z : Cached). line_at n z.mem) evicted.left);
          counted = evicted.counted;
          left = evicted.left;
        }

    pub write_done : {line mem' : List ℕ} → mem' ≡ put_at (n * 64) 64 line t.mem
        → Handles (bus_write n line) s (some []) k
        (record { key = t.key; mem = mem'; macs = t.macs; cache = t.cache; dir = t.dir })
    unfolding cached_handle put_line
    write_done stored =
        record { answered = refl; counted = evicted.counted; left = rw (stored, evicted.left) }

    pub mac-done : {mac macs' : List ℕ} → macs' ≡ put_at (n * 16) 16 mac t.macs
        → Handles (bus_mac n mac) s (some []) k
        (record { key = t.key; mem = t.mem; macs = macs'; cache = t.cache; dir = t.dir })
    unfolding cached_handle put_mac
    mac-done stored =
        record { answered = refl; counted = evicted.counted; left = rw (stored, evicted.left) }

-- The target of a branch: its offset doubled twice.
use Rattle.std.proofs.Common.{◌≡◌, ℕ, ◌+◌, ◌*◌, ◌%◌, ap, ◌∙◌, arith}
use native.Mathlib.Nat.{add-mod-mod}

-- twice and twice again, each sum wrapped, is four times, wrapped once
pub four_times : (m pc i j : ℕ) → j ≡ (i + i) % m → (pc + (j + j) % m) % m ≡ (pc + 4 * i) % m
four_times m pc i j e =
    let x = i + i in
    let wrap : ℕ → ℕ = λ n. n % m in
    let first : pc + (x % m + x % m) ≡ pc + x % m + x % m = omega arith in
    let swap : pc + x % m + x ≡ pc + x + x % m = omega arith in
    let four : pc + x + x ≡ pc + 4 * i = omega arith in
    rw (add-mod-mod pc (j + j) m, e)
    (ap wrap first ∙ (add-mod-mod (pc + x % m) x m
    ∙ (ap wrap swap ∙ (add-mod-mod (pc + x) x m ∙ ap wrap four))))

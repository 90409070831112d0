-- What is said once stays within its bounds.
use Rattle.std.proofs.Common.{◌≡◌, ℕ, ◌≤◌, Option, Some, None, Result, Ok, Err, OnOk, OnErr, IfOk, refl, sym, ◌∙◌, rules, arith}
use Rattle.std.specs.Option.{ForSome, unwrap_or}
use Rattle.std.specs.Result.{result_ok}

-- what holds of the value before and of the one that is said holds of the value behind
pub said-holds : {T S E F : Type 0} (P : T → Type 0) (r : Result S F) (value : Result T E) (old new : Option T)
    → OnOk r (new ≡ result_ok value) → OnErr r (new ≡ old) → ForSome old P → IfOk value P → ForSome new P
said-holds P (Ok _) (Ok v) old new said refused o h x e = search rules
said-holds P (Ok _) (Err f) old new said refused o h x e = absurd (search rules)
said-holds P (Err _) value old new said refused o h x e = o x (sym refused ∙ e)

-- a number of steps that was said is within its bound, and so is 0
pub steps-within : (o : Option ℕ) → ForSome o (λ n. n ≤ 10000) → unwrap_or o 0 ≤ 10000
steps-within None h = omega arith
steps-within (Some n) h = h n refl

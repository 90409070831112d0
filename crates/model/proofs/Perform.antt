-- A memory runs two programs in a row as it runs them one after the other.
use mathlib.Core.Path.{◌≡◌, refl, sym, ap, ◌∙◌}
use mathlib.Core.List.{List, ◌++◌, append_assoc}
use Rattle.model.specs.Log.{Note}
use Rattle.model.specs.Requests.{Prog, ret, ask, and_then, Memory, Ran, perform}

-- one run and then another: the second's result and state, and the notes of both
unfoldable pub followed : {A B S : Type 0} → Ran A S → Ran B S → Ran B S
followed a b = record { out = b.out; state = b.state; log = a.log ++ b.log }

pub perform_then : {A B S : Type 0} (M : Memory S) (p : Prog A) (f : A → Prog B) (s : S)
    → perform M (and_then p f) s ≡ followed (perform M p s)
    (perform M (f (perform M p s).out) (perform M p s).state)
unfolding perform and_then followed
perform_then M (ret a) f s = refl
perform_then M (ask q k) f s =
    let h = M.handle q s in
    let a = perform M (k h.reply) h.state in
    let b = perform M (f a.out) a.state in
    let ih = perform_then M (k h.reply) f h.state in
    ap (λ (r : Ran _ _). record { out = r.out; state = r.state; log = h.log ++ r.log }) ih
    ∙ ap (λ (l : List Note). record { out = b.out; state = b.state; log = l })
    (sym (append_assoc h.log a.log b.log))

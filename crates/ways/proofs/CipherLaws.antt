-- The loop of the code and the rounds of the cipher, step by step, and the two ways that its tables are for.
use mathlib.Core.Path.{◌≡◌, refl, sym, ap, ap₂, ◌∙◌}
use mathlib.Core.List.{List}
use Prim.Native.Nat.{ℕ, suc}
use Rattle.field.specs.Field.{inv_sub_byte}
use Rattle.field.specs.Mixing.{mixed_entry, unmixed_entry}
use Rattle.field.specs.Table.{Table}
use Rattle.aes_standard.specs.State.{at, state, add_round_key}
use Rattle.aes_standard.specs.Cipher.{cipher}
use Rattle.rounds.specs.Ways.{there, back, round_by, rounds_by, last_by, cipher_by, Round, Rounds, Last, Through, flipped}
use Rattle.rounds.specs.Ways.{eq_inv_cipher}
use Rattle.columns.specs.Words.{changed, block_of}
use Rattle.columns.specs.declared.Columns.{Columns}
use Rattle.aes_standard.proofs.RoundTrip.{cipher-state}
use Rattle.rounds.proofs.WayLaws.{shares_there}
use Rattle.rounds.proofs.WayLaws.{puts_there}
use Rattle.rounds.proofs.WayLaws.{shares_back}
use Rattle.rounds.proofs.WayLaws.{puts_back}
use Rattle.rounds.proofs.WayLaws.{there-cipher}
use Rattle.rounds.proofs.WayLaws.{block-changed}

pub rounds-none : (t w s : List ℕ) → Rounds t w 0 s s
unfolding rounds_by
rounds-none t w s = record { by = λ y h. refl }

pub rounds_more : (t w s : List ℕ) (r n m : ℕ) (x z : List ℕ) → r ≡ suc n → m ≡ suc n → Round t w r x z
    → Rounds t w n s x → Rounds t w m s z
unfolding rounds_by
rounds_more t w s r n m x z p q e h = record {
  by = λ y shares. e.by y shares ∙ ap₂ (λ (k : ℕ) (b : List ℕ). round_by y w k b) p (h.by y shares)
      ∙ ap (λ (k : ℕ). rounds_by y w k s) (sym q);
}

pub through_done : (t u w s x₀ : List ℕ) (n : ℕ) (x z : List ℕ) → n ≡ 9 → x₀ ≡ add_round_key w 0 s
    → Rounds t w n x₀ x
    → Last u w x z
    → Through t u w s z
unfolding cipher_by
through_done t u w s x₀ n x z nine start h e =
    record {
      by = λ y shares puts.
          e.by y puts ∙ ap (last_by y w) (h.by y shares ∙ ap₂ (λ (k : ℕ) (b : List ℕ). rounds_by y w k b)
          nine start);
    }

-- what the code makes of a block by the tables of either way
pub through_there : (t w s z : List ℕ) → Table 256 mixed_entry t → Through t t w s z → z ≡ cipher w s
through_there t w s z h run = run.by there (shares_there t h) (puts_there t h) ∙ there-cipher w s

pub through_back : (t u v : List ℕ) (x f : Columns) (z : List ℕ) → Table 256 unmixed_entry t
    → Table 256 inv_sub_byte u
    → f ≡ changed x
    → Through t u v (block_of f) z → flipped z ≡ eq_inv_cipher v (block_of x)
unfolding eq_inv_cipher
through_back t u v x f z h g turn run =
    ap flipped (run.by back (shares_back t h) (puts_back u g) ∙ ap (cipher_by back v) (block-changed x f turn))

-- the code's way from a block to its cipher
pub encipher-is : (t w s x z : List ℕ) → Table 256 mixed_entry t → x ≡ state (at s) → Through t t w x z
    → z ≡ cipher w s
encipher-is t w s x z h load run = through_there t w x z h run ∙ ap (cipher w) load ∙ cipher-state w s

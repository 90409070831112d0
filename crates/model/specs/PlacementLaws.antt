-- What a placement must satisfy, stated once, for every board: the theorem of demand 3 uses nothing else of it.
use Rattle.std.specs.Prelude.{ℕ, ◌<◌, ◌≡◌, ◌≢◌, Bool, true, false, List, length}
use Rattle.model.specs.Tags.{Tag, secure_instruction}
use Rattle.model.specs.Placement.{Entry, Placement, holding}

-- a line of tag Secure Instruction is never dirty
pub record Tame (tag : Tag) (dirty : Bool) : Type 0 where
  pub tame : tag ≡ secure_instruction → dirty ≡ false

-- the laws of a placement
pub record PlacementLaws (P : Placement) : Type 1 where
  -- an orderly directory for a memory of N lines: what refusal 104 asks
  pub Orderly : ℕ → List ℕ → Type 0
  -- the place may hold line n, and no other place does
  pub Mine : ℕ → List ℕ → ℕ → ℕ → Type 0
  -- every used place of an orderly directory holds a line of memory, is where that line is looked for, and is not dirty
  -- under tag Secure Instruction
  pub held-line : {N : ℕ} (d : List ℕ) (p : ℕ) → Orderly N d → p < length d → (P.look d p).used ≡ true
      → (P.look d p).line < N
  pub held-chosen : {N : ℕ} (d : List ℕ) (p : ℕ) → Orderly N d → p < length d → (P.look d p).used ≡ true
      → P.choose d (P.look d p).line ≡ p
  pub held-tame : {N : ℕ} (d : List ℕ) (p : ℕ) → Orderly N d → p < length d → (P.look d p).used ≡ true
      → Tame (P.look d p).tag (P.look d p).dirty
  -- an empty place is not dirty
  pub empty_clean : {N : ℕ} (d : List ℕ) (p : ℕ) → Orderly N d → p < length d → (P.look d p).used ≡ false
      → (P.look d p).dirty ≡ false
  -- the place chosen for a line is one of the directory's, and the line's own
  pub choose-place : {N : ℕ} (d : List ℕ) (n : ℕ) → Orderly N d → n < N → P.choose d n < length d
  pub choose-mine : {N : ℕ} (d : List ℕ) (n : ℕ) → Orderly N d → n < N → Mine N d n (P.choose d n)
  -- emptying a place
  pub clear-length : (d : List ℕ) (p : ℕ) → length (P.clear d p) ≡ length d
  pub clear-here : (d : List ℕ) (p : ℕ) → p < length d → (P.look (P.clear d p) p).used ≡ false
  pub clear_other : (d : List ℕ) (p q : ℕ) → q ≢ p → P.look (P.clear d p) q ≡ P.look d q
  pub clear-orderly : {N : ℕ} (d : List ℕ) (p : ℕ) → Orderly N d → p < length d → Orderly N (P.clear d p)
  pub clear-mine : {N : ℕ} (d : List ℕ) (n p q : ℕ) → Orderly N d → q < length d → Mine N d n p
      → Mine N (P.clear d q) n p
  -- putting a line at its own place
  pub put-length : (d : List ℕ) (p : ℕ) (e : Entry) → length (P.put d p e) ≡ length d
  pub put-here : {N : ℕ} (d : List ℕ) (n p : ℕ) (tag : Tag) (dirty : Bool) → Orderly N d → p < length d
      → n < N → P.look (P.put d p (holding n tag dirty)) p ≡ holding n tag dirty
  pub put_other : (d : List ℕ) (p q : ℕ) (e : Entry) → q ≢ p → P.look (P.put d p e) q ≡ P.look d q
  pub put-orderly : {N : ℕ} (d : List ℕ) (n p : ℕ) (tag : Tag) (dirty : Bool) → Orderly N d → p < length d
      → n < N → Mine N d n p → Tame tag dirty → Orderly N (P.put d p (holding n tag dirty))
  pub put-mine : {N : ℕ} (d : List ℕ) (n p : ℕ) (tag : Tag) (dirty : Bool) → Orderly N d → p < length d
      → n < N → Mine N d n p → Mine N (P.put d p (holding n tag dirty)) n p
  -- using a place changes nothing that is held
  pub touch-length : (d : List ℕ) (p : ℕ) → length (P.touch d p) ≡ length d
  pub touch-look : (d : List ℕ) (p q : ℕ) → P.look (P.touch d p) q ≡ P.look d q
  pub touch-orderly : {N : ℕ} (d : List ℕ) (p : ℕ) → Orderly N d → p < length d → Orderly N (P.touch d p)
  pub touch-mine : {N : ℕ} (d : List ℕ) (n p q : ℕ) → Orderly N d → q < length d → Mine N d n p
      → Mine N (P.touch d q) n p

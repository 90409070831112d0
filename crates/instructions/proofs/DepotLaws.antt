-- A line that the depot sealed opens to itself, with the MAC that came with it.
use mathlib.Core.Path.{◌≡◌, refl, ap, ◌∙◌}
use mathlib.Core.Bool.{Bool, not}
use mathlib.Core.List.{List, [], ◌∷◌, ◌++◌}
use Prim.Native.Nat.{ℕ, ◌%◌}
use borrow.Author.Tests.{eq-eqb}
use lib.Dec.{eqb}
use lib.ListN.{length}
use Rattle.lists.specs.If.{if}
use Rattle.lists.specs.Bytes.{same}
use Rattle.lists.proofs.ByteLaws.{same_refl}
use Rattle.model.specs.Cipher.{Cipher}
use Rattle.model.specs.CipherLaws.{Sized, CipherLaws}
use Rattle.instructions.specs.Rules.{first_of}
use Rattle.instructions.specs.Refusals.{buffer_flaws}
use Rattle.instructions.specs.Depot.{Sealed, depot_flaws, depot_seal, depot_open}

module _ (c : Cipher) (laws : CipherLaws c) (key line mac : List ℕ) (a : ℕ) (drk : Sized 16 key)
    (bytes : Sized 64 line)
  where
    pub open_seal : a % 64 ≡ 0 → length mac ≡ 16
        → depot_open c key a (depot_seal c key a line mac).line (depot_seal c key a line mac).mac
        ≡ record { answer = 0; line = line; mac = (depot_seal c key a line mac).mac }
    unfolding depot_seal depot_open depot_flaws buffer_flaws
    open_seal at-line sixteen =
        let sealed = c.encipher key a line in
        let size : length sealed ≡ 64 = laws.encipher-length key a line bytes.size in
        let mac-size : length (c.data_mac key a sealed) ≡ 16 = laws.data_mac-length key a sealed size in
        rw (
          eq-eqb (a % 64) 0 at-line,
          eq-eqb (length line) 64 bytes.size,
          eq-eqb (length mac) 16 sixteen,
          eq-eqb (length sealed) 64 size,
          eq-eqb (length (c.data_mac key a sealed)) 16 mac-size,
          same_refl (c.data_mac key a sealed),
          laws.decipher-encipher key a line drk bytes,
        )

-- A choice by a test.
use Rattle.std.specs.Prelude.{Bool, true, false}

-- x where the test holds, y where it does not
abbrev pub if {ℓ} : {A : Type ℓ} → Bool → A → A → A
if true x y = x
if false x y = y

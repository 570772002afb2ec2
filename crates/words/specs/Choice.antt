-- A choice by a test.
-- Assumes nothing.
use Rattle.std.specs.Prelude.{Bool, true, false}

-- the first if the test passed, else the second
abbrev pub pick {ℓ} : {A : Type ℓ} → Bool → A → A → A
pick true a b = a
pick false a b = b

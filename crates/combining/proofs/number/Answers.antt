-- `combining::number` meets its contract: one of three numbers each has its place among them.
-- Assumes nothing.
use mathlib.Core.Path.{◌≡◌, ◌∙◌}
use Prim.Native.Nat.{◌≤◌}
use native.Mathlib.Omega.{arith}
use borrow.Author.Tests.{ne_eqb, le-ltb}
use Rattle.words.specs.Search.{place_of}
use Rattle.combining.specs.Combining.{normals, number}
use Rattle.combining.proofs.Formed.{mem_attr_lt}
use Rattle.combining.proofs.Tables.{held}
use Rattle.combining.proofs.number.Goals as goal

pub returns-in_default : goal.returns-in_default
unfolding number
returns-in_default c =
    let m = c.args.m in
    let below = mem_attr_lt m c.requires in
    let place : c.from.result ≡ place_of normals m = c.from.ensures ∙ search (held (place_of normals), tt) in
    let above : 4 ≤ m = omega arith in
    rw (le-ltb m 4 above, ne_eqb m 5 (λ e. omega arith), place, c.rank.ensures.0)

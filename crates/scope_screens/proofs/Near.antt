-- What a command by address reaches, in numbers; and how many bits a Range leaves open.
-- Assumes nothing.
use Rattle.std.proofs.Common.{◌≡◌, ℕ, ◌+◌, ◌-◌, ◌^◌, ◌<◌, ◌≤◌, true, eqb, ⊎_elim, arith}
use Rattle.words.specs.Ranges.{bits}
use Rattle.words.proofs.Spans.{first-ends-later, second-ends-later}
use Rattle.words.proofs.Parts.{part_lt}
use Rattle.words.proofs.Truth.{decided}
use Rattle.rows.specs.declared.Row.{Row}
use Rattle.rows.specs.Rows as rows
use Rattle.commands.specs.declared.Target.{Target}
use Rattle.scopes.specs.Scopes.{open_bits}
use Rattle.scopes.specs.Ranges.{tg_of, first_of, length_of, end_of, reaches}
use Rattle.scopes.proofs.Ranges.{first_fits, length-pos, length-bound, end_fits}

module _ (t : Target) (row : Row) (e : reaches t row ≡ true) where
  pub begins : first_of t < row.w2 + 2 ^ rows.span row
  unfolding reaches
  begins = second-ends-later (first_of t) (end_of t - first_of t) row.w2 (2 ^ rows.span row) e

  later : row.w2 < first_of t + (end_of t - first_of t)
  unfolding reaches
  later = first-ends-later (first_of t) (end_of t - first_of t) row.w2 (2 ^ rows.span row) e

  pub ends : row.w2 < first_of t + length_of t
  unfolding end_of
  ends = omega (arith, later, length-pos t)

  pub below_top : row.w2 < 2 ^ 64
  below_top = omega (arith, later, end_fits t, first_fits t)

pub length_small : (t : Target) → length_of t - 1 < 2 ^ 63
unfolding length_of
length_small t = ⊎_elim (λ z. rw z (omega arith)) (λ n. rw n (omega (arith, length-bound t))) (decided (eqb (tg_of t) 0))

-- at most all bits of a stream
pub open_fits : (r range : ℕ) → r ≡ open_bits range → r ≤ 32
open_fits r range e = omega (arith, e, part_lt (bits 4 0) range)

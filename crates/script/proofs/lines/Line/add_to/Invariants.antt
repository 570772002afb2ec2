-- `Line::add_to` meets its contract: no word goes, and none comes above the limit.
-- Assumes nothing.
use Rattle.std.proofs.Common.{◌≤◌, ℕ, max, vec_len}
use Rattle.script.proofs.lines.Line.add_to.Given as goal

pub record Within (before now limit : ℕ) : Type 0 where
  pub none_goes : before ≤ now
  pub below : now ≤ max limit before

abbrev pub invariant-loop-b : goal.invariant-loop-b
invariant-loop-b l =
    Within (vec_len l.initial.words) (vec_len l.words) l.limit

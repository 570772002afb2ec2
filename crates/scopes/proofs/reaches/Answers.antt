-- `scopes::reaches` meets its contract: no row begins beyond the top.
-- Assumes nothing.
use Rattle.scopes.proofs.Ranges.{to-the-top}
use borrow.Author.Rules.{rules}
use Rattle.scopes.proofs.reaches.Goals as goal

pub returns : goal.returns
returns c =
    let s = c in
    rw (c.overlap.ensures, c.length_of.ensures.0, c.first_of.ensures, c.power-size.ensures.0, c.span_of.ensures.0)
    (to-the-top s.args.target s.args.row (search rules))

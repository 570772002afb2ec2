-- `words::overlap` meets its contract.
-- Assumes nothing.
use Rattle.words.proofs.Spans.{before, behind}
use Rattle.words.proofs.overlap.Goals as goal

pub returns-then-a-b : goal.returns-then-a-b
returns-then-a-b c =
    let s = c in
    before s.args.a s.args.n s.args.b s.args.k c.if-a-b.true s.requires.1

pub returns : goal.returns
returns c =
    let s = c in
    behind s.args.a s.args.n s.args.b s.args.k c.if-a-b.false s.requires.0

-- `commands::formats::masks` meets its contract, by the test over the table.
-- Assumes nothing.
use Rattle.commands.proofs.Masks.{right-masks}
use Rattle.commands.proofs.formats.masks.Goals as goal

pub returns-then-k-f : goal.returns-then-k-f
returns-then-k-f c =
    let s = c in
    rw (c.named-named.ensures, c.range_masks-range.ensures) (rw c.if-k-f.true at (right-masks s.args.f s.args.s s.args.k s.requires))

pub returns : goal.returns
returns c =
    let s = c in
    rw (c.named-named.ensures, c.range_masks-range.ensures) (rw c.if-k-f.false at (right-masks s.args.f s.args.s s.args.k s.requires))

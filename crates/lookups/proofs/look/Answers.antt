-- `lookups::look` meets its contract: the row found lies inside the image.
-- Assumes nothing.
use Rattle.std.proofs.Common.{◌≡◌, sym, ap, ◌∙◌, arith}
use Rattle.std.specs.Prelude.{Some}
use Rattle.lookups.specs.Lookups.{find, row_found, look}
use Rattle.lookups.proofs.Laws.{found_below}
use Rattle.lookups.proofs.look.Goals as goal

pub row_at-requires : goal.row_at-requires
row_at-requires c = omega (arith, found_below _ _ _ (sym c.find.ensures ∙ c.in_ok-i.was))

pub returns : goal.returns
unfolding look
returns c =
    let at : find c.args.kept.now c.args.w ≡ Some c.in_ok-i.i =
    sym c.find.ensures ∙ c.in_ok-i.was in
    rw (at, c.row_at.ensures)

pub returns-in_err-i : goal.returns-in_err-i
unfolding look
returns-in_err-i c = c.from_residual.ensures ∙ sym (ap (row_found _) (sym c.find.ensures ∙ c.in_err-i.was))

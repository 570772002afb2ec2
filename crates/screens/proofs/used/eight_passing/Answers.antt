-- `screens::used::eight_passing` meets its contract: where none of eight is used none passes, and where none passes the test neither.
-- Assumes nothing.
use Rattle.std.proofs.Common.{ℕ, Bool, refl, sym, ◌∙◌}
use Rattle.image.specs.Image.{row_at}
use Rattle.screens.specs.Screens.{used}
use Rattle.screens.proofs.Groups.{none_of_eight, second-off}
use Rattle.screens.proofs.used.eight_passing.Goals as goal

pub returns : goal.returns
returns g c e =
    let p : ℕ → Bool = λ j. used (row_at c.args.kept.now j) in
    let q : ℕ → Bool = λ j. g.T.RowTest.passes c.args.test.now (row_at c.args.kept.now j) in
    second-off p q (none_of_eight refl refl (sym c.eight-2.ensures ∙ e))

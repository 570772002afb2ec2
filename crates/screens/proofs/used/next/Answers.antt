-- `screens::used::next` meets its contract: behind the groups gone past the search goes on.
-- Assumes nothing.
use Rattle.std.proofs.Common.{ℕ, Bool, ◌&&◌, sym, ◌∙◌, rules}
use Rattle.image.specs.Image.{row_at}
use Rattle.screens.proofs.Groups.{resumes}
use Rattle.screens.specs.Screens.{used, Skips}
use Rattle.screens.proofs.used.next.Goals as goal

pub returns : goal.returns
returns g c =
    let p : ℕ → Bool = λ j. used (row_at c.args.kept.now j) && g.T.RowTest.passes c.args.test.now.test (row_at c.args.kept.now j) in
    let gone : Skips p c.args.from c.args.to c.skip-at.result = c.skip-at.ensures p (λ i a b e. search rules) in
    c.lowest_in.ensures p (λ i b a h e. search rules) ∙ sym (resumes c.requires.order gone).same

-- `screens::scan::next` meets its contract: behind the groups gone past the search goes on.
-- Assumes nothing.
use Rattle.std.proofs.Common.{◌≡◌, ℕ, ◌+◌, Bool, false, ◌||◌, refl, sym, ◌∙◌, rules}
use Rattle.image.specs.Image.{row_at}
use Rattle.screens.proofs.Groups.{none_of_eight, resumes}
use Rattle.screens.specs.Screens.{any_four, Skips}
use Rattle.screens.proofs.scan.next.Goals as goal

pub returns : goal.returns
returns g c =
    let p : ℕ → Bool = λ j. g.T.RowTest.passes c.args.test.now (row_at c.args.kept.now j) in
    let gone : Skips p c.args.from c.args.to c.skip-at.result = c.skip-at.ensures p (λ i a b e.
    let none : false ≡ (any_four p i || any_four p (i + 4)) = search rules in none_of_eight refl refl (sym none)) in
    c.lowest_in.ensures p (λ i b a h e. search rules) ∙ sym (resumes c.requires.order gone).same

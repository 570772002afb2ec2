-- `screens::used::next_of_both` meets its contract: the first test is the wider one.
-- Assumes nothing.
use Rattle.std.proofs.Common.{◌≡◌, ℕ, ◌-◌, Bool, ◌&&◌, sym, rules, arith}
use Rattle.std.specs.Prelude.{Some}
use Rattle.words.specs.Search.{lowest}
use Rattle.words.proofs.Search.{found}
use Rattle.words.proofs.Truth.{left}
use Rattle.image.specs.Image.{row_at}
use Rattle.screens.specs.Screens.{used}
use Rattle.screens.proofs.Groups.{both-are}
use Rattle.screens.proofs.used.next_of_both.Goals as goal

pub lowest_among-requires-clause-within : goal.lowest_among-requires-clause-within
lowest_among-requires-clause-within g c i k a b e =
    let p : ℕ → Bool = λ j. used (row_at c.args.kept.now j) && g.T.RowTest.passes c.args.test.now.test (row_at c.args.kept.now j) in
    let is : Some k ≡ lowest p (c.args.to - i) i = search rules in
    let l = found p c.args.to i k (omega (arith, b)) (sym is) in
    (l.from, l.below)

pub returns : goal.returns
returns g c =
    let p : ℕ → Bool = λ j. used (row_at c.args.kept.now j) && g.T.RowTest.passes c.args.test.now.test (row_at c.args.kept.now j) in
    let q : ℕ → Bool = λ j. g.U.RowTest.passes c.args.second.now (row_at c.args.kept.now j) in
    c.lowest_among.ensures (λ j. p j && q j) p
    (λ i b a h first e. let second : b ≡ q i = search rules in sym (both-are (p i) (q i) first (sym second)))
    (λ i r a h e. search rules) (λ i h e. left (p i) (q i) e)

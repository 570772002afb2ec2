-- `screens::find` meets its contract: a screen is the wider test.
-- Assumes nothing.
use Rattle.std.proofs.Common.{◌≡◌, ◌-◌, sym, rules, arith}
use Rattle.std.specs.Prelude.{Some}
use Rattle.words.specs.Search.{lowest}
use Rattle.words.proofs.Search.{found}
use Rattle.screens.specs.Screens.{passes_at}
use Rattle.screens.proofs.find.Goals as goal

pub lowest_among-requires-clause-within : goal.lowest_among-requires-clause-within
lowest_among-requires-clause-within g c i k a b e =
    let is : Some k ≡ lowest (passes_at c.args.s c.args.kept.now) (c.args.to - i) i = search rules in
    let l = found (passes_at c.args.s c.args.kept.now) c.args.to i k (omega (arith, b)) (sym is) in
    (l.from, l.below)

pub returns : goal.returns
returns g c p f w =
    c.lowest_among.ensures p (passes_at c.args.s c.args.kept.now) (λ i b a h t e. f i b a h e) (λ i r a h e. search rules) w

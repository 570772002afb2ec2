-- `lookups::find` meets its contract: the screen lets through whatever answers.
-- Assumes nothing.
use Rattle.std.proofs.Common.{sym, ◌∙◌, rules}
use Rattle.words.proofs.Search.{from_zero}
use Rattle.lookups.specs.Lookups.{answers_at, find}
use Rattle.lookups.proofs.Screened.{let_through}
use Rattle.lookups.proofs.find.Goals as goal

pub returns : goal.returns
unfolding find
returns c =
    c.find.ensures (answers_at c.args.kept.now c.args.w) (λ i b a h e. search rules) (λ i h e. let_through _ _ _ c.screen_of-s.ensures i e)
    ∙ sym (from_zero _ _)

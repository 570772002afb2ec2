-- `doubles::doubled` meets its contract: words that may not answer are alone, and of others the screen lets through whatever collides.
-- Assumes nothing.
use Rattle.std.proofs.Common.{◌≡◌, ℕ, refl, sym, ap, ◌∙◌, arith, rules}
use Rattle.std.specs.Prelude.{Option, Some, None, is_some}
use Rattle.words.proofs.Search.{from_zero}
use Rattle.doubles.specs.Doubles.{collides_at, is_found, doubled}
use Rattle.doubles.proofs.Laws.{silent-alone}
use Rattle.doubles.proofs.Screened.{let_through}
use Rattle.doubles.proofs.doubled.Goals as goal

pub returns-then-not-may_answer : goal.returns-then-not-may_answer
returns-then-not-may_answer c = sym (silent-alone _ _ _ (sym c.may_answer.ensures ∙ c.if-not-may_answer.true))

same : (o : Option ℕ) → is_some o ≡ is_found o
same (Some i) = refl
same None = refl

pub returns : goal.returns
unfolding doubled
returns c =
    let found =
    c.find.ensures (collides_at c.args.kept.now c.args.words) (λ i b a h e. search rules)
    (λ i h e. let_through _ _ _ (λ k. omega (arith, c.type_inv.kept k)) c.screen_of-s.ensures i e)
    ∙ sym (from_zero _ _) in
    c.is_some.ensures ∙ same _ ∙ ap is_found found

-- `words::lowest_among` meets its contract: what the whole search finds, the rest of it finds.
-- Assumes nothing.
use Rattle.std.proofs.Common.{◌≡◌, ℕ, ◌-◌, ◌<◌, Bool, sym, ◌∙◌, arith}
use Rattle.std.specs.Prelude.{Option}
use Rattle.words.specs.Search.{lowest}
use Rattle.words.proofs.Search.{Searching, lets_through, none_let, let_is, let_finds, let_passes, nowhere}
use Rattle.words.proofs.lowest_among.Goals as goal

under_way : {p : ℕ → Bool} {n i : ℕ} {target : Option ℕ} → i < n → target ≡ lowest p (n - i) i → Searching p n target i
under_way h e = record { within = omega arith; same = e }

pub returns-in_err-k : goal.returns-in_err-k
returns-in_err-k g c p q f n w =
    let s = under_way c.loop-i-test.true (c.loop-i.invariant.1 p q f n w) in
    let none = n _ _ c.loop-i.invariant.0 c.loop-i-test.true c.in_err-k.ensures in
    c.from_residual.ensures ∙ none_let (lets_through w) s s.within (sym none)

pub returns-then-passes : goal.returns-then-passes
returns-then-passes g c p q f n w =
    let s = under_way c.loop-i-test.true (c.loop-i.invariant.1 p q f n w) in
    let some = n _ _ c.loop-i.invariant.0 c.loop-i-test.true c.in_ok-k.ensures in
    let ends = c.requires.within _ _ c.loop-i.invariant.0 c.loop-i-test.true c.in_ok-k.ensures in
    let is = let_is (lets_through w) s s.within (sym some) in
    let asked = f _ _ (omega (arith, ends, c.loop-i.invariant.0)) ends.1 is c.passes.ensures in
    let_finds (lets_through w) s s.within (sym some) (sym asked ∙ c.if-passes.true)

pub loop-i-preserved : goal.loop-i-preserved
loop-i-preserved g c =
    let ends = c.requires.within _ _ c.loop-i.invariant.0 c.loop-i-test.true c.in_ok-k.ensures in (
      omega (arith, ends, c.loop-i.invariant.0),
      λ p q f n w.
          let s = under_way c.loop-i-test.true (c.loop-i.invariant.1 p q f n w) in
          let some = n _ _ c.loop-i.invariant.0 c.loop-i-test.true c.in_ok-k.ensures in
          let is = let_is (lets_through w) s s.within (sym some) in
          let asked = f _ _ (omega (arith, ends, c.loop-i.invariant.0)) ends.1 is c.passes.ensures in
          (let_passes (lets_through w) s s.within (sym some) (sym asked ∙ c.if-passes.false)).same,
    )

pub returns : goal.returns
returns g c p q f n w = sym (c.loop-i.invariant.1 p q f n w ∙ nowhere p _ _ c.loop-i-test.false)

-- `words::put` meets its contract: what is joined fits, and is `put`.
-- Assumes nothing.
use native.Mathlib.Omega.{arith}
use Rattle.words.specs.Parts.{put}
use Rattle.words.proofs.Parts.{above_top, inner-fits, put-lt}
use Rattle.words.proofs.put.Goals as goal

pub overflow_mul-result-3 : goal.overflow_mul-result-3
overflow_mul-result-3 c =
    let s = c in
    let a = s.args in
    record {
      fits = rw (c.power.ensures.0, c.power-2.ensures.0) (omega (arith, inner-fits a.h a.l s.requires.0 a.v a.w (omega arith)));
    }

pub overflow_add-result : goal.overflow_add-result
overflow_add-result c =
    let s = c in
    let a = s.args in
    record {
      fits =
          rw (c.power.ensures.0, c.power-2.ensures.0, c.power-3.ensures.0)
          (inner-fits a.h a.l s.requires.0 a.v a.w (omega arith));
    }

pub overflow_add-result-2 : goal.overflow_add-result-2
unfolding put
overflow_add-result-2 c =
    let s = c in
    let a = s.args in
    record {
      fits =
          rw
          (c.power-top.ensures.0, above_top a.h a.w, c.power.ensures.0, c.power-2.ensures.0, c.power-3.ensures.0)
          (put-lt a.h a.l s.requires.0 a.v a.w s.ranges.w.fits (omega arith));
    }

pub returns : goal.returns
unfolding put
returns c =
    let a = c.args in
    rw
    (c.power-top.ensures.0, above_top a.h a.w, c.power.ensures.0, c.power-2.ensures.0, c.power-3.ensures.0)

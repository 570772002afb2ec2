-- `screens::scan::skip` meets its contract: of the numbers gone past none passes.
-- Assumes nothing.
use Rattle.std.proofs.Common.{arith}
use Rattle.screens.proofs.Groups.{past_eight}
use Rattle.screens.proofs.scan.skip.Goals as goal

pub loop-i-preserved : goal.loop-i-preserved
loop-i-preserved g c =
    let l = c.loop-i.invariant in
    let room = c.loop-i-test.true in
    record {
      least = omega (arith, l.least);
      most = omega (arith, l.most, room);
      gone = λ p f. past_eight (l.gone p f) room (f _ l.least (omega (arith, l.most, room)) c.if-may_pass.ensures);
    }

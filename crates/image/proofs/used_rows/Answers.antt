-- `image::used_rows` meets its contract: the count of the rows passed.
-- Assumes nothing.
use mathlib.Core.Path.{sym, ap, ◌∙◌}
use Prim.Native.Nat.{ℕ, ◌+◌}
use native.Mathlib.Omega.{arith}
use Rattle.words.proofs.Search.{count-here, count_past, count_none}
use Rattle.image.proofs.used_rows.Goals as goal
use Rattle.image.proofs.used_rows.Goals.{then-is_used, else-is_used}

pub loop-i-init : goal.loop-i-init
loop-i-init c = record { few = omega arith; same = sym (count_none _) }

pub loop-i-preserved : goal.loop-i-preserved
loop-i-preserved c =
    let told = c.is_used.ensures in
    elim c.if-is_used.branch [
      | then-is_used w ↦ record {
        few = omega (arith, w.used-is);
        same = w.used-is ∙ ap (λ (k : ℕ). k + 1) c.loop-i.invariant.same ∙ sym (count-here _ c.loop-i.i (sym told ∙ w.if-is_used.true));
      }
      | else-is_used w ↦ record {
        few = omega (arith, w.used-is);
        same = w.used-is ∙ c.loop-i.invariant.same ∙ sym (count_past _ c.loop-i.i (sym told ∙ w.if-is_used.false));
      }
    ]

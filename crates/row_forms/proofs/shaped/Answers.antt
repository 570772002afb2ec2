-- `row_forms::shaped` meets its contract, arm by arm by one law.
-- Assumes nothing.
use native.Mathlib.Omega.{arith}
use Rattle.row_forms.proofs.Shapes.{by_kind_and_level}
use Rattle.row_forms.proofs.shaped.Goals as goal

pub returns-in-Ste-true : goal.returns-in-Ste-true
returns-in-Ste-true c =
    rw (c.ste_last_good.ensures, c.inside.ensures)
    (by_kind_and_level c.args.row 4 (omega arith) c.in-Ste-true.ensures c.in-Ste-true.ensures' (omega arith))

pub returns-in-Ste-false : goal.returns-in-Ste-false
returns-in-Ste-false c =
    rw (c.ste_block_good.ensures, c.inside-in-Ste-false.ensures)
    (by_kind_and_level c.args.row 0 (omega arith) c.in-Ste-false.ensures c.in-Ste-false.ensures' (omega arith))

pub returns-in-Cd-true : goal.returns-in-Cd-true
returns-in-Cd-true c =
    rw c.inside-in-Cd-true.ensures
    (by_kind_and_level c.args.row 5 (omega arith) c.in-Cd-true.ensures c.in-Cd-true.ensures' (omega arith))

pub returns-in-Cd-false : goal.returns-in-Cd-false
returns-in-Cd-false c =
    rw c.inside-in-Cd-false.ensures
    (by_kind_and_level c.args.row 1 (omega arith) c.in-Cd-false.ensures c.in-Cd-false.ensures' (omega arith))

pub returns-in-Stage1-true : goal.returns-in-Stage1-true
returns-in-Stage1-true c =
    rw (c.mark_good.ensures, c.output_good.ensures, c.input_good.ensures, c.inside-in-Stage1-true.ensures)
    (by_kind_and_level c.args.row 6 (omega arith) c.in-Stage1-true.ensures c.in-Stage1-true.ensures' (omega arith))

pub returns-in-Stage1-false : goal.returns-in-Stage1-false
returns-in-Stage1-false c =
    rw (c.mark_good-in-Stage1-false.ensures, c.input_good-in-Stage1-false.ensures, c.inside-in-Stage1-false.ensures)
    (by_kind_and_level c.args.row 2 (omega arith) c.in-Stage1-false.ensures c.in-Stage1-false.ensures' (omega arith))

pub returns-in-Stage2-true : goal.returns-in-Stage2-true
returns-in-Stage2-true c =
    rw (c.output_good-in-Stage2-true.ensures, c.input_good-in-Stage2-true.ensures, c.inside-in-Stage2-true.ensures)
    (by_kind_and_level c.args.row 7 (omega arith) c.in-Stage2-true.ensures c.in-Stage2-true.ensures' (omega arith))

pub returns-in-Stage2-false : goal.returns-in-Stage2-false
returns-in-Stage2-false c =
    rw (c.input_good-in-Stage2-false.ensures, c.inside-in-Stage2-false.ensures)
    (by_kind_and_level c.args.row 3 (omega arith) c.in-Stage2-false.ensures c.in-Stage2-false.ensures' (omega arith))

-- `due::step` meets its contract: the store is the one that is due.
-- Assumes nothing.
use Prim.Native.Nat.{◌<◌}
use native.Mathlib.Omega.{arith}
use Rattle.memory.specs.Memory.{both, rows_in}
use Rattle.due.proofs.Asked.{row-there, made-first, made-second, made-consumed, made-raised}
use Rattle.due.proofs.step.Goals as goal

pub returns-then-i-rows : goal.returns-then-i-rows
returns-then-i-rows c = search made-first

pub overflow_mul-table : goal.overflow_mul-table
overflow_mul-table c =
    let there : c.in-Some.i < rows_in (both c.args.kept.now c.args.table.now) =
    (row-there c.requires c.in-Legal.is c.find_from.ensures c.in-Some.is).1 in
    omega (arith, c.if-i-rows.false, there)

pub offset_bounds-table-i : goal.offset_bounds-table-i
offset_bounds-table-i c =
    let there : c.in-Some.i < rows_in (both c.args.kept.now c.args.table.now) =
    (row-there c.requires c.in-Legal.is c.find_from.ensures c.in-Some.is).1 in
    omega (arith, c.if-i-rows.false, there)

pub bounds-table-i : goal.bounds-table-i
bounds-table-i c =
    let there : c.in-Some.i < rows_in (both c.args.kept.now c.args.table.now) =
    (row-there c.requires c.in-Legal.is c.find_from.ensures c.in-Some.is).1 in
    omega (arith, c.if-i-rows.false, there)

pub returns-else-i-rows : goal.returns-else-i-rows
returns-else-i-rows c = search made-second

pub returns-in-None : goal.returns-in-None
returns-in-None c = search made-consumed

pub returns-in-Illegal : goal.returns-in-Illegal
returns-in-Illegal c = search made-raised

-- `due::find_first` meets its contract: rows that the screen does not let through are not in scope, nor are those of the second table.
-- Assumes nothing.
use mathlib.Core.Path.{sym, ◌∙◌}
use native.Mathlib.Omega.{arith}
use Rattle.words.proofs.Search.{spent, none_let, let_from, let_below, let_finds, let_passes}
use Rattle.memory.specs.Memory.{both}
use Rattle.due.proofs.Scans.{screened, in_first}
use Rattle.due.proofs.find_first.Goals as goal

pub returns-in_default : goal.returns-in_default
returns-in_default c =
    let s = c in
    none_let (screened s.args.f s.args.c (both s.args.m.kept.now s.args.m.table.now) s.args.from s.args.to _ s.requires.1 c.min-end.ensures) c.loop-i.invariant (omega (arith, c.loop-i-test.true))
    (rw c.screen_of-s.ensures at (sym c.next.ensures ∙ c.in_default.is))

pub row_at-requires : goal.row_at-requires
row_at-requires c =
    let s = c in
    omega (
      arith,
      s.requires.0.room,
      c.min-end.ensures,
      let_below (screened s.args.f s.args.c (both s.args.m.kept.now s.args.m.table.now) s.args.from s.args.to _ s.requires.1 c.min-end.ensures) c.loop-i.invariant (omega (arith, c.loop-i-test.true))
          (rw c.screen_of-s.ensures at (sym c.next.ensures ∙ c.in-Some.is)),
    )

pub returns-then-in_scope : goal.returns-then-in_scope
returns-then-in_scope c =
    let s = c in
    let w = (screened s.args.f s.args.c (both s.args.m.kept.now s.args.m.table.now) s.args.from s.args.to _ s.requires.1 c.min-end.ensures) in
    let_finds w c.loop-i.invariant (omega (arith, c.loop-i-test.true))
    (rw c.screen_of-s.ensures at (sym c.next.ensures ∙ c.in-Some.is))
    (in_first s.args.f s.args.c (both s.args.m.kept.now s.args.m.table.now) s.args.from s.args.to _ _ c.min-end.ensures (let_below w c.loop-i.invariant (omega (arith, c.loop-i-test.true))
    (rw c.screen_of-s.ensures at (sym c.next.ensures ∙ c.in-Some.is)))
    ∙ (rw c.row_at.ensures at (sym c.in_scope.ensures ∙ c.if-in_scope.true)))

pub overflow_add-i : goal.overflow_add-i
overflow_add-i c =
    let s = c in
    record {
      fits = omega (
        arith,
        s.ranges.to,
        c.min-end.ensures,
        let_below (screened s.args.f s.args.c (both s.args.m.kept.now s.args.m.table.now) s.args.from s.args.to _ s.requires.1 c.min-end.ensures) c.loop-i.invariant (omega (arith, c.loop-i-test.true))
            (rw c.screen_of-s.ensures at (sym c.next.ensures ∙ c.in-Some.is)),
      );
    }

pub loop-i-smaller : goal.loop-i-smaller
loop-i-smaller c =
    let s = c in
    let w = (screened s.args.f s.args.c (both s.args.m.kept.now s.args.m.table.now) s.args.from s.args.to _ s.requires.1 c.min-end.ensures) in
    omega (
      arith,
      c.min-end.ensures,
      let_below w c.loop-i.invariant (omega (arith, c.loop-i-test.true))
          (rw c.screen_of-s.ensures at (sym c.next.ensures ∙ c.in-Some.is)),
      let_from w c.loop-i.invariant (omega (arith, c.loop-i-test.true))
          (rw c.screen_of-s.ensures at (sym c.next.ensures ∙ c.in-Some.is)),
    )

pub loop-i-preserved : goal.loop-i-preserved
loop-i-preserved c =
    let s = c in
    let w = (screened s.args.f s.args.c (both s.args.m.kept.now s.args.m.table.now) s.args.from s.args.to _ s.requires.1 c.min-end.ensures) in
    let_passes w c.loop-i.invariant (omega (arith, c.loop-i-test.true))
    (rw c.screen_of-s.ensures at (sym c.next.ensures ∙ c.in-Some.is))
    (in_first s.args.f s.args.c (both s.args.m.kept.now s.args.m.table.now) s.args.from s.args.to _ _ c.min-end.ensures (let_below w c.loop-i.invariant (omega (arith, c.loop-i-test.true))
    (rw c.screen_of-s.ensures at (sym c.next.ensures ∙ c.in-Some.is)))
    ∙ (rw c.row_at.ensures at (sym c.in_scope.ensures ∙ c.if-in_scope.false)))

pub returns : goal.returns
returns c = let s = c in spent (screened s.args.f s.args.c (both s.args.m.kept.now s.args.m.table.now) s.args.from s.args.to _ s.requires.1 c.min-end.ensures) c.loop-i.invariant c.loop-i-test.false

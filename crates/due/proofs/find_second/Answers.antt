-- `due::find_second` meets its contract: no row before the second table is in scope, and what the whole search finds, the rest of it finds.
-- Assumes nothing.
use mathlib.Core.Path.{◌≡◌, sym, ◌∙◌}
use Prim.Native.Nat.{◌-◌, ◌/◌}
use Rattle.std.proofs.Common.{rules}
use lib.ListN.{length}
use Rattle.words.specs.Search.{lowest}
use Rattle.memory.specs.Memory.{both, scoped_at}
use Rattle.due.proofs.Scans.{second_at, of_region, from_second}
use Rattle.due.proofs.find_second.Goals as goal

pub returns-in-DptiPa : goal.returns-in-DptiPa
returns-in-DptiPa c =
    let whole :
    lowest (scoped_at c.args.f c.args.c (both c.args.m.kept.now c.args.m.table.now)) (c.args.to - c.args.from) c.args.from
    ≡ lowest (second_at c.args.c c.args.m.table.now (length c.args.m.kept.now / 4)) (c.args.to - c.max-start.result) c.max-start.result =
    let s = c in
    from_second s.args.f s.args.c (both s.args.m.kept.now s.args.m.table.now) s.args.from s.args.to _ s.requires.1 s.requires.0.order
    (rw c.min.ensures at c.max-start.ensures) in
    c.find_region.ensures ∙ of_region _ _ _ _ c.in-DptiPa.is _ _ _ _ ∙ sym whole

pub returns : goal.returns
returns c =
    let whole :
    lowest (scoped_at c.args.f c.args.c (both c.args.m.kept.now c.args.m.table.now)) (c.args.to - c.args.from) c.args.from
    ≡ lowest (second_at c.args.c c.args.m.table.now (length c.args.m.kept.now / 4)) (c.args.to - c.max-start.result) c.max-start.result =
    let s = c in
    from_second s.args.f s.args.c (both s.args.m.kept.now s.args.m.table.now) s.args.from s.args.to _ s.requires.1 s.requires.0.order
    (rw c.min.ensures at c.max-start.ensures) in
    c.lowest_in.ensures (second_at c.args.c c.args.m.table.now (length c.args.m.kept.now / 4)) (λ i b l h e. search rules) ∙ sym whole

-- Scans: a command that is no invalidation finds nothing; a row that went is found no more, nor is any below it.
-- Assumes nothing.
use mathlib.Core.Path.{◌≡◌, refl, sym, ◌∙◌}
use mathlib.Core.Bool.{Bool, true, false}
use mathlib.Core.List.{List}
use Prim.Native.Nat.{ℕ, ◌+◌, ◌-◌, ◌≤◌, ◌<◌, min, max}
use native.Mathlib.Decide.{ℕ_discrete}
use native.Mathlib.Omega.{arith}
use Rattle.words.specs.Search.{lowest}
use Rattle.std.specs.Prelude.{None, Some}
use Rattle.words.proofs.Search.{Lowest, Searching, Wider, over_none, from_zero, found, is_none, passes_over, lowest-same}
use Rattle.commands.specs.declared.Features.{Features}
use Rattle.commands.specs.declared.Command.{Command}
use Rattle.commands.specs.declared.Command.TheVariants.{DptiPa}
use Rattle.scopes.specs.Scopes.{invalidates, idle, in_scope}
use Rattle.regions.specs.Table as regions
use Rattle.regions.specs.Scopes.{in_region}
use Rattle.region_scopes.specs.Scopes.{is_regional, in_table}
use Rattle.memory.specs.Memory.{Memory, kept_rows, rows_in, scoped_at, cleared, Whole}
use Rattle.memory.proofs.Laws.{idle-unscoped, is-kept, is-behind, scope_kept, scope-behind, first_alone, second-alone, scoped_cleared, scoped_other}
use Rattle.image.specs.Image.{row_at}
use Rattle.screens.specs.Screens.{passes_at}
use Rattle.scope_screens.specs.ScopeScreens.{screen_of}
use Rattle.scope_screens.proofs.LetThrough.{unscoped}
use Rattle.due.specs.Due.{scan}

module _ (f : Features) (c : Command) (m : Memory) where
  pub other-finds-nothing : (n i : ℕ) → i ≤ n → invalidates c ≡ false → scan f c m (n - i) i ≡ None
  unfolding idle
  other-finds-nothing n i h e = is_none (scoped_at f c m) n i h (λ j a b. idle-unscoped f c m j (rw e))

  -- what a scan from the first row finds is the lowest row in scope
  pub lowest-scoped : (n i : ℕ) → scan f c m n 0 ≡ Some i → Lowest (scoped_at f c m) n 0 i
  lowest-scoped n i e = found (scoped_at f c m) n 0 i (omega arith) (sym (from_zero (scoped_at f c m) n) ∙ e)

-- a row of the second table, by the place of all rows
abbrev pub second_at : Command → List ℕ → ℕ → ℕ → Bool
second_at c table rows i = in_table c (regions.row_at table (i - rows))

pub of_region : (c : Command) (page size : ℕ) (leaf : Bool) → c ≡ DptiPa page size leaf → (table : List ℕ) (rows n i : ℕ)
    → lowest (λ j. in_region (regions.row_at table (j - rows)) page size leaf) n i ≡ lowest (second_at c table rows) n i
unfolding in_table
of_region c page size leaf e table rows n i = rw e refl

module _ (f : Features) (c : Command) (m : Memory) (from to : ℕ) where
  -- Document 02, T-11: a command about the second table has no row of the first in scope
  pub from_second : (i : ℕ) → is_regional c ≡ true → from ≤ to → i ≡ max from (min (kept_rows m) to)
      → lowest (scoped_at f c m) (to - from) from ≡ lowest (second_at c m.table (kept_rows m)) (to - i) i
  from_second i r h e =
      here.same
      ∙ lowest-same (scoped_at f c m) (second_at c m.table (kept_rows m)) (to - i) i (λ j a b. scope-behind m j f c (is-behind m j (omega (arith, e, a, b))))
    where
      here : Searching (scoped_at f c m) to (lowest (scoped_at f c m) (to - from) from) i
      here =
          over_none i (record { within = h; same = refl }) (omega (arith, e)) (omega (arith, e)) (λ j b l. second-alone f c m r j (omega (arith, e, b, l)))

  -- any other has none of the second. Document 02, T-13: nor one that its screen does not let through
  pub in_first : (end j : ℕ) → end ≡ min (kept_rows m) to → j < end → scoped_at f c m j ≡ in_scope f c (row_at m.kept j)
  in_first end j is h = scope_kept m j f c (is-kept m j (omega (arith, is, h)))

  pub screened : (end : ℕ) → is_regional c ≡ false → end ≡ min (kept_rows m) to → Wider (scoped_at f c m) (passes_at (screen_of f c) m.kept) end to
  screened end r is =
      record {
        most = omega (arith, is);
        narrows = λ j h e. in_first end j is h ∙ unscoped f c (row_at m.kept j) e;
        behind = λ j a b. first_alone f c m r j (omega (arith, is, a, b));
      }

-- behind a row that went the scan goes on
pub continues : (f : Features) (c : Command) (m : Memory) (i : ℕ) → Whole m → Lowest (scoped_at f c m) (rows_in m) 0 i
    → scan f c (cleared m i) (rows_in m - (i + 1)) (i + 1) ≡ scan f c (cleared m i) (rows_in m) 0
continues f c m i w low =
    sym (passes_over (scoped_at f c (cleared m i)) (rows_in m) (i + 1) (omega (arith, low.below)) (λ j l. below j l (ℕ_discrete j i)))
  where
    below : (j : ℕ) → j < i + 1 → Dec (j ≡ i) → scoped_at f c (cleared m i) j ≡ false
    below j l (yes s) = rw s (scoped_cleared f c m w i low.below)
    below j l (no d) = scoped_other f c m i j d ∙ low.first j (omega arith) (omega arith)

-- Document 02, T-07: of well-formed rows a command with a range removes exactly those that the commands with TG 0 for the pages of
-- the range remove together; and one with TG 0 removes what covers its address.
-- Assumes nothing.
use mathlib.Core.Path.{◌≡◌, refl, sym, ap, ◌∙◌}
use mathlib.Core.Bool.{Bool, true, false, not, ◌&&◌, ◌||◌}
use Prim.Native.Nat.{ℕ, ◌+◌, ◌-◌, ◌*◌, ◌/◌, ◌%◌, ◌^◌, ◌≤◌, ◌<◌, max}
use native.Mathlib.Nat.{mod-eq_of_lt, div-one}
use native.Mathlib.Omega.{arith}
use lib.Dec.{eqb, leb, ltb}
use lib.Pow.{mod-mod-pow}
use borrow.Author.Tests.{eqb-true, leb-true}
use Rattle.words.specs.Choice.{pick}
use Rattle.words.specs.Parts.{part}
use Rattle.words.proofs.Truth.{left, right, and_true}
use Rattle.rows.specs.declared.Row.{Row}
use Rattle.rows.specs.Rows as rows
use Rattle.rows.proofs.Covering.{covers-means}
use Rattle.attributes.specs.Formats as attributes
use Rattle.row_forms.specs.WellFormed.{address_bits, placed, in_half, begins, mark_good, present, stage_good_by, well_formed}
use Rattle.row_forms.proofs.LastLevel.{room}
use Rattle.row_forms.proofs.Halves.{stage-formed}
use Rattle.commands.specs.declared.Features.{Features}
use Rattle.commands.specs.declared.Target.{Target}
use Rattle.scopes.specs.Ranges.{address_of, tg_of, first_of, reaches}
use Rattle.scopes.specs.Scopes.{spared, stage_of, stage_at, own_of, own_at, is_e2h, has_asid, removes, too_wide, in_regime, in_scope}
use Rattle.scopes.proofs.Laws.{scoped, is-scoped}
use Rattle.scopes.proofs.Ranges as ranges
use Rattle.promises.specs.Ranges.{Aim, nh_va, nh_vaa, el2_va, el2_vaa, s2_ipa, aimed_at, pages, single, PageOf}

-- what a command by address asks of a row besides the address
abbrev asked : Aim → Bool → Row → Bool
asked (nh_va vmid asid) leaf row = stage_of row rows.stage1 vmid && (has_asid row asid || rows.is_global row) && not (spared row leaf)
asked (nh_vaa vmid) leaf row = stage_of row rows.stage1 vmid && not (spared row leaf)
asked (el2_va asid) leaf row = own_of row && (not (is_e2h row) || has_asid row asid || rows.is_global row) && not (spared row leaf)
asked el2_vaa leaf row = own_of row && not (spared row leaf)
asked (s2_ipa vmid) leaf row = stage_of row rows.stage2 vmid && not (spared row leaf)

swap_two : (a r b : Bool) → (a && r && b) ≡ (r && (a && b))
swap_two true true b = refl
swap_two true false b = refl
swap_two false true b = refl
swap_two false false b = refl

swap_three : (a r b c : Bool) → (a && r && b && c) ≡ (r && (a && b && c))
swap_three true true b c = refl
swap_three true false b c = refl
swap_three false true b c = refl
swap_three false false b c = refl

-- so each of the five removes what it reaches and what it asks for: the rule of the range stands once
pub aims : (a : Aim) (t : Target) (row : Row) → removes (aimed_at a t) row ≡ (reaches t row && asked a t.leaf row)
unfolding removes stage_at own_at
aims (nh_va v s) t row = swap_three (stage_of row rows.stage1 v) (reaches t row) (has_asid row s || rows.is_global row) (not (spared row t.leaf))
aims (nh_vaa v) t row = swap_two (stage_of row rows.stage1 v) (reaches t row) (not (spared row t.leaf))
aims (el2_va s) t row = swap_three (own_of row) (reaches t row) (not (is_e2h row) || has_asid row s || rows.is_global row) (not (spared row t.leaf))
aims el2_vaa t row = swap_two (own_of row) (reaches t row) (not (spared row t.leaf))
aims (s2_ipa v) t row = swap_two (stage_of row rows.stage2 v) (reaches t row) (not (spared row t.leaf))

-- what goes by the features does not look at the target
same_width : (f : Features) (a : Aim) (t t' : Target) → too_wide f (aimed_at a t) ≡ too_wide f (aimed_at a t')
unfolding too_wide
same_width f (nh_va v s) t t' = refl
same_width f (nh_vaa v) t t' = refl
same_width f (el2_va s) t t' = refl
same_width f el2_vaa t t' = refl
same_width f (s2_ipa v) t t' = refl

same-regime : (f : Features) (a : Aim) (t t' : Target) (row : Row) → in_regime f (aimed_at a t) row ≡ in_regime f (aimed_at a t') row
unfolding in_regime
same-regime f (nh_va v s) t t' row = refl
same-regime f (nh_vaa v) t t' row = refl
same-regime f (el2_va s) t t' row = refl
same-regime f el2_vaa t t' row = refl
same-regime f (s2_ipa v) t t' row = refl

-- two commands that differ in what they aim at, where both reach the row
same_scope : (f : Features) (a : Aim) (t t' : Target) (row : Row) → t.leaf ≡ t'.leaf → reaches t' row ≡ true
    → in_scope f (aimed_at a t) row ≡ true → in_scope f (aimed_at a t') row ≡ true
same_scope f a t t' row l r e =
    let s = scoped f (aimed_at a t) row e in
    let more = right (reaches t row) (asked a t.leaf row) (sym (aims a t row) ∙ s.removed) in
    is-scoped f (aimed_at a t') row
    (record {
      used = s.used;
      fits = sym (same_width f a t t') ∙ s.fits;
      ruled = sym (same-regime f a t t' row) ∙ s.ruled;
      removed = aims a t' row ∙ and_true r (ap (λ (b : Bool). asked a b row) (sym l) ∙ more);
    })

reached : (f : Features) (a : Aim) (t : Target) (row : Row) → in_scope f (aimed_at a t) row ≡ true → reaches t row ≡ true
reached f a t row e = left (reaches t row) (asked a t.leaf row) (sym (aims a t row) ∙ (scoped f (aimed_at a t) row e).removed)

-- the address of a page
page_address : (page : ℕ) → page < 2 ^ 52 → address_of page ≡ page * 2 ^ 12
unfolding part
page_address page h = rw (div-one page, mod-eq_of_lt h)

-- TG 0: the command removes the rows that cover its address, of those that it asks for
pub single_as_before : (a : Aim) (t : Target) (row : Row) → tg_of t ≡ 0
    → removes (aimed_at a t) row ≡ (rows.covers row (address_of t.page) && asked a t.leaf row)
single_as_before a t row z = aims a t row ∙ ap (λ (b : Bool). b && asked a t.leaf row) (ranges.single t z row)

-- the kind of the rows that each takes
abbrev kind_of : Aim → ℕ
kind_of (nh_va vmid asid) = rows.stage1
kind_of (nh_vaa vmid) = rows.stage1
kind_of (el2_va asid) = rows.stage1
kind_of el2_vaa = rows.stage1
kind_of (s2_ipa vmid) = rows.stage2

stage_kind : (row : Row) (k v : ℕ) → stage_of row k v ≡ true → eqb (rows.kind row) k ≡ true
unfolding stage_of
stage_kind row k v e =
    left (eqb (rows.kind row) k) (rows.is_unmarked row) (left (eqb (rows.kind row) k && rows.is_unmarked row) (eqb (rows.vmid row) v) e)

of_own : (row : Row) → own_of row ≡ true → eqb (rows.kind row) rows.stage1 ≡ true
unfolding own_of
of_own row e = left (eqb (rows.kind row) rows.stage1) (not (rows.is_unmarked row)) e

kind_is : (a : Aim) (l : Bool) (row : Row) → asked a l row ≡ true → eqb (rows.kind row) (kind_of a) ≡ true
kind_is (nh_va v s) l row e =
    let x = stage_of row rows.stage1 v in
    let y = has_asid row s || rows.is_global row in
    stage_kind row rows.stage1 v (left x y (left (x && y) (not (spared row l)) e))
kind_is (nh_vaa v) l row e = stage_kind row rows.stage1 v (left (stage_of row rows.stage1 v) (not (spared row l)) e)
kind_is (el2_va s) l row e =
    let x = own_of row in
    let y = not (is_e2h row) || has_asid row s || rows.is_global row in
    of_own row (left x y (left (x && y) (not (spared row l)) e))
kind_is el2_vaa l row e = of_own row (left (own_of row) (not (spared row l)) e)
kind_is (s2_ipa v) l row e = stage_kind row rows.stage2 v (left (stage_of row rows.stage2 v) (not (spared row l)) e)

-- a stage row begins at a page
module _ (row : Row) (g : stage_good_by present row ≡ true) where
  abbrev size : Bool
  size = leb 12 (rows.span row) && leb (rows.span row) 48

  abbrev begun : Bool
  begun = begins (rows.kind row) (rows.span row) row.w2

  abbrev outputs : Bool
  outputs = not (rows.is_last row) || (placed (rows.span row) row.w3 && attributes.well_formed (rows.attributes_of row))

  begins-well : (size && begun) ≡ true
  unfolding stage_good_by
  begins-well = left (size && begun) outputs (left (size && begun && outputs) (mark_good row) g)

  large : 12 ≤ rows.span row
  large = leb-true 12 (rows.span row) (left (leb 12 (rows.span row)) (leb (rows.span row) 48) (left size begun begins-well))

  small : rows.span row ≤ 48
  small = leb-true (rows.span row) 48 (right (leb 12 (rows.span row)) (leb (rows.span row) 48) (left size begun begins-well))

  multiple : (k : Bool) → pick k (in_half row.w2 && eqb (row.w2 % 2 ^ rows.span row) 0) (placed (rows.span row) row.w2) ≡ true
      → row.w2 % 2 ^ rows.span row ≡ 0
  unfolding placed
  multiple true e = eqb-true (row.w2 % 2 ^ rows.span row) 0 (right (in_half row.w2) (eqb (row.w2 % 2 ^ rows.span row) 0) e)
  multiple false e = eqb-true (row.w2 % 2 ^ rows.span row) 0 (right (ltb row.w2 (2 ^ address_bits)) (eqb (row.w2 % 2 ^ rows.span row) 0) e)

  row-whole : row.w2 % 2 ^ 12 ≡ 0
  unfolding begins
  row-whole =
      let z = multiple (eqb (rows.kind row) rows.stage1) (right size begun begins-well) in
      let n : (rows.span row - 12) + 12 ≡ rows.span row = omega (arith, large) in
      sym (mod-mod-pow row.w2 (rows.span row - 12) 12) ∙ ap (λ (x : ℕ). row.w2 % 2 ^ x % 2 ^ 12) n ∙ ap (λ (x : ℕ). x % 2 ^ 12) z

  -- at stage 2 below 2 ^ 52
  row_low : rows.kind row ≡ rows.stage2 → (x : ℕ) → rows.covers row x ≡ true → x < 2 ^ 52
  unfolding begins
  row_low k x c =
      let within = covers-means row x c in
      let e : row.w2 + (x - row.w2) ≡ x = omega (arith, within.0) in
      rw e at (room (rows.span row) row.w2 (rw k at (right size begun begins-well)) (x - row.w2) (omega (arith, small)) (omega (arith, within.0, within.1)))

no-range : (l : Bool) (page : ℕ) → tg_of (single l page) ≡ 0
unfolding part
no-range l page = refl

nameable : (a : Aim) (page : ℕ) → page < pages a → page < 2 ^ 52
nameable (nh_va v s) page h = h
nameable (nh_vaa v) page h = h
nameable (el2_va s) page h = h
nameable el2_vaa page h = h
nameable (s2_ipa v) page h = omega arith

-- a byte that a row covers lies in a page that the command can name
in_pages : (a : Aim) (row : Row) → stage_good_by present row ≡ true → eqb (rows.kind row) (kind_of a) ≡ true → (x : ℕ) → x < 2 ^ 64
    → rows.covers row x ≡ true → x / 2 ^ 12 < pages a
in_pages (nh_va v s) row g k x h c = omega (arith, h)
in_pages (nh_vaa v) row g k x h c = omega (arith, h)
in_pages (el2_va s) row g k x h c = omega (arith, h)
in_pages el2_vaa row g k x h c = omega (arith, h)
in_pages (s2_ipa v) row g k x h c = omega (arith, row_low row g (eqb-true (rows.kind row) rows.stage2 k) x c)

stage-kind : (a : Aim) (row : Row) → well_formed row ≡ true → rows.is_empty row ≡ false → eqb (rows.kind row) (kind_of a) ≡ true
    → stage_good_by present row ≡ true
stage-kind (nh_va v s) row f u k = let e = eqb-true (rows.kind row) rows.stage1 k in stage-formed present row f u (rw e) (rw e)
stage-kind (nh_vaa v) row f u k = let e = eqb-true (rows.kind row) rows.stage1 k in stage-formed present row f u (rw e) (rw e)
stage-kind (el2_va s) row f u k = let e = eqb-true (rows.kind row) rows.stage1 k in stage-formed present row f u (rw e) (rw e)
stage-kind el2_vaa row f u k = let e = eqb-true (rows.kind row) rows.stage1 k in stage-formed present row f u (rw e) (rw e)
stage-kind (s2_ipa v) row f u k = let e = eqb-true (rows.kind row) rows.stage2 k in stage-formed present row f u (rw e) (rw e)

module _ (f : Features) (a : Aim) (t : Target) (row : Row) where
  -- the command with TG 0 for a page
  abbrev for : ℕ → Target
  for page = single t.leaf page

  -- it covers the page's address
  at-page : (page : ℕ) → page < pages a → reaches (for page) row ≡ rows.covers row (page * 2 ^ 12)
  at-page page h =
      ranges.single (for page) (no-range t.leaf page) row ∙ ap (λ (x : ℕ). rows.covers row x) (page_address page (nameable a page h))

  -- what any one of those commands removes, the one with the range removes
  pub union-ranged : (page : ℕ) → PageOf a t page → in_scope f (aimed_at a (for page)) row ≡ true → in_scope f (aimed_at a t) row ≡ true
  union-ranged page p e =
      let c = sym (at-page page p.named) ∙ reached f a (for page) row e in
      same_scope f a (for page) t row refl
      (ranges.hit-reaches t row (page * 2 ^ 12) (record { from = p.from; below = p.below; covered = c }))
      e

  -- and what it removes, one of them does
  pub record Union : Type 0 where
    pub page : ℕ
    pub is-page : PageOf a t page
    pub removed : in_scope f (aimed_at a (for page)) row ≡ true

  pub ranged-union : well_formed row ≡ true → (tg_of t ≡ 0 → ⊥) → in_scope f (aimed_at a t) row ≡ true → Union
  ranged-union formed some e =
      let s = scoped f (aimed_at a t) row e in
      let r = reached f a t row e in
      let k = kind_is a t.leaf row (right (reaches t row) (asked a t.leaf row) (sym (aims a t row) ∙ s.removed)) in
      let g = stage-kind a row formed s.used k in
      let x = max (first_of t) row.w2 in
      let h = ranges.reaches-hit t row r in
      let page = x / 2 ^ 12 in
      let whole : page * 2 ^ 12 ≡ x = omega (arith, ranges.first-whole t some, row-whole row g) in
      let named = in_pages a row g k x (omega (arith, h.below, ranges.end_fits t)) h.covered in
      record {
        page = page;
        is-page = record { named = named; from = rw whole h.from; below = rw whole h.below };
        removed = same_scope f a t (for page) row refl (at-page page named ∙ rw whole h.covered) e;
      }

-- Document 02, T-07: a command by address reaches a row exactly if some byte of the row's span lies in its range, whatever the
-- granule. With TG 0 that is the one address.
-- Assumes nothing.
use mathlib.Core.Path.{◌≡◌, refl, sym, ap, ◌∙◌}
use mathlib.Core.Bool.{Bool, true, false}
use Prim.Native.Nat.{ℕ, zero, suc, ◌+◌, ◌-◌, ◌*◌, ◌/◌, ◌%◌, ◌^◌, ◌≤◌, ◌<◌, max, min}
use native.Mathlib.Nat.{le_trans, mul-le-mul_left, mul-le-mul_right, mul-pos, div-add-mod', div-one, mul-one}
use native.Mathlib.Omega.{arith}
use lib.Dec.{eqb}
use lib.ListN.{get_or}
use lib.Pow.{pow_pos, pow_mono}
use borrow.Author.Tests.{ne_eqb}
use Rattle.words.specs.Choice.{pick}
use Rattle.words.specs.Ranges.{bits}
use Rattle.words.specs.Spans.{overlap}
use Rattle.words.proofs.Parts.{part_lt}
use Rattle.words.proofs.Spans.{is-overlap, first-ends-later, second-ends-later, overlap-shared, shared-overlap}
use Rattle.words.proofs.Truth.{same_test}
use Rattle.rows.specs.declared.Row.{Row}
use Rattle.rows.specs.Rows as rows
use Rattle.rows.proofs.Covering.{covers-means, means-covers}
use Rattle.commands.specs.declared.Target.{Target}
use Rattle.scopes.specs.Ranges.{address_of, tg_of, num_of, scale_of, granules, granule_of, first_of, length_of, end_of, reaches}

module _ (t : Target) where
  -- the granule by TG, as the arms of a match know it: the last is that of TG 3
  pub granule-at : (r k : ℕ) → r ≡ tg_of t → r ≡ k → get_or granules k 0 ≡ granule_of t
  granule-at r k e z = ap (λ (n : ℕ). get_or granules n 0) (sym z ∙ e)

  pub granule-last : (r : ℕ) → r ≡ tg_of t → ((Unit {0} × (r ≡ 0 → ⊥)) × (r ≡ 1 → ⊥)) × (r ≡ 2 → ⊥) → 16 ≡ granule_of t
  granule-last r e n =
      let h = part_lt (bits 1 0) t.tg in
      let a = n.0.0.1 in
      let b = n.0.1 in
      let d = n.1 in
      let z : r ≡ 3 = omega (arith, a, b, d, e, h) in
      granule-at r 3 e z

  address-fits : address_of t.page < 2 ^ 64
  address-fits = omega (arith, part_lt (bits 51 0) t.page)

  pub first_below : first_of t ≤ address_of t.page
  unfolding first_of
  first_below = omega (arith, div-add-mod' (address_of t.page) (2 ^ granule_of t))

  pub first-is : (a g : ℕ) → a ≡ address_of t.page → g ≡ 2 ^ granule_of t → a / g * g ≡ first_of t
  unfolding first_of
  first-is a g p q = rw (p, q)

  pub first_fits : first_of t < 2 ^ 64
  first_fits = omega (arith, first_below, address-fits)

  -- the factors of a length, and the length
  pub num-bound : num_of t + 1 ≤ 2 ^ 5
  num-bound = omega (arith, part_lt (bits 4 0) t.num)

  pub scale-bound : 2 ^ scale_of t ≤ 2 ^ 31
  scale-bound = pow_mono {j = 31} (omega (arith, part_lt (bits 4 0) t.scale))

  pub granules-bound : (num_of t + 1) * 2 ^ scale_of t ≤ 2 ^ 36
  granules-bound = le_trans (mul-le-mul_right (2 ^ scale_of t) num-bound) (mul-le-mul_left (2 ^ 5) scale-bound)

  by-tg : (p : ℕ → Type 0) → p 0 → p 12 → p 14 → p 16 → p (granule_of t)
  by-tg p a b c d = at (tg_of t) (part_lt (bits 1 0) t.tg)
    where
      at : (n : ℕ) → n < 4 → p (get_or granules n 0)
      at zero h = a
      at (suc zero) h = b
      at (suc (suc zero)) h = c
      at (suc (suc (suc zero))) h = d
      at (suc (suc (suc (suc n)))) h = absurd (omega arith)

  -- rounding down passes no multiple of the largest granule
  pub first-from : (m : ℕ) → m * 2 ^ 16 ≤ address_of t.page → m * 2 ^ 16 ≤ first_of t
  unfolding first_of
  first-from m h =
      by-tg (λ n. m * 2 ^ 16 ≤ address_of t.page / 2 ^ n * 2 ^ n) (omega arith) (omega arith) (omega arith) (omega arith)

  -- and with a granule it gives a whole page
  pub first-whole : (tg_of t ≡ 0 → ⊥) → first_of t % 2 ^ 12 ≡ 0
  unfolding first_of
  first-whole some = at (tg_of t) some (part_lt (bits 1 0) t.tg)
    where
      a : ℕ
      a = address_of t.page

      at : (n : ℕ) → (n ≡ 0 → ⊥) → n < 4 → a / 2 ^ get_or granules n 0 * 2 ^ get_or granules n 0 % 2 ^ 12 ≡ 0
      at zero z h = absurd (z refl)
      at (suc zero) z h = omega arith
      at (suc (suc zero)) z h = omega arith
      at (suc (suc (suc zero))) z h = omega arith
      at (suc (suc (suc (suc n)))) z h = absurd (omega arith)

  pub granule-bound : granule_of t ≤ 16
  granule-bound = by-tg (λ n. n ≤ 16) (omega arith) (omega arith) (omega arith) (omega arith)

  pub length-bound : (num_of t + 1) * 2 ^ scale_of t * 2 ^ granule_of t ≤ 2 ^ 52
  length-bound = le_trans (mul-le-mul_right (2 ^ granule_of t) granules-bound) (mul-le-mul_left (2 ^ 36) (pow_mono {j = 16} granule-bound))

  pub length-pos : 0 < length_of t
  unfolding length_of
  length-pos = by_test (eqb (tg_of t) 0)
    where
      by_test : (b : Bool) → 0 < pick b 1 ((num_of t + 1) * 2 ^ scale_of t * 2 ^ granule_of t)
      by_test true = omega arith
      by_test false = mul-pos (mul-pos (omega arith) (pow_pos (scale_of t))) (pow_pos (granule_of t))

  pub end_fits : end_of t ≤ 2 ^ 64
  unfolding end_of
  end_fits = omega arith

  end-behind : first_of t < end_of t
  unfolding end_of
  end-behind = omega (arith, first_fits, length-pos)

  module _ (row : Row) where
    abbrev size : ℕ
    size = 2 ^ rows.span row

    -- what reaches beyond the top meets the rows that it meets below
    pub to-the-top : row.w2 < 2 ^ 64 → overlap (first_of t) (length_of t) row.w2 size ≡ reaches t row
    unfolding end_of reaches
    to-the-top fit =
        let n = min (first_of t + length_of t) (2 ^ 64) - first_of t in
        same_test (overlap (first_of t) (length_of t) row.w2 size) (overlap (first_of t) n row.w2 size)
        (λ e. is-overlap (first_of t) n row.w2 size
        (second-ends-later (first_of t) (length_of t) row.w2 size e)
        (omega (arith, first-ends-later (first_of t) (length_of t) row.w2 size e, fit, first_fits)))
        (λ e. is-overlap (first_of t) (length_of t) row.w2 size
        (second-ends-later (first_of t) n row.w2 size e)
        (omega (arith, first-ends-later (first_of t) n row.w2 size e, fit, first_fits)))

    -- a byte of the range that the row covers
    pub record Hit (x : ℕ) : Type 0 where
      pub from : first_of t ≤ x
      pub below : x < end_of t
      pub covered : rows.covers row x ≡ true

    -- any such byte, whatever the granule; and the later of the two beginnings is one
    pub hit-reaches : (x : ℕ) → Hit x → reaches t row ≡ true
    unfolding reaches
    hit-reaches x h =
        let c = covers-means row x h.covered in
        shared-overlap (first_of t) (end_of t - first_of t) row.w2 size x
        (record {
          from_first = h.from;
          to-first = omega (arith, h.below, end-behind);
          from_second = c.0;
          to-second = c.1;
        })

    pub reaches-hit : reaches t row ≡ true → Hit (max (first_of t) row.w2)
    unfolding reaches
    reaches-hit e =
        let s = overlap-shared (first_of t) (end_of t - first_of t) row.w2 size (omega (arith, end-behind)) (pow_pos (rows.span row)) e in
        record {
          from = s.from_first;
          below = omega (arith, s.to-first, end-behind);
          covered = means-covers row (max (first_of t) row.w2) s.from_second s.to-second;
        }

  -- a length by its factors
  pub length-one : (r : ℕ) → r ≡ tg_of t → r ≡ 0 → (1 ≡ length_of t) × (0 < 1)
  unfolding length_of
  length-one r e z = let none : tg_of t ≡ 0 = sym e ∙ z in (rw none, omega arith)

  pub length-many : (r n s g : ℕ) → r ≡ tg_of t → (r ≡ 0 → ⊥) → n ≡ num_of t → s ≡ 2 ^ scale_of t → g ≡ 2 ^ granule_of t
      → ((n + 1) * s * g ≡ length_of t) × (0 < (n + 1) * s * g)
  unfolding length_of
  length-many r n s g e z p q w =
      let some : eqb (tg_of t) 0 ≡ false = ne_eqb (tg_of t) 0 (λ x. z (e ∙ x)) in
      let is : (n + 1) * s * g ≡ length_of t = rw (some, p, q, w) in
      (is, rw is length-pos)

  -- TG 0 is the single address
  module _ (none : tg_of t ≡ 0) where
    pub single-first : first_of t ≡ address_of t.page
    unfolding first_of
    single-first = rw none (mul-one (address_of t.page / 1) ∙ div-one (address_of t.page))

    pub single-length : length_of t ≡ 1
    unfolding length_of
    single-length = rw none

    single-end : end_of t ≡ address_of t.page + 1
    unfolding end_of
    single-end = omega (arith, single-first, single-length, address-fits)

    pub single : (row : Row) → reaches t row ≡ rows.covers row (address_of t.page)
    single row =
        same_test (reaches t row) (rows.covers row (address_of t.page))
        (λ e. let h = reaches-hit row e in
        let one : max (first_of t) row.w2 ≡ address_of t.page = omega (arith, h.from, h.below, single-first, single-end) in
        rw one at h.covered)
        (λ e. hit-reaches row (address_of t.page) (record { from = first_below; below = omega (arith, single-end); covered = e }))

-- a wider range reaches no less
pub wider-reaches : (t t' : Target) (row : Row) → first_of t' ≤ first_of t → end_of t ≤ end_of t' → reaches t row ≡ true → reaches t' row ≡ true
wider-reaches t t' row p q e =
    let h = reaches-hit t row e in
    let x = max (first_of t) row.w2 in
    hit-reaches t' row x (record { from = omega (arith, p, h.from); below = omega (arith, q, h.below); covered = h.covered })

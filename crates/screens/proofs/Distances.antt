-- Distances around 2 ^ 64: a row that covers an address, or shares one of some bytes, is near enough.
-- Assumes nothing.
use Rattle.std.proofs.Common.{◌≡◌, ℕ, ◌+◌, ◌-◌, ◌/◌, ◌%◌, ◌^◌, ◌<◌, ◌≤◌, true, arith, pow_mono, lt-ltb, eq-eqb}
use native.Mathlib.Nat.{div-eq_of_lt}
use Rattle.words.proofs.Parts.{part_lt}
use Rattle.rows.specs.declared.Row.{Row}
use Rattle.rows.specs.Rows as rows
use Rattle.screens.specs.Screens.{ahead, near, about}

in_front : (a b : ℕ) → b ≤ a → a - b < 2 ^ 64 → ahead a b ≡ a - b
in_front a b h l = let more : a + 2 ^ 64 - b ≡ (a - b) + 2 ^ 64 = omega arith in omega (arith, more)

-- the last byte may be past the top, and is taken around it
around : (a b : ℕ) → b < 2 ^ 64 → b ≤ a → a - b < 2 ^ 64 → ahead (a % 2 ^ 64) b ≡ a - b
around a b f h l = omega arith

module _ (row : Row) where
  abbrev size : ℕ
  size = 2 ^ rows.span row

  short : size ≤ 2 ^ 63
  short = pow_mono {j = 63} (let l : rows.span row < 64 = part_lt rows.span_bits row.w0 in omega arith)

  pub covers-near : (a : ℕ) → row.w2 ≤ a → a < row.w2 + size → near a row ≡ true
  unfolding near
  covers-near a h l =
      let less : a - row.w2 < size = omega arith in
      eq-eqb (ahead a row.w2 / size) 0 (rw (in_front a row.w2 h (omega (arith, less, short))) (div-eq_of_lt less))

  -- so many bytes behind the first
  pub shares-about : (first more : ℕ) → row.w2 < 2 ^ 64 → more < 2 ^ 63 → row.w2 ≤ first + more → first < row.w2 + size
      → about ((first + more) % 2 ^ 64) more row ≡ true
  unfolding about
  shares-about first more f m h l =
      let less : first + more - row.w2 < size + more = omega arith in
      let fits : (size + more) % 2 ^ 64 ≡ size + more = omega (arith, short) in
      lt-ltb (ahead ((first + more) % 2 ^ 64) row.w2) ((size + more) % 2 ^ 64)
      (rw (around (first + more) row.w2 f h (omega (arith, less, short)), fits) less)

-- Document 02, T-07: which bits of a range a command by address may set, bit by bit; and that TG 0 has no range.
-- Assumes nothing.
use mathlib.Core.Path.{◌≡◌, refl, sym}
use mathlib.Core.Bool.{Bool, true, false, not, ◌&&◌, ◌||◌}
use Prim.Native.Nat.{ℕ, ◌+◌, ◌-◌, ◌≤◌, ◌<◌}
use native.Mathlib.Omega.{arith}
use lib.Dec.{eqb}
use Rattle.words.specs.Choice.{pick}
use Rattle.words.specs.Parts.{part, is_set, joined}
use Rattle.words.specs.Ranges.{get, named, all, set_only}
use Rattle.words.proofs.Truth.{passed, then_true, left, right, clash}
use Rattle.words.proofs.Table.{all-at}
use Rattle.commands.specs.declared.Features.{Features}
use Rattle.commands.specs.declared.Shape.{Shape}
use Rattle.commands.specs.Formats.{tg_bits, shape_of, named_at, how_many}
use Rattle.commands.specs.Masks.{ranged_at}
use Rattle.commands.specs.RangeFields.{may_be_set, without_ril, ranged, table_says, verdict_of}
use Rattle.commands.specs.Decoding.{place_in, known_code, feature_present, clean, parameter_good, command_of, decode}

same : Bool → Bool → Bool
same a b = pick a b (not b)

is_same : (a b : Bool) → same a b ≡ true → a ≡ b
unfolding same
is_same true b e = sym e
is_same false true e = e
is_same false false e = refl

-- bits 31:8 of the low word and 75:65 of the high one
low : Features → Shape → ℕ → ℕ → Bool
low f s k i = same (named (named_at f s k) (8 + i)) (may_be_set f s (8 + i))

high : Features → Shape → ℕ → ℕ → Bool
high f s k i = same (named (named_at f s k) (65 + i)) (may_be_set f s (65 + i))

fits : Features → Shape → ℕ → Bool
fits f s k = not (ranged_at k) || (all 24 (low f s k) && all 11 (high f s k))

tested : (f : Features) (s : Shape) → all how_many (fits f s) ≡ true
unfolding fits low high same
tested f s = by_bits f.s1p f.s2p f.asid16 f.vmid16 f.hyp f.e2h f.ril f.dpt s.ranged s.hinted
  where
    by_bits : (s1p s2p asid16 vmid16 hyp e2h ril dpt ranged hinted : Bool)
        → all how_many
        (fits record { s1p = s1p; s2p = s2p; asid16 = asid16; vmid16 = vmid16; hyp = hyp; e2h = e2h; ril = ril; dpt = dpt }
        record { ranged = ranged; hinted = hinted })
        ≡ true
    by_bits s1p true asid16 vmid16 hyp e2h false dpt ranged hinted = passed tt
    by_bits s1p true asid16 vmid16 hyp e2h true dpt false hinted = passed tt
    by_bits s1p true asid16 vmid16 hyp e2h true dpt true false = passed tt
    by_bits s1p true asid16 vmid16 hyp e2h true dpt true true = passed tt
    by_bits s1p false asid16 vmid16 hyp e2h false dpt ranged hinted = passed tt
    by_bits s1p false asid16 vmid16 hyp e2h true dpt false hinted = passed tt
    by_bits s1p false asid16 vmid16 hyp e2h true dpt true false = passed tt
    by_bits s1p false asid16 vmid16 hyp e2h true dpt true true = passed tt

module _ (f : Features) (s : Shape) (k : ℕ) (h : k < how_many) (r : ranged_at k ≡ true) where
  both : (all 24 (low f s k) && all 11 (high f s k)) ≡ true
  unfolding fits
  both = then_true (all-at how_many (fits f s) (tested f s) k h) r

  pub low-by-table : (i : ℕ) → 8 ≤ i → i < 32 → named (named_at f s k) i ≡ may_be_set f s i
  unfolding low
  low-by-table i a b =
      let e : 8 + (i - 8) ≡ i = omega arith in
      rw e at (is_same (named (named_at f s k) (8 + (i - 8))) (may_be_set f s (8 + (i - 8)))
      (all-at 24 (low f s k) (left (all 24 (low f s k)) (all 11 (high f s k)) both) (i - 8) (omega arith)))

  pub high-by-table : (i : ℕ) → 65 ≤ i → i < 76 → named (named_at f s k) i ≡ may_be_set f s i
  unfolding high
  high-by-table i a b =
      let e : 65 + (i - 65) ≡ i = omega arith in
      rw e at (is_same (named (named_at f s k) (65 + (i - 65))) (may_be_set f s (65 + (i - 65)))
      (all-at 11 (high f s k) (right (all 24 (low f s k)) (all 11 (high f s k)) both) (i - 65) (omega arith)))

-- a command with TG 0 is what it is without RIL
module _ (f : Features) where
  same_names : (s : Shape) (k : ℕ) → s.ranged ≡ false → named_at f s k ≡ named_at (without_ril f) s k
  same_names s k e = by-ril f.ril s.ranged s.hinted e
    where
      by-ril : (ril ranged hinted : Bool) → ranged ≡ false
          → named_at
          record { s1p = f.s1p; s2p = f.s2p; asid16 = f.asid16; vmid16 = f.vmid16; hyp = f.hyp; e2h = f.e2h; ril = ril; dpt = f.dpt }
          record { ranged = ranged; hinted = hinted } k
          ≡ named_at (without_ril f) record { ranged = ranged; hinted = hinted } k
      by-ril true false hinted z = refl
      by-ril true true hinted z = clash refl z
      by-ril false ranged hinted z = refl

  pub tg-0-aside : (lo hi : ℕ) → get tg_bits (joined lo hi) ≡ 0 → decode f lo hi ≡ decode (without_ril f) lo hi
  unfolding decode clean feature_present
  tg-0-aside lo hi e =
      let c = joined lo hi in
      let none : (shape_of c).ranged ≡ false = rw e in
      rw (same_names (shape_of c) (place_in c) none)

-- the whole table, by computing what decoding says of every TG, TTL and TTL128 and of NUM and SCALE 0 and not 0
pub says : Bool → ℕ → ℕ → ℕ → ℕ → ℕ → Bool
says ril tg ttl ttl128 num scale = eqb (verdict_of ril (ranged tg ttl ttl128 num scale)) (table_says ril tg ttl ttl128 num scale)

pub agrees : Bool → Bool
agrees ril = all 4 (λ tg. all 4 (λ ttl. all 2 (λ ttl128. all 2 (λ num. all 2 (λ scale. says ril tg ttl ttl128 num scale)))))

pub verdict_case : (ril : Bool) → agrees ril ≡ true
unfolding agrees says part is_set joined set_only known_code feature_present clean parameter_good command_of decode
verdict_case true = passed tt
verdict_case false = passed tt

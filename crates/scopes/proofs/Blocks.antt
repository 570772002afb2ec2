-- Blocks of streams: two meet exactly if some stream lies in both. Range 31 is every stream.
-- Assumes nothing.
use mathlib.Core.Path.{◌≡◌, refl, sym, ap, ◌∙◌}
use mathlib.Core.Bool.{Bool, true, false}
use mathlib.Core.Logic.{◌⊎◌, ⊎_elim}
use Prim.Native.Nat.{ℕ, ◌+◌, ◌-◌, ◌/◌, ◌^◌, ◌≤◌, ◌<◌, max}
use native.Mathlib.Nat.{div-eq_of_lt, lt_of_lt_of_le}
use native.Mathlib.Omega.{arith}
use lib.Dec.{eqb}
use lib.Pow.{pow_mono, shr-shr}
use borrow.Author.Tests.{eqb-true, eq-eqb}
use Rattle.words.specs.Parts.{part}
use Rattle.words.proofs.Parts.{part_lt}
use Rattle.words.proofs.Truth.{and_true, or_left, or_right, less_or_not}
use Rattle.rows.specs.declared.Row.{Row}
use Rattle.rows.specs.Rows as rows
use Rattle.commands.specs.declared.Features.{Features}
use Rattle.commands.specs.declared.Command.TheVariants.{CfgiSteRange}
use Rattle.scopes.specs.declared.Block.{Block}
use Rattle.scopes.specs.Scopes.{meets, one, ste_block, ranged, ste_of, cd_of, removes, too_wide, in_scope, in_regime}
use Rattle.scopes.proofs.Laws.{is-scoped}

-- a stream lies in a block
abbrev pub LiesIn : ℕ → Block → Type 0
LiesIn stream b = stream / 2 ^ b.span ≡ b.stream / 2 ^ b.span

-- a stream of 32 bits that lies in both of two blocks
pub record Shared (a b : Block) : Type 0 where
  pub stream : ℕ
  pub fits : stream < 2 ^ 32
  pub first : LiesIn stream a
  pub second : LiesIn stream b

-- what is equal above n bits is equal above more
above : (x y n k : ℕ) → n ≤ k → x / 2 ^ n ≡ y / 2 ^ n → x / 2 ^ k ≡ y / 2 ^ k
above x y n k h e =
    let sum : n + (k - n) ≡ k = omega arith in
    rw sum at (sym (shr-shr x n (k - n)) ∙ ap (λ (z : ℕ). z / 2 ^ (k - n)) e ∙ shr-shr y n (k - n))

module _ (a b : Block) where
  abbrev wider : ℕ
  wider = max a.span b.span

  -- the larger block counts
  pub second-larger : (x : Bool) → a.span < b.span → x ≡ eqb (a.stream / 2 ^ b.span) (b.stream / 2 ^ b.span) → x ≡ meets a b
  second-larger x l e = let k : wider ≡ b.span = omega arith in rw k e

  pub first-larger : (x : Bool) → b.span ≤ a.span → x ≡ eqb (a.stream / 2 ^ a.span) (b.stream / 2 ^ a.span) → x ≡ meets a b
  first-larger x g e = let k : wider ≡ a.span = omega arith in rw k e

  pub meet-share : a.stream < 2 ^ 32 → b.stream < 2 ^ 32 → meets a b ≡ true → Shared a b
  meet-share fit-a fit-b e =
      let same = eqb-true (a.stream / 2 ^ wider) (b.stream / 2 ^ wider) e in
      ⊎_elim
      (λ l. let k : wider ≡ b.span = omega arith in record { stream = a.stream; fits = fit-a; first = refl; second = rw k at same })
      (λ g. let k : wider ≡ a.span = omega arith in record { stream = b.stream; fits = fit-b; first = rw k at (sym same); second = refl })
      (less_or_not a.span b.span)

  pub share-meet : (stream : ℕ) → LiesIn stream a → LiesIn stream b → meets a b ≡ true
  share-meet stream p q =
      eq-eqb (a.stream / 2 ^ wider) (b.stream / 2 ^ wider)
      (sym (above stream a.stream a.span wider (omega arith) p) ∙ above stream b.stream b.span wider (omega arith) q)

-- every two streams are equal above 32 bits
none_above : (x k : ℕ) → x < 2 ^ 32 → 32 ≤ k → x / 2 ^ k ≡ 0
none_above x k h l = div-eq_of_lt (lt_of_lt_of_le h (pow_mono l))

pub all_meet : (a b : Block) → a.stream < 2 ^ 32 → b.stream < 2 ^ 32 → b.span ≡ 32 → meets a b ≡ true
all_meet a b fit-a fit-b e =
    let k = max a.span b.span in
    eq-eqb (a.stream / 2 ^ k) (b.stream / 2 ^ k)
    (none_above a.stream k fit-a (omega arith) ∙ sym (none_above b.stream k fit-b (omega arith)))

-- 04 with Range 31 removes every STE and CD row that is used, whatever its StreamID and the row's
pub range_31 : (f : Features) (s : ℕ) (row : Row) → s < 2 ^ 32 → rows.is_empty row ≡ false
    → (rows.kind row ≡ rows.ste) ⊎ (rows.kind row ≡ rows.cd) → in_scope f (CfgiSteRange s 31) row ≡ true
unfolding too_wide in_regime removes ste_of cd_of part
range_31 f s row fit used kind =
    let every = ranged s 31 in
    is-scoped f (CfgiSteRange s 31) row
    (record {
      used = used;
      fits = refl;
      ruled = refl;
      removed = ⊎_elim
          (λ ste. or_left (ste_of row every) (cd_of row every)
          (and_true (eq-eqb (rows.kind row) rows.ste ste) (all_meet (ste_block row) every (part_lt rows.stream_bits row.w1) fit refl)))
          (λ cd. or_right (ste_of row every) (cd_of row every)
          (and_true (eq-eqb (rows.kind row) rows.cd cd) (all_meet (one (rows.stream row)) every (part_lt rows.stream_bits row.w1) fit refl)))
          kind;
    })

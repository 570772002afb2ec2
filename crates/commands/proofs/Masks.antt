-- The masks of the bits that each code names, by one computed test over the table: with S2P and without, with no range, with one, and with
-- one that has a TTL.
-- Assumes nothing.
use mathlib.Core.Path.{◌≡◌, sym, ap, ap₂, ◌∙◌}
use mathlib.Core.Bool.{Bool, true, false, not, ◌&&◌}
use mathlib.Core.List.{List, [], ◌∷◌}
use Prim.Native.Nat.{ℕ, ◌+◌, ◌^◌, ◌<◌}
use lib.Bits.{bit_and, bit_or}
use lib.Dec.{eqb, leb}
use lib.ListN.{get_or}
use Rattle.words.specs.Choice.{pick}
use Rattle.words.specs.Parts.{is_set, joined}
use Rattle.words.specs.Ranges.{named, all, set_only}
use Rattle.words.proofs.Truth.{passed, left, right}
use Rattle.words.proofs.Table.{all-at}
use Rattle.words.proofs.Masks.{masked}
use Rattle.words.proofs.TwoWords.{set-only}
use Rattle.commands.specs.declared.Features.{Features}
use Rattle.commands.specs.declared.Shape.{Shape}
use Rattle.commands.specs.Formats.{how_many, shape_of, named_at, exactly, MasksOf}
use Rattle.commands.specs.Masks.{named_masks, range_masks}
use Rattle.commands.specs.Decoding.{clean}

-- the k-th pair under the features
abbrev pub mask_at : Features → ℕ → List ℕ
mask_at f k =
    pick (leb 6 k && leb k 9 && not f.s2p)
    (bit_and (get_or (get_or named_masks k []) 0 0) 0xffff0000ffffffff ∷ get_or (get_or named_masks k []) 1 0 ∷ [])
    (get_or named_masks k [])

-- and with the range's
abbrev pub mask_of : Features → Shape → ℕ → List ℕ
mask_of f s k =
    bit_or (get_or (mask_at f k) 0 0) (get_or (range_masks f s k) 0 0) ∷ bit_or (get_or (mask_at f k) 1 0) (get_or (range_masks f s k) 1 0) ∷ []

fits : Features → Shape → ℕ → Bool
fits f s k =
    exactly (named (named_at f s k)) (get_or (mask_of f s k) 0 0) && exactly (λ i. named (named_at f s k) (64 + i)) (get_or (mask_of f s k) 1 0)

tested : (f : Features) (s : Shape) → all how_many (fits f s) ≡ true
unfolding fits is_set
tested f s = by_bits f.s1p f.s2p f.asid16 f.vmid16 f.hyp f.e2h f.ril f.dpt s.ranged s.hinted
  where
    by_bits : (s1p s2p asid16 vmid16 hyp e2h ril dpt ranged hinted : Bool)
        → all how_many
        (fits record { s1p = s1p; s2p = s2p; asid16 = asid16; vmid16 = vmid16; hyp = hyp; e2h = e2h; ril = ril; dpt = dpt }
        record { ranged = ranged; hinted = hinted })
        ≡ true
    by_bits s1p true asid16 vmid16 hyp e2h false dpt ranged hinted = passed tt
    by_bits s1p true asid16 vmid16 hyp e2h true dpt false hinted = passed tt
    by_bits s1p true asid16 vmid16 hyp e2h true dpt true false = passed tt
    by_bits s1p true asid16 vmid16 hyp e2h true dpt true true = passed tt
    by_bits s1p false asid16 vmid16 hyp e2h false dpt ranged hinted = passed tt
    by_bits s1p false asid16 vmid16 hyp e2h true dpt false hinted = passed tt
    by_bits s1p false asid16 vmid16 hyp e2h true dpt true false = passed tt
    by_bits s1p false asid16 vmid16 hyp e2h true dpt true true = passed tt

pub right-masks : (f : Features) (s : Shape) (k : ℕ) → k < how_many → MasksOf (named_at f s k) (mask_of f s k)
unfolding fits
right-masks f s k h =
    let low = exactly (named (named_at f s k)) (get_or (mask_of f s k) 0 0) in
    let high = exactly (λ i. named (named_at f s k) (64 + i)) (get_or (mask_of f s k) 1 0) in
    let both = all-at how_many (fits f s) (tested f s) k h in
    record { low = left low high both; high = right low high both }

-- such masks test what the definition asks
pub tests : (f : Features) (s : Shape) (k lo hi : ℕ) (m : List ℕ) → s ≡ shape_of (joined lo hi) → MasksOf (named_at f s k) m → lo < 2 ^ 64 → hi < 2 ^ 64
    → (eqb (bit_and lo (get_or m 0 0)) lo && eqb (bit_and hi (get_or m 1 0)) hi) ≡ clean f k (joined lo hi)
unfolding clean
tests f s k lo hi m e r fit-lo fit-hi =
    ap₂ ◌&&◌
    (masked (named (named_at f s k)) (get_or m 0 0) lo r.low fit-lo)
    (masked (λ i. named (named_at f s k) (64 + i)) (get_or m 1 0) hi r.high fit-hi)
    ∙ sym (set-only lo hi fit-lo (named (named_at f s k)))
    ∙ ap (λ (x : Shape). set_only 128 (named (named_at f x k)) (joined lo hi)) e

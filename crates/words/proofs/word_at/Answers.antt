-- `words::word_at` meets its contract: the eight bytes read are those of the part.
-- Assumes nothing.
use mathlib.Core.Path.{◌≡◌, refl, ap, sym, ◌∙◌}
use Prim.Native.Nat.{ℕ}
use native.Mathlib.Nat.{add-zero}
use native.Mathlib.Omega.{arith}
use lib.ListN.{take, drop, get_or}
use mathlib.Core.List.{◌∷◌}
use Rattle.words.specs.Bytes.{little_endian, word_at}
use Rattle.words.proofs.Bytes.{reading, take_reads, from_eight}
use Rattle.words.proofs.word_at.Goals as goal

pub returns : goal.returns
unfolding word_at
returns c =
    let s = c in
    let xs = s.args.bytes.now in
    let at = s.args.at in
    let reads : take 8 (drop at xs) ≡ get_or xs at 0 ∷ reading 7 xs at 1 =
    ap (λ (n : ℕ). take 8 (drop n xs)) (sym (add-zero at)) ∙ take_reads 8 xs at 0 (omega (arith, s.requires))
    ∙ ap (λ (n : ℕ). get_or xs n 0 ∷ reading 7 xs at 1) (add-zero at) in
    c.from_le_bytes.ensures ∙ from_eight (get_or xs at 0 ∷ reading 7 xs at 1) refl ∙ ap little_endian (sym reads)

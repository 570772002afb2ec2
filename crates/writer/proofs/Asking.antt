-- The words that ask for each command, as they are put together.
-- Assumes nothing.
use mathlib.Core.Path.{◌≡◌}
use mathlib.Core.Bool.{Bool}
use mathlib.Core.List.{List, [], ◌∷◌}
use Prim.Native.Nat.{ℕ}
use Rattle.commands.specs.declared.Target.{Target}
use Rattle.commands.specs.declared.Command.{Command}
use Rattle.commands.specs.declared.Command.TheVariants.{PrefetchConfig, PrefetchAddr, CfgiSte, CfgiSteRange, CfgiCd, CfgiCdAll, TlbiNhAll, TlbiNhAsid, TlbiNhVa, TlbiNhVaa, TlbiEl2All, TlbiEl2Asid, TlbiEl2Va, TlbiEl2Vaa, TlbiS12Vmall, TlbiS2Ipa, TlbiNsnhAll, Sync, DptiAll, DptiPa}
use Rattle.writer.specs.Layouts.{bit, stream, substream, range, leaf, vmid, asid, page, ranged_by, asking, fields_of}

module _ (m : Command) (w : List ℕ) where
  pub of-01 : m ≡ PrefetchConfig → w ≡ asking 0x01 ((vmid, 0) ∷ (asid, 0) ∷ []) → w ≡ fields_of m
  unfolding fields_of
  of-01 e p = rw e p

  pub of-02 : m ≡ PrefetchAddr → w ≡ asking 0x02 ((vmid, 0) ∷ (asid, 0) ∷ []) → w ≡ fields_of m
  unfolding fields_of
  of-02 e p = rw e p

  pub of-03 : (s : ℕ) (l : Bool) (b : ℕ) → m ≡ CfgiSte s l → b ≡ bit l → w ≡ asking 0x03 ((stream, s) ∷ (substream, 0) ∷ (range, 0) ∷ (leaf, b) ∷ []) → w ≡ fields_of m
  unfolding fields_of
  of-03 s l b e x p = rw (e, ← x) p

  pub of-04 : (s : ℕ) (r : ℕ) → m ≡ CfgiSteRange s r → w ≡ asking 0x04 ((stream, s) ∷ (substream, 0) ∷ (range, r) ∷ (leaf, 0) ∷ []) → w ≡ fields_of m
  unfolding fields_of
  of-04 s r e p = rw e p

  pub of-05 : (u : ℕ) (s : ℕ) (l : Bool) (b : ℕ) → m ≡ CfgiCd u s l → b ≡ bit l → w ≡ asking 0x05 ((stream, s) ∷ (substream, u) ∷ (range, 0) ∷ (leaf, b) ∷ []) → w ≡ fields_of m
  unfolding fields_of
  of-05 u s l b e x p = rw (e, ← x) p

  pub of-06 : (s : ℕ) → m ≡ CfgiCdAll s → w ≡ asking 0x06 ((stream, s) ∷ (substream, 0) ∷ (range, 0) ∷ (leaf, 0) ∷ []) → w ≡ fields_of m
  unfolding fields_of
  of-06 s e p = rw e p

  pub of-10 : (v : ℕ) → m ≡ TlbiNhAll v → w ≡ asking 0x10 ((vmid, v) ∷ (asid, 0) ∷ []) → w ≡ fields_of m
  unfolding fields_of
  of-10 v e p = rw e p

  pub of-11 : (v : ℕ) (a : ℕ) → m ≡ TlbiNhAsid v a → w ≡ asking 0x11 ((vmid, v) ∷ (asid, a) ∷ []) → w ≡ fields_of m
  unfolding fields_of
  of-11 v a e p = rw e p

  pub of-12 : (v : ℕ) (a : ℕ) (t : Target) → m ≡ TlbiNhVa v a t → w ≡ asking 0x12 ((vmid, v) ∷ (asid, a) ∷ (page, t.page) ∷ ranged_by t) → w ≡ fields_of m
  unfolding fields_of
  of-12 v a t e p = rw e p

  pub of-13 : (v : ℕ) (t : Target) → m ≡ TlbiNhVaa v t → w ≡ asking 0x13 ((vmid, v) ∷ (asid, 0) ∷ (page, t.page) ∷ ranged_by t) → w ≡ fields_of m
  unfolding fields_of
  of-13 v t e p = rw e p

  pub of-20 : m ≡ TlbiEl2All → w ≡ asking 0x20 ((vmid, 0) ∷ (asid, 0) ∷ []) → w ≡ fields_of m
  unfolding fields_of
  of-20 e p = rw e p

  pub of-21 : (a : ℕ) → m ≡ TlbiEl2Asid a → w ≡ asking 0x21 ((vmid, 0) ∷ (asid, a) ∷ []) → w ≡ fields_of m
  unfolding fields_of
  of-21 a e p = rw e p

  pub of-22 : (a : ℕ) (t : Target) → m ≡ TlbiEl2Va a t → w ≡ asking 0x22 ((vmid, 0) ∷ (asid, a) ∷ (page, t.page) ∷ ranged_by t) → w ≡ fields_of m
  unfolding fields_of
  of-22 a t e p = rw e p

  pub of-23 : (t : Target) → m ≡ TlbiEl2Vaa t → w ≡ asking 0x23 ((vmid, 0) ∷ (asid, 0) ∷ (page, t.page) ∷ ranged_by t) → w ≡ fields_of m
  unfolding fields_of
  of-23 t e p = rw e p

  pub of-28 : (v : ℕ) → m ≡ TlbiS12Vmall v → w ≡ asking 0x28 ((vmid, v) ∷ (asid, 0) ∷ []) → w ≡ fields_of m
  unfolding fields_of
  of-28 v e p = rw e p

  pub of-2A : (v : ℕ) (t : Target) → m ≡ TlbiS2Ipa v t → w ≡ asking 0x2A ((vmid, v) ∷ (asid, 0) ∷ (page, t.page) ∷ ranged_by t) → w ≡ fields_of m
  unfolding fields_of
  of-2A v t e p = rw e p

  pub of-30 : m ≡ TlbiNsnhAll → w ≡ asking 0x30 ((vmid, 0) ∷ (asid, 0) ∷ []) → w ≡ fields_of m
  unfolding fields_of
  of-30 e p = rw e p

  pub of-46 : (c : ℕ) → m ≡ Sync c → w ≡ 0x46 ∷ 0 ∷ 0 ∷ 0 ∷ 0 ∷ 0 ∷ 0 ∷ 0 ∷ c ∷ 0 ∷ 0 ∷ 0 ∷ 0 ∷ 0 ∷ 0 ∷ 0 ∷ [] → w ≡ fields_of m
  unfolding fields_of
  of-46 c e p = rw e p

  pub of-70 : m ≡ DptiAll → w ≡ asking 0x70 ((vmid, 0) ∷ (asid, 0) ∷ []) → w ≡ fields_of m
  unfolding fields_of
  of-70 e p = rw e p

  pub of-73 : (p : ℕ) (s : ℕ) (l : Bool) (b : ℕ) → m ≡ DptiPa p s l → b ≡ bit l → w ≡ 0x73 ∷ 0 ∷ 0 ∷ 0 ∷ b ∷ 0 ∷ 0 ∷ p ∷ 0 ∷ 0 ∷ 0 ∷ 0 ∷ 0 ∷ 0 ∷ s ∷ 0 ∷ [] → w ≡ fields_of m
  unfolding fields_of
  of-73 p s l b e x q = rw (e, ← x) q

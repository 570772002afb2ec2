-- A command by its code and the fields that were read.
-- Assumes nothing.
use mathlib.Core.Path.{◌≡◌}
use mathlib.Core.Bool.{Bool}
use mathlib.Core.List.{map}
use Prim.Native.Nat.{ℕ}
use Rattle.words.specs.Ranges.{get}
use Rattle.commands.specs.declared.Target.{Target}
use Rattle.commands.specs.declared.Command.TheVariants.{PrefetchConfig, PrefetchAddr, CfgiSte, CfgiSteRange, CfgiCd, CfgiCdAll, TlbiNhAll, TlbiNhAsid, TlbiNhVa, TlbiNhVaa, TlbiEl2All, TlbiEl2Asid, TlbiEl2Va, TlbiEl2Vaa, TlbiS12Vmall, TlbiS2Ipa, TlbiNsnhAll, Sync, DptiAll, DptiPa}
use Rattle.commands.specs.Formats.{stream_bits, substream_bits, vmid_bits, asid_bits, cs_bits, leaf_bits, range_bits, page_bits, ipa_page_bits, dpt_page_bits, size_bits, is_set_in, target_of, code_in}
use Rattle.commands.specs.Decoding.{command_of}
use Rattle.commands.proofs.Codes.{NoneOf, others, last-command}

module _ (code c : ℕ) where
  pub is-01 : code ≡ 0x01 → PrefetchConfig ≡ command_of code c
  unfolding command_of
  is-01 e = rw e

  pub is-02 : code ≡ 0x02 → PrefetchAddr ≡ command_of code c
  unfolding command_of
  is-02 e = rw e

  pub is-03 : (s : ℕ) (l : Bool) → code ≡ 0x03 → s ≡ get stream_bits c → l ≡ is_set_in leaf_bits c → CfgiSte s l ≡ command_of code c
  unfolding command_of
  is-03 s l e p q = rw (e, p, q)

  pub is-04 : (s r : ℕ) → code ≡ 0x04 → s ≡ get stream_bits c → r ≡ get range_bits c → CfgiSteRange s r ≡ command_of code c
  unfolding command_of
  is-04 s r e p q = rw (e, p, q)

  pub is-05 : (u s : ℕ) (l : Bool) → code ≡ 0x05 → u ≡ get substream_bits c → s ≡ get stream_bits c → l ≡ is_set_in leaf_bits c
      → CfgiCd u s l ≡ command_of code c
  unfolding command_of
  is-05 u s l e o p q = rw (e, o, p, q)

  pub is-06 : (s : ℕ) → code ≡ 0x06 → s ≡ get stream_bits c → CfgiCdAll s ≡ command_of code c
  unfolding command_of
  is-06 s e p = rw (e, p)

  pub is-10 : (v : ℕ) → code ≡ 0x10 → v ≡ get vmid_bits c → TlbiNhAll v ≡ command_of code c
  unfolding command_of
  is-10 v e p = rw (e, p)

  pub is-11 : (v a : ℕ) → code ≡ 0x11 → v ≡ get vmid_bits c → a ≡ get asid_bits c → TlbiNhAsid v a ≡ command_of code c
  unfolding command_of
  is-11 v a e p q = rw (e, p, q)

  pub is-12 : (v a p : ℕ) (t : Target) → code ≡ 0x12 → v ≡ get vmid_bits c → a ≡ get asid_bits c → p ≡ get page_bits c → t ≡ target_of p c
      → TlbiNhVa v a t ≡ command_of code c
  unfolding command_of
  is-12 v a p t e x y z w = rw (e, x, y, w, z)

  pub is-13 : (v p : ℕ) (t : Target) → code ≡ 0x13 → v ≡ get vmid_bits c → p ≡ get page_bits c → t ≡ target_of p c → TlbiNhVaa v t ≡ command_of code c
  unfolding command_of
  is-13 v p t e x z w = rw (e, x, w, z)

  pub is-20 : code ≡ 0x20 → TlbiEl2All ≡ command_of code c
  unfolding command_of
  is-20 e = rw e

  pub is-21 : (a : ℕ) → code ≡ 0x21 → a ≡ get asid_bits c → TlbiEl2Asid a ≡ command_of code c
  unfolding command_of
  is-21 a e p = rw (e, p)

  pub is-22 : (a p : ℕ) (t : Target) → code ≡ 0x22 → a ≡ get asid_bits c → p ≡ get page_bits c → t ≡ target_of p c → TlbiEl2Va a t ≡ command_of code c
  unfolding command_of
  is-22 a p t e y z w = rw (e, y, w, z)

  pub is-23 : (p : ℕ) (t : Target) → code ≡ 0x23 → p ≡ get page_bits c → t ≡ target_of p c → TlbiEl2Vaa t ≡ command_of code c
  unfolding command_of
  is-23 p t e z w = rw (e, w, z)

  pub is-28 : (v : ℕ) → code ≡ 0x28 → v ≡ get vmid_bits c → TlbiS12Vmall v ≡ command_of code c
  unfolding command_of
  is-28 v e p = rw (e, p)

  pub is-2A : (v p : ℕ) (t : Target) → code ≡ 0x2A → v ≡ get vmid_bits c → p ≡ get ipa_page_bits c → t ≡ target_of p c → TlbiS2Ipa v t ≡ command_of code c
  unfolding command_of
  is-2A v p t e x z w = rw (e, x, w, z)

  pub is-30 : code ≡ 0x30 → TlbiNsnhAll ≡ command_of code c
  unfolding command_of
  is-30 e = rw e

  pub is-46 : (s : ℕ) → code ≡ 0x46 → s ≡ get cs_bits c → Sync s ≡ command_of code c
  unfolding command_of
  is-46 s e p = rw (e, p)

  pub is-70 : code ≡ 0x70 → DptiAll ≡ command_of code c
  unfolding command_of
  is-70 e = rw e

  pub is-73 : (p s : ℕ) (l : Bool) → NoneOf Unit (map code_in others) code → p ≡ get dpt_page_bits c → s ≡ get size_bits c → l ≡ is_set_in leaf_bits c
      → DptiPa p s l ≡ command_of code c
  is-73 p s l n x y z = rw (x, y, z) (last-command c code n)

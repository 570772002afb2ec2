-- Document 02, T-07: the commands by address, and what it takes to say that one with a range is several without.
-- Assumes nothing.
use Rattle.std.specs.Prelude.{ℕ, ◌*◌, ◌^◌, ◌≤◌, ◌<◌, Bool, false}
use Rattle.commands.specs.declared.Target.{Target}
use Rattle.commands.specs.declared.Command.{Command}
use Rattle.commands.specs.declared.Command.TheVariants.{TlbiNhVa, TlbiNhVaa, TlbiEl2Va, TlbiEl2Vaa, TlbiS2Ipa}
use Rattle.scopes.specs.Ranges.{first_of, end_of}

-- 12, 13, 22, 23 and 2A, with their identifiers
pub data Aim : Type 0 where
  nh_va : ℕ → ℕ → Aim
  nh_vaa : ℕ → Aim
  el2_va : ℕ → Aim
  el2_vaa : Aim
  s2_ipa : ℕ → Aim

abbrev pub aimed_at : Aim → Target → Command
aimed_at (nh_va vmid asid) target = TlbiNhVa vmid asid target
aimed_at (nh_vaa vmid) target = TlbiNhVaa vmid target
aimed_at (el2_va asid) target = TlbiEl2Va asid target
aimed_at el2_vaa target = TlbiEl2Vaa target
aimed_at (s2_ipa vmid) target = TlbiS2Ipa vmid target

-- how many pages of 4 KiB a command can name: 2A those below 2 ^ 52
abbrev pub pages : Aim → ℕ
pages (nh_va vmid asid) = 2 ^ 52
pages (nh_vaa vmid) = 2 ^ 52
pages (el2_va asid) = 2 ^ 52
pages el2_vaa = 2 ^ 52
pages (s2_ipa vmid) = 2 ^ 40

-- TG 0: one page's address, with the same Leaf
abbrev pub single : Bool → ℕ → Target
single leaf page = record { leaf = leaf; page = page; num = 0; scale = 0; tg = 0; ttl = 0; ttl128 = false }

-- a page of the range, from its rounded start on
pub record PageOf (a : Aim) (target : Target) (page : ℕ) : Type 0 where
  pub named : page < pages a
  pub from : first_of target ≤ page * 2 ^ 12
  pub below : page * 2 ^ 12 < end_of target

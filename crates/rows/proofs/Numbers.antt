-- The kinds and the marks of rows by their numbers: what a number names, and which two are one.
-- Assumes nothing.
use mathlib.Core.Path.{◌≡◌, refl, sym, ap, ◌∙◌}
use Prim.Native.Nat.{ℕ, zero, suc, ◌<◌}
use native.Mathlib.Omega.{arith}
use lib.Dec.{eqb}
use denote.Enum.Declared.{tag_of}
use denote.Enum.Bare.{sameb}
use Rattle.rows.specs.contracts.kinds.Kind as kinds
use Rattle.rows.specs.contracts.marks.Mark as marks
use Rattle.rows.specs.declared.kinds.Kind.{Kind}
use Rattle.rows.specs.declared.kinds.Kind.TheVariants.{Ste, Cd, Stage1, Stage2}
use Rattle.rows.specs.declared.marks.Mark.{Mark}
use Rattle.rows.specs.declared.marks.Mark.TheVariants.{Unmarked, El2, El2E2h, Both}
use Rattle.words.proofs.Parts.{part_lt}
use Rattle.rows.specs.declared.Row.{Row}
use Rattle.rows.specs.Rows.{kind_bits, mark_bits, kind, mark, kind_number, mark_number, kind_named, mark_named, parts_of}

pub kind_by_number : (k : Kind) → kind_named (kind_number k) ≡ k
kind_by_number Ste = refl
kind_by_number Cd = refl
kind_by_number Stage1 = refl
kind_by_number Stage2 = refl

pub mark_by_number : (m : Mark) → mark_named (mark_number m) ≡ m
mark_by_number Unmarked = refl
mark_by_number El2 = refl
mark_by_number El2E2h = refl
mark_by_number Both = refl

kind-tag : (k : Kind) → tag_of kinds.the_type k ≡ kind_number k
kind-tag Ste = refl
kind-tag Cd = refl
kind-tag Stage1 = refl
kind-tag Stage2 = refl

mark-tag : (m : Mark) → tag_of marks.the_type m ≡ mark_number m
mark-tag Unmarked = refl
mark-tag El2 = refl
mark-tag El2E2h = refl
mark-tag Both = refl

-- two kinds are one if their numbers are, and so two marks
pub same_kind : (k j : Kind) → sameb kinds.the_type k j ≡ eqb (kind_number k) (kind_number j)
same_kind k j = rw (kind-tag k, kind-tag j)

pub same_mark : (m n : Mark) → sameb marks.the_type m n ≡ eqb (mark_number m) (mark_number n)
same_mark m n = rw (mark-tag m, mark-tag n)

-- two bits have the number of what they name
kind_lt : (n : ℕ) → n < 4 → kind_number (kind_named n) ≡ n
kind_lt zero h = refl
kind_lt (suc zero) h = refl
kind_lt (suc (suc zero)) h = refl
kind_lt (suc (suc (suc zero))) h = refl
kind_lt (suc (suc (suc (suc n)))) h = absurd (omega arith)

mark_lt : (n : ℕ) → n < 4 → mark_number (mark_named n) ≡ n
mark_lt zero h = refl
mark_lt (suc zero) h = refl
mark_lt (suc (suc zero)) h = refl
mark_lt (suc (suc (suc zero))) h = refl
mark_lt (suc (suc (suc (suc n)))) h = absurd (omega arith)

pub kind_read : (row : Row) → kind_number (kind_named (kind row)) ≡ kind row
kind_read row = kind_lt (kind row) (part_lt kind_bits row.w0)

pub mark_read : (row : Row) → mark_number (mark_named (mark row)) ≡ mark row
mark_read row = mark_lt (mark row) (part_lt mark_bits row.w0)

-- so a row's kind and mark are the numbers of those among its parts
pub kind_is : (row : Row) (k : Kind) → (parts_of row).kind ≡ k → kind row ≡ kind_number k
unfolding parts_of
kind_is row k e = sym (kind_read row) ∙ ap kind_number e

pub mark_is : (row : Row) (m : Mark) → (parts_of row).mark ≡ m → mark row ≡ mark_number m
unfolding parts_of
mark_is row m e = sym (mark_read row) ∙ ap mark_number e

-- Wider rules accept what narrower ones do, so an image that document 01 accepts is still accepted.
-- Assumes nothing.
use mathlib.Core.Path.{◌≡◌}
use mathlib.Core.Bool.{true}
use mathlib.Core.List.{List}
use Prim.Native.Nat.{ℕ, ◌≤◌}
use native.Mathlib.Omega.{arith}
use Rattle.words.specs.Parts.{part}
use Rattle.words.specs.Ranges.{get}
use Rattle.control.specs.Control as control
use Rattle.control.proofs.Formed as control_formed
use Rattle.row_forms.proofs.Halves as row-forms
use Rattle.std.specs.Prelude.{Ok}
use Rattle.image.specs.Image.{control_of, row_at, check}
use Rattle.image.specs.Rules.{Rules, document01, present, FormedBy, AcceptedBy}
use Rattle.image.proofs.Checks.{accepts, says}

-- every rule is at least as wide
pub record Wider (old new : Rules) : Type 0 where
  pub log2 : old.most_log2 ≤ new.most_log2
  pub rows : old.most_rows ≤ new.most_rows
  pub zeros : (w : ℕ) → get old.zeros w ≡ 0 → get new.zeros w ≡ 0
  pub of_rows : row-forms.Wider old.rows new.rows

module _ (old new : Rules) (wider : Wider old new) where
  formed-widened : (w : ℕ) → FormedBy old w → FormedBy new w
  formed-widened w f =
      record {
        zeroes = wider.zeros w f.zeroes;
        small = omega (arith, f.small, wider.log2);
        rd_in = f.rd_in;
        wr_in = f.wr_in;
        apart = f.apart;
        known = f.known;
        told = f.told;
      }

  pub widened : (m : List ℕ) (n : ℕ) → AcceptedBy old m n → AcceptedBy new m n
  widened m n a =
      record {
        words = a.words;
        some = a.some;
        few = omega (arith, a.few, wider.rows);
        control_formed = formed-widened (control_of m) a.control_formed;
        rows-formed = λ i h. row-forms.formed-widened old.rows new.rows wider.of_rows (row_at m i) (a.rows-formed i h);
      }

-- the check accepts exactly what the present rules do
module _ (w : ℕ) where
  formed_now : FormedBy present w → control.well_formed w ≡ true
  unfolding control.distance
  formed_now f =
      control_formed.is_formed w
      (record {
        zeroes = f.zeroes;
        small = f.small;
        waiting = record { rd_in = f.rd_in; wr_in = f.wr_in; apart = f.apart };
        known = f.known;
        told = f.told;
      })

  now_formed : control.well_formed w ≡ true → FormedBy present w
  unfolding control.distance
  now_formed e =
      let f = control_formed.formed w e in
      record {
        zeroes = f.zeroes;
        small = f.small;
        rd_in = f.waiting.rd_in;
        wr_in = f.waiting.wr_in;
        apart = f.waiting.apart;
        known = f.known;
        told = f.told;
      }

module _ (m : List ℕ) (n : ℕ) where
  pub accepted_now : AcceptedBy present m n → check m ≡ Ok n
  accepted_now a =
      accepts m n
      (record {
        size = record { words = a.words; some = a.some; few = a.few };
        control_formed = formed_now (control_of m) a.control_formed;
        rows-formed = a.rows-formed;
      })

  pub now_accepted : check m ≡ Ok n → AcceptedBy present m n
  now_accepted e =
      let a = (says m).accepted n e in
      record {
        words = a.size.words;
        some = a.size.some;
        few = a.size.few;
        control_formed = now_formed (control_of m) a.control_formed;
        rows-formed = a.rows-formed;
      }

pub log2-wider : document01.most_log2 ≤ present.most_log2
log2-wider = omega arith

pub rows-wider : document01.most_rows ≤ present.most_rows
rows-wider = omega arith

pub zeros-wider : (w : ℕ) → get document01.zeros w ≡ 0 → get present.zeros w ≡ 0
unfolding part
zeros-wider w e = omega (arith, e)

-- with as many rows; how a row or a control field is read names no rule
pub still_accepted : (m : List ℕ) (n : ℕ) → AcceptedBy document01 m n → check m ≡ Ok n
still_accepted m n a =
    accepted_now m n (widened document01 present (record { log2 = log2-wider; rows = rows-wider; zeros = zeros-wider; of_rows = row-forms.rows-wider }) m n a)

-- Which rows collide: last-level ones without a mark only, either way round; and what it says that none of the rows collides with given words.
-- Assumes nothing.
use Rattle.std.proofs.Common.{◌≡◌, ℕ, ◌^◌, ◌<◌, Bool, true, false, ◌&&◌, ◌||◌, eqb, List, sym, refl, ap, ◌∙◌, arith, eq-eqb, eqb-true}
use Rattle.words.specs.Search.{lowest}
use Rattle.std.specs.Prelude.{None, Option, Some, ℕ}
use Rattle.words.proofs.Truth.{left, right, and_true, same_test, never, clash}
use Rattle.words.proofs.Spans.{either_first}
use Rattle.words.proofs.Search.{from_zero, none, is_none}
use Rattle.rows.specs.declared.Row.{Row}
use Rattle.rows.specs.Rows.{kind, is_last, is_unmarked, may_answer, is_global, span, vmid, asid, stream, substream}
use Rattle.rows.proofs.LastLevel.{not-last-silent, marked-silent}
use Rattle.image.specs.Image.{row_at}
use Rattle.doubles.specs.Doubles.{shares_address, shares_asid, shares, collides, collides_at, is_found, doubled}

-- what both rows of a collision are
pub record Both (a b : Row) : Type 0 where
  pub first-answers : may_answer a ≡ true
  pub second-answers : may_answer b ≡ true
  pub one-kind : kind a ≡ kind b
  pub share : shares a b ≡ true

module _ (a b : Row) where
  pub both : collides a b ≡ true → Both a b
  unfolding collides
  both e =
      let l = may_answer a in
      let r = may_answer b in
      let k = eqb (kind a) (kind b) in
      let three = left (l && r && k) (shares a b) e in
      let two = left (l && r) k three in
      record {
        first-answers = left l r two;
        second-answers = right l r two;
        one-kind = eqb-true (kind a) (kind b) (right (l && r) k three);
        share = right (l && r && k) (shares a b) e;
      }

  pub is_both : Both a b → collides a b ≡ true
  unfolding collides
  is_both c = and_true (and_true (and_true c.first-answers c.second-answers) (eq-eqb (kind a) (kind b) c.one-kind)) c.share

  -- a row that may not answer collides with none
  first_silent : may_answer a ≡ false → collides a b ≡ false
  first_silent e = never (collides a b) (λ c. clash (both c).first-answers e)

  second_silent : may_answer b ≡ false → collides a b ≡ false
  second_silent e = never (collides a b) (λ c. clash (both c).second-answers e)

  -- one that is not last-level
  pub first_not-last : is_last a ≡ false → collides a b ≡ false
  first_not-last e = first_silent (not-last-silent a e)

  pub second_not-last : is_last b ≡ false → collides a b ≡ false
  second_not-last e = second_silent (not-last-silent b e)

  -- and one of the hypervisor's own
  pub first-marked : is_unmarked a ≡ false → collides a b ≡ false
  first-marked e = first_silent (marked-silent a e)

  pub second-marked : is_unmarked b ≡ false → collides a b ≡ false
  second-marked e = second_silent (marked-silent b e)

-- either way round
eqb_sym : (x y : ℕ) → eqb x y ≡ eqb y x
eqb_sym x y = same_test (eqb x y) (eqb y x) (λ e. eq-eqb y x (sym (eqb-true x y e))) (λ e. eq-eqb x y (sym (eqb-true y x e)))

or_sym : (x y z : Bool) → (x || y || z) ≡ (x || z || y)
or_sym true y z = refl
or_sym false true true = refl
or_sym false true false = refl
or_sym false false z = same_test z (z || false) (λ e. rw e) (λ e. first z e)
  where
    first : (z : Bool) → (z || false) ≡ true → z ≡ true
    first true e = refl
    first false e = e

module _ (a b : Row) where
  address-sym : shares_address a b ≡ shares_address b a
  unfolding shares_address
  address-sym = either_first a.w2 (2 ^ span a) b.w2 (2 ^ span b)

  asid-sym : shares_asid a b ≡ shares_asid b a
  asid-sym = rw (eqb_sym (asid a) (asid b)) (or_sym (eqb (asid b) (asid a)) (is_global a) (is_global b))

  shares-sym : kind a ≡ kind b → shares a b ≡ shares b a
  unfolding shares
  shares-sym k = rw (k, eqb_sym (stream a) (stream b), eqb_sym (substream a) (substream b), eqb_sym (vmid a) (vmid b), address-sym, asid-sym)

pub turned : (a b : Row) → collides a b ≡ true → collides b a ≡ true
turned a b e =
    let c = both a b e in
    is_both b a
    (record {
      first-answers = c.second-answers;
      second-answers = c.first-answers;
      one-kind = sym c.one-kind;
      share = sym (shares-sym a b c.one-kind) ∙ c.share;
    })

-- a search that finds nothing
not_found : (f : Option ℕ) → is_found f ≡ false → f ≡ None
not_found (Some i) e = clash refl e
not_found None e = refl

module _ (m : List ℕ) (n : ℕ) (words : Row) where
  -- the words are alone: none of the first n rows collides with them
  pub alone : doubled m n words ≡ false → (j : ℕ) → j < n → collides words (row_at m j) ≡ false
  unfolding doubled collides_at
  alone e j h =
      none (collides_at m words) n 0 (omega arith) (sym (from_zero (collides_at m words) n) ∙ not_found (lowest (collides_at m words) n 0) e) j (omega arith) h

  pub is-alone : ((j : ℕ) → j < n → collides words (row_at m j) ≡ false) → doubled m n words ≡ false
  unfolding doubled collides_at
  is-alone f = ap is_found (from_zero (collides_at m words) n ∙ is_none (collides_at m words) n 0 (omega arith) (λ j a h. f j h))

  -- words that may not answer always are, marked ones among them
  pub silent-alone : may_answer words ≡ false → doubled m n words ≡ false
  silent-alone e = is-alone (λ j h. first_silent words (row_at m j) e)

  pub marked-alone : is_unmarked words ≡ false → doubled m n words ≡ false
  marked-alone e = silent-alone (marked-silent words e)

-- Rows that are gone past in groups.
-- Assumes nothing.
use Rattle.std.proofs.Common.{◌≡◌, ℕ, ◌+◌, ◌-◌, ◌<◌, ◌≤◌, Bool, true, false, ◌&&◌, ◌||◌, sym, refl, ◌∙◌, ⊎_elim, arith}
use Rattle.std.specs.Prelude.{None}
use Rattle.words.proofs.Search.{Searching, is_none, over_none}
use Rattle.words.proofs.Truth.{less_or_not}
use Rattle.screens.specs.Screens.{lowest_from, any_four, NoneOfEight, Skips}

neither : (a b : Bool) → (a || b) ≡ false → a ≡ false
neither true b e = e
neither false b e = refl

nor : (a b : Bool) → (a || b) ≡ false → b ≡ false
nor true b e = absurd (let z : ◌≡◌ {A = ℕ} 0 1 = cc in omega arith)
nor false b e = e

-- of four none
four-off : (p : ℕ → Bool) (i : ℕ) → any_four p i ≡ false → (j : ℕ) → i ≤ j → j < i + 4 → p j ≡ false
four-off p i e j a b =
    ⊎_elim (λ l. ⊎_elim (λ l. ⊎_elim (λ l. let s : j ≡ i = omega arith in rw s zeroth) (λ g. let s : j ≡ i + 1 = omega arith in rw s first) (less_or_not j (i + 1)))
    (λ g. let s : j ≡ i + 2 = omega arith in rw s second) (less_or_not j (i + 2)))
    (λ g. let s : j ≡ i + 3 = omega arith in rw s third) (less_or_not j (i + 3))
  where
    three : ((p i || p (i + 1)) || p (i + 2)) ≡ false
    three = neither ((p i || p (i + 1)) || p (i + 2)) (p (i + 3)) e

    two : (p i || p (i + 1)) ≡ false
    two = neither (p i || p (i + 1)) (p (i + 2)) three

    zeroth : p i ≡ false
    zeroth = neither (p i) (p (i + 1)) two

    first : p (i + 1) ≡ false
    first = nor (p i) (p (i + 1)) two

    second : p (i + 2) ≡ false
    second = nor (p i || p (i + 1)) (p (i + 2)) three

    third : p (i + 3) ≡ false
    third = nor ((p i || p (i + 1)) || p (i + 2)) (p (i + 3)) e

-- eight more
pub none_of_eight : {p : ℕ → Bool} {i : ℕ} {a b : Bool} → a ≡ any_four p i → b ≡ any_four p (i + 4) → (a || b) ≡ false → NoneOfEight p i
none_of_eight {p} {i} {a} {b} e g f =
    record {
      none = λ j n m. ⊎_elim (λ k. four-off p i (sym e ∙ neither a b f) j n k) (λ k. four-off p (i + 4) (sym g ∙ nor a b f) j k (omega arith)) (less_or_not j (i + 4));
    }

pub past_eight : {p : ℕ → Bool} {from to i : ℕ} → Skips p from to i → 8 ≤ to - i → NoneOfEight p i → Skips p from to (i + 8)
past_eight {i = i} s h gone =
    record {
      least = omega (arith, s.least);
      most = omega (arith, s.most, h);
      none = λ j l m. ⊎_elim (λ n. s.none j l n) (λ n. gone.none j n m) (less_or_not j i);
    }

pub past : {p : ℕ → Bool} {from to i : ℕ} {a b : Bool} → Skips p from to i → 8 ≤ to - i → a ≡ any_four p i → b ≡ any_four p (i + 4) → (a || b) ≡ false
    → Skips p from to (i + 8)
past s h e g f = past_eight s h (none_of_eight e g f)

-- what fails one of two tests fails both
never_both : (b : Bool) → (b && false) ≡ false
never_both true = refl
never_both false = refl

pub second-off : (p q : ℕ → Bool) {i : ℕ} → NoneOfEight q i → NoneOfEight (λ j. p j && q j) i
second-off p q off = record { none = λ j n m. rw (off.none j n m) (never_both (p j)) }

-- behind them a search goes on
pub resumes : {p : ℕ → Bool} {from to r : ℕ} → from ≤ to → Skips p from to r → Searching p to (lowest_from p from to) r
resumes {p} {from} {to} {r} h s = over_none r (record { within = h; same = refl }) s.least s.most s.none

pub both-are : (a b : Bool) {x : Bool} → a ≡ true → b ≡ x → (a && b) ≡ x
both-are a b e g = rw e g

pub nobody : (from to : ℕ) → from ≤ to → None ≡ lowest_from (λ j. false) from to
nobody from to h = sym (is_none (λ j. false) to from h (λ j a b. refl))

-- What a search and a count say of each number, and how they go on by one.
-- Assumes nothing.
use mathlib.Core.Path.{◌≡◌, refl, sym, ap, ◌∙◌, subst}
use mathlib.Core.Bool.{Bool, true, false, ◌&&◌}
use mathlib.Core.List.{List, [], ◌∷◌}
use mathlib.Core.Logic.{⊎_elim}
use Prim.Native.Nat.{ℕ, zero, suc, ◌+◌, ◌-◌, ◌≤◌, ◌<◌}
use native.Mathlib.Nat.{eq-or-lt_of_le, le_of_suc-le-suc}
use native.Mathlib.Numerals.{add-one}
use native.Mathlib.Omega.{arith}
use lib.Dec.{eqb}
use lib.ListN.{length}
use borrow.Author.Tests.{eqb-true}
use Rattle.words.specs.Choice.{pick}
use Rattle.std.specs.Prelude.{None, Option, Some}
use Rattle.words.specs.Search.{lowest, count, place_of}
use Rattle.words.proofs.Truth.{decided, left, right, less_or_not, clash, never}

-- k is the lowest number from i on and below n that passes
pub record Lowest (p : ℕ → Bool) (n i k : ℕ) : Type 0 where
  pub from : i ≤ k
  pub below : k < n
  pub passes : p k ≡ true
  pub first : (j : ℕ) → i ≤ j → j < k → p j ≡ false

module _ (p : ℕ → Bool) (n i : ℕ) where
  one_more : i < n → n - i ≡ suc (n - (i + 1))
  one_more h = omega arith

  pub here : i < n → p i ≡ true → lowest p (n - i) i ≡ Some i
  unfolding lowest
  here h e = rw (one_more h, e)

  pub later : i < n → p i ≡ false → lowest p (n - i) i ≡ lowest p (n - (i + 1)) (i + 1)
  unfolding lowest
  later h e = rw (one_more h, e, add-one i)

  pub nowhere : n ≤ i → lowest p (n - i) i ≡ None
  unfolding lowest
  nowhere h = let z : n - i ≡ 0 = omega arith in rw z

module _ (p : ℕ → Bool) (n : ℕ) where
  at-step : (i k : ℕ) → i < n → lowest p (n - i) i ≡ Some k → (lowest p (n - (i + 1)) (i + 1) ≡ Some k → Lowest p n (i + 1) k)
      → (t : Bool) → p i ≡ t → Lowest p n i k
  at-step i k h e more true q =
      let same : i ≡ k = cc (here p n i h q) in
      record { from = omega arith; below = omega arith; passes = rw (← same) q; first = λ j a b. absurd (omega arith) }
  at-step i k h e more false q =
      let r = more (sym (later p n i h q) ∙ e) in
      record {
        from = omega (arith, r.from);
        below = r.below;
        passes = r.passes;
        first = λ j a b. ⊎_elim (λ s. rw (← s) q) (λ l. r.first j (omega arith) b) (eq-or-lt_of_le a);
      }

  -- what is found is the lowest
  found_by : (d i k : ℕ) → d + i ≡ n → lowest p (n - i) i ≡ Some k → Lowest p n i k
  found_by zero i k s e = let z : ◌≡◌ {A = ℕ} 0 1 = cc (nowhere p n i (omega arith)) in absurd (omega arith)
  found_by (suc d) i k s e = at-step i k (omega arith) e (λ g. found_by d (i + 1) k (omega arith) g) (p i) refl

  pub found : (i k : ℕ) → i ≤ n → lowest p (n - i) i ≡ Some k → Lowest p n i k
  found i k h e = found_by (n - i) i k (omega arith) e

  none-step : (i : ℕ) → i < n → lowest p (n - i) i ≡ None
      → (lowest p (n - (i + 1)) (i + 1) ≡ None → (j : ℕ) → i + 1 ≤ j → j < n → p j ≡ false)
      → (t : Bool) → p i ≡ t → (j : ℕ) → i ≤ j → j < n → p j ≡ false
  none-step i h e more true q j a b = let z : ◌≡◌ {A = ℕ} 0 1 = cc (here p n i h q) in absurd (omega arith)
  none-step i h e more false q j a b =
      ⊎_elim (λ s. rw (← s) q) (λ l. more (sym (later p n i h q) ∙ e) j (omega arith) b) (eq-or-lt_of_le a)

  -- where nothing is found, none passes
  none_by : (d i : ℕ) → d + i ≡ n → lowest p (n - i) i ≡ None → (j : ℕ) → i ≤ j → j < n → p j ≡ false
  none_by zero i s e j a b = absurd (omega arith)
  none_by (suc d) i s e j a b = none-step i (omega arith) e (λ g k. none_by d (i + 1) (omega arith) g k) (p i) refl j a b

  pub none : (i : ℕ) → i ≤ n → lowest p (n - i) i ≡ None → (j : ℕ) → i ≤ j → j < n → p j ≡ false
  none i h e = none_by (n - i) i (omega arith) e

  -- and the other way round: where the lowest, or none, is known, so is what is found
  is_found_by : (d i k : ℕ) → d + i ≡ n → Lowest p n i k → lowest p (n - i) i ≡ Some k
  is_found_by zero i k s l = absurd (omega (arith, l.from, l.below))
  is_found_by (suc d) i k s l =
      ⊎_elim (λ e. rw (← e) (here p n i (omega arith) (rw e l.passes)))
      (λ h. later p n i (omega arith) (l.first i (omega arith) h)
      ∙ is_found_by d (i + 1) k (omega arith) (record { from = omega arith; below = l.below; passes = l.passes; first = λ j a b. l.first j (omega arith) b }))
      (eq-or-lt_of_le l.from)

  pub found_lowest : (i k : ℕ) → Lowest p n i k → lowest p (n - i) i ≡ Some k
  found_lowest i k l = is_found_by (n - i) i k (omega (arith, l.from, l.below)) l

  is_none_by : (d i : ℕ) → d + i ≡ n → ((j : ℕ) → i ≤ j → j < n → p j ≡ false) → lowest p (n - i) i ≡ None
  is_none_by zero i s f = nowhere p n i (omega arith)
  is_none_by (suc d) i s f =
      later p n i (omega arith) (f i (omega arith) (omega arith)) ∙ is_none_by d (i + 1) (omega arith) (λ j a b. f j (omega arith) b)

  pub is_none : (i : ℕ) → i ≤ n → ((j : ℕ) → i ≤ j → j < n → p j ≡ false) → lowest p (n - i) i ≡ None
  is_none i h f = is_none_by (n - i) i (omega arith) f

-- a search from 0 on, as the laws above have it
pub from_zero : (p : ℕ → Bool) (n : ℕ) → lowest p n 0 ≡ lowest p (n - 0) 0
from_zero p n = ap (λ (k : ℕ). lowest p k 0) (let e : n ≡ n - 0 = omega arith in e)

-- a search under way: what it is to find, the rest from i on finds
pub record Searching (p : ℕ → Bool) (n : ℕ) (target : Option ℕ) (i : ℕ) : Type 0 where
  pub within : i ≤ n
  pub same : target ≡ lowest p (n - i) i

pub from_start : (p : ℕ → Bool) (n : ℕ) → Searching p n (lowest p n 0) 0
from_start p n = record { within = omega arith; same = from_zero p n }

module _ {p : ℕ → Bool} {n : ℕ} {target : (Option ℕ)} {i : ℕ} (s : Searching p n target i) where
  pub finds : i < n → p i ≡ true → Some i ≡ target
  finds h e = sym (s.same ∙ here p n i h e)

  pub passes : i < n → p i ≡ false → Searching p n target (i + 1)
  passes h e = record { within = omega arith; same = s.same ∙ later p n i h e }

  pub finds-none : n ≤ i → None ≡ target
  finds-none h = sym (s.same ∙ nowhere p n i h)

-- it passes over numbers of which none passes
none_by_steps : {p : ℕ → Bool} {n : ℕ} {target : (Option ℕ)} (d i : ℕ) → Searching p n target i → i + d ≤ n → ((j : ℕ) → i ≤ j → j < i + d → p j ≡ false)
    → Searching p n target (i + d)
none_by_steps {p} {n} {target} zero i s h none = let e : i ≡ i + 0 = omega arith in subst (Searching p n target) e s
none_by_steps {p} {n} {target} (suc d) i s h none =
    let e : i + 1 + d ≡ i + suc d = omega arith in
    subst (Searching p n target) e
    (none_by_steps d (i + 1) (passes s (omega arith) (none i (omega arith) (omega arith))) (omega arith) (λ j a b. none j (omega arith) (omega arith)))

pub over_none : {p : ℕ → Bool} {n : ℕ} {target : (Option ℕ)} {i : ℕ} (k : ℕ) → Searching p n target i → i ≤ k → k ≤ n → ((j : ℕ) → i ≤ j → j < k → p j ≡ false)
    → Searching p n target k
over_none {p} {n} {target} {i} k s a b none =
    let e : i + (k - i) ≡ k = omega arith in
    subst (Searching p n target) e (none_by_steps (k - i) i s (omega arith) (λ j c d. none j c (omega arith)))

pub none_left : {p : ℕ → Bool} {n : ℕ} {target : (Option ℕ)} {i : ℕ} → Searching p n target i → ((j : ℕ) → i ≤ j → j < n → p j ≡ false) → None ≡ target
none_left {p} {n} {i = i} s none = sym (s.same ∙ is_none p n i s.within none)

-- a wider test below m: what it does not let through does not pass, nor does anything from m on
pub record Wider (p q : ℕ → Bool) (m n : ℕ) : Type 0 where
  pub most : m ≤ n
  pub narrows : (j : ℕ) → j < m → q j ≡ false → p j ≡ false
  pub behind : (j : ℕ) → m ≤ j → j < n → p j ≡ false

-- so a search may ask only what it lets through
module _ {p q : ℕ → Bool} {m n : ℕ} {target : (Option ℕ)} {i : ℕ} (w : Wider p q m n) (s : Searching p n target i) where
  pub spent : m ≤ i → None ≡ target
  spent h = none_left s (λ j a b. w.behind j (omega arith) b)

  pub none_let : i ≤ m → lowest q (m - i) i ≡ None → None ≡ target
  none_let h e = none_left s (λ j a b. ⊎_elim (λ l. w.narrows j l (none q m i h e j a l)) (λ g. w.behind j g b) (less_or_not j m))

  module _ {k : ℕ} (h : i ≤ m) (e : lowest q (m - i) i ≡ Some k) where
    let_through : Lowest q m i k
    let_through = found q m i k h e

    pub let_from : i ≤ k
    let_from = let_through.from

    pub let_below : k < m
    let_below = let_through.below

    pub let_is : q k ≡ true
    let_is = let_through.passes

    let_here : Searching p n target k
    let_here = over_none k s let_from (omega (arith, let_below, w.most)) (λ j a b. w.narrows j (omega (arith, b, let_below)) (let_through.first j a b))

    pub let_finds : p k ≡ true → Some k ≡ target
    let_finds t = finds let_here (omega (arith, let_below, w.most)) t

    pub let_passes : p k ≡ false → Searching p n target (k + 1)
    let_passes t = passes let_here (omega (arith, let_below, w.most)) t

-- whatever passes is let through
pub lets_through : {p q : ℕ → Bool} {n : ℕ} → ((j : ℕ) → j < n → p j ≡ true → q j ≡ true) → Wider p q n n
lets_through {p = p} f =
    record { most = omega arith; narrows = λ j h e. never (p j) (λ t. clash (f j h t) e); behind = λ j a b. absurd (omega arith) }

-- a search passes over a beginning where none passes
pub passes_over : (p : ℕ → Bool) (n k : ℕ) → k ≤ n → ((j : ℕ) → j < k → p j ≡ false) → lowest p n 0 ≡ lowest p (n - k) k
passes_over p n zero h f = from_zero p n
passes_over p n (suc k) h f =
    passes_over p n k (omega arith) (λ j l. f j (omega arith)) ∙ later p n k (omega arith) (f k (omega arith))
    ∙ ap (λ (i : ℕ). lowest p (n - i) i) (add-one k)

-- two tests that agree at the n numbers from i on find the same
pub lowest-same : (p q : ℕ → Bool) (n i : ℕ) → ((j : ℕ) → i ≤ j → j < n + i → p j ≡ q j) → lowest p n i ≡ lowest q n i
unfolding lowest
lowest-same p q zero i f = refl
lowest-same p q (suc n) i f =
    rw (f i (omega arith) (omega arith), lowest-same p q n (suc i) (λ j a b. f j (omega arith) (omega arith)))

-- a count goes on by one
module _ (p : ℕ → Bool) (n : ℕ) where
  pub count-here : p n ≡ true → count p (n + 1) ≡ count p n + 1
  unfolding count
  count-here e = rw (add-one n, e) (omega arith)

  pub count_past : p n ≡ false → count p (n + 1) ≡ count p n
  unfolding count
  count_past e = rw (add-one n, e) (omega arith)

pub count_none : (p : ℕ → Bool) → count p 0 ≡ 0
unfolding count
count_none p = refl

at_most : (b : Bool) (k n : ℕ) → k ≤ n → pick b 1 0 + k ≤ suc n
at_most true k n h = omega arith
at_most false k n h = omega arith

pub count_le : (p : ℕ → Bool) (n : ℕ) → count p n ≤ n
unfolding count
count_le p zero = omega arith
count_le p (suc n) = at_most (p n) (count p n) n (count_le p n)

-- two tests that agree below n count the same
pub count_same : (p q : ℕ → Bool) (n : ℕ) → ((j : ℕ) → j < n → p j ≡ q j) → count p n ≡ count q n
unfolding count
count_same p q zero f = refl
count_same p q (suc n) f = rw (f n (omega arith), count_same p q n (λ j h. f j (omega arith)))

-- and where they differ at one place, by one
pub count_less : (p q : ℕ → Bool) (n i : ℕ) → i < n → p i ≡ true → q i ≡ false → ((j : ℕ) → j < n → (j ≡ i → ⊥) → q j ≡ p j)
    → count p n ≡ suc (count q n)
unfolding count
count_less p q zero i h a b f = absurd (omega arith)
count_less p q (suc n) i h a b f =
    ⊎_elim
    (λ s. rw (← s, a, b) (let e : count q i ≡ count p i = count_same q p i (λ j l. f j (omega arith) (omega arith)) in omega arith))
    (λ l. let e : count p n ≡ suc (count q n) = count_less p q n i l a b (λ j k d. f j (omega arith) d) in
    rw (f n (omega arith) (omega arith), e) (omega arith))
    (eq-or-lt_of_le (le_of_suc-le-suc h))

count-passes : (p : ℕ → Bool) (n i : ℕ) → i < n → p i ≡ true → 1 ≤ count p n
unfolding count
count-passes p zero i h t = absurd (omega arith)
count-passes p (suc n) i h t =
    ⊎_elim (λ s. rw (← s, t) (omega arith)) (λ l. omega (arith, count-passes p n i l t)) (eq-or-lt_of_le (le_of_suc-le-suc h))

-- a count of 0: none passes
pub count_none_passes : (p : ℕ → Bool) (n : ℕ) → count p n ≡ 0 → (i : ℕ) → i < n → p i ≡ false
count_none_passes p n e i h = ⊎_elim (λ t. absurd (omega (arith, e, more t))) (λ f. f) (decided (p i))
  where
    more : p i ≡ true → 1 ≤ count p n
    more t = count-passes p n i h t

pub none_pass_count : (p : ℕ → Bool) (n : ℕ) → ((j : ℕ) → j < n → p j ≡ false) → count p n ≡ 0
unfolding count
none_pass_count p zero f = refl
none_pass_count p (suc n) f = rw (f n (omega arith), none_pass_count p n (λ j h. f j (omega arith)))

-- what holds of each of some keys holds of a number that has a place among them
infixr 20 ◌also◌
pub data Each (P : ℕ → Type 0) : List ℕ → Type 0 where
  done : Each P []
  ◌also◌ : {k : ℕ} {ks : List ℕ} → P k → Each P ks → Each P (k ∷ ks)

pub each_key : (P : ℕ → Type 0) (ks : List ℕ) (x : ℕ) → Each P ks → place_of ks x < length ks → P x
each_key P [] x done h = absurd (omega arith)
each_key P (k ∷ ks) x (p also ps) h = by_test (eqb x k) refl (each_key P ks x ps)
  where
    by_test : (b : Bool) → eqb x k ≡ b → (place_of ks x < length ks → P x) → P x
    by_test true e later = subst P (sym (eqb-true x k e)) p
    by_test false e later = let below = rw e at h in later (omega arith)

-- and a test that passes at each
abbrev pub every : (ℕ → Bool) → List ℕ → Bool
every p [] = true
every p (k ∷ ks) = p k && every p ks

at_each : (p : ℕ → Bool) (ks : List ℕ) → every p ks ≡ true → Each (λ k. p k ≡ true) ks
at_each p [] e = done
at_each p (k ∷ ks) e = left (p k) (every p ks) e also at_each p ks (right (p k) (every p ks) e)

pub every_key : (p : ℕ → Bool) (ks : List ℕ) (x : ℕ) → every p ks ≡ true → place_of ks x < length ks → p x ≡ true
every_key p ks x e h = each_key (λ k. p k ≡ true) ks x (at_each p ks e) h

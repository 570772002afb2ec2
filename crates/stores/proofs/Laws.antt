-- A list of stores, of which the first so many are made: what they leave, and that making all of them after a part of them leaves
-- what making them once does.
-- Assumes nothing.
use mathlib.Core.Path.{◌≡◌, refl, sym, ap, ◌∙◌}
use mathlib.Core.List.{List, [], ◌∷◌}
use Prim.Native.Nat.{ℕ, zero, suc, ◌+◌, ◌≤◌, ◌<◌}
use Rattle.std.specs.Prelude.{min}
use native.Mathlib.Decide.{ℕ_discrete}
use native.Mathlib.Numerals.{add-one}
use native.Mathlib.Omega.{arith}
use lib.ListN.{length, get_or, set, length-set}
use lib.Seq.{get_or-set_other, set-set, set_comm}
use Rattle.stores.specs.declared.Store.{Store}
use Rattle.stores.specs.Stores.{store_in, after_stores, Within}

-- what holds at each of the four places holds of every place
pub each-place : (P : ℕ → Type 0) → P 0 → P 1 → P 2 → P 3 → (k : ℕ) → k < 4 → P k
each-place P a b c d zero h = a
each-place P a b c d (suc zero) h = b
each-place P a b c d (suc (suc zero)) h = c
each-place P a b c d (suc (suc (suc zero))) h = d
each-place P a b c d (suc (suc (suc (suc k)))) h = absurd (omega arith)

-- none, one more, and no more than all
pub after_none : (ss : List Store) (m : List ℕ) → after_stores 0 ss m ≡ m
unfolding after_stores
after_none ss m = refl

pub after_one_more : (k : ℕ) (ss : List Store) (m : List ℕ) → k < length ss
    → after_stores (suc k) ss m ≡ set (after_stores k ss m) (store_in ss k).at (store_in ss k).value
unfolding after_stores
after_one_more k [] m h = absurd (omega arith)
after_one_more zero (s ∷ ss) m h = refl
after_one_more (suc k) (s ∷ ss) m h =
    let below : k < length ss = omega arith in
    after_one_more k ss (set m s.at s.value) below

pub after-all : (k : ℕ) (ss : List Store) (m : List ℕ) → length ss ≤ k → after_stores k ss m ≡ after_stores (length ss) ss m
unfolding after_stores
after-all zero [] m h = refl
after-all (suc k) [] m h = refl
after-all zero (s ∷ ss) m h = absurd (omega arith)
after-all (suc k) (s ∷ ss) m h =
    let below : length ss ≤ k = omega arith in
    after-all k ss (set m s.at s.value) below

pub after_length : (k : ℕ) (ss : List Store) (m : List ℕ) → length (after_stores k ss m) ≡ length m
unfolding after_stores
after_length zero ss m = refl
after_length (suc k) [] m = refl
after_length (suc k) (s ∷ ss) m = after_length k ss (set m s.at s.value) ∙ length-set m s.at s.value

-- what each store keeps, any number of them keep
pub stores_keep : (P : List ℕ → Type 0) (ss : List Store)
    → ((i : ℕ) → i < length ss → (m : List ℕ) → P m → P (set m (store_in ss i).at (store_in ss i).value))
    → (k : ℕ) (m : List ℕ) → P m → P (after_stores k ss m)
unfolding after_stores
stores_keep P ss each zero m p = p
stores_keep P [] each (suc k) m p = p
stores_keep P (s ∷ ss) each (suc k) m p =
    stores_keep P ss (λ i h. each (suc i) (omega arith)) k (set m s.at s.value) (each 0 (omega arith) m p)

-- a word that none of the stores so far goes to
pub untouched : (p : ℕ) (ss : List Store) (k : ℕ) (m : List ℕ) → ((i : ℕ) → i < k → i < length ss → p ≡ (store_in ss i).at → ⊥)
    → get_or (after_stores k ss m) p 0 ≡ get_or m p 0
unfolding after_stores
untouched p ss zero m apart = refl
untouched p [] (suc k) m apart = refl
untouched p (s ∷ ss) (suc k) m apart =
    untouched p ss k (set m s.at s.value) (λ i h l. apart (suc i) (omega arith) (omega arith))
    ∙ get_or-set_other m s.at p s.value 0 (apart 0 (omega arith) (omega arith))

-- a list goes to a place
data Touches (p : ℕ) : List Store → Type 0 where
  here : {s : Store} {ss : List Store} → p ≡ s.at → Touches p (s ∷ ss)
  there : {s : Store} {ss : List Store} → Touches p ss → Touches p (s ∷ ss)

touches : (i : ℕ) (ss : List Store) → i < length ss → Touches (store_in ss i).at ss
touches i [] h = absurd (omega arith)
touches zero (s ∷ ss) h = here refl
touches (suc i) (s ∷ ss) h = there (touches i ss (omega arith))

-- what stood there before does not matter
overwritten : (p v : ℕ) (ss : List Store) (m : List ℕ) → Touches p ss → after_stores (length ss) ss (set m p v) ≡ after_stores (length ss) ss m
unfolding after_stores
overwritten p v [] m x' = elim x' [ ]
overwritten p v (s ∷ ss) m (here e) = ap (after_stores (length ss) ss) (rw e (set-set m s.at v s.value))
overwritten p v (s ∷ ss) m (there t) = by_place (ℕ_discrete p s.at) (overwritten p v ss (set m s.at s.value) t)
  where
    by_place : Dec (p ≡ s.at) → after_stores (length ss) ss (set (set m s.at s.value) p v) ≡ after_stores (length ss) ss (set m s.at s.value)
        → after_stores (length ss) ss (set (set m p v) s.at s.value) ≡ after_stores (length ss) ss (set m s.at s.value)
    by_place (yes e) later = ap (after_stores (length ss) ss) (rw e (set-set m s.at v s.value))
    by_place (no d) later = ap (after_stores (length ss) ss) (set_comm m p s.at v s.value d) ∙ later

-- all of them after a part of them, as after a cut
pub over_cut : (k : ℕ) (ss : List Store) (m : List ℕ) → k ≤ length ss → after_stores (length ss) ss (after_stores k ss m) ≡ after_stores (length ss) ss m
over_cut zero ss m h = ap (after_stores (length ss) ss) (after_none ss m)
over_cut (suc k) ss m h =
    ap (after_stores (length ss) ss) (after_one_more k ss m h)
    ∙ overwritten (store_in ss k).at (store_in ss k).value ss (after_stores k ss m) (touches k ss h) ∙ over_cut k ss m (omega arith)

-- A loop that makes them one by one under an allowance: as many are made as places passed, and the memory is what they leave.
pub record Storing (m₀ : List ℕ) (ss : List Store) (allowance place made : ℕ) (m : List ℕ) : Type 0 where
  pub counted : made ≡ place
  pub within : place ≤ length ss
  pub allowed : made ≤ allowance
  pub so_far : m ≡ after_stores place ss m₀

module _ (m₀ : List ℕ) (ss : List Store) (allowance : ℕ) where
  pub begins : Storing m₀ ss allowance 0 0 m₀
  begins = record { counted = refl; within = omega arith; allowed = omega arith; so_far = sym (after_none ss m₀) }

  module _ {place made : ℕ} {m : List ℕ} (now : Storing m₀ ss allowance place made m) where
    pub again : {m' : List ℕ} → place < length ss → (made ≡ allowance → ⊥) → m' ≡ set m (store_in ss place).at (store_in ss place).value
        → Storing m₀ ss allowance (place + 1) (made + 1) m'
    again h left e =
        record {
          counted = omega (arith, now.counted);
          within = omega arith;
          allowed = omega (arith, now.allowed, left);
          so_far =
              e ∙ ap (λ (l : List ℕ). set l (store_in ss place).at (store_in ss place).value) now.so_far
              ∙ sym (after_one_more place ss m₀ h) ∙ ap (λ (k : ℕ). after_stores k ss m₀) (sym (add-one place));
        }

    pub same_size : length m ≡ length m₀
    same_size = ap length now.so_far ∙ after_length place ss m₀

    -- cut with stores left to make; or all are made
    pub cut-leaves : made ≡ allowance → m ≡ after_stores allowance ss m₀
    cut-leaves e = now.so_far ∙ ap (λ (k : ℕ). after_stores k ss m₀) (sym now.counted ∙ e)

    pub all_made : length ss ≤ place → (made ≡ length ss) × (length ss ≤ allowance) × (m ≡ after_stores allowance ss m₀)
    all_made h =
        let whole : place ≡ length ss = omega (arith, now.within) in
        let enough : length ss ≤ allowance = omega (arith, now.counted, now.allowed) in
        (omega (arith, now.counted), enough, now.so_far ∙ ap (λ (k : ℕ). after_stores k ss m₀) whole ∙ sym (after-all allowance ss m₀ enough))

    -- how many are made
    pub cut-counted : place < length ss → made ≡ allowance → made ≡ min allowance (length ss)
    cut-counted h e = omega (arith, now.counted)

    pub all-counted : length ss ≤ place → made ≡ min allowance (length ss)
    all-counted h = omega (arith, now.counted, now.within, now.allowed)

-- where a store of the list goes
pub goes_within : (n : ℕ) (ss : List Store) (i : ℕ) → Within n ss → i < length ss → (store_in ss i).at < n
goes_within n [] i w h = absurd (omega arith)
goes_within n (s ∷ ss) zero w h = w.0
goes_within n (s ∷ ss) (suc i) w h = goes_within n ss i w.1 (omega arith)

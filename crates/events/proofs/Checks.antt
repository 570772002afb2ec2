-- What the check of a recorder says: accepted exactly if every rule holds, and otherwise the first that is broken.
-- Assumes nothing.
use mathlib.Core.Path.{◌≡◌, refl, sym, ap, ◌∙◌}
use mathlib.Core.Bool.{Bool, true, false}
use mathlib.Core.List.{List}
use Prim.Native.Nat.{ℕ, ◌+◌, ◌*◌, ◌≤◌, ◌<◌}
use native.Mathlib.Omega.{arith}
use lib.ListN.{length}
use lib.Pow.{pow-lt}
use borrow.Author.Tests.{eq-eqb, ne_eqb, eqb-true}
use Rattle.std.specs.Prelude.{Err, None, Ok, Option, Result, Some}
use Rattle.events.specs.declared.Refusal.{Refusal}
use Rattle.words.proofs.Search.{from_zero, found, found_lowest}
use Rattle.indexes.specs.Indexes.{slots}
use Rattle.events.specs.declared.Refusal.TheVariants.{BadLength, BadIndex}
use Rattle.events.specs.Word.{well_formed}
use Rattle.events.specs.Events.{max_log2, index_of, is_long, log2_of, by_index, check}
use Rattle.events.proofs.Formed.{Formed, formed, is_formed}

-- 1 + 4 × 2 ^ n words, n at most the largest
pub record Long (m : List ℕ) (n : ℕ) : Type 0 where
  pub words : length m ≡ 1 + 4 * slots n
  pub few : n ≤ max_log2

module _ (m : List ℕ) where
  pub long : (n : ℕ) → log2_of m ≡ Some n → Long m n
  unfolding log2_of is_long
  long n e =
      let l = found (is_long m) (max_log2 + 1) 0 n (omega arith) (sym (from_zero (is_long m) (max_log2 + 1)) ∙ e) in
      record { words = eqb-true (length m) (1 + 4 * slots n) l.passes; few = omega (arith, l.below) }

  -- a larger n has more slots, so that a length has no other n
  pub of_long : (n : ℕ) → Long m n → log2_of m ≡ Some n
  unfolding log2_of is_long
  of_long n l =
      from_zero (is_long m) (max_log2 + 1)
      ∙ found_lowest (is_long m) (max_log2 + 1) 0 n
      (record {
        from = omega arith;
        below = omega (arith, l.few);
        passes = eq-eqb (length m) (1 + 4 * slots n) l.words;
        first = λ j a b. ne_eqb (length m) (1 + 4 * slots j) (λ e. omega (arith, e, l.words, pow-lt b));
      })

  pub not_long : log2_of m ≡ None → (n : ℕ) → Long m n → ⊥
  not_long e n l = let z : ◌≡◌ {A = ℕ} 0 1 = cc (of_long n l) in omega arith

  -- words for an index word, and for each slot
  pub has-index : (n : ℕ) → Long m n → 0 < length m
  has-index n l = omega (arith, l.words)

  pub has-slot : (n i : ℕ) → Long m n → i < slots n → 4 * i + 5 ≤ length m
  has-slot n i l h = omega (arith, l.words)

-- an accepted recorder, rule by rule
pub record Accepts (m : List ℕ) (n : ℕ) : Type 0 where
  pub size : Long m n
  pub index : Formed n (index_of m)

module _ (m : List ℕ) where
  bad_length : log2_of m ≡ None → check m ≡ Err BadLength
  unfolding check
  bad_length e = ap (by_index m) e

  -- refusal 15, exactly if the length is no recorder's
  pub refuses_length : ((n : ℕ) → Long m n → ⊥) → check m ≡ Err BadLength
  refuses_length never-long = by_found (log2_of m) refl
    where
      by_found : (f : Option ℕ) → log2_of m ≡ f → check m ≡ Err BadLength
      by_found (Some n) e = absurd (never-long n (long m n e))
      by_found None e = bad_length e

  -- refusal 16, exactly if the length is good and the index word ill formed for it
  pub refuses-index : (n : ℕ) → Long m n → well_formed n (index_of m) ≡ false → check m ≡ Err BadIndex
  unfolding check
  refuses-index n l e = ap (by_index m) (of_long m n l) ∙ rw e

  -- accepted, exactly if both are good
  pub accepts : (n : ℕ) → Accepts m n → check m ≡ Ok n
  unfolding check
  accepts n a = ap (by_index m) (of_long m n a.size) ∙ rw (is_formed n (index_of m) a.index)

-- the converse: what each answer says of the words
pub record Says (m : List ℕ) (answer : Result ℕ Refusal) : Type 0 where
  pub length_refused : answer ≡ Err BadLength → (n : ℕ) → Long m n → ⊥
  pub index-refused : answer ≡ Err BadIndex → (n : ℕ) → Long m n → well_formed n (index_of m) ≡ false
  pub accepted : (n : ℕ) → answer ≡ Ok n → Accepts m n

module _ (m : List ℕ) where
  never {ℓ} : {A : Type ℓ} → ◌≡◌ {A = ℕ} 0 1 → A
  never z = absurd (omega arith)

  pub says : Says m (check m)
  says = by_found (log2_of m) refl
    where
      index_case : (n : ℕ) → log2_of m ≡ Some n → (b : Bool) → well_formed n (index_of m) ≡ b → Says m (check m)
      index_case n e true t =
          let a : Accepts m n = record { size = long m n e; index = formed n (index_of m) t } in
          rw (accepts m n a)
          (record { length_refused = λ q. never (cc); index-refused = λ q. never (cc); accepted = λ k q. let s : n ≡ k = cc in rw (← s) a })
      index_case n e false t =
          rw (refuses-index m n (long m n e) t)
          (record {
            length_refused = λ q. never (cc);
            index-refused = λ q k l. let s : n ≡ k = cc (of_long m k l) in rw (← s) t;
            accepted = λ k q. never (cc);
          })

      by_found : (f : Option ℕ) → log2_of m ≡ f → Says m (check m)
      by_found (Some n) e = index_case n e (well_formed n (index_of m)) refl
      by_found None e =
          rw (bad_length m e)
          (record { length_refused = λ q. not_long m e; index-refused = λ q. never (cc); accepted = λ k q. never (cc) })

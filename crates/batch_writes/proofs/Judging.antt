-- Which command of a batch is the first bad one, and what it means that none is.
-- Assumes nothing.
use mathlib.Core.Path.{◌≡◌, refl, sym, ap, ◌∙◌}
use mathlib.Core.Bool.{Bool, true, false}
use mathlib.Core.List.{List}
use Prim.Native.Nat.{ℕ, zero, suc, ◌+◌, ◌-◌, ◌*◌, ◌/◌, ◌%◌, ◌≤◌, ◌<◌}
use native.Mathlib.Nat.{zero-add, add-zero, suc-add, add-suc}
use native.Mathlib.Numerals.{add-one}
use native.Mathlib.Omega.{arith}
use lib.Dec.{eqb, leb}
use lib.ListN.{length, take, drop}
use borrow.Author.Tests.{eq-eqb, ne_eqb, leb-true, le-leb, lt-leb}
use Rattle.words.specs.Choice.{pick}
use Rattle.commands.specs.declared.Features.{Features}
use Rattle.commands.specs.declared.Coded.{Coded}
use Rattle.writer.specs.declared.Fault.{Fault}
use Rattle.writer.specs.declared.Fault.TheVariants.{Unfit}
use Rattle.std.specs.Prelude.{Err, Ok, Result}
use Rattle.writer.specs.Layouts.{wide}
use Rattle.writer.specs.Writing.{judged}
use Rattle.batch_writes.specs.declared.BatchRefusal.TheVariants.{BadCommand}
use Rattle.batch_writes.specs.Batch.{words_of, commands_in, judged_at, or_later, judged_from}

-- how many there are
module _ (ws : List ℕ) where
  pub all_whole : length ws % wide ≡ 0 → length ws / wide ≡ commands_in ws
  unfolding commands_in
  all_whole e = rw (eq-eqb (length ws % wide) 0 e) (omega arith)

  pub one-short : (length ws % wide ≡ 0 → ⊥) → length ws / wide + 1 ≡ commands_in ws
  unfolding commands_in
  one-short n = rw (ne_eqb (length ws % wide) 0 n)

  -- each of them has a word
  pub begun : (i : ℕ) → i < commands_in ws → wide * i ≤ length ws
  unfolding commands_in
  begun i h = by_test (eqb (length ws % wide) 0) h
    where
      by_test : (b : Bool) → i < length ws / wide + pick b 0 1 → wide * i ≤ length ws
      by_test true l = omega arith
      by_test false l = omega arith

module _ (f : Features) (ws : List ℕ) where
  pub broken : (i : ℕ) → length ws - wide * i < wide → wide * i ≤ length ws → Err Unfit ≡ judged_at f ws i
  unfolding judged_at
  broken i short has = rw (lt-leb (wide * i + wide) (length ws) (omega arith))

  pub whole : (i : ℕ) (v : Result Coded Fault) → wide ≤ length ws - wide * i → wide * i ≤ length ws
      → v ≡ judged f (take (wide * i + wide - wide * i) (drop (wide * i) ws)) → v ≡ judged_at f ws i
  unfolding judged_at
  whole i v long has e =
      let sixteen : wide * i + wide - wide * i ≡ wide = omega arith in
      rw (le-leb (wide * i + wide) (length ws) (omega arith)) (rw sixteen at e)

  -- so far none was bad
  pub record Looking (n i : ℕ) : Type 0 where
    pub within : i ≤ n
    pub so_far : judged_from f ws (n - i) i ≡ judged_from f ws n 0

  module _ (n : ℕ) where
    pub looks : Looking n 0
    looks = record { within = omega arith; so_far = ap (λ (k : ℕ). judged_from f ws k 0) (let e : n - 0 ≡ n = omega arith in e) }

    module _ (i : ℕ) (now : Looking n i) where
      more : i < n → judged_from f ws (n - i) i ≡ or_later i (judged_at f ws i) (judged_from f ws (n - (i + 1)) (i + 1))
      unfolding judged_from
      more h = let e : n - i ≡ suc (n - (i + 1)) = omega arith in rw (e, add-one i)

      pub finds : (v : Result Coded Fault) (why : Fault) → i < n → v ≡ judged_at f ws i → v ≡ Err why → Err (BadCommand i why) ≡ judged_from f ws n 0
      finds v why h e is =
          sym (sym now.so_far ∙ more h ∙ ap (λ (x : Result Coded Fault). or_later i x (judged_from f ws (n - (i + 1)) (i + 1))) (sym e ∙ is))

      pub continues : (v : Result Coded Fault) (c : Coded) → i < n → v ≡ judged_at f ws i → v ≡ Ok c → Looking n (i + 1)
      continues v c h e is =
          record {
            within = omega arith;
            so_far = sym (more h ∙ ap (λ (x : Result Coded Fault). or_later i x (judged_from f ws (n - (i + 1)) (i + 1))) (sym e ∙ is)) ∙ now.so_far;
          }

      pub ends : n ≤ i → Ok tt ≡ judged_from f ws n 0
      unfolding judged_from
      ends h = let z : n - i ≡ 0 = omega arith in rw z at now.so_far

  -- command i fits
  pub record FitAt (i : ℕ) : Type 0 where
    pub has : wide * i + wide ≤ length ws
    pub coded : Coded
    pub fit : judged f (words_of ws i) ≡ Ok coded

  fit_at : (i : ℕ) (c : Coded) → judged_at f ws i ≡ Ok c → FitAt i
  unfolding judged_at
  fit_at i c e = by_test (leb (wide * i + wide) (length ws)) refl e
    where
      by_test : (b : Bool) → leb (wide * i + wide) (length ws) ≡ b → pick b (judged f (words_of ws i)) (Err Unfit) ≡ Ok c → FitAt i
      by_test true p q = record { has = leb-true (wide * i + wide) (length ws) p; coded = c; fit = q }
      by_test false p q = let z : ◌≡◌ {A = ℕ} 0 1 = cc in absurd (omega arith)

  -- none of the n from i on is bad: each fits
  from-fit : (n i : ℕ) → judged_from f ws n i ≡ Ok tt → (k : ℕ) → k < n → FitAt (i + k)
  unfolding judged_from
  from-fit zero i e k h = absurd (omega arith)
  from-fit (suc n) i e k h = verdict_case (judged_at f ws i) refl e k h (from-fit n (suc i))
    where
      verdict_case : (v : Result Coded Fault) → judged_at f ws i ≡ v → or_later i v (judged_from f ws n (suc i)) ≡ Ok tt → (k : ℕ) → k < suc n
          → (judged_from f ws n (suc i) ≡ Ok tt → (j : ℕ) → j < n → FitAt (suc i + j)) → FitAt (i + k)
      verdict_case (Err why) p q k l later = let z : ◌≡◌ {A = ℕ} 0 1 = cc in absurd (omega arith)
      verdict_case (Ok c) p q zero l later = rw add-zero (fit_at i c p)
      verdict_case (Ok c) p q (suc j) l later = rw (add-suc, ← suc-add) (later q j (omega arith))

  pub each_fits : (n : ℕ) → judged_from f ws n 0 ≡ Ok tt → (i : ℕ) → i < n → FitAt i
  each_fits n e i h = rw zero-add at (from-fit n 0 e i h)

  -- so every command is whole
  pub none-short : judged_from f ws (commands_in ws) 0 ≡ Ok tt → wide * commands_in ws ≤ length ws
  none-short e = by_count (commands_in ws) refl
    where
      by_count : (n : ℕ) → commands_in ws ≡ n → wide * n ≤ length ws
      by_count zero p = omega arith
      by_count (suc n) p = omega (arith, (each_fits (commands_in ws) e n (rw p (omega arith))).has)

-- Tests as equations.
-- Assumes nothing.
use mathlib.Core.Path.{◌≡◌, refl, sym}
use mathlib.Core.Bool.{Bool, true, false, not, ◌&&◌, ◌||◌}
use mathlib.Core.Logic.{◌⊎◌, inl, inr, ⊎_elim}
use Prim.Native.Nat.{ℕ, ◌≤◌, ◌<◌}
use native.Mathlib.Omega.{arith}
use lib.Dec.{T, ltb}
use borrow.Author.Tests.{ltb-true, ltb-false}
use Rattle.words.specs.Choice.{pick}

-- what a computed test says
pub passed : {b : Bool} → T b → b ≡ true
passed {b = true} t = refl
passed {b = false} t = absurd t

pub truth : {b : Bool} → b ≡ true → T b
truth e = rw e tt

pub clash {ℓ} : {A : Type ℓ} {b : Bool} → b ≡ true → b ≡ false → A
clash p q = let z : ◌≡◌ {A = ℕ} 0 1 = cc in absurd (omega arith)

pub decided : (b : Bool) → (b ≡ true) ⊎ (b ≡ false)
decided true = inl refl
decided false = inr refl

-- a test that can't pass fails
pub never : (b : Bool) → (b ≡ true → ⊥) → b ≡ false
never b f = ⊎_elim (λ e. absurd (f e)) (λ e. e) (decided b)

pub less_or_not : (a b : ℕ) → (a < b) ⊎ (b ≤ a)
less_or_not a b = ⊎_elim (λ e. inl (ltb-true a b e)) (λ e. inr (ltb-false a b e)) (decided (ltb a b))

-- both tests of a conjunction passed
pub left : (a b : Bool) → (a && b) ≡ true → a ≡ true
left true b e = refl
left false b e = e

pub right : (a b : Bool) → (a && b) ≡ true → b ≡ true
right true b e = e
right false b e = clash e refl

pub T-left : (a b : Bool) → T (a && b) → T a
T-left true b t = tt
T-left false b t = t

pub T-right : (a b : Bool) → T (a && b) → T b
T-right true b t = t
T-right false b t = absurd t

pub and_true : {a b : Bool} → a ≡ true → b ≡ true → (a && b) ≡ true
and_true p q = simp (p, q)

-- one test of a disjunction passed
pub either : (a b : Bool) → (a || b) ≡ true → (a ≡ true) ⊎ (b ≡ true)
either true b e = inl refl
either false b e = inr e

pub or_left : (a b : Bool) → a ≡ true → (a || b) ≡ true
or_left a b e = rw e

pub or_right : (a b : Bool) → b ≡ true → (a || b) ≡ true
or_right true b e = refl
or_right false b e = e

-- if the first passes, so does the second
pub then_true : {a b : Bool} → (not a || b) ≡ true → a ≡ true → b ≡ true
then_true {a = true} e p = e
then_true {a = false} e p = clash p refl

pub true_then : (a : Bool) {b : Bool} → (a ≡ true → b ≡ true) → (not a || b) ≡ true
true_then true f = f refl
true_then false f = refl

-- a conjunction whose second test passes wherever another did; and a disjunction, and a choice
pub and_widened : (a b : Bool) {c : Bool} → (b ≡ true → c ≡ true) → (a && b) ≡ true → (a && c) ≡ true
and_widened true b f e = f e
and_widened false b f e = e

pub or_widened : (a b : Bool) {c : Bool} → (b ≡ true → c ≡ true) → (a || b) ≡ true → (a || c) ≡ true
or_widened true b f e = refl
or_widened false b f e = f e

pub pick-widened : (a b c : Bool) {d : Bool} → (c ≡ true → d ≡ true) → pick a b c ≡ true → pick a b d ≡ true
pick-widened true b c f e = e
pick-widened false b c f e = f e

-- two tests that pass together are equal
pub same_test : (a b : Bool) → (a ≡ true → b ≡ true) → (b ≡ true → a ≡ true) → a ≡ b
same_test true b f g = sym (f refl)
same_test false true f g = g refl
same_test false false f g = refl

-- what is made of a choice is the choice of what is made
pub through : {A B : Type 0} (f : A → B) (b : Bool) (x y : A) → f (pick b x y) ≡ pick b (f x) (f y)
through f true x y = refl
through f false x y = refl

-- Counting modulo t: the way from one index to another.
-- Assumes nothing.
use Rattle.std.proofs.Common.{◌≡◌, ℕ, ◌+◌, ◌-◌, ◌%◌, ◌^◌, ◌<◌, ◌≤◌, sym, ap, ◌∙◌, mod-eq_of_lt, arith}
use native.Mathlib.Nat.{mod-add-mod, add-mod_right}
use lib.Pow.{mod-mod-pow}

-- going w + t - r on from r comes to w
pub comes : (t r w : ℕ) → r ≤ t → (w + t - r + r) % t ≡ w % t
comes t r w h = ap (λ (k : ℕ). k % t) (let e : w + t - r + r ≡ w + t = omega arith in e) ∙ add-mod_right w t

-- and no other way below t does
pub the_way : (t x r w : ℕ) → x < t → r ≤ t → (x + r) % t ≡ w % t → x ≡ (w + t - r) % t
the_way t x r w in-x in-r arrives =
    sym
    (ap (λ (k : ℕ). k % t) (let e : w + t - r ≡ w + (t - r) = omega arith in e) ∙ sym (mod-add-mod w t (t - r))
    ∙ ap (λ (k : ℕ). (k + (t - r)) % t) (sym arrives) ∙ mod-add-mod (x + r) t (t - r)
    ∙ ap (λ (k : ℕ). k % t) (let e : x + r + (t - r) ≡ x + t = omega arith in e) ∙ add-mod_right x t ∙ mod-eq_of_lt in-x)

-- a remainder modulo 2 ^ 64 keeps the remainder modulo a smaller power
pub mod_64 : (n x : ℕ) → n ≤ 64 → x % 2 ^ 64 % 2 ^ n ≡ x % 2 ^ n
mod_64 n x h =
    let sum : (64 - n) + n ≡ 64 = omega arith in
    ap (λ (k : ℕ). x % 2 ^ k % 2 ^ n) (sym sum) ∙ mod-mod-pow x (64 - n) n

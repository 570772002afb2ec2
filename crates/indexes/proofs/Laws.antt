-- What the layers above use of the indexes, in place of their text.
-- Assumes nothing.
use Rattle.std.proofs.Common.{◌≡◌, ℕ, zero, suc, ◌+◌, ◌-◌, ◌*◌, ◌%◌, ◌^◌, ◌<◌, ◌≤◌, true, ◌&&◌, leb, sym, refl, ap, ◌∙◌, le_of_lt, mod-lt, mod-eq_of_lt, add_comm, arith, pow_pos, pow-add, ltb-true, lt-ltb, le-leb, leb-true}
use native.Mathlib.Nat.{mod-mod, mod-add-mod, add-mod-mod, add-mod_left, add-mod_right}
use lib.Pow.{mod-mod-pow}
use Rattle.words.proofs.Truth.{left, right, and_true}
use Rattle.indexes.specs.Indexes.{slots, turn, in_range, distance, slot, next, well_formed}
use Rattle.indexes.proofs.Rounds.{comes, the_way, mod_64}

-- what the code computes: a difference that wraps at 2 ^ 64, and its remainder
pub wraps : (n rd wr s : ℕ) → n < 63 → (s + rd) % 2 ^ 64 ≡ wr → s % turn n ≡ distance n rd wr
unfolding distance
wraps n rd wr s h e =
    let t = turn n in
    the_way t (s % t) (rd % t) wr (mod-lt s (pow_pos (n + 1))) (le_of_lt (mod-lt rd (pow_pos (n + 1))))
    (mod-add-mod s t (rd % t) ∙ add-mod-mod s rd t ∙ sym (mod_64 (n + 1) (s + rd) (omega arith)) ∙ ap (λ (k : ℕ). k % t) e)

module _ (n : ℕ) where
  pub in-range : (i : ℕ) → in_range n i ≡ true → i < turn n
  unfolding in_range
  in-range i e = ltb-true i (turn n) e

  pub distance-lt : (rd wr : ℕ) → distance n rd wr < turn n
  unfolding distance
  distance-lt rd wr = mod-lt (wr + turn n - rd % turn n) (pow_pos (n + 1))

  -- the distance from rd on comes to wr
  pub arrives : (rd wr : ℕ) → (distance n rd wr + rd) % turn n ≡ wr % turn n
  unfolding distance
  arrives rd wr =
      let t = turn n in
      mod-add-mod (wr + t - rd % t) t rd ∙ sym (add-mod-mod (wr + t - rd % t) rd t)
      ∙ comes t (rd % t) wr (le_of_lt (mod-lt rd (pow_pos (n + 1))))

  -- and is the only way below a turn that does
  pub is-distance : (k rd wr : ℕ) → k < turn n → (k + rd) % turn n ≡ wr % turn n → distance n rd wr ≡ k
  unfolding distance
  is-distance k rd wr small e =
      let t = turn n in
      sym (the_way t k (rd % t) wr small (le_of_lt (mod-lt rd (pow_pos (n + 1)))) (add-mod-mod k rd t ∙ e))

  -- exact across the wrap: k places on from rd, the distance is k
  pub distance-ahead : (rd k : ℕ) → k < turn n → distance n rd ((k + rd) % turn n) ≡ k
  distance-ahead rd k small = is-distance k rd ((k + rd) % turn n) small (sym (mod-mod (k + rd) (turn n)))

  pub distance_self : (rd : ℕ) → distance n rd rd ≡ 0
  distance_self rd = is-distance 0 rd rd (pow_pos (n + 1)) (ap (λ (k : ℕ). k % turn n) (let e : 0 + rd ≡ rd = omega arith in e))

  -- one command fewer waits after the next index
  pub distance_next : (rd wr d : ℕ) → distance n rd wr ≡ suc d → distance n (next n rd) wr ≡ d
  unfolding next
  distance_next rd wr d e =
      let t = turn n in
      is-distance d ((rd + 1) % t) wr (omega (arith, distance-lt rd wr))
      (add-mod-mod d (rd + 1) t ∙ ap (λ (k : ℕ). k % t) (let s : d + (rd + 1) ≡ distance n rd wr + rd = omega arith in s) ∙ arrives rd wr)

  pub next-lt : (rd : ℕ) → next n rd < turn n
  unfolding next
  next-lt rd = mod-lt (rd + 1) (pow_pos (n + 1))

  pub slot_lt : (rd : ℕ) → slot n rd < slots n
  unfolding slot
  slot_lt rd = mod-lt rd (pow_pos n)

  -- one more waits after WR's next index
  pub distance-more : (rd wr d : ℕ) → distance n rd wr ≡ d → d < slots n → distance n rd (next n wr) ≡ suc d
  unfolding next
  distance-more rd wr d e room =
      let t = turn n in
      let double : t ≡ slots n * 2 = pow-add 2 n 1 in
      is-distance (suc d) rd ((wr + 1) % t) (omega arith)
      (ap (λ (k : ℕ). k % t) (let s : suc d + rd ≡ distance n rd wr + rd + 1 = omega arith in s)
      ∙ sym (mod-add-mod (distance n rd wr + rd) t 1) ∙ ap (λ (k : ℕ). (k + 1) % t) (arrives rd wr)
      ∙ mod-add-mod wr t 1 ∙ sym (mod-mod (wr + 1) t))

  -- k more wait after an index k on from WR
  pub distance-on : (rd wr k : ℕ) → distance n rd wr + k < turn n → distance n rd ((wr + k) % turn n) ≡ distance n rd wr + k
  distance-on rd wr k small =
      let t = turn n in
      let d = distance n rd wr in
      is-distance (d + k) rd ((wr + k) % t) small
      (ap (λ (x : ℕ). x % t) (let s : d + k + rd ≡ d + rd + k = omega arith in s) ∙ sym (mod-add-mod (d + rd) t k)
      ∙ ap (λ (x : ℕ). (x + k) % t) (arrives rd wr) ∙ mod-add-mod wr t k ∙ sym (mod-mod (wr + k) t))

  -- the slot is the same after a turn
  pub slot_turn : (i : ℕ) → slot n (i % turn n) ≡ slot n i
  unfolding slot
  slot_turn i = ap (λ (k : ℕ). i % 2 ^ k % slots n) (let s : n + 1 ≡ 1 + n = omega arith in s) ∙ mod-mod-pow i 1 n

  -- the distance on from an index's slot comes to WR's
  slot-arrives : (i wr : ℕ) → slot n (distance n i wr + i) ≡ slot n wr
  slot-arrives i wr = sym (slot_turn (distance n i wr + i)) ∙ ap (slot n) (arrives i wr) ∙ slot_turn wr

  -- of a full queue from an index on, no two have the same slot
  pub slots-differ : (from i j : ℕ) → i < slots n → j < slots n → slot n (from + i) ≡ slot n (from + j) → i ≡ j
  unfolding slot
  slots-differ from i j p q e =
      let s = slots n in
      let x = (from + j) % s in
      let at : (k : ℕ) → k < s → (from + k) % s ≡ x → k ≡ (x + s - from % s) % s =
      λ k h g. the_way s k (from % s) x h (le_of_lt (mod-lt from (pow_pos n)))
      (add-mod-mod k from s ∙ ap (λ (y : ℕ). y % s) (add_comm k from) ∙ g ∙ sym (mod-mod (from + j) s)) in
      at i p e ∙ sym (at j q refl)

  -- from WR on is as from RD on, behind those that wait
  pub slot-ahead : (rd wr i : ℕ) → slot n (wr + i) ≡ slot n (rd + (distance n rd wr + i))
  slot-ahead rd wr i =
      let t = turn n in
      let d = distance n rd wr in
      sym (slot_turn (wr + i))
      ∙ ap (slot n)
      (sym (mod-add-mod wr t i) ∙ ap (λ (x : ℕ). (x + i) % t) (sym (arrives rd wr)) ∙ mod-add-mod (d + rd) t i
      ∙ ap (λ (x : ℕ). x % t) (let s : d + rd + i ≡ rd + (d + i) = omega arith in s))
      ∙ slot_turn (rd + (d + i))

  -- an index behind WR by less than a full queue has another slot than WR's
  pub slot_apart : (i wr : ℕ) → 0 < distance n i wr → distance n i wr < slots n → slot n i ≡ slot n wr → ⊥
  unfolding slot
  slot_apart i wr some room e =
      let s = slots n in
      let d = distance n i wr in
      let meets : (d + i % s) % s ≡ i % s % s = add-mod-mod d i s ∙ slot-arrives i wr ∙ sym e ∙ sym (mod-mod i s) in
      let none : d ≡ 0 =
      the_way s d (i % s) (i % s) room (le_of_lt (mod-lt i (pow_pos n))) meets
      ∙ ap (λ (k : ℕ). k % s) (let q : i % s + s - i % s ≡ 0 + s = omega arith in q) ∙ add-mod_right 0 s ∙ mod-eq_of_lt (pow_pos n) in
      omega arith

  -- so where the queue is not full, WR's slot is none of those that wait
  pub waiting-apart : (rd wr i : ℕ) → distance n rd wr < slots n → i < distance n rd wr → slot n ((i + rd) % turn n) ≡ slot n wr → ⊥
  waiting-apart rd wr i room h =
      let t = turn n in
      let d = distance n rd wr in
      let rest : distance n ((i + rd) % t) wr ≡ d - i =
      is-distance (d - i) ((i + rd) % t) wr (omega (arith, distance-lt rd wr))
      (add-mod-mod (d - i) (i + rd) t ∙ ap (λ (k : ℕ). k % t) (let s : d - i + (i + rd) ≡ d + rd = omega arith in s) ∙ arrives rd wr) in
      slot_apart ((i + rd) % t) wr (rw rest (omega arith)) (rw rest (omega arith))

  -- behind by a full queue it has the same one
  pub slot-full : (i wr : ℕ) → distance n i wr ≡ slots n → slot n i ≡ slot n wr
  unfolding slot
  slot-full i wr e =
      sym (add-mod_left (slots n) i) ∙ ap (λ (k : ℕ). (k + i) % slots n) (sym e) ∙ slot-arrives i wr

-- the indexes as a record of what well formed says
pub record Formed (n rd wr : ℕ) : Type 0 where
  pub rd_in : rd < turn n
  pub wr_in : wr < turn n
  pub apart : distance n rd wr ≤ slots n

module _ (n rd wr : ℕ) where
  pub formed : well_formed n rd wr ≡ true → Formed n rd wr
  unfolding well_formed
  formed e =
      let ranges = left (in_range n rd && in_range n wr) (leb (distance n rd wr) (slots n)) e in
      record {
        rd_in = in-range n rd (left (in_range n rd) (in_range n wr) ranges);
        wr_in = in-range n wr (right (in_range n rd) (in_range n wr) ranges);
        apart = leb-true (distance n rd wr) (slots n) (right (in_range n rd && in_range n wr) (leb (distance n rd wr) (slots n)) e);
      }

  pub is_formed : Formed n rd wr → well_formed n rd wr ≡ true
  unfolding well_formed in_range
  is_formed f =
      and_true (and_true (lt-ltb rd (turn n) f.rd_in) (lt-ltb wr (turn n) f.wr_in)) (le-leb (distance n rd wr) (slots n) f.apart)

  -- in range, nothing waits only where the indexes are equal
  pub none-waits : rd < turn n → wr < turn n → distance n rd wr ≡ 0 → rd ≡ wr
  none-waits in-rd in-wr e =
      sym (mod-eq_of_lt in-rd) ∙ ap (λ (k : ℕ). k % turn n) (let s : rd ≡ distance n rd wr + rd = omega arith in s)
      ∙ arrives n rd wr ∙ mod-eq_of_lt in-wr

-- a command may be consumed where one waits
pub formed-next : (n rd wr : ℕ) → Formed n rd wr → (rd ≡ wr → ⊥) → Formed n (next n rd) wr
formed-next n rd wr f some =
    record {
      rd_in = next-lt n rd;
      wr_in = f.wr_in;
      apart = shorter (distance n rd wr) refl;
    }
  where
    shorter : (d : ℕ) → distance n rd wr ≡ d → distance n (next n rd) wr ≤ slots n
    shorter zero e = absurd (some (none-waits n rd wr f.rd_in f.wr_in e))
    shorter (suc d) e = rw (distance_next n rd wr d e) (omega (arith, f.apart))

-- one may be added where the queue is not full
pub formed-more : (n rd wr : ℕ) → Formed n rd wr → distance n rd wr < slots n → Formed n rd (next n wr)
formed-more n rd wr f room =
    record { rd_in = f.rd_in; wr_in = next-lt n wr; apart = rw (distance-more n rd wr (distance n rd wr) refl room) (omega arith) }

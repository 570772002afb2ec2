-- What acknowledging answers and leaves on lent fields, and that it is what acknowledging by the control word does.
-- Document 01, What goes between host and unit. When the unit says no: refusals 2 and 6.
-- Assumes nothing.
use mathlib.Core.Path.{◌≡◌, refl, sym, ap, ◌∙◌}
use mathlib.Core.Bool.{Bool, true, false, not, ◌&&◌}
use Prim.Native.Nat.{ℕ, ◌^◌, ◌<◌}
use native.Mathlib.Omega.{arith}
use lib.Dec.{eqb}
use Rattle.words.specs.Choice.{pick}
use Rattle.words.proofs.Parts.{part_lt, set_lt}
use Rattle.words.proofs.Truth.{left, right, and_true, clash}
use Rattle.control.specs.declared.Fields.{Fields}
use Rattle.control.specs.Control.{gerrorn_bits, rd_bits, wr_bits, err_bits, gerror_bits, cmdqen_bits, log2size_bits, pending_bits, zero_bits, gerror, gerrorn, fields_of, active, well_formed}
use Rattle.control_stores.specs.Stores.{acknowledged}
use Rattle.control.proofs.Formed as control
use Rattle.control_stores.proofs.AfterStores.{acknowledged-keeps, acknowledged-sets, acknowledged-quiet, acknowledged-formed}
use Rattle.registers.specs.declared.RegistersRefusal.{RegistersRefusal}
use Rattle.registers.specs.declared.RegistersRefusal.TheVariants.{IllFormed, NoError}
use Rattle.std.specs.Prelude.{Err, Ok, Result, ⊤}
use Rattle.registers.specs.declared.Decision.{Decision}
use Rattle.registers.specs.Registers.{given, packed, fits, formed, with_gerrorn, decided, afterwards, Acknowledges}
use Rattle.registers.proofs.Packed.{fit, is_fit, packed_zero, packed_lt, unpacked, packed-again, below}

-- the three outcomes
abbrev pub refused : RegistersRefusal → Fields → Decision
refused why f = record { answer = Err why; gerrorn = f.gerrorn }

abbrev pub done : Fields → Decision
done f = record { answer = Ok tt; gerrorn = f.gerror }

-- which of them it is, and why
pub data Way (f : Fields) : Type 0 where
  ill_formed : formed f ≡ false → decided f ≡ refused IllFormed f → Way f
  quiet : formed f ≡ true → active (packed f) ≡ false → decided f ≡ refused NoError f → Way f
  carried_out : formed f ≡ true → active (packed f) ≡ true → decided f ≡ done f → Way f

never {ℓ} : {B : Type ℓ} → ◌≡◌ {A = ℕ} 0 1 → B
never z = absurd (omega arith)

answer_of : {d d' : Decision} → d ≡ d' → d.answer ≡ d'.answer
answer_of e = ap (λ (d : Decision). d.answer) e

abbrev number_of : Decision → ℕ
number_of d = given d.answer

module _ (f : Fields) where
  -- each under its condition
  pub ill-formed : formed f ≡ false → decided f ≡ refused IllFormed f
  unfolding decided
  ill-formed e = rw e

  pub no-error : formed f ≡ true → active (packed f) ≡ false → decided f ≡ refused NoError f
  unfolding decided
  no-error e t = rw (e, t)

  pub carried-out : formed f ≡ true → active (packed f) ≡ true → decided f ≡ done f
  unfolding decided
  carried-out e t = rw (e, t)

  pub way : Way f
  way = by-formed (formed f) refl
    where
      by-active : formed f ≡ true → (t : Bool) → active (packed f) ≡ t → Way f
      by-active e false t = quiet e t (no-error e t)
      by-active e true t = carried_out e t (carried-out e t)

      by-formed : (b : Bool) → formed f ≡ b → Way f
      by-formed false e = ill_formed e (ill-formed e)
      by-formed true e = by-active e (active (packed f)) refl

  -- the paper's numbers: 2 exactly for fields that make no well-formed word, else 6 exactly if no error is active
  pub gives-2 : formed f ≡ false → given (decided f).answer ≡ 2
  gives-2 e = ap number_of (ill-formed e)

  pub gives-6 : formed f ≡ true → active (packed f) ≡ false → given (decided f).answer ≡ 6
  gives-6 e t = ap number_of (no-error e t)

  pub gives-2-only : given (decided f).answer ≡ 2 → formed f ≡ false
  gives-2-only r = by_way way
    where
      by_way : Way f → formed f ≡ false
      by_way (ill_formed e d) = e
      by_way (quiet e t d) = absurd (omega (arith, r, ap number_of d))
      by_way (carried_out e t d) = absurd (omega (arith, r, ap number_of d))

  pub gives-6-only : given (decided f).answer ≡ 6 → (formed f ≡ true) × (active (packed f) ≡ false)
  gives-6-only r = by_way way
    where
      by_way : Way f → (formed f ≡ true) × (active (packed f) ≡ false)
      by_way (ill_formed e d) = absurd (omega (arith, r, ap number_of d))
      by_way (quiet e t d) = (e, t)
      by_way (carried_out e t d) = absurd (omega (arith, r, ap number_of d))

  pub carried-out-only : (decided f).answer ≡ Ok tt → (formed f ≡ true) × (active (packed f) ≡ true)
  carried-out-only r = by_way way
    where
      by_way : Way f → (formed f ≡ true) × (active (packed f) ≡ true)
      by_way (ill_formed e d) = never (cc (answer_of d))
      by_way (quiet e t d) = never (cc (answer_of d))
      by_way (carried_out e t d) = (e, t)

  -- a refusal changes no field
  pub refused-keeps : (why : RegistersRefusal) → (decided f).answer ≡ Err why → afterwards f ≡ f
  refused-keeps why r = by_way way
    where
      by_way : Way f → afterwards f ≡ f
      by_way (ill_formed e d) = ap (λ (x : Decision). with_gerrorn x.gerrorn f) d
      by_way (quiet e t d) = ap (λ (x : Decision). with_gerrorn x.gerrorn f) d
      by_way (carried_out e t d) = never (cc (answer_of d))

  -- otherwise GERRORN is GERROR, and every other field stays
  pub acknowledged-leaves : (decided f).answer ≡ Ok tt → afterwards f ≡ with_gerrorn f.gerror f
  acknowledged-leaves r =
      let p = carried-out-only r in
      ap (λ (x : Decision). with_gerrorn x.gerrorn f) (carried-out p.0 p.1)

  -- two outcomes allowed for the same fields are equal
  pub one-outcome : (f₁ f₂ : Fields) (r₁ r₂ : Result ⊤ RegistersRefusal) → Acknowledges f f₁ r₁ → Acknowledges f f₂ r₂ → (f₁ ≡ f₂) × (r₁ ≡ r₂)
  one-outcome f₁ f₂ r₁ r₂ p q = (p.leaves ∙ sym q.leaves, p.answers ∙ sym q.answers)

-- acknowledging by the control word: its answer, and the word that it leaves
abbrev pub word_answer : ℕ → Result ⊤ RegistersRefusal
word_answer w = pick (not (well_formed w)) (Err IllFormed) (pick (not (active w)) (Err NoError) (Ok tt))

abbrev pub word_after : ℕ → ℕ
word_after w = pick (well_formed w && active w) (acknowledged w) w

module _ (f : Fields) (p : fits f ≡ true) where
  abbrev w : ℕ
  w = packed f

  same-gerror : gerror w ≡ f.gerror
  unfolding fields_of
  same-gerror = ap (λ (x : Fields). x.gerror) (unpacked f p)

  same-gerrorn : gerrorn w ≡ f.gerrorn
  unfolding fields_of
  same-gerrorn = ap (λ (x : Fields). x.gerrorn) (unpacked f p)

  -- an error is active in the word as it is in the fields, and the fields are formed as the word is
  pub same-active : active w ≡ not (eqb f.gerror f.gerrorn)
  unfolding active
  same-active = rw (same-gerror, same-gerrorn)

  pub same-formed : formed f ≡ well_formed w
  unfolding formed
  same-formed = rw p

  stored-lt : acknowledged w < 2 ^ 64
  unfolding acknowledged
  stored-lt = set_lt gerrorn_bits (gerror w) w tt (packed_lt f)

  -- GERRORN made equal to GERROR in the fields is the store to the word
  pub same_store : packed (with_gerrorn f.gerror f) ≡ acknowledged w
  unfolding fields_of
  same_store =
      let kept : fields_of (acknowledged w) ≡ with_gerrorn (gerror w) (fields_of w) =
      rw (
        acknowledged-keeps w rd_bits tt,
        acknowledged-keeps w wr_bits tt,
        acknowledged-keeps w err_bits tt,
        acknowledged-keeps w gerror_bits tt,
        acknowledged-sets w,
        acknowledged-keeps w cmdqen_bits tt,
        acknowledged-keeps w log2size_bits tt,
        acknowledged-keeps w pending_bits tt,
      ) in
      ap (λ (x : Fields). packed (with_gerrorn x.gerror x)) (sym (unpacked f p)) ∙ sym (ap packed kept)
      ∙ packed-again (acknowledged w) (below (acknowledged w) stored-lt (acknowledged-keeps w zero_bits tt ∙ packed_zero f))

  -- so the lent fields and the word agree, refusals too
  pub agree : ((decided f).answer ≡ word_answer w) × (packed (afterwards f) ≡ word_after w)
  agree = by_way (way f)
    where
      after : {d : Decision} → decided f ≡ d → packed (afterwards f) ≡ packed (with_gerrorn d.gerrorn f)
      after e = ap (λ (x : Decision). packed (with_gerrorn x.gerrorn f)) e

      by_way : Way f → ((decided f).answer ≡ word_answer w) × (packed (afterwards f) ≡ word_after w)
      by_way (ill_formed e d) = let t = sym same-formed ∙ e in (answer_of d ∙ rw t, after d ∙ rw t)
      by_way (quiet e a d) = let t = sym same-formed ∙ e in (answer_of d ∙ rw (t, a), after d ∙ rw (t, a))
      by_way (carried_out e a d) = let t = sym same-formed ∙ e in (answer_of d ∙ rw (t, a), after d ∙ same_store ∙ rw (t, a))

-- the same, from the word: the fields of any word fit
module _ (w : ℕ) where
  pub fields_fit : fits (fields_of w) ≡ true
  unfolding fields_of
  fields_fit =
      is_fit (fields_of w)
      (record {
        rd = part_lt rd_bits w;
        wr = part_lt wr_bits w;
        err = part_lt err_bits w;
        gerror = part_lt gerror_bits w;
        gerrorn = part_lt gerrorn_bits w;
        cmdqen = part_lt cmdqen_bits w;
        log2size = part_lt log2size_bits w;
        pending = part_lt pending_bits w;
      })

  pub agree-from : w < 2 ^ 56 → ((decided (fields_of w)).answer ≡ word_answer w) × (packed (afterwards (fields_of w)) ≡ word_after w)
  agree-from small =
      let same = packed-again w small in
      let both = agree (fields_of w) fields_fit in
      (both.0 ∙ ap word_answer same, both.1 ∙ ap word_after same)

  -- every well-formed word is such a word
  pub formed-lt : w < 2 ^ 64 → well_formed w ≡ true → w < 2 ^ 56
  formed-lt h e = below w h (control.formed w e).zeroes

-- fields that make a well-formed word make one afterwards, and an acknowledged error is not acknowledged twice
module _ (f : Fields) (e : formed f ≡ true) where
  fits-first : fits f ≡ true
  unfolding formed
  fits-first = left (fits f) (well_formed (packed f)) e

  -- the fields that carrying out leaves
  abbrev f' : Fields
  f' = with_gerrorn f.gerror f

  pub stored-formed : formed f' ≡ true
  unfolding formed
  stored-formed =
      let h = fit f fits-first in
      and_true
      (is_fit f' (record { rd = h.rd; wr = h.wr; err = h.err; gerror = h.gerror; gerrorn = h.gerror; cmdqen = h.cmdqen; log2size = h.log2size; pending = h.pending }))
      (ap well_formed (same_store f fits-first)
      ∙ control.is_formed (acknowledged (packed f)) (acknowledged-formed (packed f) (control.formed (packed f) (right (fits f) (well_formed (packed f)) e))))

  pub stays-formed : formed (afterwards f) ≡ true
  stays-formed = by_way (way f)
    where
      by_way : Way f → formed (afterwards f) ≡ true
      by_way (ill_formed n d) = clash e n
      by_way (quiet n t d) = rw d e
      by_way (carried_out n t d) = rw d stored-formed

  pub again : active (packed f) ≡ true → decided (afterwards f) ≡ refused NoError (afterwards f)
  again t =
      rw (carried-out f e t)
      (no-error f' stored-formed (ap active (same_store f fits-first) ∙ acknowledged-quiet (packed f)))

-- What is said of a command that is asked for, from what decoding says of it: it fits exactly if it is read back.
-- Assumes nothing.
use mathlib.Core.Path.{◌≡◌, refl, sym, ap, ◌∙◌}
use mathlib.Core.Bool.{Bool, true, false, not, ◌&&◌, ◌||◌}
use mathlib.Core.List.{List}
use Prim.Native.Nat.{ℕ, ◌^◌, ◌<◌}
use native.Mathlib.Omega.{arith}
use lib.Dec.{eqb, ltb}
use lib.ListN.{length, get_or}
use borrow.Author.Tests.{eqb-true, eq-eqb, ne_eqb, ltb-true, lt-ltb}
use Rattle.words.specs.Choice.{pick}
use Rattle.words.specs.Outcomes.{Gives, with}
use Rattle.words.specs.Parts.{joined}
use Rattle.words.specs.Ranges.{all, width}
use Rattle.words.specs.Search.{place_of}
use Rattle.words.proofs.Outcomes.{gives}
use Rattle.words.proofs.Truth.{same_test}
use Rattle.words.proofs.Table.{all-at, at_all}
use Rattle.commands.specs.declared.Features.{Features}
use Rattle.commands.specs.declared.Command.{Command}
use Rattle.commands.specs.declared.Reason.{Reason}
use Rattle.commands.specs.declared.Reason.TheVariants.{UnknownCode, FeatureAbsent, ReservedBit, BadParameter}
use Rattle.commands.specs.declared.Decoded.{Decoded}
use Rattle.commands.specs.declared.Decoded.TheVariants.{Legal, Illegal}
use Rattle.commands.specs.Formats.{code_bits, codes, how_many}
use Rattle.commands.specs.Decoding.{code_of, known_code, feature_present, command_of, is_legal, decode}
use Rattle.commands.proofs.Legality.{Tests, legal-means}
use Rattle.commands.proofs.Reasons.{tells, tells_legal, feature-absent, is-legal, legal}
use Rattle.commands.specs.declared.Coded.{Coded}
use Rattle.writer.specs.declared.Fault.{Fault}
use Rattle.writer.specs.declared.Fault.TheVariants.{Missing, Unfit}
use Rattle.std.specs.Prelude.{Err, Ok, Result}
use Rattle.writer.specs.declared.WriteRefusal.{WriteRefusal}
use Rattle.writer.specs.declared.WriteRefusal.TheVariants.{BadSlot, Bad}
use Rattle.writer.specs.Layouts.{wide, layout_of, width_at, read_at, fields_of}
use Rattle.writer.specs.Writing.{asked, encoded, split, read_back, is_absent, lacks, fits, judged, slot_size, with_command, by_verdict, write}
use Rattle.writer.proofs.ByCode.{whole_split}
use Rattle.writer.proofs.Reading.{reads, read_fits}
use Rattle.writer.proofs.Lines.{says, is_sound}

-- what a legal command says of itself
pub record Told (f : Features) (lo hi : ℕ) (m : Command) : Type 0 where
  pub tests : Tests f (joined lo hi)
  pub is_command : m ≡ command_of (code_of (joined lo hi)) (joined lo hi)

pub told : (f : Features) (lo hi : ℕ) (m : Command) → decode f lo hi ≡ Legal m → Told f lo hi m
told f lo hi m e =
    let c = joined lo hi in
    let on : is_legal f c ≡ true = is-legal f lo hi ∙ ap tells_legal e in
    let is = legal f lo hi on in
    record { tests = legal-means f c on; is_command = cc }

-- the words a and d agree in place k
abbrev pub agree : List ℕ → List ℕ → ℕ → Bool
agree a d k = eqb (get_or a k 0) (get_or d k 0)

module _ (f : Features) (d : List ℕ) where
  abbrev c : ℕ
  c = encoded d

  -- every field that fits is read back, the code among them
  pub field_back : (k : ℕ) → asked d k < 2 ^ width_at (layout_of (asked d 0)) k → read_at (layout_of (asked d 0)) c k ≡ asked d k
  unfolding encoded
  field_back k h = reads d k (layout_of (asked d 0)) 0 (is_sound (asked d 0)).tidied h

  module _ (m : Command) (e : read_back f d ≡ Legal m) where
    is-told : Told f (split c).lo (split c).hi m
    unfolding read_back
    is-told = told f (split c).lo (split c).hi m e

    known : known_code c ≡ true
    known = ap known_code (sym (whole_split c)) ∙ is-told.tests.known

    is-of : m ≡ command_of (code_of c) c
    is-of = is-told.is_command ∙ ap (λ (n : ℕ). command_of (code_of n) n) (whole_split c)

    -- the words that ask for it are what the command says
    pub read_as : (k : ℕ) → k < wide → asked (fields_of m) k ≡ read_at (layout_of (code_of c)) c k
    read_as k h = ap (λ (x : Command). asked (fields_of x) k) is-of ∙ says c known k h

    agreed-fits : all wide (agree (fields_of m) d) ≡ true → fits d ≡ true
    unfolding fits
    agreed-fits t =
        let each : (k : ℕ) → k < wide → asked d k ≡ read_at (layout_of (code_of c)) c k =
        λ k h. sym (eqb-true (asked (fields_of m) k) (asked d k) (all-at wide (agree (fields_of m) d) t k h)) ∙ read_as k h in
        let code : asked d 0 ≡ code_of c = each 0 (omega arith) in
        at_all wide (λ k. ltb (asked d k) (2 ^ width_at (layout_of (asked d 0)) k))
        (λ k h. lt-ltb (asked d k) (2 ^ width_at (layout_of (asked d 0)) k) (rw (code, each k h) (read_fits (layout_of (code_of c)) c k)))

    fits-agreed : fits d ≡ true → all wide (agree (fields_of m) d) ≡ true
    unfolding fits
    fits-agreed t =
        let each : (k : ℕ) → k < wide → asked d k < 2 ^ width_at (layout_of (asked d 0)) k =
        λ k h. ltb-true (asked d k) (2 ^ width_at (layout_of (asked d 0)) k) (all-at wide (λ n. ltb (asked d n) (2 ^ width_at (layout_of (asked d 0)) n)) t k h) in
        let code : code_of c ≡ asked d 0 = field_back 0 (each 0 (omega arith)) in
        at_all wide (agree (fields_of m) d)
        (λ k h. eq-eqb (asked (fields_of m) k) (asked d k) (read_as k h ∙ ap (λ (x : ℕ). read_at (layout_of x) c k) code ∙ field_back k (each k h)))

    pub same-fits : all wide (agree (fields_of m) d) ≡ fits d
    same-fits = same_test (all wide (agree (fields_of m) d)) (fits d) agreed-fits fits-agreed

  -- as the code comes to each answer
  module _ (x : Coded) (r : Decoded) (coded : x ≡ split (encoded d)) (read : r ≡ decode f x.lo x.hi) where
    back : read_back f d ≡ r
    unfolding read_back
    back = ap (λ (y : Coded). decode f y.lo y.hi) (sym coded) ∙ sym read

    module _ (m : Command) (w : List ℕ) (b : Bool) (is : r ≡ Legal m) (asks : w ≡ fields_of m) (same : b ≡ all wide (agree w d)) where
      pub tells-fit : b ≡ true → Ok x ≡ judged f d
      unfolding judged lacks
      tells-fit e =
          let all_fit : fits d ≡ true = sym (same-fits m (back ∙ is)) ∙ rw asks at (sym same ∙ e) in
          rw (back, is, all_fit, coded) (no-matter (ltb (asked d 0) (2 ^ width code_bits)))
        where
          no-matter : (a : Bool) → Ok (split (encoded d)) ≡ pick (a && false) (Err Missing) (Ok (split (encoded d)))
          no-matter true = refl
          no-matter false = refl

      pub tells-wide : b ≡ false → Err Unfit ≡ judged f d
      unfolding judged lacks
      tells-wide e =
          let none : fits d ≡ false = sym (same-fits m (back ∙ is)) ∙ rw asks at (sym same ∙ e) in
          rw (back, is, none) (no-matter (ltb (asked d 0) (2 ^ width code_bits)))
        where
          no-matter : (a : Bool) → ◌≡◌ {A = Result Coded Fault} (Err Unfit) (pick (a && false) (Err Missing) (Err Unfit))
          no-matter true = refl
          no-matter false = refl

    module _ (why : Reason) (t : Bool) (is : r ≡ Illegal why) (absent : t ≡ is_absent (Illegal why)) where
      pub tells-missing : (ltb (asked d 0) (2 ^ width code_bits) && t) ≡ true → Err Missing ≡ judged f d
      unfolding judged lacks
      tells-missing e = rw (back, is, rw absent at e)

      pub tells-illegal : (ltb (asked d 0) (2 ^ width code_bits) && t) ≡ false → Err Unfit ≡ judged f d
      unfolding judged lacks
      tells-illegal e = rw (back, is, rw absent at e) (no-matter (fits d))
        where
          no-matter : (a : Bool) → Err Unfit ≡ pick (not a || true) (Err Unfit) (Ok (split (encoded d)))
          no-matter true = refl
          no-matter false = refl

-- writing, case by case
module _ (f : Features) (d slot : List ℕ) where
  pub no_slot : (length slot ≡ slot_size → ⊥) → Gives (write f d slot) slot (Err BadSlot)
  unfolding write
  no_slot n = gives (rw (ne_eqb (length slot) slot_size n))

  module _ (v : Result Coded Fault) (said : v ≡ judged f d) (long : length slot ≡ slot_size) where
    pub no-command : (why : Fault) → v ≡ Err why → Gives (write f d slot) slot (Err (Bad why))
    unfolding write
    no-command why e = gives (rw (eq-eqb (length slot) slot_size long, ← said, e))

    pub writes : (x : Coded) (l : List ℕ) → v ≡ Ok x → l ≡ with_command slot 0 x → Gives (write f d slot) l (Ok tt)
    unfolding write
    writes x l e leaves = gives (rw (eq-eqb (length slot) slot_size long, ← said, e, leaves))

pub writing : (f : Features) (d slot : List ℕ) (x : Coded) → length slot ≡ slot_size → judged f d ≡ Ok x → write f d slot ≡ with (Ok tt) (with_command slot 0 x)
unfolding write
writing f d slot x long e = rw (eq-eqb (length slot) slot_size long, e)

-- written only where the slot is one and the command fits
pub record Wrote (f : Features) (d slot : List ℕ) : Type 0 where
  pub long : length slot ≡ slot_size
  pub coded : Coded
  pub fit : judged f d ≡ Ok coded
  pub leaves : (write f d slot).memory ≡ with_command slot 0 coded

pub wrote : (f : Features) (d slot : List ℕ) → (write f d slot).answer ≡ Ok tt → Wrote f d slot
unfolding write
wrote f d slot e = by_tests (eqb (length slot) slot_size) (judged f d) refl refl e
  where
    by_tests : (b : Bool) (v : Result Coded Fault) → eqb (length slot) slot_size ≡ b → judged f d ≡ v
        → (pick (not b) (with (Err BadSlot) slot) (by_verdict slot v)).answer ≡ Ok tt → Wrote f d slot
    by_tests false v p q w = let z : ◌≡◌ {A = ℕ} 0 1 = cc in absurd (omega arith)
    by_tests true (Err why) p q w = let z : ◌≡◌ {A = ℕ} 0 1 = cc in absurd (omega arith)
    by_tests true (Ok x) p q w = record { long = eqb-true (length slot) slot_size p; coded = x; fit = q; leaves = rw (p, q) }

-- on a refusal nothing is written
pub refusal_leaves : (f : Features) (d slot : List ℕ) (why : WriteRefusal) → (write f d slot).answer ≡ Err why → (write f d slot).memory ≡ slot
unfolding write
refusal_leaves f d slot why e = by_tests (eqb (length slot) slot_size) (judged f d) e
  where
    by_tests : (b : Bool) (v : Result Coded Fault) → (pick (not b) (with (Err BadSlot) slot) (by_verdict slot v)).answer ≡ Err why
        → (pick (not b) (with (Err BadSlot) slot) (by_verdict slot v)).memory ≡ slot
    by_tests false v w = refl
    by_tests true (Err fault) w = refl
    by_tests true (Ok x) w = let z : ◌≡◌ {A = ℕ} 0 1 = cc in absurd (omega arith)

-- 20 goes by the code alone: it is known, and what it needs is not there
absent_told : (r : Decoded) → is_absent r ≡ tells FeatureAbsent r
absent_told (Legal m) = refl
absent_told (Illegal UnknownCode) = refl
absent_told (Illegal FeatureAbsent) = refl
absent_told (Illegal ReservedBit) = refl
absent_told (Illegal BadParameter) = refl

pub lacks_by_code : (f : Features) (d : List ℕ)
    → lacks f d ≡ (ltb (asked d 0) (2 ^ width code_bits) && (ltb (place_of codes (asked d 0)) how_many && not (feature_present f (asked d 0))))
unfolding lacks read_back known_code
lacks_by_code f d = by_test (ltb (asked d 0) (2 ^ width code_bits)) refl
  where
    c : Coded
    c = split (encoded d)

    by_test : (b : Bool) → ltb (asked d 0) (2 ^ width code_bits) ≡ b
        → (b && is_absent (decode f c.lo c.hi)) ≡ (b && (ltb (place_of codes (asked d 0)) how_many && not (feature_present f (asked d 0))))
    by_test false e = refl
    by_test true e =
        let code : code_of (joined c.lo c.hi) ≡ asked d 0 = ap code_of (whole_split (encoded d)) ∙ field_back f d 0 (ltb-true (asked d 0) (2 ^ width code_bits) e) in
        absent_told (decode f c.lo c.hi) ∙ feature-absent f c.lo c.hi
        ∙ ap (λ (x : ℕ). ltb (place_of codes x) how_many && not (feature_present f x)) code

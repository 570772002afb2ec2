-- What the scopes of 70 and 73 mean (document 02, T-11).
-- Assumes nothing.
use mathlib.Core.Path.{◌≡◌, refl, ap}
use mathlib.Core.Bool.{Bool, true, false, not, ◌&&◌}
use mathlib.Core.Logic.{⊎_elim}
use Prim.Native.Nat.{ℕ, ◌+◌, ◌%◌, ◌^◌, ◌≤◌, ◌<◌}
use native.Mathlib.Omega.{arith}
use lib.Dec.{eqb, leb}
use lib.ListN.{length}
use lib.Pow.{pow_pos, pow-lt}
use borrow.Author.Tests.{eqb-true, eq-eqb, le-leb, ltb-true, lt-ltb, not-true}
use Rattle.words.specs.Parts.{part}
use Rattle.words.specs.Ranges.{bits}
use Rattle.words.proofs.Parts.{part_lt}
use Rattle.words.proofs.Truth.{left, right, and_true, never, clash, less_or_not}
use Rattle.regions.specs.declared.Region.{Region}
use Rattle.regions.specs.Regions.{sizes, is_known, log2_size, bytes, is_last, size_code, base, extent, is_empty, address_bits}
use Rattle.regions.specs.Scopes.{size_of, address_of, names_region, lies_in, spared, in_all, in_region}
use Rattle.regions.proofs.Containing.{not-longer, each_in, in-each, never-partly, ends_below}
use Rattle.regions.proofs.Formed.{Formed}
use Rattle.regions.proofs.Sizes.{larger_code, small}

-- the byte at an address is one of the row's, or of the region that a command's fields give
pub record OfRow (row : Region) (x : ℕ) : Type 0 where
  pub from : base row ≤ x
  pub to : x < base row + extent row

pub record OfCommand (page size x : ℕ) : Type 0 where
  pub from : address_of page ≤ x
  pub to : x < address_of page + bytes (size_of size)

-- a row in the scope of 73, rule by rule
pub record Scoped (row : Region) (page size : ℕ) (leaf : Bool) : Type 0 where
  pub used : is_empty row ≡ false
  pub known : size_of size < length sizes
  pub aligned : address_of page % bytes (size_of size) ≡ 0
  pub inside : (x : ℕ) → OfRow row x → OfCommand page size x
  pub last : leaf ≡ true → is_last row ≡ true

module _ (page size : ℕ) where
  names : names_region page size ≡ true → (size_of size < length sizes) × (address_of page % bytes (size_of size) ≡ 0)
  unfolding names_region
  names e =
      let k = is_known (size_of size) in
      let m = eqb (address_of page % bytes (size_of size)) 0 in
      (ltb-true (size_of size) (length sizes) (left k m e), eqb-true (address_of page % bytes (size_of size)) 0 (right k m e))

  is_named : size_of size < length sizes → address_of page % bytes (size_of size) ≡ 0 → names_region page size ≡ true
  unfolding names_region
  is_named k m = and_true (lt-ltb (size_of size) (length sizes) k) (eq-eqb (address_of page % bytes (size_of size)) 0 m)

not_spared : (leaf last : Bool) → not (leaf && not last) ≡ true → leaf ≡ true → last ≡ true
not_spared true true e f = refl
not_spared true false e f = e
not_spared false last e f = clash f refl

kept-last : (leaf last : Bool) → (leaf ≡ true → last ≡ true) → not (leaf && not last) ≡ true
kept-last true last f = rw (f refl)
kept-last false last f = refl

passes-between : (g l : Bool) → (g && l) ≡ (g && true && true && l)
passes-between true l = refl
passes-between false l = refl

module _ (row : Region) (page size : ℕ) (leaf : Bool) where
  abbrev pub there : Bool
  there = lies_in (base row) (extent row) (address_of page) (bytes (size_of size))

  -- the tests of the definition, all passed
  record Tests : Type 0 where
    used : is_empty row ≡ false
    named : names_region page size ≡ true
    placed : there ≡ true
    last : leaf ≡ true → is_last row ≡ true

  tests : in_region row page size leaf ≡ true → Tests
  unfolding in_region
  tests e =
      let u = not (is_empty row) in
      let g = names_region page size in
      let s = leb (extent row) (bytes (size_of size)) in
      let l = not (spared row leaf) in
      let four = left (u && g && s && there) l e in
      let two = left (u && g) s (left (u && g && s) there four) in
      record {
        used = not-true (is_empty row) (left u g two);
        named = right u g two;
        placed = right (u && g && s) there four;
        last = not_spared leaf (is_last row) (right (u && g && s && there) l e);
      }

  -- in scope, exactly if the row is used, SIZE not Reserved, the address a multiple of it, every byte of the row in the region, and
  -- with Leaf 1 the row last-level
  pub scoped : in_region row page size leaf ≡ true → Scoped row page size leaf
  scoped e =
      let t = tests e in
      let n = names page size t.named in
      record {
        used = t.used;
        known = n.0;
        aligned = n.1;
        inside = λ x o. let r = each_in (base row) (extent row) (address_of page) (bytes (size_of size)) t.placed x o.from o.to in
            record { from = r.0; to = r.1 };
        last = t.last;
      }

  pub is-scoped : Scoped row page size leaf → in_region row page size leaf ≡ true
  unfolding in_region
  is-scoped s =
      let inside =
      in-each (base row) (extent row) (address_of page) (bytes (size_of size)) (pow_pos (log2_size (size_code row)))
      (λ x a b. let o = s.inside x (record { from = a; to = b }) in (o.from, o.to)) in
      let short = not-longer (base row) (extent row) (address_of page) (bytes (size_of size)) inside in
      and_true
      (and_true (and_true (and_true (ap not s.used) (is_named page size s.known s.aligned)) (le-leb (extent row) (bytes (size_of size)) short)) inside)
      (kept-last leaf (is_last row) s.last)

  -- the tests in the order of the code
  pub empty-stays : is_empty row ≡ true → in_region row page size leaf ≡ false
  empty-stays e = never (in_region row page size leaf) (λ t. clash e (tests t).used)

  pub elsewhere-stays : there ≡ false → in_region row page size leaf ≡ false
  elsewhere-stays e = never (in_region row page size leaf) (λ t. clash (tests t).placed e)

  pub there-goes : is_empty row ≡ false → there ≡ true → (names_region page size && not (spared row leaf)) ≡ in_region row page size leaf
  unfolding in_region
  there-goes used e =
      rw (used, e, le-leb (extent row) (bytes (size_of size)) (not-longer (base row) (extent row) (address_of page) (bytes (size_of size)) e))
      (passes-between (names_region page size) (not (spared row leaf)))

  -- a Reserved SIZE or an unaligned address removes nothing
  pub reserved-none : length sizes ≤ size_of size → in_region row page size leaf ≡ false
  reserved-none h = never (in_region row page size leaf) (λ t. omega (arith, (scoped t).known))

  pub unaligned-none : (address_of page % bytes (size_of size) ≡ 0 → ⊥) → in_region row page size leaf ≡ false
  unaligned-none d = never (in_region row page size leaf) (λ t. d (scoped t).aligned)

  pub unnamed-none : names_region page size ≡ false → in_region row page size leaf ≡ false
  unnamed-none e = never (in_region row page size leaf) (λ t. clash (tests t).named e)

  -- a row larger than SIZE stays, wherever the address is; and with Leaf 1 one that is not last-level
  pub larger-stays : bytes (size_of size) < extent row → in_region row page size leaf ≡ false
  larger-stays h =
      never (in_region row page size leaf) (λ t. omega (arith, not-longer (base row) (extent row) (address_of page) (bytes (size_of size)) (tests t).placed))

  pub larger-code-stays : size_of size < size_code row → size_code row < length sizes → in_region row page size leaf ≡ false
  larger-code-stays h known = larger-stays (larger_code (size_of size) (size_code row) h known)

  pub leaf-spares : leaf ≡ true → is_last row ≡ false → in_region row page size leaf ≡ false
  leaf-spares l e = never (in_region row page size leaf) (λ t. clash ((scoped t).last l) e)

  -- 70 removes whatever 73 does
  pub in-all-too : in_region row page size leaf ≡ true → in_all row ≡ true
  unfolding in_all
  in-all-too e = ap not (scoped e).used

-- Address bits 55:52 count as 0
same_address : (row : Region) (page page' size : ℕ) (leaf : Bool) → address_of page ≡ address_of page' → in_region row page size leaf ≡ in_region row page' size leaf
unfolding in_region names_region
same_address row page page' size leaf e = rw e

pub upper_bits : (row : Region) (page size : ℕ) (leaf : Bool) → in_region row (page % 2 ^ 40) size leaf ≡ in_region row page size leaf
unfolding part
upper_bits row page size leaf = same_address row (page % 2 ^ 40) page size leaf same
  where
    same : address_of (page % 2 ^ 40) ≡ address_of page
    same = omega arith

-- a named region ends within the addresses
pub region_ends_below : (page size : ℕ) → names_region page size ≡ true → address_of page + bytes (size_of size) ≤ 2 ^ address_bits
region_ends_below page size e =
    let n = names page size e in
    ends_below (log2_size (size_of size)) address_bits (address_of page) (omega (arith, small (size_of size) n.0)) n.1 (omega (arith, part_lt (bits 39 0) page))

-- A well-formed row of SIZE at most has all of its bytes in the region or none: whether one byte is asked for or all makes no difference.
pub never_in_part : (row : Region) (page size : ℕ) → Formed row → names_region page size ≡ true → extent row ≤ bytes (size_of size)
    → (x : ℕ) → OfRow row x → OfCommand page size x → (y : ℕ) → OfRow row y → OfCommand page size y
never_in_part row page size f e h x r c y s =
    let i = log2_size (size_code row) in
    let j = log2_size (size_of size) in
    let shorter : i ≤ j = ⊎_elim (λ l. absurd (omega (arith, pow-lt l))) (λ l. l) (less_or_not j i) in
    let all = never-partly i j (base row) (address_of page) shorter f.multiple (names page size e).1 x r.from r.to c.from c.to in
    let o = each_in (base row) (extent row) (address_of page) (bytes (size_of size)) all y s.from s.to in
    record { from = o.0; to = o.1 }

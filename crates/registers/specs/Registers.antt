-- Document 01, What goes between host and unit: the unpacked control fields, and acknowledging in place.
-- Assumes nothing.
use Rattle.std.specs.Prelude.{◌≡◌, Bool, not, ◌&&◌, ℕ, ◌+◌, ◌-◌, ◌^◌, List, [], ◌∷◌, ltb, Err, Ok, Result, ⊤}
use Rattle.words.specs.Choice.{pick}
use Rattle.words.specs.Ranges.{Range, bits, Field, puts}
use Rattle.control.specs.declared.Fields.{Fields}
use Rattle.control.specs.Control.{rd_bits, wr_bits, err_bits, gerror_bits, gerrorn_bits, cmdqen_bits, log2size_bits, pending_bits, active, well_formed}
use Rattle.registers.specs.declared.RegistersRefusal.{RegistersRefusal}
use Rattle.registers.specs.declared.RegistersRefusal.TheVariants.{IllFormed, NoError}
use Rattle.registers.specs.declared.Decision.{Decision}

-- the paper's numbers of the refusals
abbrev pub number : RegistersRefusal → ℕ
number IllFormed = 2
number NoError = 6

-- the number of the refusal that an answer is, or 0
abbrev pub given : Result ⊤ RegistersRefusal → ℕ
given (Err why) = number why
given (Ok tt) = 0

-- the word that the fields make, each in its part; what a field has above that part's width is left out
abbrev pub in_parts : Fields → List Field
in_parts f =
    record { at = rd_bits; value = f.rd }
    ∷ record { at = wr_bits; value = f.wr }
    ∷ record { at = err_bits; value = f.err }
    ∷ record { at = gerror_bits; value = f.gerror }
    ∷ record { at = gerrorn_bits; value = f.gerrorn }
    ∷ record { at = cmdqen_bits; value = f.cmdqen }
    ∷ record { at = log2size_bits; value = f.log2size }
    ∷ record { at = pending_bits; value = f.pending }
    ∷ []

unfoldable pub packed : Fields → ℕ
packed f = puts (in_parts f) 0

-- a number is no wider than a range of bits
abbrev pub fits_in : Range → ℕ → Bool
fits_in (bits h l) v = ltb v (2 ^ (h + 1 - l))

unfoldable pub fits : Fields → Bool
fits f =
    fits_in rd_bits f.rd
    && fits_in wr_bits f.wr
    && fits_in err_bits f.err
    && fits_in gerror_bits f.gerror
    && fits_in gerrorn_bits f.gerrorn
    && fits_in cmdqen_bits f.cmdqen
    && fits_in log2size_bits f.log2size
    && fits_in pending_bits f.pending

-- the fields make a well-formed word: none of them is cut, and the word is well formed
unfoldable pub formed : Fields → Bool
formed f = fits f && well_formed (packed f)

-- the fields with another GERRORN
abbrev pub with_gerrorn : ℕ → Fields → Fields
with_gerrorn v f =
    record {
      rd = f.rd;
      wr = f.wr;
      err = f.err;
      gerror = f.gerror;
      gerrorn = v;
      cmdqen = f.cmdqen;
      log2size = f.log2size;
      pending = f.pending;
    }

-- refusal 2, else refusal 6, each with GERRORN as it is; else GERRORN becomes GERROR
unfoldable pub decided : Fields → Decision
decided f =
    pick (not (formed f)) (record { answer = Err IllFormed; gerrorn = f.gerrorn })
    (pick (not (active (packed f))) (record { answer = Err NoError; gerrorn = f.gerrorn })
    (record { answer = Ok tt; gerrorn = f.gerror }))

-- the fields then: all but GERRORN as they were
abbrev pub afterwards : Fields → Fields
afterwards f = with_gerrorn (decided f).gerrorn f

-- what acknowledging ensures of the fields f before and f' after it, and of its answer r
pub record Acknowledges (f f' : Fields) (r : Result ⊤ RegistersRefusal) : Type 0 where
  pub answers : r ≡ (decided f).answer
  pub leaves : f' ≡ afterwards f

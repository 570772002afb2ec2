-- Ranges of bits, and words that use no others.
-- Assumes nothing.
use Rattle.std.specs.Prelude.{ℕ, zero, suc, ◌+◌, ◌-◌, Bool, true, false, not, ◌&&◌, ◌||◌, List, [], ◌∷◌, leb}
use Rattle.words.specs.Parts.{part, is_set, put}

-- bits h down to l
pub data Range : Type 0 where
  bits : ℕ → ℕ → Range

-- the number in them, and the word with another number in them
abbrev pub get : Range → ℕ → ℕ
get (bits h l) w = part h l w

abbrev pub set : Range → ℕ → ℕ → ℕ
set (bits h l) v w = put h l v w

-- how many bits it has
abbrev pub width : Range → ℕ
width (bits h l) = h + 1 - l

-- a range and a number for it; and the word with several of them put, one after the other
pub record Field : Type 0 where
  pub at : Range
  pub value : ℕ

abbrev pub puts : List Field → ℕ → ℕ
puts [] w = w
puts (f ∷ fs) w = puts fs (set f.at f.value w)

-- bit i lies in one of the ranges
abbrev pub named : List Range → ℕ → Bool
named [] i = false
named (bits h l ∷ rs) i = (leb l i && leb i h) || named rs i

-- a test passes at each number below n
abbrev pub all : ℕ → (ℕ → Bool) → Bool
all zero p = true
all (suc n) p = p n && all n p

-- each of the lowest n bits of w that is set passes the test
unfoldable pub set_only : ℕ → (ℕ → Bool) → ℕ → Bool
set_only n p w = all n (λ i. not (is_set i w) || p i)

-- each bit of the word w that is set lies in one of the ranges
abbrev pub only_in : List Range → ℕ → Bool
only_in rs w = set_only 64 (named rs) w

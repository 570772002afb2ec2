-- What is told of the reply made is told of the reply that the definition gives.
-- Assumes nothing.
use mathlib.Core.Path.{◌≡◌, sym, ◌∙◌}
use mathlib.Core.List.{List}
use Prim.Native.Nat.{ℕ}
use Rattle.words.specs.Outcomes.{Outcome, with}
use Rattle.interface.specs.declared.Reply.{Reply}
use Rattle.host.specs.Told.{Told, Leaves}

module _ {answer' : List ℕ} {r : ℕ} {reply reply' : Reply} where
  pub tells : Told reply answer' r → reply ≡ reply' → Told reply' answer' r
  tells t e = rw (← e) t

  pub leaves : {M : Type 0} {m m' : M} → Told reply answer' r → reply ≡ reply' → m' ≡ m → Leaves (with reply' m) m' answer' r
  leaves t e k = record { told = tells t e; kept = k }

-- two outcomes that a contract allows are equal
pub told-pinned : {reply : Reply} {a a' : List ℕ} {r r' : ℕ} → Told reply a r → Told reply a' r' → (r ≡ r') × (a ≡ a')
told-pinned t t' = (t.number ∙ sym t'.number, t.words ∙ sym t'.words)

pub pinned : {M : Type 0} {o : Outcome M Reply} {m m' : M} {a a' : List ℕ} {r r' : ℕ} → Leaves o m a r → Leaves o m' a' r' → ((r ≡ r') × (a ≡ a')) × (m ≡ m')
pinned l l' = (told-pinned l.told l'.told, l.kept ∙ sym l'.kept)

-- `image_state::state_in` meets its contract.
-- Assumes nothing.
use mathlib.Core.Path.{sym, ap, ◌∙◌}
use Rattle.image_state.specs.States.{state_of}
use Rattle.image_state.proofs.Laws.{broken, whole, too_long}
use Rattle.image_state.proofs.state_in.Goals as goal

pub returns-then-bytes-n : goal.returns-then-bytes-n
returns-then-bytes-n c = sym (broken _ c.if-bytes-n.true)

pub returns-then-n-gt-WORDS : goal.returns-then-n-gt-WORDS
returns-then-n-gt-WORDS c = sym (too_long _ c.if-bytes-n.false c.if-n-gt-WORDS.true)

pub returns : goal.returns
returns c = c.state_of.ensures ∙ ap state_of c.gather.ensures ∙ sym (whole _ c.if-bytes-n.false)

-- `words::store_at` meets its contract: the eight stores are those of the word's bytes.
-- Assumes nothing.
use mathlib.Core.Path.{◌≡◌, ◌∙◌}
use Rattle.words.specs.Bytes.{bytes_of, with_word}
use Rattle.words.proofs.Bytes.{to_eight, eight_stores}
use Rattle.words.proofs.store_at.Goals as goal

pub returns : goal.returns
unfolding with_word
returns c =
    let bytes : c.to_le_bytes-word.result ≡ bytes_of 8 c.args.w = c.to_le_bytes-word.ensures ∙ to_eight c.args.w in
    rw bytes (eight_stores c.args.bytes.now c.args.at _ _ _ _ _ _ _ _)

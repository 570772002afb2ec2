-- `commands::feature_bits::features_of` meets its contract.
-- Assumes nothing.
use Rattle.words.specs.Parts.{part, is_set}
use Rattle.commands.specs.FeatureBits.{features_of}
use Rattle.commands.proofs.feature_bits.features_of.Goals as goal

pub returns : goal.returns
unfolding part is_set features_of
returns c = cc

-- `commands::decoding::decode` meets its contract: each test that fails answers its reason.
-- Assumes nothing.
use Rattle.commands.proofs.Deciding.{tells-unknown, tells-absent, tells-reserved, tells-parameter, tells-legal}
use Rattle.commands.proofs.decoding.decode.Goals as goal

pub returns-then-k-ge-CODES : goal.returns-then-k-ge-CODES
returns-then-k-ge-CODES c = search tells-unknown

pub returns-then-not-feature_present : goal.returns-then-not-feature_present
returns-then-not-feature_present c = search tells-absent

pub returns-then-not-clean : goal.returns-then-not-clean
returns-then-not-clean c = search tells-reserved

pub returns-then-not-parameter_good : goal.returns-then-not-parameter_good
returns-then-not-parameter_good c = search tells-parameter

pub returns : goal.returns
returns c = search tells-legal

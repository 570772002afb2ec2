-- The starred bench cases hold of the definitions, by one computed test.
-- Assumes nothing.
use mathlib.Core.Path.{◌≡◌, refl}
use mathlib.Core.Bool.{true}
use Rattle.words.specs.Parts.{part, is_set, put, joined}
use Rattle.words.specs.Ranges.{set_only}
use Rattle.indexes.specs.Indexes as indexes
use Rattle.control.specs.Control as control
use Rattle.control_stores.specs.Stores as stores
use Rattle.combining.specs.Combining as combining
use Rattle.commands.specs.Decoding as decoding
use Rattle.scopes.specs.Scopes as scopes
use Rattle.promises.specs.Bench.{starred, agree}

pub bench : agree starred ≡ true
unfolding part is_set put joined set_only indexes.distance indexes.slot indexes.next indexes.in_range indexes.well_formed control.active control.well_formed control.standing control.distance control.slot stores.consumed combining.combine combining.number combining.mem_attr_of combining.sh_of decoding.known_code decoding.feature_present decoding.clean decoding.parameter_good decoding.is_legal decoding.command_of decoding.decode scopes.ste_of scopes.cd_of scopes.stage_of scopes.removes scopes.in_regime scopes.too_wide scopes.idle scopes.in_scope
bench = refl

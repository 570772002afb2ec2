-- `commands::decoding::feature_present` meets its contract.
-- Assumes nothing.
use Rattle.commands.specs.Decoding.{feature_present}
use Rattle.commands.proofs.Codes.{last-present}
use Rattle.commands.proofs.decoding.feature_present.Goals as goal

pub returns-in-5 : goal.returns-in-5
unfolding feature_present
returns-in-5 c = rw c.in-5.is

pub returns-in-33 : goal.returns-in-33
unfolding feature_present
returns-in-33 c = rw c.in-33.is

pub returns-in-42 : goal.returns-in-42
unfolding feature_present
returns-in-42 c = rw c.in-42.is

pub returns-in-112 : goal.returns-in-112
unfolding feature_present
returns-in-112 c = rw c.in-112.is

pub returns-in_default : goal.returns-in_default
returns-in_default c = last-present c.args.f c.args.code c.in_default.in_default-own.rest

pub returns-in-1 : goal.returns-in-1
unfolding feature_present
returns-in-1 c = rw c.in-1.is

pub returns-in-2 : goal.returns-in-2
unfolding feature_present
returns-in-2 c = rw c.in-2.is

pub returns-in-3 : goal.returns-in-3
unfolding feature_present
returns-in-3 c = rw c.in-3.is

pub returns-in-4 : goal.returns-in-4
unfolding feature_present
returns-in-4 c = rw c.in-4.is

pub returns-in-6 : goal.returns-in-6
unfolding feature_present
returns-in-6 c = rw c.in-6.is

pub returns-in-16 : goal.returns-in-16
unfolding feature_present
returns-in-16 c = rw c.in-16.is

pub returns-in-17 : goal.returns-in-17
unfolding feature_present
returns-in-17 c = rw c.in-17.is

pub returns-in-18 : goal.returns-in-18
unfolding feature_present
returns-in-18 c = rw c.in-18.is

pub returns-in-19 : goal.returns-in-19
unfolding feature_present
returns-in-19 c = rw c.in-19.is

pub returns-in-32 : goal.returns-in-32
unfolding feature_present
returns-in-32 c = rw c.in-32.is

pub returns-in-34 : goal.returns-in-34
unfolding feature_present
returns-in-34 c = rw c.in-34.is

pub returns-in-35 : goal.returns-in-35
unfolding feature_present
returns-in-35 c = rw c.in-35.is

pub returns-in-40 : goal.returns-in-40
unfolding feature_present
returns-in-40 c = rw c.in-40.is

pub returns-in-48 : goal.returns-in-48
unfolding feature_present
returns-in-48 c = rw c.in-48.is

pub returns-in-70 : goal.returns-in-70
unfolding feature_present
returns-in-70 c = rw c.in-70.is

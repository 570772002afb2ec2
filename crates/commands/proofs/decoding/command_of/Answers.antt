-- `commands::decoding::command_of` meets its contract: at each code the fields are the command's.
-- Assumes nothing.
use Rattle.commands.proofs.Commands.{is-01, is-02, is-03, is-04, is-05, is-06, is-10, is-11, is-12, is-13, is-20, is-21, is-22, is-23, is-28, is-2A, is-30, is-46, is-70, is-73}
use Rattle.commands.proofs.decoding.command_of.Goals as goal

pub returns-in-1 : goal.returns-in-1
returns-in-1 c = search is-01

pub returns-in-2 : goal.returns-in-2
returns-in-2 c = search is-02

pub returns-in-3 : goal.returns-in-3
returns-in-3 c = search is-03

pub returns-in-4 : goal.returns-in-4
returns-in-4 c = search is-04

pub returns-in-5 : goal.returns-in-5
returns-in-5 c = search is-05

pub returns-in-6 : goal.returns-in-6
returns-in-6 c = search is-06

pub returns-in-16 : goal.returns-in-16
returns-in-16 c = search is-10

pub returns-in-17 : goal.returns-in-17
returns-in-17 c = search is-11

pub returns-in-18 : goal.returns-in-18
returns-in-18 c = search is-12

pub returns-in-19 : goal.returns-in-19
returns-in-19 c = search is-13

pub returns-in-32 : goal.returns-in-32
returns-in-32 c = search is-20

pub returns-in-33 : goal.returns-in-33
returns-in-33 c = search is-21

pub returns-in-34 : goal.returns-in-34
returns-in-34 c = search is-22

pub returns-in-35 : goal.returns-in-35
returns-in-35 c = search is-23

pub returns-in-40 : goal.returns-in-40
returns-in-40 c = search is-28

pub returns-in-42 : goal.returns-in-42
returns-in-42 c = search is-2A

pub returns-in-48 : goal.returns-in-48
returns-in-48 c = search is-30

pub returns-in-70 : goal.returns-in-70
returns-in-70 c = search is-46

pub returns-in-112 : goal.returns-in-112
returns-in-112 c = search is-70

pub returns-in_default : goal.returns-in_default
returns-in_default c = search is-73

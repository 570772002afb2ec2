-- `writer::encoding::encode` meets its contract: at each code its fields are put, one after the other.
-- Assumes nothing.
use Rattle.writer.proofs.ByCode.{has-03, has-04, has-05, has-06, has-10, has-11, has-12, has-13, has-21, has-22, has-23, has-28, has-2A, has-46, has-73, has-none}
use Rattle.writer.proofs.encoding.encode.Goals as goal

pub returns-in-3 : goal.returns-in-3
returns-in-3 c = search has-03

pub returns-in-4 : goal.returns-in-4
returns-in-4 c = search has-04

pub returns-in-5 : goal.returns-in-5
returns-in-5 c = search has-05

pub returns-in-6 : goal.returns-in-6
returns-in-6 c = search has-06

pub returns-in-16 : goal.returns-in-16
returns-in-16 c = search has-10

pub returns-in-17 : goal.returns-in-17
returns-in-17 c = search has-11

pub returns-in-18 : goal.returns-in-18
returns-in-18 c = search has-12

pub returns-in-19 : goal.returns-in-19
returns-in-19 c = search has-13

pub returns-in-33 : goal.returns-in-33
returns-in-33 c = search has-21

pub returns-in-34 : goal.returns-in-34
returns-in-34 c = search has-22

pub returns-in-35 : goal.returns-in-35
returns-in-35 c = search has-23

pub returns-in-40 : goal.returns-in-40
returns-in-40 c = search has-28

pub returns-in-42 : goal.returns-in-42
returns-in-42 c = search has-2A

pub returns-in-70 : goal.returns-in-70
returns-in-70 c = search has-46

pub returns-in-115 : goal.returns-in-115
returns-in-115 c = search has-73

pub returns-in_default : goal.returns-in_default
returns-in_default c = search has-none

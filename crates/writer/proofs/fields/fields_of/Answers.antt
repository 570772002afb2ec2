-- `writer::fields::fields_of` meets its contract: each command's words are those that ask for it.
-- Assumes nothing.
use Rattle.writer.proofs.Asking.{of-01, of-02, of-03, of-04, of-05, of-06, of-10, of-11, of-12, of-13, of-20, of-21, of-22, of-23, of-28, of-2A, of-30, of-46, of-70, of-73}
use Rattle.writer.proofs.fields.fields_of.Goals as goal

pub returns-in-PrefetchConfig : goal.returns-in-PrefetchConfig
returns-in-PrefetchConfig c = search of-01

pub returns-in-PrefetchAddr : goal.returns-in-PrefetchAddr
returns-in-PrefetchAddr c = search of-02

pub returns-in-CfgiSte : goal.returns-in-CfgiSte
returns-in-CfgiSte c = search of-03

pub returns-in-CfgiSteRange : goal.returns-in-CfgiSteRange
returns-in-CfgiSteRange c = search of-04

pub returns-in-CfgiCd : goal.returns-in-CfgiCd
returns-in-CfgiCd c = search of-05

pub returns-in-CfgiCdAll : goal.returns-in-CfgiCdAll
returns-in-CfgiCdAll c = search of-06

pub returns-in-TlbiNhAll : goal.returns-in-TlbiNhAll
returns-in-TlbiNhAll c = search of-10

pub returns-in-TlbiNhAsid : goal.returns-in-TlbiNhAsid
returns-in-TlbiNhAsid c = search of-11

pub returns-in-TlbiNhVa : goal.returns-in-TlbiNhVa
returns-in-TlbiNhVa c = search of-12

pub returns-in-TlbiNhVaa : goal.returns-in-TlbiNhVaa
returns-in-TlbiNhVaa c = search of-13

pub returns-in-TlbiEl2All : goal.returns-in-TlbiEl2All
returns-in-TlbiEl2All c = search of-20

pub returns-in-TlbiEl2Asid : goal.returns-in-TlbiEl2Asid
returns-in-TlbiEl2Asid c = search of-21

pub returns-in-TlbiEl2Va : goal.returns-in-TlbiEl2Va
returns-in-TlbiEl2Va c = search of-22

pub returns-in-TlbiEl2Vaa : goal.returns-in-TlbiEl2Vaa
returns-in-TlbiEl2Vaa c = search of-23

pub returns-in-TlbiS12Vmall : goal.returns-in-TlbiS12Vmall
returns-in-TlbiS12Vmall c = search of-28

pub returns-in-TlbiS2Ipa : goal.returns-in-TlbiS2Ipa
returns-in-TlbiS2Ipa c = search of-2A

pub returns-in-TlbiNsnhAll : goal.returns-in-TlbiNsnhAll
returns-in-TlbiNsnhAll c = search of-30

pub returns-in-Sync : goal.returns-in-Sync
returns-in-Sync c = search of-46

pub returns-in-DptiAll : goal.returns-in-DptiAll
returns-in-DptiAll c = search of-70

pub returns-in-DptiPa : goal.returns-in-DptiPa
returns-in-DptiPa c = search of-73

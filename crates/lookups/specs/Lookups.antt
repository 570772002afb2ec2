-- Document 01, A transaction, and document 02, T-05: the row that answers a step.
-- Assumes nothing.
use Rattle.std.specs.Prelude.{ℕ, ◌+◌, Bool, ◌&&◌, ◌||◌, List, eqb, None, Option, Some}
use Rattle.words.specs.Search.{lowest}
use Rattle.rows.specs.declared.Row.{Row}
use Rattle.rows.specs.Rows as rows
use Rattle.image.specs.Image.{rows_in, row_at}
use Rattle.screens.specs.Places.{stream_mask, answer_mask, answer_vmid_mask, of_answer, of_vmid}
use Rattle.screens.specs.Screens.{under}
use Rattle.screens.specs.declared.Screen.{Screen}
use Rattle.screens.specs.declared.Screen.TheVariants.{Named, Covering}
use Rattle.lookups.specs.declared.Wanted.{Wanted}
use Rattle.lookups.specs.declared.Wanted.TheVariants.{Ste, Cd, Stage1, Stage2}

-- a row of the kind and the identifiers that a step wants; a stage 1 row has the ASID or is global, and a stage row covers the address
unfoldable pub fits : Wanted → Row → Bool
fits (Ste stream) row = eqb (rows.kind row) rows.ste && eqb (rows.stream row) stream
fits (Cd stream substream) row =
    eqb (rows.kind row) rows.cd && eqb (rows.stream row) stream && eqb (rows.substream row) substream
fits (Stage1 vmid asid address) row =
    eqb (rows.kind row) rows.stage1
    && eqb (rows.vmid row) vmid
    && (rows.is_global row || eqb (rows.asid row) asid)
    && rows.covers row address
fits (Stage2 vmid address) row =
    eqb (rows.kind row) rows.stage2 && eqb (rows.vmid row) vmid && rows.covers row address

-- only a last-level row answers, and none of the hypervisor's own
unfoldable pub answers : Wanted → Row → Bool
answers w row = rows.may_answer row && fits w row

unfoldable pub answers_at : List ℕ → Wanted → ℕ → Bool
answers_at m w i = answers w (row_at m i)

-- Document 02, T-13: what a row must be like to answer; no promise cites this
abbrev pub screen_of : Wanted → Screen
screen_of (Ste stream) = Named (under answer_mask (of_answer rows.ste)) (under stream_mask stream)
screen_of (Cd stream substream) = Named (under answer_mask (of_answer rows.cd)) (under stream_mask stream)
screen_of (Stage1 vmid asid address) = Covering (under answer_vmid_mask (of_answer rows.stage1 + of_vmid vmid)) address
screen_of (Stage2 vmid address) = Covering (under answer_vmid_mask (of_answer rows.stage2 + of_vmid vmid)) address

-- the place of the lowest-numbered such row
unfoldable pub find : List ℕ → Wanted → Option ℕ
find m w = lowest (answers_at m w) (rows_in m) 0

abbrev pub row_found : List ℕ → Option ℕ → Option Row
row_found m (Some i) = Some (row_at m i)
row_found m None = None

unfoldable pub look : List ℕ → Wanted → Option Row
look m w = row_found m (find m w)

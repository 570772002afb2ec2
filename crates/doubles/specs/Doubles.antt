-- Document 02, T-02 and T-05: which rows could answer the same lookup.
-- Assumes nothing.
use Rattle.std.specs.Prelude.{ℕ, ◌+◌, ◌-◌, ◌%◌, ◌^◌, Bool, true, false, ◌&&◌, ◌||◌, List, ◌==◌, bit_and, None, Option, Some}
use Rattle.words.specs.Choice.{pick}
use Rattle.words.specs.Spans.{overlap}
use Rattle.words.specs.Search.{lowest}
use Rattle.rows.specs.declared.Row.{Row}
use Rattle.rows.specs.Rows as rows
use Rattle.image.specs.Image.{row_at}
use Rattle.screens.specs.Places.{stream_mask, answer_mask, answer_vmid_mask, of_answer}
use Rattle.screens.specs.Screens.{under}
use Rattle.screens.specs.declared.Screen.{Screen}
use Rattle.screens.specs.declared.Screen.TheVariants.{Named, Reaching}

-- rows of one stream, and of one stream and substream
abbrev pub same_stream : Row → Row → Bool
same_stream a b = rows.stream a == rows.stream b

abbrev pub same_context : Row → Row → Bool
same_context a b = same_stream a b && rows.substream a == rows.substream b

-- rows that cover a common address, and such of one VMID
unfoldable pub shares_address : Row → Row → Bool
shares_address a b = overlap a.w2 (2 ^ rows.span a) b.w2 (2 ^ rows.span b)

abbrev pub shares_stage : Row → Row → Bool
shares_stage a b = rows.vmid a == rows.vmid b && shares_address a b

-- rows that take a common ASID
abbrev pub shares_asid : Row → Row → Bool
shares_asid a b = rows.asid a == rows.asid b || rows.is_global a || rows.is_global b

-- what two rows of one kind have in common, by the kind: STE, CD, stage 2, stage 1
unfoldable pub shares : Row → Row → Bool
shares a b =
    pick (rows.kind a == rows.ste) (same_stream a b)
    (pick (rows.kind a == rows.cd) (same_context a b)
    (pick (rows.kind a == rows.stage2) (shares_stage a b) (shares_stage a b && shares_asid a b)))

-- both are last-level and unmarked, of one kind, and could answer the same lookup
unfoldable pub collides : Row → Row → Bool
collides a b = rows.may_answer a && rows.may_answer b && rows.kind a == rows.kind b && shares a b

unfoldable pub collides_at : List ℕ → Row → ℕ → Bool
collides_at m words i = collides words (row_at m i)

-- Document 02, T-13: what a row must be like to collide with words that may answer; no promise cites these
abbrev pub more_bytes : Row → ℕ
more_bytes words = 2 ^ rows.span words - 1

unfoldable pub screen_of : Row → Screen
screen_of words =
    pick (rows.kind words == rows.ste) (Named (under answer_mask (of_answer rows.ste)) (under stream_mask (rows.stream words)))
    (pick (rows.kind words == rows.cd) (Named (under answer_mask (of_answer rows.cd)) (under stream_mask (rows.stream words)))
    (Reaching (under answer_vmid_mask (bit_and words.w0 answer_vmid_mask)) ((words.w2 + more_bytes words) % 2 ^ 64) (more_bytes words)))

abbrev pub is_found : Option ℕ → Bool
is_found (Some i) = true
is_found None = false

-- the words collide with one of the first n rows
unfoldable pub doubled : List ℕ → ℕ → Row → Bool
doubled m n words = is_found (lowest (collides_at m words) n 0)

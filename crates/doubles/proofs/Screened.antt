-- The screen of some words lets through each row that collides with them.
-- Assumes nothing.
use Rattle.std.proofs.Common.{◌≡◌, ℕ, ◌+◌, ◌*◌, ◌%◌, ◌^◌, ◌<◌, ◌≤◌, Bool, true, false, ◌&&◌, eqb, List, get_or, sym, refl, ◌∙◌, ⊎_elim, arith, pow_pos, pow_mono, eqb-true}
use lib.Bits.{bit_and}
use Rattle.words.specs.Choice.{pick}
use Rattle.words.proofs.Parts.{part_lt}
use Rattle.words.proofs.Search.{Wider, lets_through}
use Rattle.words.proofs.Spans.{first-ends-later, second-ends-later}
use Rattle.words.proofs.Truth.{left, right, and_true, decided}
use Rattle.rows.specs.declared.Row.{Row}
use Rattle.rows.specs.Rows as rows
use Rattle.image.specs.Image.{row_at}
use Rattle.screens.specs.declared.Screen.{Screen}
use Rattle.screens.specs.Places.{stream_mask, answer_mask, answer_vmid_mask, of_answer}
use Rattle.screens.specs.Screens.{named, reaching, passes, passes_at}
use Rattle.screens.proofs.Answerers.{answers-used, stream-named, stage-word, stage-marked}
use Rattle.screens.proofs.Distances.{shares-about}
use Rattle.doubles.specs.Doubles.{same_stream, shares_address, shares_stage, shares_asid, shares, collides, collides_at, more_bytes, screen_of}
use Rattle.doubles.proofs.Laws.{Both, both}

-- rows of either stage
picked_stage : (b s a : Bool) → pick b s (s && a) ≡ true → s ≡ true
picked_stage true s a e = e
picked_stage false s a e = left s a e

module _ (words row : Row) (fits : row.w2 < 2 ^ 64) where
  -- the bytes of the words are one, and so many more
  enough : (more_bytes words < 2 ^ 63) × (more_bytes words + 1 ≡ 2 ^ rows.span words)
  enough =
      let short : 2 ^ rows.span words ≤ 2 ^ 63 = pow_mono {j = 63} (let l : rows.span words < 64 = part_lt rows.span_bits words.w0 in omega arith) in
      let one : 0 < 2 ^ rows.span words = pow_pos (rows.span words) in
      (omega arith, omega arith)

  module _ (b : Both words row) where
    stream-screened : (k : ℕ) → eqb (rows.kind words) k ≡ true → same_stream words row ≡ true → named answer_mask (of_answer k) stream_mask (rows.stream words) row ≡ true
    stream-screened k e s =
        stream-named row b.second-answers k (rows.stream words) (8 + k * 2) (sym b.one-kind ∙ eqb-true (rows.kind words) k e)
        (sym (eqb-true (rows.stream words) (rows.stream row) s)) refl

    stage-screened : shares_stage words row ≡ true
        → reaching answer_vmid_mask (bit_and words.w0 answer_vmid_mask) ((words.w2 + more_bytes words) % 2 ^ 64) (more_bytes words) row ≡ true
    unfolding shares_address
    stage-screened e =
        let k = rows.kind words in
        let i = rows.vmid words in
        let own = eqb i (rows.vmid row) in
        let near = right own (shares_address words row) e in
        let a = words.w2 in
        let n = 2 ^ rows.span words in
        let m = 2 ^ rows.span row in
        and_true
        (and_true (answers-used row b.second-answers)
        (shares-about row a (more_bytes words) fits enough.0 (omega (arith, enough.1, first-ends-later a n row.w2 m near)) (second-ends-later a n row.w2 m near)))
        (stage-marked row b.second-answers k i (bit_and words.w0 answer_vmid_mask) (sym b.one-kind) (sym (eqb-true i (rows.vmid row) (left own (shares_address words row) e)))
        (stage-word words b.first-answers k i _ refl refl refl))

    ste_case : eqb (rows.kind words) rows.ste ≡ true → passes (screen_of words) row ≡ true
    unfolding shares screen_of
    ste_case e = rw e (stream-screened rows.ste e (rw e at b.share))

    module _ (no-ste : eqb (rows.kind words) rows.ste ≡ false) where
      cd_case : eqb (rows.kind words) rows.cd ≡ true → passes (screen_of words) row ≡ true
      unfolding shares screen_of
      cd_case e =
          rw (no-ste, e)
          (stream-screened rows.cd e (left (same_stream words row) (eqb (rows.substream words) (rows.substream row)) (rw (no-ste, e) at b.share)))

      by-stage : eqb (rows.kind words) rows.cd ≡ false → passes (screen_of words) row ≡ true
      unfolding shares screen_of
      by-stage e =
          rw (no-ste, e)
          (stage-screened (picked_stage (eqb (rows.kind words) rows.stage2) (shares_stage words row) (shares_asid words row) (rw (no-ste, e) at b.share)))

  pub screened : collides words row ≡ true → passes (screen_of words) row ≡ true
  screened e =
      let b = both words row e in
      ⊎_elim (λ s. ste_case b s) (λ s. ⊎_elim (λ c. cd_case b s c) (λ c. by-stage b s c) (decided (eqb (rows.kind words) rows.cd)))
      (decided (eqb (rows.kind words) rows.ste))

-- so are rows at their places that collide, whose words fit the machine's, and it is the wider test of these
pub let_through : (kept : List ℕ) (words : Row) (s : Screen) → ((k : ℕ) → get_or kept k 0 < 2 ^ 64) → s ≡ screen_of words
    → (j : ℕ) → collides_at kept words j ≡ true → passes_at s kept j ≡ true
unfolding collides_at row_at
let_through kept words s f e j c = rw e (screened words (row_at kept j) (f (4 * j + 3)) c)

pub wider : (kept : List ℕ) (n : ℕ) (words : Row) (s : Screen) → ((k : ℕ) → get_or kept k 0 < 2 ^ 64) → s ≡ screen_of words
    → Wider (collides_at kept words) (passes_at s kept) n n
wider kept n words s f e = lets_through (λ j h. let_through kept words s f e j)

-- What words 0 and 1 of a row that may answer have under the masks of screens, by the row's parts.
-- Assumes nothing.
use Rattle.std.proofs.Common.{◌≡◌, ℕ, ◌+◌, ◌*◌, ◌^◌, true, [], ◌∷◌, refl, arith, eq-eqb, ne_eqb, eqb-true}
use lib.Bits.{bit_and}
use Rattle.words.specs.Parts.{part}
use Rattle.words.specs.Ranges.{get}
use Rattle.words.proofs.Parts.{part_lt}
use Rattle.words.proofs.Truth.{and_true}
use Rattle.rows.specs.declared.Row.{Row}
use Rattle.rows.specs.Rows as rows
use Rattle.rows.proofs.LastLevel.{answers-last, answers-unmarked}
use Rattle.screens.specs.Places.{stream_mask, answer_mask, answer_vmid_mask, of_answer, of_vmid, of_asid}
use Rattle.screens.specs.Screens.{marked, named, used}
use Rattle.screens.proofs.Fields.{gap, marked_by}

-- last-level is bit 3, and a mark of 0 leaves nothing
kind-under : (w k value : ℕ) → get rows.kind_bits w ≡ k → get rows.last_bits w ≡ 1 → get rows.mark_bits w ≡ 0 → value ≡ of_answer k → bit_and w answer_mask ≡ value
unfolding part
kind-under w k value a b c v = marked_by (gap 1 2 ∷ gap 0 1 ∷ gap 7 2 ∷ []) answer_mask value w refl (omega (arith, a, b, c, v))

vmid-under : (w k i value : ℕ) → get rows.kind_bits w ≡ k → get rows.last_bits w ≡ 1 → get rows.mark_bits w ≡ 0 → get rows.vmid_bits w ≡ i
    → value ≡ of_answer k + i * 2 ^ 16 → bit_and w answer_vmid_mask ≡ value
unfolding part
vmid-under w k i value a b c d v =
    marked_by (gap 1 2 ∷ gap 0 1 ∷ gap 7 2 ∷ gap 3 16 ∷ []) answer_vmid_mask value w refl (omega (arith, a, b, c, d, v))

pub stream-under : (w s : ℕ) → get rows.stream_bits w ≡ s → bit_and w stream_mask ≡ s
unfolding part
stream-under w s a = marked_by (gap 0 32 ∷ []) stream_mask s w refl (omega (arith, a))

-- an identifier that a row has is its own lowest sixteen bits
module _ (row : Row) (v : ℕ) where
  pub vmid-placed : rows.vmid row ≡ v → of_vmid v ≡ v * 2 ^ 16
  unfolding part
  vmid-placed e = omega (arith, e, part_lt rows.vmid_bits row.w0)

  pub asid-placed : rows.asid row ≡ v → of_asid v ≡ v * 2 ^ 32
  unfolding part
  asid-placed e = omega (arith, e, part_lt rows.asid_bits row.w0)

module _ (row : Row) (a : rows.may_answer row ≡ true) where
  is_last : get rows.last_bits row.w0 ≡ 1
  is_last = eqb-true (get rows.last_bits row.w0) 1 (answers-last row a)

  pub answers-used : used row ≡ true
  unfolding part
  answers-used = rw (ne_eqb row.w0 0 (λ z. omega (arith, is_last, z))) refl

  no-mark : rows.mark row ≡ 0
  no-mark = eqb-true (rows.mark row) 0 (answers-unmarked row a)

  -- a stage row of a VMID
  pub stage-word : (k i value : ℕ) → rows.kind row ≡ k → rows.vmid row ≡ i → value ≡ of_answer k + i * 2 ^ 16 → bit_and row.w0 answer_vmid_mask ≡ value
  stage-word k i value e d v = vmid-under row.w0 k i value e is_last no-mark d v

  pub stage-marked : (k i value : ℕ) → rows.kind row ≡ k → rows.vmid row ≡ i → value ≡ of_answer k + i * 2 ^ 16 → marked answer_vmid_mask value row ≡ true
  unfolding marked
  stage-marked k i value e d v = eq-eqb (bit_and row.w0 answer_vmid_mask) value (stage-word k i value e d v)

  -- an STE or CD row of a stream
  pub stream-named : (k s value : ℕ) → rows.kind row ≡ k → rows.stream row ≡ s → value ≡ of_answer k → named answer_mask value stream_mask s row ≡ true
  unfolding named
  stream-named k s value e d v =
      and_true (eq-eqb (bit_and row.w0 answer_mask) value (kind-under row.w0 k value e is_last no-mark v))
      (eq-eqb (bit_and row.w1 stream_mask) s (stream-under row.w1 s d))

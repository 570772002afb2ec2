-- Every row in a command's scope passes the command's screen.
-- Assumes nothing.
use Rattle.std.proofs.Common.{◌≡◌, ℕ, ◌+◌, ◌-◌, ◌*◌, ◌/◌, ◌^◌, ◌<◌, ◌≤◌, max, true, false, not, ◌&&◌, ◌||◌, eqb, [], ◌∷◌, sym, refl, ◌∙◌, ⊎_elim, div-one, arith, eq-eqb, eqb-true}
use lib.Bits.{bit_and, bit_or, bit_xor}
use borrow.Author.Tests.{eqb-false, not-true}
use Rattle.words.specs.Ranges.{get}
use Rattle.words.proofs.Parts.{part_lt}
use Rattle.words.proofs.Truth.{left, right, either, clash, decided, less_or_not}
use Rattle.rows.specs.declared.Row.{Row}
use Rattle.rows.specs.Rows as rows
use Rattle.commands.specs.declared.Features.{Features}
use Rattle.commands.specs.declared.Target.{Target}
use Rattle.commands.specs.declared.Command.{Command}
use Rattle.commands.specs.declared.Command.TheVariants.{PrefetchConfig, PrefetchAddr, CfgiSte, CfgiSteRange, CfgiCd, CfgiCdAll, TlbiNhAll, TlbiNhAsid, TlbiNhVa, TlbiNhVaa, TlbiEl2All, TlbiEl2Asid, TlbiEl2Va, TlbiEl2Vaa, TlbiS12Vmall, TlbiS2Ipa, TlbiNsnhAll, Sync, DptiAll, DptiPa}
use Rattle.scopes.specs.declared.Block.{Block}
use Rattle.scopes.specs.Scopes.{spared, meets, one, ste_block, open_bits, ranged, ste_of, cd_of, cd_at, of_stage, stage_of, own_of, is_e2h, stage_at, own_at, has_asid, removes, regime, in_regime, in_scope}
use Rattle.scopes.specs.Ranges.{tg_of, first_of, length_of, reaches}
use Rattle.scopes.proofs.Laws.{Scoped, scoped}
use Rattle.scopes.proofs.Ranges.{single-length}
use Rattle.screens.specs.declared.Screen.TheVariants.{Marked}
use Rattle.screens.specs.Places.{mask_of, stages_bits, of_kind, of_mark, of_vmid, of_asid}
use Rattle.screens.specs.Screens.{under, marked, named, streaming, passes}
use Rattle.screens.proofs.Answerers.{vmid-placed, asid-placed, stream-under}
use Rattle.screens.proofs.Distances.{covers-near, shares-about}
use Rattle.scope_screens.specs.ScopeScreens.{kind_mask, own_mask, own_asid_mask, stage_mask, stage_asid_mask, either_mask, any_mask, regime_at, aimed, of_block, of_context, screen_of}
use Rattle.scope_screens.proofs.Words as word
use Rattle.scope_screens.proofs.Near.{begins, ends, below_top, length_small}
use Rattle.scope_screens.proofs.Near.{open_fits}

-- a bit that is not 1
not_one : (x : ℕ) → x < 2 → eqb x 1 ≡ false → x ≡ 0
not_one x h e = omega (arith, eqb-false x 1 e)

both-none : {x y : ℕ} → x ≡ 0 → y ≡ 0 → bit_or x y ≡ 0
both-none e g = rw (e, g)

module _ (row : Row) where
  -- what the parts of a scope say of the row's fields
  record Unmarked (k : ℕ) : Type 0 where
    kind : rows.kind row ≡ k
    mark : rows.mark row ≡ 0

  stage_kind : (k : ℕ) → of_stage row k ≡ true → Unmarked k
  stage_kind k e =
      record {
        kind = eqb-true (rows.kind row) k (left (eqb (rows.kind row) k) (rows.is_unmarked row) e);
        mark = eqb-true (rows.mark row) 0 (right (eqb (rows.kind row) k) (rows.is_unmarked row) e);
      }

  record Staged (k v : ℕ) : Type 0 where
    unmarked : Unmarked k
    vmid : rows.vmid row ≡ v

  staged : (k v : ℕ) → stage_of row k v ≡ true → Staged k v
  unfolding stage_of
  staged k v e =
      record {
        unmarked = stage_kind k (left (of_stage row k) (eqb (rows.vmid row) v) e);
        vmid = eqb-true (rows.vmid row) v (right (of_stage row k) (eqb (rows.vmid row) v) e);
      }

  asid-is : (a : ℕ) → has_asid row a ≡ true → rows.asid row ≡ a
  asid-is a e = eqb-true (rows.asid row) a e

  not-global : not (rows.is_global row) ≡ true → get rows.global_bits row.w0 ≡ 0
  not-global e = not_one (get rows.global_bits row.w0) (part_lt rows.global_bits row.w0) (not-true (rows.is_global row) e)

  own-kind : own_of row ≡ true → rows.kind row ≡ 2
  unfolding own_of
  own-kind e = eqb-true (rows.kind row) 2 (left (eqb (rows.kind row) 2) (not (rows.is_unmarked row)) e)

  -- a stage's rows of a VMID
  stage-marked : (k v : ℕ) → stage_of row k v ≡ true → bit_and row.w0 stage_mask ≡ of_kind k + of_vmid v
  stage-marked k v e =
      let s = staged k v e in
      word.stage_is row.w0 k v (of_kind k + of_vmid v) s.unmarked.kind s.unmarked.mark s.vmid (omega (arith, vmid-placed row v s.vmid))

  either-marked : (k v : ℕ) → k / 2 ≡ 1 → stage_of row k v ≡ true → bit_and row.w0 either_mask ≡ of_kind rows.stage1 + of_vmid v
  either-marked k v u e =
      let s = staged k v e in
      word.either_is row.w0 k v (of_kind rows.stage1 + of_vmid v) s.unmarked.kind u s.unmarked.mark s.vmid (omega (arith, vmid-placed row v s.vmid))

  any-marked : (k : ℕ) → k / 2 ≡ 1 → of_stage row k ≡ true → bit_and row.w0 any_mask ≡ of_kind rows.stage1
  any-marked k u e = let s = stage_kind k e in word.any-is row.w0 k s.kind u s.mark

  -- a row that a command by address reaches
  marked-so : (mask value : ℕ) → bit_and row.w0 mask ≡ value → marked mask value row ≡ true
  unfolding marked
  marked-so mask value d = eq-eqb (bit_and row.w0 mask) value d

  aimed-passes : (mask value : ℕ) (t : Target) → rows.is_empty row ≡ false → bit_and row.w0 mask ≡ value → reaches t row ≡ true → passes (aimed (under mask value) t) row ≡ true
  aimed-passes mask value t used d e = ⊎_elim single several (decided (eqb (tg_of t) 0))
    where
      single : eqb (tg_of t) 0 ≡ true → passes (aimed (under mask value) t) row ≡ true
      single z =
          let before : row.w2 ≤ first_of t = omega (arith, ends t row e, single-length t (eqb-true (tg_of t) 0 z)) in
          rw (z, used, covers-near row (first_of t) before (begins t row e)) (marked-so mask value d)

      several : eqb (tg_of t) 0 ≡ false → passes (aimed (under mask value) t) row ≡ true
      several n =
          rw (n, used, shares-about row (first_of t) (length_of t - 1) (below_top t row e) (length_small t) (omega (arith, ends t row e)) (begins t row e))
          (marked-so mask value d)

  stage-aimed : (k v : ℕ) (t : Target) → rows.is_empty row ≡ false → stage_at row k v t ≡ true → passes (aimed (under stage_mask (of_kind k + of_vmid v)) t) row ≡ true
  unfolding stage_at
  stage-aimed k v t used e =
      aimed-passes stage_mask (of_kind k + of_vmid v) t used (stage-marked k v (left (stage_of row k v) (reaches t row) e)) (right (stage_of row k v) (reaches t row) e)

  own-aimed : (f : Features) (t : Target) → rows.is_empty row ≡ false → own_at row t ≡ true → eqb (rows.mark row) (regime f) ≡ true → passes (aimed (under own_mask (of_kind rows.stage1 + regime_at f)) t) row ≡ true
  unfolding own_at
  own-aimed f t used e r =
      let own = left (own_of row) (reaches t row) e in
      aimed-passes own_mask (of_kind rows.stage1 + regime_at f) t used
      (word.own_is row.w0 2 (rows.mark row) (of_kind rows.stage1 + regime_at f) (own-kind own) refl (omega (arith, eqb-true (rows.mark row) (regime f) r)))
      (right (own_of row) (reaches t row) e)

  -- rows of a stream, or of a block of streams
  met : (k s : ℕ) → eqb (rows.stream row / 2 ^ max 0 k) (s / 2 ^ max 0 k) ≡ true → rows.stream row / 2 ^ k ≡ s / 2 ^ k
  met k s e =
      let m : max 0 k ≡ k = omega arith in
      rw m at (eqb-true (rows.stream row / 2 ^ max 0 k) (s / 2 ^ max 0 k) e)

  -- that the row's stream is one of a block's, as the test has it
  abbrev OfBlock : ℕ → ℕ → Type 0
  OfBlock k s = bit_xor (bit_and row.w1 (2 ^ 32 - 2 ^ k)) (s / 2 ^ k * 2 ^ k) / 2 ^ rows.span row ≡ 0

  of-config : (k s j : ℕ) → rows.is_empty row ≡ false → rows.kind row ≡ j → j / 2 ≡ 0
      → OfBlock k s → passes (of_block s k) row ≡ true
  unfolding streaming
  of-config k s j used kind u d =
      let x = bit_xor (bit_and row.w1 (2 ^ 32 - 2 ^ k)) (s / 2 ^ k * 2 ^ k) / 2 ^ rows.span row in
      rw used (eq-eqb (bit_or (bit_and row.w0 (mask_of (stages_bits ∷ []))) x) 0 (both-none (word.config-is row.w0 j kind u) d))

  cd-passes : (k s : ℕ) → k ≤ 32 → rows.is_empty row ≡ false → cd_of row (record { stream = s; span = k }) ≡ true → passes (of_block s k) row ≡ true
  unfolding cd_of
  cd-passes k s h used e =
      let b : Block = record { stream = s; span = k } in
      let kind = eqb-true (rows.kind row) 1 (left (eqb (rows.kind row) 1) (meets (one (rows.stream row)) b) e) in
      of-config k s 1 used kind refl
      (word.within_block row.w1 k (rows.span row) s h (met k s (right (eqb (rows.kind row) 1) (meets (one (rows.stream row)) b) e)))

  ste-passes : (k s : ℕ) → k ≤ 32 → rows.is_empty row ≡ false → ste_of row (record { stream = s; span = k }) ≡ true → passes (of_block s k) row ≡ true
  unfolding ste_of
  ste-passes k s h used e = of-config k s 0 used kind refl (⊎_elim last block (decided (rows.is_last row)))
    where
      kind : rows.kind row ≡ 0
      kind = eqb-true (rows.kind row) 0 (left (eqb (rows.kind row) 0) (meets (ste_block row) (record { stream = s; span = k })) e)

      meet : meets (ste_block row) (record { stream = s; span = k }) ≡ true
      meet = right (eqb (rows.kind row) 0) (meets (ste_block row) (record { stream = s; span = k })) e

      last : rows.is_last row ≡ true → OfBlock k s
      last l = word.within_block row.w1 k (rows.span row) s h (met k s (rw l at meet))

      block : rows.is_last row ≡ false → OfBlock k s
      block n =
          let m = max (rows.span row) k in
          let same = eqb-true (rows.stream row / 2 ^ m) (s / 2 ^ m) (rw n at meet) in
          ⊎_elim (λ l. let k-is : max (rows.span row) k ≡ k = omega arith in word.within_block row.w1 k (rows.span row) s h (rw k-is at same))
          (λ g. let n-is : max (rows.span row) k ≡ rows.span row = omega arith in word.around-block row.w1 k (rows.span row) s h g (rw n-is at same))
          (less_or_not (rows.span row) k)

  context-passes : (s : ℕ) → eqb (rows.kind row) 1 ≡ true → eqb (rows.stream row) s ≡ true → passes (of_context s) row ≡ true
  unfolding named
  context-passes s k e =
      rw (word.kind-is row.w0 1 (eqb-true (rows.kind row) 1 k), stream-under row.w1 s (eqb-true (rows.stream row) s e)) (eq-eqb s s refl)

  cd-at-passes : (s u : ℕ) → cd_at row s u ≡ true → passes (of_context s) row ≡ true
  unfolding cd_at
  cd-at-passes s u e =
      let k = eqb (rows.kind row) 1 in
      let m = eqb (rows.stream row) s in
      let both = left (k && m) (not (rows.is_last row) || eqb (rows.substream row) u) e in
      context-passes s (left k m both) (right k m both)

  cd-one-passes : (s : ℕ) → cd_of row (one s) ≡ true → passes (of_context s) row ≡ true
  unfolding cd_of
  cd-one-passes s e =
      let same = met 0 s (right (eqb (rows.kind row) 1) (meets (one (rows.stream row)) (one s)) e) in
      context-passes s (left (eqb (rows.kind row) 1) (meets (one (rows.stream row)) (one s)) e)
      (eq-eqb (rows.stream row) s (sym (div-one (rows.stream row)) ∙ same ∙ div-one s))

-- what a command removes passes its screen
module _ (f : Features) (row : Row) where
  marked-passes : (mask value : ℕ) → bit_and row.w0 mask ≡ value → passes (Marked (under mask value)) row ≡ true
  marked-passes mask value d = marked-so row mask value d

  screened : (c : Command) → Scoped f c row → passes (screen_of f c) row ≡ true
  unfolding removes in_regime screen_of
  screened PrefetchConfig s = clash s.removed refl
  screened PrefetchAddr s = clash s.removed refl
  screened (CfgiSte stream leaf) s =
      ⊎_elim (λ p. ste-passes row 0 stream (omega arith) s.used (left (ste_of row (one stream)) (not (spared row leaf)) p))
      (λ q. cd-passes row 0 stream (omega arith) s.used q)
      (either (ste_of row (one stream) && not (spared row leaf)) (cd_of row (one stream)) s.removed)
  screened (CfgiSteRange stream range) s =
      let fits = open_fits (open_bits range) range refl in
      ⊎_elim (λ p. ste-passes row (open_bits range) stream fits s.used p) (λ q. cd-passes row (open_bits range) stream fits s.used q)
      (either (ste_of row (ranged stream range)) (cd_of row (ranged stream range)) s.removed)
  screened (CfgiCd substream stream leaf) s =
      cd-at-passes row stream substream (left (cd_at row stream substream) (not (spared row leaf)) s.removed)
  screened (CfgiCdAll stream) s = cd-one-passes row stream s.removed
  screened (TlbiNhAll vmid) s = marked-passes stage_mask (of_kind rows.stage1 + of_vmid vmid) (stage-marked row 2 vmid s.removed)
  screened (TlbiNhAsid vmid asid) s =
      let both = left (stage_of row 2 vmid && has_asid row asid) (not (rows.is_global row)) s.removed in
      let st = staged row 2 vmid (left (stage_of row 2 vmid) (has_asid row asid) both) in
      let id = asid-is row asid (right (stage_of row 2 vmid) (has_asid row asid) both) in
      marked-passes stage_asid_mask (of_kind rows.stage1 + of_vmid vmid + of_asid asid)
      (word.stage-asid-is row.w0 2 vmid asid (of_kind rows.stage1 + of_vmid vmid + of_asid asid) st.unmarked.kind
      (not-global row (right (stage_of row 2 vmid && has_asid row asid) (not (rows.is_global row)) s.removed)) st.unmarked.mark st.vmid id
      (omega (arith, vmid-placed row vmid st.vmid, asid-placed row asid id)))
  screened (TlbiNhVa vmid asid t) s =
      let any = has_asid row asid || rows.is_global row in
      stage-aimed row 2 vmid t s.used (left (stage_at row 2 vmid t) any (left (stage_at row 2 vmid t && any) (not (spared row t.leaf)) s.removed))
  screened (TlbiNhVaa vmid t) s = stage-aimed row 2 vmid t s.used (left (stage_at row 2 vmid t) (not (spared row t.leaf)) s.removed)
  screened TlbiEl2All s = marked-passes kind_mask (of_kind rows.stage1) (word.kind-is row.w0 2 (own-kind row s.removed))
  screened (TlbiEl2Asid asid) s =
      let three = left (own_of row && is_e2h row && has_asid row asid) (not (rows.is_global row)) s.removed in
      let two = left (own_of row && is_e2h row) (has_asid row asid) three in
      let id = asid-is row asid (right (own_of row && is_e2h row) (has_asid row asid) three) in
      marked-passes own_asid_mask (of_kind rows.stage1 + of_mark rows.el2_e2h + of_asid asid)
      (word.own-asid-is row.w0 2 2 asid (of_kind rows.stage1 + of_mark rows.el2_e2h + of_asid asid) (own-kind row (left (own_of row) (is_e2h row) two))
      (not-global row (right (own_of row && is_e2h row && has_asid row asid) (not (rows.is_global row)) s.removed))
      (eqb-true (rows.mark row) 2 (right (own_of row) (is_e2h row) two)) id (omega (arith, asid-placed row asid id)))
  screened (TlbiEl2Va asid t) s =
      let any = not (is_e2h row) || has_asid row asid || rows.is_global row in
      own-aimed row f t s.used (left (own_at row t) any (left (own_at row t && any) (not (spared row t.leaf)) s.removed)) s.ruled
  screened (TlbiEl2Vaa t) s = own-aimed row f t s.used (left (own_at row t) (not (spared row t.leaf)) s.removed) s.ruled
  screened (TlbiS12Vmall vmid) s =
      marked-passes either_mask (of_kind rows.stage1 + of_vmid vmid)
      (⊎_elim (λ p. either-marked row 2 vmid refl p) (λ q. either-marked row 3 vmid refl q) (either (stage_of row 2 vmid) (stage_of row 3 vmid) s.removed))
  screened (TlbiS2Ipa vmid t) s = stage-aimed row 3 vmid t s.used (left (stage_at row 3 vmid t) (not (spared row t.leaf)) s.removed)
  screened TlbiNsnhAll s =
      marked-passes any_mask (of_kind rows.stage1)
      (⊎_elim (λ p. any-marked row 2 refl p) (λ q. any-marked row 3 refl q) (either (of_stage row 2) (of_stage row 3) s.removed))
  screened (Sync cs) s = clash s.removed refl
  screened DptiAll s = clash s.removed refl
  screened (DptiPa page size leaf) s = clash s.removed refl

-- so a row that does not pass it is not in scope
pub unscoped : (f : Features) (c : Command) (row : Row) → passes (screen_of f c) row ≡ false → in_scope f c row ≡ false
unscoped f c row e = ⊎_elim (λ t. clash (screened f row c (scoped f c row t)) e) (λ n. n) (decided (in_scope f c row))

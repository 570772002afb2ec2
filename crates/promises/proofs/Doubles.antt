-- Document 02, T-02: rows collide exactly if some lookup is answered by both, so where none do, one row at most answers a lookup.
-- Assumes nothing.
use mathlib.Core.Path.{◌≡◌, refl, sym, ◌∙◌}
use mathlib.Core.Bool.{true, false, ◌&&◌, ◌||◌}
use mathlib.Core.List.{List}
use mathlib.Core.Logic.{◌⊎◌, inl, inr, ⊎_elim}
use Prim.Native.Nat.{ℕ, ◌^◌, ◌<◌, max}
use native.Mathlib.Decide.{ℕ_discrete}
use native.Mathlib.Omega.{arith}
use lib.Dec.{eqb}
use lib.Pow.{pow_pos}
use borrow.Author.Tests.{eqb-true, eq-eqb}
use Rattle.words.specs.Choice.{pick}
use Rattle.words.proofs.Parts.{part_lt}
use Rattle.words.proofs.Spans.{Shared, overlap-shared, shared-overlap}
use Rattle.words.proofs.Truth.{left, right, either, or_left, or_right, and_true, clash, decided}
use Rattle.rows.specs.declared.Row.{Row}
use Rattle.rows.specs.Rows.{kind_bits, ste, cd, stage1, stage2, kind, is_global, span, vmid, asid, stream, substream, covers}
use Rattle.rows.proofs.Covering.{covers-means, means-covers}
use Rattle.image.specs.Image.{row_at}
use Rattle.doubles.specs.Doubles.{same_stream, same_context, shares_address, shares_stage, shares_asid, shares, collides}
use Rattle.doubles.proofs.Laws.{Both, both, is_both}
use Rattle.lookups.specs.declared.Wanted.{Wanted}
use Rattle.lookups.specs.declared.Wanted.TheVariants.{Ste, Cd, Stage1, Stage2}
use Rattle.lookups.specs.Lookups.{fits, answers, answers_at}
use Rattle.lookups.proofs.Laws.{only_answerers, answers-fits}
use Rattle.promises.specs.Doubles.{Answered, Single}

same : (x : ℕ) → eqb x x ≡ true
same x = eq-eqb x x refl

-- two rows that share an address cover the later beginning
module _ (a b : Row) (e : shares_address a b ≡ true) where
  abbrev later : ℕ
  later = max a.w2 b.w2

  meeting : Shared a.w2 (2 ^ span a) b.w2 (2 ^ span b) later
  unfolding shares_address
  meeting = overlap-shared a.w2 (2 ^ span a) b.w2 (2 ^ span b) (pow_pos (span a)) (pow_pos (span b)) e

  first-covers : covers a later ≡ true
  first-covers = means-covers a later meeting.from_first meeting.to-first

  second-covers : covers b later ≡ true
  second-covers = means-covers b later meeting.from_second meeting.to-second

covered_shares : (a b : Row) (x : ℕ) → covers a x ≡ true → covers b x ≡ true → shares_address a b ≡ true
unfolding shares_address
covered_shares a b x c d =
    let p = covers-means a x c in
    let q = covers-means b x d in
    shared-overlap a.w2 (2 ^ span a) b.w2 (2 ^ span b) x
    (record { from_first = p.0; to-first = p.1; from_second = q.0; to-second = q.1 })

-- a collision is a lookup that both answer, by the kind of the rows
module _ (a b : Row) (c : Both a b) where
  ste-answered : kind a ≡ ste → Answered a b
  unfolding answers fits shares
  ste-answered k =
      let streams : eqb (stream a) (stream b) ≡ true = rw (eq-eqb (kind a) ste k) at c.share in
      let own : kind b ≡ ste = sym c.one-kind ∙ k in
      record {
        wanted = Ste (stream a);
        first = and_true c.first-answers (and_true (eq-eqb (kind a) ste k) (same (stream a)));
        second = and_true c.second-answers (and_true (eq-eqb (kind b) ste own) (eq-eqb (stream b) (stream a) (sym (eqb-true (stream a) (stream b) streams))));
      }

  cd-answered : kind a ≡ cd → Answered a b
  unfolding answers fits shares
  cd-answered k =
      let both-same : same_context a b ≡ true = rw k at c.share in
      let own : kind b ≡ cd = sym c.one-kind ∙ k in
      let s = eqb-true (stream a) (stream b) (left (same_stream a b) (eqb (substream a) (substream b)) both-same) in
      let u = eqb-true (substream a) (substream b) (right (same_stream a b) (eqb (substream a) (substream b)) both-same) in
      record {
        wanted = Cd (stream a) (substream a);
        first = and_true c.first-answers (and_true (and_true (eq-eqb (kind a) cd k) (same (stream a))) (same (substream a)));
        second = and_true c.second-answers (and_true (and_true (eq-eqb (kind b) cd own) (eq-eqb (stream b) (stream a) (sym s))) (eq-eqb (substream b) (substream a) (sym u)));
      }

  stage2-answered : kind a ≡ stage2 → Answered a b
  unfolding answers fits shares
  stage2-answered k =
      let stage : shares_stage a b ≡ true = rw k at c.share in
      let own : kind b ≡ stage2 = sym c.one-kind ∙ k in
      let v = eqb-true (vmid a) (vmid b) (left (eqb (vmid a) (vmid b)) (shares_address a b) stage) in
      let x = right (eqb (vmid a) (vmid b)) (shares_address a b) stage in
      record {
        wanted = Stage2 (vmid a) (later a b x);
        first = and_true c.first-answers (and_true (and_true (eq-eqb (kind a) stage2 k) (same (vmid a))) (first-covers a b x));
        second = and_true c.second-answers (and_true (and_true (eq-eqb (kind b) stage2 own) (eq-eqb (vmid b) (vmid a) (sym v))) (second-covers a b x));
      }

  -- an ASID that both take: a global row takes the other's
  abbrev commonAsid : ℕ
  commonAsid = pick (is_global a) (asid b) (asid a)

  first-takes : (is_global a || eqb (asid a) commonAsid) ≡ true
  first-takes = ⊎_elim (λ g. or_left (is_global a) (eqb (asid a) commonAsid) g) (λ g. rw g (same (asid a))) (decided (is_global a))

  second-takes : shares_asid a b ≡ true → (is_global b || eqb (asid b) commonAsid) ≡ true
  second-takes e = ⊎_elim (λ g. or_right (is_global b) (eqb (asid b) commonAsid) (rw g (same (asid b)))) own (decided (is_global a))
    where
      own : is_global a ≡ false → (is_global b || eqb (asid b) commonAsid) ≡ true
      own g =
          ⊎_elim
          (λ s. or_right (is_global b) (eqb (asid b) commonAsid)
          (rw g (eq-eqb (asid b) (asid a) (sym (eqb-true (asid a) (asid b) (⊎_elim (λ t. t) (λ t. clash t g) (either (eqb (asid a) (asid b)) (is_global a) s)))))))
          (λ t. or_left (is_global b) (eqb (asid b) commonAsid) t)
          (either (eqb (asid a) (asid b) || is_global a) (is_global b) e)

  stage1-answered : kind a ≡ stage1 → Answered a b
  unfolding answers fits shares
  stage1-answered k =
      let shared : (shares_stage a b && shares_asid a b) ≡ true = rw k at c.share in
      let own : kind b ≡ stage1 = sym c.one-kind ∙ k in
      let stage = left (shares_stage a b) (shares_asid a b) shared in
      let v = eqb-true (vmid a) (vmid b) (left (eqb (vmid a) (vmid b)) (shares_address a b) stage) in
      let x = right (eqb (vmid a) (vmid b)) (shares_address a b) stage in
      record {
        wanted = Stage1 (vmid a) commonAsid (later a b x);
        first = and_true c.first-answers (and_true (and_true (and_true (eq-eqb (kind a) stage1 k) (same (vmid a))) first-takes) (first-covers a b x));
        second = and_true c.second-answers (and_true (and_true (and_true (eq-eqb (kind b) stage1 own) (eq-eqb (vmid b) (vmid a) (sym v))) (second-takes (right (shares_stage a b) (shares_asid a b) shared))) (second-covers a b x));
      }

-- the lookup found has numbers of the two rows: a stream, a substream, a VMID, an ASID, a beginning
pub collision_answered : (a b : Row) → collides a b ≡ true → Answered a b
collision_answered a b e = by_kind (ℕ_discrete (kind a) ste) (ℕ_discrete (kind a) cd) (ℕ_discrete (kind a) stage2)
  where
    by_kind : Dec (kind a ≡ ste) → Dec (kind a ≡ cd) → Dec (kind a ≡ stage2) → Answered a b
    by_kind (yes k) d f = ste-answered a b (both a b e) k
    by_kind (no s) (yes k) f = cd-answered a b (both a b e) k
    by_kind (no s) (no d) (yes k) = stage2-answered a b (both a b e) k
    by_kind (no s) (no d) (no f) = stage1-answered a b (both a b e) (omega (arith, s, d, f, part_lt kind_bits a.w0))

-- and a lookup that both answer is a collision
module _ (a b : Row) where
  ste-collides : (s : ℕ) → fits (Ste s) a ≡ true → fits (Ste s) b ≡ true → (kind a ≡ kind b) × (shares a b ≡ true)
  unfolding fits shares
  ste-collides s p q =
      let k = eqb-true (kind a) ste (left (eqb (kind a) ste) (eqb (stream a) s) p) in
      let l = eqb-true (kind b) ste (left (eqb (kind b) ste) (eqb (stream b) s) q) in
      let x = eqb-true (stream a) s (right (eqb (kind a) ste) (eqb (stream a) s) p) in
      let y = eqb-true (stream b) s (right (eqb (kind b) ste) (eqb (stream b) s) q) in
      (k ∙ sym l, rw k (eq-eqb (stream a) (stream b) (x ∙ sym y)))

  cd-collides : (s u : ℕ) → fits (Cd s u) a ≡ true → fits (Cd s u) b ≡ true → (kind a ≡ kind b) × (shares a b ≡ true)
  unfolding fits shares
  cd-collides s u p q =
      let of : (r : Row) → fits (Cd s u) r ≡ true → (kind r ≡ cd) × (stream r ≡ s) × (substream r ≡ u) =
      λ r t. let two = left (eqb (kind r) cd && eqb (stream r) s) (eqb (substream r) u) t in
      (eqb-true (kind r) cd (left (eqb (kind r) cd) (eqb (stream r) s) two), eqb-true (stream r) s (right (eqb (kind r) cd) (eqb (stream r) s) two), eqb-true (substream r) u (right (eqb (kind r) cd && eqb (stream r) s) (eqb (substream r) u) t)) in
      let x = of a p in
      let y = of b q in
      (x.0 ∙ sym y.0, rw x.0 (and_true (eq-eqb (stream a) (stream b) (x.1 ∙ sym y.1)) (eq-eqb (substream a) (substream b) (x.2 ∙ sym y.2))))

-- what a row of a stage has that fits a lookup
pub record Staged (row : Row) (k v x : ℕ) : Type 0 where
  pub kind_is : kind row ≡ k
  pub vmid_is : vmid row ≡ v
  pub at : covers row x ≡ true

stage2-fits : (row : Row) (v x : ℕ) → fits (Stage2 v x) row ≡ true → Staged row stage2 v x
unfolding fits
stage2-fits row v x t =
    let k = eqb (kind row) stage2 in
    let i = eqb (vmid row) v in
    let two = left (k && i) (covers row x) t in
    record { kind_is = eqb-true (kind row) stage2 (left k i two); vmid_is = eqb-true (vmid row) v (right k i two); at = right (k && i) (covers row x) t }

stage1-fits : (row : Row) (v s x : ℕ) → fits (Stage1 v s x) row ≡ true → Staged row stage1 v x × ((is_global row || eqb (asid row) s) ≡ true)
unfolding fits
stage1-fits row v s x t =
    let k = eqb (kind row) stage1 in
    let i = eqb (vmid row) v in
    let g = is_global row || eqb (asid row) s in
    let three = left (k && i && g) (covers row x) t in
    let two = left (k && i) g three in
    (record { kind_is = eqb-true (kind row) stage1 (left k i two); vmid_is = eqb-true (vmid row) v (right k i two); at = right (k && i && g) (covers row x) t }, right (k && i) g three)

-- rows that take one ASID share it
takes-share : (a b : Row) (s : ℕ) → (is_global a || eqb (asid a) s) ≡ true → (is_global b || eqb (asid b) s) ≡ true → shares_asid a b ≡ true
takes-share a b s p q = by_first (either (is_global a) (eqb (asid a) s) p) (either (is_global b) (eqb (asid b) s) q)
  where
    by_first : (is_global a ≡ true) ⊎ (eqb (asid a) s ≡ true) → (is_global b ≡ true) ⊎ (eqb (asid b) s ≡ true) → shares_asid a b ≡ true
    by_first (inl g) r = or_left (eqb (asid a) (asid b) || is_global a) (is_global b) (or_right (eqb (asid a) (asid b)) (is_global a) g)
    by_first (inr e) (inl g) = or_right (eqb (asid a) (asid b) || is_global a) (is_global b) g
    by_first (inr e) (inr f) =
        or_left (eqb (asid a) (asid b) || is_global a) (is_global b)
        (or_left (eqb (asid a) (asid b)) (is_global a) (eq-eqb (asid a) (asid b) (eqb-true (asid a) s e ∙ sym (eqb-true (asid b) s f))))

module _ (a b : Row) where
  stage-shares : (k v x : ℕ) → Staged a k v x → Staged b k v x → (kind a ≡ kind b) × (shares_stage a b ≡ true)
  stage-shares k v x p q =
      (p.kind_is ∙ sym q.kind_is, and_true (eq-eqb (vmid a) (vmid b) (p.vmid_is ∙ sym q.vmid_is)) (covered_shares a b x p.at q.at))

  fit-share : (w : Wanted) → fits w a ≡ true → fits w b ≡ true → (kind a ≡ kind b) × (shares a b ≡ true)
  unfolding shares
  fit-share (Ste s) p q = ste-collides a b s p q
  fit-share (Cd s u) p q = cd-collides a b s u p q
  fit-share (Stage2 v x) p q =
      let f = stage2-fits a v x p in
      let r = stage-shares stage2 v x f (stage2-fits b v x q) in
      (r.0, rw f.kind_is r.1)
  fit-share (Stage1 v s x) p q =
      let f = stage1-fits a v s x p in
      let g = stage1-fits b v s x q in
      let r = stage-shares stage1 v x f.0 g.0 in
      (r.0, rw f.0.kind_is (and_true r.1 (takes-share a b s f.1 g.1)))

  pub answered-collides : Answered a b → collides a b ≡ true
  answered-collides t =
      let w = t.wanted in
      let s = fit-share w (answers-fits w a t.first) (answers-fits w b t.second) in
      is_both a b (record { first-answers = only_answerers w a t.first; second-answers = only_answerers w b t.second; one-kind = s.0; share = s.1 })

-- in an image without doubles one row at most answers a lookup
pub one-answers : (m : List ℕ) (n : ℕ) → Single m n → (w : Wanted) (i j : ℕ) → i < n → j < n → answers_at m w i ≡ true → answers_at m w j ≡ true → i ≡ j
unfolding answers_at
one-answers m n s w i j h l p q = by_place (ℕ_discrete i j)
  where
    by_place : Dec (i ≡ j) → i ≡ j
    by_place (yes e) = e
    by_place (no d) = clash (answered-collides (row_at m i) (row_at m j) (record { wanted = w; first = p; second = q })) (s i j h l d)

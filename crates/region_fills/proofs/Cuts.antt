-- After any number of cuts the fill that is not cut answers and leaves what one that never was cut does.
-- Assumes nothing.
use mathlib.Core.Path.{◌≡◌, refl, sym, ◌∙◌}
use mathlib.Core.List.{List, [], ◌∷◌}
use mathlib.Core.Logic.{⊎_elim}
use Prim.Native.Nat.{ℕ, ◌≤◌, ◌<◌}
use native.Mathlib.Omega.{arith}
use Rattle.words.specs.Outcomes.{with}
use Rattle.stores.specs.Stores.{after_stores}
use Rattle.stores.proofs.Laws.{after-all}
use Rattle.words.proofs.Truth.{less_or_not}
use Rattle.regions.specs.declared.Region.{Region}
use Rattle.fills.specs.declared.FillEnd.TheVariants.{Filled, Cut}
use Rattle.std.specs.Prelude.{Ok}
use Rattle.region_fills.specs.Fills.{fill_stores, fill}
use Rattle.region_fills.specs.Cuts.{EndsCut, refilled, FillsCut, none, one}
use Rattle.region_fills.proofs.Order.{report-filled}
use Rattle.region_fills.proofs.Laws.{Carried, carried, enough, not_enough, still_carried, fill-again, Goes, stops, stores, which-way}

module _ (m : List ℕ) (row : ℕ) (words : Region) where
  -- a fill that is carried out is cut exactly if it may make fewer than two stores, and all that suffice give the same
  module _ (t : List ℕ) (n k : ℕ) (c : Carried m t n row words) where
    cut_below : EndsCut (fill m t row words k).answer → k < 2
    cut_below cut = ⊎_elim (λ h. h) (λ h. absurd (filled h)) (less_or_not k 2)
      where
        filled : 2 ≤ k → ⊥
        filled h = let e : Filled ≡ Cut = rw (enough m t n row words c k h) at cut in let z : ◌≡◌ {A = ℕ} 0 1 = cc in omega arith

    uncut-from : (EndsCut (fill m t row words k).answer → ⊥) → 2 ≤ k
    uncut-from uncut = ⊎_elim (λ h. absurd (uncut (rw (not_enough m t n row words c k h) refl))) (λ h. h) (less_or_not k 2)

    all_same : 2 ≤ k → fill m t row words k ≡ with (Ok (record { end = Filled; stores = 2 })) (after_stores 2 (fill_stores row words) t)
    all_same h = carried m t n row words c k ∙ rw (report-filled k h, after-all k (fill_stores row words) t h)

  -- nothing refuses it on the way
  pub still-carried-after : (n : ℕ) (ks t : List ℕ) → Carried m t n row words → FillsCut m row words ks t → Carried m (refilled m row words ks t) n row words
  unfolding refilled
  still-carried-after n [] t c none = c
  still-carried-after n (k ∷ ks) t c (one cut more) =
      still-carried-after n ks (fill m t row words k).memory (still_carried m t n row words c k (cut_below t n k c cut)) more

  carried-as-uncut : (n : ℕ) (ks : List ℕ) (k j : ℕ) (t : List ℕ) → Carried m t n row words → FillsCut m row words ks t → 2 ≤ k → 2 ≤ j
      → fill m (refilled m row words ks t) row words k ≡ fill m t row words j
  unfolding refilled
  carried-as-uncut n [] k j t c none h l = all_same t n k c h ∙ sym (all_same t n j c l)
  carried-as-uncut n (a ∷ ks) k j t c (one cut more) h l =
      let below = cut_below t n a c cut in
      carried-as-uncut n ks k j (fill m t row words a).memory (still_carried m t n row words c a below) more h l
      ∙ fill-again m t n row words c a j below l

  -- any number of cuts at any allowances, then a fill that is not cut, refused or not
  pub fill-as-uncut : (ks : List ℕ) (k j : ℕ) (t : List ℕ) → FillsCut m row words ks t
      → (EndsCut (fill m (refilled m row words ks t) row words k).answer → ⊥) → (EndsCut (fill m t row words j).answer → ⊥)
      → fill m (refilled m row words ks t) row words k ≡ fill m t row words j
  unfolding refilled
  fill-as-uncut ks k j t cuts last uncut = by_way (which-way m t row words)
    where
      by_way : Goes m t row words → fill m (refilled m row words ks t) row words k ≡ fill m t row words j
      by_way (stops why e) = by-cuts ks cuts
        where
          by-cuts : (l : List ℕ) → FillsCut m row words l t → fill m (refilled m row words l t) row words k ≡ fill m t row words j
          by-cuts [] none = e k ∙ sym (e j)
          by-cuts (a ∷ l) (one cut c) = absurd (rw (e a) at cut)
      by_way (stores n c) =
          carried-as-uncut n ks k j t c cuts (uncut-from (refilled m row words ks t) n k (still-carried-after n ks t c cuts) last)
          (uncut-from t n j c uncut)

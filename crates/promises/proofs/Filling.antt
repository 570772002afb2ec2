-- Demand 3, of filling: after any number of cuts the fill that is not cut answers and leaves what one that never was does.
-- Assumes nothing.
use mathlib.Core.Path.{◌≡◌, refl, sym, ◌∙◌}
use mathlib.Core.List.{List, [], ◌∷◌}
use mathlib.Core.Logic.{⊎_elim}
use Prim.Native.Nat.{ℕ, ◌≤◌, ◌<◌}
use native.Mathlib.Omega.{arith}
use Rattle.stores.specs.Stores.{after_stores}
use Rattle.words.specs.Outcomes.{with}
use Rattle.stores.proofs.Laws.{after-all}
use Rattle.words.proofs.Truth.{less_or_not}
use Rattle.rows.specs.declared.Row.{Row}
use Rattle.fills.specs.declared.FillEnd.TheVariants.{Filled, Cut}
use Rattle.std.specs.Prelude.{Ok}
use Rattle.fills.specs.Fills.{fill_stores, fill}
use Rattle.fills.proofs.Laws.{Carried, left_by, enough, not_enough, still_carried, fill-again, Goes, stops, stores, which-way}
use Rattle.promises.specs.Filling.{EndsCut, refilled, FillsCut, none, one}

module _ (row : ℕ) (words : Row) where
  -- a fill that is carried out is cut exactly if it may make fewer than four stores
  cut_below : (m : List ℕ) (n k : ℕ) → Carried m n row words → EndsCut (fill m row words k).answer → k < 4
  cut_below m n k c cut = ⊎_elim (λ h. h) (λ h. absurd (filled h)) (less_or_not k 4)
    where
      filled : 4 ≤ k → ⊥
      filled h = let e : Filled ≡ Cut = rw (enough m n row words c k h) at cut in let z : ◌≡◌ {A = ℕ} 0 1 = cc in omega arith

  uncut-from : (m : List ℕ) (n k : ℕ) → Carried m n row words → (EndsCut (fill m row words k).answer → ⊥) → 4 ≤ k
  uncut-from m n k c uncut = ⊎_elim (λ h. absurd (uncut (rw (not_enough m n row words c k h) refl))) (λ h. h) (less_or_not k 4)

  -- nothing refuses it on the way
  pub still-carried-after : (n : ℕ) (ks m : List ℕ) → Carried m n row words → FillsCut row words ks m → Carried (refilled row words ks m) n row words
  unfolding refilled
  still-carried-after n [] m c none = c
  still-carried-after n (k ∷ ks) m c (one cut more) =
      still-carried-after n ks (fill m row words k).memory (still_carried m n row words c k (cut_below m n k c cut)) more

  -- two allowances that suffice give the same
  uncut-same : (m : List ℕ) (n k j : ℕ) → Carried m n row words → 4 ≤ k → 4 ≤ j → fill m row words k ≡ fill m row words j
  uncut-same m n k j c h l = whole k h ∙ sym (whole j l)
    where
      whole : (a : ℕ) → 4 ≤ a → fill m row words a ≡ with (Ok (record { end = Filled; stores = 4 })) (after_stores 4 (fill_stores row words) m)
      whole a b =
          let answer = enough m n row words c a b in
          let memory = left_by m n row words c a ∙ after-all a (fill_stores row words) m b in
          λ i. record { answer = answer i; memory = memory i }

  carried-as-uncut : (n : ℕ) (ks : List ℕ) (k j : ℕ) (m : List ℕ) → Carried m n row words → FillsCut row words ks m → 4 ≤ k → 4 ≤ j
      → fill (refilled row words ks m) row words k ≡ fill m row words j
  unfolding refilled
  carried-as-uncut n [] k j m c none h l = uncut-same m n k j c h l
  carried-as-uncut n (a ∷ ks) k j m c (one cut more) h l =
      let below = cut_below m n a c cut in
      carried-as-uncut n ks k j (fill m row words a).memory (still_carried m n row words c a below) more h l
      ∙ fill-again m n row words c a j below l

  -- any number of cuts at any allowances, then a fill that is not cut, refused or not
  pub fill-as-uncut : (ks : List ℕ) (k j : ℕ) (m : List ℕ) → FillsCut row words ks m
      → (EndsCut (fill (refilled row words ks m) row words k).answer → ⊥) → (EndsCut (fill m row words j).answer → ⊥)
      → fill (refilled row words ks m) row words k ≡ fill m row words j
  unfolding refilled
  fill-as-uncut ks k j m cuts last uncut = by_way (which-way m row words)
    where
      by_way : Goes m row words → fill (refilled row words ks m) row words k ≡ fill m row words j
      by_way (stops why e) = by-cuts ks cuts
        where
          by-cuts : (l : List ℕ) → FillsCut row words l m → fill (refilled row words l m) row words k ≡ fill m row words j
          by-cuts [] none = e k ∙ sym (e j)
          by-cuts (a ∷ l) (one cut c) = absurd (rw (e a) at cut)
      by_way (stores n c) =
          carried-as-uncut n ks k j m c cuts (uncut-from (refilled row words ks m) n k (still-carried-after n ks m c cuts) last) (uncut-from m n j c uncut)

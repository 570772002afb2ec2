-- A write that is cut and made again: after any number of cuts the one that is not cut answers and leaves what one that never was
-- cut does.
-- Assumes nothing.
use mathlib.Core.Path.{◌≡◌, refl, sym, ap, ◌∙◌}
use mathlib.Core.Bool.{Bool, true, false}
use mathlib.Core.List.{List, [], ◌∷◌}
use mathlib.Core.Logic.{⊎_elim}
use Prim.Native.Nat.{ℕ, ◌≤◌, ◌<◌}
use native.Mathlib.Omega.{arith}
use lib.ListN.{length}
use Rattle.words.specs.Outcomes.{Outcome, with}
use Rattle.stores.specs.declared.Store.{Store}
use Rattle.stores.specs.Stores.{after_stores}
use Rattle.stores.proofs.Laws.{after_none, after-all, over_cut}
use Rattle.words.proofs.Truth.{less_or_not}
use Rattle.events.specs.declared.Refusal.{Refusal}
use Rattle.std.specs.Prelude.{Err, Ok, Result}
use Rattle.event_calls.specs.declared.Writing.{Writing}
use Rattle.events.specs.Word.{outstanding, is_full}
use Rattle.events.specs.Events.{index_of, record_of, check}
use Rattle.events.proofs.Checks.{Accepts, accepts, says}
use Rattle.event_calls.specs.declared.WriteEnd.{WriteEnd}
use Rattle.event_calls.specs.declared.WriteEnd.TheVariants.{Cut}
use Rattle.event_calls.specs.Calls.{drop_stores, due_stores, end_of, write}
use Rattle.event_calls.specs.Told.{Ends, rewritten, WritesCut, none, one}
use Rattle.event_calls.proofs.Order.{report-cut, report-all}
use Rattle.event_calls.proofs.Cases.{done, write-refused, write-due}
use Rattle.event_calls.proofs.Written.{stored-index-cut}
use Rattle.event_calls.proofs.Laws.{write-accepted}

-- no write that made all its stores is cut
end_uncut : (w : ℕ) → end_of w ≡ Cut → ⊥
unfolding end_of
end_uncut w = by_test (is_full w) refl
  where
    by_test : (b : Bool) → is_full w ≡ b → end_of w ≡ Cut → ⊥
    by_test true t e = let z : ◌≡◌ {A = ℕ} 0 1 = cc (rw t at e) in omega arith
    by_test false t e = let z : ◌≡◌ {A = ℕ} 0 1 = cc (rw t at e) in omega arith

-- carried out, it is cut exactly if it may make fewer stores than are due; and all that suffice give the same
module _ (m : List ℕ) (ss : List Store) (end : WriteEnd) (uncut : end ≡ Cut → ⊥) (k : ℕ) where
  cut_below : Ends Cut (done m ss end k).answer → k < length ss
  cut_below cut = ⊎_elim (λ h. h) (λ h. absurd (uncut (rw (report-all ss end k h) at cut))) (less_or_not k (length ss))

  all_from : (Ends Cut (done m ss end k).answer → ⊥) → length ss ≤ k
  all_from last = ⊎_elim (λ h. absurd (last (rw (report-cut ss end k h) refl))) (λ h. h) (less_or_not k (length ss))

  all_same : length ss ≤ k → done m ss end k ≡ with (Ok (record { end = end; stores = length ss })) (after_stores (length ss) ss m)
  all_same h = rw (report-all ss end k h, after-all k ss m h)

-- a drop makes one store at most
drops_once : (w : ℕ) → length (drop_stores w) ≤ 1
unfolding drop_stores
drops_once w = by_flag (outstanding w) refl
  where
    by_flag : (b : Bool) → outstanding w ≡ b → length (drop_stores w) ≤ 1
    by_flag true t = rw t (omega arith)
    by_flag false t = rw t (omega arith)

module _ (bytes : List ℕ) where
  -- what is due in a memory, and how it ends
  abbrev due : List ℕ → List Store
  due m = due_stores (index_of m) (record_of bytes)

  abbrev ends : List ℕ → WriteEnd
  ends m = end_of (index_of m)

  -- a cut leaves the index word, so that the same stores are due again
  index-waits : (m : List ℕ) (n k : ℕ) → Accepts m n → k < length (due m) → index_of (after_stores k (due m) m) ≡ index_of m
  unfolding due_stores
  index-waits m n k a = by_room (is_full (index_of m)) refl
    where
      by_room : (b : Bool) → is_full (index_of m) ≡ b → k < length (due m) → index_of (after_stores k (due m) m) ≡ index_of m
      by_room true t h =
          let z : k ≡ 0 = omega (arith, drops_once (index_of m), rw t at h) in
          rw (z, after_none (due m) m)
      by_room false t h = rw t (stored-index-cut m n (record_of bytes) a t k (rw t at h))

  -- a write is refused whatever its allowance is, or makes the stores that are due
  data Goes (m : List ℕ) : Type 0 where
    stops : (why : Refusal) → ((k : ℕ) → write m bytes k ≡ with (Err why) m) → Goes m
    goes : (n : ℕ) → Accepts m n → ((k : ℕ) → write m bytes k ≡ done m (due m) (ends m) k) → Goes m

  which-way : (m : List ℕ) → Goes m
  which-way m = by_check (check m) refl
    where
      by_check : (c : Result ℕ Refusal) → check m ≡ c → Goes m
      by_check (Err why) e = stops why (λ k. write-refused m bytes k why e)
      by_check (Ok n) e = goes n ((says m).accepted n e) (λ k. write-due m bytes k n e)

  -- two allowances that suffice give the same
  uncut-same : (m : List ℕ) (k j : ℕ) → (Ends Cut (write m bytes k).answer → ⊥) → (Ends Cut (write m bytes j).answer → ⊥) → write m bytes k ≡ write m bytes j
  uncut-same m k j last uncut = by_way (which-way m)
    where
      whole : (a : ℕ) → ((b : ℕ) → write m bytes b ≡ done m (due m) (ends m) b) → (Ends Cut (write m bytes a).answer → ⊥)
          → write m bytes a ≡ with (Ok (record { end = ends m; stores = length (due m) })) (after_stores (length (due m)) (due m) m)
      whole a e u =
          e a ∙ all_same m (due m) (ends m) (end_uncut (index_of m)) a (all_from m (due m) (ends m) (end_uncut (index_of m)) a (rw (e a) at u))

      by_way : Goes m → write m bytes k ≡ write m bytes j
      by_way (stops why e) = e k ∙ sym (e j)
      by_way (goes n a e) = whole k e last ∙ sym (whole j e uncut)

  -- one cut, and the write made again
  pub write_again : (m : List ℕ) (k j : ℕ) → Ends Cut (write m bytes k).answer → (Ends Cut (write m bytes j).answer → ⊥)
      → write (write m bytes k).memory bytes j ≡ write m bytes j
  write_again m k j cut uncut = by_way (which-way m)
    where
      by_way : Goes m → write (write m bytes k).memory bytes j ≡ write m bytes j
      by_way (stops why e) = absurd (rw (e k) at cut)
      by_way (goes n a e) =
          let ss = due m in
          let m' = after_stores k ss m in
          let below : k < length ss = cut_below m ss (ends m) (end_uncut (index_of m)) k (rw (e k) at cut) in
          let enough : length ss ≤ j = all_from m ss (ends m) (end_uncut (index_of m)) j (rw (e j) at uncut) in
          let left : (write m bytes k).memory ≡ m' = ap (λ (o : Outcome (List ℕ) (Result Writing Refusal)). o.memory) (e k) in
          let b : Accepts m' n = rw (← left) (write-accepted m bytes k n a) in
          ap (λ (l : List ℕ). write l bytes j) left ∙ write-due m' bytes j n (accepts m' n b)
          ∙ ap (λ (v : ℕ). done m' (due_stores v (record_of bytes)) (end_of v) j) (index-waits m n k a below)
          ∙ all_same m' ss (ends m) (end_uncut (index_of m)) j enough
          ∙ ap (with (Ok (record { end = ends m; stores = length ss }))) (over_cut k ss m (omega arith))
          ∙ sym (e j ∙ all_same m ss (ends m) (end_uncut (index_of m)) j enough)

  -- any number of cuts at any allowances, then a write that is not cut, refused or not
  pub write-as-uncut : (ks : List ℕ) (k j : ℕ) (m : List ℕ) → WritesCut bytes ks m
      → (Ends Cut (write (rewritten bytes ks m) bytes k).answer → ⊥) → (Ends Cut (write m bytes j).answer → ⊥)
      → write (rewritten bytes ks m) bytes k ≡ write m bytes j
  unfolding rewritten
  write-as-uncut [] k j m none last uncut = uncut-same m k j last uncut
  write-as-uncut (a ∷ ks) k j m (one cut more) last uncut =
      let again = write_again m a j cut uncut in
      write-as-uncut ks k j (write m bytes a).memory more last (rw (← again) at uncut) ∙ again

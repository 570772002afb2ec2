-- What a command's words are after each field, code by code.
-- Assumes nothing.
use mathlib.Core.Path.{◌≡◌, refl, sym, ap, ap₂, ◌∙◌}
use mathlib.Core.List.{List, [], ◌∷◌, map}
use Prim.Native.Nat.{ℕ, ◌^◌, ◌<◌}
use native.Mathlib.Nat.{div-add-mod'}
use lib.ListN.{get_or}
use lib.Pow.{high, low}
use Rattle.words.specs.Parts.{joined}
use Rattle.words.specs.Ranges.{set, puts}
use Rattle.words.specs.Search.{place_of}
use Rattle.commands.proofs.Codes.{NoneOf, no_place}
use Rattle.commands.specs.declared.Coded.{Coded}
use Rattle.writer.specs.Layouts.{Named, number_of, bits_of, code, stream, substream, range, leaf, vmid, asid, page, ipa_page, dpt_page, cs, num, scale, tg, ttl, ttl128, size, ranged, layouts, fields_in, keys, layout_of}
use Rattle.writer.specs.Writing.{asked, entries, whole, split, encoded}

-- two words as one number, and back
pub whole_split : (n : ℕ) → whole (split n) ≡ n
unfolding joined
whole_split n = div-add-mod' n (2 ^ 64)

pub split-whole : (lo hi : ℕ) → lo < 2 ^ 64 → split (joined lo hi) ≡ record { lo = lo; hi = hi }
unfolding joined
split-whole lo hi h = ap₂ (λ (x y : ℕ). record { lo = x; hi = y }) (low hi 64 h) (high hi 64 h)

module _ (d : List ℕ) where
  -- the code alone; and one field more
  abbrev pub Starts : Coded → Type 0
  Starts a = a ≡ split (set (bits_of code) (asked d (number_of code)) (joined 0 0))

  abbrev pub After : Named → Coded → Coded → Type 0
  After n a b = b ≡ split (set (bits_of n) (asked d (number_of n)) (whole a))

  abbrev pub Ranged : Coded → Coded → Type 0
  Ranged a b = b ≡ split (puts (entries ranged d) (whole a))

  -- the number that a command is after one
  is : {b : Coded} {n : ℕ} → b ≡ split n → whole b ≡ n
  is {n = n} e = ap whole e ∙ whole_split n

  -- t is what the words in a become by the fields still to come
  abbrev Left : ℕ → Coded → List Named → Type 0
  Left t a fs = t ≡ puts (entries fs d) (whole a)

  by_code : (k : ℕ) → asked d 0 ≡ k → encoded d ≡ puts (entries (layout_of k) d) 0
  unfolding encoded
  by_code k e = ap (λ (n : ℕ). puts (entries (layout_of n) d) 0) e

  begins : (k : ℕ) (a : Coded) → asked d 0 ≡ k → Starts a → Left (encoded d) a (get_or (map fields_in layouts) (place_of keys k) [])
  unfolding joined
  begins k a e p = by_code k e ∙ ap (puts (entries (get_or (map fields_in layouts) (place_of keys k) []) d)) (sym (is p))

  goes : {t : ℕ} {b : Coded} (a : Coded) (n : Named) (fs : List Named) → Left t a (n ∷ fs) → After n a b → Left t b fs
  goes a n fs l p = l ∙ ap (puts (entries fs d)) (sym (is p))

  ends : {t : ℕ} {b : Coded} (a : Coded) (n : Named) → Left t a (n ∷ []) → After n a b → b ≡ split t
  ends a n l p = p ∙ ap split (sym l)

  ends-ranged : {t : ℕ} {b : Coded} (a : Coded) → Left t a ranged → Ranged a b → b ≡ split t
  ends-ranged a l p = p ∙ ap split (sym l)

  pub has-ranged : (a b c x y z w : Coded) → After leaf a b → After num b c → After scale c x → After tg x y → After ttl y z → After ttl128 z w → Ranged a w
  has-ranged a b c x y z w o p q r s t =
      let o' : Left (puts (entries ranged d) (whole a)) b (num ∷ scale ∷ tg ∷ ttl ∷ ttl128 ∷ []) = goes a leaf (num ∷ scale ∷ tg ∷ ttl ∷ ttl128 ∷ []) refl o in
      let q' = goes c scale (tg ∷ ttl ∷ ttl128 ∷ []) (goes b num (scale ∷ tg ∷ ttl ∷ ttl128 ∷ []) o' p) q in
      ends z ttl128 (goes y ttl (ttl128 ∷ []) (goes x tg (ttl ∷ ttl128 ∷ []) q' r) s) t

  pub has-03 : (a b c : Coded) → asked d 0 ≡ 0x03 → Starts a → After stream a b → After leaf b c → c ≡ split (encoded d)
  has-03 a b c e p q r = ends b leaf (goes a stream (leaf ∷ []) (begins 0x03 a e p) q) r

  pub has-04 : (a b c : Coded) → asked d 0 ≡ 0x04 → Starts a → After stream a b → After range b c → c ≡ split (encoded d)
  has-04 a b c e p q r = ends b range (goes a stream (range ∷ []) (begins 0x04 a e p) q) r

  pub has-05 : (a b c x : Coded) → asked d 0 ≡ 0x05 → Starts a → After stream a b → After substream b c → After leaf c x → x ≡ split (encoded d)
  has-05 a b c x e p q r s = ends c leaf (goes b substream (leaf ∷ []) (goes a stream (substream ∷ leaf ∷ []) (begins 0x05 a e p) q) r) s

  pub has-06 : (a b : Coded) → asked d 0 ≡ 0x06 → Starts a → After stream a b → b ≡ split (encoded d)
  has-06 a b e p q = ends a stream (begins 0x06 a e p) q

  pub has-10 : (a b : Coded) → asked d 0 ≡ 0x10 → Starts a → After vmid a b → b ≡ split (encoded d)
  has-10 a b e p q = ends a vmid (begins 0x10 a e p) q

  pub has-11 : (a b c : Coded) → asked d 0 ≡ 0x11 → Starts a → After vmid a b → After asid b c → c ≡ split (encoded d)
  has-11 a b c e p q r = ends b asid (goes a vmid (asid ∷ []) (begins 0x11 a e p) q) r

  pub has-12 : (a b c x y : Coded) → asked d 0 ≡ 0x12 → Starts a → After vmid a b → After asid b c → After page c x → Ranged x y → y ≡ split (encoded d)
  has-12 a b c x y e p q r s t = ends-ranged x (goes c page ranged (goes b asid (page ∷ ranged) (goes a vmid (asid ∷ page ∷ ranged) (begins 0x12 a e p) q) r) s) t

  pub has-13 : (a b c x : Coded) → asked d 0 ≡ 0x13 → Starts a → After vmid a b → After page b c → Ranged c x → x ≡ split (encoded d)
  has-13 a b c x e p q r s = ends-ranged c (goes b page ranged (goes a vmid (page ∷ ranged) (begins 0x13 a e p) q) r) s

  pub has-21 : (a b : Coded) → asked d 0 ≡ 0x21 → Starts a → After asid a b → b ≡ split (encoded d)
  has-21 a b e p q = ends a asid (begins 0x21 a e p) q

  pub has-22 : (a b c x : Coded) → asked d 0 ≡ 0x22 → Starts a → After asid a b → After page b c → Ranged c x → x ≡ split (encoded d)
  has-22 a b c x e p q r s = ends-ranged c (goes b page ranged (goes a asid (page ∷ ranged) (begins 0x22 a e p) q) r) s

  pub has-23 : (a b c : Coded) → asked d 0 ≡ 0x23 → Starts a → After page a b → Ranged b c → c ≡ split (encoded d)
  has-23 a b c e p q r = ends-ranged b (goes a page ranged (begins 0x23 a e p) q) r

  pub has-28 : (a b : Coded) → asked d 0 ≡ 0x28 → Starts a → After vmid a b → b ≡ split (encoded d)
  has-28 a b e p q = ends a vmid (begins 0x28 a e p) q

  pub has-2A : (a b c x : Coded) → asked d 0 ≡ 0x2A → Starts a → After vmid a b → After ipa_page b c → Ranged c x → x ≡ split (encoded d)
  has-2A a b c x e p q r s = ends-ranged c (goes b ipa_page ranged (goes a vmid (ipa_page ∷ ranged) (begins 0x2A a e p) q) r) s

  pub has-46 : (a b : Coded) → asked d 0 ≡ 0x46 → Starts a → After cs a b → b ≡ split (encoded d)
  has-46 a b e p q = ends a cs (begins 0x46 a e p) q

  pub has-73 : (a b c x : Coded) → asked d 0 ≡ 0x73 → Starts a → After leaf a b → After dpt_page b c → After size c x → x ≡ split (encoded d)
  has-73 a b c x e p q r s = ends c size (goes b dpt_page (size ∷ []) (goes a leaf (dpt_page ∷ size ∷ []) (begins 0x73 a e p) q) r) s

  -- a code that is not listed has no fields
  pub has-none : (a : Coded) → NoneOf Unit keys (asked d 0) → Starts a → a ≡ split (encoded d)
  unfolding encoded joined
  has-none a n p =
      p ∙ ap (λ (k : ℕ). split (puts (entries (code ∷ get_or (map fields_in layouts) k []) d) 0)) (no_place Unit keys (asked d 0) n)

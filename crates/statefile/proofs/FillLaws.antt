-- The ways through the loops that read lines into a slice: the lines read so far and what the slice holds of them (`Filling`), one line more, and the
-- end, for any form of line; then for pairs and for heights. Assumes nothing.
use mathlib.Core.Path.{◌≡◌, refl, sym, ap, ◌∙◌, subst}
use mathlib.Core.List.{List, [], ◌∷◌, ◌++◌, append_assoc, append-nil, map}
use Prim.Native.Nat.{ℕ, suc, ◌+◌, ◌-◌, ◌*◌, ◌≤◌, ◌<◌, min}
use native.Mathlib.Nat.{add-zero, sub-zero, mul-zero}
use native.Mathlib.Numerals.{add-one}
use native.Mathlib.Omega.{arith}
use lib.ListN.{length, length-drop, set, take, drop, replicate, length-set, length-append, length-map, length-replicate, take-append-drop}
use lib.Seq.{drop-cons, drop-drop, take_at, drop_at, set_at, set_out, length-take-le}
use lib.Ieee.{Float, binary64, of_bits}
use Rattle.text.specs.Rules.{Rule, malformed, parsed}
use Rattle.text.specs.Places.{numbered}
use Rattle.tree.specs.Tree.{no_node}
use Rattle.forms.specs.Forms.{pair_line, height_line}
use Rattle.forms.specs.Given.{paired}
use Rattle.statefile.specs.Lines.{wrong, found, each}
use Rattle.statefile.specs.StateFile.{slots, with_tips, real, nodes_for}
use Rattle.statefile.specs.SlotLaws.{slots-long}
use Rattle.statefile.specs.EachLaws.{after, after_none, after-after, each_none, each-wrong, each_more}
use Rattle.statefile.specs.Given.{Stored, pairs_stored, heights_stored, Marked, planted}
use Rattle.std.specs.Prelude.{Option, Some, None, Result, Ok, Err}
use Rattle.std.specs.Option.{ok_or}
use Rattle.statefile.specs.Given.{wrong_line}
use Rattle.statefile.specs.declared.WrongLine.{WrongLine}

-- ---- a line that is not of its form

pub missed : {A : Type 0} (o : Option A) (w e : WrongLine) → Err e ≡ ok_or o w → o ≡ None → e ≡ w
missed None w e q n = cc
missed (Some a) w e q n = cc

-- ---- a slice

pub store-past : {B : Type 0} (l : List B) (i : ℕ) (x : B) → length l ≤ i → l ≡ set l i x
store-past l i x h = sym (set_out l i x h)

pub store_both : {B : Type 0} (l m n : List B) (i : ℕ) (x y : B) → m ≡ set l i x → n ≡ set m (i + 1) y → n ≡ set (set l i x) (i + 1) y
store_both l m n i x y p q = q ∙ ap (λ v. set v (i + 1) y) p

pub ruleset store_laws = (store-past, store_both)

-- the place after the first ones, stored
store-next : {B : Type 0} (p l : List B) (n : ℕ) (x : B) → length p ≡ n → n < length l → set (p ++ drop n l) n x ≡ (p ++ x ∷ []) ++ drop (n + 1) l
store-next p l n x e h =
    ap (λ v. set (p ++ v) n x) (drop-cons l n x h)
    ∙ set_at p _ (drop (suc n) l) x n e
    ∙ rw add-one (sym (append_assoc p (x ∷ []) (drop (suc n) l)))

-- ---- lines of any form

-- the entries that lines put one after the other, so many each
pub record Putting {A B : Type 0} (put : List A → List B) (width : ℕ) : Type 0 where
  pub nothing : put [] ≡ []
  pub more : (l : List A) (a : A) → put (l ++ a ∷ []) ≡ put l ++ put (a ∷ [])
  pub long : (l : List A) → length (put l) ≡ width * length l

-- k lines are read, up to the place j of the file s
pub record Filling {A B : Type 0} (put : List A → List B) (width : ℕ) (rule : Rule A) (count first : ℕ) (t s : List ℕ) (from : ℕ) (out₀ : List B) (k j : ℕ) (out : List B) : Type 0 where
  pub values : List A
  pub long : length values ≡ k
  pub few : k ≤ count
  pub rest : each count rule first t ≡ after values (each (count - k) rule (first + k) (drop j s))
  pub same : length out ≡ length out₀
  pub held : from + width * k ≤ length out₀ → out ≡ take from out₀ ++ put values ++ drop (from + width * k) out₀

module _ {A B : Type 0} (put : List A → List B) (width : ℕ) (is : Putting put width) (rule : Rule A) (count first : ℕ) (t s : List ℕ) (from : ℕ) (out₀ : List B) where
  none_yet : (at : ℕ) → t ≡ drop at s → Filling put width rule count first t s from out₀ 0 at out₀
  none_yet at e = record {
    values = [];
    long = refl;
    few = omega arith;
    rest = rw (sub-zero, add-zero, ← e) (sym (after_none (each count rule first t)));
    same = refl;
    held = λ h. rw (mul-zero, add-zero, is.nothing, append-nil) (sym (take-append-drop from out₀));
  }

  module _ (k j : ℕ) (out : List B) (f : Filling put width rule count first t s from out₀ k j out) where
    module _ (h : k < count) where
      left : count - k ≡ suc (count - (k + 1))
      left = omega arith

      stops : malformed ≡ rule (drop j s) → each count rule first t ≡ wrong (first + k)
      stops e =
          let w : each (count - k) rule (first + k) (drop j s) ≡ wrong (first + k) = rw left (each-wrong rule (count - (k + 1)) (first + k) (drop j s) e) in
          f.rest ∙ ap (after f.values) w

      one_more : (x : A) (i : ℕ) (out' : List B) → parsed x (drop i s) ≡ rule (drop j s) → length out' ≡ length out
          → (from + width * (k + 1) ≤ length out₀ → out' ≡ take from out₀ ++ put (f.values ++ x ∷ []) ++ drop (from + width * (k + 1)) out₀)
          → Filling put width rule count first t s from out₀ (k + 1) i out'
      one_more x i out' e l g = record {
        values = f.values ++ x ∷ [];
        long = length-append f.values (x ∷ []) ∙ ap (λ (n : ℕ). n + 1) f.long;
        few = omega arith;
        rest = f.rest ∙ ap (after f.values) here ∙ after-after f.values (x ∷ []) (each (count - (k + 1)) rule (first + (k + 1)) (drop i s));
        same = l ∙ f.same;
        held = g;
      }
        where
          here : each (count - k) rule (first + k) (drop j s) ≡ after (x ∷ []) (each (count - (k + 1)) rule (first + (k + 1)) (drop i s))
          here =
              let q : suc (first + k) ≡ first + (k + 1) = omega arith in
              rw (left, ← q) (each_more rule (count - (k + 1)) (first + k) (drop j s) x (drop i s) e)

    all : count ≤ k → Stored put width count (each count rule first t) (first + count) (drop j s) from out₀ out
    all h =
        let q : k ≡ count = omega (arith, f.few) in
        let z : count - k ≡ 0 = omega arith in
        let ends : after f.values (each (count - k) rule (first + k) (drop j s)) ≡ found f.values (first + count) (drop j s)
        = rw (z, each_none rule (first + k) (drop j s), append-nil f.values, q) in
        record { values = f.values; are = f.rest ∙ ends; long = f.long ∙ q; held = rw q at f.held }

-- ---- pairs

pairs-more : (l : List (ℕ × ℕ)) (x : ℕ × ℕ) → slots (l ++ x ∷ []) ≡ slots l ++ slots (x ∷ [])
unfolding slots
pairs-more [] (a, b) = refl
pairs-more ((c, d) ∷ l) x = ap (λ (m : List ℕ). c ∷ d ∷ m) (pairs-more l x)

pairs-put : Putting slots 2
unfolding slots
pairs-put = record { nothing = refl; more = pairs-more; long = slots-long }

pairs-joined : (p : List ℕ) (l : List (ℕ × ℕ)) (a b : ℕ) → ((p ++ slots l) ++ a ∷ []) ++ b ∷ [] ≡ p ++ slots (l ++ (a, b) ∷ [])
unfolding slots
pairs-joined p l a b = rw (pairs-more l (a, b)) (simp append_assoc)

abbrev pub PairsFilling : ℕ → ℕ → ℕ → List ℕ → ℕ → List ℕ → ℕ → ℕ → List ℕ → Type 0
PairsFilling count first at s from out₀ k j out = Filling slots 2 pair_line count first (drop at s) s from out₀ k j out

module _ (count first at : ℕ) (s : List ℕ) (from : ℕ) (out₀ : List ℕ) where
  pub pairs-none : PairsFilling count first at s from out₀ 0 at out₀
  pairs-none = none_yet slots 2 pairs-put pair_line count first (drop at s) s from out₀ at refl

  module _ (k j : ℕ) (out : List ℕ) (f : PairsFilling count first at s from out₀ k j out) where
    pub pairs_end : count ≤ k → pairs_stored count first at s from out₀ (Ok j) out
    pairs_end h = all slots 2 pairs-put pair_line count first (drop at s) s from out₀ k j out f h

    module _ (h : k < count) (r : Option (ℕ × ℕ × ℕ)) (e : paired s r ≡ pair_line (drop j s)) where
      pub pairs-wrong : r ≡ None → pairs_stored count first at s from out₀ (Err (wrong_line (first + k))) out
      pairs-wrong m = stops slots 2 pairs-put pair_line count first (drop at s) s from out₀ k j out f h (sym (ap (paired s) m) ∙ e)

      pub pairs_next : (a b i : ℕ) (p : List ℕ) → r ≡ Some (a, b, i) → p ≡ set (set out (from + k + k) a) (from + k + k + 1) b → PairsFilling count first at s from out₀ (k + 1) i p
      pairs_next a b i p m ep = one_more slots 2 pairs-put pair_line count first (drop at s) s from out₀ k j out f h (a, b) i p (sym (ap (paired s) m) ∙ e) same held
        where
          same : length p ≡ length out
          same = ap length ep ∙ length-set (set out (from + k + k) a) (from + k + k + 1) b ∙ length-set out (from + k + k) a

          held : from + 2 * (k + 1) ≤ length out₀ → p ≡ take from out₀ ++ slots (f.values ++ (a, b) ∷ []) ++ drop (from + 2 * (k + 1)) out₀
          held g =
              let n = from + k + k in
              let twice : from + 2 * k ≡ n = omega arith in
              let more : from + 2 * (k + 1) ≡ n + 1 + 1 = omega arith in
              let room : n < length out₀ = omega arith in
              let room' : n + 1 < length out₀ = omega arith in
              let q = take from out₀ ++ slots f.values in
              let long : length q ≡ n = length-append (take from out₀) (slots f.values) ∙ (λ i. length-take-le from out₀ (omega arith) i + slots-long f.values i) ∙ ap (λ (x : ℕ). from + 2 * x) f.long ∙ twice in
              let long' : length (q ++ a ∷ []) ≡ n + 1 = length-append q (a ∷ []) ∙ ap (λ (x : ℕ). x + 1) long in
              let was : out ≡ q ++ drop n out₀ = f.held (omega arith) ∙ ap (λ (x : ℕ). q ++ drop x out₀) twice in
              let one : set out n a ≡ (q ++ a ∷ []) ++ drop (n + 1) out₀ = ap (λ (x : List ℕ). set x n a) was ∙ store-next q out₀ n a long room in
              let both : p ≡ ((q ++ a ∷ []) ++ b ∷ []) ++ drop (n + 1 + 1) out₀ = ep ∙ ap (λ (x : List ℕ). set x (n + 1) b) one ∙ store-next (q ++ a ∷ []) out₀ (n + 1) b long' room' in
              both ∙ (λ i. pairs-joined (take from out₀) f.values a b i ++ drop (sym more i) out₀)

pub ruleset pairs_laws = (pairs-none, pairs_end, pairs-wrong, pairs_next)

-- ---- heights

heights-more : (l : List ℕ) (w : ℕ) → map real (l ++ w ∷ []) ≡ map real l ++ map real (w ∷ [])
heights-more [] w = refl
heights-more (v ∷ l) w = ap (λ (m : List Float). real v ∷ m) (heights-more l w)

heights-put : Putting (map real) 1
heights-put = record { nothing = refl; more = heights-more; long = λ l. length-map l real ∙ omega arith }

abbrev pub HeightsFilling : ℕ → ℕ → ℕ → List ℕ → List Float → ℕ → ℕ → List Float → Type 0
HeightsFilling count first at s out₀ k j out = Filling (map real) 1 height_line count first (drop at s) s 0 out₀ k j out

module _ (count first at : ℕ) (s : List ℕ) (out₀ : List Float) where
  pub heights-none : HeightsFilling count first at s out₀ 0 at out₀
  heights-none = none_yet (map real) 1 heights-put height_line count first (drop at s) s 0 out₀ at refl

  module _ (k j : ℕ) (out : List Float) (f : HeightsFilling count first at s out₀ k j out) where
    pub heights-end : count ≤ k → heights_stored count first at s out₀ (Ok j) out
    heights-end h = all (map real) 1 heights-put height_line count first (drop at s) s 0 out₀ k j out f h

    module _ (h : k < count) (r : Option (ℕ × ℕ)) (e : numbered s r ≡ height_line (drop j s)) where
      pub heights-wrong : r ≡ None → heights_stored count first at s out₀ (Err (wrong_line (first + k))) out
      heights-wrong m = stops (map real) 1 heights-put height_line count first (drop at s) s 0 out₀ k j out f h (sym (ap (numbered s) m) ∙ e)

      pub heights-next : (w i : ℕ) (x : Float) (o : List Float) → r ≡ Some (w, i) → x ≡ of_bits binary64 w → o ≡ set out k x → HeightsFilling count first at s out₀ (k + 1) i o
      heights-next w i x o m ex eo = one_more (map real) 1 heights-put height_line count first (drop at s) s 0 out₀ k j out f h w i o (sym (ap (numbered s) m) ∙ e) same held
        where
          same : length o ≡ length out
          same = ap length eo ∙ length-set out k x

          held : 0 + 1 * (k + 1) ≤ length out₀ → o ≡ [] ++ map real (f.values ++ w ∷ []) ++ drop (0 + 1 * (k + 1)) out₀
          held g =
              let once : 0 + 1 * k ≡ k = omega arith in
              let more : 0 + 1 * (k + 1) ≡ k + 1 = omega arith in
              let q = map real f.values in
              let was : out ≡ q ++ drop k out₀ = f.held (omega arith) ∙ ap (λ (x : ℕ). q ++ drop x out₀) once in
              let now : o ≡ (q ++ x ∷ []) ++ drop (k + 1) out₀ = eo ∙ ap (λ (l : List Float). set l k x) was ∙ store-next q out₀ k x (length-map f.values real ∙ f.long) (omega arith) in
              now ∙ (λ i. (ap (λ (y : Float). q ++ y ∷ []) ex ∙ sym (heights-more f.values w)) i ++ drop (sym more i) out₀)

pub ruleset heights_laws = (heights-none, heights-end, heights-wrong, heights-next)

-- ---- marks, and then pairs

pub marks-made : (count : ℕ) (out₀ : List ℕ) (m : ℕ) → m ≡ min count (length out₀) → (part : List ℕ) → part ≡ replicate (length (take m out₀)) no_node
    → Marked count out₀ (part ++ drop m out₀)
marks-made count out₀ m e part f =
    let t : length (take m out₀) ≡ m = length-take-le m out₀ (omega arith) in
    let p : length part ≡ m = ap length f ∙ length-replicate {A = ℕ} (length (take m out₀)) no_node ∙ t in
    record {
      same = length-append part (drop m out₀) ∙ (λ i. p i + length-drop m out₀ i) ∙ omega arith;
      held = λ h.
          let q : m ≡ count = omega arith in
          (λ i. f i ++ drop m out₀) ∙ (λ i. replicate ((t ∙ q) i) no_node ++ drop (q i) out₀);
    }

pub ruleset mark_laws = (marks-made)

module _ (tips at : ℕ) (s out₀ out₁ out : List ℕ) (from count : ℕ) (m : Marked from out₀ out₁) (twice : from ≡ 2 * tips) (c : count ≡ tips - 1) where
  pub plants : (r : Result ℕ WrongLine) → pairs_stored count 8 at s from out₁ r out → planted tips at s out₀ r out
  plants (Err w) e = subst (λ (x : ℕ). each x pair_line 8 (drop at s) ≡ wrong w.0) c e
  plants (Ok i) p = record {
    values = p.values;
    are = subst (λ (x : ℕ). each x pair_line 8 (drop at s) ≡ found p.values (8 + x) (drop i s)) c p.are;
    long = p.long ∙ c;
    held = held;
  }
    where
      all : from + 2 * count ≡ 2 * nodes_for tips
      all = omega arith

      held : 2 * nodes_for tips ≤ length out₀ → out ≡ with_tips tips p.values ++ drop (2 * nodes_for tips) out₀
      held h =
          let was : out₁ ≡ replicate from no_node ++ drop from out₀ = m.held (omega arith) in
          let marks : take from out₁ ≡ replicate from no_node = ap (take from) was ∙ take_at (replicate from no_node) (drop from out₀) from (length-replicate {A = ℕ} from no_node) in
          let past : drop from out₁ ≡ drop from out₀ = ap (drop from) was ∙ drop_at (replicate from no_node) (drop from out₀) from (length-replicate {A = ℕ} from no_node) in
          let rest : drop (from + 2 * count) out₁ ≡ drop (from + 2 * count) out₀ = sym (drop-drop (2 * count) from out₁) ∙ ap (drop (2 * count)) past ∙ drop-drop (2 * count) from out₀ in
          p.held (omega (arith, m.same)) ∙ (λ i. (marks i ++ slots p.values) ++ rest i) ∙ (λ i. (replicate (twice i) no_node ++ slots p.values) ++ drop (all i) out₀)

pub ruleset plant_laws = (plants)

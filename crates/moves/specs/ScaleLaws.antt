-- What the two scales of a tree's heights make of a valid tree. RootScale keeps it valid (`root-scale-valid`), and so does TreeScale where no tip ends
-- above its parent (`tree-scale-valid`), as none does where every tip is at the present (`present-under`). In order: RootScale; the tree that TreeScale
-- makes (`Scaled`), and its heights; and what a call of either makes (`root-scales-kept`, `tree-scales-kept`). Assumes nothing.
use Rattle.std.specs.Prelude.{◌≡◌, refl, ◌≢◌, ◌⊎◌, true, false, ℕ, zero, suc, ◌+◌, ◌≤◌, ◌<◌, T, length, Float}
use Rattle.std.proofs.Common.{sym, ◌∙◌, subst, inl, inr, lt-ltb, le-ltb}
use Rattle.std.proofs.Math.Decide.{ℕ_discrete, dec_le}
use native.Mathlib.Omega.{arith}
use Rattle.std.proofs.lemmas.Bool.{not-false}
use Rattle.std.specs.Float.{binary64}
use Rattle.std.specs.Float.Ieee.{lt, le, mul, of_bits}
use Rattle.std.specs.Float.Ieee.Fits.{and_l, and_r}
use Rattle.std.specs.Float.Ieee.Scale.{finite}
use Rattle.answer.specs.declared.Ratio.{Ratio}
use Rattle.real.specs.Real as Real
use Rattle.real.specs.Real.{positive}
use Rattle.real.specs.OrderLaws.{eq→le, le_trans, max-finite, of-max-le}
use Rattle.real.specs.MonotoneLaws.{unsigned}
use Rattle.real.specs.SignedLaws.{NotNegative, least_zero, positive-unsigned, mul-not-negative, times-le}
use Rattle.tree.specs.Tree.{Tree, nodes_of, first, second, parent, height}
use Rattle.tree.specs.Valid.{Inner, Below, Reach, Valid}
use Rattle.accepted.specs.RootLaws.{root-inner}
use Rattle.edits.specs.Slots.{slot_of, set_height}
use Rattle.edits.specs.SlotLaws.{Shaped, valid-shaped, shaped-valid}
use Rattle.edits.specs.HeightLaws.{set-shaped, set-parent, set-root, set-reach, height-same, height-other}
use Rattle.rules.specs.Rules.{floor, root_height, root_scale_declines, root_scaled, scaled_to, tree_scaled}
use Rattle.reversal.specs.Back.{Kept}
use Rattle.reversal.specs.FailedLaws.{passed, lt-false}
use Rattle.reversal.specs.DatedLaws.{set-valid}
use Rattle.calls.specs.Draws.{tuned}
use Rattle.calls.specs.FactorLaws.{chosen-positive}
use Rattle.moves.specs.Explained.{RootScales, TreeScales}
use Rattle.moves.specs.Ends.{TipsUnder, Present}

-- ---- RootScale

-- the tree made is valid, whatever the factor, where the root's new height is finite and not under a child
pub root-scale-valid : {n : ℕ} {t : Tree} → Valid n t → (f : Float) → T (finite (root_height t f)) → root_scale_declines t f ≡ false → Valid n (root_scaled t f)
unfolding root_scale_declines
root-scale-valid {n} {t} v f X e =
    let y : Inner n t t.root = v.inner t.root v.root_node (root-inner v) in
    let A : T (finite (height t (first t t.root))) = v.dated.number (first t t.root) y.first_node in
    let B : T (finite (height t (second t t.root))) = v.dated.number (second t t.root) y.second_node in
    let m = of-max-le (height t (first t t.root)) (height t (second t t.root)) (root_height t f) A B X
    (lt-false (root_height t f) (floor t t.root) X (max-finite (height t (first t t.root)) (height t (second t t.root)) A B) e) in
    set-valid v t.root v.root_node (root-inner v) (root_height t f) X m.0 m.1 (λ d. absurd (d refl))

-- ---- the tree that TreeScale makes

-- u is t but for the heights of the internal nodes among the first m, which are multiplied by f
record Scaled (n : ℕ) (t : Tree) (f : Float) (m : ℕ) (u : Tree) : Type 0 where
  shaped : Shaped n u (slot_of n t)
  same_parent : (c : ℕ) → parent u c ≡ parent t c
  same_root : u.root ≡ t.root
  reaches : (c : ℕ) → Reach t c → Reach u c
  scaled : (k : ℕ) → k < m → n < k + k → height u k ≡ mul binary64 (height t k) f
  kept : (k : ℕ) → (m ≤ k) ⊎ (k + k ≤ n) → height u k ≡ height t k

-- no node yet
scaled-none : {n : ℕ} {t : Tree} → Valid n t → (f : Float) → Scaled n t f 0 t
scaled-none v f = record {
  shaped = valid-shaped v;
  same_parent = λ c. refl;
  same_root = refl;
  reaches = λ c r. r;
  scaled = λ k h i. absurd (omega arith);
  kept = λ k h. refl;
}

-- a tip is left as it is
scaled-tip : {n : ℕ} {t : Tree} {f : Float} {m : ℕ} {u : Tree} → m + m ≤ n → Scaled n t f m u → Scaled n t f (suc m) u
scaled-tip {n} {t} {f} {m} {u} h s = record {
  shaped = s.shaped;
  same_parent = s.same_parent;
  same_root = s.same_root;
  reaches = s.reaches;
  scaled = λ k a i. s.scaled k (omega arith) i;
  kept = λ k a. s.kept k (past k a);
}
  where
    past : (k : ℕ) → (suc m ≤ k) ⊎ (k + k ≤ n) → (m ≤ k) ⊎ (k + k ≤ n)
    past k (inl a) = inl (omega arith)
    past k (inr a) = inr a

-- an internal node has the product
scaled-inner : {n : ℕ} {t : Tree} {f : Float} {m : ℕ} {u : Tree} → m < n → n < m + m → Scaled n t f m u
    → Scaled n t f (suc m) (set_height u m (mul binary64 (height t m) f))
scaled-inner {n} {t} {f} {m} {u} M I s = record {
  shaped = set-shaped u m x s.shaped;
  same_parent = λ c. set-parent u m x c ∙ s.same_parent c;
  same_root = set-root u m x ∙ s.same_root;
  reaches = λ c r. set-reach u m x (s.reaches c r);
  scaled = λ k a i. at k a i (ℕ_discrete k m);
  kept = λ k a. height-other u m x k (other k a) ∙ s.kept k (past k a);
}
  where
    x : Float
    x = mul binary64 (height t m) f

    at : (k : ℕ) → k < suc m → n < k + k → Dec (k ≡ m) → height (set_height u m x) k ≡ mul binary64 (height t k) f
    at k a i (yes e) = rw e (height-same u m x (rw s.shaped.sized.heights M))
    at k a i (no d) = height-other u m x k d ∙ s.scaled k (omega arith) i

    other : (k : ℕ) → (suc m ≤ k) ⊎ (k + k ≤ n) → k ≢ m
    other k (inl a) e = omega arith
    other k (inr a) e = omega arith

    past : (k : ℕ) → (suc m ≤ k) ⊎ (k + k ≤ n) → (m ≤ k) ⊎ (k + k ≤ n)
    past k (inl a) = inl (omega arith)
    past k (inr a) = inr a

-- so is the tree that the definition gives
scaled-so : {n : ℕ} {t : Tree} → Valid n t → (f : Float) (m : ℕ) → m ≤ n → Scaled n t f m (scaled_to n t f m)
unfolding scaled_to
scaled-so v f zero h = scaled-none v f
scaled-so {n} {t} v f (suc m) h = step (dec_le (m + m) n) (scaled-so v f m (omega arith))
  where
    step : Dec (m + m ≤ n) → Scaled n t f m (scaled_to n t f m) → Scaled n t f (suc m) (scaled_to n t f (suc m))
    step (yes i) s = rw (le-ltb n (m + m) i) (scaled-tip i s)
    step (no i) s = rw (lt-ltb n (m + m) (omega arith)) (scaled-inner (omega arith) (omega arith) s)

-- ---- TreeScale by a factor without a minus sign, where no product overflows

module _ {n : ℕ} {t : Tree} (v : Valid n t) (f : Float) (F : T (unsigned f))
    (X : (k : ℕ) → k < n → n < k + k → T (finite (mul binary64 (height t k) f))) where
  s : Scaled n t f n (tree_scaled n t f)
  s = scaled-so v f n (omega arith)

  old : (c : ℕ) → c < n → NotNegative (height t c)
  old c C = record { number = v.dated.number c C; positive = v.dated.positive c C }

  -- no height is negative
  new : (c : ℕ) → c < n → Dec (c + c ≤ n) → NotNegative (height (tree_scaled n t f) c)
  new c C (yes i) = rw (s.kept c (inr i)) (old c C)
  new c C (no i) = rw (s.scaled c C (omega arith)) (mul-not-negative (height t c) f (old c C) F (X c C (omega arith)))

  -- the internal nodes stay in order, since rounding does not turn it round
  ordered : TipsUnder n (tree_scaled n t f) → (c : ℕ) → c < n → c ≢ t.root → Dec (c + c ≤ n)
      → T (le (height (tree_scaled n t f) c) (height (tree_scaled n t f) (parent (tree_scaled n t f) c)))
  ordered h c C d (yes i) = h c i
  ordered h c C d (no i) =
      let b = v.below c C d in
      let P = parent t c in
      rw (s.same_parent c, s.scaled c C (omega arith), s.scaled P b.parent_node b.parent_inner)
      (times-le (height t c) (height t P) f (old c C) (old P b.parent_node) (v.dated.ordered c C d) F (X P b.parent_node b.parent_inner))

  -- where no tip ends above its parent the tree made is valid
  pub tree-scale-valid : TipsUnder n (tree_scaled n t f) → Valid n (tree_scaled n t f)
  tree-scale-valid h = shaped-valid s.shaped (λ c C. s.reaches c (v.joined c C)) record {
    number = λ c C. (new c C (dec_le (c + c) n)).number;
    positive = λ c C. (new c C (dec_le (c + c) n)).positive;
    ordered = λ c C d. ordered h c C (λ e. d (e ∙ sym s.same_root)) (dec_le (c + c) n);
  }

  -- none does where every tip is at the present
  pub present-under : Present n t → TipsUnder n (tree_scaled n t f)
  unfolding of_bits
  present-under z k i =
      let P = parent t k in
      let N = new P b.parent_node (dec_le (P + P) n) in
      rw (s.kept k (inr i), s.same_parent k)
      (le_trans (height t k) Real.zero (height (tree_scaled n t f) P) (v.dated.number k K) tt N.number (eq→le (height t k) Real.zero (z k i)) (least_zero _ N))
    where
      K : k < n
      K = let some = v.sized.some in omega arith

      b : Below n t k
      b = v.below k K (λ e. let r = root-inner v in omega arith)

-- ---- what a call makes

-- what RootScale makes of a valid tree is valid, with the tips' ages
pub root-scales-kept : {s : Float} {t u : Tree} {r : Ratio} → Valid (nodes_of t.pairs) t → RootScales s t u r → Kept (nodes_of t.pairs) t u
root-scales-kept {t = t} v x = subst (Kept (nodes_of t.pairs) t) x.tree (record {
  valid = root-scale-valid v x.factor (passed _ x.number) x.free;
  tips = λ k h. height-other t t.root (root_height t x.factor) k (λ e. (let i = root-inner v in omega arith));
})

module _ {s : Float} {t u : Tree} {r : Ratio} (v : Valid (nodes_of t.pairs) t) (h : tuned s ≡ true) (x : TreeScales s t u r) where
  abbrev n : ℕ
  n = nodes_of t.pairs

  -- the factor is positive
  held : T (unsigned x.factor)
  held =
      let f = x.factor in
      let p : T (positive f) = passed (positive f) (chosen-positive s f h x.drawn) in
      positive-unsigned f (and_l (lt Real.zero f) (finite f) p) (and_r (lt Real.zero f) (finite f) p)

  -- and no product overflows
  finite-there : (k : ℕ) → k < n → n < k + k → T (finite (mul binary64 (height t k) x.factor))
  finite-there k K i = passed _ (not-false (finite (mul binary64 (height t k) x.factor)) (rw (lt-ltb n (k + k) i) at (x.number k K)))

  -- TreeScale leaves as many nodes
  pub tree-scales-nodes : nodes_of u.pairs ≡ n
  tree-scales-nodes =
      let z : length (tree_scaled n t x.factor).pairs ≡ n + n = (scaled-so v x.factor n (omega arith)).shaped.sized.pairs in
      subst (λ (w : Tree). nodes_of w.pairs ≡ n) x.tree (omega (arith, z))

  -- what it makes of a valid tree is valid, with the tips' ages, where no tip is above its parent there
  pub tree-scales-kept : TipsUnder n u → Kept n t u
  tree-scales-kept q = subst (Kept n t) x.tree (record {
    valid = tree-scale-valid v x.factor held finite-there (subst (TipsUnder n) (sym x.tree) q);
    tips = λ k h. (scaled-so v x.factor n (omega arith)).kept k (inr h);
  })

  -- as none is where every tip was at the present
  pub tree-scales-present : Present n t → TipsUnder n u
  tree-scales-present q = subst (TipsUnder n) x.tree (present-under v x.factor held finite-there q)

-- `initialize` leaves an accepted tree (`initialize-accepted`). In order: the middle of a tip's ages is not negative; the new heights in their list; the
-- oldest tip is at least as old as each (`Oldest`); past the checks (`Fit`), the factor has no minus sign, no tip's new height is above the oldest and no
-- internal node's below it, and the internal nodes stay in order; and the call. Assumes nothing.
use Rattle.std.specs.Prelude.{◌≡◌, ◌≢◌, Bool, true, false, ◌&&◌, cond, List, ltb, length, set, Result, Ok, Err}
use Rattle.std.proofs.Math.Path.{refl}
use Rattle.std.proofs.Common.{sym, ◌∙◌, subst, arith, lt-ltb, le-ltb, ltb-false, get_or-set_same}
use Prim.Native.Nat.{ℕ, zero, suc, ◌+◌, ◌≤◌, ◌<◌}
use Rattle.std.proofs.Math.Decide.{ℕ_discrete, dec_le}
use Rattle.std.proofs.lemmas.Bool.{not-false}
use Rattle.std.proofs.Math.Dec.{T}
use Rattle.std.proofs.Math.ListN.{get_or, length-set}
use Rattle.std.proofs.Math.Seq.{get_or-set_other}
use Rattle.std.specs.Float.Ieee.{Float, nan, fits, lt, le, add, sub, mul, div, of_bits}
use Rattle.std.specs.Float.{binary64}
use Rattle.std.specs.Float.Ieee.Fits.{and_l, and_r, add-fits}
use Rattle.std.specs.Float.Ieee.Scale.{finite}
use Rattle.answer.specs.declared.Refusal.TheVariants.{NotFinite}
use Rattle.real.specs.Real as Real
use Rattle.real.specs.Real.{max_of}
use Rattle.real.specs.OrderLaws.{lt→le, le_refl, le_trans, le_lt_trans, max-finite, le_max_left, le_max_right}
use Rattle.real.specs.MonotoneLaws.{unsigned, unsigned-finite, zero-le, add-unsigned, sub-unsigned, mul-unsigned, div-unsigned, add-le, le-add}
use Rattle.real.specs.SignedLaws.{NotNegative, positive-unsigned, unsigned-not-negative, add-not-negative, sub-not-negative, mul-not-negative, div-not-negative, times-le, magnitude, magnitude-unsigned, magnitude-le, add-magnitude, add-finite-right, mul-finite-right, div-finite-left}
use Rattle.tree.specs.Tree.{Tree, nodes_of, tips_of, parent, height}
use Rattle.tree.specs.Given.{tree_of}
use Rattle.tree.specs.New.{Accepted}
use Rattle.tree.specs.Valid.{Valid}
use Rattle.tree.specs.LowestLaws.{lowest-fine}
use Rattle.accepted.specs.RootLaws.{root-inner}
use Rattle.accepted.specs.AcceptedLaws.{valid-accepted}
use Rattle.accepted.specs.ValidatedLaws.{fine-valid}
use Rattle.edits.specs.HeightLaws.{redated-valid}
use Rattle.calls.specs.Call.{and_then}
use Rattle.calls.specs.Draws.{least}
use Rattle.calls.specs.LeastLaws.{least-below}
use Rattle.calls.proofs.RunLaws.{clash}
use Rattle.reversal.specs.FailedLaws.{passed}
use Rattle.process.specs.declared.FossilizedBirthDeath.{FossilizedBirthDeath}
use Rattle.process.specs.Process.{process_finite}
use Rattle.ages.specs.declared.TipAge.{TipAge}
use Rattle.ages.specs.Ages.{age_of, at_fault, table_checked}
use Rattle.ages.specs.CheckedLaws as Checks
use Rattle.dating.specs.Initialize.{two, four_fifths, midpoint, oldest, stretch, Start, start_of, initial_height, overflows_at, initial_to, start_fits, all_finite, or_kept, initialize_call}
use Rattle.dating.specs.AgeValidLaws.{Sound, sound-age}
use Rattle.dating.specs.AgeCheckLaws.{within-fine}
use Rattle.answer.specs.declared.Refusal.{Refusal}

-- ---- a tip's new height

-- the middle of a tip's ages is not negative, where it is finite
middle : (a : TipAge) → Sound a → T (finite (midpoint a)) → NotNegative (midpoint a)
unfolding midpoint of_bits lt
middle a s F =
    let x = a.minimum in
    let d = sub binary64 a.maximum x in
    let w = div binary64 d two in
    let W : T (finite w) = add-finite-right x w s.least.number F in
    let D : T (finite d) = div-finite-left d two tt W in
    add-not-negative x w s.least (div-not-negative d two (sub-not-negative a.maximum x s.greatest s.least s.ordered D) tt tt W) F

-- ---- the new heights, in their list

module _ (s : Start) (t : Tree) where
  initial-length : (m : ℕ) → length (initial_to s t m) ≡ length t.heights
  unfolding initial_to
  initial-length zero = refl
  initial-length (suc m) = length-set (initial_to s t m) m (initial_height s m (height t m)) ∙ initial-length m

  -- the first m nodes have their new heights
  initial-at : (m k : ℕ) → m ≤ length t.heights → k < m → get_or (initial_to s t m) k nan ≡ initial_height s k (height t k)
  unfolding initial_to
  initial-at zero k h K = absurd (omega arith)
  initial-at (suc m) k h K = go (ℕ_discrete k m) (λ q. initial-at m k (omega arith) q)
    where
      go : Dec (k ≡ m) → (k < m → get_or (initial_to s t m) k nan ≡ initial_height s k (height t k))
          → get_or (set (initial_to s t m) m (initial_height s m (height t m))) k nan ≡ initial_height s k (height t k)
      go (yes e) f = rw e (get_or-set_same (initial_to s t m) m (initial_height s m (height t m)) nan (rw (initial-length m) (omega arith)))
      go (no d) f = get_or-set_other (initial_to s t m) m k (initial_height s m (height t m)) nan d ∙ f (omega arith)

  -- the tree with these heights
  abbrev begun : ℕ → Tree
  begun m = tree_of t.pairs t.parents (initial_to s t m) t.root

  begun-parent : (m c : ℕ) → parent (begun m) c ≡ parent t c
  unfolding parent
  begun-parent m c = refl

  begun-height : (m k : ℕ) → m ≤ length t.heights → k < m → height (begun m) k ≡ initial_height s k (height t k)
  unfolding height
  begun-height m k = initial-at m k

-- ---- the oldest tip

zero-fits : T (fits binary64 Real.zero)
unfolding fits of_bits
zero-fits = tt

midpoint-fits : (a : TipAge) → T (fits binary64 (midpoint a))
unfolding midpoint
midpoint-fits a = add-fits binary64 a.minimum (div binary64 (sub binary64 a.maximum a.minimum) two)

-- z is a value of the format without a minus sign, and no lower than any of the first m tips
record Oldest (minima maxima : List Float) (m : ℕ) (z : Float) : Type 0 where
  held : T (unsigned z)
  value : T (fits binary64 z)
  over : (k : ℕ) → k < m → T (le (midpoint (age_of minima maxima k)) z)

module _ (minima maxima : List Float) where
  oldest-so : (m : ℕ) → ((k : ℕ) → k < m → T (finite (midpoint (age_of minima maxima k)))) → Oldest minima maxima m (oldest minima maxima m)
  unfolding oldest of_bits
  oldest-so zero M = record { held = tt; value = zero-fits; over = λ k h. absurd (omega arith) }
  oldest-so (suc m) M = next (oldest-so m (λ k h. M k (omega arith))) (M m (omega arith))
    where
      a : Float
      a = oldest minima maxima m

      b : Float
      b = midpoint (age_of minima maxima m)

      next : Oldest minima maxima m a → T (finite b) → Oldest minima maxima (suc m) (max_of a b)
      next o B = record { held = held (lt a b) refl; value = value (lt a b); over = λ k h. over k h (ℕ_discrete k m) }
        where
          A : T (finite a)
          A = unsigned-finite a o.held

          X : T (finite (max_of a b))
          X = max-finite a b A B

          held : (r : Bool) → lt a b ≡ r → T (unsigned (cond r b a))
          held true e = positive-unsigned b (le_lt_trans Real.zero a b tt A B (zero-le a o.held) (passed (lt a b) e)) B
          held false e = o.held

          value : (r : Bool) → T (fits binary64 (cond r b a))
          value true = midpoint-fits (age_of minima maxima m)
          value false = o.value

          over : (k : ℕ) → k < suc m → Dec (k ≡ m) → T (le (midpoint (age_of minima maxima k)) (max_of a b))
          over k h (yes e) = rw e (le_max_right a b A B)
          over k h (no d) = le_trans (midpoint (age_of minima maxima k)) a (max_of a b) (M k (omega arith)) A X (o.over k (omega arith)) (le_max_left a b A B)

-- ---- past the checks

-- the tree is valid, no tip is at fault, the root is above 0 and the origin above the oldest tip, and every new height is finite
record Fit (minima maxima : List Float) (p : FossilizedBirthDeath) (t : Tree) : Type 0 where
  valid : Valid (nodes_of t.pairs) t
  sound : (k : ℕ) → k < tips_of (nodes_of t.pairs) → Sound (age_of minima maxima k)
  origin : T (finite p.origin)
  root : T (lt Real.zero (height t t.root))
  young : T (lt (oldest minima maxima (tips_of (nodes_of t.pairs))) p.origin)
  number : (k : ℕ) → k < nodes_of t.pairs → T (finite (initial_height (start_of minima maxima p.origin t) k (height t k)))

module _ (s : Start) (k : ℕ) (h : Float) where
  initial-tip : k + k ≤ s.nodes → initial_height s k h ≡ midpoint (age_of s.minima s.maxima k)
  unfolding initial_height
  initial-tip i = rw (le-ltb s.nodes (k + k) i)

  initial-inner : s.nodes < k + k → initial_height s k h ≡ add binary64 s.old (mul binary64 h s.factor)
  unfolding initial_height
  initial-inner i = rw (lt-ltb s.nodes (k + k) i)

-- the factor has no minus sign, where it is finite
stretched : (origin old top : Float) → T (unsigned origin) → T (unsigned old) → T (unsigned top) → T (le old origin) → T (lt Real.zero top)
    → T (finite (stretch origin old top)) → T (unsigned (stretch origin old top))
unfolding stretch of_bits
stretched origin old top O D P h z F =
    let d = sub binary64 origin old in
    let m = mul binary64 four_fifths d in
    let M : T (finite m) = div-finite-left m top (unsigned-finite top P) F in
    let E : T (finite d) = mul-finite-right four_fifths d tt M in
    div-unsigned m top (mul-unsigned four_fifths d tt (sub-unsigned origin old O D h E) M) P z F

module _ {minima maxima : List Float} {p : FossilizedBirthDeath} {t : Tree} (g : Fit minima maxima p t) where
  abbrev n : ℕ
  n = nodes_of t.pairs

  abbrev s : Start
  s = start_of minima maxima p.origin t

  abbrev new : ℕ → Float
  new k = initial_height s k (height t k)

  -- what is added to the oldest tip, with the sign that it has and without it
  abbrev part : ℕ → Float
  part k = mul binary64 (height t k) s.factor

  abbrev size : ℕ → Float
  size k = magnitude (part k)

  v : Valid n t
  v = g.valid

  old-height : (k : ℕ) → k < n → NotNegative (height t k)
  old-height k K = record { number = v.dated.number k K; positive = v.dated.positive k K }

  -- the tips are the first nodes
  is-tip : (k : ℕ) → k + k ≤ n → k < tips_of n
  is-tip k h = omega (arith, v.sized.odd)

  tip-node : (k : ℕ) → k + k ≤ n → k < n
  tip-node k h = let some = v.sized.some in omega arith

  mid-finite : (k : ℕ) → k + k ≤ n → T (finite (midpoint (age_of minima maxima k)))
  mid-finite k i = rw (initial-tip s k (height t k) i) at (g.number k (tip-node k i))

  old : Oldest minima maxima (tips_of n) s.old
  old = oldest-so minima maxima (tips_of n) (λ k h. mid-finite k (omega (arith, v.sized.odd)))

  old-finite : T (finite s.old)
  old-finite = unsigned-finite s.old old.held

  -- ---- internal nodes

  part-finite : (k : ℕ) → k < n → n < k + k → T (finite (part k))
  part-finite k K i = add-finite-right s.old (part k) old-finite (rw (initial-inner s k (height t k) i) at (g.number k K))

  factor-held : T (unsigned s.factor)
  unfolding of_bits
  factor-held =
      let r = t.root in
      let R : T (finite (height t r)) = v.dated.number r v.root_node in
      let o : T (lt Real.zero p.origin) = le_lt_trans Real.zero s.old p.origin tt old-finite g.origin (zero-le s.old old.held) g.young in
      stretched p.origin s.old (height t r) (positive-unsigned p.origin o g.origin) old.held (positive-unsigned (height t r) g.root R)
      (lt→le s.old p.origin g.young) g.root (mul-finite-right (height t r) s.factor R (part-finite r v.root_node (root-inner v)))

  part_held : (k : ℕ) → k < n → n < k + k → NotNegative (part k)
  part_held k K i = mul-not-negative (height t k) s.factor (old-height k K) factor-held (part-finite k K i)

  size-held : (k : ℕ) → k < n → n < k + k → T (unsigned (size k))
  size-held k K i = magnitude-unsigned (part k) (part-finite k K i)

  new_is : (k : ℕ) → k < n → n < k + k → new k ≡ add binary64 s.old (size k)
  new_is k K i = initial-inner s k (height t k) i ∙ add-magnitude s.old (part k) old.held (part_held k K i)

  new-held : (k : ℕ) → k < n → n < k + k → T (unsigned (add binary64 s.old (size k)))
  new-held k K i = add-unsigned s.old (size k) old.held (size-held k K i) (rw (new_is k K i) at (g.number k K))

  -- an internal node is not below the oldest tip
  over-old : (k : ℕ) → k < n → n < k + k → T (le s.old (new k))
  over-old k K i = rw (new_is k K i) (le-add s.old (size k) old.value old.held (size-held k K i) (new-held k K i))

  -- ---- all nodes

  new-not-negative : (c : ℕ) → c < n → Dec (c + c ≤ n) → NotNegative (new c)
  new-not-negative c C (yes i) = rw (initial-tip s c (height t c) i) (middle (age_of minima maxima c) (g.sound c (is-tip c i)) (mid-finite c i))
  new-not-negative c C (no i) = rw (new_is c C (omega arith)) (unsigned-not-negative _ (new-held c C (omega arith)))

  -- a tip is not above the oldest, and so not above its parent; an internal node stays in order with its parent
  new-ordered : (c : ℕ) → c < n → c ≢ t.root → Dec (c + c ≤ n) → T (le (new c) (new (parent t c)))
  new-ordered c C d (yes i) =
      let b = v.below c C d in
      rw (initial-tip s c (height t c) i)
      (le_trans (midpoint (age_of minima maxima c)) s.old (new (parent t c)) (mid-finite c i) old-finite (g.number (parent t c) b.parent_node)
      (old.over c (is-tip c i)) (over-old (parent t c) b.parent_node b.parent_inner))
  new-ordered c C d (no o) =
      let i : n < c + c = omega arith in
      let q = parent t c in
      let Q = (v.below c C d).parent_node in
      let j = (v.below c C d).parent_inner in
      let h = times-le (height t c) (height t q) s.factor (old-height c C) (old-height q Q) (v.dated.ordered c C d) factor-held (part-finite q Q j) in
      rw (new_is c C i, new_is q Q j)
      (add-le s.old s.old (size c) (size q) old.held old.held (size-held c C i) (size-held q Q j) (le_refl s.old old-finite)
      (magnitude-le (part c) (part q) (part_held c C i) (part_held q Q j) h) (new-held q Q j)).most

  -- the tree with the new heights is valid
  start-valid : Valid n (tree_of t.pairs t.parents (initial_to s t n) t.root)
  start-valid = redated-valid t (initial_to s t n) v (initial-length s t n ∙ v.sized.heights) record {
    number = λ c C. rw (is c C) (g.number c C);
    positive = λ c C. rw (is c C) (new-not-negative c C (dec_le (c + c) n)).positive;
    ordered = λ c C d. rw (begun-parent s t n c, is c C, is (parent t c) (v.below c C d).parent_node) (new-ordered c C d (dec_le (c + c) n));
  }
    where
      is : (c : ℕ) → c < n → height (tree_of t.pairs t.parents (initial_to s t n) t.root) c ≡ new c
      is c C = begun-height s t n c (let l : length t.heights ≡ n = v.sized.heights in omega arith) C

-- ---- the call

-- every new height is finite, where the call answers so
all-finite : (s : Start) (t : Tree) → all_finite s t ≡ (Ok tt) → (k : ℕ) → k < s.nodes → T (finite (initial_height s k (height t k)))
unfolding all_finite
all-finite s t e k K = go (ltb (least (overflows_at s t) s.nodes) s.nodes) refl e
  where
    go : (b : Bool) → ltb (least (overflows_at s t) s.nodes) s.nodes ≡ b
        → ◌≡◌ {A = Result (Unit {0}) Refusal} (cond b (Err (NotFinite (least (overflows_at s t) s.nodes))) (Ok tt)) (Ok tt) → T (finite (initial_height s k (height t k)))
    go true q e = clash cc
    go false q e =
        let z = ltb-false (least (overflows_at s t) s.nodes) s.nodes q in
        passed _ (not-false (finite (initial_height s k (height t k))) (least-below (overflows_at s t) s.nodes k K (omega arith)))

finite-origin : (p : FossilizedBirthDeath) → T (process_finite p) → T (finite p.origin)
unfolding process_finite
finite-origin p h = and_r (finite p.birth && finite p.death && finite p.fossil_sampling && finite p.present_sampling) (finite p.origin) h

-- a call that is not turned back leaves the new heights
or_kept-fine : (x : Result (Unit {0}) Refusal) (old new : List Float) → (or_kept x old new).answer ≡ (Ok tt) → (x ≡ (Ok tt)) × ((or_kept x old new).heights ≡ new)
or_kept-fine (Ok tt) old new e = (refl, refl)
or_kept-fine (Err why) old new e = clash cc

-- `Tree::new` accepts the tree with the heights that `initialize` leaves where it answers Fine
pub initialize-accepted : (minima maxima : List Float) (p : FossilizedBirthDeath) (t : Tree) → (initialize_call minima maxima p t).answer ≡ (Ok tt)
    → Accepted (tree_of t.pairs t.parents (initialize_call minima maxima p t).heights t.root)
unfolding initialize_call start_fits
initialize-accepted minima maxima p t e =
    let n = nodes_of t.pairs in
    let s = start_of minima maxima p.origin t in
    let k = or_kept-fine (and_then (table_checked p minima maxima t (start_fits minima maxima p t)) (all_finite s t)) t.heights (initial_to s t n) e in
    let b = Checks.both-fine (table_checked p minima maxima t (start_fits minima maxima p t)) (all_finite s t) k.0 in
    let c = Checks.passed p minima maxima t (start_fits minima maxima p t) b.0 in
    let w = within-fine (start_fits minima maxima p t) c.within in
    let a1 = process_finite p in
    let a2 = lt Real.zero (height t t.root) in
    let a3 = lt (oldest minima maxima (tips_of n)) p.origin in
    let g : Fit minima maxima p t = record {
      valid = fine-valid t c.tree;
      sound = λ i h. sound-age p minima maxima i (lowest-fine (at_fault p minima maxima) _ (tips_of n) c.table i h);
      origin = finite-origin p (and_l a1 a2 (and_l (a1 && a2) a3 w));
      root = and_r a1 a2 (and_l (a1 && a2) a3 w);
      young = and_r (a1 && a2) a3 w;
      number = all-finite s t b.1;
    } in
    valid-accepted n _ (subst (λ (hs : List Float). Valid n (tree_of t.pairs t.parents hs t.root)) (sym k.1) (start-valid g))

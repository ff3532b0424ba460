-- A tree with fitting lengths that passes the test is valid (`strict-valid`). Its heights are finite, each being between two others
-- (`passed-finite`); none is negative (`passed-age`), and every node reaches the root (`passed-joined`), by induction over the heights,
-- downwards and upwards. A valid tree passes the test where every child is younger than its parent (`valid-strict`). Assumes nothing.
use Rattle.std.specs.Prelude.{◌≡◌, refl, Bool, false, not, cond, ℕ, suc, ◌+◌, ◌/◌, ◌<◌, eqb, Float, get_or}
use Rattle.std.proofs.Common.{ap, ◌∙◌, inl, inr}
use Rattle.std.proofs.Math.Bool.{true}
use native.Mathlib.Omega.{arith}
use Rattle.std.proofs.Math.Decide.{ℕ_discrete, dec_le}
use Rattle.std.proofs.Math.Dec.{T, not_T}
use Rattle.std.specs.Float.{nan, inf, fin}
use Rattle.std.specs.Float.Ieee.{lt, le, of_bits}
use Rattle.std.specs.Float.Ieee.Bits.{is_true}
use Rattle.std.specs.Float.Ieee.Fits.{and_r}
use Rattle.std.specs.Float.Ieee.Scale.{finite}
use borrow.Author.Tests.{lt-ltb, eq-eqb, ne_eqb}
use Rattle.real.specs.Real as Real
use Rattle.real.specs.OrderLaws.{lt_irrefl, lt→le, le_lt_trans, lt_trans, lt-le-absurd, nlt→le}
use Rattle.tree.specs.Tree.{Tree, no_node, tips_of, first, second, parent, height}
use Rattle.tree.specs.Valid.{Sized, Reach, here, up, Valid, Strict}
use Rattle.tree.specs.BoundedLaws.{every_true}
use Rattle.accepted.specs.WayLaws.{valid-linked, under_root}
use Rattle.quick.specs.Quick.{is_mark, is_age, family, family_at, strict}
use Rattle.quick.specs.InductionLaws.{by_order}
use Rattle.quick.specs.PassedLaws.{Passed, strict-passed, Halves, halves, passed-below, passed-younger}

-- ---- floats that are neither nan nor minus infinity

is_raised : Float → Bool
is_raised nan = false
is_raised (inf s) = not s
is_raised (fin s m e) = true

lt-raised : (x y : Float) → T (lt x y) → T (is_raised y)
unfolding lt is_raised
lt-raised nan y h = absurd h
lt-raised (inf s) nan h = absurd h
lt-raised (inf s) (inf t) h = and_r s (not t) h
lt-raised (inf s) (fin t n d) h = tt
lt-raised (fin s m e) nan h = absurd h
lt-raised (fin s m e) (inf t) h = h
lt-raised (fin s m e) (fin t n d) h = tt

age-raised : (x : Float) → T (le Real.zero x) → T (is_raised x)
unfolding le of_bits is_raised
age-raised nan h = absurd h
age-raised (inf true) h = absurd h
age-raised (inf false) h = tt
age-raised (fin s m e) h = tt

raised-finite : (x y : Float) → T (is_raised x) → T (lt x y) → T (finite x)
unfolding lt is_raised
raised-finite nan y r h = absurd r
raised-finite (inf true) y r h = absurd r
raised-finite (inf false) nan r h = absurd h
raised-finite (inf false) (inf t) r h = absurd h
raised-finite (inf false) (fin t n d) r h = absurd h
raised-finite (fin s m e) y r h = tt

-- ---- the heights

module _ (n : ℕ) (t : Tree) (z : Sized n t) (p : Passed n t) where
  -- a float above every node's height: the parent's, and infinity over the root
  bound : ℕ → Float
  bound c = cond (eqb c t.root) Real.infinity (height t (parent t c))

  bounded : (c : ℕ) → c < n → T (lt (height t c) (bound c))
  unfolding bound
  bounded c C = elim (ℕ_discrete c t.root) [
    | yes e ↦ rw (eq-eqb c t.root e, e) p.root_low
    | no d ↦ rw (ne_eqb c t.root d) (passed-younger n t z p c C d)
  ]

  -- every height is finite: it is below another, and a tip's is not negative, an internal node's is above its child's
  passed-finite : (c : ℕ) → c < n → T (finite (height t c))
  passed-finite c C = raised-finite (height t c) (bound c) raised (bounded c C)
    where
      raised : T (is_raised (height t c))
      raised = elim (dec_le (c + c) n) [
        | yes i ↦ age-raised (height t c) (p.tip_age c i)
        | no i ↦ lt-raised (height t (first t c)) (height t c) (p.family_of c C (omega arith)).first_younger
      ]

  -- node i is younger than node j: an order of the nodes
  abbrev younger : ℕ → ℕ → Bool
  younger i j = lt (height t i) (height t j)

  irreflexive : (k : ℕ) → k < n → T (not (younger k k))
  irreflexive k K = not_T (lt (height t k) (height t k)) (lt_irrefl (height t k))

  transitive : (i j k : ℕ) → i < n → j < n → k < n → T (younger i j) → T (younger j k) → T (younger i k)
  transitive i j k I J K = lt_trans (height t i) (height t j) (height t k) (passed-finite i I) (passed-finite j J) (passed-finite k K)

  -- no height is negative, since the tips' are not
  passed-age : (c : ℕ) → c < n → T (le Real.zero (height t c))
  unfolding of_bits
  passed-age = by_order n younger irreflexive transitive (λ k. T (le Real.zero (height t k))) (λ k K rest. elim (dec_le (k + k) n) [
    | yes i ↦ p.tip_age k i
    | no i ↦
        let f = p.family_of k K (omega arith) in
        let a = first t k in
        let A = f.inner.first_node in
        let y = f.first_younger in
        lt→le Real.zero (height t k) (le_lt_trans Real.zero (height t a) (height t k) tt (passed-finite a A) (passed-finite k K) (rest a A y) y)
  ])

  -- every node reaches the root, since what is above it does
  passed-joined : (c : ℕ) → c < n → Reach t c
  passed-joined =
      by_order n (λ i j. younger j i) irreflexive (λ i j k I J K g h. transitive k j i K J I h g) (Reach t)
      (λ k K rest. elim (ℕ_discrete k t.root) [
        | yes e ↦ here e
        | no d ↦ up d (rest (parent t k) (passed-below n t z p k K d).parent_node (passed-younger n t z p k K d))
      ])

-- ---- what passes is valid

-- a tree with fitting lengths that passes the test is valid
pub strict-valid : (n : ℕ) (t : Tree) → Sized n t → T (strict n t) → Valid n t
unfolding of_bits
strict-valid n t z h =
    let odd = z.odd in
    let p = strict-passed n t odd h in
    let number = passed-finite n t z p in
    record {
      sized = z;
      tip_first = λ k i. p.mark (k + k) (omega arith);
      tip_second = λ k i. p.mark (suc (k + k)) (omega arith);
      inner = λ k K i. (p.family_of k K i).inner;
      root_node = p.root_node;
      root_parent = p.root_parent;
      below = passed-below n t z p;
      joined = passed-joined n t z p;
      dated = record {
        number = number;
        positive = λ c C. not_T (lt (height t c) Real.zero) (λ l. lt-le-absurd (height t c) Real.zero (number c C) tt l (passed-age n t z p c C));
        ordered = λ c C d. lt→le (height t c) (height t (parent t c)) (passed-younger n t z p c C d);
      };
    }

-- ---- what is valid passes, where every child is younger than its parent

finite-low : (x : Float) → T (finite x) → lt x Real.infinity ≡ true
unfolding lt of_bits
finite-low nan h = absurd h
finite-low (inf s) h = absurd h
finite-low (fin s m e) h = refl

module _ (n : ℕ) (t : Tree) (v : Valid n t) (s : Strict n t) where
  valid-mark : (i : ℕ) → i < n + 1 → is_mark t.pairs i ≡ true
  valid-mark i I = eq-eqb (get_or t.pairs i 0) no_node (pick (halves i))
    where
      pick : Halves i → get_or t.pairs i 0 ≡ no_node
      pick (inl e) = ap (λ (x : ℕ). get_or t.pairs x 0) e ∙ v.tip_first (i / 2) (omega arith)
      pick (inr e) = ap (λ (x : ℕ). get_or t.pairs x 0) e ∙ v.tip_second (i / 2) (omega arith)

  valid-age : (k : ℕ) → k < tips_of n → is_age t.heights k ≡ true
  unfolding height of_bits
  valid-age k K =
      let some = v.sized.some in
      let C : k < n = omega arith in
      is_true (is_age t.heights k) (nlt→le (height t k) Real.zero (v.dated.number k C) tt (v.dated.positive k C))

  valid-family : (k : ℕ) → k < n → n < k + k → family n t.pairs t.parents t.heights k ≡ true
  unfolding family parent height
  valid-family k K i =
      let f = v.inner k K i in
      let a = first t k in
      let b = second t k in
      rw (
        lt-ltb a n f.first_node,
        lt-ltb b n f.second_node,
        ne_eqb a b f.two,
        eq-eqb (parent t a) k f.first_parent,
        eq-eqb (parent t b) k f.second_parent,
        younger-than a f.first_node f.first_parent,
        younger-than b f.second_node f.second_parent,
      )
    where
      younger-than : (c : ℕ) → c < n → parent t c ≡ k → lt (height t c) (height t k) ≡ true
      younger-than c C e = is_true (lt (height t c) (height t k)) (rw e at (s c C (under_root n t (valid-linked v) k K c e)))

  pub valid-strict : strict n t ≡ true
  unfolding strict
  valid-strict =
      let odd = v.sized.odd in
      rw (
        lt-ltb t.root n v.root_node,
        eq-eqb (parent t t.root) no_node v.root_parent,
        finite-low (height t t.root) (v.dated.number t.root v.root_node),
        every_true (is_mark t.pairs) (n + 1) valid-mark,
        every_true (is_age t.heights) (tips_of n) valid-age,
        every_true (family_at n t.pairs t.parents t.heights) (n / 2) (λ j J. valid-family (tips_of n + j) (omega arith) (omega arith)),
      )

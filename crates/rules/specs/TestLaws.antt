-- The tests of what the lines list agree with the lists: `Agrees`, how tests that agree are put together, and then each move's
-- (`lists_agree` and `admits-agree` for the five reversible moves, `tip-age-agrees`). Assumes nothing.
use Rattle.std.specs.Prelude.{◌≡◌, refl, ◌≢◌, true, false, not, ◌&&◌, ◌||◌, ℕ, ◌+◌, ◌<◌, T, ltb, eqb, length, Float}
use Rattle.std.proofs.Common.{subst, eq-eqb, ne_eqb, lt→ltb, ltb→lt, T_not}
use Rattle.std.proofs.Math.Bool.{Bool}
use Rattle.std.proofs.lemmas.Bool.{eqb-false}
use Rattle.std.specs.Float.Ieee.Scale.{finite}
use Rattle.real.specs.Real.{max_of}
use Rattle.tree.specs.Tree.{Tree, tips_of, parent, height, sibling}
use Rattle.rules.specs.Rules.{floor, within, branches, lowers, slide_declines, grand, hosts, ceiling, NodeHeightListed, SlideListed, NarrowListed, WideListed, WilsonListed, TipAgeListed}
use Rattle.rules.specs.Moves.{Reversible, NodeHeight, SubtreeSlide, NarrowExchange, WideExchange, WilsonBalding, Choice, Listed, declines}
use Rattle.rules.specs.Tests.{non_root, node_height_lists, slide_lists, narrow_lists, wide_lists, wilson_lists, tip_age_lists, lists, admits}

-- the test holds exactly where A does
pub record Agrees (A : Type 0) (test : Bool) : Type 0 where
  pub passed : T test → A
  pub passes : A → T test

-- ---- tests put together

-- one test says what it tests
itself : (b : Bool) → Agrees (T b) b
itself b = record { passed = λ h. h; passes = λ h. h }

-- the same said in other words
meaning : {A B : Type 0} {b : Bool} → (A → B) → (B → A) → Agrees A b → Agrees B b
meaning f g a = record { passed = λ h. f (a.passed h); passes = λ h. a.passes (g h) }

both : {A B : Type 0} {a b : Bool} → Agrees A a → Agrees B b → Agrees (A × B) (a && b)
both {A} {B} {a} {b} x y = go a x
  where
    go : (a : Bool) → Agrees A a → Agrees (A × B) (a && b)
    go true x = record { passed = λ h. (x.passed tt, y.passed h); passes = λ h. y.passes h.1 }
    go false x = record { passed = λ h. absurd h; passes = λ h. x.passes h.0 }

-- what is asked only where the first test fails
unless : {A : Type 0} (b : Bool) {a : Bool} → Agrees A a → Agrees (b ≡ false → A) (b || a)
unless {A} true {a} x = record { passed = λ h e. absurd (subst T e tt); passes = λ h. tt }
unless {A} false {a} x = record { passed = λ h e. x.passed h; passes = λ h. x.passes (h refl) }

-- what is asked only where the first test holds
where-so : {A : Type 0} (b : Bool) {a : Bool} → Agrees A a → Agrees (T b → A) (not b || a)
where-so {A} true {a} x = record { passed = λ h e. x.passed h; passes = λ h. x.passes (h tt) }
where-so {A} false {a} x = record { passed = λ h e. absurd e; passes = λ h. tt }

-- a test that fails
fails : (b : Bool) → Agrees (b ≡ false) (not b)
fails true = record { passed = λ h. absurd h; passes = λ e. subst T e tt }
fails false = record { passed = λ h. refl; passes = λ e. tt }

under : (a b : ℕ) → Agrees (a < b) (ltb a b)
under a b = record { passed = ltb→lt a b; passes = lt→ltb a b }

unlike : (a b : ℕ) → Agrees (a ≢ b) (not (eqb a b))
unlike a b = record { passed = λ h e. T_not (eqb a b) h (rw (eq-eqb a b e) tt); passes = λ d. (rw (ne_eqb a b d) tt) }

-- what is asked only where two numbers differ
elsewhere : {A : Type 0} (a b : ℕ) {c : Bool} → Agrees A c → Agrees (a ≢ b → A) (eqb a b || c)
elsewhere a b x = meaning (λ f d. f (ne_eqb a b d)) (λ f e. f (eqb-false a b e)) (unless (eqb a b) x)

-- ---- each move's

module _ (n : ℕ) (t : Tree) where
  non-root : (k : ℕ) → Agrees ((k < n) × (k ≢ t.root)) (non_root n t k)
  non-root k = both (under k n) (unlike k t.root)

  node-height-agrees : (k : ℕ) (x : Float) → Agrees (NodeHeightListed n t k x) (node_height_lists n t k x)
  unfolding node_height_lists
  node-height-agrees k x = meaning
      (λ h. record { node = h.0.0; under = h.0.1; internal = h.1.0; interval = h.1.1 })
      (λ l. ((l.node, l.under), (l.internal, l.interval)))
      (both (non-root k) (both (under n (k + k)) (itself (within (floor t k) x (height t (parent t k))))))

  slide-agrees : (i : ℕ) (x : Float) (index : ℕ) → Agrees (SlideListed n t i x index) (slide_lists n t i x index)
  unfolding slide_lists
  slide-agrees i x index = meaning
      (λ h. record { node = h.0.0; under = h.0.1; number = h.1.0; picked = h.1.1 })
      (λ l. ((l.node, l.under), (l.number, l.picked)))
      (both (non-root i) (both (itself (finite x)) (where-so (lowers t i x) (unless (slide_declines n t i x) (under index (length (branches n t x (sibling t i))))))))

  narrow-agrees : (g : ℕ) → Agrees (NarrowListed n t g) (narrow_lists n t g)
  unfolding narrow_lists
  narrow-agrees g = meaning (λ h. record { node = h.0; grandparent = h.1 }) (λ l. (l.node, l.grandparent)) (both (under g n) (itself (grand n t g)))

  wide-agrees : (i j : ℕ) → Agrees (WideListed n t i j) (wide_lists n t i j)
  unfolding wide_lists
  wide-agrees i j = meaning
      (λ h. record { node_i = h.0.0; under_i = h.0.1; node_j = h.1.0.0; under_j = h.1.0.1; apart = h.1.1 })
      (λ l. ((l.node_i, l.under_i), ((l.node_j, l.under_j), l.apart)))
      (both (non-root i) (both (non-root j) (unlike i j)))

  wilson-agrees : (i j : ℕ) (x : Float) → Agrees (WilsonListed n t i j x) (wilson_lists n t i j x)
  unfolding wilson_lists
  wilson-agrees i j x = meaning
      (λ h. record { node_i = h.0.0; under_i = h.0.1; node_j = h.1.0; apart = h.1.1.0; host = h.1.1.1.0; interval = h.1.1.1.1 })
      (λ l. ((l.node_i, l.under_i), (l.node_j, (l.apart, (l.host, l.interval)))))
      (both (non-root i) (both (under j n) (both (unlike j i) (both (itself (hosts t i j)) (elsewhere j t.root (itself upward))))))
    where
      upward : Bool
      upward = within (max_of (height t i) (height t j)) x (height t (parent t j))

-- what a reversible move lists is what its test passes
pub lists_agree : (n : ℕ) (m : Reversible) (t : Tree) (c : Choice m) → Agrees (Listed n m t c) (lists n m t c)
lists_agree n NodeHeight t c = node-height-agrees n t c.node c.height
lists_agree n SubtreeSlide t c = slide-agrees n t c.node c.height c.index
lists_agree n NarrowExchange t c = narrow-agrees n t c.node
lists_agree n WideExchange t c = wide-agrees n t c.i c.j
lists_agree n WilsonBalding t c = wilson-agrees n t c.i c.j c.height

-- what it admits is what the test of both passes
pub admits-agree : (n : ℕ) (m : Reversible) (t : Tree) (c : Choice m) → Agrees (Listed n m t c × (declines n m t c ≡ false)) (admits n m t c)
admits-agree n m t c = both (lists_agree n m t c) (fails (declines n m t c))

-- so with tip ages
pub tip-age-agrees : (n : ℕ) (t : Tree) (k : ℕ) (least greatest x : Float) → Agrees (TipAgeListed n t k least greatest x) (tip_age_lists n t k least greatest x)
unfolding tip_age_lists
tip-age-agrees n t k least greatest x =
    meaning (λ h. record { tip = h.0; interval = h.1 }) (λ l. (l.tip, l.interval)) (both (under k (tips_of n)) (itself (within least x (ceiling t k greatest))))

-- Each move's program ends in what its rule explains, on a valid tree and with parameters within their limits: `explained`, for all seven.
-- Assumes nothing.
use Rattle.std.specs.Prelude.{◌≡◌, Bool, true, false, ◌&&◌, cond, ℕ, ◌<◌, T, eqb, ltb, length, Float}
use Rattle.std.proofs.Math.Path.{refl}
use Rattle.std.proofs.Common.{sym, inl, inr, true≢false, arith, ltb-true, ltb-false}
use Rattle.std.proofs.Math.Bool.{not, and-eq-true_iff}
use Rattle.std.specs.Float.Ieee.Scale.{finite}
use denote.Floats.{passes}
use Rattle.answer.specs.declared.Ratio.TheVariants.{Even}
use Rattle.random.specs.Draw.{until, below, coin, run}
use Rattle.random.specs.Lawful.{Yields}
use Rattle.random.proofs.DrawLaws.{return-yields, bind-yields, until-yields, below-yields}
use Rattle.real.specs.Real.{max_of}
use Rattle.tree.specs.Tree.{Tree, nodes_of, parent, height, sibling}
use Rattle.tree.specs.Valid.{Valid}
use Rattle.tree.specs.ScanLaws.{neqb→ne}
use Rattle.rules.specs.Rules as Rules
use Rattle.rules.specs.Rules.{one_internal, floor, within}
use Rattle.calls.specs.Call.{Reply, makes, not_finite, Outcome, declined, moved}
use Rattle.moves.specs.Programs as Programs
use Rattle.calls.specs.Draws.{non_root, internal, least}
use Rattle.moves.specs.Programs.{slidable, slide_height, overflows, wilsons}
use Rattle.moves.specs.Moves.{Move, node_height, subtree_slide, narrow_exchange, wide_exchange, wilson_balding, root_scale, tree_scale, limits, program}
use Rattle.calls.specs.LeastLaws.{least-holds, least-below}
use Rattle.calls.specs.YieldLaws.{NonRoot, Internal, non-root-yields, internal-yields}
use Rattle.moves.specs.Explained.{HeightNode, WilsonNodes, Explained, is_moved, is_declined, is_infinite, is_outside}
use Rattle.calls.specs.Chosen.{Factor}
use Rattle.calls.specs.StepLaws.{cond-holds, cond-yields, number-yields, factor-yields, height-yields}

not-true : (b : Bool) → not b ≡ true → b ≡ false
not-true false e = refl
not-true true e = absurd (true≢false (sym e))

not-false : (b : Bool) → not b ≡ false → b ≡ true
not-false true e = refl
not-false false e = absurd (true≢false e)

module _ (t : Tree) (v : Valid (nodes_of t.pairs) t) where
  abbrev n : ℕ
  n = nodes_of t.pairs

  -- ---- NodeHeight

  height-explained : Yields (Explained node_height t) (run (Programs.node_height t))
  unfolding Programs.node_height Programs.non_root_internal Programs.placing
  height-explained =
      cond-yields Q (Rules.node_height_declines n) _ _ (λ e. return-yields Q _ (is_declined e))
      (λ e. number-yields Q (until (λ k. not (eqb k t.root)) (internal n)) _
      (until-yields (Internal n) (λ k. not (eqb k t.root)) (internal n) (internal-yields n v.sized.odd))
      (λ k p. height-yields Q k (floor t k) (height t (parent t k)) _ (λ x b w. inside e k (found k p.0 p.1) x w)
      (λ x b w. is_outside (record { drawn = found k p.0 p.1; height = x; between = b; outside = w }))))
    where
      Q : Reply Outcome → Type 0
      Q = Explained node_height t

      found : (k : ℕ) → not (eqb k t.root) ≡ true → Internal n k → HeightNode n t k
      found k e i = record { node = i.node; internal = i.inner; under = neqb→ne k t.root (passes _ e) }

      inside : Rules.node_height_declines n ≡ false → (k : ℕ) → HeightNode n t k → (x : Float) → within (floor t k) x (height t (parent t k)) ≡ true
          → Q (makes (moved (Rules.height_moved t k x) Even))
      inside e k h x w = is_moved (record {
        choice = record { node = k; height = x };
        makes = record { listed = record { node = h.node; internal = h.internal; under = h.under; interval = passes _ w }; free = e; tree = refl; ratio = refl };
      })

  -- ---- SubtreeSlide

  slide-explained : (i : ℕ) (step : Float) → slidable t i step ≡ true → Yields (Explained (subtree_slide i step) t) (run (Programs.subtree_slide i step t))
  unfolding Programs.subtree_slide Programs.slide_at
  slide-explained i step l =
      cond-yields Q (not (finite x)) _ _ (λ e. return-yields Q _ (is_infinite (refl, not-true (finite x) e)))
      (λ e. cond-yields Q (Rules.slide_declines n t i x) _ _ (λ d. return-yields Q _ (is_declined d))
      (λ d. cond-yields Q (Rules.lowers t i x) _ _
      (λ w. number-yields Q (below k) _ (below-yields k) (λ index p. return-yields Q _ (made (not-false (finite x) e) d index (λ y z. p))))
      (λ w. return-yields Q _ (made (not-false (finite x) e) d 0 (λ y z. absurd (rw w at y))))))
    where
      Q : Reply Outcome → Type 0
      Q = Explained (subtree_slide i step) t

      x : Float
      x = slide_height t i step

      k : ℕ
      k = length (Rules.branches n t x (sibling t i))

      inside : (ltb i n ≡ true) × (not (eqb i t.root) ≡ true)
      inside = (and-eq-true_iff (ltb i n) (not (eqb i t.root))).0 ((and-eq-true_iff (ltb i n && not (eqb i t.root)) (finite step)).0 l).0

      made : finite x ≡ true → Rules.slide_declines n t i x ≡ false → (index : ℕ)
          → (T (Rules.lowers t i x) → Rules.slide_declines n t i x ≡ false → index < k) → Q (makes (Programs.slides n t i x index))
      made f d index p = is_moved (record {
        index = index;
        makes = record {
          listed = record {
            node = ltb-true i n inside.0;
            under = neqb→ne i t.root (passes _ inside.1);
            number = passes _ f;
            picked = p;
          };
          free = d;
          tree = refl;
          ratio = refl;
        };
      })

  -- ---- NarrowExchange

  narrow-explained : Yields (Explained narrow_exchange t) (run (Programs.narrow_exchange t))
  unfolding Programs.narrow_exchange Programs.grandparent Programs.narrow_under
  narrow-explained =
      cond-yields Q (one_internal n) _ _ (λ e. return-yields Q _ (is_declined (inl e)))
      (λ e. number-yields Q (until (Rules.grand n t) (internal n)) _
      (until-yields (Internal n) (Rules.grand n t) (internal n) (internal-yields n v.sized.odd))
      (λ g p. cond-yields Q (Rules.narrow_declines n t g) _ _
      (λ d. return-yields Q _ (is_declined (inr (record { node = g; listed = found g p.0 p.1; declines = d }))))
      (λ d. bind-yields (λ side. Unit {0}) Q coin _ (λ s side u q. tt)
      (λ side q. return-yields Q _ (is_moved (record {
        choice = record { node = g; coin = side };
        makes = record { listed = found g p.0 p.1; free = d; tree = refl; ratio = refl };
      }))))))
    where
      Q : Reply Outcome → Type 0
      Q = Explained narrow_exchange t

      found : (g : ℕ) → Rules.grand n t g ≡ true → Internal n g → Rules.NarrowListed n t g
      found g e i = record { node = i.node; grandparent = passes _ e }

  -- ---- WideExchange

  wide-explained : Yields (Explained wide_exchange t) (run (Programs.wide_exchange t))
  unfolding Programs.wide_exchange Programs.apart
  wide-explained =
      number-yields Q (non_root n t.root) _ (non-root-yields n t.root)
      (λ i p. number-yields Q (until (λ j. not (eqb j i)) (non_root n t.root)) _
      (until-yields (NonRoot n t.root) (λ j. not (eqb j i)) (non_root n t.root) (non-root-yields n t.root))
      (λ j q. return-yields Q _ (ends i j (found i p j q.0 q.1))))
    where
      Q : Reply Outcome → Type 0
      Q = Explained wide_exchange t

      found : (i : ℕ) → NonRoot n t.root i → (j : ℕ) → not (eqb j i) ≡ true → NonRoot n t.root j → Rules.WideListed n t i j
      found i p j e q = record { node_i = p.node; node_j = q.node; under_i = p.under; under_j = q.under; apart = λ z. neqb→ne j i (passes _ e) (sym z) }

      ends : (i j : ℕ) → Rules.WideListed n t i j → Q (makes (cond (Rules.wide_declines t i j) declined (moved (Rules.widened n t i j) Even)))
      ends i j l =
          cond-holds (λ (o : Outcome). Q (makes o)) (Rules.wide_declines t i j) {x = declined} {y = moved (Rules.widened n t i j) Even}
          (λ d. is_declined (record { i = i; j = j; listed = l; declines = d }))
          (λ d. is_moved (record { choice = record { i = i; j = j }; makes = record { listed = l; free = d; tree = refl; ratio = refl } }))

  -- ---- WilsonBalding

  wilson-explained : Yields (Explained wilson_balding t) (run (Programs.wilson_balding t))
  unfolding Programs.wilson_balding Programs.hosting Programs.host Programs.onto
  wilson-explained =
      number-yields Q (non_root n t.root) _ (non-root-yields n t.root)
      (λ i p. number-yields Q (until (λ j. not (eqb j i) && Rules.hosts t i j) (below n)) _
      (until-yields (λ j. j < n) (λ j. not (eqb j i) && Rules.hosts t i j) (below n) (below-yields n))
      (λ j q. cond-yields Q (Rules.wilson_declines t i j) _ _
      (λ d. return-yields Q _ (is_declined (record { i = i; j = j; listed = found i p j q.0 q.1; declines = d })))
      (λ d. height-yields Q (parent t i) (max_of (height t i) (height t j)) (height t (parent t j)) (wilsons t i j)
      (λ x b w. is_moved (record {
        choice = record { i = i; j = j; height = x };
        makes = record { listed = listed i j x (found i p j q.0 q.1) w; free = d; tree = refl; ratio = refl };
      }))
      (λ x b w. is_outside (record { i = i; j = j; node = refl; drawn = found i p j q.0 q.1; height = x; between = b; outside = w })))))
    where
      Q : Reply Outcome → Type 0
      Q = Explained wilson_balding t

      found : (i : ℕ) → NonRoot n t.root i → (j : ℕ) → not (eqb j i) && Rules.hosts t i j ≡ true → j < n → WilsonNodes n t i j
      found i p j e q = let b = (and-eq-true_iff (not (eqb j i)) (Rules.hosts t i j)).0 e in record {
        node_i = p.node;
        node_j = q;
        under_i = p.under;
        apart = neqb→ne j i (passes _ b.0);
        host = passes _ b.1;
      }

      listed : (i j : ℕ) (x : Float) → WilsonNodes n t i j → within (max_of (height t i) (height t j)) x (height t (parent t j)) ≡ true → Rules.WilsonListed n t i j x
      listed i j x h w = record {
        node_i = h.node_i;
        node_j = h.node_j;
        under_i = h.under_i;
        apart = h.apart;
        host = h.host;
        interval = λ d. passes _ w;
      }

  -- ---- RootScale

  root-explained : (s : Float) → Yields (Explained (root_scale s) t) (run (Programs.root_scale s t))
  unfolding Programs.root_scale
  root-explained s = factor-yields Q s ends (λ f d. explains f d)
    where
      Q : Reply Outcome → Type 0
      Q = Explained (root_scale s) t

      made : Float → Outcome
      made f = cond (Rules.root_scale_declines t f) declined (moved (Rules.root_scaled t f) (Rules.root_scale_ratio f))

      ends : Float → Reply Outcome
      ends f = cond (not (finite (Rules.root_height t f))) (not_finite t.root) (makes (made f))

      explains : (f : Float) → Factor s f → Q (ends f)
      explains f d =
          cond-holds Q (not (finite (Rules.root_height t f))) {x = not_finite t.root} {y = makes (made f)}
          (λ e. is_infinite (record { node = refl; factor = f; drawn = d; infinite = not-true (finite (Rules.root_height t f)) e }))
          (λ e. cond-holds (λ (o : Outcome). Q (makes o)) (Rules.root_scale_declines t f) {x = declined} {y = moved (Rules.root_scaled t f) (Rules.root_scale_ratio f)}
          (λ k. is_declined (record { factor = f; drawn = d; declines = k }))
          (λ k. is_moved (record { factor = f; drawn = d; number = not-false (finite (Rules.root_height t f)) e; free = k; tree = refl; ratio = refl })))

  -- ---- TreeScale

  tree-explained : (s : Float) → Yields (Explained (tree_scale s) t) (run (Programs.tree_scale s t))
  unfolding Programs.tree_scale
  tree-explained s = factor-yields Q s ends (λ f d. explains f d)
    where
      Q : Reply Outcome → Type 0
      Q = Explained (tree_scale s) t

      made : Float → Outcome
      made f = moved (Rules.tree_scaled n t f) (Rules.tree_scale_ratio n f)

      ends : Float → Reply Outcome
      ends f = let k = least (overflows n t f) n in cond (ltb k n) (not_finite k) (makes (made f))

      explains : (f : Float) → Factor s f → Q (ends f)
      explains f d =
          let k = least (overflows n t f) n in
          cond-holds Q (ltb k n) {x = not_finite k} {y = makes (made f)}
          (λ e. (let h = ltb-true k n e in is_infinite (record {
            node = h;
            factor = f;
            drawn = d;
            infinite = least-holds (overflows n t f) n h;
            lowest = λ j q. least-below (overflows n t f) n j (omega arith) q;
          })))
          (λ e. is_moved (record {
            factor = f;
            drawn = d;
            number = λ j h. (let z = ltb-false k n e in least-below (overflows n t f) n j h (omega arith));
            tree = refl;
            ratio = refl;
          }))

-- ---- all of them

-- what the program of a move ends in is explained by its rule
pub explained : (m : Move) (t : Tree) → Valid (nodes_of t.pairs) t → limits m t ≡ true → Yields (Explained m t) (run (program m t))
explained node_height t v l = height-explained t v
explained (subtree_slide i step) t v l = slide-explained t v i step l
explained narrow_exchange t v l = narrow-explained t v
explained wide_exchange t v l = wide-explained t v
explained wilson_balding t v l = wilson-explained t v
explained (root_scale s) t v l = root-explained t v s
explained (tree_scale s) t v l = tree-explained t v s

-- The ways through the code of a slide's first call: its draws (`draw_start_laws`), the unvalidated call (`start_laws`) and the call (`start_call_laws`).
-- Assumes nothing.
use mathlib.Core.Path.{◌≡◌, refl, sym, ap, ◌∙◌}
use mathlib.Core.Bool.{true}
use mathlib.Core.List.{List, []}
use Prim.Native.Nat.{ℕ, ◌-◌, ◌≤◌}
use lib.Ieee.{Float}
use Rattle.answer.specs.declared.Refusal.{Refusal}
use Rattle.answer.specs.declared.Refusal.TheVariants.{Allowance}
use Rattle.random.specs.declared.Random.{Random}
use Rattle.random.specs.declared.Supply.{Supply}
use Rattle.random.specs.Draw.{Draw, return, draw, ◌>>=◌, uniform, Drawn, spent, got, pick, run, supply_of, drawn}
use Rattle.random.specs.Lawful.{Yields}
use Rattle.random.proofs.DrawLaws.{run-lawful, bind-got, bind-spent, draw-got, draw-spent, bind-yields, return-yields}
use Rattle.random.specs.SupplyLaws.{drawn-got, drawn-spent}
use Rattle.tree.specs.Tree.{Tree, nodes_of}
use Rattle.tree.specs.New.{validated}
use Rattle.tree.specs.Given.{tree_of}
use Rattle.calls.specs.Call.{Reply, makes, not_finite, outside, refused, ended, limited}
use Rattle.calls.specs.Draws.{non_root}
use Rattle.calls.proofs.EntryLaws.{tree-refused, tree-accepted}
use Rattle.moves.specs.Programs.{Start, slide_start}
use Rattle.moves.specs.Moves.{start_call, unvalidated_start}
use Rattle.moves.specs.StartLaws.{accepted-start}
use Rattle.slide.specs.declared.Started.{Started}
use Rattle.slide.specs.Started.{started_of, drawn_start}
use Rattle.std.specs.Prelude.{Some, None, Result, Ok, Err}

-- ---- the draws

-- the program after the node, and after the first uniform
abbrev with_second : ℕ → Float → Draw (Reply Start)
with_second i u = uniform >>= (λ v. return (makes (record { node = i; first = u; second = v })))

abbrev with_uniforms : ℕ → Draw (Reply Start)
with_uniforms i = uniform >>= (λ u. with_second i u)

-- k is the node drawn, u and v are the uniforms, and a and b the supplies after k and u
module _ (pairs : List ℕ) (root : ℕ) (s : Supply) where
  abbrev ran : Drawn (Reply Start)
  ran = run (slide_start (tree_of pairs [] [] root)) s

  pub node-spent : None ≡ drawn (pick (non_root (nodes_of pairs) root) s) → None ≡ drawn_start ran
  unfolding slide_start drawn_start
  node-spent e = rw (draw-spent (non_root (nodes_of pairs) root) with_uniforms s (drawn-spent _ e))

  module _ (k : ℕ) (a : Supply) (ek : Some (k, a) ≡ drawn (pick (non_root (nodes_of pairs) root) s)) where
    after-node : ran ≡ run (with_uniforms k) a
    unfolding slide_start
    after-node = draw-got (non_root (nodes_of pairs) root) with_uniforms s k a (drawn-got _ k a ek)

    pub first-spent : None ≡ drawn (run uniform a) → None ≡ drawn_start ran
    unfolding drawn_start
    first-spent e = rw (after-node, bind-spent uniform (with_second k) a (drawn-spent _ e))

    module _ (u : Float) (b : Supply) (eu : Some (u, b) ≡ drawn (run uniform a)) where
      after_first : ran ≡ run (with_second k u) b
      after_first = after-node ∙ bind-got uniform (with_second k) a u b (drawn-got _ u b eu)

      done : Float → Draw (Reply Start)
      done w = return (makes (record { node = k; first = u; second = w }))

      pub second-spent : None ≡ drawn (run uniform b) → None ≡ drawn_start ran
      unfolding drawn_start done
      second-spent e = rw (after_first, bind-spent uniform done b (drawn-spent _ e))

      pub all-drawn : (v : Float) (c : Supply) → Some (v, c) ≡ drawn (run uniform b) → Some (k, u, v, c) ≡ drawn_start ran
      unfolding drawn_start done run
      all-drawn v c e = rw (after_first, bind-got uniform done b v c (drawn-got _ v c e))

pub ruleset draw_start_laws = (node-spent, first-spent, second-spent, all-drawn)

-- ---- the unvalidated call

-- the program meets no 7 and no 8
abbrev Made : Reply Start → Type 0
Made (makes a) = Unit
Made (not_finite k) = ⊥
Made (outside k) = ⊥

only-made : (t : Tree) → Yields Made (run (slide_start t))
unfolding slide_start
only-made t =
    bind-yields (λ _. Unit) Made (draw (non_root (nodes_of t.pairs) t.root)) with_uniforms (λ _ _ _ _. tt)
    (λ i _. bind-yields (λ _. Unit) Made uniform (with_second i) (λ _ _ _ _. tt)
    (λ u _. bind-yields (λ _. Unit) Made uniform (λ v. return (makes (record { node = i; first = u; second = v }))) (λ _ _ _ _. tt) (λ v _. return-yields Made _ tt)))

start-got : (x : Drawn (Reply Start)) (i : ℕ) (u v : Float) (s : Supply) → Some (i, u, v, s) ≡ drawn_start x
    → x ≡ got (makes (record { node = i; first = u; second = v })) s
unfolding drawn_start
start-got spent i u v s e = cc
start-got (got (not_finite k) t) i u v s e = cc
start-got (got (outside k) t) i u v s e = cc
start-got (got (makes a) t) i u v s e =
    let p : ◌≡◌ {A = ℕ × Float × Float × Supply} (i, u, v, s) (a.node, a.first, a.second, t) = cc in
    sym (λ j. got (makes (record { node = (p j).0; first = (p j).1; second = (p j).2 })) (p j).3)

start-spent : (t : Tree) (s : Supply) (x : Drawn (Reply Start)) → run (slide_start t) s ≡ x → None ≡ drawn_start x → x ≡ spent
unfolding drawn_start
start-spent t s spent f e = refl
start-spent t s (got (not_finite k) u) f e = absurd (only-made t s (not_finite k) u f)
start-spent t s (got (outside k) u) f e = absurd (only-made t s (outside k) u f)
start-spent t s (got (makes a) u) f e = cc

-- t is the tree, and v what was said of the limits
module _ (pairs parents : List ℕ) (heights : List Float) (root : ℕ) (t : Tree) (et : tree_of pairs parents heights root ≡ t) (g : Random) (allowance : ℕ)
    (v : Result (Unit {0}) Refusal) (ev : v ≡ limited true allowance) where
  -- the call is what that makes of the program; the draws read no parents and no heights
  is-start : v ≡ (Ok tt) → ended allowance (run (slide_start (tree_of pairs [] [] root)) (supply_of g allowance)) ≡ unvalidated_start t g allowance
  unfolding slide_start
  is-start y = rw (← et, ← ev, y)

  pub start-refused : (why : Refusal) → v ≡ Err why → (r : Started) → r ≡ started_of g (refused why) → r ≡ started_of g (unvalidated_start t g allowance)
  start-refused why y r er = rw (← ev, y) er

  module _ (y : v ≡ (Ok tt)) where
    abbrev x : Drawn (Reply Start)
    x = run (slide_start (tree_of pairs [] [] root)) (supply_of g allowance)

    pub start-out : None ≡ drawn_start x → (r : Started) → r ≡ started_of g (refused (Allowance allowance)) → r ≡ started_of g (unvalidated_start t g allowance)
    unfolding ended
    start-out e r er = rw (← is-start y, start-spent (tree_of pairs [] [] root) (supply_of g allowance) _ refl e) er

    pub start-drawn : (i : ℕ) (a b : Float) (s : Supply) → Some (i, a, b, s) ≡ drawn_start x
        → record { answer = Ok (record { node = i; first = a; second = b; draws = allowance - s.left }); random = s.random } ≡ started_of g (unvalidated_start t g allowance)
    unfolding ended
    start-drawn i a b s e = rw (← is-start y, start-got _ i a b s e)

-- what the difference in it asks
pub start_left : (pairs : List ℕ) (root : ℕ) (g : Random) (allowance i : ℕ) (a b : Float) (s : Supply)
    → Some (i, a, b, s) ≡ drawn_start (run (slide_start (tree_of pairs [] [] root)) (supply_of g allowance)) → s.left ≤ allowance
start_left pairs root g allowance i a b s e =
    ((run-lawful (slide_start (tree_of pairs [] [] root))).steps (supply_of g allowance) _ s (start-got _ i a b s e)).fewer

pub ruleset start_laws = (start-refused, start-out, start-drawn, start_left)

-- ---- the call

-- v is what was said of the tree
module _ (t : Tree) (v : Result (Unit {0}) Refusal) (ev : v ≡ validated t) (g : Random) (allowance : ℕ) where
  pub start-no-tree : (why : Refusal) → v ≡ Err why → (r : Started) → r ≡ started_of g (refused why) → r ≡ started_of g (start_call t g allowance)
  start-no-tree why y r er = rw (tree-refused t.pairs t.parents t.heights t.root v ev true (slide_start t) g allowance why y) er

  pub start-done : v ≡ (Ok tt) → (r : Started) → r ≡ started_of g (unvalidated_start t g allowance) → r ≡ started_of g (start_call t g allowance)
  start-done y r e = e ∙ ap (started_of g) (accepted-start t (tree-accepted t.pairs t.parents t.heights t.root v ev y) g allowance)

pub ruleset start_call_laws = (start-no-tree, start-done)

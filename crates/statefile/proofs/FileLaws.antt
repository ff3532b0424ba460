-- The ways through the readers of a tree and of a whole file: the first line that is wrong, in the head, the pairs, the heights or past the end;
-- or all of it. Assumes nothing.
use mathlib.Core.Path.{◌≡◌, sym, ap, ◌∙◌, subst}
use mathlib.Core.List.{List, [], ◌++◌, map}
use Prim.Native.Nat.{ℕ, ◌+◌, ◌-◌, ◌*◌, ◌≤◌, ◌<◌}
use native.Mathlib.Omega.{arith}
use lib.ListN.{length, drop, length-map, drop_of_length-le}
use lib.Seq.{drop-cons}
use lib.Ieee.{Float}
use Rattle.forms.specs.Forms.{pair_line, height_line}
use Rattle.statefile.specs.Lines.{Found, wrong, found, return, onward, ◌>>=◌, each, end}
use Rattle.statefile.specs.StateFile.{Nodes, head, tree, state, state_file, faulty, with_tips, real, nodes_for}
use Rattle.statefile.specs.SlotLaws.{tips-long}
use Rattle.statefile.specs.Given.{head_given, planted, Planted, Stored, heights_stored, grown, Grown, Held}
use Rattle.statefile.specs.declared.Head.{Head}
use Rattle.std.specs.Prelude.{Result, Ok, Err}
use Rattle.statefile.specs.Given.{wrong_line}
use Rattle.statefile.specs.declared.WrongLine.{WrongLine}

-- ---- a tree

-- lines of pairs and heights: what is left is the end
tree-reads : (tips k l m : ℕ) (t u v : List ℕ) (ps : List (ℕ × ℕ)) (ws : List ℕ) → each (tips - 1) pair_line k t ≡ found ps l u
    → each (nodes_for tips) height_line l u ≡ found ws m v
    → tree tips k t ≡ onward (end m v) (λ _. return (record { pairs = with_tips tips ps; heights = map real ws }))
unfolding onward ◌>>=◌ tree
tree-reads tips k l m t u v ps ws f g = rw (f, g)

module _ (tips at : ℕ) (s p₀ : List ℕ) (h₀ : List Float) (r : Result ℕ WrongLine) (p : List ℕ) (g : planted tips at s p₀ r p) where
  pub tree-pairs : (h : List Float) (e : WrongLine) → r ≡ Err e → grown tips at s p₀ h₀ (Err e) p h
  unfolding onward ◌>>=◌ tree
  tree-pairs h e m =
      let w : each (tips - 1) pair_line 8 (drop at s) ≡ wrong e.0 = subst (λ (y : Result ℕ WrongLine). planted tips at s p₀ y p) m g in
      rw w

  module _ (i n c : ℕ) (q : Result ℕ WrongLine) (h : List Float) (pr : r ≡ Ok i) (en : n ≡ tips - 1) (ec : c ≡ nodes_for tips) (f : heights_stored c (8 + n) i s h₀ q h) where
    plants : Planted tips (each (tips - 1) pair_line 8 (drop at s)) (8 + (tips - 1)) (drop i s) p₀ p
    plants = subst (λ (y : Result ℕ WrongLine). planted tips at s p₀ y p) pr g

    -- the lines of heights, by the numbers that the code has
    dated : (x : Found (List ℕ)) → each c height_line (8 + n) (drop i s) ≡ x → each (nodes_for tips) height_line (8 + (tips - 1)) (drop i s) ≡ x
    dated x e = ap (λ (y : ℕ). each y height_line (8 + (tips - 1)) (drop i s)) (sym ec) ∙ ap (λ (y : ℕ). each c height_line (8 + y) (drop i s)) (sym en) ∙ e

    pub tree-heights : (e : WrongLine) → q ≡ Err e → grown tips at s p₀ h₀ (Err e) p h
    unfolding onward ◌>>=◌ tree
    tree-heights e m =
        let w : each (nodes_for tips) height_line (8 + (tips - 1)) (drop i s) ≡ wrong e.0 = dated (wrong e.0) (subst (λ (y : Result ℕ WrongLine). heights_stored c (8 + n) i s h₀ y h) m f) in
        rw (plants.are, w)

    module _ (e : ℕ) (pq : q ≡ Ok e) where
      dates : Stored (map real) 1 c (each c height_line (8 + n) (drop i s)) (8 + n + c) (drop e s) 0 h₀ h
      dates = subst (λ (y : Result ℕ WrongLine). heights_stored c (8 + n) i s h₀ y h) pq f

      abbrev nodes : Nodes
      nodes = record { pairs = with_tips tips plants.values; heights = map real dates.values }

      reads : tree tips 8 (drop at s) ≡ onward (end (8 + n + c) (drop e s)) (λ _. return nodes)
      reads =
          tree-reads tips 8 (8 + (tips - 1)) (8 + n + c) (drop at s) (drop i s) (drop e s) plants.values dates.values plants.are
          (dated (found dates.values (8 + n + c) (drop e s)) dates.are)

      pub tree_over : e < length s → grown tips at s p₀ h₀ (Err (wrong_line (8 + n + c))) p h
      unfolding onward end
      tree_over l = reads ∙ ap (λ (t : List ℕ). onward (end (8 + n + c) t) (λ _. return nodes)) (drop-cons s e 0 l)

      pub tree_all : length s ≤ e → grown tips at s p₀ h₀ (Ok e) p h
      unfolding onward return end
      tree_all l = record {
        tree = nodes;
        line = 8 + n + c;
        rest = [];
        is = reads ∙ ap (λ (t : List ℕ). onward (end (8 + n + c) t) (λ _. return nodes)) (drop_of_length-le s l);
        shown = record {
          places = tips-long tips plants.values plants.long;
          nodes = long;
          pairs_held = plants.held;
          heights_held = first;
        };
      }
        where
          long : length (map real dates.values) ≡ nodes_for tips
          long = length-map dates.values real ∙ dates.long ∙ ec

          first : nodes_for tips ≤ length h₀ → h ≡ map real dates.values ++ drop (nodes_for tips) h₀
          first m = let all : 0 + 1 * c ≡ nodes_for tips = omega arith in dates.held (omega arith) ∙ ap (λ (x : ℕ). map real dates.values ++ drop x h₀) all

pub ruleset tree_laws = (tree-pairs, tree-heights, tree_over, tree_all)

-- ---- a file

module _ (s p₀ : List ℕ) (h₀ : List Float) (a : Result (Head × ℕ) WrongLine) (ea : head_given s a ≡ head 1 s) where
  pub file-head : (e : WrongLine) → a ≡ Err e → state_file s ≡ faulty e.0
  unfolding onward ◌>>=◌ state state_file
  file-head e m = rw (← ea, m)

  module _ (x : Head) (at : ℕ) (r : Result ℕ WrongLine) (p : List ℕ) (h : List Float) (pa : a ≡ Ok (x, at)) (g : grown x.tips at s p₀ h₀ r p h) where
    pub file-tree : (e : WrongLine) → r ≡ Err e → state_file s ≡ faulty e.0
    unfolding onward ◌>>=◌ state state_file
    file-tree e m =
        let w : tree x.tips 8 (drop at s) ≡ wrong e.0 = subst (λ (y : Result ℕ WrongLine). grown x.tips at s p₀ h₀ y p h) m g in
        rw (← ea, pa, w)

    pub file-all : (e : ℕ) → r ≡ Ok e → Held s x p₀ p h₀ h
    unfolding onward ◌>>=◌ return state state_file
    file-all e m =
        let w : Grown x.tips (tree x.tips 8 (drop at s)) p₀ p h₀ h = subst (λ (y : Result ℕ WrongLine). grown x.tips at s p₀ h₀ y p h) m g in
        record { rest = drop at s; front = sym ea ∙ ap (head_given s) pa; tree = w.tree; is = rw (← ea, pa, w.is); shown = w.shown }

pub ruleset file_laws = (file-head, file-tree, file-all)

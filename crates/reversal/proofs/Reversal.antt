-- Demand 3: what a reversible move makes of an accepted tree with every child strictly younger than its parent is accepted, has the same tips
-- at the same ages, and is taken back by the same move with the ratio turned over (`reversal`). What it makes of any accepted tree, ties included, is
-- valid, with the same tips at the same ages (`makes_kept`). Assumes nothing.
use Rattle.std.specs.Prelude.{◌≡◌, false, ℕ}
use Rattle.std.proofs.Common.{sym, ap, subst, arith}
use Rattle.answer.specs.declared.Ratio.{Ratio}
use Rattle.tree.specs.Tree.{Tree, nodes_of}
use Rattle.tree.specs.Valid.{Strict}
use Rattle.tree.specs.New.{Accepted}
use Rattle.accepted.specs.WayLaws.{valid-nodes}
use Rattle.accepted.specs.AcceptedLaws.{accepted-valid, valid-accepted}
use Rattle.rules.specs.Moves.{Reversible, NodeHeight, SubtreeSlide, NarrowExchange, WideExchange, WilsonBalding, Choice, Listed, declines, made, ratio_of, Makes}
use Rattle.reversal.specs.Reversed.{returning, Reversed}
use Rattle.reversal.specs.Back.{Kept, Keeps, Back, Reverses}
use Rattle.reversal.specs.NodeHeightLaws.{node-height-keeps, node-height-reverses}
use Rattle.reversal.specs.SlideValidLaws.{slide-keeps}
use Rattle.reversal.proofs.SlideLaws.{slide-reverses}
use Rattle.reversal.proofs.NarrowLaws.{narrow_keeps, narrow-reverses}
use Rattle.reversal.specs.WideLaws.{wide-keeps, wide-reverses}
use Rattle.reversal.specs.WilsonLaws.{wilson-keeps, wilson-reverses}

-- each move keeps a valid tree
keeps : (m : Reversible) → Keeps m
keeps NodeHeight = node-height-keeps
keeps SubtreeSlide = slide-keeps
keeps NarrowExchange = narrow_keeps
keeps WideExchange = wide-keeps
keeps WilsonBalding = wilson-keeps

-- and is taken back on a strictly dated one
reverses : (m : Reversible) → Reverses m
reverses NodeHeight = node-height-reverses
reverses SubtreeSlide = slide-reverses
reverses NarrowExchange = narrow-reverses
reverses WideExchange = wide-reverses
reverses WilsonBalding = wilson-reverses

-- what is shown of a choice on a valid tree, said of the tree that it makes
reversed : (m : Reversible) (t : Tree) (c : Choice m) → Back (nodes_of t.pairs) m t c
    → Reversed m t c (made (nodes_of t.pairs) m t c) (ratio_of (nodes_of t.pairs) m t c)
reversed m t c b = record {
  accepted = valid-accepted n u b.kept.valid;
  tips = record { nodes = e; ages = λ k h. b.kept.tips k (omega arith) };
  ratio = ratio_of n m u (returning m t c);
  turned = b.ratio;
  back = record {
    listed = subst (λ (k : ℕ). Listed k m u (returning m t c)) (sym e) b.listed;
    free = subst (λ (k : ℕ). declines k m u (returning m t c) ≡ false) (sym e) b.free;
    tree = subst (λ (k : ℕ). made k m u (returning m t c) ≡ t) (sym e) b.tree;
    ratio = ap (λ (k : ℕ). ratio_of k m u (returning m t c)) e;
  };
}
  where
    n : ℕ
    n = nodes_of t.pairs

    u : Tree
    u = made (nodes_of t.pairs) m t c

    e : nodes_of u.pairs ≡ n
    e = valid-nodes b.kept.valid

-- for every accepted tree t with every child strictly younger than its parent, every move and every choice that it admits on t
pub reversal : (t : Tree) → Accepted t → Strict (nodes_of t.pairs) t
    → (m : Reversible) (c : Choice m) (u : Tree) (r : Ratio) → Makes m t c u r → Reversed m t c u r
reversal t a st m c u r k =
    let b = reverses m (nodes_of t.pairs) t (accepted-valid t a) st c k.listed k.free in
    subst (λ (w : Tree). Reversed m t c w r) k.tree (subst (λ (q : Ratio). Reversed m t c (made (nodes_of t.pairs) m t c) q) k.ratio (reversed m t c b))

-- for every accepted tree t, ties included, every move and every choice that it admits on t: the tree made is valid, with the tips' ages
pub makes_kept : (t : Tree) → Accepted t → (m : Reversible) (c : Choice m) (u : Tree) (r : Ratio) → Makes m t c u r → Kept (nodes_of t.pairs) t u
makes_kept t a m c u r k = subst (Kept (nodes_of t.pairs) t) k.tree (keeps m (nodes_of t.pairs) t (accepted-valid t a) c k.listed k.free)

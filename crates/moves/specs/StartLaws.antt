-- What a slide's first call gives: a node that its second call may be given, and two uniforms (`started`), with as many draws as the generator is
-- stepped (calls/proofs/TreeCallLaws `call-steps`); that past its checks it gives these, or a 6 (`start-ends`); and that on an accepted tree it is the unvalidated
-- one (`accepted-start`). Assumes nothing.
use Rattle.std.specs.Prelude.{◌≡◌, refl, ◌⊎◌, true, ℕ, ◌-◌}
use Rattle.std.proofs.Common.{inl, inr}
use Rattle.answer.specs.declared.Refusal.TheVariants.{Allowance}
use Rattle.random.specs.declared.Random.{Random}
use Rattle.random.specs.declared.Supply.{Supply}
use Rattle.random.specs.Draw.{Drawn, spent, got, uniform, run, supply_of, allowed}
use Rattle.random.specs.Lawful.{Yields}
use Rattle.random.specs.UniformLaws.{UnitFraction}
use Rattle.random.proofs.DrawLaws.{return-yields, bind-yields, uniform-yields}
use Rattle.tree.specs.Tree.{Tree, nodes_of}
use Rattle.tree.specs.New.{Accepted}
use Rattle.accepted.specs.AcceptedLaws.{accepted-valid}
use Rattle.accepted.specs.ValidatedLaws.{valid-fine}
use Rattle.calls.specs.Call.{Reply, makes, not_finite, outside, refused, given, ended, checked, call_of}
use Rattle.calls.specs.Draws.{non_root}
use Rattle.moves.specs.Programs.{Start, slide_start}
use Rattle.moves.specs.Moves.{start_call, unvalidated_start}
use Rattle.calls.specs.YieldLaws.{NonRoot, non-root-yields}
use Rattle.calls.proofs.TreeCallLaws.{call-given}
use Rattle.calls.proofs.EntryLaws.{accepted-checked}
use Rattle.calls.specs.StepLaws.{number-yields}

-- the node is not the root, and the uniforms are uniforms
pub record Begins (t : Tree) (s : Start) : Type 0 where
  pub node : NonRoot (nodes_of t.pairs) t.root s.node
  pub first : UnitFraction s.first
  pub second : UnitFraction s.second

-- a reply is a start, and such a one
data Replied (t : Tree) : Reply Start → Type 0 where
  replied : {s : Start} → Begins t s → Replied t (makes s)

replies : (t : Tree) → Yields (Replied t) (run (slide_start t))
unfolding slide_start
replies t =
    number-yields (Replied t) (non_root (nodes_of t.pairs) t.root) _ (non-root-yields (nodes_of t.pairs) t.root)
    (λ i p. bind-yields UnitFraction (Replied t) uniform _ uniform-yields
    (λ u x. bind-yields UnitFraction (Replied t) uniform _ uniform-yields
    (λ w y. return-yields (Replied t) _ (replied (record { node = p; first = x; second = y })))))

-- what the first call gives is a node other than the root, and two uniforms
pub started : (t : Tree) (g : Random) (a : ℕ) (s : Start) (draws : ℕ) (h : Random) → start_call t g a ≡ given s draws h → Begins t s
started t g a s draws h e =
    let c = call-given true (slide_start t) t g a s draws h e in
    begins (replies t (supply_of g a) (makes s) (supply_of h c.left) c.ran)
  where
    begins : Replied t (makes s) → Begins t s
    begins (replied x) = x

-- on an accepted tree and with an allowance within its limits it gives them, or is refused with a 6
pub start-ends : (t : Tree) → Accepted t → (g : Random) (a : ℕ) → allowed a ≡ true
    → ((s : Start) × (draws : ℕ) × (h : Random) × (start_call t g a ≡ given s draws h)) ⊎ (start_call t g a ≡ refused (Allowance a))
unfolding call_of checked ended
start-ends t v g a k = rw (valid-fine (nodes_of t.pairs) t (accepted-valid t v), k) (go (run (slide_start t) (supply_of g a)) (replies t (supply_of g a)))
  where
    go : (d : Drawn (Reply Start)) → ((r : Reply Start) (u : Supply) → d ≡ got r u → Replied t r)
        → ((s : Start) × (draws : ℕ) × (h : Random) × (ended a d ≡ given s draws h)) ⊎ (ended a d ≡ refused (Allowance a))
    go spent y = inr refl
    go (got r u) y = made r (y r u refl)
      where
        made : (r : Reply Start) → Replied t r
            → ((s : Start) × (draws : ℕ) × (h : Random) × (ended a (got r u) ≡ given s draws h)) ⊎ (ended a (got r u) ≡ refused (Allowance a))
        made (makes s) (replied x) = inl (s, a - u.left, u.random, refl)
        made (not_finite i) x = elim x [ ]
        made (outside i) x = elim x [ ]

-- on an accepted tree the limits are all that is left to check
pub accepted-start : (t : Tree) → Accepted t → (g : Random) (a : ℕ) → unvalidated_start t g a ≡ start_call t g a
unfolding call_of
accepted-start t h g a = rw (accepted-checked t h true a)

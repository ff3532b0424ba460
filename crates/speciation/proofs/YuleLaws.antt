-- The ways through the tips' test (`present_laws`), the internal heights' sum (`total_laws`) and the Yule density (`yule_laws`). Assumes nothing.
use mathlib.Core.Path.{◌≡◌, refl, sym, ap, ◌∙◌}
use mathlib.Core.Bool.{Bool, true, false}
use mathlib.Core.List.{List, []}
use Prim.Native.Nat.{ℕ, zero, suc, ◌+◌, ◌-◌, ◌/◌, ◌%◌, ◌≤◌, ◌<◌}
use native.Mathlib.Omega.{arith}
use native.Mathlib.Numerals.{add-one}
use lib.ListN.{length, get_or}
use lib.Ieee.{Float, nan, binary64, add, mul, eq}
use borrow.Author.Tests.{lt-ltb, le-ltb}
use Rattle.answer.specs.declared.Refusal.{Refusal}
use Rattle.real.specs.Real as Real
use Rattle.real.specs.Real.{positive}
use Rattle.tree.specs.Tree.{Tree, nodes_of, tips_of, height}
use Rattle.tree.specs.New.{validated}
use Rattle.tree.specs.Bounded.{every}
use Rattle.tree.specs.BoundedLaws.{every_true, every-at}
use Rattle.tree.specs.Valid.{Valid}
use Rattle.tree.specs.Given.{kin_in}
use Rattle.accepted.specs.ValidatedLaws.{fine-valid}
use Rattle.speciation.specs.Yule.{present_at, vanishes, total_to, total, yule, yule_call}
use Rattle.std.proofs.lemmas.List.{get_or-take, length-take-le}
use Rattle.std.specs.Prelude.{Ok, Err, IsTrue, ◌↔◌, EachIndex, take}
use Rattle.speciation.specs.declared.Density.TheVariants as Densities

-- ---- whether all tips are at the present

-- r is whether the height of each of the first m is zero
module _ (hs : List Float) where
  abbrev here : ℕ → Bool
  here = present_at (kin_in [] hs)

  abbrev front : List Float
  front = take (length hs - length hs / 2) hs

  front-length : length front ≡ tips_of (length hs)
  front-length = let e : length hs - length hs / 2 ≡ tips_of (length hs) = omega arith in length-take-le (length hs - length hs / 2) hs (omega arith) ∙ e

  front-at : (i : ℕ) → i < tips_of (length hs) → get_or front i nan ≡ get_or hs i nan
  front-at i l = get_or-take (length hs - length hs / 2) hs i nan (omega arith)

  pub present-each : (r : Bool) → (IsTrue r ↔ EachIndex front (λ i. IsTrue (eq (get_or front i nan) Real.zero))) → r ≡ every here (tips_of (length hs))
  unfolding height
  present-each true h = sym (every_true here (tips_of (length hs)) (λ i l. rw (sym (front-at i l)) (h.0 refl i (rw front-length l))))
  present-each false h = go (every here (tips_of (length hs))) refl
    where
      go : (b : Bool) → every here (tips_of (length hs)) ≡ b → false ≡ b
      go true e = h.1 (λ i l. let m : i < tips_of (length hs) = rw (← front-length) l in rw (front-at i m) (every-at here (tips_of (length hs)) e i m))
      go false e = refl

-- ---- the internal heights

module _ (n : ℕ) (t : Tree) where
  -- no tip's is added
  total-tips : (m : ℕ) → m ≤ n / 2 + 1 → total_to n t m ≡ Real.zero
  unfolding total_to
  total-tips zero h = refl
  total-tips (suc m) h = rw (le-ltb n (m + m) (omega arith)) (total-tips m (omega arith))

  -- one node more
  total-inner : (m : ℕ) → n / 2 < m → total_to n t (suc m) ≡ add binary64 (total_to n t m) (height t m)
  unfolding total_to
  total-inner m h = rw (lt-ltb n (m + m) (omega arith))

  -- only the heights are read
  total-whole : (m : ℕ) → total_to n t m ≡ total_to n (kin_in [] t.heights) m
  unfolding total_to height
  total-whole zero = refl
  total-whole (suc m) = rw (total-whole m)

module _ (hs : List Float) where
  abbrev kin : Tree
  kin = kin_in [] hs

  pub total-start : Real.zero ≡ total_to (length hs) kin (length hs / 2 + 1)
  total-start = sym (total-tips (length hs) kin (length hs / 2 + 1) (omega arith))

  -- those before k are added; k is at most the number of nodes, or 1 where there is no node
  module _ (k : ℕ) (sum : Float) (i : sum ≡ total_to (length hs) kin k) where
    pub total-step : length hs / 2 < k → add binary64 sum (get_or hs k nan) ≡ total_to (length hs) kin (k + 1)
    unfolding height
    total-step h = rw (add-one, total-inner (length hs) kin k h, i)

    pub total-end : length hs ≤ k → k ≤ length hs + (1 - length hs) → sum ≡ total_to (length hs) kin (length hs)
    total-end l u = i ∙ go (length hs) l u
      where
        go : (n : ℕ) → n ≤ k → k ≤ n + (1 - n) → total_to n kin k ≡ total_to n kin n
        go zero l u = total-tips zero kin k (omega arith) ∙ sym (total-tips zero kin zero (omega arith))
        go (suc n) l u = let z : k ≡ suc n = omega arith in ap (total_to (suc n) kin) z

pub ruleset total_laws = (total-start, total-step, total-end)

-- ---- the density

module _ (t : Tree) (rate : Float) where
  pub yule-refused : (why : Refusal) → Err why ≡ validated t → Err why ≡ yule_call t rate
  unfolding yule_call
  yule-refused why e = rw (← e)

  module _ (e : Ok tt ≡ validated t) where
    valid : Valid (nodes_of t.pairs) t
    valid = fine-valid t (sym e)

    long : length t.heights ≡ nodes_of t.pairs
    long = valid.sized.heights

    pub root-inside : t.root < length t.heights
    root-inside = rw long valid.root_node

    module _ (p : Bool) (ep : p ≡ positive rate) where
      pub yule-rate : p ≡ false → Ok Densities.MinusInfinity ≡ yule_call t rate
      unfolding yule_call yule vanishes
      yule-rate h = rw (← e, ← ep, h)

      module _ (h : p ≡ true) (b : Bool) (eb : b ≡ every (present_at (kin_in [] t.heights)) (tips_of (length t.heights))) where
        -- the tips of the tree are those of its heights
        tips : b ≡ every (present_at t) (tips_of (nodes_of t.pairs))
        unfolding height
        tips = rw (← long) eb

        pub yule-tips : b ≡ false → Ok Densities.MinusInfinity ≡ yule_call t rate
        unfolding yule_call yule vanishes
        yule-tips g = rw (← e, ← ep, h, ← tips, g)

        pub yule-terms : b ≡ true → (sum : Float) → sum ≡ total_to (length t.heights) (kin_in [] t.heights) (length t.heights)
            → Ok (Densities.Terms (length t.heights / 2) rate (mul binary64 rate (add binary64 sum (get_or t.heights t.root nan)))) ≡ yule_call t rate
        unfolding yule_call yule vanishes total height
        yule-terms g sum es =
            let o : nodes_of t.pairs % 2 ≡ 1 = valid.sized.odd in
            let z : nodes_of t.pairs / 2 ≡ tips_of (nodes_of t.pairs) - 1 = omega arith in
            rw (← e, ← ep, h, ← tips, g, total-whole (nodes_of t.pairs) t (nodes_of t.pairs), es, long, z)

pub ruleset yule_laws = (yule-refused, root-inside, yule-rate, yule-tips, yule-terms)

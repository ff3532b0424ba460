-- Laws of the pairs and ages of a Newick value: lists that hold them at the value's nodes (`Dated`) give the value back (`dated-value`), what the reader puts
-- into lists is so held (`dated-built`), and a value fixes the slots of its parentheses in every list that holds it (`same_pairs`). Assumes nothing.
use Rattle.std.specs.Prelude.{◌≡◌, refl, true, List, ℕ, zero, suc, ◌+◌, ◌-◌, ◌≤◌, ◌<◌, ltb, length, get_or, set}
use Rattle.std.proofs.Common.{sym, ◌∙◌, inl, inr, arith, length-set, get_or-set_same, get_or-set_other, lt-ltb, le-ltb}
use Rattle.std.proofs.Math.Decide.{ℕ_discrete, dec_le}
use Rattle.newick.specs.Newick.{Newick, tip, join}
use Rattle.newick.specs.Numbering.{joins, times, node_of, pairs_in, reach, ages_in}
use Rattle.newick.specs.Copies.{dated_at}
use Rattle.newick.specs.NumberingLaws.{times-own, Named, named-left, named-right, over, Inside, Outside, node-outside, sides-outside, inside-left}
use Rattle.newick.specs.NumberingLaws.{inside-right, inside-lt, left-outside, with_pair, pair-first, pair-second, pair-other, pairs-other, pairs-length}

-- ---- lists that hold a value

-- the pairs and the ages of a subtree, whose upper node has the age h, stand at its nodes
abbrev pub Dated : ℕ → List ℕ → List ℕ → ℕ → ℕ → Newick → Type 0
Dated tips ps l base h (tip k) = (k < tips) × (get_or l k 0 ≡ h)
Dated tips ps l base h (join a x b y) =
    (get_or ps (over base a b + over base a b) 0 ≡ node_of base a)
    × (get_or ps (suc (over base a b + over base a b)) 0 ≡ node_of (base + joins a) b)
    × (get_or l (over base a b) 0 ≡ h)
    × Dated tips ps l base (h - x) a × Dated tips ps l (base + joins a) (h - y) b

dated-upper : (tips : ℕ) (ps l : List ℕ) (base h : ℕ) (t : Newick) → Dated tips ps l base h t → get_or l (node_of base t) 0 ≡ h
unfolding node_of
dated-upper tips ps l base h (tip k) D = D.1
dated-upper tips ps l base h (join a x b y) D = D.2

-- they give it back, by the numbers of its nodes
pub dated-value : (f tips n : ℕ) (ps l : List ℕ) (base h : ℕ) (t : Newick) → suc n ≡ tips + tips → tips ≤ base → joins t < f → reach t ≤ h
    → Dated tips ps l base h t → dated_at f n ps l (node_of base t) ≡ t
unfolding dated_at node_of joins reach
dated-value zero tips n ps l base h t N B g r D = absurd (omega arith)
dated-value (suc f) tips n ps l base h (tip k) N B g r D = let d : k < tips = D.0 in rw (le-ltb n (k + k) (omega arith))
dated-value (suc f) tips n ps l base h (join a x b y) N B g r D =
    let value-a = dated-value f tips n ps l base (h - x) a N B (omega arith) (omega arith) D.3 in
    let value-b = dated-value f tips n ps l (base + joins a) (h - y) b N (omega arith) (omega arith) (omega arith) D.4 in
    let age-a : get_or l (node_of base a) 0 ≡ h - x = dated-upper tips ps l base (h - x) a D.3 in
    let age-b : get_or l (node_of (base + joins a) b) 0 ≡ h - y = dated-upper tips ps l (base + joins a) (h - y) b D.4 in
    let length-a : h - (h - x) ≡ x = omega arith in
    let length-b : h - (h - y) ≡ y = omega arith in
    let inner : ltb n (over base a b + over base a b) ≡ true = lt-ltb n (over base a b + over base a b) (omega arith) in
    rw (inner, D.0, D.1, D.2, age-a, age-b, length-a, length-b, value-a, value-b)

-- other lists hold it too, if they are alike at its nodes
dated-same : (tips : ℕ) (ps l ps' l' : List ℕ) (base h : ℕ) (t : Newick) → Dated tips ps l base h t
    → ((i : ℕ) → base + base ≤ i → i < (base + joins t) + (base + joins t) → get_or ps' i 0 ≡ get_or ps i 0)
    → ((i : ℕ) → Inside base t i → get_or l' i 0 ≡ get_or l i 0) → Dated tips ps' l' base h t
unfolding joins times
dated-same tips ps l ps' l' base h (tip k) D P L = (D.0, L k (inl (let z = times-own k k refl in omega arith)) ∙ D.1)
dated-same tips ps l ps' l' base h (join a x b y) D P L =
    let v = over base a b in (
      P (v + v) (omega arith) (omega arith) ∙ D.0,
      P (suc (v + v)) (omega arith) (omega arith) ∙ D.1,
      L v (inr (omega arith, omega arith)) ∙ D.2,
      dated-same tips ps l ps' l' base (h - x) a D.3 (λ i p q. P i p (omega arith)) (λ i p. L i (inside-left base a x b y i p)),
      dated-same tips ps l ps' l' (base + joins a) (h - y) b D.4 (λ i p q. P i (omega arith) (omega arith)) (λ i p. L i (inside-right base a x b y i p)),
    )

-- ---- what the reader puts into lists

ages-length : (base h : ℕ) (t : Newick) (l : List ℕ) → length (ages_in base h t l) ≡ length l
unfolding ages_in
ages-length base h (tip k) l = length-set l k h
ages-length base h (join a x b y) l = simp length-set (ages-length (base + joins a) (h - y) b (ages_in base (h - x) a l) ∙ ages-length base (h - x) a l)

-- ages of other nodes stay
ages-other : (base h : ℕ) (t : Newick) (l : List ℕ) (i : ℕ) → Outside base t i → get_or (ages_in base h t l) i 0 ≡ get_or l i 0
unfolding ages_in node_of
ages-other base h (tip k) l i o = get_or-set_other l k i h 0 (λ e. node-outside base (tip k) i o (sym e))
ages-other base h (join a x b y) l i o =
    let sides = sides-outside base a x b y i o in
    let after-a = ages_in base (h - x) a l in
    get_or-set_other (ages_in (base + joins a) (h - y) b after-a) (over base a b) i h 0 (λ e. node-outside base (join a x b y) i o (sym e))
    ∙ ages-other (base + joins a) (h - y) b after-a i sides.1
    ∙ ages-other base (h - x) a l i sides.0

pub dated-built : (tips base h : ℕ) (t : Newick) (ps l : List ℕ) → tips ≤ base → Named tips t
    → (base + joins t) + (base + joins t) ≤ length ps → base + joins t ≤ length l → Dated tips (pairs_in base t ps) (ages_in base h t l) base h t
unfolding pairs_in ages_in joins
dated-built tips base h (tip k) ps l B N hp hl =
    let z : k < tips = N.known k (let z = times-own k k refl in omega arith) in
    (z, get_or-set_same l k h 0 (omega arith))
dated-built tips base h (join a x b y) ps l B N hp hl =
    both
    (dated-built tips base (h - x) a ps l B named-a (omega arith) (omega arith))
    (dated-built tips (base + joins a) (h - y) b pairs-a ages-a (omega arith) named-b
    (let e : length pairs-a ≡ length ps = pairs-length base a ps in omega arith)
    (let e : length ages-a ≡ length l = ages-length base (h - x) a l in omega arith))
  where
    node : ℕ
    node = over base a b

    named-a : Named tips a
    named-a = named-left tips a x b y N

    named-b : Named tips b
    named-b = named-right tips a x b y N

    -- the lists behind the first side, behind both, and in the end
    pairs-a : List ℕ
    pairs-a = pairs_in base a ps

    ages-a : List ℕ
    ages-a = ages_in base (h - x) a l

    pairs-b : List ℕ
    pairs-b = pairs_in (base + joins a) b pairs-a

    ages-b : List ℕ
    ages-b = ages_in (base + joins a) (h - y) b ages-a

    pairs_end : List ℕ
    pairs_end = with_pair pairs-b node (node_of base a) (node_of (base + joins a) b)

    ages-end : List ℕ
    ages-end = set ages-b node h

    pairs-long : length pairs-b ≡ length ps
    pairs-long = pairs-length (base + joins a) b pairs-a ∙ pairs-length base a ps

    ages-long : length ages-b ≡ length l
    ages-long = ages-length (base + joins a) (h - y) b ages-a ∙ ages-length base (h - x) a l

    -- the node's own slots and age come behind those of its sides
    pair-before : (i : ℕ) → i < node + node → get_or pairs_end i 0 ≡ get_or pairs-b i 0
    pair-before i p = pair-other pairs-b node (node_of base a) (node_of (base + joins a) b) i (λ e. omega arith) (λ e. omega arith)

    age-before : (i : ℕ) → i < node → get_or ages-end i 0 ≡ get_or ages-b i 0
    age-before i p = get_or-set_other ages-b node i h 0 (λ e. omega arith)

    age-a : (i : ℕ) → Inside base a i → get_or ages-end i 0 ≡ get_or ages-a i 0
    age-a i p =
        let z = inside-lt tips base a B named-a i p in
        age-before i (omega arith) ∙ ages-other (base + joins a) (h - y) b ages-a i (left-outside tips base a x b y B N i p)

    both : Dated tips pairs-a ages-a base (h - x) a → Dated tips pairs-b ages-b (base + joins a) (h - y) b
        → Dated tips pairs_end ages-end base h (join a x b y)
    both A C = (
      pair-first pairs-b node (node_of base a) (node_of (base + joins a) b) (let e = pairs-long in omega arith),
      pair-second pairs-b node (node_of base a) (node_of (base + joins a) b) (let e = pairs-long in omega arith),
      get_or-set_same ages-b node h 0 (let e = ages-long in omega arith),
      dated-same tips pairs-a ages-a pairs_end ages-end base (h - x) a A
          (λ i p q. pair-before i (omega arith) ∙ pairs-other (base + joins a) b pairs-a i (inl q)) age-a,
      dated-same tips pairs-b ages-b pairs_end ages-end (base + joins a) (h - y) b C
          (λ i p q. pair-before i q) (λ i p. age-before i (inside-lt tips (base + joins a) b (omega arith) named-b i p)),
    )

-- ---- a value held twice

-- every slot of its parentheses is the same
pub same_pairs : (tips : ℕ) (ps l ps' l' : List ℕ) (base h h' : ℕ) (t : Newick) → Dated tips ps l base h t → Dated tips ps' l' base h' t
    → (i : ℕ) → base + base ≤ i → i < (base + joins t) + (base + joins t) → get_or ps i 0 ≡ get_or ps' i 0
unfolding joins
same_pairs tips ps l ps' l' base h h' (tip k) D E i p q = absurd (omega arith)
same_pairs tips ps l ps' l' base h h' (join a x b y) D E i p q =
    let v = over base a b in
    elim (dec_le ((base + joins a) + (base + joins a)) i) [
      | no in-a ↦ same_pairs tips ps l ps' l' base (h - x) (h' - x) a D.3 E.3 i p (omega arith)
      | yes behind-a ↦ elim (dec_le (v + v) i) [
        | no in_b ↦ same_pairs tips ps l ps' l' (base + joins a) (h - y) (h' - y) b D.4 E.4 i behind-a (omega arith)
        | yes behind-b ↦ elim (ℕ_discrete i (v + v)) [
          | yes e ↦ rw e (D.0 ∙ sym E.0)
          | no d ↦ let e : i ≡ suc (v + v) = omega arith in rw e (D.1 ∙ sym E.1)
        ]
      ]
    ]

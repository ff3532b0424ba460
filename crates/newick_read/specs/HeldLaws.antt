-- The pairs and lengths of a Newick value as lists hold them (`Holds`): what the second pass puts into lists, they hold (`held`). Assumes nothing.
use Rattle.std.specs.Prelude.{◌≡◌, refl, ◌≢◌, List, ℕ, suc, ◌+◌, ◌≤◌, ◌<◌, length, get_or, set}
use Rattle.std.proofs.Common.{sym, ◌∙◌, inl, arith, length-set, get_or-set_same, get_or-set_other}
use Rattle.newick.specs.Newick.{Newick, tip, join}
use Rattle.newick.specs.Numbering.{joins, node_of, pairs_in}
use Rattle.newick.specs.NumberingLaws.{times-own, Named, named-left, named-right, Inside, Outside, node-inside, node-outside, sides-outside}
use Rattle.newick.specs.NumberingLaws.{inside-left, inside-right, inside-lt, left-outside, pairs-length, pairs-other}
use Rattle.newick_file.specs.Filing.{lengths_in}

-- at each parenthesis its two children, and at each child the length above it
abbrev pub Holds : ℕ → List ℕ → List ℕ → ℕ → Newick → Type 0
Holds tips ps us base (tip k) = k < tips
Holds tips ps us base (join a x b y) =
    (get_or ps ((base + joins a + joins b) + (base + joins a + joins b)) 0 ≡ node_of base a)
    × (get_or ps (suc ((base + joins a + joins b) + (base + joins a + joins b))) 0 ≡ node_of (base + joins a) b)
    × (get_or us (node_of base a) 0 ≡ x) × (get_or us (node_of (base + joins a) b) 0 ≡ y)
    × Holds tips ps us base a × Holds tips ps us (base + joins a) b

-- ---- lengths

pub lengths-length : (base : ℕ) (t : Newick) (us : List ℕ) → length (lengths_in base t us) ≡ length us
unfolding lengths_in
lengths-length base (tip k) us = refl
lengths-length base (join a x b y) us =
    let us₁ = lengths_in base a us in
    simp length-set (lengths-length (base + joins a) b (set us₁ (node_of base a) x) ∙ length-set us₁ (node_of base a) x ∙ lengths-length base a us)

lengths-other : (base : ℕ) (t : Newick) (us : List ℕ) (i : ℕ) → Outside base t i → get_or (lengths_in base t us) i 0 ≡ get_or us i 0
unfolding lengths_in
lengths-other base (tip k) us i o = refl
lengths-other base (join a x b y) us i o =
    let s = sides-outside base a x b y i o in
    let us₁ = lengths_in base a us in
    let us₂ = set us₁ (node_of base a) x in
    get_or-set_other (lengths_in (base + joins a) b us₂) (node_of (base + joins a) b) i y 0 (λ e. node-outside (base + joins a) b i s.1 (sym e))
    ∙ lengths-other (base + joins a) b us₂ i s.1
    ∙ get_or-set_other us₁ (node_of base a) i x 0 (λ e. node-outside base a i s.0 (sym e))
    ∙ lengths-other base a us i s.0

-- ---- other lists that are the same at the slots and below the upper node of a subtree hold it too

holds_same : (tips : ℕ) (ps us ps' us' : List ℕ) (base : ℕ) (t : Newick) → tips ≤ base → Named tips t → Holds tips ps us base t
    → ((i : ℕ) → base + base ≤ i → i < (base + joins t) + (base + joins t) → get_or ps' i 0 ≡ get_or ps i 0)
    → ((i : ℕ) → Inside base t i → i ≢ node_of base t → get_or us' i 0 ≡ get_or us i 0) → Holds tips ps' us' base t
unfolding node_of joins
holds_same tips ps us ps' us' base (tip k) B N H P L = H
holds_same tips ps us ps' us' base (join a x b y) B N H P L =
    let NA = named-left tips a x b y N in
    let NB = named-right tips a x b y N in
    let v = base + joins a + joins b in
    let i = node_of base a in
    let j = node_of (base + joins a) b in
    let A : (k : ℕ) → Inside base a k → k < base + joins a = inside-lt tips base a B NA in
    let C : (k : ℕ) → Inside (base + joins a) b k → k < base + joins a + joins b = inside-lt tips (base + joins a) b (omega arith) NB in
    let la = A i (node-inside base a) in
    let lb = C j (node-inside (base + joins a) b) in (
      P (v + v) (omega arith) (omega arith) ∙ H.0,
      P (suc (v + v)) (omega arith) (omega arith) ∙ H.1,
      L i (inside-left base a x b y i (node-inside base a)) (λ e. omega arith) ∙ H.2,
      L j (inside-right base a x b y j (node-inside (base + joins a) b)) (λ e. omega arith) ∙ H.3,
      holds_same tips ps us ps' us' base a B NA H.4
          (λ k p q. P k p (omega arith))
          (λ k p q. L k (inside-left base a x b y k p) (λ e. let z = A k p in omega arith)),
      holds_same tips ps us ps' us' (base + joins a) b (omega arith) NB H.5
          (λ k p q. P k (omega arith) (omega arith))
          (λ k p q. L k (inside-right base a x b y k p) (λ e. let z = C k p in omega arith)),
    )

-- ---- what is put there, is held

pub held : (tips base : ℕ) (t : Newick) (ps us : List ℕ) → tips ≤ base → Named tips t
    → (base + joins t) + (base + joins t) ≤ length ps → base + joins t ≤ length us
    → Holds tips (pairs_in base t ps) (lengths_in base t us) base t
unfolding pairs_in lengths_in joins
held tips base (tip k) ps us B N hp hl = N.known k (let z = times-own k k refl in omega arith)
held tips base (join a x b y) ps us B N hp hl = go
    (held tips base a ps us B (named-left tips a x b y N) (omega arith) (omega arith))
    (held tips (base + joins a) b (pairs_in base a ps) (set (lengths_in base a us) (node_of base a) x) (omega arith) (named-right tips a x b y N)
    (let z : length (pairs_in base a ps) ≡ length ps = pairs-length base a ps in omega arith)
    (let z = length-set (lengths_in base a us) (node_of base a) x ∙ lengths-length base a us in omega arith))
  where
    v : ℕ
    v = base + joins a + joins b

    i : ℕ
    i = node_of base a

    j : ℕ
    j = node_of (base + joins a) b

    P1 : List ℕ
    P1 = pairs_in base a ps

    P2 : List ℕ
    P2 = pairs_in (base + joins a) b P1

    PF : List ℕ
    PF = set (set P2 (v + v) i) (suc (v + v)) j

    L1 : List ℕ
    L1 = lengths_in base a us

    L2 : List ℕ
    L2 = set L1 i x

    L3 : List ℕ
    L3 = lengths_in (base + joins a) b L2

    LF : List ℕ
    LF = set L3 j y

    NA : Named tips a
    NA = named-left tips a x b y N

    NB : Named tips b
    NB = named-right tips a x b y N

    la : i < base + joins a
    la = inside-lt tips base a B NA i (node-inside base a)

    lb : j < base + joins a + joins b
    lb = inside-lt tips (base + joins a) b (omega arith) NB j (node-inside (base + joins a) b)

    p2 : length P2 ≡ length ps
    p2 = pairs-length (base + joins a) b P1 ∙ pairs-length base a ps

    l1 : length L1 ≡ length us
    l1 = lengths-length base a us

    l3 : length L3 ≡ length us
    l3 = lengths-length (base + joins a) b L2 ∙ length-set L1 i x ∙ l1

    slot : (k : ℕ) → k < v + v → get_or PF k 0 ≡ get_or P2 k 0
    slot k h = get_or-set_other (set P2 (v + v) i) (suc (v + v)) k j 0 (λ e. omega arith) ∙ get_or-set_other P2 (v + v) k i 0 (λ e. omega arith)

    node : (k : ℕ) → Inside base a k → get_or LF k 0 ≡ get_or L2 k 0
    node k h =
        let o = left-outside tips base a x b y B N k h in
        get_or-set_other L3 j k y 0 (λ e. node-outside (base + joins a) b k o (sym e)) ∙ lengths-other (base + joins a) b L2 k o

    go : Holds tips P1 L1 base a → Holds tips P2 L3 (base + joins a) b → Holds tips PF LF base (join a x b y)
    go A C = (
      get_or-set_other (set P2 (v + v) i) (suc (v + v)) (v + v) j 0 (λ e. omega arith) ∙ get_or-set_same P2 (v + v) i 0 (let p = p2 in omega arith),
      get_or-set_same (set P2 (v + v) i) (suc (v + v)) j 0 (let p = length-set P2 (v + v) i ∙ p2 in omega arith),
      node i (node-inside base a) ∙ get_or-set_same L1 i x 0 (let p = l1 in let q = la in omega arith),
      get_or-set_same L3 j y 0 (let p = l3 in let q = lb in omega arith),
      holds_same tips P1 L1 PF LF base a B NA A
          (λ k p q. slot k (omega arith) ∙ pairs-other (base + joins a) b P1 k (inl q))
          (λ k h d. node k h ∙ get_or-set_other L1 i k x 0 d),
      holds_same tips P2 L3 PF LF (base + joins a) b (omega arith) NB C
          (λ k p q. slot k q)
          (λ k h d. get_or-set_other L3 j k y 0 d),
    )

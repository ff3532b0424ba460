-- Laws of the numbers and pairs of a Newick value: tips that are numbered, each once (`Named`); the nodes of a subtree and those outside it (`Inside`,
-- `Outside`); and what putting its pairs into a list leaves of other slots (`pairs-other`). Assumes nothing.
use Rattle.std.specs.Prelude.{◌≡◌, refl, ◌≢◌, ◌⊎◌, List, ℕ, suc, ◌+◌, ◌≤◌, ◌<◌, length, get_or, set}
use Rattle.std.proofs.Common.{sym, ◌∙◌, ⊎_elim, length-set, get_or-set_same, get_or-set_other, eq-eqb, ne_eqb}
use Rattle.std.proofs.Math.Logic.{inl, inr}
use Rattle.std.proofs.Math.Decide.{dec_le}
use native.Mathlib.Omega.{arith}
use Rattle.newick.specs.Newick.{Newick, tip, join}
use Rattle.newick.specs.Numbering.{joins, times, node_of, pairs_in}

-- ---- tips

pub times-own : (j k : ℕ) → j ≡ k → times j (tip k) ≡ 1
unfolding times
times-own j k e = rw (eq-eqb j k e)

pub times-other : (j k : ℕ) → j ≢ k → times j (tip k) ≡ 0
unfolding times
times-other j k d = rw (ne_eqb j k d)

-- those of a value are numbers below a count, and each occurs once
pub record Named (tips : ℕ) (t : Newick) : Type 0 where
  pub known : (j : ℕ) → 1 ≤ times j t → j < tips
  pub once : (j : ℕ) → times j t ≤ 1

-- and so are those of a part of it
part-named : (tips : ℕ) (s t : Newick) → ((j : ℕ) → times j s ≤ times j t) → Named tips t → Named tips s
part-named tips s t few N = record {
  known = λ j h. let f = few j in N.known j (omega arith);
  once = λ j. let f = few j in let o = N.once j in omega arith;
}

module _ (tips : ℕ) (a : Newick) (x : ℕ) (b : Newick) (y : ℕ) (N : Named tips (join a x b y)) where
  pub named-left : Named tips a
  unfolding times
  named-left = part-named tips a (join a x b y) (λ j. omega arith) N

  pub named-right : Named tips b
  unfolding times
  named-right = part-named tips b (join a x b y) (λ j. omega arith) N

-- ---- the nodes of a subtree

-- the number of the node over two subtrees, whose parenthesis closes behind all of theirs
abbrev pub over : ℕ → Newick → Newick → ℕ
over base a b = base + joins a + joins b

-- a tip of it, or a parenthesis of it by its number
abbrev pub Inside : ℕ → Newick → ℕ → Type 0
Inside base t i = (1 ≤ times i t) ⊎ ((base ≤ i) × (i < base + joins t))

abbrev pub Outside : ℕ → Newick → ℕ → Type 0
Outside base t i = (times i t ≡ 0) × ((i < base) ⊎ (base + joins t ≤ i))

pub node-inside : (base : ℕ) (t : Newick) → Inside base t (node_of base t)
unfolding node_of joins
node-inside base (tip k) = inl (let z = times-own k k refl in omega arith)
node-inside base (join a x b y) = inr (omega arith, omega arith)

pub inside-lt : (tips base : ℕ) (t : Newick) → tips ≤ base → Named tips t → (i : ℕ) → Inside base t i → i < base + joins t
inside-lt tips base t B N i (inl h) = let z : i < tips = N.known i h in omega arith
inside-lt tips base t B N i (inr p) = p.1

module _ (base : ℕ) (a : Newick) (x : ℕ) (b : Newick) (y i : ℕ) where
  pub inside-left : Inside base a i → Inside base (join a x b y) i
  unfolding times joins
  inside-left (inl h) = inl (omega arith)
  inside-left (inr p) = let u = p.0 in let w = p.1 in inr (u, omega arith)

  pub inside-right : Inside (base + joins a) b i → Inside base (join a x b y) i
  unfolding times joins
  inside-right (inl h) = inl (omega arith)
  inside-right (inr p) = let u = p.0 in let w = p.1 in inr (omega arith, omega arith)

pub node-outside : (base : ℕ) (t : Newick) (i : ℕ) → Outside base t i → node_of base t ≢ i
unfolding node_of joins
node-outside base (tip k) i o e = (let z = times-own i k (sym e) in let w : times i (tip k) ≡ 0 = o.0 in omega arith)
node-outside base (join a x b y) i o e = ⊎_elim (λ (p : i < base). omega arith) (λ (p : base + suc (joins a + joins b) ≤ i). omega arith) o.1

pub sides-outside : (base : ℕ) (a : Newick) (x : ℕ) (b : Newick) (y i : ℕ) → Outside base (join a x b y) i
    → Outside base a i × Outside (base + joins a) b i
unfolding times joins
sides-outside base a x b y i o =
    let z : times i a + times i b ≡ 0 = o.0 in
    ⊎_elim {C = Outside base a i × Outside (base + joins a) b i}
    (λ (p : i < base). ((omega arith, inl p), (omega arith, inl (omega arith))))
    (λ (p : base + suc (joins a + joins b) ≤ i). ((omega arith, inr (omega arith)), (omega arith, inr (omega arith))))
    o.1

-- a node of the first side is none of the second: a tip occurs once, and a parenthesis is no tip
pub left-outside : (tips base : ℕ) (a : Newick) (x : ℕ) (b : Newick) (y : ℕ) → tips ≤ base → Named tips (join a x b y)
    → (i : ℕ) → Inside base a i → Outside (base + joins a) b i
left-outside tips base a x b y B N i h = (absent h, inl (inside-lt tips base a B (named-left tips a x b y N) i h))
  where
    absent : Inside base a i → times i b ≡ 0
    absent (inl own) = let o : times i a + times i b ≤ 1 = (unfold times in N.once i) in omega arith
    absent (inr p) = elim (dec_le 1 (times i b)) [
      | yes q ↦ let k = (named-right tips a x b y N).known i q in let u = p.0 in absurd (omega arith)
      | no q ↦ omega arith
    ]

-- ---- pairs

pub pairs-length : (base : ℕ) (t : Newick) (ps : List ℕ) → length (pairs_in base t ps) ≡ length ps
unfolding pairs_in
pairs-length base (tip k) ps = refl
pairs-length base (join a x b y) ps = simp length-set (pairs-length (base + joins a) b (pairs_in base a ps) ∙ pairs-length base a ps)

-- the two slots of a node, and that the others keep what they have
module _ (ps : List ℕ) (v p q : ℕ) where
  abbrev pub with_pair : List ℕ
  with_pair = set (set ps (v + v) p) (suc (v + v)) q

  pub pair-first : v + v < length ps → get_or with_pair (v + v) 0 ≡ p
  pair-first h = get_or-set_other (set ps (v + v) p) (suc (v + v)) (v + v) q 0 (λ e. omega arith) ∙ get_or-set_same ps (v + v) p 0 h

  pub pair-second : suc (v + v) < length ps → get_or with_pair (suc (v + v)) 0 ≡ q
  pair-second h = get_or-set_same (set ps (v + v) p) (suc (v + v)) q 0 (let e = length-set ps (v + v) p in omega arith)

  pub pair-other : (i : ℕ) → i ≢ v + v → i ≢ suc (v + v) → get_or with_pair i 0 ≡ get_or ps i 0
  pair-other i d e = get_or-set_other (set ps (v + v) p) (suc (v + v)) i q 0 e ∙ get_or-set_other ps (v + v) i p 0 d

-- slots of other nodes than a subtree's parentheses
abbrev Apart : ℕ → Newick → ℕ → Type 0
Apart base t i = (i < base + base) ⊎ ((base + joins t) + (base + joins t) ≤ i)

module _ (base : ℕ) (a : Newick) (x : ℕ) (b : Newick) (y i : ℕ) where
  apart-sides : Apart base (join a x b y) i → Apart base a i × Apart (base + joins a) b i
  unfolding joins
  apart-sides (inl p) = (inl p, inl (omega arith))
  apart-sides (inr p) = (inr (omega arith), inr (omega arith))

  apart-over : Apart base (join a x b y) i → (i ≢ over base a b + over base a b) × (i ≢ suc (over base a b + over base a b))
  unfolding joins
  apart-over (inl p) = (λ e. omega arith, λ e. omega arith)
  apart-over (inr p) = (λ e. omega arith, λ e. omega arith)

-- they keep what they have
pub pairs-other : (base : ℕ) (t : Newick) (ps : List ℕ) (i : ℕ) → (i < base + base) ⊎ ((base + joins t) + (base + joins t) ≤ i)
    → get_or (pairs_in base t ps) i 0 ≡ get_or ps i 0
unfolding pairs_in
pairs-other base (tip k) ps i o = refl
pairs-other base (join a x b y) ps i o =
    let sides = apart-sides base a x b y i o in
    let own = apart-over base a x b y i o in
    pair-other (pairs_in (base + joins a) b (pairs_in base a ps)) (over base a b) (node_of base a) (node_of (base + joins a) b) i own.0 own.1
    ∙ pairs-other (base + joins a) b (pairs_in base a ps) i sides.1
    ∙ pairs-other base a ps i sides.0

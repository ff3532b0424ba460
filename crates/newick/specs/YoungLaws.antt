-- The ages of a Newick value: its youngest tip's is that of its upper node less the longest way down (`young-tip`), and two lists that hold it with different
-- ages of the upper node differ by as much everywhere (`dated-shift`). Of what was read: the lists hold the value (`read-dated`), one tip has age 0
-- (`young-read`), and no age is above the root's (`ages-most`). Assumes nothing.
use Rattle.std.specs.Prelude.{◌≡◌, List, length, set, replicate}
use Rattle.std.proofs.Common.{ap, ◌∙◌, inl, inr, le_refl, get_or-set_same, get_or-set_other}
use Prim.Native.Nat.{ℕ, suc, ◌+◌, ◌-◌, ◌≤◌, ◌<◌, max}
use Rattle.std.proofs.Math.Decide.{ℕ_discrete, dec_le, dec_lt}
use native.Mathlib.Omega.{arith}
use Rattle.std.proofs.Math.ListN.{get_or, get_or-eq_default}
use Rattle.std.proofs.lemmas.List.{length-replicate, get_or-replicate}
use Rattle.std.proofs.Math.Seq.{set_out}
use Rattle.tree.specs.Tree.{no_node}
use Rattle.newick.specs.Newick.{Newick, tip, join}
use Rattle.newick.specs.Numbering.{joins, tips_in, nodes_in, times, pairs_read, reach, ages_in, ages_read}
use Rattle.newick.specs.NumberingLaws.{times-other, Named, over, Inside}
use Rattle.newick.specs.DatedLaws.{Dated, dated-built}

-- ---- the youngest tip

-- a tip of so many that has the age a
abbrev pub TipAt : ℕ → List ℕ → ℕ → Type 0
TipAt tips l a = (k : ℕ) × (k < tips) × (get_or l k 0 ≡ a)

pub young-tip : (tips : ℕ) (ps l : List ℕ) (base h : ℕ) (t : Newick) → reach t ≤ h → Dated tips ps l base h t → TipAt tips l (h - reach t)
unfolding reach
young-tip tips ps l base h (tip k) r D = let e : h ≡ h - 0 = omega arith in (k, D.0, D.1 ∙ e)
young-tip tips ps l base h (join a x b y) r D = elim (dec_le (y + reach b) (x + reach a)) [
  | yes q ↦
      let s = young-tip tips ps l base (h - x) a (omega arith) D.3 in
      let e : h - x - reach a ≡ h - max (x + reach a) (y + reach b) = omega arith in
      (s.0, s.1, s.2 ∙ e)
  | no q ↦
      let s = young-tip tips ps l (base + joins a) (h - y) b (omega arith) D.4 in
      let e : h - y - reach b ≡ h - max (x + reach a) (y + reach b) = omega arith in
      (s.0, s.1, s.2 ∙ e)
]

-- ---- the same value with another age of its upper node

tip-own : (i k : ℕ) → 1 ≤ times i (tip k) → i ≡ k
tip-own i k h = elim (ℕ_discrete i k) [ yes e ↦ e | no d ↦ let z = times-other i k d in absurd (omega arith) ]

-- a length x further up
shift-up : (p q h h' x : ℕ) → x ≤ h → x ≤ h' → p + (h' - x) ≡ q + (h - x) → p + h' ≡ q + h
shift-up p q h h' x a b e = omega arith

pub dated-shift : (tips : ℕ) (ps l ps' l' : List ℕ) (base h h' : ℕ) (t : Newick) → reach t ≤ h → reach t ≤ h'
    → Dated tips ps l base h t → Dated tips ps' l' base h' t → (i : ℕ) → Inside base t i → get_or l i 0 + h' ≡ get_or l' i 0 + h
unfolding reach joins
dated-shift tips ps l ps' l' base h h' (tip k) r r' D E i (inl g) =
    let p : get_or l k 0 ≡ h = D.1 in
    let q : get_or l' k 0 ≡ h' = E.1 in
    rw (tip-own i k g) (omega arith)
dated-shift tips ps l ps' l' base h h' (tip k) r r' D E i (inr g) = let a = g.0 in let b = g.1 in absurd (omega arith)
dated-shift tips ps l ps' l' base h h' (join a x b y) r r' D E i g = go g
    (λ u. shift-up (get_or l i 0) (get_or l' i 0) h h' x (omega arith) (omega arith)
    (dated-shift tips ps l ps' l' base (h - x) (h' - x) a (omega arith) (omega arith) D.3 E.3 i u))
    (λ u. shift-up (get_or l i 0) (get_or l' i 0) h h' y (omega arith) (omega arith)
    (dated-shift tips ps l ps' l' (base + joins a) (h - y) (h' - y) b (omega arith) (omega arith) D.4 E.4 i u))
  where
    Same : Type 0
    Same = get_or l i 0 + h' ≡ get_or l' i 0 + h

    go : Inside base (join a x b y) i → (Inside base a i → Same) → (Inside (base + joins a) b i → Same) → Same
    go (inl u) in-a in_b = elim (dec_le 1 (times i a)) [
      | yes c ↦ in-a (inl c)
      | no c ↦ in_b (inl (let w : 1 ≤ times i a + times i b = (unfold times in u) in omega arith))
    ]
    go (inr u) in-a in_b = elim (dec_lt i (base + joins a)) [
      | yes c ↦ in-a (inr (u.0, c))
      | no c ↦ elim (dec_lt i (over base a b)) [
        | yes d ↦ in_b (inr (omega arith, d))
        | no d ↦
            let top : i < base + suc (joins a + joins b) = u.1 in
            let e : i ≡ over base a b = omega arith in
            let p : get_or l (over base a b) 0 ≡ h = D.2 in
            let q : get_or l' (over base a b) 0 ≡ h' = E.2 in
            rw e (omega arith)
      ]
    ]

-- ---- of what was read

-- the lists that the reader yields hold the value
pub read-dated : (t : Newick) → Named (tips_in t) t → Dated (tips_in t) (pairs_read t) (ages_read t) (tips_in t) (reach t) t
unfolding pairs_read ages_read
read-dated t N =
    let slots = length-replicate (nodes_in t + nodes_in t) no_node in
    let places = length-replicate {A = ℕ} (nodes_in t) 0 in
    dated-built (tips_in t) (tips_in t) (reach t) t (replicate (nodes_in t + nodes_in t) no_node) (replicate (nodes_in t) 0) (le_refl _) N
    (omega arith) (omega arith)

pub young-read : (t : Newick) → Named (tips_in t) t → TipAt (tips_in t) (ages_read t) 0
young-read t N =
    let y = young-tip (tips_in t) (pairs_read t) (ages_read t) (tips_in t) (reach t) t (le_refl _) (read-dated t N) in
    let z : reach t - reach t ≡ 0 = omega arith in
    (y.0, y.1, y.2 ∙ z)

-- ---- no age is above the root's

abbrev AtMost : ℕ → List ℕ → Type 0
AtMost m l = (i : ℕ) → get_or l i 0 ≤ m

most-set : (m k x : ℕ) (l : List ℕ) → x ≤ m → AtMost m l → AtMost m (set l k x)
most-set m k x l h A i = let w = A i in elim (ℕ_discrete i k) [
  | yes e ↦ elim (dec_lt k (length l)) [
    | yes q ↦ let z : get_or (set l k x) i 0 ≡ x = ap (λ (j : ℕ). get_or (set l k x) j 0) e ∙ get_or-set_same l k x 0 q in omega arith
    | no q ↦ let z : get_or (set l k x) i 0 ≡ get_or l i 0 = ap (λ (y : List ℕ). get_or y i 0) (set_out l k x (omega arith)) in omega arith
  ]
  | no d ↦ let z : get_or (set l k x) i 0 ≡ get_or l i 0 = get_or-set_other l k i x 0 d in omega arith
]

most-in : (m base h : ℕ) (t : Newick) (l : List ℕ) → h ≤ m → AtMost m l → AtMost m (ages_in base h t l)
unfolding ages_in
most-in m base h (tip k) l g A = most-set m k h l g A
most-in m base h (join a x b y) l g A =
    most-set m (over base a b) h (ages_in (base + joins a) (h - y) b (ages_in base (h - x) a l)) g
    (most-in m (base + joins a) (h - y) b (ages_in base (h - x) a l) (omega arith) (most-in m base (h - x) a l (omega arith) A))

most-zeros : (n m : ℕ) → AtMost m (replicate n 0)
most-zeros n m i = elim (dec_lt i n) [
  | yes q ↦ let z : ◌≡◌ {A = ℕ} (get_or (replicate n 0) i 0) 0 = get_or-replicate n i 0 0 q in omega arith
  | no q ↦
      let w = length-replicate {A = ℕ} n 0 in
      let z : ◌≡◌ {A = ℕ} (get_or (replicate n 0) i 0) 0 = get_or-eq_default (replicate n 0) 0 (omega arith) in
      omega arith
]

pub ages-most : (t : Newick) (i : ℕ) → get_or (ages_read t) i 0 ≤ reach t
unfolding ages_read
ages-most t i = most-in (reach t) (tips_in t) (reach t) t (replicate (nodes_in t) 0) (le_refl _) (most-zeros (nodes_in t) (reach t)) i

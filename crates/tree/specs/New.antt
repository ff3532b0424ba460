-- `Tree::new` on pairs and heights, and `validate` on all that a tree has: what they give, or what they refuse, in the order of the refusals'
-- numbers. Scans go over the first m nodes. Definitions only. Assumes nothing.
use Rattle.std.specs.Prelude.{◌≡◌, Bool, true, not, ◌&&◌, ◌||◌, cond, List, [], ◌∷◌, ◌++◌, ℕ, zero, suc, ◌+◌, ◌%◌, leb, eqb, length, get_or, set, replicate, Float, Result, Ok, Err}
use Rattle.std.specs.Float.Ieee.{lt, le}
use Rattle.std.specs.Float.Ieee.Scale.{finite}
use Rattle.answer.specs.declared.Refusal.{Refusal}
use Rattle.answer.specs.declared.Refusal.TheVariants.{Size, Shape, Disconnected, Height}
use Rattle.real.specs.Real as Real
use Rattle.tree.specs.Tree.{Tree, no_node, nodes_of, inner, first_in, second_in, parent, height, subtree}

-- ---- the sizes

-- refusal 1: "under 3, even, over 4,095, or lengths disagree"
abbrev pub counts : ℕ → Bool
counts n = leb 3 n && leb n 4095 && eqb (n % 2) 1

abbrev pub size_fits : ℕ → List ℕ → List Float → Bool
size_fits n pairs heights = counts n && eqb (length pairs) (n + n) && eqb (length heights) n

-- ---- the parents, from the pairs

-- parents filled so far, or why there are none
pub data Scan : Type 0 where
  stopped : Refusal → Scan
  filled : List ℕ → Scan

-- node k takes c for a child: a child that is out of range or k itself is k's fault, one that has a parent already is its own
unfoldable pub adopt : ℕ → ℕ → ℕ → List ℕ → Scan
adopt n k c ps = cond (leb n c || eqb c k) (stopped (Shape k)) (cond (eqb (get_or ps c 0) no_node) (filled (set ps c k)) (stopped (Shape c)))

unfoldable pub then_adopt : ℕ → ℕ → ℕ → Scan → Scan
then_adopt n k c (stopped why) = stopped why
then_adopt n k c (filled ps) = adopt n k c ps

-- node k takes both of its children; equal children, or a tip's children other than the mark, are its fault
unfoldable pub visit : ℕ → List ℕ → ℕ → Scan → Scan
visit n pairs k (stopped why) = stopped why
visit n pairs k (filled ps) =
    let a = first_in pairs k in
    let b = second_in pairs k in
    cond (inner n k) (cond (eqb a b) (stopped (Shape k)) (then_adopt n k b (adopt n k a ps))) (cond (eqb a no_node && eqb b no_node) (filled ps) (stopped (Shape k)))

unfoldable pub scan : ℕ → List ℕ → ℕ → Scan
scan n pairs zero = filled (replicate n no_node)
scan n pairs (suc m) = visit n pairs m (scan n pairs m)

-- ---- the root

-- the nodes without a parent
unfoldable pub roots : List ℕ → ℕ → List ℕ
roots ps zero = []
roots ps (suc m) = roots ps m ++ cond (eqb (get_or ps m 0) no_node) (m ∷ []) []

-- the one there is
abbrev pub only_root : List ℕ → Result ℕ Refusal
only_root [] = Err Disconnected
only_root (r ∷ []) = Ok r
only_root (r ∷ q ∷ qs) = Err Disconnected

abbrev pub root_of : List ℕ → Result ℕ Refusal
root_of ps = only_root (roots ps (length ps))

-- ---- parents and root together

pub data Shaping : Type 0 where
  unshaped : Refusal → Shaping
  shaping : List ℕ → ℕ → Shaping

-- the root's subtree has all nodes, or a ring stands beside it
unfoldable pub joined : ℕ → List ℕ → List ℕ → Result ℕ Refusal → Shaping
joined n pairs ps (Err why) = unshaped why
joined n pairs ps (Ok r) = cond (eqb (length (subtree n n pairs r)) n) (shaping ps r) (unshaped Disconnected)

unfoldable pub scanned : ℕ → List ℕ → Scan → Shaping
scanned n pairs (stopped why) = unshaped why
scanned n pairs (filled ps) = joined n pairs ps (root_of ps)

abbrev pub shape_of : ℕ → List ℕ → Shaping
shape_of n pairs = scanned n pairs (scan n pairs n)

-- ---- the heights

-- "negative, not finite, or not at most its parent"; "−0.0 counts as zero"
unfoldable pub misdated : Tree → ℕ → Bool
misdated t k = lt (height t k) Real.zero || not (finite (height t k)) || (not (eqb k t.root) && not (le (height t k) (height t (parent t k))))

-- the lowest of the first m numbers at which the test holds is refused
abbrev pub or_refused : Result (Unit {0}) Refusal → Bool → Refusal → Result (Unit {0}) Refusal
or_refused (Err why) b next = Err why
or_refused (Ok tt) b next = cond b (Err next) (Ok tt)

unfoldable pub lowest : (ℕ → Bool) → (ℕ → Refusal) → ℕ → Result (Unit {0}) Refusal
lowest test why zero = (Ok tt)
lowest test why (suc m) = or_refused (lowest test why m) (test m) (why m)

abbrev pub dates_of : Tree → Result (Unit {0}) Refusal
dates_of t = lowest (misdated t) Height (length t.heights)

-- ---- `Tree::new`

pub data New : Type 0 where
  refused : Refusal → New
  made : Tree → New

unfoldable pub dated : Tree → Result (Unit {0}) Refusal → New
dated t (Err why) = refused why
dated t (Ok tt) = made t

unfoldable pub new_from : List ℕ → List Float → Shaping → New
new_from pairs heights (unshaped why) = refused why
new_from pairs heights (shaping ps r) = let t : Tree = record { pairs = pairs; parents = ps; heights = heights; root = r } in dated t (dates_of t)

unfoldable pub new_tree : List ℕ → List Float → New
new_tree pairs heights = let n = nodes_of pairs in cond (size_fits n pairs heights) (new_from pairs heights (shape_of n pairs)) (refused (Size n))

-- `Tree::new` accepts t's pairs and heights, and gives t's parents and root
abbrev pub Accepted : Tree → Type 0
Accepted t = new_tree t.pairs t.heights ≡ made t

-- ---- `validate`

-- the numbers of two lists agree at the first m places
unfoldable pub agree : List ℕ → List ℕ → ℕ → Bool
agree a b zero = true
agree a b (suc m) = agree a b m && eqb (get_or a m 0) (get_or b m 0)

-- "given parents or root are not the pairs'": a 3, which comes before a height's 4
unfoldable pub judged : Tree → Shaping → Result (Unit {0}) Refusal
judged t (unshaped why) = Err why
judged t (shaping ps r) = cond (eqb r t.root && agree ps t.parents (length ps)) (dates_of t) (Err Disconnected)

unfoldable pub validated : Tree → Result (Unit {0}) Refusal
validated t =
    let n = nodes_of t.pairs in
    cond (size_fits n t.pairs t.heights && eqb (length t.parents) n) (judged t (shape_of n t.pairs)) (Err (Size n))

-- ---- `new` as it is called: the answer, and the lent parents afterwards

pub record NewCall : Type 0 where
  pub answer : Result ℕ Refusal
  pub parents : List ℕ

abbrev pub new_answered : List ℕ → New → NewCall
new_answered parents (refused why) = record { answer = Err why; parents = parents }
new_answered parents (made t) = record { answer = Ok t.root; parents = t.parents }

unfoldable pub new_call : List ℕ → List Float → List ℕ → NewCall
new_call pairs heights parents =
    let n = nodes_of pairs in
    new_answered parents (cond (eqb (length parents) n) (new_tree pairs heights) (refused (Size n)))

-- `validate` refuses with 1 to 4 and nothing else (`validated-few`), the lowest that is refused by its refusal's number (`lowest-few`); a bound for such a
-- number may be weakened (`few-more`). Assumes nothing.
use Rattle.std.specs.Prelude.{Bool, true, false, ◌&&◌, ◌||◌, cond, List, [], ◌∷◌, ℕ, zero, suc, ◌≤◌, leb, eqb, length, get_or, set, Result, Ok, Err}
use Rattle.std.proofs.Common.{arith}
use Rattle.answer.specs.declared.Refusal.{Refusal}
use Rattle.answer.specs.declared.Refusal.TheVariants.{Size, Shape, Disconnected, Height}
use Rattle.answer.specs.Answers.{number_of}
use Rattle.tree.specs.Tree.{Tree, no_node, nodes_of, inner, first_in, second_in, subtree}
use Rattle.tree.specs.New.{size_fits, Scan, stopped, filled, adopt, then_adopt, visit, scan, roots, only_root, unshaped, shaping, joined, scanned, misdated, lowest, agree, judged, validated}
use Rattle.tree.specs.LowestLaws.{Lowest, none, first, lowest-says}

-- it is fine, or a refusal with a number of at most m
abbrev pub AtMost : ℕ → Result (Unit {0}) Refusal → Type 0
AtMost m (Ok tt) = Unit {0}
AtMost m (Err why) = number_of why ≤ m

-- a property of one of two
pub either : {A : Type 0} (P : A → Type 0) (b : Bool) {x y : A} → P x → P y → P (cond b x y)
either P true h k = h
either P false h k = k

abbrev ScanFew : Scan → Type 0
ScanFew (stopped why) = number_of why ≤ 4
ScanFew (filled ps) = Unit {0}

adopt-few : (n k c : ℕ) (ps : List ℕ) → ScanFew (adopt n k c ps)
unfolding adopt
adopt-few n k c ps =
    either ScanFew (leb n c || eqb c k) {x = stopped (Shape k)} (omega arith)
    (either ScanFew (eqb (get_or ps c 0) no_node) {x = filled (set ps c k)} {y = stopped (Shape c)} tt (omega arith))

then-adopt-few : (n k c : ℕ) (s : Scan) → ScanFew s → ScanFew (then_adopt n k c s)
unfolding then_adopt
then-adopt-few n k c (stopped why) h = h
then-adopt-few n k c (filled ps) h = adopt-few n k c ps

visit-few : (n : ℕ) (pairs : List ℕ) (k : ℕ) (s : Scan) → ScanFew s → ScanFew (visit n pairs k s)
unfolding visit
visit-few n pairs k (stopped why) h = h
visit-few n pairs k (filled ps) h =
    let a = first_in pairs k in
    let b = second_in pairs k in
    either ScanFew (inner n k)
    (either ScanFew (eqb a b) {x = stopped (Shape k)} (omega arith) (then-adopt-few n k b (adopt n k a ps) (adopt-few n k a ps)))
    (either ScanFew (eqb a no_node && eqb b no_node) {x = filled ps} {y = stopped (Shape k)} tt (omega arith))

scan-few : (n : ℕ) (pairs : List ℕ) (m : ℕ) → ScanFew (scan n pairs m)
unfolding scan
scan-few n pairs zero = tt
scan-few n pairs (suc m) = visit-few n pairs m (scan n pairs m) (scan-few n pairs m)

-- the lowest that is refused has its refusal's number
pub lowest-few : (n : ℕ) (test : ℕ → Bool) (why : ℕ → Refusal) → ((k : ℕ) → number_of (why k) ≤ n) → (m : ℕ) → AtMost n (lowest test why m)
lowest-few n test why few m = said (lowest test why m) (lowest-says test why m)
  where
    said : (v : Result (Unit {0}) Refusal) → Lowest test why m v → AtMost n v
    said _ (none fails) = tt
    said _ (first k K e below) = few k

judged-few : (t : Tree) (n : ℕ) (pairs : List ℕ) (s : Scan) → ScanFew s → (AtMost 4) (judged t (scanned n pairs s))
unfolding judged scanned joined
judged-few t n pairs (stopped why) h = h
judged-few t n pairs (filled ps) h = root (roots ps (length ps))
  where
    shaped : (r : ℕ) (b : Bool) → (AtMost 4) (judged t (cond b (shaping ps r) (unshaped Disconnected)))
    shaped r true = either (AtMost 4) (eqb r t.root && agree ps t.parents (length ps)) {y = Err Disconnected} (lowest-few 4 (misdated t) Height (λ k. omega arith) (length t.heights)) (omega arith)
    shaped r false = omega arith

    root : (rs : List ℕ) → (AtMost 4) (judged t (joined n pairs ps (only_root rs)))
    root [] = omega arith
    root (r ∷ []) = shaped r (eqb (length (subtree n n pairs r)) n)
    root (r ∷ q ∷ qs) = omega arith

-- what is said of a tree is fine, or a refusal 1 to 4
pub validated-few : (t : Tree) → AtMost 4 (validated t)
unfolding validated
validated-few t =
    let n = nodes_of t.pairs in
    either (AtMost 4) (size_fits n t.pairs t.heights && eqb (length t.parents) n) {y = Err (Size n)}
    (judged-few t n t.pairs (scan n t.pairs n) (scan-few n t.pairs n)) (omega arith)

-- a larger bound holds too
pub few-more : (m n : ℕ) → m ≤ n → (v : Result (Unit {0}) Refusal) → AtMost m v → AtMost n v
few-more m n h (Ok tt) k = tt
few-more m n h (Err why) k = omega arith

-- Numbers in a list, sums and counts. In order: the test whether a number is in a list (`has-true`, `has-false`, `has_in`); sums over lists and over the
-- first numbers, and that a sum over different numbers is one over all numbers, of those among them (`total-distinct`); how many of the first numbers
-- pass a test (`count_most`, `count-some`, `count_none`, `total-count`). Assumes nothing.
use Rattle.std.specs.Prelude.{◌≡◌, refl, ◌≢◌, ◌⊎◌, Bool, true, false, ◌||◌, cond, List, [], ◌∷◌, ◌++◌, ℕ, zero, suc, ◌+◌, ◌*◌, ◌≤◌, ◌<◌, eqb, length, get_or}
use Rattle.std.proofs.Common.{sym, ap, ◌∙◌, inl, inr, true≢false, arith, eq-eqb, ne_eqb}
use Rattle.std.proofs.Math.Decide.{ℕ_discrete}
use Rattle.tree.specs.Bounded.{some, count_to}
use Rattle.tree.specs.ListLaws.{Has, has-none, has-dec, Distinct}
use Rattle.clades.specs.Clades.{has}
use Rattle.clades.specs.Counting.{total, total_to}

-- ---- the test whether a number is in a list

-- what is in a list after its first is in the whole
pub has-later : (x : ℕ) (l : List ℕ) {c : ℕ} → Has l c → Has (x ∷ l) c
has-later x l h = (suc h.0, (let b = h.1 in omega arith), h.2)

-- a number in a list is the first or is in the rest
pub has_split : (x : ℕ) (l : List ℕ) (c : ℕ) → Has (x ∷ l) c → (x ≡ c) ⊎ Has l c
has_split x l c h = pick h.0 h.1 h.2
  where
    pick : (a : ℕ) → a < suc (length l) → get_or (x ∷ l) a 0 ≡ c → (x ≡ c) ⊎ Has l c
    pick zero b e = inl e
    pick (suc a) b e = inr (a, omega arith, e)

-- the test passes for what is in the list
pub has-true : (l : List ℕ) (c : ℕ) → Has l c → has l c ≡ true
unfolding has
has-true [] c h = absurd (has-none h)
has-true (x ∷ l) c h = pick (ℕ_discrete x c) (has-true l c)
  where
    pick : Dec (x ≡ c) → (Has l c → has l c ≡ true) → (eqb x c || has l c) ≡ true
    pick (yes e) rest = rw (eq-eqb x c e)
    pick (no d) rest = rw (ne_eqb x c d) (rest (other (has_split x l c h)))
      where
        other : (x ≡ c) ⊎ Has l c → Has l c
        other (inl e) = absurd (d e)
        other (inr q) = q

-- and fails for what is not in it
pub has-false : (l : List ℕ) (c : ℕ) → (Has l c → ⊥) → has l c ≡ false
unfolding has
has-false [] c d = refl
has-false (x ∷ l) c d =
    let e : x ≢ c = λ q. d (0, omega arith, q) in
    rw (ne_eqb x c e) (has-false l c (λ h. d (has-later x l h)))

-- what passes it is in the list
pub has_in : (l : List ℕ) (c : ℕ) → has l c ≡ true → Has l c
has_in l c e = elim (has-dec l c) [ yes h ↦ h | no d ↦ absurd (true≢false (sym e ∙ has-false l c d)) ]

-- ---- sums

-- over two lists joined
pub total-append : (f : ℕ → ℕ) (l m : List ℕ) → total f (l ++ m) ≡ total f l + total f m
unfolding total
total-append f [] m = omega arith
total-append f (x ∷ l) m = let h = total-append f l m in omega arith

-- of numbers none of which is larger than its counterpart
pub total-le : (f g : ℕ → ℕ) → ((k : ℕ) → f k ≤ g k) → (l : List ℕ) → total f l ≤ total g l
unfolding total
total-le f g less [] = omega arith
total-le f g less (x ∷ l) = let h = total-le f g less l in let s = less x in omega arith

-- of numbers up to w
pub total-most : (f : ℕ → ℕ) (w : ℕ) → ((k : ℕ) → f k ≤ w) → (l : List ℕ) → total f l ≤ w * length l
unfolding total
total-most f w small [] = omega arith
total-most f w small (x ∷ l) = let h = total-most f w small l in let s = small x in omega arith

-- of equal numbers
pub total_to-same : (f g : ℕ → ℕ) (m : ℕ) → ((i : ℕ) → i < m → f i ≡ g i) → total_to f m ≡ total_to g m
unfolding total_to
total_to-same f g zero same = refl
total_to-same f g (suc m) same = let h = total_to-same f g m (λ i I. same i (omega arith)) in let s = same m (omega arith) in omega arith

-- of numbers each of which is a sum
pub total_to-add : (e f g : ℕ → ℕ) (m : ℕ) → ((i : ℕ) → i < m → e i ≡ f i + g i) → total_to e m ≡ total_to f m + total_to g m
unfolding total_to
total_to-add e f g zero each = refl
total_to-add e f g (suc m) each = let h = total_to-add e f g m (λ i I. each i (omega arith)) in let s = each m (omega arith) in omega arith

-- the number at x alone
abbrev at : (ℕ → ℕ) → ℕ → ℕ → ℕ
at f x i = cond (eqb x i) (f i) 0

-- over the numbers before x it is nothing
total_to-before : (f : ℕ → ℕ) (x m : ℕ) → m ≤ x → total_to (at f x) m ≡ 0
unfolding total_to
total_to-before f x zero h = refl
total_to-before f x (suc m) h = rw (ne_eqb x m (λ e. omega arith), total_to-before f x m (omega arith))

-- over more numbers, or where it is nothing, it is itself
total_to-one : (f : ℕ → ℕ) (x m : ℕ) → (m ≤ x → f x ≡ 0) → total_to (at f x) m ≡ f x
unfolding total_to
total_to-one f x zero h = sym (h (omega arith))
total_to-one f x (suc m) h = pick (ℕ_discrete x m) (total_to-one f x m)
  where
    pick : Dec (x ≡ m) → ((m ≤ x → f x ≡ 0) → total_to (at f x) m ≡ f x) → total_to (at f x) m + at f x m ≡ f x
    pick (yes e) rest = let z = ap f e in rw (eq-eqb x m e, total_to-before f x m (omega arith)) (omega arith)
    pick (no d) rest = rw (ne_eqb x m d) (let q = rest (λ l. h (omega arith)) in omega arith)

-- the numbers at the places that are in the list
abbrev pub within : (ℕ → ℕ) → List ℕ → ℕ → ℕ
within f l i = cond (has l i) (f i) 0

-- a sum over different numbers is one over all numbers, of those that are among them
pub total-distinct : (f : ℕ → ℕ) (m : ℕ) (l : List ℕ) → Distinct l → ((c : ℕ) → Has l c → m ≤ c → f c ≡ 0) → total f l ≡ total_to (within f l) m
unfolding total total_to has
total-distinct f m [] D small = nothing m
  where
    nothing : (m : ℕ) → 0 ≡ total_to (within f []) m
    nothing zero = refl
    nothing (suc m) = let h = nothing m in omega arith
total-distinct f m (x ∷ l) D small =
    let rest = total-distinct f m l apart (λ c h. small c (has-later x l h)) in
    let one = total_to-one f x m (small x (0, omega arith, refl)) in
    let both = total_to-add (within f (x ∷ l)) (at f x) (within f l) m (λ i I. pick i (ℕ_discrete x i)) in
    omega arith
  where
    apart : Distinct l
    apart a b A B e = let z : suc a ≡ suc b = D (suc a) (suc b) (omega arith) (omega arith) e in omega arith

    alone : Has l x → ⊥
    alone h = let z : 0 ≡ suc h.0 = D 0 (suc h.0) (omega arith) (let b = h.1 in omega arith) (sym h.2) in omega arith

    pick : (i : ℕ) → Dec (x ≡ i) → within f (x ∷ l) i ≡ at f x i + within f l i
    pick i (yes e) = rw (eq-eqb x i e, has-false l i (λ h. alone (rw e h))) (omega arith)
    pick i (no d) = rw (ne_eqb x i d) (omega arith)

-- ---- counts

-- a count is at most as much as there are numbers
pub count_most : (test : ℕ → Bool) (m : ℕ) → count_to test m ≤ m
unfolding count_to
count_most test zero = omega arith
count_most test (suc m) = let h = count_most test m in let k = one (test m) in omega arith
  where
    one : (b : Bool) → cond b 1 0 ≤ 1
    one true = omega arith
    one false = omega arith

-- it is not 0 where a number passes
pub count-some : (test : ℕ → Bool) (m c : ℕ) → c < m → test c ≡ true → 0 < count_to test m
unfolding count_to
count-some test zero c C e = absurd (omega arith)
count-some test (suc m) c C e = pick (ℕ_discrete c m) (count-some test m c)
  where
    pick : Dec (c ≡ m) → (c < m → test c ≡ true → 0 < count_to test m) → 0 < count_to test m + cond (test m) 1 0
    pick (yes d) rest = let z : ◌≡◌ {A = ℕ} (cond (test m) 1 0) 1 = rw (← d, e) in omega arith
    pick (no d) rest = let z = rest (omega arith) e in omega arith

-- and 0 where none does
pub count_none : (test : ℕ → Bool) (m : ℕ) → some test m ≡ false → count_to test m ≡ 0
unfolding count_to some
count_none test zero e = refl
count_none test (suc m) e = split (some test m) (test m) refl refl e (count_none test m)
  where
    split : (a b : Bool) → some test m ≡ a → test m ≡ b → (a || b) ≡ false → (some test m ≡ false → count_to test m ≡ 0) → count_to test m + cond (test m) 1 0 ≡ 0
    split true b f g e rest = absurd (true≢false e)
    split false true f g e rest = absurd (true≢false e)
    split false false f g e rest = let z = rest f in rw g (omega arith)

-- a sum of 1 for each number that passes is their count
pub total-count : (f : ℕ → ℕ) (test : ℕ → Bool) (m : ℕ) → ((i : ℕ) → i < m → f i ≡ cond (test i) 1 0) → total_to f m ≡ count_to test m
unfolding total_to count_to
total-count f test zero ones = refl
total-count f test (suc m) ones = let h = total-count f test m (λ i I. ones i (omega arith)) in let s = ones m (omega arith) in omega arith

-- `validate` finds exactly the valid trees fine. In order: what it says that two lists agree (`agree_at`, `agree-self`); a tree that is
-- fine is valid (`fine-valid`); a valid tree is fine (`valid-fine`). Assumes nothing.
use Rattle.std.specs.Prelude.{◌≡◌, refl, Bool, true, false, ◌&&◌, cond, List, ℕ, zero, suc, ◌<◌, T, eqb, length, get_or, Result, Ok, Err}
use Rattle.std.proofs.Common.{sym, ◌∙◌, arith, eqb→eq, ext_get_or, eq-eqb}
use Rattle.std.proofs.Math.Decide.{ℕ_discrete}
use Rattle.std.specs.Float.Ieee.Fits.{and_l, and_r}
use Rattle.answer.specs.declared.Refusal.{Refusal}
use Rattle.tree.specs.Tree.{Tree, nodes_of}
use Rattle.tree.specs.New.{size_fits, Shaping, unshaped, shaping, shape_of, agree, judged, validated}
use Rattle.tree.specs.Valid.{Valid}
use Rattle.tree.specs.SizeLaws.{fit_of}
use Rattle.accepted.specs.WayLaws.{valid-nodes}
use Rattle.accepted.specs.ShapeLaws.{shape-scanned, valid-shape}
use Rattle.accepted.specs.AcceptedLaws.{passed-valid, valid-sizes, valid-dates}

-- ---- lists that agree

-- lists that agree at the first m places have the same number at each
pub agree_at : (a b : List ℕ) (m : ℕ) → T (agree a b m) → (k : ℕ) → k < m → get_or a k 0 ≡ get_or b k 0
unfolding agree
agree_at a b zero h k K = absurd (omega arith)
agree_at a b (suc m) h k K = pick (ℕ_discrete k m) (agree_at a b m (and_l (agree a b m) (eqb (get_or a m 0) (get_or b m 0)) h) k)
  where
    pick : Dec (k ≡ m) → (k < m → get_or a k 0 ≡ get_or b k 0) → get_or a k 0 ≡ get_or b k 0
    pick (yes e) before = rw e (eqb→eq (get_or a m 0) (get_or b m 0) (and_r (agree a b m) (eqb (get_or a m 0) (get_or b m 0)) h))
    pick (no d) before = before (omega arith)

-- a list agrees with itself
pub agree-self : (a : List ℕ) (m : ℕ) → agree a a m ≡ true
unfolding agree
agree-self a zero = refl
agree-self a (suc m) = rw (agree-self a m, eq-eqb (get_or a m 0) (get_or a m 0) refl)

-- ---- what is fine is valid

if-fine : (b : Bool) (s : Result (Unit {0}) Refusal) (why : Refusal) → cond b s (Err why) ≡ (Ok tt) → T b × (s ≡ (Ok tt))
if-fine true s why e = (tt, e)
if-fine false s why e = let z : ◌≡◌ {A = ℕ} 0 1 = cc in absurd (omega arith)

-- a tree that `validate` finds fine is valid
pub fine-valid : (t : Tree) → validated t ≡ (Ok tt) → Valid (nodes_of t.pairs) t
unfolding validated judged
fine-valid t e =
    let many = eqb (length t.parents) n in
    let a = if-fine (fits && many) _ _ e in
    by_shape (and_l fits many a.0) (eqb→eq (length t.parents) n (and_r fits many a.0)) (shape_of n t.pairs) refl a.1
  where
    n : ℕ
    n = nodes_of t.pairs

    fits : Bool
    fits = size_fits n t.pairs t.heights

    by_shape : T fits → length t.parents ≡ n → (s : Shaping) → shape_of n t.pairs ≡ s → judged t s ≡ (Ok tt) → Valid n t
    by_shape h l (unshaped why) f e = let z : ◌≡◌ {A = ℕ} 0 1 = cc in absurd (omega arith)
    by_shape h l (shaping ps r) f e =
        let root = eqb r t.root in
        let parents = agree ps t.parents (length ps) in
        let a = if-fine (root && parents) _ _ e in
        let s = shape-scanned n t.pairs ps r (fit_of n t.pairs t.heights h).few f in
        let q : r ≡ t.root = eqb→eq r t.root (and_l root parents a.0) in
        let p : ps ≡ t.parents = ext_get_or 0 ps t.parents (s.nodes ∙ sym l) (agree_at ps t.parents (length ps) (and_r root parents a.0)) in
        passed-valid n t h (f ∙ (λ i. shaping (p i) (q i))) a.1

-- ---- what is valid is fine

-- `validate` finds a valid tree fine
pub valid-fine : (n : ℕ) (t : Tree) → Valid n t → validated t ≡ (Ok tt)
unfolding validated judged
valid-fine n t v =
    rw (
      valid-nodes v,
      valid-sizes n t v,
      eq-eqb (length t.parents) n v.sized.parents,
      valid-shape n t v,
      eq-eqb t.root t.root refl,
      agree-self t.parents (length t.parents),
      valid-dates n t v,
    )

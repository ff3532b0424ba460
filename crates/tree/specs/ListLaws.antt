-- Numbers in a list: `Has` (a number is in it), `Before` (it is in it before a place), `Distinct` (none is in it twice), and how many different
-- numbers there can be. Laws, in order: which numbers are in two lists joined, and where; where a number is; when two lists joined have none
-- twice; m different numbers below n are at most n (`pigeon`); a list of different numbers below n is at most n long (`distinct-few`), one with
-- all numbers below n at least n long (`all-many`), and n different numbers below n are all of them (`full`). Assumes nothing.
use Rattle.std.specs.Prelude.{◌≡◌, refl, ◌≢◌, ◌⊎◌, cond, List, [], ◌∷◌, ◌++◌, ℕ, zero, suc, ◌+◌, ◌-◌, ◌≤◌, ◌<◌, eqb, length, get_or}
use Rattle.std.proofs.Common.{sym, ap, ◌∙◌, inl, inr, arith, length-append, get_or-append-add, eq-eqb, ne_eqb}
use Rattle.std.proofs.Math.Decide.{ℕ_discrete, dec_lt}
use Rattle.std.proofs.Math.ListN.{get_or-append}
use Rattle.tree.specs.Tree.{place}

-- ---- being in a list

-- c is in l, at a place a
abbrev pub Has : List ℕ → ℕ → Type 0
Has l c = (a : ℕ) × (a < length l) × (get_or l a 0 ≡ c)

-- nothing is in the empty list
pub has-none : {c : ℕ} → Has [] c → ⊥
has-none h = let b : h.0 < 0 = h.1 in omega arith

-- only k is in the list of k alone
pub has_one : {k c : ℕ} → Has (k ∷ []) c → c ≡ k
has_one {k} {c} h = pick h.0 h.1 h.2
  where
    pick : (a : ℕ) → a < 1 → get_or (k ∷ []) a 0 ≡ c → c ≡ k
    pick zero b e = sym e
    pick (suc a) b e = absurd (omega arith)

-- what is in the first of two lists is in the two joined
pub has_left : (l m : List ℕ) {c : ℕ} → Has l c → Has (l ++ m) c
has_left l m h = (h.0, (let b : h.0 < length l = h.1 in omega (arith, length-append l m)), get_or-append l m 0 h.0 h.1 ∙ h.2)

-- what is in the second of two lists is in the two joined
pub has_right : (l m : List ℕ) {c : ℕ} → Has m c → Has (l ++ m) c
has_right l m h = (length l + h.0, (let b : h.0 < length m = h.1 in omega (arith, length-append l m)), get_or-append-add l m h.0 0 ∙ h.2)

-- the second of two lists, read where it is in the two joined
pub get_d-right : (l m : List ℕ) (a : ℕ) → length l ≤ a → get_or (l ++ m) a 0 ≡ get_or m (a - length l) 0
get_d-right l m a h = let w : a ≡ length l + (a - length l) = omega arith in ap (λ (k : ℕ). get_or (l ++ m) k 0) w ∙ get_or-append-add l m (a - length l) 0

-- what is in two lists joined is in one of them
pub has-cases : (l m : List ℕ) {c : ℕ} → Has (l ++ m) c → Has l c ⊎ Has m c
has-cases l m h = elim (dec_lt h.0 (length l)) [
  | yes b ↦ inl (h.0, b, sym (get_or-append l m 0 h.0 b) ∙ h.2)
  | no b ↦
      let q : h.0 < length (l ++ m) = h.1 in
      inr (h.0 - length l, omega (arith, length-append l m), sym (get_d-right l m h.0 (omega arith)) ∙ h.2)
]

-- c is in l at a place before a
abbrev pub Before : List ℕ → ℕ → ℕ → Type 0
Before l a c = (b : ℕ) × (b < a) × (get_or l b 0 ≡ c)

-- what comes before a place of the first of two lists comes before it in the two joined
pub before-left : (l m : List ℕ) {a c : ℕ} → a ≤ length l → Before l a c → Before (l ++ m) a c
before-left l m A h = (h.0, h.1, get_or-append l m 0 h.0 (let b = h.1 in omega arith) ∙ h.2)

-- what comes before a place of the second of two lists comes before that place, counted on from the first, in the two joined
pub before-right : (l m : List ℕ) {a c : ℕ} → Before m a c → Before (l ++ m) (length l + a) c
before-right l m h = (length l + h.0, (let b = h.1 in omega arith), get_or-append-add l m h.0 0 ∙ h.2)

-- ---- where a number is

-- a place before the end holds it
pub place-holds : (l : List ℕ) (c : ℕ) → place l c < length l → get_or l (place l c) 0 ≡ c
unfolding place
place-holds [] c h = absurd (omega arith)
place-holds (x ∷ xs) c h = pick (ℕ_discrete x c) (place-holds xs c)
  where
    pick : Dec (x ≡ c) → (place xs c < length xs → get_or xs (place xs c) 0 ≡ c) → get_or (x ∷ xs) (place (x ∷ xs) c) 0 ≡ c
    pick (yes e) rest = rw (eq-eqb x c e) e
    pick (no d) rest = rw (ne_eqb x c d) (rest (let b : suc (place xs c) < suc (length xs) = (rw (ne_eqb x c d) at h) in omega arith))

-- what is in a list has a place before the end
pub place_found : (l : List ℕ) (c : ℕ) → Has l c → place l c < length l
unfolding place
place_found [] c h = absurd (has-none h)
place_found (x ∷ xs) c h = pick (ℕ_discrete x c) (place_found xs c)
  where
    later : (a : ℕ) → a < suc (length xs) → get_or (x ∷ xs) a 0 ≡ c → x ≢ c → Has xs c
    later zero b e d = absurd (d e)
    later (suc a) b e d = (a, omega arith, e)

    pick : Dec (x ≡ c) → (Has xs c → place xs c < length xs) → place (x ∷ xs) c < length (x ∷ xs)
    pick (yes e) rest = rw (eq-eqb x c e) (omega arith)
    pick (no d) rest = let b : place xs c < length xs = rest (later h.0 h.1 h.2 d) in rw (ne_eqb x c d) (omega arith)

-- whether c is in l can be decided
pub has-dec : (l : List ℕ) (c : ℕ) → Dec (Has l c)
has-dec l c = elim (dec_lt (place l c) (length l)) [ yes b ↦ yes (place l c, b, place-holds l c b) | no d ↦ no (λ h. d (place_found l c h)) ]

-- ---- no number twice

-- no number is at two places of l
abbrev pub Distinct : List ℕ → Type 0
Distinct l = (a b : ℕ) → a < length l → b < length l → get_or l a 0 ≡ get_or l b 0 → a ≡ b

-- the empty list has no number twice
pub distinct_none : Distinct []
distinct_none a b A B e = absurd (omega arith)

-- a list of one number has no number twice
pub distinct-one : (k : ℕ) → Distinct (k ∷ [])
distinct-one k a b A B e = omega arith

-- two lists without a number in common, and none twice in either, have none twice when joined
pub distinct_append : (l m : List ℕ) → Distinct l → Distinct m → ((c : ℕ) → Has l c → Has m c → ⊥) → Distinct (l ++ m)
distinct_append l m L M apart a b A B e = split (dec_lt a (length l)) (dec_lt b (length l))
  where
    both : length (l ++ m) ≡ length l + length m
    both = length-append l m

    left : (a : ℕ) → a < length l → get_or (l ++ m) a 0 ≡ get_or l a 0
    left a h = get_or-append l m 0 a h

    right : (a : ℕ) → length l ≤ a → get_or (l ++ m) a 0 ≡ get_or m (a - length l) 0
    right = get_d-right l m

    in_right : (a : ℕ) → a < length (l ++ m) → length l ≤ a → Has m (get_or (l ++ m) a 0)
    in_right a h g = (a - length l, omega (arith, both), sym (right a g))

    split : Dec (a < length l) → Dec (b < length l) → a ≡ b
    split (yes p) (yes q) = L a b p q (sym (left a p) ∙ e ∙ left b q)
    split (yes p) (no q) = absurd (apart (get_or (l ++ m) b 0) (a, p, sym (left a p) ∙ e) (in_right b B (omega arith)))
    split (no p) (yes q) = absurd (apart (get_or (l ++ m) a 0) (b, q, sym (left b q) ∙ sym e) (in_right a A (omega arith)))
    split (no p) (no q) =
        let i = a - length l in
        let j = b - length l in
        let z : i ≡ j = M i j (omega (arith, both)) (omega (arith, both)) (sym (right a (omega arith)) ∙ e ∙ right b (omega arith)) in
        omega arith

-- ---- how many

-- what stands for f a among the numbers below n: the value after the first m, if f a is n
data Instead (f : ℕ → ℕ) (m n a : ℕ) : ℕ → Type 0 where
  taken : f a ≡ n → Instead f m n a (f m)
  kept : f a ≢ n → Instead f m n a (f a)

-- a function that gives m different numbers below n at the first m numbers: m is at most n
pub pigeon : (n m : ℕ) (f : ℕ → ℕ) → ((a : ℕ) → a < m → f a < n) → ((a b : ℕ) → a < m → b < m → f a ≡ f b → a ≡ b) → m ≤ n
pigeon n zero f small one = omega arith
pigeon zero (suc m) f small one = let h : f 0 < 0 = small 0 (omega arith) in absurd (omega arith)
pigeon (suc n) (suc m) f small one = let h : m ≤ n = pigeon n m g g-small g-one in omega arith
  where
    g : ℕ → ℕ
    g a = cond (eqb (f a) n) (f m) (f a)

    cases : (a : ℕ) → Instead f m n a (g a)
    cases a = elim (ℕ_discrete (f a) n) [ yes e ↦ rw (eq-eqb (f a) n e) (taken e) | no d ↦ rw (ne_eqb (f a) n d) (kept d) ]

    g-small : (a : ℕ) → a < m → g a < n
    g-small a h = go (cases a)
      where
        go : {y : ℕ} → Instead f m n a y → y < n
        go (taken e) =
            let d : f m ≢ n = λ q. let z : m ≡ a = one m a (omega arith) (omega arith) (q ∙ sym e) in omega arith in
            let b : f m < suc n = small m (omega arith) in
            omega arith
        go (kept d) = let b : f a < suc n = small a (omega arith) in omega arith

    g-one : (a b : ℕ) → a < m → b < m → g a ≡ g b → a ≡ b
    g-one a b A B e = go (cases a) (cases b) e
      where
        go : {y z : ℕ} → Instead f m n a y → Instead f m n b z → y ≡ z → a ≡ b
        go (taken p) (taken q) e = one a b (omega arith) (omega arith) (p ∙ sym q)
        go (taken p) (kept q) e = let z : m ≡ b = one m b (omega arith) (omega arith) e in absurd (omega arith)
        go (kept p) (taken q) e = let z : a ≡ m = one a m (omega arith) (omega arith) e in absurd (omega arith)
        go (kept p) (kept q) e = one a b (omega arith) (omega arith) e

-- a list of different numbers below n is at most n long
pub distinct-few : (n : ℕ) (l : List ℕ) → Distinct l → ((c : ℕ) → Has l c → c < n) → length l ≤ n
distinct-few n l D small = pigeon n (length l) (λ a. get_or l a 0) (λ a h. small (get_or l a 0) (a, h, refl)) D

-- a list with all the numbers below n is at least n long
pub all-many : (n : ℕ) (l : List ℕ) → ((c : ℕ) → c < n → Has l c) → n ≤ length l
all-many n l all = pigeon (length l) n (place l) (λ c h. place_found l c (all c h)) one
  where
    holds : (c : ℕ) → c < n → get_or l (place l c) 0 ≡ c
    holds c h = place-holds l c (place_found l c (all c h))

    one : (a b : ℕ) → a < n → b < n → place l a ≡ place l b → a ≡ b
    one a b A B e = sym (holds a A) ∙ ap (λ (k : ℕ). get_or l k 0) e ∙ holds b B

-- n different numbers below n are all of them
pub full : (n : ℕ) (l : List ℕ) → length l ≡ n → Distinct l → ((c : ℕ) → Has l c → c < n) → (c : ℕ) → c < n → Has l c
full n l e D small c C = pick (has-dec l c)
  where
    -- if c were missing, it and the list would be n + 1 different numbers below n
    below : (b : ℕ) → Has (c ∷ []) b ⊎ Has l b → b < n
    below b (inl p) = rw (has_one p) C
    below b (inr p) = small b p

    pick : Dec (Has l c) → Has l c
    pick (yes h) = h
    pick (no d) =
        let more : Distinct ((c ∷ []) ++ l) = distinct_append (c ∷ []) l (distinct-one c) D (λ b p q. d (rw (has_one p) at q)) in
        let z : suc (length l) ≤ n = distinct-few n ((c ∷ []) ++ l) more (λ b h. below b (has-cases (c ∷ []) l h)) in
        absurd (omega arith)

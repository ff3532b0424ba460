-- Tips that were seen are those that occur (`seen-occur`); and a value whose numbers are within the limits is as it is, be it the given one (`cap-same`) or
-- what the limits left of it (`cap-back`). Assumes nothing.
use Rattle.std.specs.Prelude.{◌≡◌, refl, Bool, true, false, ◌&&◌, ◌||◌, List, ℕ, zero, suc, ◌+◌, ◌≤◌, ◌<◌, min, ltb, length, get_or, set, replicate}
use Rattle.std.proofs.Common.{sym, ap, ap₂, ◌∙◌, arith, length-set, get_or-set_same, get_or-set_other, lt-ltb, le-ltb}
use Rattle.std.proofs.Math.Decide.{ℕ_discrete, dec_lt}
use Rattle.std.proofs.lemmas.List.{length-replicate, get_or-replicate}
use Rattle.tree.specs.Bounded.{every}
use Rattle.newick.specs.Newick.{Newick, tip, join}
use Rattle.newick.specs.Numbering.{times, reach}
use Rattle.newick.specs.NumberingLaws.{times-own, times-other}
use Rattle.newick.specs.ReadingLaws.{occur}
use Rattle.newick_file.specs.Filing.{most, capped, seen_in}
use Rattle.newick_read.specs.Taking.{all_seen}

-- ---- tips that were seen

pub seen-length : (t : Newick) (se : List Bool) → length (seen_in t se) ≡ length se
unfolding seen_in
seen-length (tip k) se = length-set se k true
seen-length (join a x b y) se = seen-length b (seen_in a se) ∙ seen-length a se

or_some : (a : Bool) (m n : ℕ) → ((a || ltb 0 m) || ltb 0 n) ≡ (a || ltb 0 (m + n))
or_some true m n = refl
or_some false m n = go (dec_lt 0 m)
  where
    go : Dec (0 < m) → (ltb 0 m || ltb 0 n) ≡ ltb 0 (m + n)
    go (yes h) = rw (lt-ltb 0 m h, lt-ltb 0 (m + n) (omega arith))
    go (no h) = let e : m + n ≡ n = omega arith in rw (le-ltb 0 m (omega arith), e)

or-none : (a : Bool) → (a || ltb 0 0) ≡ a
or-none true = refl
or-none false = refl

or-one : (a : Bool) → (a || ltb 0 1) ≡ true
or-one true = refl
or-one false = refl

seen-times : (t : Newick) (se : List Bool) (j : ℕ) → j < length se → get_or (seen_in t se) j false ≡ (get_or se j false || ltb 0 (times j t))
unfolding seen_in times
seen-times (tip k) se j J = elim (ℕ_discrete j k) [
  | yes e ↦
      ap (λ (i : ℕ). get_or (set se k true) i false) e ∙ get_or-set_same se k true false (omega arith)
      ∙ sym (ap (λ (m : ℕ). get_or se j false || ltb 0 m) (times-own j k e) ∙ or-one (get_or se j false))
  | no d ↦
      get_or-set_other se k j true false d
      ∙ sym (ap (λ (m : ℕ). get_or se j false || ltb 0 m) (times-other j k d) ∙ or-none (get_or se j false))
]
seen-times (join a x b y) se j J =
    let l = seen-length a se in
    seen-times b (seen_in a se) j (omega arith) ∙ ap (λ (c : Bool). c || ltb 0 (times j b)) (seen-times a se j J)
    ∙ or_some (get_or se j false) (times j a) (times j b)

pub seen-occur : (t : Newick) (n m : ℕ) → m ≤ n → all_seen (seen_in t (replicate n false)) m ≡ occur m t
unfolding all_seen every
seen-occur t n zero h = refl
seen-occur t n (suc m) h =
    let l = length-replicate n false in
    let e = seen-times t (replicate n false) m (omega arith) in
    let f = get_or-replicate n m false false (omega arith) in
    ap₂ (λ (a b : Bool). a && b) (seen-occur t n m (omega arith)) (e ∙ ap (λ (c : Bool). c || ltb 0 (times m t)) f)

-- ---- numbers within the limits

-- each tip has a number below the mark for none
abbrev pub Low : Newick → Type 0
Low t = (j : ℕ) → 1 ≤ times j t → j < 65535

module _ (a : Newick) (x : ℕ) (b : Newick) (y : ℕ) (F : Low (join a x b y)) where
  low-left : Low a
  unfolding times
  low-left j h = F j (omega arith)

  low-right : Low b
  unfolding times
  low-right j h = F j (omega arith)

low-tip : (k : ℕ) → Low (tip k) → k < 65535
low-tip k F = F k (let z = times-own k k refl in omega arith)

same-join : (a a' : Newick) (x x' : ℕ) (b b' : Newick) (y y' : ℕ) → a ≡ a' → x ≡ x' → b ≡ b' → y ≡ y' → join a x b y ≡ join a' x' b' y'
same-join a a' x x' b b' y y' e f g h = λ i. join (e i) (f i) (g i) (h i)

pub cap-same : (t : Newick) → Low t → reach t < most → capped t ≡ t
unfolding capped reach
cap-same (tip k) F R = let h = low-tip k F in let e : min k 65535 ≡ k = omega arith in ap tip e
cap-same (join a x b y) F R =
    same-join (capped a) a (min x most) x (capped b) b (min y most) y
    (cap-same a (low-left a x b y F) (omega arith)) (omega arith) (cap-same b (low-right a x b y F) (omega arith)) (omega arith)

pub cap-back : (t : Newick) → Low (capped t) → reach (capped t) < most → capped t ≡ t
unfolding capped reach
cap-back (tip k) F R = let h = low-tip (min k 65535) F in let e : min k 65535 ≡ k = omega arith in ap tip e
cap-back (join a x b y) F R =
    let u = min x most in
    let w = min y most in
    same-join (capped a) a u x (capped b) b w y
    (cap-back a (low-left (capped a) u (capped b) w F) (omega arith)) (omega arith)
    (cap-back b (low-right (capped a) u (capped b) w F) (omega arith)) (omega arith)

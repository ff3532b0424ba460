-- The laws of programs of draws. In order: every number and every program runs lawfully (`pick-lawful`, `run-lawful`) and a number takes a
-- draw (`pick-taking`), by induction on numbers and programs; what a lawful run gives with more draws allowed (`lawful-larger`, `lawful-made`); how a
-- program made by `◌>>=◌` runs, for code that draws one value after the other; how a number is drawn again, for loops; what is drawn is in range
-- (`word-yields` and on); and which allowances are within their limits (`allows`). What these laws say is defined in Lawful, and the laws on the code's own
-- structs are in SupplyLaws. Assumes nothing.
use Rattle.std.specs.Prelude.{◌≡◌, ℕ, zero, suc, ◌+◌, ◌-◌, ◌*◌, ◌/◌, ◌%◌, ◌^◌, ◌<◌, ◌≤◌, Bool, true, false, cond, not, length, ◌==◌, nat_le, nat_lt}
use Rattle.std.proofs.Math.Path.{refl}
use Rattle.std.proofs.Common.{sym, ap, ◌∙◌, subst, div-lt_iff_lt-mul, mul-lt-mul_of_pos_right, mul_comm, arith, lit<, ltb-true, le-leb}
use Rattle.std.proofs.Math.Bool.{and-eq-true_iff}
use Rattle.random.specs.Xoshiro.{step, stepped}
use Rattle.random.specs.Generator.{state_of, word_of, next, after, uniform_of}
use Rattle.random.specs.UniformLaws.{word_lt, UnitFraction, uniform-unit}
use Rattle.random.specs.Draw.{Number, word, until, map, Draw, return, draws, draw, ◌>>=◌, uniform, fair, below, below_other, Drawn, spent, got, onward, word_from, until_from, pick, run, supply_of, allowed}
use Rattle.random.specs.Lawful.{more, Stepped, Lawful, Taking, Yields}
use Rattle.random.specs.declared.Random.{Random}
use Rattle.random.specs.declared.Supply.{Supply}

-- ---- steps in a row

after-add : (j k : ℕ) (g : Random) → after k (after j g) ≡ after (j + k) g
unfolding after
after-add zero k g = let e : k ≡ zero + k = omega arith in ap (λ (m : ℕ). after m g) e
after-add (suc j) k g = let e : suc (j + k) ≡ suc j + k = omega arith in after-add j k (next g) ∙ ap (λ (m : ℕ). after m g) e

-- a generator of four words has four words after any number of steps
pub after-four : (k : ℕ) (g : Random) → length (state_of g) ≡ 4 → length (state_of (after k g)) ≡ 4
unfolding after next step stepped
after-four zero g h = h
after-four (suc k) g h = after-four k (next g) refl

pub stepped-refl : (s : Supply) → Stepped s s
unfolding after
stepped-refl s = let e : 0 ≡ s.left - s.left = omega arith in record { fewer = omega arith; moved = ap (λ (m : ℕ). after m s.random) e }

pub stepped-trans : {s t u : Supply} → Stepped s t → Stepped t u → Stepped s u
stepped-trans {s} {t} {u} p q =
    let e : s.left - t.left + (t.left - u.left) ≡ s.left - u.left = omega arith in record {
      fewer = omega arith;
      moved = q.moved ∙ ap (after (t.left - u.left)) p.moved ∙ after-add (s.left - t.left) (t.left - u.left) s.random
          ∙ ap (λ (m : ℕ). after m s.random) e;
    }

-- ---- taking a run apart

spent-got : {A X : Type 0} {a : A} {u : Supply} → spent ≡ got a u → X
spent-got e = let z : ◌≡◌ {A = ℕ} 0 1 = cc in absurd (omega arith)

-- where a value and what follows it were both drawn: the value, and the supply between
record Parts {A B : Type 0} (x : Drawn A) (f : A → Supply → Drawn B) (b : B) (u : Supply) : Type 0 where
  value : A
  between : Supply
  first : x ≡ got value between
  second : f value between ≡ got b u

parts-of : {A B : Type 0} (x : Drawn A) (f : A → Supply → Drawn B) (b : B) (u : Supply) → onward x f ≡ got b u → Parts x f b u
unfolding onward
parts-of spent f b u e = spent-got e
parts-of (got a s) f b u e = record { value = a; between = s; first = refl; second = e }

-- a supply of k draws or more is one with k more than another
abbrev less : ℕ → Supply → Supply
less k s = record { random = s.random; left = s.left - k }

more-less : (k : ℕ) (s : Supply) → k ≤ s.left → more k (less k s) ≡ s
more-less k s h = let e : s.left - k + k ≡ s.left = omega arith in λ i. record { random = s.random; left = e i }

more-cancel : (k : ℕ) (s u : Supply) → more k s ≡ more k u → s ≡ u
more-cancel k s u e =
    let h = ap (λ (x : Supply). x.left) e in
    let l : s.left ≡ u.left = omega arith in
    λ i. record { random = (e i).random; left = l i }

-- ---- lawful runs are kept by what programs are made of

got-lawful : {A : Type 0} (a : A) → Lawful (got a)
got-lawful a = record {
  steps = λ s b u e. subst (λ (x : Supply). Stepped s x) (cc) (stepped-refl s);
  allowance = λ k s b u e. (let p : a ≡ b = cc in let q : s ≡ u = cc in λ i. got (p i) (more k (q i)));
  spare = λ k s b u e. (let p : a ≡ b = cc in let q : more k s ≡ more k u = cc in λ i. got (p i) (more-cancel k s u q i));
}

onward-lawful : {A B : Type 0} (d : Supply → Drawn A) (f : A → Supply → Drawn B) → Lawful d → ((a : A) → Lawful (f a)) → Lawful (λ s. onward (d s) f)
unfolding onward
onward-lawful d f l m = record {
  steps = λ s b u e. (let p = parts-of (d s) f b u e in stepped-trans (l.steps s p.value p.between p.first) ((m p.value).steps p.between b u p.second));
  allowance = λ k s b u e. (let p = parts-of (d s) f b u e in
      rw (l.allowance k s p.value p.between p.first) ((m p.value).allowance k p.between b u p.second));
  spare = λ k s b u e. (let p = parts-of (d (more k s)) f b (more k u) e in
      let h = ((m p.value).steps p.between b (more k u) p.second).fewer in
      let q = more-less k p.between (omega arith) in
      rw (l.spare k s p.value (less k p.between) (p.first ∙ ap (got p.value) (sym q)))
      ((m p.value).spare k (less k p.between) b u (ap (f p.value) q ∙ p.second)));
}

onward-taking : {A B : Type 0} (d : Supply → Drawn A) (f : A → Supply → Drawn B) → Taking d → ((a : A) → Lawful (f a)) → Taking (λ s. onward (d s) f)
onward-taking d f k m s b u e =
    let p = parts-of (d s) f b u e in
    let x = k s p.value p.between p.first in
    let y = ((m p.value).steps p.between b u p.second).fewer in
    omega arith

onward-yields : {A B : Type 0} (P : A → Type 0) (Q : B → Type 0) (d : Supply → Drawn A) (f : A → Supply → Drawn B)
    → Yields P d → ((a : A) → P a → Yields Q (f a)) → Yields Q (λ s. onward (d s) f)
onward-yields P Q d f y z s b u e = let p = parts-of (d s) f b u e in z p.value (y s p.value p.between p.first) p.between b u p.second

got-yields : {A : Type 0} (P : A → Type 0) (a : A) → P a → Yields P (got a)
got-yields P a h s b u e = let p : a ≡ b = cc in rw (← p) h

-- one draw
one_word : (left : ℕ) (g : Random) (w : ℕ) (u : Supply) → word_from left g ≡ got w u → (u.left + 1 ≡ left) × (u.random ≡ next g) × (w ≡ word_of g)
unfolding word_from
one_word zero g w u e = spent-got e
one_word (suc left) g w u e = let p : left ≡ u.left = cc in (omega arith, cc, cc)

word_more : (k left : ℕ) (g : Random) (w : ℕ) (u : Supply) → word_from left g ≡ got w u → word_from (left + k) g ≡ got w (more k u)
unfolding word_from
word_more k zero g w u e = spent-got e
word_more k (suc left) g w u e =
    let x : suc left + k ≡ suc (left + k) = omega arith in
    let p : word_of g ≡ w = cc in
    let q : ◌≡◌ {A = Supply} (record { random = next g; left = left }) u = cc in
    rw x (λ i. got (p i) (more k (q i)))

word-spare : (k left : ℕ) (g : Random) (w : ℕ) (u : Supply) → word_from (left + k) g ≡ got w (more k u) → word_from left g ≡ got w u
unfolding word_from
word-spare k left g w u e =
    let p = one_word (left + k) g w (more k u) e in
    let n = p.0 in
    let z : left ≡ suc u.left = omega arith in
    rw z (sym (λ i. got (p.2 i) (record { random = p.1 i; left = u.left })))

word-lawful : Lawful (λ s. word_from s.left s.random)
unfolding after
word-lawful = record {
  steps = λ s w u e. (let p = one_word s.left s.random w u e in let q = p.0 in let one : 1 ≡ s.left - u.left = omega arith in record {
    fewer = omega arith;
    moved = p.1 ∙ ap (λ (m : ℕ). after m s.random) one;
  });
  allowance = λ k s w u e. word_more k s.left s.random w u e;
  spare = λ k s w u e. word-spare k s.left s.random w u e;
}

word-taking : Taking (λ s. word_from s.left s.random)
word-taking s w u e = let p = (one_word s.left s.random w u e).0 in omega arith

-- drawn again until a test holds
module _ (test : ℕ → Bool) (d : Supply → Drawn ℕ) where
  tried : ℕ → ℕ → Supply → Drawn ℕ
  tried tries k u = cond (test k) (got k u) (until_from tries test d u)

  tried-lawful : (tries : ℕ) → Lawful (until_from tries test d) → (k : ℕ) → Lawful (tried tries k)
  unfolding tried
  tried-lawful tries m k = go (test k)
    where
      go : (b : Bool) → Lawful {A = ℕ} (λ u. cond b (got k u) (until_from tries test d u))
      go true = got-lawful k
      go false = m

  from-lawful : Lawful d → (tries : ℕ) → Lawful (until_from tries test d)
  unfolding until_from tried
  from-lawful l zero = record { steps = λ s k u e. spent-got e; allowance = λ j s k u e. spent-got e; spare = λ j s k u e. spent-got e }
  from-lawful l (suc tries) = onward-lawful d (tried tries) l (tried-lawful tries (from-lawful l tries))

  starved : Taking d → (s : Supply) → s.left ≤ 0 → d s ≡ spent
  starved t s h = go (d s) refl
    where
      go : (x : Drawn ℕ) → d s ≡ x → x ≡ spent
      go spent e = refl
      go (got k u) e = absurd (let z = t s k u e in omega arith)

  -- as many tries as draws are left are enough
  enough : Taking d → (i j : ℕ) (s : Supply) → s.left ≤ i → s.left ≤ j → until_from i test d s ≡ until_from j test d s
  unfolding until_from onward
  enough t zero zero s h k = refl
  enough t zero (suc j) s h k = rw (starved t s h)
  enough t (suc i) zero s h k = rw (starved t s k)
  enough t (suc i) (suc j) s h k = go (d s) refl (enough t i j)
    where
      go : (x : Drawn ℕ) → d s ≡ x → ((u : Supply) → u.left ≤ i → u.left ≤ j → until_from i test d u ≡ until_from j test d u)
          → onward x (λ a u. cond (test a) (got a u) (until_from i test d u)) ≡ onward x (λ a u. cond (test a) (got a u) (until_from j test d u))
      go spent e m = refl
      go (got a u) e m = let z = t s a u e in rw (m u (omega arith) (omega arith))

  until-lawful : Taking d → Lawful d → Lawful (λ s. until_from s.left test d s)
  until-lawful t l = record {
    steps = λ s k u e. (from-lawful l s.left).steps s k u e;
    allowance = λ j s k u e. (from-lawful l (s.left + j)).allowance j s k u (enough t (s.left + j) s.left s (omega arith) (omega arith) ∙ e);
    spare = λ j s k u e. enough t s.left (s.left + j) s (omega arith) (omega arith) ∙ (from-lawful l (s.left + j)).spare j s k u e;
  }

  from-taking : Taking d → Lawful d → (tries : ℕ) → Taking (until_from tries test d)
  unfolding until_from tried
  from-taking t l zero s k u e = spent-got e
  from-taking t l (suc tries) s k u e = onward-taking d (tried tries) t (tried-lawful tries (from-lawful l tries)) s k u e

  from-yields : (P : ℕ → Type 0) → Yields P d → (tries : ℕ) → Yields (λ k. (test k ≡ true) × P k) (until_from tries test d)
  unfolding until_from
  from-yields P y zero s k u e = spent-got e
  from-yields P y (suc tries) s k u e =
      let p = parts-of (d s) (λ b v. cond (test b) (got b v) (until_from tries test d v)) k u e in
      go p.value p.between (test p.value) refl (y s p.value p.between p.first) (from-yields P y tries p.between k u) p.second
    where
      go : (v : ℕ) (w : Supply) (b : Bool) → test v ≡ b → P v → (until_from tries test d w ≡ got k u → (test k ≡ true) × P k)
          → cond b (got v w) (until_from tries test d w) ≡ got k u → (test k ≡ true) × P k
      go v w true h q m e = let c : v ≡ k = cc in (rw (← c) h, rw (← c) q)
      go v w false h q m e = m e

-- ---- every number and every program

record Picked (d : Number) : Type 0 where
  lawful : Lawful (pick d)
  taking : Taking (pick d)

picked : (d : Number) → Picked d
unfolding pick
picked word = record { lawful = word-lawful; taking = word-taking }
picked (until test d) = record {
  lawful = until-lawful test (pick d) (picked d).taking (picked d).lawful;
  taking = λ s. from-taking test (pick d) (picked d).taking (picked d).lawful s.left s;
}
picked (map f d) = record {
  lawful = onward-lawful (pick d) (λ k u. got (f k) u) (picked d).lawful (λ k. got-lawful (f k));
  taking = onward-taking (pick d) (λ k u. got (f k) u) (picked d).taking (λ k. got-lawful (f k));
}

pub pick-lawful : (d : Number) → Lawful (pick d)
pick-lawful d = (picked d).lawful

pub pick-taking : (d : Number) → Taking (pick d)
pick-taking d = (picked d).taking

pub run-lawful : {A : Type 0} (d : Draw A) → Lawful (run d)
unfolding run
run-lawful (return a) = got-lawful a
run-lawful (draws d f) = onward-lawful (pick d) (λ k u. run (f k) u) (pick-lawful d) (λ k. run-lawful (f k))

-- ---- a lawful run with more draws allowed, b for a

module _ {A : Type 0} (d : Supply → Drawn A) (l : Lawful d) (g : Random) (a b : ℕ) (o : a ≤ b) (x : A) (s : Supply) (e : d (supply_of g a) ≡ got x s) where
  -- the same is drawn, and what is allowed beyond a is left
  pub lawful-larger : d (supply_of g b) ≡ got x (more (b - a) s)
  lawful-larger =
      let same : a + (b - a) ≡ b = omega arith in
      subst (λ (m : ℕ). d (supply_of g m) ≡ got x (more (b - a) s)) same (l.allowance (b - a) (supply_of g a) x s e)

  -- by as many draws
  pub lawful-made : b - (s.left + (b - a)) ≡ a - s.left
  lawful-made = let f = (l.steps (supply_of g a) x s e).fewer in omega arith

-- ---- one program after the other, for the code that draws so

pub run_bind : {A B : Type 0} (d : Draw A) (f : A → Draw B) (s : Supply) → run (d >>= f) s ≡ onward (run d s) (λ a u. run (f a) u)
unfolding run ◌>>=◌ onward
run_bind (return a) f s = refl
run_bind (draws d g) f s = go (pick d s) (λ k u. run_bind (g k) f u)
  where
    go : (x : Drawn ℕ) → ((k : ℕ) (u : Supply) → run (g k >>= f) u ≡ onward (run (g k) u) (λ a v. run (f a) v))
        → onward x (λ k u. run (g k >>= f) u) ≡ onward (onward x (λ k u. run (g k) u)) (λ a u. run (f a) u)
    go spent h = refl
    go (got k u) h = h k u

module _ {A B : Type 0} (d : Draw A) (f : A → Draw B) (s : Supply) where
  pub bind-got : (a : A) (u : Supply) → run d s ≡ got a u → run (d >>= f) s ≡ run (f a) u
  unfolding onward
  bind-got a u e = run_bind d f s ∙ rw e

  pub bind-spent : run d s ≡ spent → run (d >>= f) s ≡ spent
  unfolding onward
  bind-spent e = run_bind d f s ∙ rw e

module _ {A : Type 0} (d : Number) (f : ℕ → Draw A) (s : Supply) where
  pub draw-got : (k : ℕ) (u : Supply) → pick d s ≡ got k u → run (draw d >>= f) s ≡ run (f k) u
  unfolding draw ◌>>=◌ run onward
  draw-got k u e = rw e

  pub draw-spent : pick d s ≡ spent → run (draw d >>= f) s ≡ spent
  unfolding draw ◌>>=◌ run onward
  draw-spent e = rw e

-- ---- a number drawn again, for loops

module _ (test : ℕ → Bool) (d : Number) where
  once : (s : Supply) → pick (until test d) s ≡ onward (pick d s) (λ a u. cond (test a) (got a u) (until_from s.left test (pick d) u))
  unfolding pick until_from
  once s = enough test (pick d) (pick-taking d) s.left (suc s.left) s (omega arith) (omega arith)

  pub until-spent : (s : Supply) → pick d s ≡ spent → pick (until test d) s ≡ spent
  unfolding onward
  until-spent s e = once s ∙ rw e

  pub until-found : (s : Supply) (k : ℕ) (u : Supply) → pick d s ≡ got k u → test k ≡ true → pick (until test d) s ≡ got k u
  unfolding onward
  until-found s k u e h = once s ∙ rw (e, h)

  pub until-again : (s : Supply) (k : ℕ) (u : Supply) → pick d s ≡ got k u → test k ≡ false → pick (until test d) s ≡ pick (until test d) u
  unfolding onward pick
  until-again s k u e h = let z = pick-taking d s k u e in once s ∙ rw (e, h) (enough test (pick d) (pick-taking d) s.left u.left u (omega arith) (omega arith))

  -- two supplies that draw alike go on alike
  pub until-on : (s u : Supply) → pick d s ≡ pick d u → pick (until test d) s ≡ pick (until test d) u
  until-on s u e = go (pick d u) refl
    where
      go : (x : Drawn ℕ) → pick d u ≡ x → pick (until test d) s ≡ pick (until test d) u
      go spent q = until-spent s (e ∙ q) ∙ sym (until-spent u q)
      go (got k v) q = tested (test k) refl
        where
          tested : (b : Bool) → test k ≡ b → pick (until test d) s ≡ pick (until test d) u
          tested true h = until-found s k v (e ∙ q) h ∙ sym (until-found u k v q h)
          tested false h = until-again s k v (e ∙ q) h ∙ sym (until-again u k v q h)

-- no more than a number below n
pub other-plain : (n other : ℕ) (s : Supply) → pick (below_other n 0 other) s ≡ pick (until (λ k. not (k == other)) (below n)) s
unfolding below_other pick onward
other-plain n other s = ap (λ (d : Supply → Drawn ℕ). until_from s.left (λ k. not (k == other)) d s) (λ i u. plain (pick (below n) u) i)
  where
    plain : (x : Drawn ℕ) → onward x (λ k u. got (0 + k) u) ≡ x
    plain spent = refl
    plain (got k u) = let e : 0 + k ≡ k = omega arith in ap (λ (m : ℕ). got m u) e

-- ---- what is drawn is in range

pub word-yields : Yields (λ w. w < 2 ^ 64) (pick word)
unfolding pick
word-yields s w u e = let p = (one_word s.left s.random w u e).2 in rw p (word_lt s.random)

pub until-yields : (P : ℕ → Type 0) (test : ℕ → Bool) (d : Number) → Yields P (pick d) → Yields (λ k. (test k ≡ true) × P k) (pick (until test d))
unfolding pick
until-yields P test d y s = from-yields test (pick d) P y s.left s

pub map-yields : (P Q : ℕ → Type 0) (f : ℕ → ℕ) (d : Number) → Yields P (pick d) → ((k : ℕ) → P k → Q (f k)) → Yields Q (pick (map f d))
unfolding pick
map-yields P Q f d y h = onward-yields P Q (pick d) (λ k u. got (f k) u) y (λ k p. got-yields Q (f k) (h k p))

pub return-yields : {A : Type 0} (P : A → Type 0) (a : A) → P a → Yields P (run (return a))
unfolding run
return-yields P a = got-yields P a

pub draws-yields : {A : Type 0} (P : ℕ → Type 0) (Q : A → Type 0) (d : Number) (f : ℕ → Draw A) → Yields P (pick d) → ((k : ℕ) → P k → Yields Q (run (f k))) → Yields Q (run (draws d f))
unfolding run
draws-yields P Q d f y h = onward-yields P Q (pick d) (λ k u. run (f k) u) y h

pub bind-yields : {A B : Type 0} (P : A → Type 0) (Q : B → Type 0) (d : Draw A) (f : A → Draw B) → Yields P (run d) → ((a : A) → P a → Yields Q (run (f a))) → Yields Q (run (d >>= f))
bind-yields P Q d f y h s b u e = onward-yields P Q (run d) (λ a v. run (f a) v) y h s b u (sym (run_bind d f s) ∙ e)

-- the high word of a draw times n is below n
high_lt : (n w : ℕ) → 0 < n → w < 2 ^ 64 → w * n / 2 ^ 64 < n
high_lt n w hn hw = (div-lt_iff_lt-mul (lit< tt)).1 (subst (λ (x : ℕ). w * n < x) (mul_comm (2 ^ 64) n) (mul-lt-mul_of_pos_right hw hn))

fair-pos : (n w : ℕ) → fair n w ≡ true → 0 < n
unfolding fair
fair-pos n w e = ltb-true 0 n ((and-eq-true_iff (nat_lt 0 n) (nat_le (2 ^ 64 % n) (w * n % 2 ^ 64))).0 e).0

pub below-yields : (n : ℕ) → Yields (λ k. k < n) (pick (below n))
unfolding below
below-yields n =
    map-yields _ (λ k. k < n) (λ w. w * n / 2 ^ 64) (until (fair n) word) (until-yields _ (fair n) word word-yields) (λ w p. high_lt n w (fair-pos n w p.0) p.1)

pub uniform-yields : Yields UnitFraction (run uniform)
unfolding uniform
uniform-yields = draws-yields _ _ word _ word-yields (λ w p. return-yields UnitFraction (uniform_of w) (uniform-unit w p))

-- ---- an allowance within its limits

pub allows : (a : ℕ) → 1 ≤ a → a ≤ 65535 → allowed a ≡ true
allows a h k = rw (le-leb 1 a h, le-leb a 65535 k)

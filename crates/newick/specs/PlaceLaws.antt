-- The place of a refused text: where the spelling forbids a byte, some well-spelled text begins with what stands before it, and none with that byte too
-- (`first-forbidden`); where it forbids none, some well-spelled text begins with the whole (`unfinished`). For that, every place that a reader comes to
-- (`step_keeps`, `run-fine`) can be completed (`completed`). A text that is spelled to its end is of two subtrees (`done-pair`). Assumes nothing.
use Rattle.std.specs.Prelude.{◌≡◌, Bool, true, false, List, [], ◌∷◌, ◌++◌, ℕ, ◌+◌, ◌-◌, ◌*◌, ◌<◌, eqb}
use Rattle.std.proofs.Math.Path.{refl}
use Rattle.std.proofs.Common.{sym, ap, ◌∙◌, subst, append_assoc, arith, ne_eqb}
use Rattle.text.specs.Rules.{is_decimal}
use Rattle.newick.specs.Newick.{Newick, tip, join, text, whole_text, Frame, first, second}
use Rattle.newick.specs.Newick.{Mode, start, sub, name, made, colon, whole, point, tenths, hundredths, branch, done}
use Rattle.newick.specs.Newick.{Step, stuck, to, on, on_digit, or_else, on_more, step, forbidden, reached, run}
use Rattle.newick.specs.DecimalLaws.{number-headed}
use Rattle.newick.specs.RunLaws.{run_step, written_read, read-written}

-- ---- every place that a reader comes to can be completed

-- a rest that completes what was read, and the value that comes of it
pub record Completed (m : Mode) (fs : List Frame) : Type 0 where
  pub rest : List ℕ
  pub value : Newick
  pub ends : run m fs rest ≡ reached (done value) []

-- one byte before such a rest
before : (m : Mode) (fs : List Frame) (b : ℕ) (m' : Mode) (fs' : List Frame) → step m fs b ≡ to m' fs' → Completed m' fs' → Completed m fs
before m fs b m' fs' e c = record { rest = b ∷ c.rest; value = c.value; ends = run_step m fs b c.rest m' fs' e ∙ c.ends }

-- in a length, by zeros and a point
module _ (fs : List Frame) where
  from-hundredths : (t : Newick) (w : ℕ) → Completed (branch t (w * 10 + 0)) fs → Completed (hundredths t w) fs
  unfolding step
  from-hundredths t w c = before (hundredths t w) fs 48 (branch t (w * 10 + 0)) fs refl c

  from-tenths : (t : Newick) (w : ℕ) → Completed (branch t ((w * 10 + 0) * 10 + 0)) fs → Completed (tenths t w) fs
  unfolding step
  from-tenths t w c = before (tenths t w) fs 48 (hundredths t (w * 10 + 0)) fs refl (from-hundredths t (w * 10 + 0) c)

  from-point : (t : Newick) (w : ℕ) → Completed (branch t (((w * 10 + 0) * 10 + 0) * 10 + 0)) fs → Completed (point t w) fs
  unfolding step
  from-point t w c = before (point t w) fs 48 (tenths t (w * 10 + 0)) fs refl (from-tenths t (w * 10 + 0) c)

  from-whole : (t : Newick) (w : ℕ) → Completed (branch t (((w * 10 + 0) * 10 + 0) * 10 + 0)) fs → Completed (whole t w) fs
  unfolding step
  from-whole t w c = before (whole t w) fs 46 (point t w) fs refl (from-point t w c)

  from-colon : (t : Newick) → Completed (branch t 0) fs → Completed (colon t) fs
  unfolding step
  from-colon t c = before (colon t) fs 48 (whole t 0) fs refl (from-whole t 0 c)

  from-name : (k : ℕ) → Completed (branch (tip k) 0) fs → Completed (name k) fs
  unfolding step
  from-name k c = before (name k) fs 58 (colon (tip k)) fs refl (from-colon (tip k) c)

  from-sub : Completed (branch (tip 0) 0) fs → Completed sub fs
  unfolding step
  from-sub c = before sub fs 48 (name 0) fs refl (from-name 0 c)

-- behind a length, by a closing parenthesis, or by a comma, a tip and that
branch-second : (a : Newick) (y : ℕ) (fs : List Frame) (t : Newick) (x : ℕ) → Completed (made (join a y t x)) fs → Completed (branch t x) (second a y ∷ fs)
unfolding step
branch-second a y fs t x c = before (branch t x) (second a y ∷ fs) 41 (made (join a y t x)) fs refl c

branch-first : (fs : List Frame) (t : Newick) (x : ℕ) → Completed (made (join t x (tip 0) 0)) fs → Completed (branch t x) (first ∷ fs)
unfolding step
branch-first fs t x c =
    before (branch t x) (first ∷ fs) 44 sub (second t x ∷ fs) refl (from-sub (second t x ∷ fs) (branch-second t x fs (tip 0) 0 c))

-- behind a closing parenthesis, by a semicolon, or by a length
all_closed : (t : Newick) → Completed (made t) []
unfolding step run
all_closed t = record { rest = 59 ∷ []; value = t; ends = refl }

more-open : (f : Frame) (fs : List Frame) (t : Newick) → Completed (branch t 0) (f ∷ fs) → Completed (made t) (f ∷ fs)
unfolding step
more-open f fs t c = before (made t) (f ∷ fs) 58 (colon t) (f ∷ fs) refl (from-colon (f ∷ fs) t c)

made-completed : (fs : List Frame) (t : Newick) → Completed (made t) fs
made-completed [] t = all_closed t
made-completed (first ∷ fs) t = more-open first fs t (branch-first fs t 0 (made-completed fs (join t 0 (tip 0) 0)))
made-completed (second a y ∷ fs) t = more-open (second a y) fs t (branch-second a y fs t 0 (made-completed fs (join a y t 0)))

branch-completed : (f : Frame) (fs : List Frame) (t : Newick) (x : ℕ) → Completed (branch t x) (f ∷ fs)
branch-completed first fs t x = branch-first fs t x (made-completed fs (join t x (tip 0) 0))
branch-completed (second a y) fs t x = branch-second a y fs t x (made-completed fs (join a y t x))

start-completed : Completed start []
unfolding step
start-completed = before start [] 40 sub (first ∷ []) refl (from-sub (first ∷ []) (branch-completed first [] (tip 0) 0))

-- ---- the places that a reader comes to

abbrev pub Some : List Frame → Type 0
Some [] = ⊥
Some (f ∷ fs) = Unit

-- inside a parenthesis, but for the first place, the last, and that behind a closing parenthesis
abbrev pub Fine : Mode → List Frame → Type 0
Fine start fs = fs ≡ []
Fine sub fs = Some fs
Fine (name k) fs = Some fs
Fine (made t) fs = Unit
Fine (colon t) fs = Some fs
Fine (whole t w) fs = Some fs
Fine (point t w) fs = Some fs
Fine (tenths t w) fs = Some fs
Fine (hundredths t w) fs = Some fs
Fine (branch t x) fs = Some fs
Fine (done t) fs = fs ≡ []

pub completed : (m : Mode) (fs : List Frame) → Fine m fs → Completed m fs
unfolding run
completed start fs h = subst (Completed start) (sym h) start-completed
completed sub (f ∷ fs) h = from-sub (f ∷ fs) (branch-completed f fs (tip 0) 0)
completed (name k) (f ∷ fs) h = from-name (f ∷ fs) k (branch-completed f fs (tip k) 0)
completed (made t) fs h = made-completed fs t
completed (colon t) (f ∷ fs) h = from-colon (f ∷ fs) t (branch-completed f fs t 0)
completed (whole t w) (f ∷ fs) h = from-whole (f ∷ fs) t w (branch-completed f fs t (((w * 10 + 0) * 10 + 0) * 10 + 0))
completed (point t w) (f ∷ fs) h = from-point (f ∷ fs) t w (branch-completed f fs t (((w * 10 + 0) * 10 + 0) * 10 + 0))
completed (tenths t w) (f ∷ fs) h = from-tenths (f ∷ fs) t w (branch-completed f fs t ((w * 10 + 0) * 10 + 0))
completed (hundredths t w) (f ∷ fs) h = from-hundredths (f ∷ fs) t w (branch-completed f fs t (w * 10 + 0))
completed (branch t x) (f ∷ fs) h = branch-completed f fs t x
completed (done t) fs h = record { rest = []; value = t; ends = ap (reached (done t)) h }
completed sub [] h = absurd h
completed (name k) [] h = absurd h
completed (colon t) [] h = absurd h
completed (whole t w) [] h = absurd h
completed (point t w) [] h = absurd h
completed (tenths t w) [] h = absurd h
completed (hundredths t w) [] h = absurd h
completed (branch t x) [] h = absurd h

-- ---- each byte leads to such a place again

unfoldable pub Keeps : Step → Type 0
Keeps stuck = Unit
Keeps (to m fs) = Fine m fs

on-keeps : (b : Bool) (m : Mode) (fs : List Frame) → Fine m fs → Keeps (on b m fs)
unfolding Keeps
on-keeps true m fs h = h
on-keeps false m fs h = tt

or-keeps : (b : Bool) (r s : Step) → Keeps r → Keeps s → Keeps (or_else b r s)
or-keeps true r s h k = h
or-keeps false r s h k = k

more-keeps : (v b : ℕ) (f : ℕ → Mode) (fs : List Frame) → Fine (f (v * 10 + (b - 48))) fs → Keeps (on_more v b f fs)
unfolding Keeps
more-keeps v b f fs h = or-keeps (eqb v 0) stuck (on_digit b (λ d. f (v * 10 + d)) fs) tt (on-keeps (is_decimal b) (f (v * 10 + (b - 48))) fs h)

pub step_keeps : (m : Mode) (fs : List Frame) (b : ℕ) → Fine m fs → Keeps (step m fs b)
unfolding step Keeps
step_keeps start fs b h = on-keeps (eqb b 40) sub (first ∷ fs) tt
step_keeps sub fs b h = or-keeps (eqb b 40) (to sub (first ∷ fs)) (on_digit b name fs) tt (on-keeps (is_decimal b) (name (b - 48)) fs h)
step_keeps (name k) fs b h = or-keeps (eqb b 58) (to (colon (tip k)) fs) (on_more k b name fs) h (more-keeps k b name fs h)
step_keeps (made t) [] b h = on-keeps (eqb b 59) (done t) [] refl
step_keeps (made t) (f ∷ fs) b h = on-keeps (eqb b 58) (colon t) (f ∷ fs) tt
step_keeps (colon t) fs b h = on-keeps (is_decimal b) (whole t (b - 48)) fs h
step_keeps (whole t w) fs b h = or-keeps (eqb b 46) (to (point t w) fs) (on_more w b (whole t) fs) h (more-keeps w b (whole t) fs h)
step_keeps (point t w) fs b h = on-keeps (is_decimal b) (tenths t (w * 10 + (b - 48))) fs h
step_keeps (tenths t w) fs b h = on-keeps (is_decimal b) (hundredths t (w * 10 + (b - 48))) fs h
step_keeps (hundredths t w) fs b h = on-keeps (is_decimal b) (branch t (w * 10 + (b - 48))) fs h
step_keeps (branch t x) [] b h = tt
step_keeps (branch t x) (first ∷ fs) b h = on-keeps (eqb b 44) sub (second t x ∷ fs) tt
step_keeps (branch t x) (second a y ∷ fs) b h = on-keeps (eqb b 41) (made (join a y t x)) fs tt
step_keeps (done t) fs b h = tt

pub run-stuck : (m : Mode) (fs : List Frame) (b : ℕ) (s : List ℕ) → step m fs b ≡ stuck → run m fs (b ∷ s) ≡ forbidden (b ∷ s)
unfolding run
run-stuck m fs b s e = rw (e, run)

forbidden-clash : (l : List ℕ) (m : Mode) (fs : List Frame) → forbidden l ≡ reached m fs → ⊥
forbidden-clash l m fs e = let z : ◌≡◌ {A = ℕ} 0 1 = cc in omega arith

forbidden-same : (l r : List ℕ) → forbidden l ≡ forbidden r → l ≡ r
forbidden-same l r e = cc

-- and so does a text that forbids no byte
pub run-fine : (s : List ℕ) (m : Mode) (fs : List Frame) (m' : Mode) (fs' : List Frame) → Fine m fs → run m fs s ≡ reached m' fs' → Fine m' fs'
unfolding run Keeps
run-fine [] m fs m' fs' h e = let p : m ≡ m' = cc in let q : fs ≡ fs' = cc in subst (λ (x : Mode). Fine x fs') p (subst (Fine m) q h)
run-fine (b ∷ s) m fs m' fs' h e = go (step m fs b) (step_keeps m fs b h) (λ n gs. run-fine s n gs m' fs') e
  where
    go : (x : Step) → Keeps x → ((n : Mode) (gs : List Frame) → Fine n gs → run n gs s ≡ reached m' fs' → Fine m' fs')
        → elim x [ stuck ↦ forbidden (b ∷ s) | to n gs ↦ run n gs s ] ≡ reached m' fs' → Fine m' fs'
    go stuck k next e = absurd (forbidden-clash (b ∷ s) m' fs' e)
    go (to n gs) k next e = next n gs k e

-- ---- the first forbidden byte

-- a text s is turned back at a byte, from which on it is r: what stands before it can be completed, and with it cannot
record Stops (m : Mode) (fs : List Frame) (s r : List ℕ) : Type 0 where
  read : List ℕ
  byte : ℕ
  rest : List ℕ
  is : r ≡ byte ∷ rest
  splits : s ≡ read ++ (byte ∷ rest)
  goes_on : (q : List ℕ) × (value : Newick) × (run m fs (read ++ q) ≡ reached (done value) [])
  stops : (q : List ℕ) (value : Newick) → run m fs (read ++ (byte ∷ q)) ≡ reached (done value) [] → ⊥

forbidden-stops : (s : List ℕ) (m : Mode) (fs : List Frame) (r : List ℕ) → Fine m fs → run m fs s ≡ forbidden r → Stops m fs s r
unfolding run Keeps
forbidden-stops [] m fs r h e = absurd (forbidden-clash r m fs (sym e))
forbidden-stops (b ∷ s) m fs r h e = go (step m fs b) refl (step_keeps m fs b h) (λ m' fs'. forbidden-stops s m' fs' r) e
  where
    go : (x : Step) → step m fs b ≡ x → Keeps x → ((m' : Mode) (fs' : List Frame) → Fine m' fs' → run m' fs' s ≡ forbidden r → Stops m' fs' s r)
        → elim x [ stuck ↦ forbidden (b ∷ s) | to m' fs' ↦ run m' fs' s ] ≡ forbidden r → Stops m fs (b ∷ s) r
    go stuck q k next e =
        let c = completed m fs h in
        record {
          read = [];
          byte = b;
          rest = s;
          is = sym (forbidden-same (b ∷ s) r e);
          splits = refl;
          goes_on = (c.rest, c.value, c.ends);
          stops = λ l v u. forbidden-clash (b ∷ l) (done v) [] (sym (run-stuck m fs b l q) ∙ u);
        }
    go (to m' fs') q k next e =
        let later = next m' fs' k e in
        let on = later.goes_on in
        record {
          read = b ∷ later.read;
          byte = later.byte;
          rest = later.rest;
          is = later.is;
          splits = ap (λ (l : List ℕ). b ∷ l) later.splits;
          goes_on = (on.0, on.1, run_step m fs b (later.read ++ on.0) m' fs' q ∙ on.2);
          stops = λ l v u. later.stops l v (sym (run_step m fs b (later.read ++ (later.byte ∷ l)) m' fs' q) ∙ u);
        }

-- ---- a text that is spelled to its end is of two subtrees

not-tip : (s : List ℕ) (k : ℕ) → run start [] s ≡ reached (done (tip k)) [] → ⊥
unfolding whole_text text step
not-tip s k e =
    let number = number-headed k in
    let digit : ℕ = 48 + number.0 in
    let rest : List ℕ = number.1 ++ (59 ∷ []) in
    let low : number.0 < 10 = number.2 in
    let is : s ≡ digit ∷ rest = sym (read-written s (tip k) e) ∙ ap (λ (l : List ℕ). l ++ (59 ∷ [])) number.3 in
    let turned : step start [] digit ≡ stuck = rw (ne_eqb digit 40 (λ z. omega arith)) in
    forbidden-clash (digit ∷ rest) (done (tip k)) [] (sym (run-stuck start [] digit rest turned) ∙ ap (run start []) (sym is) ∙ e)

pub record Pair (t : Newick) : Type 0 where
  pub left : Newick
  pub upper : ℕ
  pub right : Newick
  pub lower : ℕ
  pub is : t ≡ join left upper right lower

pub done-pair : (s : List ℕ) (t : Newick) → run start [] s ≡ reached (done t) [] → Pair t
done-pair s (tip k) e = absurd (not-tip s k e)
done-pair s (join a x b y) e = record { left = a; upper = x; right = b; lower = y; is = refl }

-- ---- how well-spelled texts begin

run-append : (s r : List ℕ) (m : Mode) (fs : List Frame) (m' : Mode) (fs' : List Frame) → run m fs s ≡ reached m' fs'
    → run m fs (s ++ r) ≡ run m' fs' r
unfolding run
run-append [] r m fs m' fs' e = let p : m ≡ m' = cc in let q : fs ≡ fs' = cc in λ i. run (p i) (q i) r
run-append (b ∷ s) r m fs m' fs' e = go (step m fs b) (λ n gs. run-append s r n gs m' fs') e
  where
    go : (x : Step) → ((n : Mode) (gs : List Frame) → run n gs s ≡ reached m' fs' → run n gs (s ++ r) ≡ run m' fs' r)
        → elim x [ stuck ↦ forbidden (b ∷ s) | to n gs ↦ run n gs s ] ≡ reached m' fs'
        → elim x [ stuck ↦ forbidden (b ∷ s ++ r) | to n gs ↦ run n gs (s ++ r) ] ≡ run m' fs' r
    go stuck next e = absurd (forbidden-clash (b ∷ s) m' fs' e)
    go (to n gs) next e = next n gs e

-- some well-spelled text begins so, which is that of two subtrees
abbrev pub Begins : List ℕ → Type 0
Begins s = (rest : List ℕ) × (a : Newick) × (x : ℕ) × (b : Newick) × (y : ℕ) × (whole_text (join a x b y) ≡ s ++ rest)

value-begins : (s rest : List ℕ) (value : Newick) → run start [] (s ++ rest) ≡ reached (done value) [] → Begins s
value-begins s rest value e =
    let p = done-pair (s ++ rest) value e in
    (rest, p.left, p.upper, p.right, p.lower, ap whole_text (sym p.is) ∙ read-written (s ++ rest) value e)

-- "the first byte its spelling [...] forbids": some well-spelled text begins with what stands before it, and none with that byte too
pub record First (s read : List ℕ) (byte : ℕ) (rest : List ℕ) : Type 0 where
  pub splits : s ≡ read ++ (byte ∷ rest)
  pub begins : Begins read
  pub stops : Begins (read ++ (byte ∷ [])) → ⊥

pub first-forbidden : (s r : List ℕ) → run start [] s ≡ forbidden r
    → (read : List ℕ) × (byte : ℕ) × (rest : List ℕ) × (r ≡ byte ∷ rest) × First s read byte rest
first-forbidden s r e =
    let p = forbidden-stops s start [] r refl e in
    let g = p.goes_on in (
      p.read,
      p.byte,
      p.rest,
      p.is,
      record {
        splits = p.splits;
        begins = value-begins p.read g.0 g.1 g.2;
        stops = λ B.
            let v = join B.1 B.2 B.3 B.4 in
            let w : whole_text v ≡ p.read ++ (p.byte ∷ B.0) = B.5 ∙ append_assoc p.read (p.byte ∷ []) B.0 in
            p.stops B.0 v (ap (run start []) (sym w) ∙ written_read B.1 B.2 B.3 B.4);
      },
    )

-- "its end": what forbids no byte
pub unfinished : (s : List ℕ) (m : Mode) (fs : List Frame) → run start [] s ≡ reached m fs → Begins s
unfinished s m fs e =
    let c = completed m fs (run-fine s start [] m fs refl e) in
    value-begins s c.rest c.value (run-append s c.rest start [] m fs e ∙ c.ends)

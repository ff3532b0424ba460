-- The ways through the code that replays: two texts compared (`compare_laws`), a file answered (`file-few` and those after it), a text of the data (`text_laws`, `place_laws`),
-- a case (`case_laws`), and all cases (`cases_laws`, `all_laws`). Assumes nothing.
use mathlib.Core.Path.{◌≡◌, refl, sym, ap, ◌∙◌, subst}
use mathlib.Core.List.{List, ◌++◌}
use Prim.Native.Nat.{ℕ, suc, ◌+◌, ◌-◌, ◌≤◌, ◌<◌}
use native.Mathlib.Decide.{dec_lt}
use native.Mathlib.Nat.{sub-zero}
use native.Mathlib.Numerals.{add-one}
use native.Mathlib.Omega.{arith}
use lib.ListN.{length, take, drop, get_or, drop_of_length-le, length-append, length-drop}
use lib.Seq.{drop-cons, drop-drop, get_or-drop, take_at, length-take-le}
use borrow.Author.Tests.{eq-eqb, ne_eqb, lt-ltb, le-ltb}
use Rattle.text.specs.Text.{bytes, line_end}
use Rattle.text.specs.Rules.{malformed, parsed, return, onward, ◌>>=◌, literal, fixed, decimal}
use Rattle.text.specs.Places.{numbered}
use Rattle.forms.specs.Forms.{entry, most_elsewhere}
use Rattle.report.specs.Report.{Delivery, delivery, delivered}
use Rattle.respond.specs.Respond.{file_reply}
use Rattle.replay.specs.Replay.{taken, counted, case, cases_line, compared, within, replay_case, proceed, outcome, replayed}
use Rattle.replay.specs.Given.{texted, Inside, stepped}
use Rattle.replay.specs.declared.Fault.{Fault}
use Rattle.replay.specs.declared.Fault.TheVariants as Faults
use Rattle.replay.specs.declared.Stop.{Stop}
use Rattle.replay.specs.declared.Stop.TheVariants as Stops
use Rattle.std.specs.Prelude.{Option, Some, None, Result, Ok, Err, Bool, true, false, cond, ◌&&◌, eqb, [], ◌∷◌}
use Rattle.std.specs.List.{zip, take_while, prefix_len}
use lib.Pointwise.{pointwise}

-- ---- two texts from the place i on: whether they are one text, and how many bytes are alike from their start

same : (i : ℕ) (g e : List ℕ) → pointwise eqb g e ≡ true → None ≡ compared i g e
unfolding compared
same i [] [] h = refl
same i [] (y ∷ e) h = cc
same i (x ∷ g) [] h = cc
same i (x ∷ g) (y ∷ e) h = go (eqb x y) (same (suc i) g e) h
  where
    go : (b : Bool) → (pointwise eqb g e ≡ true → None ≡ compared (suc i) g e) → b && pointwise eqb g e ≡ true → None ≡ cond b (compared (suc i) g e) (Some i)
    go true r h = r h
    go false r h = cc

abbrev pub alike_in : List ℕ → List ℕ → ℕ
alike_in g e = length (take_while (λ (p : ℕ × ℕ). eqb p.0 p.1) (zip g e))

other : (i : ℕ) (g e : List ℕ) → pointwise eqb g e ≡ false → Some (i + alike_in g e) ≡ compared i g e
unfolding compared
other i [] [] h = cc
other i [] (y ∷ e) h = let z : i + 0 ≡ i = omega arith in ap (λ (n : ℕ). Some n) z
other i (x ∷ g) [] h = let z : i + 0 ≡ i = omega arith in ap (λ (n : ℕ). Some n) z
other i (x ∷ g) (y ∷ e) h = go (eqb x y) (other (suc i) g e) h
  where
    n : ℕ
    n = prefix_len (λ (p : ℕ × ℕ). eqb p.0 p.1) (zip g e)

    go : (b : Bool) → (pointwise eqb g e ≡ false → Some (suc i + alike_in g e) ≡ compared (suc i) g e) → b && pointwise eqb g e ≡ false
        → Some (i + length (take (cond b (1 + n) 0) ((x, y) ∷ zip g e))) ≡ cond b (compared (suc i) g e) (Some i)
    go true r h =
        let m : 1 + n ≡ suc n = omega arith in
        let k : i + suc (alike_in g e) ≡ suc i + alike_in g e = omega arith in
        rw (m, k) (r h)
    go false r h = let z : i + 0 ≡ i = omega arith in ap (λ (n : ℕ). Some n) z

-- b says whether they are one text
module _ (g e : List ℕ) (b : Bool) (eb : b ≡ pointwise eqb g e) where
  pub compare-same : b ≡ true → None ≡ compared 0 g e
  compare-same t = same 0 g e (sym eb ∙ t)

  pub compare-other : b ≡ false → (n : ℕ) → n ≡ alike_in g e → Some n ≡ compared 0 g e
  compare-other t n en = let z : n ≡ 0 + alike_in g e = omega arith in ap (λ (m : ℕ). Some m) z ∙ other 0 g e (sym eb ∙ t)

pub ruleset compare_laws = (compare-same, compare-other)

-- ---- a file answered: r bytes of the slice o, which came as out

module _ (room : ℕ) (out text : List ℕ) (long : length out ≡ room) (r : ℕ) (o : List ℕ) (e : delivery r o ≡ delivered out text) where
  -- how many are given, and which
  record Given : Type 0 where
    few : r ≤ length o
    these : take r o ≡ within room text

  given : Given
  unfolding delivered within
  given = go (dec_lt (length out) (length text))
    where
      go : Dec (length out < length text) → Given
      go (yes h) =
          let f : delivery r o ≡ delivery 0 out = rw (lt-ltb (length out) (length text) h) at e in
          let n : r ≡ 0 = ap (λ (d : Delivery). d.count) f in
          record { few = omega arith; these = rw (n, ← long, lt-ltb (length out) (length text) h) }
      go (no h) =
          let k : length text ≤ length out = omega arith in
          let f : delivery r o ≡ delivery (length text) (text ++ drop (length text) out) = rw (le-ltb (length out) (length text) k) at e in
          let n : r ≡ length text = ap (λ (d : Delivery). d.count) f in
          let q : o ≡ text ++ drop (length text) out = ap (λ (d : Delivery). d.out) f in
          record {
            few = rw (n, q, length-append) (omega arith);
            these = rw (n, q, ← long, le-ltb (length out) (length text) k) (take_at text (drop (length text) out) (length text) refl);
          }

  pub file-few : r ≤ length o
  file-few = given.few

  pub file-long : r ≡ length (take r o)
  file-long = sym (length-take-le r o given.few)

  pub file-compared : (x : Option ℕ) (expected : List ℕ) → x ≡ compared 0 (take r o) expected → x ≡ compared 0 (within room text) expected
  file-compared x expected h = rw given.these at h

-- ---- a text of the data, from the place i on

-- so many bytes u and a byte 10
cut : (n : ℕ) (u : List ℕ) → length u ≤ n → malformed ≡ onward (taken n u) (fixed line_end)
unfolding taken onward fixed ◌>>=◌ literal
cut n u h = go (dec_lt (length u) n)
  where
    go : Dec (length u < n) → malformed ≡ onward (taken n u) (fixed line_end)
    go (yes k) = rw (lt-ltb (length u) n k)
    go (no k) = let q : n ≤ length u = omega arith in rw (le-ltb (length u) n q, drop_of_length-le u h)

module _ (n : ℕ) (u : List ℕ) (h : n < length u) where
  shut : get_or u n 0 ≡ 10 → parsed (take n u) (drop (suc n) u) ≡ onward (taken n u) (fixed line_end)
  unfolding taken onward fixed ◌>>=◌ literal return
  shut b = let q : n ≤ length u = omega arith in rw (le-ltb (length u) n q, drop-cons u n 0 h, eq-eqb (get_or u n 0) 10 b)

  unshut : (get_or u n 0 ≡ 10 → ⊥) → malformed ≡ onward (taken n u) (fixed line_end)
  unfolding taken onward fixed ◌>>=◌ literal return
  unshut b = let q : n ≤ length u = omega arith in rw (le-ltb (length u) n q, drop-cons u n 0 h, ne_eqb (get_or u n 0) 10 b)

module _ (s key t : List ℕ) (r : Option (ℕ × ℕ)) (e : numbered s r ≡ entry key (decimal most_elsewhere) t) where
  pub text-unread : r ≡ None → malformed ≡ counted key t
  unfolding counted ◌>>=◌ onward
  text-unread m = rw (← e, m)

  module _ (n i : ℕ) (p : r ≡ Some (n, i)) where
    whole : onward (taken n (drop i s)) (fixed line_end) ≡ counted key t
    unfolding counted ◌>>=◌ onward
    whole = rw (← e, p)

    pub text-short : length s ≤ i + n → malformed ≡ counted key t
    text-short h = cut n (drop i s) (rw length-drop (omega arith)) ∙ whole

    module _ (h : i + n < length s) where
      room : n < length (drop i s)
      room = rw length-drop (omega arith)

      pub text-open : (get_or s (i + n) 0 ≡ 10 → ⊥) → malformed ≡ counted key t
      text-open b = unshut n (drop i s) room (rw get_or-drop b) ∙ whole

      pub text-there : get_or s (i + n) 0 ≡ 10 → texted s (Some (i, i + n)) ≡ counted key t
      text-there b =
          let m : i + n - i ≡ n = omega arith in
          let l : i + n + 1 ≡ i + suc n = omega arith in
          rw (m, l, ← drop-drop) (shut n (drop i s) room (rw get_or-drop b) ∙ whole)

pub ruleset text_laws = (text-unread, text-short, text-open, text-there)

-- where it starts and ends
module _ (s : List ℕ) (r : Option (ℕ × ℕ)) (a b : ℕ) (h : Inside s r) (e : r ≡ Some (a, b)) where
  pub text-inside : (a ≤ b) × (b < length s)
  text-inside = subst (Inside s) e h

  pub text-start : a ≤ b
  text-start = text-inside.0

  pub text-end : b ≤ length s
  text-end = omega (arith, text-inside)

pub ruleset place_laws = (text-start, text-end)

-- ---- a case: f and g are where its file and its answer stand

module _ (s t : List ℕ) (f : Option (ℕ × ℕ)) (ef : texted s f ≡ counted (bytes "file=") t) where
  pub case-file : f ≡ None → stepped s (Err Faults.Malformed) ≡ replay_case t
  unfolding replay_case case ◌>>=◌ onward
  case-file m = rw (← ef, m)

  module _ (a b : ℕ) (pf : f ≡ Some (a, b)) (g : Option (ℕ × ℕ)) (eg : texted s g ≡ counted (bytes "answer=") (drop (b + 1) s)) where
    pub case-answer : g ≡ None → stepped s (Err Faults.Malformed) ≡ replay_case t
    unfolding replay_case case ◌>>=◌ onward
    case-answer m = rw (← ef, pf, ← eg, m)

    module _ (c d : ℕ) (pg : g ≡ Some (c, d)) (r : Option ℕ)
        (er : r ≡ compared 0 (within 131136 (file_reply 131072 (take (b - a) (drop a s)))) (take (d - c) (drop c s))) where
      pub case-differs : (i : ℕ) → r ≡ Some i → stepped s (Err (Faults.Differs i)) ≡ replay_case t
      unfolding replay_case case ◌>>=◌ onward return
      case-differs i m = rw (← ef, pf, ← eg, pg, ← er, m)

      pub case-alike : r ≡ None → stepped s (Ok (d + 1)) ≡ replay_case t
      unfolding replay_case case ◌>>=◌ onward return
      case-alike m = rw (← ef, pf, ← eg, pg, ← er, m)

pub ruleset case_laws = (case-file, case-answer, case-differs, case-alike)

-- ---- all cases, of which k are alike

pub record Going (s : List ℕ) (n k i : ℕ) (whole : Result ℕ Stop) : Type 0 where
  pub few : k ≤ n
  pub rest : outcome (n - k) k (drop i s) ≡ whole

pub going_start : (s : List ℕ) (n i : ℕ) → Going s n 0 i (outcome n 0 (drop i s))
going_start s n i = record { few = omega arith; rest = rw sub-zero }

module _ (s : List ℕ) (n k i : ℕ) (whole : Result ℕ Stop) (x : Going s n k i whole) where
  done : n ≤ k → outcome 0 n (drop i s) ≡ whole
  done h = let e : k ≡ n = omega (arith, x.few) in let z : n - n ≡ 0 = omega arith in rw (e, z) at x.rest

  pub going_end : n ≤ k → length s ≤ i → Ok n ≡ whole
  unfolding outcome
  going_end h l = rw (drop_of_length-le s l) at (done h)

  pub going-over : n ≤ k → i < length s → Err (Stops.Malformed n) ≡ whole
  unfolding outcome
  going-over h l = rw (drop-cons s i 0 l) at (done h)

  module _ (h : k < n) (r : Result ℕ Fault) (e : stepped s r ≡ replay_case (drop i s)) where
    opened : proceed k (stepped s r) (outcome (n - (k + 1)) (suc k)) ≡ whole
    unfolding outcome
    opened = let l : n - k ≡ suc (n - (k + 1)) = omega arith in rw (l, ← e) at x.rest

    pub going-malformed : r ≡ Err Faults.Malformed → Err (Stops.Malformed k) ≡ whole
    unfolding proceed
    going-malformed m = rw m at opened

    pub going-differs : (p : ℕ) → r ≡ Err (Faults.Differs p) → Err (Stops.Differs (k + 1) p) ≡ whole
    unfolding proceed
    going-differs p m = rw add-one (rw m at opened)

    pub going_more : (j : ℕ) → r ≡ Ok j → Going s n (k + 1) j whole
    unfolding proceed
    going_more j m = record { few = omega arith; rest = rw add-one (rw (m, add-one) at opened) }

pub ruleset cases_laws = (going_start, going_end, going-over, going-malformed, going-differs, going_more)

module _ (s : List ℕ) (r : Option (ℕ × ℕ)) (e : numbered s r ≡ cases_line s) where
  pub all-malformed : r ≡ None → Err (Stops.Malformed 0) ≡ replayed s
  unfolding replayed
  all-malformed m = rw (← e, m)

  pub all-cases : (n i : ℕ) (o : Result ℕ Stop) → r ≡ Some (n, i) → o ≡ outcome n 0 (drop i s) → o ≡ replayed s
  unfolding replayed
  all-cases n i o m q = q ∙ rw (← e, m)

pub ruleset all_laws = (all-malformed, all-cases)

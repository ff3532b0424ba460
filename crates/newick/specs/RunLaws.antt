-- What is written is read, and what is read was written so: the spelling takes the text of every value that is no single tip, as that value (`written_read`),
-- and a text that it takes as a value is that value's (`read-written`), since a reader has behind it the text of what it holds (`step-leads`). The bytes 40 and
-- 41 are the parentheses, 44 the comma, 46 the point, 58 the colon, 59 the semicolon, and 48 the digit 0. Assumes nothing.
use Rattle.std.specs.Prelude.{◌≡◌, refl, Bool, true, false, List, [], ◌∷◌, ◌++◌, ℕ, zero, suc, ◌+◌, ◌-◌, ◌*◌, ◌/◌, ◌%◌, ◌≤◌, ◌<◌, eqb}
use Rattle.std.proofs.Common.{sym, ap, ◌∙◌, subst, append_assoc, append-nil, le_refl, arith, ne_eqb, eqb-true}
use Rattle.std.proofs.Math.Decide.{dec_lt}
use Rattle.std.proofs.lemmas.Bool.{eqb-false}
use Rattle.text.specs.Rules.{is_decimal}
use Rattle.newick.specs.Newick.{Newick, tip, join, number_text, length_text, text, whole_text, Frame, first, second}
use Rattle.newick.specs.Newick.{Mode, start, sub, name, made, colon, whole, point, tenths, hundredths, branch, done}
use Rattle.newick.specs.Newick.{Step, stuck, to, on, on_digit, or_else, on_more, step, Run, forbidden, reached, run}
use Rattle.newick.specs.DecimalLaws.{digit-is, digit-back, digit-byte, number-one, number_more}

-- ---- one byte

pub run_step : (m : Mode) (fs : List Frame) (b : ℕ) (s : List ℕ) (m' : Mode) (fs' : List Frame) → step m fs b ≡ to m' fs' → run m fs (b ∷ s) ≡ run m' fs' s
unfolding run
run_step m fs b s m' fs' e = rw (e, run)

-- a digit, where every digit may stand
digit-run : (m : Mode) (g : ℕ → Mode) (fs : List Frame) (d : ℕ) (rest : List ℕ) → step m fs (48 + d) ≡ on_digit (48 + d) g fs → d < 10
    → run m fs ((48 + d) ∷ rest) ≡ run (g d) fs rest
digit-run m g fs d rest e h = run_step m fs (48 + d) rest (g d) fs (e ∙ rw (digit-is d h, digit-back d))

-- ---- a number

-- m takes its first digit, and g, by the number so far, the others
record Number (m : Mode) (g : ℕ → Mode) (fs : List Frame) : Type 0 where
  begin : (d : ℕ) → d < 10 → step m fs (48 + d) ≡ to (g d) fs
  more : (v d : ℕ) → 1 ≤ v → d < 10 → step (g v) fs (48 + d) ≡ to (g (v * 10 + d)) fs

module _ (m : Mode) (g : ℕ → Mode) (fs : List Frame) (number : Number m g fs) where
  abbrev Takes : ℕ → Type 0
  Takes n = (rest : List ℕ) → run m fs (number_text n ++ rest) ≡ run (g n) fs rest

  takes_one : (n : ℕ) → n < 10 → Takes n
  takes_one n h rest = ap (λ (l : List ℕ). run m fs (l ++ rest)) (number-one n h) ∙ run_step m fs (48 + n) rest (g n) fs (number.begin n h)

  takes-more : (v d : ℕ) → 1 ≤ v → d < 10 → Takes v → Takes (v * 10 + d)
  takes-more v d p h before rest =
      ap (λ (l : List ℕ). run m fs (l ++ rest)) (number_more v d p h)
      ∙ ap (run m fs) (append_assoc (number_text v) ((48 + d) ∷ []) rest)
      ∙ before ((48 + d) ∷ rest)
      ∙ run_step (g v) fs (48 + d) rest (g (v * 10 + d)) fs (number.more v d p h)

  takes-below : (k n : ℕ) → n < k → Takes n
  takes-below zero n h = absurd (omega arith)
  takes-below (suc k) n h = elim (dec_lt n 10) [
    | yes p ↦ takes_one n p
    | no p ↦
        let e : n / 10 * 10 + n % 10 ≡ n = omega arith in
        subst Takes e (takes-more (n / 10) (n % 10) (omega arith) (omega arith) (takes-below k (n / 10) (omega arith)))
  ]

  number-run : (n : ℕ) → Takes n
  number-run n = takes-below (suc n) n (le_refl _)

name-number : (fs : List Frame) → Number sub name fs
unfolding step
name-number fs = record {
  begin = λ d h. rw (ne_eqb (48 + d) 40 (λ e. omega arith), digit-is d h, digit-back d);
  more = λ v d p h. rw (ne_eqb (48 + d) 58 (λ e. omega arith), ne_eqb v 0 (λ e. omega arith), digit-is d h, digit-back d);
}

whole-number : (t : Newick) (fs : List Frame) → Number (colon t) (whole t) fs
unfolding step
whole-number t fs = record {
  begin = λ d h. rw (digit-is d h, digit-back d);
  more = λ v d p h. rw (ne_eqb (48 + d) 46 (λ e. omega arith), ne_eqb v 0 (λ e. omega arith), digit-is d h, digit-back d);
}

-- ---- a length

length_run : (t : Newick) (fs : List Frame) (x : ℕ) (rest : List ℕ) → run (colon t) fs (length_text x ++ rest) ≡ run (branch t x) fs rest
unfolding step
length_run t fs x rest =
    let w = x / 1000 in
    let a = x / 100 % 10 in
    let b = x / 10 % 10 in
    let c = x % 10 in
    let all : ((w * 10 + a) * 10 + b) * 10 + c ≡ x = omega arith in
    ap (run (colon t) fs) (append_assoc (number_text w) (46 ∷ (48 + a) ∷ (48 + b) ∷ (48 + c) ∷ []) rest)
    ∙ number-run (colon t) (whole t) fs (whole-number t fs) w (46 ∷ (48 + a) ∷ (48 + b) ∷ (48 + c) ∷ rest)
    ∙ run_step (whole t w) fs 46 ((48 + a) ∷ (48 + b) ∷ (48 + c) ∷ rest) (point t w) fs refl
    ∙ digit-run (point t w) (λ d. tenths t (w * 10 + d)) fs a ((48 + b) ∷ (48 + c) ∷ rest) refl (omega arith)
    ∙ digit-run (tenths t (w * 10 + a)) (λ d. hundredths t ((w * 10 + a) * 10 + d)) fs b ((48 + c) ∷ rest) refl (omega arith)
    ∙ digit-run (hundredths t ((w * 10 + a) * 10 + b)) (λ d. branch t (((w * 10 + a) * 10 + b) * 10 + d)) fs c rest refl (omega arith)
    ∙ ap (λ (y : ℕ). run (branch t y) fs rest) all

-- ---- a subtree and its colon, below an open parenthesis

abbrev Reads : Newick → Type 0
Reads t = (f : Frame) (fs : List Frame) (rest : List ℕ) → run sub (f ∷ fs) (text t ++ (58 ∷ rest)) ≡ run (colon t) (f ∷ fs) rest

-- what stands behind the opening parenthesis of two subtrees
abbrev inside : Newick → ℕ → Newick → ℕ → List ℕ → List ℕ
inside a x b y rest = text a ++ (58 ∷ length_text x ++ (44 ∷ text b ++ (58 ∷ length_text y ++ (41 ∷ rest))))

glue : (a x b y r : List ℕ)
    → (40 ∷ a ++ (58 ∷ x ++ (44 ∷ b ++ (58 ∷ y ++ (41 ∷ []))))) ++ r ≡ 40 ∷ a ++ (58 ∷ x ++ (44 ∷ b ++ (58 ∷ y ++ (41 ∷ r))))
glue a x b y r = simp append_assoc

join-text : (a : Newick) (x : ℕ) (b : Newick) (y : ℕ) (rest : List ℕ) → text (join a x b y) ++ rest ≡ 40 ∷ inside a x b y rest
unfolding text
join-text a x b y rest = glue (text a) (length_text x) (text b) (length_text y) rest

inside-run : (a : Newick) (x : ℕ) (b : Newick) (y : ℕ) (fs : List Frame) (rest : List ℕ) → Reads a → Reads b
    → run sub (first ∷ fs) (inside a x b y rest) ≡ run (made (join a x b y)) fs rest
unfolding step
inside-run a x b y fs rest reads-a reads-b =
    reads-a first fs (length_text x ++ (44 ∷ text b ++ (58 ∷ length_text y ++ (41 ∷ rest))))
    ∙ length_run a (first ∷ fs) x (44 ∷ text b ++ (58 ∷ length_text y ++ (41 ∷ rest)))
    ∙ run_step (branch a x) (first ∷ fs) 44 (text b ++ (58 ∷ length_text y ++ (41 ∷ rest))) sub (second a x ∷ fs) refl
    ∙ reads-b (second a x) fs (length_text y ++ (41 ∷ rest))
    ∙ length_run b (second a x ∷ fs) y (41 ∷ rest)
    ∙ run_step (branch b y) (second a x ∷ fs) 41 rest (made (join a x b y)) fs refl

sub-run : (t : Newick) → Reads t
unfolding step text
sub-run (tip k) f fs rest =
    number-run sub name (f ∷ fs) (name-number (f ∷ fs)) k (58 ∷ rest)
    ∙ run_step (name k) (f ∷ fs) 58 rest (colon (tip k)) (f ∷ fs) refl
sub-run (join a x b y) f fs rest =
    ap (run sub (f ∷ fs)) (join-text a x b y (58 ∷ rest))
    ∙ run_step sub (f ∷ fs) 40 (inside a x b y (58 ∷ rest)) sub (first ∷ f ∷ fs) refl
    ∙ inside-run a x b y (f ∷ fs) (58 ∷ rest) (sub-run a) (sub-run b)
    ∙ run_step (made (join a x b y)) (f ∷ fs) 58 rest (colon (join a x b y)) (f ∷ fs) refl

-- what the writer writes, the reader takes
pub written_read : (a : Newick) (x : ℕ) (b : Newick) (y : ℕ) → run start [] (whole_text (join a x b y)) ≡ reached (done (join a x b y)) []
unfolding step whole_text run
written_read a x b y =
    ap (run start []) (join-text a x b y (59 ∷ []))
    ∙ run_step start [] 40 (inside a x b y (59 ∷ [])) sub (first ∷ []) refl
    ∙ inside-run a x b y [] (59 ∷ []) (sub-run a) (sub-run b)
    ∙ run_step (made (join a x b y)) [] 59 [] (done (join a x b y)) [] refl

-- ---- the text that a reader has behind it

-- up to where it stands, of what is open: each parenthesis, with its first subtree and its length if they are read
unfoldable pub behind : List Frame → List ℕ
behind [] = []
behind (first ∷ fs) = behind fs ++ (40 ∷ [])
behind (second a x ∷ fs) = behind fs ++ (40 ∷ text a ++ (58 ∷ length_text x ++ (44 ∷ [])))

-- and of the subtree in which it stands
unfoldable pub part : Mode → List ℕ
part start = []
part sub = []
part (name k) = number_text k
part (made t) = text t
part (colon t) = text t ++ (58 ∷ [])
part (whole t w) = text t ++ (58 ∷ number_text w)
part (point t w) = text t ++ (58 ∷ number_text w ++ (46 ∷ []))
part (tenths t w) = text t ++ (58 ∷ number_text (w / 10) ++ (46 ∷ (48 + w % 10) ∷ []))
part (hundredths t w) = text t ++ (58 ∷ number_text (w / 100) ++ (46 ∷ (48 + w / 10 % 10) ∷ (48 + w % 10) ∷ []))
part (branch t x) = text t ++ (58 ∷ length_text x)
part (done t) = text t ++ (59 ∷ [])

-- both: the whole text that leads to where it stands
abbrev pub spelled : Mode → List Frame → List ℕ
spelled m fs = behind fs ++ part m

-- where a step leads, the text behind the reader is l
abbrev Leads : Step → List ℕ → Type 0
Leads stuck l = Unit
Leads (to m fs) l = spelled m fs ≡ l

on-leads : (t : Bool) (m : Mode) (fs : List Frame) (l : List ℕ) → (t ≡ true → spelled m fs ≡ l) → Leads (on t m fs) l
on-leads true m fs l h = h refl
on-leads false m fs l h = tt

or-leads : (t : Bool) (a b : Step) (l : List ℕ) → (t ≡ true → Leads a l) → (t ≡ false → Leads b l) → Leads (or_else t a b) l
or-leads true a b l h k = h refl
or-leads false a b l h k = k refl

-- a sign c, alone or beside other bytes
module _ (b c : ℕ) (m : Mode) (fs : List Frame) (l : List ℕ) (h : spelled m fs ≡ l ++ (c ∷ [])) where
  sign-is : eqb b c ≡ true → spelled m fs ≡ l ++ (b ∷ [])
  sign-is e = rw (eqb-true b c e) h

  sign-leads : Leads (on (eqb b c) m fs) (l ++ (b ∷ []))
  sign-leads = on-leads (eqb b c) m fs (l ++ (b ∷ [])) sign-is

  sign-or : (other : Step) → Leads other (l ++ (b ∷ [])) → Leads (or_else (eqb b c) (to m fs) other) (l ++ (b ∷ []))
  sign-or other k = or-leads (eqb b c) (to m fs) other (l ++ (b ∷ [])) sign-is (λ e. k)

-- a digit d behind a mode m whose text it continues
digit-leads : (b : ℕ) (g : ℕ → Mode) (m : Mode) (fs : List Frame) → ((d : ℕ) → d < 10 → part (g d) ≡ part m ++ ((48 + d) ∷ []))
    → Leads (on_digit b g fs) (spelled m fs ++ (b ∷ []))
digit-leads b g m fs h = on-leads (is_decimal b) (g (b - 48)) fs (spelled m fs ++ (b ∷ [])) λ e.
    let p = digit-byte b e in
    ap (λ (l : List ℕ). behind fs ++ l) (h (b - 48) p.0)
    ∙ ap (λ (c : ℕ). behind fs ++ (part m ++ (c ∷ []))) (sym p.1)
    ∙ sym (append_assoc (behind fs) (part m) (b ∷ []))

-- and one behind a number v
more-leads : (v b : ℕ) (g : ℕ → Mode) (m : Mode) (fs : List Frame)
    → ((d : ℕ) → 1 ≤ v → d < 10 → part (g (v * 10 + d)) ≡ part m ++ ((48 + d) ∷ [])) → Leads (on_more v b g fs) (spelled m fs ++ (b ∷ []))
more-leads v b g m fs h = or-leads (eqb v 0) stuck (on_digit b (λ d. g (v * 10 + d)) fs) (spelled m fs ++ (b ∷ [])) (λ e. tt)
    (λ e. let n : v ≡ 0 → ⊥ = eqb-false v 0 e in digit-leads b (λ d. g (v * 10 + d)) m fs (λ d p. h d (omega arith) p))

-- an open parenthesis with its first subtree, and what comes behind
opened : (h a x r : List ℕ) → (h ++ (40 ∷ a ++ (58 ∷ x ++ (44 ∷ [])))) ++ r ≡ h ++ (40 ∷ a ++ (58 ∷ x ++ (44 ∷ r)))
opened h a x r =
    append_assoc h (40 ∷ a ++ (58 ∷ x ++ (44 ∷ []))) r
    ∙ ap (λ (l : List ℕ). h ++ (40 ∷ l)) (append_assoc a (58 ∷ x ++ (44 ∷ [])) r)
    ∙ ap (λ (l : List ℕ). h ++ (40 ∷ a ++ (58 ∷ l))) (append_assoc x (44 ∷ []) r)

-- two subtrees, of which the second was just read, closed
closed : (fs : List Frame) (a : Newick) (x : ℕ) (b : Newick) (y : ℕ)
    → spelled (branch b y) (second a x ∷ fs) ++ (41 ∷ []) ≡ spelled (made (join a x b y)) fs
unfolding part behind text
closed fs a x b y =
    append_assoc (behind (second a x ∷ fs)) (text b ++ (58 ∷ length_text y)) (41 ∷ [])
    ∙ ap (λ (l : List ℕ). behind (second a x ∷ fs) ++ l) (append_assoc (text b) (58 ∷ length_text y) (41 ∷ []))
    ∙ opened (behind fs) (text a) (length_text x) (text b ++ (58 ∷ length_text y ++ (41 ∷ [])))

step-leads : (m : Mode) (fs : List Frame) (b : ℕ) → Leads (step m fs b) (spelled m fs ++ (b ∷ []))
unfolding step part behind text
step-leads start fs b = sign-leads b 40 sub (first ∷ fs) (spelled start fs) (simp append-nil)
step-leads sub fs b = sign-or b 40 sub (first ∷ fs) (spelled sub fs) (simp append-nil) (on_digit b name fs) (digit-leads b name sub fs number-one)
step-leads (name k) fs b =
    sign-or b 58 (colon (tip k)) fs (spelled (name k) fs) (simp append_assoc) (on_more k b name fs)
    (more-leads k b name (name k) fs (number_more k))
step-leads (made t) [] b = sign-leads b 59 (done t) [] (spelled (made t) []) refl
step-leads (made t) (f ∷ fs) b = sign-leads b 58 (colon t) (f ∷ fs) (spelled (made t) (f ∷ fs)) (simp append_assoc)
step-leads (colon t) fs b = digit-leads b (whole t) (colon t) fs λ d p. rw (number-one d p) (simp append_assoc)
step-leads (whole t w) fs b =
    sign-or b 46 (point t w) fs (spelled (whole t w) fs) (simp append_assoc) (on_more w b (whole t) fs)
    (more-leads w b (whole t) (whole t w) fs λ d z p. rw (number_more w d z p) (simp append_assoc))
step-leads (point t w) fs b = digit-leads b (λ d. tenths t (w * 10 + d)) (point t w) fs λ d p.
    let before : (w * 10 + d) / 10 ≡ w = omega arith in
    let last : (w * 10 + d) % 10 ≡ d = omega arith in
    rw (before, last) (simp append_assoc)
step-leads (tenths t w) fs b = digit-leads b (λ d. hundredths t (w * 10 + d)) (tenths t w) fs λ d p.
    let before : (w * 10 + d) / 100 ≡ w / 10 = omega arith in
    let tenth : (w * 10 + d) / 10 % 10 ≡ w % 10 = omega arith in
    let last : (w * 10 + d) % 10 ≡ d = omega arith in
    rw (before, tenth, last) (simp append_assoc)
step-leads (hundredths t w) fs b = digit-leads b (λ d. branch t (w * 10 + d)) (hundredths t w) fs λ d p.
    let before : (w * 10 + d) / 1000 ≡ w / 100 = omega arith in
    let tenth : (w * 10 + d) / 100 % 10 ≡ w / 10 % 10 = omega arith in
    let hundredth : (w * 10 + d) / 10 % 10 ≡ w % 10 = omega arith in
    let last : (w * 10 + d) % 10 ≡ d = omega arith in
    rw (before, tenth, hundredth, last) (simp append_assoc)
step-leads (branch t x) [] b = tt
step-leads (branch t x) (first ∷ fs) b = sign-leads b 44 sub (second t x ∷ fs) (spelled (branch t x) (first ∷ fs)) (simp (append_assoc, append-nil))
step-leads (branch t x) (second a y ∷ fs) b =
    sign-leads b 41 (made (join a y t x)) fs (spelled (branch t x) (second a y ∷ fs)) (sym (closed fs a y t x))
step-leads (done t) fs b = tt

-- where a run ends, the text behind the reader is what it had behind it and what it read
Ended : Run → List ℕ → Type 0
Ended (forbidden r) l = Unit
Ended (reached m fs) l = spelled m fs ≡ l

run-leads : (m : Mode) (fs : List Frame) (s : List ℕ) → Ended (run m fs s) (spelled m fs ++ s)
unfolding run Ended
run-leads m fs [] = sym (append-nil (spelled m fs))
run-leads m fs (b ∷ s) = go (step m fs b) (step-leads m fs b) (λ m' fs'. run-leads m' fs' s)
  where
    go : (r : Step) → Leads r (spelled m fs ++ (b ∷ [])) → ((m' : Mode) (fs' : List Frame) → Ended (run m' fs' s) (spelled m' fs' ++ s))
        → Ended (elim r [ stuck ↦ forbidden (b ∷ s) | to m' fs' ↦ run m' fs' s ]) (spelled m fs ++ (b ∷ s))
    go stuck leads rest = tt
    go (to m' fs') leads rest =
        subst (Ended (run m' fs' s)) (ap (λ (l : List ℕ). l ++ s) leads ∙ append_assoc (spelled m fs) (b ∷ []) s) (rest m' fs')

-- what the reader takes, written again, is the text
pub read-written : (s : List ℕ) (t : Newick) → run start [] s ≡ reached (done t) [] → whole_text t ≡ s
unfolding Ended behind part whole_text
read-written s t e = subst (λ (r : Run). Ended r s) e (run-leads start [] s)

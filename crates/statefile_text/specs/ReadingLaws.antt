-- Rules and readers one after the other. What follows one that has read (`rule-then`, `reader-then`, `line-then`, `each_next`); what reads back as it was
-- put: a fixed text, a value after a comma, the value of a line (`fixed_reads`, `next-reads`, `entry-reads`); and what readers have read (`split`,
-- `line_read`, `each_read`). Assumes nothing.
use Rattle.std.specs.Prelude.{◌≡◌, refl, length}
use Rattle.std.proofs.Common.{sym, ◌∙◌, arith}
use Rattle.std.proofs.Math.Path.{ap, subst}
use mathlib.Core.List.{List, [], ◌∷◌, ◌++◌, append_assoc}
use Prim.Native.Nat.{ℕ, zero, suc, ◌+◌}
use Rattle.text.specs.Text.{bytes, line_end}
use Rattle.text.specs.Rules as Rules
use Rattle.text.specs.Rules.{Rule, Parsed, malformed, parsed, literal, fixed, ◌>>=◌ as ◌>>=ʳ◌}
use Rattle.text.specs.ReadBackLaws.{literal-reads}
use Rattle.forms.specs.Forms.{entry, next}
use Rattle.notation.specs.Notation as Notation
use Rattle.statefile.specs.Lines.{Found, wrong, found, Reader, return, onward, ◌>>=◌, line, counted, each}
use Rattle.statefile.specs.EachLaws.{after, each_more}

pub regroup : (a b c rest : List ℕ) → a ++ b ++ c ++ rest ≡ a ++ (b ++ (c ++ rest))
regroup a b c rest = append_assoc (a ++ b) c rest ∙ append_assoc a b (c ++ rest)

module _ {A B : Type 0} where
  pub rule-then : (rule : Rule A) (f : A → Rule B) {a : A} {s rest : List ℕ} → rule s ≡ parsed a rest → (rule >>=ʳ f) s ≡ f a rest
  unfolding Rules.onward ◌>>=ʳ◌
  rule-then rule f e = ap (λ (p : Parsed A). Rules.onward p f) e

  pub reader-then : (reader : Reader A) (f : A → Reader B) {a : A} {k j : ℕ} {s rest : List ℕ} → reader k s ≡ found a j rest → (reader >>= f) k s ≡ f a j rest
  unfolding onward ◌>>=◌
  reader-then reader f e = ap (λ (p : Found A). onward p f) e

  pub line-then : (rule : Rule A) (f : A → Reader B) {a : A} {k : ℕ} {s rest : List ℕ} → rule s ≡ parsed a rest → (line rule >>= f) k s ≡ f a (suc k) rest
  unfolding line
  line-then rule f {k = k} e = reader-then (line rule) f (ap (counted k) e)

-- one line more of so many of one form
module _ {A : Type 0} (rule : Rule A) (n k : ℕ) {a : A} {l : List A} {s t rest : List ℕ} where
  pub each_next : rule s ≡ parsed a t → each n rule (suc k) t ≡ found l (suc k + n) rest → each (suc n) rule k s ≡ found (a ∷ l) (k + suc n) rest
  each_next e f =
      let q : suc k + n ≡ k + suc n = omega arith in
      each_more rule n k s a t (sym e) ∙ ap (after (a ∷ [])) f ∙ ap (λ (i : ℕ). found (a ∷ l) i rest) q

module _ {A : Type 0} (a : A) (rest : List ℕ) where
  pub fixed_reads : (text : List ℕ) → fixed text a (text ++ rest) ≡ parsed a rest
  unfolding fixed Rules.return
  fixed_reads text = rule-then (literal text) _ (literal-reads text rest)

  module _ (rule : Rule A) where
    pub next-reads : (s : List ℕ) → rule s ≡ parsed a rest → next rule (bytes "," ++ s) ≡ parsed a rest
    unfolding next
    next-reads s e = rule-then (literal (bytes ",")) _ (literal-reads (bytes ",") s) ∙ e

    pub entry-reads : (key value : List ℕ) → rule (value ++ (line_end ++ rest)) ≡ parsed a (line_end ++ rest)
        → entry key rule (Notation.line key value ++ rest) ≡ parsed a rest
    unfolding entry Notation.line
    entry-reads key value e =
        ap (entry key rule) (regroup key value line_end rest)
        ∙ rule-then (literal key) _ (literal-reads key (value ++ (line_end ++ rest)))
        ∙ rule-then rule _ e
        ∙ fixed_reads line_end

-- ---- what was read

-- two answers told apart, and what equal ones hold
module _ {A : Type 0} where
  pub unfound : {a : A} {k j : ℕ} {rest : List ℕ} → wrong k ≡ found a j rest → ⊥
  unfound e = let z : ◌≡◌ {A = ℕ} 0 1 = cc in omega arith

  pub same-found : {a b : A} {k j : ℕ} {s rest : List ℕ} → found a k s ≡ found b j rest → a ≡ b
  same-found e = cc

-- what the first of two readers has read, and that the second has read on
pub record Split {A B : Type 0} (reader : Reader A) (f : A → Reader B) (k : ℕ) (s : List ℕ) (b : B) (j : ℕ) (rest : List ℕ) : Type 0 where
  pub value : A
  pub at : ℕ
  pub after : List ℕ
  pub first : reader k s ≡ found value at after
  pub second : f value at after ≡ found b j rest

pub split : {A B : Type 0} (reader : Reader A) (f : A → Reader B) {k : ℕ} {s : List ℕ} {b : B} {j : ℕ} {rest : List ℕ} → (reader >>= f) k s ≡ found b j rest
    → Split reader f k s b j rest
unfolding onward ◌>>=◌
split {A} {B} reader f {k} {s} {b} {j} {rest} e = go (reader k s) refl e
  where
    go : (p : Found A) → reader k s ≡ p → onward p f ≡ found b j rest → Split reader f k s b j rest
    go (wrong i) q e = absurd (unfound e)
    go (found a i t) q e = record { value = a; at = i; after = t; first = q; second = e }

pub line_read : {A : Type 0} (rule : Rule A) (k : ℕ) {s : List ℕ} {a : A} {j : ℕ} {rest : List ℕ} → line rule k s ≡ found a j rest → rule s ≡ parsed a rest
unfolding line
line_read {A} rule k {s} {a} {j} {rest} e = go (rule s) e
  where
    go : (p : Parsed A) → counted k p ≡ found a j rest → p ≡ parsed a rest
    go malformed e = absurd (unfound e)
    go (parsed b t) e = cc

abbrev pub Every : {A : Type 0} → (A → Type 0) → List A → Type 0
Every Has [] = Unit
Every Has (a ∷ l) = Has a × Every Has l

-- so many lines of one form give as many values, and each has what every value of such a line has
module _ {A : Type 0} (rule : Rule A) (Has : A → Type 0) (has : (s : List ℕ) (a : A) (rest : List ℕ) → rule s ≡ parsed a rest → Has a) where
  pub each_read : (n k : ℕ) (s : List ℕ) {l : List A} {j : ℕ} {rest : List ℕ} → each n rule k s ≡ found l j rest → (length l ≡ n) × Every Has l
  unfolding each return
  each_read zero k s e = subst (λ (l : List A). (length l ≡ 0) × Every Has l) (same-found e) (refl, tt)
  each_read (suc n) k s e =
      let a = split (line rule) _ e in
      let m = split (each n rule) _ a.second in
      let r = each_read n a.at a.after m.first in
      subst (λ (l : List A). (length l ≡ suc n) × Every Has l) (same-found m.second)
      (ap suc r.0, (has s a.value a.after (line_read rule k a.first), r.1))

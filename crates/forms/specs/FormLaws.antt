-- What was read by a rule that consists of two, and by a line (`split`, `entry_value`); what a line reads is within its bounds. Assumes nothing.
use Rattle.std.specs.Prelude.{◌≡◌, refl, List, ℕ, ◌^◌, ◌≤◌, ◌<◌}
use Rattle.std.proofs.Common.{subst, lit<}
use Rattle.text.specs.Text.{bytes, line_end}
use Rattle.text.specs.Rules.{Rule, Parsed, malformed, parsed, return, onward, ◌>>=◌, literal, fixed, decimal}
use Rattle.text.specs.ExactLaws.{unread, same-value, decimal-small}
use Rattle.forms.specs.Forms.{entry, most_elsewhere, draws_line, tips_line}

-- ---- two rules, and a line

-- what the first of two rules has read, and that the second has read on
pub record Split {A B : Type 0} (rule : Rule A) (f : A → Rule B) (s : List ℕ) (b : B) (rest : List ℕ) : Type 0 where
  pub value : A
  pub after : List ℕ
  pub first : rule s ≡ parsed value after
  pub second : f value after ≡ parsed b rest

pub split : {A B : Type 0} (rule : Rule A) (f : A → Rule B) (s : List ℕ) {b : B} {rest : List ℕ} → (rule >>= f) s ≡ parsed b rest → Split rule f s b rest
unfolding onward ◌>>=◌
split {A} {B} rule f s {b} {rest} e = go (rule s) refl e
  where
    go : (p : Parsed A) → rule s ≡ p → onward p f ≡ parsed b rest → Split rule f s b rest
    go malformed q e = absurd (unread e)
    go (parsed a r) q e = record { value = a; after = r; first = q; second = e }

-- where a rule has read a value
pub record Valued {A : Type 0} (rule : Rule A) (a : A) : Type 0 where
  pub start : List ℕ
  pub after : List ℕ
  pub is : rule start ≡ parsed a after

pub entry_value : {A : Type 0} (key : List ℕ) (rule : Rule A) (s : List ℕ) {a : A} {rest : List ℕ} → entry key rule s ≡ parsed a rest → Valued rule a
unfolding entry fixed return
entry_value key rule s e =
    let k = split (literal key) _ s e in
    let v = split rule _ k.after k.second in
    let l = split (literal line_end) _ v.after v.second in
    record { start = k.after; after = v.after; is = subst (λ a. rule k.after ≡ parsed a v.after) (same-value l.second) v.first }

-- ---- bounds

pub number_small : (key t : List ℕ) (limit n : ℕ) (rest : List ℕ) → limit < 2 ^ 64 → entry key (decimal limit) t ≡ parsed n rest → n ≤ limit
number_small key t limit n rest small e = let v = entry_value key (decimal limit) t e in decimal-small limit n v.start v.after small v.is

pub draws-small : (t : List ℕ) (n : ℕ) (rest : List ℕ) → draws_line t ≡ parsed n rest → n ≤ most_elsewhere
unfolding draws_line
draws-small t n rest e = number_small (bytes "draws=") t most_elsewhere n rest (lit< tt) e

pub tips-small : (t : List ℕ) (n : ℕ) (rest : List ℕ) → tips_line t ≡ parsed n rest → n ≤ most_elsewhere
unfolding tips_line
tips-small t n rest e = number_small (bytes "tips=") t most_elsewhere n rest (lit< tt) e

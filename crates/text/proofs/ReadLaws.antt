-- The ways through the readers: a byte (`byte_laws`), a fixed text, a table of digits (`table_laws`), a word (`word_laws`), a decimal number
-- (`decimal_laws`). In a loop, what its rule says of the text from its place on is what was asked (`whole`). Assumes nothing.
use mathlib.Core.Path.{◌≡◌, refl, sym, ap, subst, ◌∙◌}
use mathlib.Core.Bool.{Bool, true, false, cond, ◌&&◌}
use mathlib.Core.List.{List, [], ◌∷◌}
use Prim.Native.Nat.{ℕ, zero, suc, ◌+◌, ◌-◌, ◌*◌, ◌^◌, ◌≤◌, ◌<◌}
use native.Mathlib.Numerals.{add-one}
use native.Mathlib.Decide.{dec_lt, ℕ_discrete}
use native.Mathlib.Omega.{arith}
use native.Mathlib.Nat.{not-suc-le-zero, pow-le-pow_right}
use lib.Dec.{ltb, lit<}
use lib.Pow.{pow-add}
use lib.ListN.{length, length-take, take, drop, get_or, set, replicate, drop_of_length-le, length-set, length-drop, length-replicate, get_or-replicate}
use lib.Seq.{drop-cons, take_all, drop-drop, get_or-take, get_or-set_same, get_or-set_other}
use mir.Val.{Fits}
use mir.Syntax.{w64}
use borrow.Author.Rules.{Fits-under}
use borrow.Author.Tests.{eq-eqb, ne_eqb, le-leb, lt-leb, lt-ltb, le-ltb}
use Rattle.text.specs.Text.{digit}
use Rattle.text.specs.Rules.{Parsed, malformed, parsed, literal, is_decimal, value_of, hex_after, word, decimal_after, decimal}
use Rattle.text.specs.Places.{placed, numbered, DigitValues}
use Rattle.text.specs.DigitLaws.{decimal-within, value-decimal, digit_low, digit-high, value-digit, digit_value, value-le}
use lib.Dec.{eqb}
use denote.Ref.{Bor}
use mathlib.Core.Logic.{◌⊎◌, inl, inr}
use Rattle.std.specs.Option.{MatchOption, unwrap_or}
use Rattle.std.specs.List.{slice_range, starts_with}
use Rattle.std.specs.Prelude.{Option, Some, None}

-- the text from a place on, opened
next : (s : List ℕ) (i : ℕ) → i < length s → drop i s ≡ get_or s i 0 ∷ drop (i + 1) s
next s i h = rw add-one (drop-cons s i 0 h)

-- ---- a fixed text

module _ (s : List ℕ) (at b : ℕ) where
  pub byte-there : (x : ℕ) → at < length s → ((d : ℕ) → x ≡ get_or s at d) → x ≡ b → placed s (Some (at + 1)) ≡ literal (b ∷ []) (drop at s)
  unfolding literal
  byte-there x h g e = rw (next s at h, eq-eqb (get_or s at 0) b (sym (g 0) ∙ e))

  pub byte-other : (x : ℕ) → at < length s → ((d : ℕ) → x ≡ get_or s at d) → (x ≡ b → ⊥) → placed s None ≡ literal (b ∷ []) (drop at s)
  unfolding literal
  byte-other x h g e = rw (next s at h, ne_eqb (get_or s at 0) b (λ q. e (g 0 ∙ q)))

  pub byte_past : (r : Option ℕ) → length s ≤ at → r ≡ None → placed s r ≡ literal (b ∷ []) (drop at s)
  unfolding literal
  byte_past r h e = rw (e, drop_of_length-le s h)

pub ruleset byte_laws = (byte-there, byte-other, byte_past)

-- what is left of a text from a place on
from : (s : List ℕ) (at : ℕ) → slice_range s at (length s) ≡ drop at s
from s at = let h : length (drop at s) ≤ length s - at = rw length-drop (omega arith) in take_all (length s - at) (drop at s) h

pub from_there : (s : List ℕ) (at : ℕ) (o : Option (Bor (List ℕ))) (d x : Bor (List ℕ))
    → MatchOption o ((length s < at) ⊎ (length s < length s)) (λ x. (at ≤ length s) × (length s ≤ length s) × (x.now ≡ slice_range s at (length s)) × (length x.now + at ≡ length s))
    → d.now ≡ [] → x ≡ unwrap_or o d → x.now ≡ drop at s
from_there s at None d x m e r = ap (λ (y : Bor (List ℕ)). y.now) r ∙ e ∙ sym (elim m [ inl h ↦ drop_of_length-le s (omega arith) | inr h ↦ absurd (omega arith) ])
from_there s at (Some y) d x m e r = ap (λ (y : Bor (List ℕ)). y.now) r ∙ m.2 ∙ from s at

eqb_sym : (a b : ℕ) → eqb a b ≡ eqb b a
eqb_sym a b = elim (ℕ_discrete a b) [
  | yes e ↦ rw (eq-eqb a b e, eq-eqb b a (sym e))
  | no n ↦ rw (ne_eqb a b n, ne_eqb b a (λ q. n (sym q)))
]

literal-starts : (key t : List ℕ) → literal key t ≡ cond (starts_with eqb t key) (parsed tt (drop (length key) t)) malformed
unfolding literal
literal-starts [] t = refl
literal-starts (k ∷ ks) [] = refl
literal-starts (k ∷ ks) (b ∷ t) = rw (eqb_sym b k) (go (eqb k b) (starts_with eqb t ks) (parsed tt (drop (length ks) t)) (literal-starts ks t))
  where
    go : (e r : Bool) (q : Parsed Unit) {p : Parsed Unit} → p ≡ cond r q malformed → cond e p malformed ≡ cond (e && r) q malformed
    go true r q h = h
    go false r q h = refl

module _ (s key : List ℕ) (at : ℕ) (x : List ℕ) (b : Bool) (e : x ≡ drop at s) (h : b ≡ starts_with eqb x key) where
  pub literal-there : b ≡ true → placed s (Some (at + length key)) ≡ literal key (drop at s)
  literal-there t = rw (literal-starts key (drop at s), ← e, ← h, t, e, drop-drop) refl

  pub literal-other : b ≡ false → placed s None ≡ literal key (drop at s)
  literal-other t = rw (literal-starts key (drop at s), ← e, ← h, t)

-- ---- the table of digits

pub table-low : (d : ℕ) → d < 10 → 48 + d ≡ digit d
table-low d h = sym (digit_low d h)

pub table-high : (d : ℕ) → 10 ≤ d → 87 + d ≡ digit d
table-high d h = sym (digit-high d h)

-- the digits up to d are entered
unfoldable pub entered : ℕ → ℕ → ℕ
entered d b = cond (ltb (value_of b) d) (value_of b) 16

pub record Filled (d : ℕ) (l : List ℕ) : Type 0 where
  pub few : d ≤ 16
  pub long : length l ≡ 256
  pub right : (b : ℕ) → b < 256 → get_or l b 0 ≡ entered d b

pub filled_none : Filled 0 (replicate 256 16)
unfolding entered
filled_none = record { few = omega arith; long = length-replicate {A = ℕ} 256 16; right = λ b h. get_or-replicate 256 b 16 0 h ∙ sym (rw (le-ltb (value_of b) 0 (omega arith))) }

pub filled-all : (d : ℕ) (l : List ℕ) → Filled d l → 16 ≤ d → DigitValues l
unfolding entered
filled-all d l f h = record { long = f.long; right = λ b k. f.right b k ∙ top b (dec_lt (value_of b) d) }
  where
    top : (b : ℕ) → Dec (value_of b < d) → entered d b ≡ value_of b
    top b (yes t) = rw (lt-ltb (value_of b) d t)
    top b (no t) = let v = value-le b in rw (le-ltb (value_of b) d (omega arith)) (omega arith)

digit-byte : (d : ℕ) → d < 16 → digit d < 256
digit-byte d h = elim (dec_lt d 10) [
  | yes l ↦ rw (digit_low d l) (omega arith)
  | no l ↦ rw (digit-high d (omega arith)) (omega arith)
]

pub filled-room : (d b : ℕ) (l : List ℕ) → Filled d l → d < 16 → b ≡ digit d → b < length l
filled-room d b l f h e = let k = digit-byte d h in omega (arith, f.long)

pub filled_more : (d b : ℕ) (l : List ℕ) → Filled d l → d < 16 → b ≡ digit d → Filled (d + 1) (set l b d)
unfolding entered
filled_more d b l f h e = record { few = omega arith; long = length-set l b d ∙ f.long; right = λ x k. go x k (ℕ_discrete x b) }
  where
    go : (x : ℕ) → x < 256 → Dec (x ≡ b) → get_or (set l b d) x 0 ≡ entered (d + 1) x
    go x k (yes q) =
        let v : value_of x ≡ d = ap value_of (q ∙ e) ∙ value-digit d h in
        let r : b < length l = filled-room d b l f h e in
        ap (λ (y : ℕ). get_or (set l b d) y 0) q ∙ get_or-set_same l b d 0 r ∙ sym (rw (v, lt-ltb d (d + 1) (omega arith)))
    go x k (no q) = get_or-set_other l b x d 0 q ∙ f.right x k ∙ same (dec_lt (value_of x) d)
      where
        same : Dec (value_of x < d) → entered d x ≡ entered (d + 1) x
        same (yes t) = rw (lt-ltb (value_of x) d t, lt-ltb (value_of x) (d + 1) (omega arith))
        same (no t) =
            let a : value_of x ≡ d → ⊥ = λ u. q (sym (digit_value x (omega arith)) ∙ ap digit u ∙ sym e) in
            rw (le-ltb (value_of x) d (omega arith), le-ltb (value_of x) (d + 1) (omega arith))

pub value-entry : (b : ℕ) (l : List ℕ) → DigitValues l → b < 256 → get_or l b 0 ≡ value_of b
value-entry b l v h = v.right b h

pub value_room : (b : ℕ) (l : List ℕ) → DigitValues l → b < 256 → b < length l
value_room b l v h = omega (arith, v.long)

pub value-fits : (b : ℕ) (l : List ℕ) → DigitValues l → b < 256 → Fits w64 (get_or l b 0)
value-fits b l v h = let u = value-le b in let e = v.right b h in Fits-under w64 (get_or l b 0) 17 (omega arith) tt

pub ruleset table_laws = (table-low, table-high, filled_none, filled-all, filled-room, filled_more, value-entry, value_room, value-fits)

-- ---- a word

hex-few : (k n : ℕ) (s : List ℕ) → length s < k → hex_after k n s ≡ malformed
unfolding hex_after
hex-few zero n s h = absurd (not-suc-le-zero h)
hex-few (suc k) n [] h = refl
hex-few (suc k) n (b ∷ s) h = either (ltb (value_of b) 16) (hex-few k (n * 16 + value_of b) s (omega arith))
  where
    either : (t : Bool) {p : Parsed ℕ} → p ≡ malformed → cond t p malformed ≡ malformed
    either true e = e
    either false e = refl

pub word-past : (s : List ℕ) (at : ℕ) (r : Option (ℕ × ℕ)) → length s < at → r ≡ None → numbered s r ≡ word (drop at s)
word-past s at r h e = rw e (sym (hex-few 16 0 (drop at s) (rw length-drop (omega arith))))

pub word-few : (s x : List ℕ) (at : ℕ) (r : Option (ℕ × ℕ)) → x ≡ slice_range s at (length s) → length x < 16 → r ≡ None → numbered s r ≡ word (drop at s)
word-few s x at r q h e = let l : length (drop at s) < 16 = subst (λ (y : List ℕ). length y < 16) (q ∙ from s at) h in rw e (sym (hex-few 16 0 (drop at s) l))

-- of the text t the first 16 bytes are passed, of which k make n
pub record Hexing (t digits : List ℕ) (k n : ℕ) : Type 0 where
  pub is : digits ≡ take 16 t
  pub long : 16 ≤ length t
  pub few : k ≤ 16
  pub small : n < 16 ^ k
  pub rest : hex_after (16 - k) n (drop k t) ≡ word t

pub hex-none : (s x digits : List ℕ) (at : ℕ) → x ≡ slice_range s at (length s) → digits ≡ slice_range x 0 16 → 16 ≤ length x → Hexing (drop at s) digits 0 0
hex-none s x digits at q e h =
    let p = q ∙ from s at in
    record { is = e ∙ ap (take 16) p; long = subst (λ (y : List ℕ). 16 ≤ length y) p h; few = omega arith; small = lit< tt; rest = refl }

hex-room : (k n d : ℕ) → n < 16 ^ k → d < 16 → n * 16 + d < 16 ^ (k + 1)
hex-room k n d a b = let e : 16 ^ (k + 1) ≡ 16 ^ k * 16 = pow-add 16 k 1 in omega (arith, e)

pub hex-long : (t digits : List ℕ) (k n : ℕ) → Hexing t digits k n → length digits ≡ 16
hex-long t digits k n x = ap length x.is ∙ length-take 16 t ∙ omega (arith, x.long)

pub hex-end : (s digits : List ℕ) (at k n : ℕ) → Hexing (drop at s) digits k n → length digits ≤ k → numbered s (Some (n, (at + 16))) ≡ word (drop at s)
unfolding hex_after
hex-end s digits at k n x h =
    let l = hex-long (drop at s) digits k n x in
    let e : k ≡ 16 = omega (arith, x.few) in
    rw (← drop-drop) (rw e at x.rest)

module _ (t digits : List ℕ) (k n d : ℕ) (x : Hexing t digits k n) (h : k < length digits) (e : d ≡ value_of (get_or digits k 0)) where
  few : k < 16
  few = let l = hex-long t digits k n x in omega arith

  here : drop k t ≡ get_or t k 0 ∷ drop (k + 1) t
  here = next t k (let l = few in omega (arith, x.long))

  value-here : value_of (get_or t k 0) ≡ d
  value-here = let l = few in ap value_of (sym (get_or-take 16 t k 0 l) ∙ ap (λ (y : List ℕ). get_or y k 0) (sym x.is)) ∙ sym e

  left : 16 - k ≡ suc (16 - (k + 1))
  left = let l = few in omega arith

  pub hex-other : (s : List ℕ) → 16 ≤ d → numbered s None ≡ word t
  unfolding hex_after
  hex-other s g = rw (left, here, value-here, le-ltb d 16 g) at x.rest

  pub hex-more : d < 16 → Hexing t digits (k + 1) (n * 16 + d)
  unfolding hex_after
  hex-more g = let l = few in record { is = x.is; long = x.long; few = omega arith; small = hex-room k n d x.small g; rest = rw (left, here, value-here, lt-ltb d 16 g) at x.rest }

  pub hex-fits : d < 16 → Fits w64 (n * 16 + d)
  hex-fits g =
      let l = few in
      let a = hex-room k n d x.small g in
      let m : k + 1 ≤ 16 = omega arith in
      let b : 16 ^ (k + 1) ≤ 16 ^ 16 = pow-le-pow_right (lit< tt) m in
      Fits-under w64 (n * 16 + d) (16 ^ 16) (omega arith) tt

  pub hex-fits-less : d < 16 → Fits w64 (n * 16)
  hex-fits-less g = let a = hex-fits g in record { fits = omega (arith, a.fits) }

pub ruleset word_laws = (word-past, word-few, hex-none, hex-end, hex-other, hex-more, hex-fits, hex-fits-less)

-- ---- a decimal number

-- the digits before the place i make n
pub record Counting (limit : ℕ) (s : List ℕ) (i n : ℕ) (whole : Parsed ℕ) : Type 0 where
  pub small : n ≤ limit
  pub rest : decimal_after limit n (drop i s) ≡ whole

module _ (limit : ℕ) (s : List ℕ) (i n : ℕ) (whole : Parsed ℕ) (x : Counting limit s i n whole) where
  pub count-end : length s ≤ i → i ≤ length s → numbered s (Some (n, length s)) ≡ whole
  unfolding decimal_after
  count-end h k = let z : length s ≤ length s = omega arith in rw (drop_of_length-le s z) (rw (drop_of_length-le s h) at x.rest)

  module _ (t : Bool) (h : i < length s) (e : t ≡ is_decimal (get_or s i 0)) where
    pub count-stop : t ≡ false → numbered s (Some (n, i)) ≡ whole
    unfolding decimal_after
    count-stop f = rw (next s i h) (simp (next s i h, sym e ∙ f) at x.rest)

    pub count-digit : t ≡ true → 48 ≤ get_or s i 0
    count-digit f = (decimal-within (get_or s i 0) (sym e ∙ f)).0

    value : t ≡ true → value_of (get_or s i 0) ≡ get_or s i 0 - 48
    value f = let w = decimal-within (get_or s i 0) (sym e ∙ f) in value-decimal (get_or s i 0) w.0 w.1

    pub count-over : t ≡ true → limit < n * 10 + (get_or s i 0 - 48) → numbered s None ≡ whole
    unfolding decimal_after
    count-over f o = rw (next s i h, sym e ∙ f, value f, lt-leb (n * 10 + (get_or s i 0 - 48)) limit o) at x.rest

    pub count-more : t ≡ true → n * 10 + (get_or s i 0 - 48) ≤ limit → Counting limit s (i + 1) (n * 10 + (get_or s i 0 - 48)) whole
    unfolding decimal_after
    count-more f o = record { small = o; rest = rw (next s i h, sym e ∙ f, value f, le-leb (n * 10 + (get_or s i 0 - 48)) limit o) at x.rest }

module _ (limit : ℕ) (s : List ℕ) (at : ℕ) where
  pub decimal-past : (r : Option (ℕ × ℕ)) → length s ≤ at → r ≡ None → numbered s r ≡ decimal limit (drop at s)
  unfolding decimal
  decimal-past r h e = rw (e, drop_of_length-le s h)

  module _ (x : ℕ) (h : at < length s) (g : (d : ℕ) → x ≡ get_or s at d) where
    pub decimal-zero : x ≡ 48 → numbered s (Some (0, (at + 1))) ≡ decimal limit (drop at s)
    unfolding decimal
    decimal-zero z = rw (next s at h, eq-eqb (get_or s at 0) 48 (sym (g 0) ∙ z))

    module _ (t : Bool) (z : x ≡ 48 → ⊥) (e : t ≡ is_decimal x) where
      not-zero : get_or s at 0 ≡ 48 → ⊥
      not-zero q = z (g 0 ∙ q)

      test : is_decimal (get_or s at 0) ≡ t
      test = ap is_decimal (sym (g 0)) ∙ sym e

      pub decimal-other : t ≡ false → numbered s None ≡ decimal limit (drop at s)
      unfolding decimal
      decimal-other f = rw (next s at h, ne_eqb (get_or s at 0) 48 not-zero, test ∙ f)

      pub count_none : t ≡ true → Counting limit s at 0 (decimal limit (drop at s))
      unfolding decimal
      count_none f = record { small = omega arith; rest = sym (simp (next s at h, ne_eqb (get_or s at 0) 48 not-zero, test ∙ f)) }

pub ruleset decimal_laws = (decimal-past, decimal-zero, decimal-other, count_none, count-end, count-stop, count-digit, count-over, count-more)

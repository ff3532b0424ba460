-- Sums, differences, products and quotients keep the order of floats that are not negative: where the operands of one result bound those of
-- another, the results are in order, and the smaller is finite where the larger is (`add-le`, `sub-le`, `mul-le`, `div-le`). And a sum is not
-- below a value of the format that it adds to (`le-add`). All floats here are `unsigned`, and so are the results where they are finite
-- (`add-unsigned` to `div-unsigned`). Assumes nothing.
use Rattle.std.specs.Prelude.{◌≡◌, refl, Bool, true, false, ◌&&◌, ℕ, zero, suc, ◌+◌, ◌-◌, ◌*◌, ◌%◌, ◌^◌, ◌≤◌, ◌<◌, T, ltb, leb, eqb, ℤ, pos, negsuc, Float}
use Rattle.std.proofs.Common.{sym, ap, ◌∙◌, subst, true≢false, lt_irrefl, lt_of_lt_of_le, lt_of_le_of_lt, lt_of_not-le, le_of_suc-le-suc, le_of_eq, mul-one, mul_assoc, mul-le-mul, mul-le-mul_right, mul-pos, arith, ltb→lt, leb→le, lit<, le-ltb, ne_eqb, pow-add, pow_mono, shl_lt}
use Rattle.std.proofs.Math.Pow.{pow-lt}
use Rattle.std.specs.Float.{nan, inf, fin, binary64}
use Rattle.std.specs.Float.Ieee.{fits, up, down, round, sum, add, sub, mul, div, lt, le, of_bits}
use Rattle.std.specs.Float.Ieee.Digits.{back}
use Rattle.std.specs.Float.Ieee.Exact.{HasValue, round_exact}
use Rattle.std.specs.Float.Ieee.Fits.{down_pos, and_l, and_r}
use Rattle.std.specs.Float.Ieee.Order.{le_of_values, round_mono}
use Rattle.std.specs.Float.Ieee.Positive.{num, den, den_pos, first_pos}
use Rattle.std.specs.Float.Ieee.Scale.{finite, grid, round_val, round_under}
use Rattle.real.specs.Real as Real
use Rattle.real.specs.CrossLaws.{lt→less, le→most}
use Rattle.real.specs.OrderLaws as Order
use Rattle.real.specs.ProductLaws.{smaller-finite}

-- finite and without a minus sign: not -0.0
abbrev pub unsigned : Float → Bool
unsigned nan = false
unsigned (inf s) = false
unsigned (fin true m e) = false
unsigned (fin false m e) = true

-- an unsigned float is finite
pub unsigned-finite : (x : Float) → T (unsigned x) → T (finite x)
unsigned-finite nan h = h
unsigned-finite (inf s) h = h
unsigned-finite (fin s m e) h = tt

-- what equals a fraction and has no minus sign is unsigned
pub unsigned-of-value : (x : Float) (a c : ℕ) → HasValue x false a c → T (unsigned x)
unsigned-of-value nan a c h = h
unsigned-of-value (inf s) a c h = h
unsigned-of-value (fin true m e) a c h = true≢false h.0
unsigned-of-value (fin false m e) a c h = tt

own_value : (x : Float) → T (unsigned x) → HasValue x false (num x) (den x)
own_value nan h = h
own_value (inf s) h = h
own_value (fin true m e) h = absurd h
own_value (fin false m e) h = (refl, refl)

-- the order is that of the fractions
le→cross : (x y : Float) → T (unsigned x) → T (unsigned y) → T (le x y) → num x * den y ≤ num y * den x
le→cross nan y X Y h = absurd X
le→cross (inf s) y X Y h = absurd X
le→cross (fin true m e) y X Y h = absurd X
le→cross (fin false m e) nan X Y h = absurd Y
le→cross (fin false m e) (inf t) X Y h = absurd Y
le→cross (fin false m e) (fin true n d) X Y h = absurd Y
le→cross (fin false m e) (fin false n d) X Y h = let g = le→most (fin false m e) (fin false n d) tt tt h in omega (arith, g)

-- zero is at most an unsigned float
pub zero-le : (x : Float) → T (unsigned x) → T (le Real.zero x)
unfolding of_bits
zero-le x X = le_of_values Real.zero x 0 1 (num x) (den x) (lit< tt) (den_pos x) (refl, refl) (own_value x X) (omega arith)

-- a float above zero has a numerator above zero
pub over_zero : (x : Float) → T (unsigned x) → T (lt Real.zero x) → 0 < num x
unfolding of_bits
over_zero nan X h = absurd X
over_zero (inf s) X h = absurd X
over_zero (fin true m e) X h = absurd X
over_zero (fin false m e) X h = let g = lt→less Real.zero (fin false m e) tt tt h in omega (arith, g)

-- ---- a rounded fraction

-- a rounded fraction without a minus sign has none
pub rounded-unsigned : (a c : ℕ) → T (finite (round binary64 false a c)) → T (unsigned (round binary64 false a c))
rounded-unsigned a c h = unsigned-of-value (round binary64 false a c) (grid binary64 a c) (2 ^ 1074) (round_val binary64 a c (round_under binary64 a c h))

-- x is unsigned, and at most y
pub record AtMost (x y : Float) : Type 0 where
  pub held : T (unsigned x)
  pub most : T (le x y)

-- a / c is at most b / d
rounded-at-most : (x y : Float) (a c b d : ℕ) → x ≡ round binary64 false a c → y ≡ round binary64 false b d → 0 < c → 0 < d → a * d ≤ b * c → T (unsigned y) → AtMost x y
rounded-at-most x y a c b d i j C D h Y =
    let F : T (finite (round binary64 false a c)) = smaller-finite false false a c b d C D h (rw (← j) (unsigned-finite y Y)) in
    record { held = rw i (rounded-unsigned a c F); most = rw (i, j) (round_mono binary64 a c b d C D h) }

-- ---- what each operation rounds

add_is : (x y : Float) → T (unsigned x) → T (unsigned y) → add binary64 x y ≡ round binary64 false (num x * den y + num y * den x) (den x * den y)
unfolding add sum
add_is nan y X Y = absurd X
add_is (inf s) y X Y = absurd X
add_is (fin true m e) y X Y = absurd X
add_is (fin false m e) nan X Y = absurd Y
add_is (fin false m e) (inf t) X Y = absurd Y
add_is (fin false m e) (fin true n d) X Y = absurd Y
add_is (fin false m e) (fin false n d) X Y = refl

taken : (a b c : ℕ) → b ≤ a → sum binary64 false a true b c ≡ round binary64 false (a - b) c
unfolding sum
taken a b c h = rw (le-ltb a b h)

sub-opened : (m : ℕ) (e : ℤ) (n : ℕ) (d : ℤ) → sub binary64 (fin false m e) (fin false n d) ≡ sum binary64 false (m * up e * down d) true (n * up d * down e) (down e * down d)
unfolding sub
sub-opened m e n d = refl

sub_is : (x y : Float) → T (unsigned x) → T (unsigned y) → num y * den x ≤ num x * den y → sub binary64 x y ≡ round binary64 false (num x * den y - num y * den x) (den x * den y)
sub_is nan y X Y h = absurd X
sub_is (inf s) y X Y h = absurd X
sub_is (fin true m e) y X Y h = absurd X
sub_is (fin false m e) nan X Y h = absurd Y
sub_is (fin false m e) (inf t) X Y h = absurd Y
sub_is (fin false m e) (fin true n d) X Y h = absurd Y
sub_is (fin false m e) (fin false n d) X Y h = sub-opened m e n d ∙ taken (m * up e * down d) (n * up d * down e) (down e * down d) h

mul_is : (x y : Float) → T (unsigned x) → T (unsigned y) → mul binary64 x y ≡ round binary64 false (num x * num y) (den x * den y)
unfolding mul
mul_is nan y X Y = absurd X
mul_is (inf s) y X Y = absurd X
mul_is (fin true m e) y X Y = absurd X
mul_is (fin false m e) nan X Y = absurd Y
mul_is (fin false m e) (inf t) X Y = absurd Y
mul_is (fin false m e) (fin true n d) X Y = absurd Y
mul_is (fin false m e) (fin false n d) X Y = refl

div_is : (x y : Float) → T (unsigned x) → T (unsigned y) → 0 < num y → div binary64 x y ≡ round binary64 false (num x * den y) (num y * den x)
unfolding div
div_is nan y X Y h = absurd X
div_is (inf s) y X Y h = absurd X
div_is (fin true m e) y X Y h = absurd X
div_is (fin false m e) nan X Y h = absurd Y
div_is (fin false m e) (inf t) X Y h = absurd Y
div_is (fin false m e) (fin true n d) X Y h = absurd Y
div_is (fin false m e) (fin false n d) X Y h = rw (ne_eqb n 0 (λ z. let g = first_pos n (up d) h in omega (arith, g, z)))

-- ---- results have no minus sign

module _ (x y : Float) (X : T (unsigned x)) (Y : T (unsigned y)) where
  -- a finite sum has none
  pub add-unsigned : T (finite (add binary64 x y)) → T (unsigned (add binary64 x y))
  add-unsigned = rw (add_is x y X Y) (rounded-unsigned (num x * den y + num y * den x) (den x * den y))

  -- nor a difference from which no more is taken than there is
  pub sub-unsigned : T (le y x) → T (finite (sub binary64 x y)) → T (unsigned (sub binary64 x y))
  sub-unsigned h = rw (sub_is x y X Y (le→cross y x Y X h)) (rounded-unsigned (num x * den y - num y * den x) (den x * den y))

  -- nor a product
  pub mul-unsigned : T (finite (mul binary64 x y)) → T (unsigned (mul binary64 x y))
  mul-unsigned = rw (mul_is x y X Y) (rounded-unsigned (num x * num y) (den x * den y))

  -- nor a quotient by a float above zero
  pub div-unsigned : T (lt Real.zero y) → T (finite (div binary64 x y)) → T (unsigned (div binary64 x y))
  div-unsigned h = rw (div_is x y X Y (over_zero y Y h)) (rounded-unsigned (num x * den y) (num y * den x))

-- ---- the order of the fractions, x / d ≤ x' / d' and y / e ≤ y' / e', or y' / e' ≤ y / e

module _ (x d x' d' y e y' e' : ℕ) (h : x * d' ≤ x' * d) where
  add-cross : y * e' ≤ y' * e → (x * e + y * d) * (d' * e') ≤ (x' * e' + y' * d') * (d * e)
  add-cross k = let g = mul-le-mul_right (e * e') h in let l = mul-le-mul_right (d * d') k in omega (arith, g, l)

  mul-cross : y * e' ≤ y' * e → x * y * (d' * e') ≤ x' * y' * (d * e)
  mul-cross k = let g = mul-le-mul h k in omega (arith, g)

  div-cross : y' * e ≤ y * e' → x * e * (y' * d') ≤ x' * e' * (y * d)
  div-cross k = let g = mul-le-mul h k in omega (arith, g)

  -- a and b are the differences
  less-cross : (a b : ℕ) → y' * e ≤ y * e' → a + y * d ≡ x * e → b + y' * d' ≡ x' * e' → a * (d' * e') ≤ b * (d * e)
  less-cross a b k i j =
      let g = mul-le-mul_right (e * e') h in
      let l = mul-le-mul_right (d * d') k in
      let p = ap (λ (z : ℕ). z * (d' * e')) i in
      let q = ap (λ (z : ℕ). z * (d * e)) j in
      omega (arith, g, l, p, q)

-- ---- the operations

module _ (x x' y y' : Float) (X : T (unsigned x)) (X' : T (unsigned x')) (Y : T (unsigned y)) (Y' : T (unsigned y')) (h : T (le x x')) where
  -- a sum grows with both
  pub add-le : T (le y y') → T (unsigned (add binary64 x' y')) → AtMost (add binary64 x y) (add binary64 x' y')
  add-le k Z =
      rounded-at-most _ _ _ _ _ _ (add_is x y X Y) (add_is x' y' X' Y') (mul-pos (den_pos x) (den_pos y)) (mul-pos (den_pos x') (den_pos y'))
      (add-cross (num x) (den x) (num x') (den x') (num y) (den y) (num y') (den y') (le→cross x x' X X' h) (le→cross y y' Y Y' k)) Z

  -- a product grows with both
  pub mul-le : T (le y y') → T (unsigned (mul binary64 x' y')) → AtMost (mul binary64 x y) (mul binary64 x' y')
  mul-le k Z =
      rounded-at-most _ _ _ _ _ _ (mul_is x y X Y) (mul_is x' y' X' Y') (mul-pos (den_pos x) (den_pos y)) (mul-pos (den_pos x') (den_pos y'))
      (mul-cross (num x) (den x) (num x') (den x') (num y) (den y) (num y') (den y') (le→cross x x' X X' h) (le→cross y y' Y Y' k)) Z

  -- a difference grows with what it is taken from, and falls with what is taken
  pub sub-le : T (le y' y) → T (le y x) → T (unsigned (sub binary64 x' y')) → AtMost (sub binary64 x y) (sub binary64 x' y')
  sub-le k l Z =
      let F = unsigned-finite in
      let g : T (le y' x) = Order.le_trans y' y x (F y' Y') (F y Y) (F x X) k l in
      let p = le→cross y x Y X l in
      let q = le→cross y' x' Y' X' (Order.le_trans y' x x' (F y' Y') (F x X) (F x' X') g h) in
      rounded-at-most _ _ _ _ _ _ (sub_is x y X Y p) (sub_is x' y' X' Y' q) (mul-pos (den_pos x) (den_pos y)) (mul-pos (den_pos x') (den_pos y'))
      (less-cross (num x) (den x) (num x') (den x') (num y) (den y) (num y') (den y') (le→cross x x' X X' h) _ _ (le→cross y' y Y' Y k) (back _ _ p) (back _ _ q)) Z

  -- a quotient grows with what is divided, and falls with the divisor
  pub div-le : T (le y' y) → T (lt Real.zero y') → T (unsigned (div binary64 x' y')) → AtMost (div binary64 x y) (div binary64 x' y')
  div-le k l Z =
      let N' : 0 < num y' = over_zero y' Y' l in
      let c = le→cross y' y Y' Y k in
      let N : 0 < num y = first_pos (num y) (den y') (lt_of_lt_of_le (mul-pos N' (den_pos y)) c) in
      rounded-at-most _ _ _ _ _ _ (div_is x y X Y N) (div_is x' y' X' Y' N') (mul-pos N (den_pos x)) (mul-pos N' (den_pos x'))
      (div-cross (num x) (den x) (num x') (den x') (num y) (den y) (num y') (den y') (le→cross x x' X X' h) c) Z

-- ---- what is added to

pow_le_back : (a l : ℕ) → 2 ^ a ≤ 2 ^ l → a ≤ l
pow_le_back a l h = le_of_suc-le-suc (lt_of_not-le (λ (g : suc l ≤ a). lt_irrefl (2 ^ l) (lt_of_lt_of_le (pow-lt g) h)))

-- m * 2 ^ e is m * 2 ^ at of the format's smallest values
record Place (m : ℕ) (e : ℤ) : Type 0 where
  at : ℕ
  small : m * 2 ^ at < 2 ^ 2098
  exact : m * up e * 2 ^ 1074 ≡ m * 2 ^ at * down e

place : (m : ℕ) (e : ℤ) → m < 2 ^ 53 → down e ≤ 2 ^ 1074 → m * up e < 2 ^ 1024 * down e → Place m e
place m (pos a) S L B = record {
  at = a + 1074;
  small = lt_of_le_of_lt (le_of_eq (ap (λ (z : ℕ). m * z) (pow-add 2 a 1074) ∙ sym (mul_assoc m (2 ^ a) (2 ^ 1074)))) (shl_lt 1024 1074 (subst (λ (z : ℕ). m * 2 ^ a < z) (mul-one (2 ^ 1024)) B));
  exact = mul_assoc m (2 ^ a) (2 ^ 1074) ∙ ap (λ (z : ℕ). m * z) (sym (pow-add 2 a 1074)) ∙ sym (mul-one (m * 2 ^ (a + 1074)));
}
place m (negsuc a) S L B =
    let g : suc a ≤ 1074 = pow_le_back (suc a) 1074 L in
    record {
      at = 1074 - suc a;
      small = lt_of_lt_of_le (shl_lt 53 (1074 - suc a) S) (pow_mono {j = 2098} (omega (arith, g)));
      exact = ap (λ (z : ℕ). z * 2 ^ 1074) (mul-one m) ∙ ap (λ (z : ℕ). m * z) (ap (λ (z : ℕ). 2 ^ z) (sym (back 1074 (suc a) g)) ∙ pow-add 2 (1074 - suc a) (suc a)) ∙ sym (mul_assoc m (2 ^ (1074 - suc a)) (2 ^ suc a));
    }

nothing : (u d g : ℕ) → 0 * u * g ≡ 0 * 1 * d
nothing u d g = omega arith

-- a value of the format, rounded, keeps its value
round-own : (x : Float) → T (fits binary64 x) → T (unsigned x) → HasValue (round binary64 false (num x) (den x)) false (num x) (den x)
unfolding fits
round-own nan F X = absurd X
round-own (inf s) F X = absurd X
round-own (fin true m e) F X = absurd X
round-own (fin false zero e) F X = round_exact binary64 false (0 * up e) (down e) 0 0 (down_pos e) (lit< tt) (lit< tt) (nothing (up e) (down e) (2 ^ 1074))
round-own (fin false (suc m) e) F X =
    let o = eqb (suc m % 2) 1 in
    let p = ltb (suc m) (2 ^ 53) in
    let q = leb (down e) (2 ^ 1074) in
    let r = ltb (suc m * up e) (2 ^ 1024 * down e) in
    let l = and_l (o && p && q) r F in
    let S = ltb→lt (suc m) (2 ^ 53) (and_r o p (and_l (o && p) q l)) in
    let k = place (suc m) e S (leb→le (down e) (2 ^ 1074) (and_r (o && p) q l)) (ltb→lt (suc m * up e) (2 ^ 1024 * down e) (and_r (o && p && q) r F)) in
    round_exact binary64 false (suc m * up e) (down e) (suc m) k.at (down_pos e) S k.small k.exact

-- a sum is not below a value of the format that it adds to
pub le-add : (x y : Float) → T (fits binary64 x) → T (unsigned x) → T (unsigned y) → T (unsigned (add binary64 x y)) → T (le x (add binary64 x y))
le-add x y F X Y Z =
    let v = round-own x F X in
    let w = round binary64 false (num x) (den x) in
    let W : T (finite w) = unsigned-finite w (unsigned-of-value w (num x) (den x) v) in
    Order.le_trans x w (add binary64 x y) (unsigned-finite x X) W (unsigned-finite (add binary64 x y) Z)
    (le_of_values x w (num x) (den x) (num x) (den x) (den_pos x) (den_pos x) (own_value x X) v (omega arith))
    (rw (add_is x y X Y) (round_mono binary64 (num x) (den x) (num x * den y + num y * den x) (den x * den y) (den_pos x) (mul-pos (den_pos x) (den_pos y)) (omega arith)))

-- The sum and the difference of two floats are those of the fractions that they equal (`add-sum`, `sub-sum`): how the fractions are written does
-- not matter (`sum_same`). Assumes nothing.
use Rattle.std.specs.Prelude.{◌≡◌, ℕ, ◌+◌, ◌-◌, ◌*◌, ◌<◌, Bool, true, false, not, ltb, nat_lt, refl, Float}
use Rattle.std.proofs.Common.{sym, ◌∙◌, add-mul, mul_comm, mul_right_comm, mul-pos, mul-lt-mul_of_pos_right, mul-le-mul_right, lt_of_mul-lt-mul_right, le_of_mul-le-mul_right, lt-ltb, le-ltb, ltb-true, ltb-false}
use Rattle.std.proofs.Math.Path.{ap}
use Rattle.std.proofs.Math.Nat.{mul-sub, mul_assoc}
use Rattle.std.specs.Float.Ieee.{nan, binary64, down, sum, add, sub, neg}
use Rattle.std.specs.Float.{inf, fin}
use Rattle.std.specs.Float.Ieee.Exact.{HasValue}
use Rattle.std.specs.Float.Ieee.Fits.{down_pos}
use Rattle.std.specs.Float.Ieee.Scale.{round_same}

sub-mul : (n m k : ℕ) → (n - m) * k ≡ n * k - m * k
sub-mul n m k = mul_comm (n - m) k ∙ mul-sub k n m ∙ rw (mul_comm k n, mul_comm k m)

-- A / D is a / c, and B / D is b / c
module _ (A B D a b c : ℕ) (P : 0 < D) (p : 0 < c) (i : A * c ≡ a * D) (j : B * c ≡ b * D) where
  same-order : ltb A B ≡ nat_lt a b
  same-order = go (nat_lt a b) refl
    where
      go : (o : Bool) → nat_lt a b ≡ o → nat_lt A B ≡ o
      go true e = lt-ltb A B (lt_of_mul-lt-mul_right c (rw (i, j) (mul-lt-mul_of_pos_right (ltb-true a b e) P)))
      go false e = le-ltb A B (le_of_mul-le-mul_right (rw (i, j) (mul-le-mul_right D (ltb-false a b e))) p)

  same_sum : (A + B) * c ≡ (a + b) * D
  same_sum = add-mul A B c ∙ rw (i, j) (sym (add-mul a b D))

  same-difference : (A - B) * c ≡ (a - b) * D
  same-difference = sub-mul A B c ∙ rw (i, j) (sym (sub-mul a b D))

module _ (s t : Bool) (A B D a b c : ℕ) (P : 0 < D) (p : 0 < c) (i : A * c ≡ a * D) (j : B * c ≡ b * D) where
  sum_same : sum binary64 s A t B D ≡ sum binary64 s a t b c
  unfolding sum
  sum_same =
      rw (
        same-order A B D a b c P p i j,
        same-order B A D b a c P p j i,
        round_same binary64 s (A + B) D (a + b) c P p (same_sum A B D a b c P p i j),
        round_same binary64 t (B - A) D (b - a) c P p (same-difference B A D b a c P p j i),
        round_same binary64 _ (A - B) D (a - b) c P p (same-difference A B D a b c P p i j),
      )

module _ (a b c : ℕ) (p : 0 < c) where
  pub add-sum : (s t : Bool) (x y : Float) → HasValue x s a c → HasValue y t b c → add binary64 x y ≡ sum binary64 s a t b c
  unfolding add
  add-sum s t nan y v w = absurd v
  add-sum s t (inf r) y v w = absurd v
  add-sum s t (fin r m e) nan v w = absurd w
  add-sum s t (fin r m e) (inf q) v w = absurd w
  add-sum s t (fin r m e) (fin q n d) v w =
      rw (v.0, w.0)
      (sum_same s t _ _ _ a b c (mul-pos (down_pos e) (down_pos d)) p
      (mul_right_comm _ (down d) c ∙ ap (λ (z : ℕ). z * down d) v.1 ∙ mul_assoc a (down e) (down d))
      (mul_right_comm _ (down e) c ∙ ap (λ (z : ℕ). z * down e) w.1 ∙ mul_assoc b (down d) (down e) ∙ ap (λ (z : ℕ). b * z) (mul_comm (down d) (down e))))

  negated : (t : Bool) (y : Float) → HasValue y t b c → HasValue (neg y) (not t) b c
  unfolding neg
  negated t nan w = w
  negated t (inf q) w = w
  negated t (fin q n d) w = (ap not w.0, w.1)

  pub sub-sum : (s t : Bool) (x y : Float) → HasValue x s a c → HasValue y t b c → sub binary64 x y ≡ sum binary64 s a (not t) b c
  unfolding sub
  sub-sum s t x y v w = add-sum s (not t) x (neg y) v (negated t y w)

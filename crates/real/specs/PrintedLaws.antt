-- Laws of printed ages: an age that is printed is finite, and is printed by its whole thousandths (`printable-finite`, `printed-is`); an older age
-- never prints younger (`printed-order`); and a printed age is below 2 ^ 43 * 1000 thousandths (`printed-few`). Assumes nothing.
use Rattle.std.specs.Prelude.{◌≡◌, Bool, cond, not, ◌&&◌, ℕ, ◌+◌, ◌*◌, ◌^◌, ◌≤◌, ◌<◌, Float, Some, None}
use Rattle.std.proofs.Math.Path.{refl}
use Rattle.std.proofs.Common.{sym, subst, le_trans, le_of_eq, lt_of_lt_of_le, mul_right_comm, mul-le-mul_right, mul-lt-mul_of_pos_right, div-lt_iff_lt-mul, lit<}
use Rattle.std.proofs.Math.Bool.{true, false}
use Rattle.std.proofs.Math.Nat.{zero-mul}
use native.Mathlib.Omega.{arith}
use Rattle.std.proofs.Math.Dec.{T}
use Rattle.std.specs.Float.Ieee.{nan, lt, le, of_bits}
use Rattle.std.specs.Float.{inf, fin}
use Rattle.std.specs.Float.Ieee.Nearest.{div_mono}
use Rattle.std.specs.Float.Ieee.Positive.{num, den, den_pos}
use Rattle.std.specs.Float.Ieee.Scale.{finite}
use Rattle.real.specs.Real.{zero}
use Rattle.real.specs.Printed.{print_limit, Printable, thousandths_of, printed_of}
use Rattle.real.specs.CrossLaws.{over, under, Most, lt→less, le→most, nlt→most}

-- ---- what is printed

pub printable-finite : (x : Float) → T (not (lt x zero)) → T (lt x print_limit) → T (finite x)
unfolding lt of_bits
printable-finite nan h k = absurd k
printable-finite (inf true) h k = absurd h
printable-finite (inf false) h k = absurd k
printable-finite (fin s m e) h k = tt

pub zero-finite : T (finite zero)
unfolding of_bits
zero-finite = tt

pub limit-finite : T (finite print_limit)
unfolding of_bits
limit-finite = tt

pub printed-is : (x : Float) (c : ℕ) → printed_of x ≡ Some c → (c ≡ thousandths_of x) × Printable x
unfolding printed_of
printed-is x c e = go (lt x zero) (lt x print_limit) (λ h. h) (λ h. h) e
  where
    go : (a b : Bool) → (T (not a) → T (not (lt x zero))) → (T b → T (lt x print_limit))
        → cond (not a && b) (Some (thousandths_of x)) None ≡ Some c → (c ≡ thousandths_of x) × Printable x
    go true b l h e = absurd (let z : ◌≡◌ {A = ℕ} 0 1 = cc in omega arith)
    go false true l h e = let z : thousandths_of x ≡ c = cc in (sym z, record { low = l tt; high = h tt })
    go false false l h e = absurd (let z : ◌≡◌ {A = ℕ} 0 1 = cc in omega arith)

-- ---- its size, as a fraction

module _ (x : Float) (P : Printable x) where
  number : T (finite x)
  number = printable-finite x P.low P.high

  under_none : under x ≡ 0
  unfolding of_bits
  under_none = go x number P.low
    where
      go : (x : Float) → T (finite x) → T (not (lt x zero)) → under x ≡ 0
      go nan h k = absurd h
      go (inf s) h k = absurd h
      go (fin false m e) h k = refl
      go (fin true m e) h k =
          let z : Most (fin false 0 (lib.IntN.pos 0)) (fin true m e) = nlt→most (fin true m e) (fin false 0 (lib.IntN.pos 0)) h tt k in
          omega arith

  over-num : over x ≡ num x
  over-num = go x number under_none
    where
      go : (x : Float) → T (finite x) → under x ≡ 0 → over x ≡ num x
      go nan h e = absurd h
      go (inf s) h e = absurd h
      go (fin false m e) h k = refl
      go (fin true m e) h k = sym k

  thousandths-few : thousandths_of x < 2 ^ 43 * 1000
  unfolding thousandths_of of_bits
  thousandths-few =
      let u = under_none in
      let o = over-num in
      let m : over x * 1 + 0 * den x < 8796093022208 * den x + under x * 1 = lt→less x print_limit number limit-finite P.high in
      let z = zero-mul (den x) in
      let g : num x < 8796093022208 * den x = omega arith in
      (div-lt_iff_lt-mul (den_pos x)).1
      (lt_of_lt_of_le (mul-lt-mul_of_pos_right {k = 1000} g (lit< tt)) (le_of_eq (mul_right_comm 8796093022208 (den x) 1000)))

thousandths-order : (x y : Float) → Printable x → Printable y → T (le x y) → thousandths_of x ≤ thousandths_of y
unfolding thousandths_of
thousandths-order x y P Q h =
    let a = under_none x P in
    let b = under_none y Q in
    let c = over-num x P in
    let d = over-num y Q in
    let m : over x * den y + under y * den x ≤ over y * den x + under x * den y = le→most x y (number x P) (number y Q) h in
    let n : num x * den y + 0 * den x ≤ num y * den x + 0 * den y = rw (c, d) at (rw (a, b) at m) in
    let u = zero-mul (den x) in
    let w = zero-mul (den y) in
    let g : num x * den y ≤ num y * den x = omega arith in
    div_mono (num x * 1000) (den x) (num y * 1000) (den y) (den_pos x) (den_pos y)
    (le_trans (le_of_eq (mul_right_comm (num x) 1000 (den y))) (le_trans (mul-le-mul_right 1000 g) (le_of_eq (mul_right_comm (num y) (den x) 1000))))

-- ---- printed ages

module _ (x : Float) (a : ℕ) (p : printed_of x ≡ Some a) where
  pub printed-few : a < 2 ^ 43 * 1000
  printed-few = let e = printed-is x a p in subst (λ (c : ℕ). c < 2 ^ 43 * 1000) (sym e.0) (thousandths-few x e.1)

  pub printed-order : (y : Float) (b : ℕ) → printed_of y ≡ Some b → T (le x y) → a ≤ b
  printed-order y b q h =
      let e = printed-is x a p in
      let f = printed-is y b q in
      let g = thousandths-order x y e.1 f.1 h in
      let i = e.0 in
      let j = f.0 in
      omega (arith, g, i, j)

-- Programs of draws, and what it is to run one with a limited number of draws. A program is data, so a law shown by induction on programs
-- holds for every call that is defined by one. Definitions only; the laws are in DrawLaws. Assumes nothing.
use Rattle.std.specs.Prelude.{ℕ, zero, suc, ◌+◌, ◌*◌, ◌/◌, ◌%◌, ◌^◌, Bool, cond, not, ◌&&◌, ◌==◌, nat_le, nat_lt, Float, Option, Some, None}
use Rattle.random.specs.Generator.{word_of, next, uniform_of, first_side}
use Rattle.random.specs.declared.Random.{Random}
use Rattle.random.specs.declared.Supply.{Supply}

-- ---- programs

-- A drawn number: one draw's word; a number drawn again until a test holds; a number worked out of another.
pub data Number : Type 0 where
  word : Number
  until : (ℕ → Bool) → Number → Number
  map : (ℕ → ℕ) → Number → Number

-- A program that gives an A: nothing drawn and a given; or a number drawn, and then the program that it chooses.
pub data Draw (A : Type 0) : Type 0 where
  return : A → Draw A
  draws : Number → (ℕ → Draw A) → Draw A

unfoldable pub draw : Number → Draw ℕ
draw d = draws d return

-- one program, and then the one that its value chooses
infixl 20 ◌>>=◌
unfoldable pub ◌>>=◌ : {A B : Type 0} → Draw A → (A → Draw B) → Draw B
return a >>= f = f a
draws d g >>= f = draws d (λ k. g k >>= f)

-- ---- the primitives

unfoldable pub uniform : Draw Float
uniform = draws word (λ w. return (uniform_of w))

unfoldable pub coin : Draw Bool
coin = draws word (λ w. return (first_side w))

-- "when the low word is under 2^64 mod n it draws again"; for an n of 0 there is no number to take
abbrev pub fair_low : ℕ → ℕ → Bool
fair_low n low = nat_lt 0 n && nat_le (2 ^ 64 % n) low

unfoldable pub fair : ℕ → ℕ → Bool
fair n w = fair_low n (w * n % 2 ^ 64)

-- "the high word of draw times n"
unfoldable pub below : ℕ → Number
below n = map (λ w. w * n / 2 ^ 64) (until (fair n) word)

-- a number that is base more than one below n, and not the other one
unfoldable pub below_other : ℕ → ℕ → ℕ → Number
below_other n base other = until (λ k. not (k == other)) (map (λ k. base + k) (below n))

-- ---- running a program from a supply: a generator with the draws that are left to it

abbrev pub supply_of : Random → ℕ → Supply
supply_of g left = record { random = g; left = left }

-- more draws are needed than are left; or a value, and the supply after it
pub data Drawn (A : Type 0) : Type 0 where
  spent : Drawn A
  got : A → Supply → Drawn A

-- what follows a value that was drawn
unfoldable pub onward : {A B : Type 0} → Drawn A → (A → Supply → Drawn B) → Drawn B
onward spent f = spent
onward (got a s) f = f a s

-- one draw, from a generator with so many left
unfoldable pub word_from : ℕ → Random → Drawn ℕ
word_from zero g = spent
word_from (suc left) g = got (word_of g) (supply_of (next g) left)

-- the first number that passes, among at most so many
unfoldable pub until_from : ℕ → (ℕ → Bool) → (Supply → Drawn ℕ) → Supply → Drawn ℕ
until_from zero test d s = spent
until_from (suc tries) test d s = onward (d s) (λ k u. cond (test k) (got k u) (until_from tries test d u))

-- A number takes a draw or more, so there are no more tries than draws left.
unfoldable pub pick : Number → Supply → Drawn ℕ
pick word s = word_from s.left s.random
pick (until test d) s = until_from s.left test (pick d) s
pick (map f d) s = onward (pick d s) (λ k u. got (f k) u)

unfoldable pub run : {A : Type 0} → Draw A → Supply → Drawn A
run (return a) s = got a s
run (draws d f) s = onward (pick d s) (λ k u. run (f k) u)

-- ---- the limits of a call's parameters

-- "n of `below` 1 to 2^32"
abbrev pub countable : ℕ → Bool
countable n = nat_le 1 n && nat_le n (2 ^ 32)

-- "allowance 1 to 65,535"
abbrev pub allowed : ℕ → Bool
allowed allowance = nat_le 1 allowance && nat_le allowance 65535

-- ---- what the code hands back for a drawn value: nothing where the draws are spent

abbrev pub drawn : {A : Type 0} → Drawn A → Option (A × Supply)
drawn spent = None
drawn (got a s) = Some (a, s)

-- The tokens: the ways through the code of a byte (`byte_laws`), of a number (`number_laws`), and of a branch and a tip (`token_laws`). Assumes nothing.
use mathlib.Core.Path.{◌≡◌, refl, sym, ap, ◌∙◌, subst}
use mathlib.Core.Bool.{Bool, true, false, cond, false≢true}
use mathlib.Core.List.{List}
use Prim.Native.Nat.{ℕ, zero, suc, ◌+◌, ◌-◌, ◌^◌, ◌≤◌, ◌<◌}
use native.Mathlib.Omega.{arith}
use native.Mathlib.Decide.{ℕ_discrete, dec_lt}
use native.Mathlib.Numerals.{add-one}
use lib.Dec.{eqb}
use lib.ListN.{length, get_or}
use borrow.Author.Tests.{lt-ltb, le-ltb, ne_eqb, eqb-true}
use Rattle.text.specs.Rules.{is_decimal}
use Rattle.text.specs.DigitLaws.{decimal-within, decimal-is}
use Rattle.newick_spell.specs.Spelling.{spelling_of}
use Rattle.newick_spell.specs.Spots.{Spot, Sub, Zero, Name, Colon, Nought, Whole, Point, Tenths, Hundredths, Branch, To, Stuck, only, on_digit, next_spot, end_of}
use Rattle.newick_spell.specs.Stands.{Stands}
use Rattle.newick_spell.specs.Tokens.{is_here, is_sign, is_digit, stopped, Digits, Skips, NumberTo, nought, more, NumberFrom, Waits, AtPoint, AtColon, AtTip, Lands, Ends}
use Rattle.newick_spell.proofs.TurnLaws.{ends_here, stops-here, turn_on}
use Rattle.std.specs.Prelude.{Result, Ok, Err}
use Rattle.newick_spell.specs.declared.Misspelling.TheVariants as Misspellings

-- ---- a byte

module _ (s : List ℕ) (at : ℕ) where
  pub here_in : at < length s → (t u : Bool) → t ≡ u → t ≡ is_here s at u
  unfolding is_here
  here_in h t u e = rw (lt-ltb at (length s) h) e

  pub here-past : length s ≤ at → (t : Bool) → false ≡ is_here s at t
  unfolding is_here
  here-past h t = rw (le-ltb at (length s) h)

  pub stop-in : at < length s → Err (Misspellings.Forbidden at) ≡ stopped s at
  unfolding stopped
  stop-in h = rw (lt-ltb at (length s) h)

  pub stop-past : length s ≤ at → (Err Misspellings.Unfinished) ≡ stopped s at
  unfolding stopped
  stop-past h = rw (le-ltb at (length s) h)

  pub here-inside : (t : Bool) → is_here s at t ≡ true → (at < length s) × (t ≡ true)
  here-inside t e = go (dec_lt at (length s))
    where
      go : Dec (at < length s) → (at < length s) × (t ≡ true)
      go (yes h) = (h, here_in h t t refl ∙ e)
      go (no h) = absurd (false≢true (here-past (omega arith) t ∙ e))

  here-not : (t : Bool) → is_here s at t ≡ false → at < length s → t ≡ false
  here-not t e h = here_in h t t refl ∙ e

  -- a test of the code
  module _ (t u : Bool) (e : u ≡ is_here s at t) (f : u ≡ true) where
    tested : at < length s
    tested = (here-inside t (sym e ∙ f)).0

    pub room_next : length s < 2 ^ 64 → at + 1 < 2 ^ 64
    room_next h = let k : at < length s = tested in omega arith

    pub less-next : length s - (at + 1) < length s - at
    less-next = let k : at < length s = tested in omega arith

pub ruleset byte_laws = (here_in, here-past, stop-in, stop-past, room_next, less-next)

-- ---- a byte that leads on, or none

module _ (s : List ℕ) (at : ℕ) (p : Spot) (d : ℕ) (side : Bool) (l : List Bool) (S : Stands s at p d side l) where
  broken : end_of p ≡ (Err Misspellings.Unfinished) → (at < length s → next_spot p side (eqb d 0) (get_or s at 0) ≡ Stuck) → stopped s at ≡ spelling_of s
  broken z e = go (dec_lt at (length s))
    where
      go : Dec (at < length s) → stopped s at ≡ spelling_of s
      go (yes h) = sym (stop-in s at h) ∙ stops-here s at p d side l S h (e h)
      go (no h) = sym (stop-past s at (omega arith)) ∙ sym z ∙ ends_here s at p d side l S (omega arith)

module _ (s : List ℕ) (at : ℕ) (t : Bool) (led : Spot) (d : ℕ) (side : Bool) (l : List Bool) (W : Waits s at t led d side l) where
  led-to : is_here s at t ≡ true → next_spot W.spot side (eqb d 0) (get_or s at 0) ≡ To led
  led-to e = let h = here-inside s at t e in W.leads h.0 ∙ ap (λ (u : Bool). only u led) h.1

  takes : is_here s at t ≡ true → 44 < get_or s at 0 → Stands s (at + 1) led d side l
  takes e b = turn_on s at W.spot d side l W.stands (here-inside s at t e).0 led (led-to e) b

  pub breaks : is_here s at t ≡ false → stopped s at ≡ spelling_of s
  breaks e = broken s at W.spot d side l W.stands W.short (λ h. W.leads h ∙ ap (λ (u : Bool). only u led) (here-not s at t e h))

-- a sign behind the comma
pub takes-sign : (s : List ℕ) (at c : ℕ) (led : Spot) (d : ℕ) (side : Bool) (l : List Bool) → 44 < c → Waits s at (eqb (get_or s at 0) c) led d side l
    → is_sign s at c ≡ true → Stands s (at + 1) led d side l
takes-sign s at c led d side l h W e =
    let z : get_or s at 0 ≡ c = eqb-true (get_or s at 0) c (here-inside s at (eqb (get_or s at 0) c) e).1 in
    takes s at (eqb (get_or s at 0) c) led d side l W e (omega arith)

-- a digit
takes-digit : (s : List ℕ) (at : ℕ) (led : Spot) (d : ℕ) (side : Bool) (l : List Bool) → Waits s at (is_decimal (get_or s at 0)) led d side l
    → is_digit s at ≡ true → Stands s (at + 1) led d side l
takes-digit s at led d side l W e =
    let z = (decimal-within (get_or s at 0) (here-inside s at (is_decimal (get_or s at 0)) e).1).0 in
    takes s at (is_decimal (get_or s at 0)) led d side l W e (omega arith)

-- ---- the ways through the code of a number

module _ (s : List ℕ) (from : ℕ) where
  pub digits-none : Digits s from from
  digits-none = record { place = omega arith; each = λ i a b. absurd (omega arith) }

  module _ (at : ℕ) (D : Digits s from at) (u : Bool) (e : u ≡ is_digit s at) where
    pub digits_more : u ≡ true → Digits s from (at + 1)
    digits_more f = let g = D.place in record { place = omega arith; each = λ i a b. go i a b (ℕ_discrete i at) }
      where
        go : (i : ℕ) → from ≤ i → i < at + 1 → Dec (i ≡ at) → is_digit s i ≡ true
        go i a b (yes q) = ap (is_digit s) q ∙ sym e ∙ f
        go i a b (no q) = D.each i a (omega arith)

    pub digits-end : u ≡ false → Skips s from at
    digits-end f = record { digits = D; ends = sym e ∙ f }

module _ (s : List ℕ) (at : ℕ) where
  module _ (u : Bool) (e : u ≡ is_sign s at 48) where
    pub number-nought : u ≡ true → NumberFrom s at (Ok (at + 1))
    number-nought f = nought (sym e ∙ f) refl

    pub number_more : u ≡ false → (v : Bool) → v ≡ is_digit s at → v ≡ true → (to : ℕ) → Skips s (at + 1) to → NumberFrom s at (Ok to)
    number_more f v g h to K = more (sym e ∙ f) (sym g ∙ h) K

  pub number-not : (v : Bool) → v ≡ is_digit s at → v ≡ false → NumberFrom s at (Err at)
  number-not v g h = (refl, sym g ∙ h)

pub ruleset number_laws = (digits-none, digits_more, digits-end, number-nought, number_more, number-not)

-- ---- a number

-- of the spots in it, z is behind a 0 and n behind another digit, and sign c leads out of it
record Numeral (z n : Spot) (c : ℕ) (led : Spot) : Type 0 where
  zero-on : (side over : Bool) (b : ℕ) → next_spot z side over b ≡ only (eqb b c) led
  more-on : (side over : Bool) (b : ℕ) → next_spot n side over b ≡ cond (eqb b c) (To led) (on_digit b n)
  zero-short : end_of z ≡ (Err Misspellings.Unfinished)
  more-short : end_of n ≡ (Err Misspellings.Unfinished)
  other : (b : ℕ) → is_decimal b ≡ true → eqb b c ≡ false

name-numeral : Numeral Zero Name 58 Colon
unfolding next_spot
name-numeral = record {
  zero-on = λ side over b. refl;
  more-on = λ side over b. refl;
  zero-short = refl;
  more-short = refl;
  other = λ b e. let h = (decimal-within b e).1 in ne_eqb b 58 (λ q. omega arith);
}

whole-numeral : Numeral Nought Whole 46 Point
unfolding next_spot
whole-numeral = record {
  zero-on = λ side over b. refl;
  more-on = λ side over b. refl;
  zero-short = refl;
  more-short = refl;
  other = λ b e. let h = (decimal-within b e).0 in ne_eqb b 46 (λ q. omega arith);
}

module _ (z n : Spot) (c : ℕ) (led : Spot) (N : Numeral z n c led) (s : List ℕ) (d : ℕ) (side : Bool) (l : List Bool) where
  next-digit : (at : ℕ) → is_digit s at ≡ true → Stands s at n d side l → Stands s (at + 1) n d side l
  next-digit at e S = takes-digit s at n d side l (record {
    spot = n;
    stands = S;
    leads = λ h.
        let b = get_or s at 0 in
        N.more-on side (eqb d 0) b ∙ ap (λ (u : Bool). cond u (To led) (on_digit b n)) (N.other b (here-inside s at (is_decimal b) e).1);
    short = N.more-short;
  }) e

  along : (from to : ℕ) → Digits s from to → Stands s from n d side l → Stands s to n d side l
  along from zero D S = let h = D.place in let e : from ≡ 0 = omega arith in subst (λ (i : ℕ). Stands s i n d side l) e S
  along from (suc to) D S = go (ℕ_discrete from (suc to)) (along from to)
    where
      go : Dec (from ≡ suc to) → (Digits s from to → Stands s from n d side l → Stands s to n d side l) → Stands s (suc to) n d side l
      go (yes e) before = subst (λ (i : ℕ). Stands s i n d side l) e S
      go (no e) before =
          let h = D.place in
          let T = before (record { place = omega arith; each = λ i a b. D.each i a (omega arith) }) S in
          subst (λ (i : ℕ). Stands s i n d side l) (add-one to) (next-digit to (D.each to (omega arith) (omega arith)) T)

  -- what an answer says of the way from a place on, where a number begins
  abbrev Leaves : ℕ → Result ℕ ℕ → Type 0
  Leaves at (Ok e) = (at < e) × Waits s e (eqb (get_or s e 0) c) led d side l
  Leaves at (Err x) = stopped s x ≡ spelling_of s

  module _ (at : ℕ) (p : Spot) (S : Stands s at p d side l) (short : end_of p ≡ (Err Misspellings.Unfinished))
      (begin : at < length s → next_spot p side (eqb d 0) (get_or s at 0) ≡ cond (eqb (get_or s at 0) 48) (To z) (on_digit (get_or s at 0) n)) where
    behind-first : (t : Bool) → eqb (get_or s at 0) 48 ≡ t → is_digit s at ≡ true → Stands s (at + 1) (cond t z n) d side l
    behind-first t e f =
        let b = get_or s at 0 in
        let h = here-inside s at (is_decimal b) f in
        let w = (decimal-within b h.1).0 in
        turn_on s at p d side l S h.0 (cond t z n) (begin h.0 ∙ (λ i. cond (e i) (To z) (only (h.1 i) n)) ∙ by t) (omega arith)
      where
        by : (t : Bool) → cond t (To z) (To n) ≡ To (cond t z n)
        by true = refl
        by false = refl

    number-to : (e : ℕ) → NumberTo s at e → (at < e) × Waits s e (eqb (get_or s e 0) c) led d side l
    number-to e (nought f q) =
        let b = get_or s at 0 in
        let h = here-inside s at (eqb b 48) f in
        let k : b ≡ 48 = eqb-true b 48 h.1 in
        let D : is_digit s at ≡ true = sym (here_in s at h.0 true (is_decimal b) (sym (decimal-is b (omega arith) (omega arith)))) in (
          omega arith,
          record {
            spot = z;
            stands = subst (λ (i : ℕ). Stands s i z d side l) (sym q) (behind-first true h.1 D);
            leads = λ g. N.zero-on side (eqb d 0) (get_or s e 0);
            short = N.zero-short;
          },
        )
    number-to e (more f g K) =
        let b = get_or s at 0 in
        let h = here-inside s at (is_decimal b) g in
        let j = K.digits.place in (
          omega arith,
          record {
            spot = n;
            stands = along (at + 1) e K.digits (behind-first false (here-not s at (eqb b 48) f h.0) g);
            leads = λ k.
                let y = get_or s e 0 in
                N.more-on side (eqb d 0) y ∙ ap (λ (t : Bool). cond (eqb y c) (To led) (only t n)) (here-not s e (is_decimal y) K.ends k);
            short = N.more-short;
          },
        )

    number-leaves : (r : Result ℕ ℕ) → NumberFrom s at r → Leaves at r
    number-leaves (Ok e) K = number-to e K
    number-leaves (Err x) K = ap (stopped s) K.0 ∙ broken s at p d side l S short (λ h. begin h ∙ neither h)
      where
        neither : at < length s → cond (eqb (get_or s at 0) 48) (To z) (on_digit (get_or s at 0) n) ≡ Stuck
        neither h =
            let b = get_or s at 0 in
            let e : is_decimal b ≡ false = here-not s at (is_decimal b) K.1 h in
            let k : b ≡ 48 → ⊥ = λ q. false≢true (sym e ∙ decimal-is b (omega arith) (omega arith)) in
            (λ i. cond (ne_eqb b 48 k i) (To z) (only (e i) n))

-- ---- the ways through the code of a branch and a tip

module _ (s : List ℕ) where
  later : (i j d : ℕ) (side : Bool) (l : List Bool) (r : Result ℕ ℕ) → i ≤ j → Lands s j r d side l → Lands s i r d side l
  later i j d side l (Ok e) h L = let k = L.0 in (omega arith, L.1)
  later i j d side l (Err x) h L = L

  digit-waits : (at : ℕ) (p led : Spot) (d : ℕ) (side : Bool) (l : List Bool) → ((b : ℕ) → next_spot p side (eqb d 0) b ≡ on_digit b led)
      → end_of p ≡ (Err Misspellings.Unfinished) → Stands s at p d side l → Waits s at (is_decimal (get_or s at 0)) led d side l
  digit-waits at p led d side l e z S = record { spot = p; stands = S; leads = λ h. e (get_or s at 0); short = z }

  module _ (at : ℕ) where
    module _ (u : Bool) (e : u ≡ is_digit s at) where
      pub decimals-none : u ≡ false → Ends s at (Err at) (Stands s at Point)
      unfolding next_spot
      decimals-none f = λ d side l S.
          breaks s at (is_decimal (get_or s at 0)) Tenths d side l (digit-waits at Point Tenths d side l (λ b. refl) refl S) (sym e ∙ f)

      one-decimal : u ≡ true → (d : ℕ) (side : Bool) (l : List Bool) → Stands s at Point d side l
          → Waits s (at + 1) (is_decimal (get_or s (at + 1) 0)) Hundredths d side l
      unfolding next_spot
      one-decimal f d side l S = digit-waits (at + 1) Tenths Hundredths d side l (λ b. refl) refl
          (takes-digit s at Tenths d side l (digit-waits at Point Tenths d side l (λ b. refl) refl S) (sym e ∙ f))

      module _ (f : u ≡ true) (v : Bool) (g : v ≡ is_digit s (at + 1)) where
        pub decimals-one : v ≡ false → Ends s at (Err (at + 1)) (Stands s at Point)
        decimals-one k = λ d side l S. breaks s (at + 1) (is_decimal (get_or s (at + 1) 0)) Hundredths d side l (one-decimal f d side l S) (sym g ∙ k)

        two_decimals : v ≡ true → (d : ℕ) (side : Bool) (l : List Bool) → Stands s at Point d side l
            → Waits s (at + 1 + 1) (is_decimal (get_or s (at + 1 + 1) 0)) Branch d side l
        unfolding next_spot
        two_decimals k d side l S = digit-waits (at + 1 + 1) Hundredths Branch d side l (λ b. refl) refl
            (takes-digit s (at + 1) Hundredths d side l (one-decimal f d side l S) (sym g ∙ k))

        module _ (k : v ≡ true) (w : Bool) (m : w ≡ is_digit s (at + 1 + 1)) where
          pub decimals-two : w ≡ false → Ends s at (Err (at + 1 + 1)) (Stands s at Point)
          decimals-two j = λ d side l S.
              breaks s (at + 1 + 1) (is_decimal (get_or s (at + 1 + 1) 0)) Branch d side l (two_decimals k d side l S) (sym m ∙ j)

          pub decimals-all : w ≡ true → Ends s at (Ok (at + 1 + 1 + 1)) (Stands s at Point)
          decimals-all j = λ d side l S. (omega arith, takes-digit s (at + 1 + 1) Branch d side l (two_decimals k d side l S) (sym m ∙ j))

    module _ (u : Bool) (e : u ≡ is_sign s at 46) where
      pub fraction-not : u ≡ false → Ends s at (Err at) (AtPoint s at)
      fraction-not f = λ d side l W. breaks s at (eqb (get_or s at 0) 46) Point d side l W (sym e ∙ f)

      pub fraction-on : u ≡ true → (r : Result ℕ ℕ) → Ends s (at + 1) r (Stands s (at + 1) Point) → Ends s at r (AtPoint s at)
      fraction-on f r E = λ d side l W.
          later at (at + 1) d side l r (omega arith) (E d side l (takes-sign s at 46 Point d side l (omega arith) W (sym e ∙ f)))

    module _ (u : Bool) (e : u ≡ is_sign s at 58) where
      pub branch-not : u ≡ false → Ends s at (Err at) (AtColon s at)
      branch-not f = λ d side l W. breaks s at (eqb (get_or s at 0) 58) Colon d side l W (sym e ∙ f)

      pub branch-on : u ≡ true → (r : Result ℕ ℕ) → Ends s (at + 1) r (Stands s (at + 1) Colon) → Ends s at r (AtColon s at)
      branch-on f r E = λ d side l W.
          later at (at + 1) d side l r (omega arith) (E d side l (takes-sign s at 58 Colon d side l (omega arith) W (sym e ∙ f)))

    module _ (r : Result ℕ ℕ) (K : NumberFrom s at r) where
      length-leaves : (d : ℕ) (side : Bool) (l : List Bool) → Stands s at Colon d side l → Leaves Nought Whole 46 Point whole-numeral s d side l at r
      unfolding next_spot
      length-leaves d side l S = number-leaves Nought Whole 46 Point whole-numeral s d side l at Colon S refl (λ h. refl) r K

      tip-leaves : (d : ℕ) (side : Bool) (l : List Bool) → AtTip s at d side l → Leaves Zero Name 58 Colon name-numeral s d side l at r
      unfolding next_spot
      tip-leaves d side l A = number-leaves Zero Name 58 Colon name-numeral s d side l at Sub A.stands refl
          (λ h. rw (here-not s at (eqb (get_or s at 0) 40) A.other h)) r K

      module _ (e : ℕ) (q : r ≡ Ok e) (x : Result ℕ ℕ) where
        pub length-on : Ends s e x (AtPoint s e) → Ends s at x (Stands s at Colon)
        length-on E = λ d side l S.
            let L = subst (Leaves Nought Whole 46 Point whole-numeral s d side l at) q (length-leaves d side l S) in
            let k : at < e = L.0 in
            later at e d side l x (omega arith) (E d side l L.1)

        pub tip-on : Ends s e x (AtColon s e) → Ends s at x (AtTip s at)
        tip-on E = λ d side l A.
            let L = subst (Leaves Zero Name 58 Colon name-numeral s d side l at) q (tip-leaves d side l A) in
            let k : at < e = L.0 in
            later at e d side l x (omega arith) (E d side l L.1)

      module _ (x : ℕ) (q : r ≡ Err x) where
        pub length-not : Ends s at (Err x) (Stands s at Colon)
        length-not = λ d side l S. subst (Leaves Nought Whole 46 Point whole-numeral s d side l at) q (length-leaves d side l S)

        pub tip-not : Ends s at (Err x) (AtTip s at)
        tip-not = λ d side l A. subst (Leaves Zero Name 58 Colon name-numeral s d side l at) q (tip-leaves d side l A)

pub ruleset token_laws = (decimals-none, decimals-one, decimals-two, decimals-all, fraction-not, fraction-on, branch-not, branch-on, length-on, length-not, tip-on, tip-not)

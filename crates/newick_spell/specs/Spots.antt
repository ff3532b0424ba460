-- The spelling without values: where a reader stands, where a byte leads it, and what the end of a text tells there. Definitions only. Assumes nothing.
use Rattle.std.specs.Prelude.{Bool, cond, ℕ, eqb, Result, Ok, Err}
use Rattle.text.specs.Rules.{is_decimal}
use Rattle.newick.specs.Newick.{Mode, start, sub, name, made, colon, whole, point, tenths, hundredths, branch, done, Step, stuck, to, sign}
use Rattle.newick_spell.specs.declared.Misspelling.TheVariants as Misspellings
use Rattle.newick_spell.specs.declared.Misspelling.{Misspelling}

-- where a reader stands, as Newick.antt has it without the values: but in a number that is 0, as Zero in a name and Nought in a length, where no digit may
-- follow
pub data Spot : Type 0 where
  Start : Spot
  Sub : Spot
  Zero : Spot
  Name : Spot
  Made : Spot
  Colon : Spot
  Nought : Spot
  Whole : Spot
  Point : Spot
  Tenths : Spot
  Hundredths : Spot
  Branch : Spot
  Done : Spot

-- where a byte leads
pub data Led : Type 0 where
  To : Spot → Led
  Stuck : Led

abbrev pub only : Bool → Spot → Led
only test spot = cond test (To spot) Stuck

abbrev pub on_digit : ℕ → Spot → Led
on_digit b spot = only (is_decimal b) spot

-- where byte b leads, by whether the innermost open parenthesis is at its second subtree, and whether none is open
unfoldable pub next_spot : Spot → Bool → Bool → ℕ → Led
next_spot Start side over b = only (eqb b (sign "(")) Sub
next_spot Sub side over b = cond (eqb b (sign "(")) (To Sub) (cond (eqb b (sign "0")) (To Zero) (on_digit b Name))
next_spot Zero side over b = only (eqb b (sign ":")) Colon
next_spot Name side over b = cond (eqb b (sign ":")) (To Colon) (on_digit b Name)
next_spot Made side over b = cond over (only (eqb b (sign ";")) Done) (only (eqb b (sign ":")) Colon)
next_spot Colon side over b = cond (eqb b (sign "0")) (To Nought) (on_digit b Whole)
next_spot Nought side over b = only (eqb b (sign ".")) Point
next_spot Whole side over b = cond (eqb b (sign ".")) (To Point) (on_digit b Whole)
next_spot Point side over b = on_digit b Tenths
next_spot Tenths side over b = on_digit b Hundredths
next_spot Hundredths side over b = on_digit b Branch
next_spot Branch side over b = cond side (only (eqb b (sign ")")) Made) (only (eqb b (sign ",")) Sub)
next_spot Done side over b = Stuck

-- ---- of a reader with values

abbrev pub spot_of : Mode → Spot
spot_of start = Start
spot_of sub = Sub
spot_of (name k) = cond (eqb k 0) Zero Name
spot_of (made t) = Made
spot_of (colon t) = Colon
spot_of (whole t w) = cond (eqb w 0) Nought Whole
spot_of (point t w) = Point
spot_of (tenths t w) = Tenths
spot_of (hundredths t w) = Hundredths
spot_of (branch t x) = Branch
spot_of (done t) = Done

abbrev pub led_by : Step → Led
led_by stuck = Stuck
led_by (to m fs) = To (spot_of m)

-- ---- at the end of a text

abbrev pub end_of : Spot → Result (Unit {0}) Misspelling
end_of Start = (Err Misspellings.Unfinished)
end_of Sub = (Err Misspellings.Unfinished)
end_of Zero = (Err Misspellings.Unfinished)
end_of Name = (Err Misspellings.Unfinished)
end_of Made = (Err Misspellings.Unfinished)
end_of Colon = (Err Misspellings.Unfinished)
end_of Nought = (Err Misspellings.Unfinished)
end_of Whole = (Err Misspellings.Unfinished)
end_of Point = (Err Misspellings.Unfinished)
end_of Tenths = (Err Misspellings.Unfinished)
end_of Hundredths = (Err Misspellings.Unfinished)
end_of Branch = (Err Misspellings.Unfinished)
end_of Done = (Ok tt)

-- Copies and readings as rows of three statements on the definitions: what the writer leaves (`copy-rows`), what texts say and the reader leaves (`read-rows`), and
-- the places of faults (`place-rows`). Assumes nothing.
use Rattle.std.specs.Prelude.{◌≡◌, refl, List, [], ◌∷◌, ◌++◌, ℕ, replicate, Float, Ok, Err}
use Prim.Native.String.{String}
use Rattle.std.specs.Float.{binary64}
use Rattle.std.specs.Float.Ieee.{of_bits, lt, le, eq}
use Rattle.answer.specs.declared.Refusal.TheVariants.{Size, Parameter}
use Rattle.real.specs.Real as Real
use Rattle.real.specs.Printed.{printed_of, thousandths_of}
use Rattle.tree.specs.Tree.{Tree, no_node, parent, height, subtree}
use Rattle.tree.specs.Bounded.{every}
use Rattle.tree.specs.New.{validated, judged, scanned, scan, visit, then_adopt, adopt, joined, roots, agree, misdated, lowest}
use Rattle.text.specs.Text.{bytes, digit, decimal_in}
use Rattle.newick.specs.Newick.{tip, join, number_text, text, whole_text, step, run}
use Rattle.newick.specs.Numbering.{joins, times, node_of, pairs_in, pairs_read, reach, ages_in, ages_read}
use Rattle.newick.specs.Reading.{acceptable, faulty, says, reading}
use Rattle.newick.specs.Copies.{aged, ages_of, dated_at, copied, placed, copy_call, taken, read_call, inners_in, up_from, Closing}
use Rattle.newick.specs.declared.CopyError.TheVariants as CopyErrors
use Rattle.newick.specs.declared.ReadError.TheVariants as ReadErrors

-- ---- trees

abbrev none : List ℕ
none = no_node ∷ no_node ∷ []

-- tree F of document 01
abbrev F : Tree
F = record {
  pairs = none ++ none ++ none ++ (0 ∷ 1 ∷ 3 ∷ 2 ∷ []);
  parents = 3 ∷ 3 ∷ 4 ∷ 4 ∷ no_node ∷ [];
  heights = Real.zero ∷ Real.zero ∷ Real.zero ∷ of_bits binary64 0x3ff0_0000_0000_0000 ∷ of_bits binary64 0x4000_0000_0000_0000 ∷ [];
  root = 4;
}

-- two tips under a root, of these heights
abbrev pair : Float → Float → Float → Tree
pair a b r = record { pairs = none ++ none ++ (0 ∷ 1 ∷ []); parents = 2 ∷ 2 ∷ no_node ∷ []; heights = a ∷ b ∷ r ∷ []; root = 2 }

-- 0.9998, 2.0004, 2^43, and the number before that
abbrev almost_one : Float
almost_one = of_bits binary64 0x3fef_fe5c_91d1_4e3c

abbrev just_two : Float
just_two = of_bits binary64 0x4000_00d1_b717_58e2

abbrev limit : Float
limit = of_bits binary64 0x42a0_0000_0000_0000

abbrev before_limit : Float
before_limit = of_bits binary64 0x429f_ffff_ffff_ffff

-- ---- the writer

pub record CopyRows : Type 0 where
  -- "F is `((0:1.000,1:1.000):1.000,2:2.000);`", and what is behind it in the slice stays
  pub whole : copy_call F (replicate 36 7) ≡ copied (Ok 34) (bytes "((0:1.000,1:1.000):1.000,2:2.000);" ++ (7 ∷ 7 ∷ []))
  pub exact : copy_call F (replicate 34 7) ≡ copied (Ok 34) (bytes "((0:1.000,1:1.000):1.000,2:2.000);")
  pub short : copy_call F (replicate 33 7) ≡ copied (Err CopyErrors.Room) (replicate 33 7)
  -- printed ages 2.000 and 0.999, whose difference is not that of the heights as it would print
  pub dated : copy_call (pair almost_one Real.zero just_two) (replicate 18 7) ≡ copied (Ok 18) (bytes "(0:1.001,1:2.000);")
  -- "An age of 2^43 or more is a 5", before a 10; the number before it prints
  pub old : copy_call (pair Real.zero Real.zero limit) [] ≡ copied (Err (CopyErrors.Refused (Parameter 0))) []
  pub oldest : ages_of (before_limit ∷ []) ≡ aged (8796093022207999 ∷ [])
  -- and after 1 to 4
  pub size : copy_call (record { pairs = []; parents = []; heights = limit ∷ []; root = 0 }) [] ≡ copied (Err (CopyErrors.Refused (Size 0))) []

pub copy-rows : CopyRows
unfolding copy_call placed ages_of printed_of thousandths_of dated_at whole_text text number_text decimal_in digit validated judged scanned scan visit then_adopt adopt joined roots agree
    misdated lowest subtree parent height lt le eq of_bits
copy-rows = record { whole = refl; exact = refl; short = refl; dated = refl; old = refl; oldest = refl; size = refl }

-- ---- the reader

pub record ReadRows : Type 0 where
  -- "internal nodes numbered in the order their parentheses close": 4 over 0 and 1, 5 over 2 and 3, then the root; what is behind them in the slices stays
  pub pairs : read_call (bytes "((0:1.000,1:1.000):1.000,(2:1.500,3:0.500):0.250);") (replicate 15 7) (replicate 8 7)
      ≡ taken (Ok 7) (none ++ none ++ none ++ none ++ (0 ∷ 1 ∷ 2 ∷ 3 ∷ 4 ∷ 5 ∷ 7 ∷ [])) (0 ∷ 0 ∷ 250 ∷ 1250 ∷ 1000 ∷ 1750 ∷ 2000 ∷ 7 ∷ [])
  -- "above the youngest tip"
  pub ages : read_call (bytes "(0:1.000,1:1.999);") (replicate 6 7) (replicate 3 7) ≡ taken (Ok 3) (none ++ none ++ (0 ∷ 1 ∷ [])) (999 ∷ 0 ∷ 1999 ∷ [])
  -- F's copy, which is numbered so, comes back with its pairs
  pub closing : Closing 5 F
  pub own : read_call (bytes "((0:1.000,1:1.000):1.000,2:2.000);") (replicate 10 7) (replicate 5 7)
      ≡ taken (Ok 5) F.pairs (0 ∷ 0 ∷ 0 ∷ 1000 ∷ 2000 ∷ [])
  -- 10 where either slice is one short, "after 9"
  pub short_pairs : read_call (bytes "(0:1.000,1:1.999);") (replicate 5 7) (replicate 3 7) ≡ taken (Err ReadErrors.Room) (replicate 5 7) (replicate 3 7)
  pub short_ages : read_call (bytes "(0:1.000,1:1.999);") (replicate 6 7) (replicate 2 7) ≡ taken (Err ReadErrors.Room) (replicate 6 7) (replicate 2 7)
  pub faulty_first : read_call (bytes "(0:1.000,0:1.999);") [] [] ≡ taken (Err (ReadErrors.Place 18)) [] []
  -- "root age below 2^53 thousandths"
  pub oldest : reading (bytes "(0:9007199254740.991,1:0.000);") ≡ says (join (tip 0) 9007199254740991 (tip 1) 0)
  pub too_old : reading (bytes "(0:9007199254740.992,1:0.000);") ≡ faulty 30

pub read-rows : ReadRows
unfolding read_call reading run step acceptable every joins times node_of pairs_in pairs_read reach ages_in ages_read inners_in up_from subtree
read-rows = record {
  pairs = refl;
  ages = refl;
  closing = refl;
  own = refl;
  short_pairs = refl;
  short_ages = refl;
  faulty_first = refl;
  oldest = refl;
  too_old = refl;
}

-- ---- places

abbrev FaultAt : String → ℕ → Type 0
FaultAt s p = reading (bytes s) ≡ faulty p

pub record PlaceRows : Type 0 where
  -- the end: its length
  pub empty : FaultAt "" 0
  pub opened : FaultAt "((((" 4
  pub half : FaultAt "(0:1.000" 8
  pub unended : FaultAt "(0:1.000,1:1.000)" 17
  -- "a parenthesis first"
  pub tip_alone : FaultAt "0;" 0
  -- signs
  pub one_child : FaultAt "(0:1.000)" 8
  pub three_children : FaultAt "(0:1.000,1:1.000,2:1.000);" 16
  pub no_length : FaultAt "(0,1);" 2
  pub root_length : FaultAt "(0:1.000,1:1.000):1.000;" 17
  pub line_end : FaultAt "(0:1.000,1:1.000);\n" 18
  -- "whole parts without leading zeros", and numbers of tips likewise
  pub leading_zero : FaultAt "(0:01.000,1:1.000);" 4
  pub zero_name : FaultAt "(00:1.000,1:1.000);" 2
  -- three decimals behind a whole part
  pub no_whole : FaultAt "(0:.500,1:1.000);" 3
  pub no_point : FaultAt "(0:1,1:1);" 4
  pub two_decimals : FaultAt "(0:1.00,1:1.000);" 7
  pub four_decimals : FaultAt "(0:1.0000,1:1.000);" 8
  -- "tip numbers", after a forbidden byte
  pub from_one : FaultAt "(1:1.000,2:1.000);" 18
  pub twice : FaultAt "(0:1.000,0:1.000);" 18
  pub beyond : FaultAt "(0:1.000,5:1.000);" 18
  pub byte_first : FaultAt "(5:1.000,5:1.000)x" 17

pub place-rows : PlaceRows
unfolding reading run step acceptable every joins times reach
place-rows = record {
  empty = refl;
  opened = refl;
  half = refl;
  unended = refl;
  tip_alone = refl;
  one_child = refl;
  three_children = refl;
  no_length = refl;
  root_length = refl;
  line_end = refl;
  leading_zero = refl;
  zero_name = refl;
  no_whole = refl;
  no_point = refl;
  two_decimals = refl;
  four_decimals = refl;
  from_one = refl;
  twice = refl;
  beyond = refl;
  byte_first = refl;
}

-- The values and the lines of an answer's text: numbers, words, ratios, pairs and heights. Definitions only. Assumes nothing.
use Rattle.std.specs.Prelude.{Bool, cond, List, [], ◌∷◌, ◌++◌, ℕ, zero, suc, ◌-◌, ℤ, pos, nat_abs, get_or, Float}
use Rattle.std.specs.Int.Signed.{lt_z}
use Rattle.std.specs.Float.{binary64}
use Rattle.std.specs.Float.Ieee.{to_bits}
use Rattle.answer.specs.declared.Ratio.{Ratio}
use Rattle.answer.specs.Answers.{Kind, even, counts, lengths, power, kind_of, Value, natural, real, integer, values_of}
use Rattle.tree.specs.Tree.{nodes_of, tips_of, first_in, second_in}
use Rattle.text.specs.Text.{bytes, line_end, word_text, decimal_text}

-- ---- lines and values

-- "key=value lines, each ended by byte 10"; the key is given with its "="
unfoldable pub line : List ℕ → List ℕ → List ℕ
line key value = key ++ value ++ line_end

-- two values with a comma between them
unfoldable pub comma : List ℕ → List ℕ → List ℕ
comma a b = a ++ bytes "," ++ b

-- a float by its bits
abbrev pub bits_text : Float → List ℕ
bits_text x = word_text (to_bits binary64 x)

abbrev pub negative : ℤ → Bool
negative k = lt_z k (pos 0)

-- a whole number, with a minus where it is below 0
unfoldable pub signed_text : ℤ → List ℕ
signed_text k = cond (negative k) (bytes "-") [] ++ decimal_text (nat_abs k)

-- the four words of a generator
unfoldable pub state_text : List ℕ → List ℕ
state_text s = comma (word_text (get_or s 0 0)) (comma (word_text (get_or s 1 0)) (comma (word_text (get_or s 2 0)) (word_text (get_or s 3 0))))

abbrev pub value_text : Value → List ℕ
value_text (natural n) = decimal_text n
value_text (real x) = bits_text x
value_text (integer k) = signed_text k

-- one of a ratio's two values
abbrev pub ratio_value : Ratio → ℕ → List ℕ
ratio_value r k = value_text (get_or (values_of r) k (natural 0))

-- a kind with its values, which `even` does without
abbrev pub kind_text : Kind → List ℕ → List ℕ
kind_text even values = bytes "even"
kind_text counts values = comma (bytes "counts") values
kind_text lengths values = comma (bytes "lengths") values
kind_text power values = comma (bytes "power") values

-- "ratio kind with f and k"; "Ratio is otherwise `even`, `counts,a,b` or `lengths,a,b`"
unfoldable pub ratio_text : Ratio → List ℕ
ratio_text r = kind_text (kind_of r) (comma (ratio_value r 0) (ratio_value r 1))

-- ---- the tree

abbrev pub pair_line : ℕ → ℕ → List ℕ
pair_line a b = line (bytes "pair=") (comma (decimal_text a) (decimal_text b))

-- the pairs of so many nodes from k on
unfoldable pub pair_lines : ℕ → ℕ → List ℕ → List ℕ
pair_lines zero k pairs = []
pair_lines (suc count) k pairs = pair_line (first_in pairs k) (second_in pairs k) ++ pair_lines count (suc k) pairs

-- "one pair per internal node", which are those after the tips
unfoldable pub pairs_text : List ℕ → List ℕ
pairs_text pairs = let n = nodes_of pairs in pair_lines (n - tips_of n) (tips_of n) pairs

abbrev pub height_line : Float → List ℕ
height_line x = line (bytes "height=") (bits_text x)

-- "one height per node"
unfoldable pub heights_text : List Float → List ℕ
heights_text [] = []
heights_text (x ∷ xs) = height_line x ++ heights_text xs

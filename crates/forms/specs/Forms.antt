-- The lines of the state file, each as a rule. Definitions only. Assumes nothing.
use Rattle.std.specs.Prelude.{Bool, true, false, cond, List, [], ◌∷◌, ℕ}
use Rattle.text.specs.Text.{bytes, line_end}
use Rattle.text.specs.Rules.{Rule, Parsed, malformed, parsed, return, ◌>>=◌, literal, fixed, word, decimal}
use Rattle.forms.specs.declared.Words.{Words}
use Rattle.forms.specs.declared.Kind.{Kind}
use Rattle.forms.specs.declared.Kind.TheVariants.{NodeHeight, SubtreeSlide, NarrowExchange, WideExchange, WilsonBalding, RootScale, TreeScale}

-- "key=value lines [...], each ended by byte 10"; the key is given with its "="
unfoldable pub entry : {A : Type 0} → List ℕ → Rule A → Rule A
entry key value = do
  _ ← literal key
  a ← value
  fixed line_end a

-- a rule after a comma
unfoldable pub next : {A : Type 0} → Rule A → Rule A
next rule = do
  _ ← literal (bytes ",")
  rule

-- ---- limits

-- "a number over 65,535 in a pair or node line"
abbrev pub most_nodes : ℕ
most_nodes = 65535

-- "or over 2^32 − 1 elsewhere"
abbrev pub most_elsewhere : ℕ
most_elsewhere = 4294967295

-- ---- the generator and the move

-- four words
unfoldable pub words : Rule Words
words = do
  a ← word
  b ← next word
  c ← next word
  d ← next word
  return (record { a = a; b = b; c = c; d = d })

-- "Moves: the seven tree moves above."
abbrev pub name_of : Kind → List ℕ
name_of NodeHeight = bytes "NodeHeight"
name_of SubtreeSlide = bytes "SubtreeSlide"
name_of NarrowExchange = bytes "NarrowExchange"
name_of WideExchange = bytes "WideExchange"
name_of WilsonBalding = bytes "WilsonBalding"
name_of RootScale = bytes "RootScale"
name_of TreeScale = bytes "TreeScale"

abbrev pub later_kinds : List Kind
later_kinds = WilsonBalding ∷ RootScale ∷ TreeScale ∷ []

abbrev pub kinds : List Kind
kinds = NodeHeight ∷ SubtreeSlide ∷ NarrowExchange ∷ WideExchange ∷ later_kinds

-- the first move whose name stands there
abbrev pub or_else : {A : Type 0} → Parsed A → Parsed A → Parsed A
or_else (parsed a rest) other = parsed a rest
or_else malformed other = other

unfoldable pub one_of : List Kind → Rule Kind
one_of [] s = malformed
one_of (k ∷ ks) s = or_else (fixed (name_of k) k s) (one_of ks s)

-- "A slide's step goes under tuning; the file runs the slide's second call", which "takes node and step"
abbrev pub takes_node : Kind → Bool
takes_node NodeHeight = false
takes_node SubtreeSlide = true
takes_node NarrowExchange = false
takes_node WideExchange = false
takes_node WilsonBalding = false
takes_node RootScale = false
takes_node TreeScale = false

abbrev pub takes_tuning : Kind → Bool
takes_tuning NodeHeight = false
takes_tuning SubtreeSlide = true
takes_tuning NarrowExchange = false
takes_tuning WideExchange = false
takes_tuning WilsonBalding = false
takes_tuning RootScale = true
takes_tuning TreeScale = true

-- ---- the lines

-- "edition is 1"
unfoldable pub edition_line : Rule ℕ
edition_line = entry (bytes "edition=") (fixed (bytes "1") 1)

unfoldable pub draws_line : Rule ℕ
draws_line = entry (bytes "draws=") (decimal most_elsewhere)

unfoldable pub state_line : Rule Words
state_line = entry (bytes "state=") words

unfoldable pub move_line : Rule Kind
move_line = entry (bytes "move=") (one_of kinds)

-- "Node and tuning are 0 (tuning 16 zeros) when unused"
unfoldable pub node_line : Kind → Rule ℕ
node_line k = entry (bytes "node=") (decimal (cond (takes_node k) most_nodes 0))

unfoldable pub tuning_line : Kind → Rule ℕ
tuning_line k = entry (bytes "tuning=") (cond (takes_tuning k) word (fixed (bytes "0000000000000000") 0))

unfoldable pub tips_line : Rule ℕ
tips_line = entry (bytes "tips=") (decimal most_elsewhere)

-- "one pair per internal node"
unfoldable pub pair_line : Rule (ℕ × ℕ)
pair_line = entry (bytes "pair=") (do
  a ← decimal most_nodes
  b ← next (decimal most_nodes)
  return (a, b))

-- "one height per node"
unfoldable pub height_line : Rule ℕ
height_line = entry (bytes "height=") word

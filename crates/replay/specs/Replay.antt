-- The stored cases, and what comes of answering them again. The data is a line `cases=` with the number of cases, and the cases; a case is a state file
-- and the answer that the Rust gives to it, each after a line with its length and before a byte 10. Definitions only. Assumes nothing.
use Rattle.std.specs.Prelude.{cond, List, [], ◌∷◌, ℕ, zero, suc, ltb, eqb, length, take, drop, Option, Some, None, Result, Ok, Err}
use Rattle.text.specs.Text.{bytes, line_end}
use Rattle.text.specs.Rules.{Rule, Parsed, malformed, parsed, return, ◌>>=◌, fixed, decimal}
use Rattle.forms.specs.Forms.{entry, most_elsewhere}
use Rattle.respond.specs.Respond.{file_reply}
use Rattle.replay.specs.declared.Stop.{Stop}
use Rattle.replay.specs.declared.Stop.TheVariants as Stops

-- ---- the data

-- a state file and its answer
pub record Case : Type 0 where
  pub file : List ℕ
  pub answer : List ℕ

-- so many bytes
unfoldable pub taken : ℕ → Rule (List ℕ)
taken n s = cond (ltb (length s) n) malformed (parsed (take n s) (drop n s))

-- a text after a line with its key and its length
unfoldable pub counted : List ℕ → Rule (List ℕ)
counted key = do
  n ← entry key (decimal most_elsewhere)
  t ← taken n
  fixed line_end t

unfoldable pub case : Rule Case
case = do
  file ← counted (bytes "file=")
  answer ← counted (bytes "answer=")
  return (record { file = file; answer = answer })

abbrev pub cases_line : Rule ℕ
cases_line = entry (bytes "cases=") (decimal most_elsewhere)

-- ---- an answer

-- two texts from the place i on: alike, or the first place where they are not
unfoldable pub compared : ℕ → List ℕ → List ℕ → Option ℕ
compared i [] [] = None
compared i [] (e ∷ es) = Some i
compared i (g ∷ gs) [] = Some i
compared i (g ∷ gs) (e ∷ es) = cond (eqb g e) (compared (suc i) gs es) (Some i)

-- what a slice of so many bytes takes of a text: all of it, or nothing
unfoldable pub within : ℕ → List ℕ → List ℕ
within room text = cond (ltb room (length text)) [] text

-- the answer of a case's file, of at most 131,072 bytes, beside the one stored
abbrev pub compared_case : Case → Option ℕ
compared_case c = compared 0 (within 131136 (file_reply 131072 c.file)) c.answer

-- ---- a case

-- what comes of a case, with the rest of the data
pub data Judged : Type 0 where
  broken : Judged
  differs : ℕ → Judged
  alike : List ℕ → Judged

abbrev pub judged : Option ℕ → List ℕ → Judged
judged None rest = alike rest
judged (Some i) rest = differs i

abbrev pub judged_case : Parsed Case → Judged
judged_case malformed = broken
judged_case (parsed c rest) = judged (compared_case c) rest

unfoldable pub replay_case : List ℕ → Judged
replay_case s = judged_case (case s)

-- ---- all cases

-- what comes of all, k cases being alike: of the next one, and of the rest
unfoldable pub proceed : ℕ → Judged → (List ℕ → Result ℕ Stop) → Result ℕ Stop
proceed k broken after = Err (Stops.Malformed k)
proceed k (differs i) after = Err (Stops.Differs (suc k) i)
proceed k (alike rest) after = after rest

-- so many more cases, and nothing after them
unfoldable pub outcome : ℕ → ℕ → List ℕ → Result ℕ Stop
outcome zero k [] = Ok k
outcome zero k (b ∷ s) = Err (Stops.Malformed k)
outcome (suc n) k s = proceed k (replay_case s) (outcome n (suc k))

abbrev pub all_outcome : Parsed ℕ → Result ℕ Stop
all_outcome malformed = Err (Stops.Malformed 0)
all_outcome (parsed n rest) = outcome n 0 rest

unfoldable pub replayed : List ℕ → Result ℕ Stop
replayed s = all_outcome (cases_line s)

-- The record of a call: the 64-bit words in which a host hands a call its numbers and finds what it answers. What a call reads of them, and what they
-- are after an answer. A float stands in a word by its bits. Definitions only. Assumes nothing.
use Rattle.std.specs.Prelude.{ℕ, suc, ◌-◌, ◌^◌, Bool, cond, ◌&&◌, List, [], ◌∷◌, length, ℤ, pos, negsuc, from_bits, nat_le, nat_lt, slice_index, slice_index_or, slice_set, to_bits, Float, Result, Ok, Err}
use Rattle.std.proofs.lemmas.List.Edits.{sets}
use Rattle.std.specs.Float.{binary64}
use Rattle.answer.specs.Answers.{number_of, detail_of, Kind, even, counts, lengths, power, kind_of, Value, natural, real, integer, values_of}
use Rattle.answer.specs.declared.Refusal.{Refusal}
use Rattle.answer.specs.declared.Refusal.TheVariants.{Parameter}
use Rattle.answer.specs.declared.Ratio.{Ratio}
use Rattle.answer.specs.declared.Answer.{Answer}
use Rattle.answer.specs.declared.Answer.TheVariants as Answers
use Rattle.answer.specs.declared.Proposal.{Proposal}
use Rattle.answer.specs.declared.Proposal.TheVariants as Proposals
use Rattle.random.specs.declared.Random.{Random}
use Rattle.random.specs.Generator.{state_of, from_state}
use Rattle.random.specs.Draw.{allowed}
use Rattle.record.specs.declared.Given.{Given}
use Rattle.record.specs.declared.Reply.{Reply}

-- a record has 32 words or more
abbrev pub is_record : List ℕ → Bool
is_record words = nat_le 32 (length words)

-- what a call returns where it is given no record
abbrev pub no_record : ℕ
no_record = 3

-- ---- what a call reads

-- word k
abbrev pub word_in : List ℕ → ℕ → ℕ
word_in words k = slice_index words k

-- the float in word k
abbrev pub real_in : List ℕ → ℕ → Float
real_in words k = from_bits binary64 (word_in words k)

-- words 0 to 3
abbrev pub generator_in : List ℕ → Random
generator_in words = from_state (word_in words 0 ∷ word_in words 1 ∷ word_in words 2 ∷ word_in words 3 ∷ [])

abbrev pub root_in : List ℕ → ℕ
root_in words = word_in words 4

-- A word above 65,535 counts as 0: no call takes either for an allowance.
abbrev pub allowance_in : List ℕ → ℕ
allowance_in words = cond (nat_lt 65535 (word_in words 5)) 0 (word_in words 5)

-- a record whose allowance a call takes
abbrev pub is_ready : List ℕ → Bool
is_ready words = is_record words && allowed (word_in words 5)

-- a node, an index, a field, or the n of `below`
abbrev pub node_in : List ℕ → ℕ
node_in words = word_in words 6

-- a scale's tuning, or a slide's step
abbrev pub tuning_in : List ℕ → Float
tuning_in words = real_in words 7

-- what every call on a tree is given beside the tree's slices
abbrev pub given_in : List ℕ → Given
given_in words = record { root = root_in words; random = generator_in words; allowance = allowance_in words }

-- ---- what a call writes: `sets words k xs` is the words with xs from place k on

-- the generator in words 0 to 3, the root in word 4, a node in word 6, an answer in words 8 to 12
abbrev pub with_generator : Random → List ℕ → List ℕ
with_generator g words = sets words 0 (state_of g)

abbrev pub with_root : ℕ → List ℕ → List ℕ
with_root root words = slice_set words 4 root

abbrev pub with_node : ℕ → List ℕ → List ℕ
with_node node words = slice_set words 6 node

abbrev pub with_reply : Reply → List ℕ → List ℕ
with_reply r words = sets words 8 (r.code ∷ r.draws ∷ r.kind ∷ r.first ∷ r.second ∷ [])

-- the answer code that a call returns, and the words after it
pub record Written : Type 0 where
  pub code : ℕ
  pub words : List ℕ

abbrev pub written : ℕ → List ℕ → Written
written code words = record { code = code; words = words }

-- w, or nothing written where the words are no record
abbrev pub on_record : List ℕ → Written → Written
on_record words w = cond (is_record words) w (written no_record words)

abbrev pub replied : Reply → List ℕ → Written
replied r words = written r.code (with_reply r words)

-- ---- what stands in words 8 to 12: the answer code, the draws made, the kind, and two values

abbrev pub reply : ℕ → ℕ → ℕ → ℕ → ℕ → Reply
reply code draws kind first second = record { code = code; draws = draws; kind = kind; first = first; second = second }

-- a k below 0 in two's complement
abbrev pub complement : ℤ → ℕ
complement (pos n) = n
complement (negsuc n) = 2 ^ 64 - suc n

abbrev pub value_word : Value → ℕ
value_word (natural n) = n
value_word (real x) = to_bits binary64 x
value_word (integer k) = complement k

abbrev pub kind_word : Kind → ℕ
kind_word even = 0
kind_word counts = 1
kind_word lengths = 2
kind_word power = 3

-- one of a ratio's two values
abbrev pub ratio_word : Ratio → ℕ → ℕ
ratio_word r k = value_word (slice_index_or (values_of r) k (natural 0))

-- code 0: moved, with a ratio; or done, with whatever values the call gives
abbrev pub moved_reply : ℕ → Ratio → Reply
moved_reply draws r = reply 0 draws (kind_word (kind_of r)) (ratio_word r 0) (ratio_word r 1)

abbrev pub given_reply : ℕ → ℕ → ℕ → Reply
given_reply draws first second = reply 0 draws 0 first second

-- code 1
abbrev pub declined_reply : ℕ → Reply
declined_reply draws = reply 1 draws 0 0 0

-- code 2: the refusal's number as the kind, its detail as the first value
abbrev pub refused_reply : Refusal → Reply
refused_reply why = reply 2 0 (number_of why) (detail_of why) 0

-- ---- what an answer leaves. A refused call writes words 8 to 12 and nothing else; every other writes the generator too

-- words that are not ready: no record, or an allowance that no call takes
unfoldable pub unready : List ℕ → Written
unready words = on_record words (replied (refused_reply (Parameter 0)) words)

unfoldable pub proposed : Proposal → Random → List ℕ → Written
proposed (Proposals.Scaled draws r) g words = replied (moved_reply draws r) (with_generator g words)
proposed (Proposals.Declined draws) g words = replied (declined_reply draws) (with_generator g words)
proposed (Proposals.Refused why) g words = replied (refused_reply why) words

-- a tree move that is made writes its root
unfoldable pub answered : Answer → Random → List ℕ → Written
answered (Answers.Moved m) g words = proposed (Proposals.Scaled m.draws m.ratio) g (with_root m.root words)
answered (Answers.Declined draws) g words = proposed (Proposals.Declined draws) g words
answered (Answers.Refused why) g words = proposed (Proposals.Refused why) g words

-- a call that makes no draws: fine, or refused
unfoldable pub judged : Result (Unit {0}) Refusal → List ℕ → Written
judged (Ok tt) words = replied (given_reply 0 0 0) words
judged (Err why) words = replied (refused_reply why) words

-- The reader's second pass over the bytes of a text, by change request S-1: it fills the pairs, the length of the branch above each node, and which tips were
-- seen. It is total: over any bytes, and over lists of any lengths, past whose ends nothing is stored. Definitions only. Assumes nothing.
use Rattle.std.specs.Prelude.{Bool, true, false, cond, List, [], ◌∷◌, ℕ, suc, ◌+◌, ◌-◌, ◌*◌, ◌^◌, min, eqb, get_or, set, replicate}
use Rattle.text.specs.Rules.{is_decimal}
use Rattle.tree.specs.Tree.{no_node}
use Rattle.newick.specs.Newick.{Newick, tip, join, sign}
use Rattle.newick.specs.Numbering.{joins, node_of}
use Rattle.newick_file.specs.declared.Filer.{Filer}

-- ---- limits

-- lengths stay at the first root age that is refused
abbrev pub most : ℕ
most = 2 ^ 53

-- numbers of nodes stay at the mark for none
abbrev pub short : ℕ → ℕ
short n = min n no_node

-- ---- where the pass stands

abbrev pub filer : ℕ → ℕ → ℕ → Bool → Filer
filer h n v c = record { height = h; next = n; value = v; closed = c }

abbrev pub after_digit : ℕ → Filer → Filer
after_digit d q = filer q.height q.next (min (q.value * 10 + d) most) false

abbrev pub after_point : Filer → Filer
after_point q = filer q.height q.next q.value false

abbrev pub after_tip : Filer → Filer
after_tip q = filer (short (suc q.height)) q.next 0 false

abbrev pub after_close : Filer → Filer
after_close q = filer (q.height - 1) (short (suc q.next)) 0 true

abbrev pub after_other : Filer → Filer
after_other q = filer q.height q.next 0 false

-- ---- a byte

pub record Filing : Type 0 where
  pub pairs : List ℕ
  pub ups : List ℕ  -- by node, the length of the branch above it
  pub stack : List ℕ  -- the nodes that wait for the parenthesis around them to close
  pub seen : List Bool  -- by tip, whether it was met
  pub state : Filer

abbrev pub filing : List ℕ → List ℕ → List ℕ → List Bool → Filer → Filing
filing ps us st se q = record { pairs = ps; ups = us; stack = st; seen = se; state = q }

-- the two nodes that wait last become the children of node n
abbrev pub pairs_closed : ℕ → ℕ → List ℕ → List ℕ → List ℕ
pairs_closed h n st ps = set (set ps (n + n) (get_or st (h - 2) 0)) (suc (n + n)) (get_or st (h - 1) 0)

-- a length is at its end: it is that of the branch above the node that waits last
abbrev pub ups_ended : ℕ → ℕ → List ℕ → List ℕ → List ℕ
ups_ended h v st us = set us (get_or st (h - 1) 0) v

abbrev pub file_tip : Filing → Filing
file_tip F =
    let k = short F.state.value in
    filing F.pairs F.ups (set F.stack F.state.height k) (set F.seen k true) (after_tip F.state)

abbrev pub file_comma : Filing → Filing
file_comma F = filing F.pairs (ups_ended F.state.height F.state.value F.stack F.ups) F.stack F.seen (after_other F.state)

abbrev pub file_close : Filing → Filing
file_close F =
    let h = F.state.height in
    let n = F.state.next in
    filing (pairs_closed h n F.stack F.pairs) (ups_ended h F.state.value F.stack F.ups)
    (set F.stack (h - 2) (short n)) F.seen (after_close F.state)

-- nothing but where the pass stands
abbrev pub file_state : Filing → Filer → Filing
file_state F q = filing F.pairs F.ups F.stack F.seen q

-- a byte that is no digit: a colon behind a number ends a tip; the numbers in a text are those of tips and the lengths
unfoldable pub file_sign : Filing → ℕ → Filing
file_sign F b =
    cond (eqb b (sign ".")) (file_state F (after_point F.state))
    (cond (eqb b (sign ":")) (cond F.state.closed (file_state F (after_other F.state)) (file_tip F))
    (cond (eqb b (sign ",")) (file_comma F)
    (cond (eqb b (sign ")")) (file_close F) (file_state F (after_other F.state)))))

unfoldable pub file_byte : Filing → ℕ → Filing
file_byte F b = cond (is_decimal b) (file_state F (after_digit (b - 48) F.state)) (file_sign F b)

unfoldable pub file : Filing → List ℕ → Filing
file F [] = F
file F (b ∷ s) = file (file_byte F b) s

-- before the first byte of a text with so many tips, behind which the parentheses are numbered
abbrev pub begun : ℕ → List ℕ → List ℕ → List ℕ → List Bool → Filing
begun tips ps us st se = filing ps us st se (filer 0 tips 0 false)

-- and before anything was filled
abbrev pub blank : ℕ → ℕ → ℕ → List ℕ → ℕ → Filing
blank tips p u st e = begun tips (replicate p no_node) (replicate u 0) st (replicate e false)

-- ---- how many parentheses close

abbrev pub close_of : ℕ → ℕ
close_of b = cond (eqb b (sign ")")) 1 0

unfoldable pub closes : List ℕ → ℕ
closes [] = 0
closes (b ∷ s) = close_of b + closes s

-- ---- what comes of the text of a value

-- a value with its numbers within the limits
unfoldable pub capped : Newick → Newick
capped (tip k) = tip (short k)
capped (join a x b y) = join (capped a) (min x most) (capped b) (min y most)

-- its lengths, put into a list at the lower ends of the branches, where the next parenthesis to close has the number base
unfoldable pub lengths_in : ℕ → Newick → List ℕ → List ℕ
lengths_in base (tip k) us = us
lengths_in base (join a x b y) us =
    set (lengths_in (base + joins a) b (set (lengths_in base a us) (node_of base a) x)) (node_of (base + joins a) b) y

-- its tips
unfoldable pub seen_in : Newick → List Bool → List Bool
seen_in (tip k) se = set se k true
seen_in (join a x b y) se = seen_in b (seen_in a se)

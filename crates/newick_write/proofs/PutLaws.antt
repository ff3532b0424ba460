-- The ways through the code that measures and writes the text of pairs and ages: numbers, lengths and children (`put_laws`), the room that they
-- take (`room_laws`), and the whole (`copy_laws`). The bytes 40 and 41 are the parentheses, 44 the comma, 46 the point, 58 the colon, 59 the semicolon, and 48
-- the digit 0. Assumes nothing.
use mathlib.Core.Path.{◌≡◌, refl, sym, ap, ◌∙◌}
use mathlib.Core.Bool.{Bool, true, false}
use mathlib.Core.List.{List, [], ◌∷◌, ◌++◌, append_assoc}
use Prim.Native.Nat.{ℕ, zero, suc, ◌+◌, ◌-◌, ◌/◌, ◌%◌, ◌^◌, ◌≤◌, ◌<◌}
use native.Mathlib.Decide.{dec_lt}
use native.Mathlib.Omega.{arith}
use lib.ListN.{length, get_or, length-append}
use mir.Val.{Fits}
use mir.Syntax.{w64}
use borrow.Author.Tests.{lt-ltb, le-ltb}
use Rattle.tree.specs.Tree.{nodes_of, inner, first_in, second_in}
use Rattle.text.specs.Text.{decimal_text}
use Rattle.print.specs.Writing.{Written, written, write_byte, write}
use Rattle.print.specs.WritingLaws.{write-append, write-whole}
use Rattle.print.specs.NumberLaws.{digits-few}
use Rattle.newick.specs.DecimalLaws.{number-text}
use Rattle.newick.specs.Newick.{number_text, length_text, text, whole_text}
use Rattle.newick.specs.Copies.{dated_at, newick_of, tree_text, copied, placed}
use Rattle.newick_write.specs.declared.Children.{Children}
use Rattle.newick_write.specs.Given.{children_of, space_after}
use Rattle.std.specs.Prelude.{Option, Some, None, Ok, Err}
use Rattle.newick.specs.declared.CopyError.TheVariants as CopyErrors

-- ---- children

abbrev children-made : ℕ → ℕ → ℕ → ℕ → Children
children-made a b x y = record { first = a; second = b; upper = x; lower = y }

pub children-are : (ps l : List ℕ) (k a b : ℕ) → a ≡ first_in ps k → b ≡ second_in ps k
    → (x y : ℕ) → x ≡ get_or l k 0 - get_or l a 0 → y ≡ get_or l k 0 - get_or l b 0 → children-made a b x y ≡ children_of ps l k
unfolding children_of
children-are ps l k a b fa fb x y ex ey = λ j. record {
  first = fa j;
  second = fb j;
  upper = (ex ∙ ap (λ (u : ℕ). get_or l k 0 - get_or l u 0) fa) j;
  lower = (ey ∙ ap (λ (u : ℕ). get_or l k 0 - get_or l u 0) fb) j;
}

-- ---- texts

-- the last two decimals of a length, and all three behind their point
abbrev last_text : ℕ → List ℕ
last_text x = (48 + x / 10 % 10) ∷ (48 + x % 10) ∷ []

abbrev decimals_text : ℕ → List ℕ
decimals_text x = 46 ∷ (48 + x / 100 % 10) ∷ last_text x

-- two texts, each with that of its length, in a parenthesis
abbrev join_text : List ℕ → List ℕ → List ℕ → List ℕ → List ℕ
join_text s x t y = 40 ∷ s ++ (58 ∷ x ++ (44 ∷ t ++ (58 ∷ y ++ (41 ∷ []))))

abbrev text_at : ℕ → ℕ → List ℕ → List ℕ → ℕ → List ℕ
text_at depth n ps l k = text (dated_at depth n ps l k)

-- the text of a node, by its children's
module _ (n k : ℕ) (ps l : List ℕ) where
  text-none : (depth : ℕ) → depth ≡ 0 → number_text k ≡ text_at depth n ps l k
  unfolding dated_at text
  text-none depth z = rw z

  text-tip : (depth : ℕ) → (depth ≡ 0 → ⊥) → inner n k ≡ false → number_text k ≡ text_at depth n ps l k
  unfolding dated_at text
  text-tip zero d e = absurd (d refl)
  text-tip (suc m) d e = rw e

  text-join : (depth : ℕ) → (depth ≡ 0 → ⊥) → inner n k ≡ true → (q : Children) → q ≡ children_of ps l k
      → join_text (text_at (depth - 1) n ps l q.first) (length_text q.upper) (text_at (depth - 1) n ps l q.second) (length_text q.lower)
      ≡ text_at depth n ps l k
  unfolding dated_at text children_of
  text-join zero d e q f = absurd (d refl)
  text-join (suc m) d e q f = let s : suc m - 1 ≡ m = omega arith in rw (e, s, f)

-- ---- writing

-- one text behind another
then-put : (w : Written) (s t : List ℕ) (a v : Written) → a ≡ write w s → v ≡ write a t → v ≡ write w (s ++ t)
then-put w s t a v ea ev = ev ∙ ap (λ (z : Written). write z t) ea ∙ write-append w s t

byte_put : (w : Written) (b : ℕ) (v : Written) → v ≡ write_byte w b → v ≡ write w (b ∷ [])
unfolding write
byte_put w b v e = e

module _ (w : Written) where
  pub number_put : (n : ℕ) → n < 2 ^ 64 → (v : Written) → v ≡ write w (decimal_text n) → v ≡ write w (number_text n)
  number_put n h v e = rw (number-text n h) e

  pub last-put : (x : ℕ) (a v : Written) → a ≡ write_byte w (48 + x / 10 % 10) → v ≡ write_byte a (48 + x % 10) → v ≡ write w (last_text x)
  unfolding write
  last-put x a v ea ev = rw (← ea) ev

  pub decimals-put : (x : ℕ) (a b v : Written) → a ≡ write_byte w 46 → b ≡ write_byte a (48 + x / 100 % 10) → v ≡ write b (last_text x)
      → v ≡ write w (decimals_text x)
  decimals-put x a b v ea eb ev =
      then-put w (46 ∷ []) ((48 + x / 100 % 10) ∷ last_text x) a v (byte_put w 46 a ea)
      (then-put a ((48 + x / 100 % 10) ∷ []) (last_text x) b v (byte_put a (48 + x / 100 % 10) b eb) ev)

  pub length-put : (x : ℕ) (a b v : Written) → a ≡ write_byte w 58 → b ≡ write a (number_text (x / 1000)) → v ≡ write b (decimals_text x)
      → v ≡ write w (58 ∷ length_text x)
  length-put x a b v ea eb ev =
      then-put w (58 ∷ []) (length_text x) a v (byte_put w 58 a ea) (then-put a (number_text (x / 1000)) (decimals_text x) b v eb ev)

  pub branch-put : (x after : ℕ) (a v : Written) → a ≡ write w (58 ∷ length_text x) → v ≡ write_byte a after
      → v ≡ write w (58 ∷ length_text x ++ (after ∷ []))
  branch-put x after a v ea ev = then-put w (58 ∷ length_text x) (after ∷ []) a v ea (byte_put a after v ev)

  join-put : (s x t y : List ℕ) (a b c d v : Written) → a ≡ write_byte w 40 → b ≡ write a s → c ≡ write b (58 ∷ x ++ (44 ∷ []))
      → d ≡ write c t → v ≡ write d (58 ∷ y ++ (41 ∷ [])) → v ≡ write w (join_text s x t y)
  join-put s x t y a b c d v ea eb ec ed ev =
      let last : List ℕ = t ++ (58 ∷ y ++ (41 ∷ [])) in
      let from_second : v ≡ write c last = then-put c t (58 ∷ y ++ (41 ∷ [])) d v ed ev in
      let from-length : v ≡ write b (58 ∷ x ++ (44 ∷ last)) =
      then-put b (58 ∷ x ++ (44 ∷ [])) last c v ec from_second ∙ ap (λ (l : List ℕ). write b (58 ∷ l)) (append_assoc x (44 ∷ []) last) in
      let from_first : v ≡ write a (s ++ (58 ∷ x ++ (44 ∷ last))) = then-put a s (58 ∷ x ++ (44 ∷ last)) b v eb from-length in
      then-put w (40 ∷ []) (s ++ (58 ∷ x ++ (44 ∷ last))) a v (byte_put w 40 a ea) from_first

module _ (n k : ℕ) (ps l : List ℕ) (w : Written) where
  pub node-none : (depth : ℕ) → depth ≡ 0 → (v : Written) → v ≡ write w (number_text k) → v ≡ write w (text_at depth n ps l k)
  node-none depth z v e = e ∙ ap (write w) (text-none n k ps l depth z)

  pub node-tip : (depth : ℕ) → (depth ≡ 0 → ⊥) → (c : Bool) → c ≡ inner n k → c ≡ false
      → (v : Written) → v ≡ write w (number_text k) → v ≡ write w (text_at depth n ps l k)
  node-tip depth d c f g v e = e ∙ ap (write w) (text-tip n k ps l depth d (sym f ∙ g))

  pub node-join : (depth : ℕ) → (depth ≡ 0 → ⊥) → (c : Bool) → c ≡ inner n k → c ≡ true → (q : Children) → q ≡ children_of ps l k
      → (first colon second last v : Written) → first ≡ write_byte w 40 → colon ≡ write first (text_at (depth - 1) n ps l q.first)
      → second ≡ write colon (58 ∷ length_text q.upper ++ (44 ∷ [])) → last ≡ write second (text_at (depth - 1) n ps l q.second)
      → v ≡ write last (58 ∷ length_text q.lower ++ (41 ∷ [])) → v ≡ write w (text_at depth n ps l k)
  node-join depth d c f g q e first colon second last v e1 e2 e3 e4 ev =
      join-put w (text_at (depth - 1) n ps l q.first) (length_text q.upper) (text_at (depth - 1) n ps l q.second) (length_text q.lower)
      first colon second last v e1 e2 e3 e4 ev
      ∙ ap (write w) (text-join n k ps l depth d (sym f ∙ g) q e)

pub ruleset put_laws = (number_put, last-put, decimals-put, length-put, branch-put, node-none, node-tip, children-are)

-- ---- room

module _ (left count : ℕ) (room : Option ℕ) (e : room ≡ Some left) where
  pub take_short : left < count → None ≡ space_after room count
  take_short h = rw (e, lt-ltb left count h)

  pub take-some : count ≤ left → Some (left - count) ≡ space_after room count
  take-some h = rw (e, le-ltb left count h)

-- one text behind another
space-more : (room : Option ℕ) (a b : ℕ) → space_after (space_after room a) b ≡ space_after room (a + b)
space-more None a b = refl
space-more (Some n) a b = elim (dec_lt n a) [
  | yes h ↦ rw (lt-ltb n a h, lt-ltb n (a + b) (omega arith))
  | no h ↦ elim (dec_lt (n - a) b) [
    | yes k ↦ rw (le-ltb n a (omega arith), lt-ltb (n - a) b k, lt-ltb n (a + b) (omega arith))
    | no k ↦
        let z : n - a - b ≡ n - (a + b) = omega arith in
        rw (le-ltb n a (omega arith), le-ltb (n - a) b (omega arith), le-ltb n (a + b) (omega arith), z)
  ]
]

then-take : (room : Option ℕ) (x y : ℕ) (a r : Option ℕ) → a ≡ space_after room x → r ≡ space_after a y → r ≡ space_after room (x + y)
then-take room x y a r ea er = er ∙ ap (λ (z : Option ℕ). space_after z y) ea ∙ space-more room x y

pub len_is : (x r : ℕ) → x < 2 ^ 64 → r ≡ length (decimal_text (x / 1000)) → 6 + r ≡ 6 + length (number_text (x / 1000))
len_is x r h e = ap (λ (l : ℕ). 6 + l) (e ∙ ap length (sym (number-text (x / 1000) (omega arith))))

pub len-fits : (x r : ℕ) → r ≡ length (decimal_text x) → Fits w64 (6 + r)
len-fits x r e = let f = digits-few x in record { fits = omega arith }

-- a colon, a length and the sign after it
branch-long : (x after : ℕ) → length (58 ∷ length_text x ++ (after ∷ [])) ≡ 6 + length (number_text (x / 1000))
branch-long x after =
    let a = length-append (length_text x) (after ∷ []) in
    let b = length-append (number_text (x / 1000)) (decimals_text x) in
    omega arith

join-long : (s x t y : List ℕ)
    → 1 + length s + length (58 ∷ x ++ (44 ∷ [])) + length t + length (58 ∷ y ++ (41 ∷ [])) ≡ length (join_text s x t y)
join-long s x t y = simp length-append (omega arith)

join-room : (room : Option ℕ) (s x t y : List ℕ) (a b c d r : Option ℕ) → a ≡ space_after room 1 → b ≡ space_after a (length s)
    → c ≡ space_after b (length (58 ∷ x ++ (44 ∷ []))) → d ≡ space_after c (length t) → r ≡ space_after d (length (58 ∷ y ++ (41 ∷ [])))
    → r ≡ space_after room (length (join_text s x t y))
join-room room s x t y a b c d r ea eb ec ed er =
    let upper = length (58 ∷ x ++ (44 ∷ [])) in
    let lower = length (58 ∷ y ++ (41 ∷ [])) in
    let to-b = then-take room 1 (length s) a b ea eb in
    let to-c = then-take room (1 + length s) upper b c to-b ec in
    let to-d = then-take room (1 + length s + upper) (length t) c d to-c ed in
    then-take room (1 + length s + upper + length t) lower d r to-d er ∙ ap (space_after room) (join-long s x t y)

module _ (n k : ℕ) (ps l : List ℕ) (room : Option ℕ) where
  number-room : k < 2 ^ 64 → (d : ℕ) → d ≡ length (decimal_text k) → (r : Option ℕ) → r ≡ space_after room d → r ≡ space_after room (length (number_text k))
  number-room h d e r f = f ∙ ap (space_after room) (e ∙ ap length (sym (number-text k h)))

  pub room-none : (depth : ℕ) → depth ≡ 0 → k < 2 ^ 64 → (d : ℕ) → d ≡ length (decimal_text k)
      → (r : Option ℕ) → r ≡ space_after room d → r ≡ space_after room (length (text_at depth n ps l k))
  room-none depth z h d e r f = number-room h d e r f ∙ ap (λ (s : List ℕ). space_after room (length s)) (text-none n k ps l depth z)

  pub room-tip : (depth : ℕ) → (depth ≡ 0 → ⊥) → (c : Bool) → c ≡ inner n k → c ≡ false → k < 2 ^ 64 → (d : ℕ) → d ≡ length (decimal_text k)
      → (r : Option ℕ) → r ≡ space_after room d → r ≡ space_after room (length (text_at depth n ps l k))
  room-tip depth z c f g h d e r i =
      number-room h d e r i ∙ ap (λ (s : List ℕ). space_after room (length s)) (text-tip n k ps l depth z (sym f ∙ g))

  pub room-join : (depth : ℕ) → (depth ≡ 0 → ⊥) → (c : Bool) → c ≡ inner n k → c ≡ true → (q : Children) → q ≡ children_of ps l k
      → (start first comma second r : Option ℕ) (x y : ℕ) → start ≡ space_after room 1 → first ≡ space_after start (length (text_at (depth - 1) n ps l q.first))
      → x ≡ 6 + length (number_text (q.upper / 1000)) → comma ≡ space_after first x
      → second ≡ space_after comma (length (text_at (depth - 1) n ps l q.second))
      → y ≡ 6 + length (number_text (q.lower / 1000)) → r ≡ space_after second y → r ≡ space_after room (length (text_at depth n ps l k))
  room-join depth d c f g q e start first comma second r x y e0 e1 ex e2 e3 ey er =
      join-room room (text_at (depth - 1) n ps l q.first) (length_text q.upper) (text_at (depth - 1) n ps l q.second) (length_text q.lower)
      start first comma second r e0 e1
      (e2 ∙ ap (space_after first) (ex ∙ sym (branch-long q.upper 44))) e3
      (er ∙ ap (space_after second) (ey ∙ sym (branch-long q.lower 41)))
      ∙ ap (λ (s : List ℕ). space_after room (length s)) (text-join n k ps l depth d (sym f ∙ g) q e)

pub ruleset room_laws = (take_short, take-some, len_is, len-fits, room-none, room-tip, room-join)

-- ---- the whole

module _ (ps l : List ℕ) (root : ℕ) where
  pub whole-put : (w a v : Written) → a ≡ write w (text_at (length ps / 2) (nodes_of ps) ps l root) → v ≡ write_byte a 59
      → v ≡ write w (tree_text ps root l)
  unfolding whole_text
  whole-put w a v ea ev = then-put w (text (newick_of ps root l)) (59 ∷ []) a v ea (byte_put a 59 v ev)

  pub whole_room : (room : ℕ) (a r : Option ℕ) → a ≡ space_after (Some room) (length (text_at (length ps / 2) (nodes_of ps) ps l root))
      → r ≡ space_after a 1 → r ≡ space_after (Some room) (length (tree_text ps root l))
  unfolding whole_text
  whole_room room a r ea er =
      let t = text (newick_of ps root l) in
      then-take (Some room) (length t) 1 a r ea er ∙ ap (space_after (Some room)) (sym (length-append t (59 ∷ [])))

left-clash : (n : ℕ) → Some n ≡ None → ⊥
left-clash n e = let z : ◌≡◌ {A = ℕ} 0 1 = cc in omega arith

-- what measuring tells of a text of so many bytes
room-told : (room long : ℕ) (x : Option ℕ) → x ≡ space_after (Some room) long → ((n : ℕ) → x ≡ Some n → long ≤ room) × (x ≡ None → room < long)
room-told room long x e = elim (dec_lt room long) [
  | yes h ↦ let z : x ≡ None = e ∙ rw (lt-ltb room long h) in (λ n f. absurd (left-clash n (sym f ∙ z)), λ f. h)
  | no h ↦
      let z : x ≡ Some (room - long) = e ∙ rw (le-ltb room long (omega arith)) in
      (λ n f. omega arith, λ f. absurd (left-clash (room - long) (sym z ∙ f)))
]

module _ (out s : List ℕ) (x : Option ℕ) (e : x ≡ space_after (Some (length out)) (length s)) where
  pub copy-none : x ≡ None → copied (Err CopyErrors.Room) out ≡ placed out s
  unfolding placed
  copy-none h = rw (lt-ltb (length out) (length s) ((room-told (length out) (length s) x e).1 h))

  pub copy-whole : (n : ℕ) → x ≡ Some n → (o : List ℕ) (r : ℕ) → written o r ≡ write (written out 0) s → copied (Ok r) o ≡ placed out s
  unfolding placed
  copy-whole n h o r f =
      let k : length s ≤ length out = (room-told (length out) (length s) x e).0 n h in
      let g = write-whole out s o r k f in
      rw (le-ltb (length out) (length s) k) (λ i. copied (Ok (g i).at) (g i).bytes)

pub ruleset copy_laws = (whole-put, whole_room, copy-none, copy-whole)

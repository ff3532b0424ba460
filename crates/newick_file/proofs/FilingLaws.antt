-- What the second pass fills from the text of a value: the value's own pairs, lengths and tips, with its numbers within the limits. Of a subtree with its
-- colon (`filed`), and of a well-spelled text (`whole-filed`). The value has any numbers; only the stack has to have room. Assumes nothing.
use Rattle.std.specs.Prelude.{◌≡◌, Bool, true, false, List, [], ◌∷◌, ◌++◌, length, get_or}
use Rattle.std.proofs.Math.Path.{refl, ap}
use Rattle.std.proofs.Common.{sym, ap₂, ◌∙◌, append_assoc, le_refl}
use Prim.Native.Nat.{ℕ, zero, suc, ◌+◌, ◌-◌, ◌*◌, ◌/◌, ◌%◌, ◌≤◌, ◌<◌, min}
use Rattle.std.proofs.Math.Decide.{dec_lt}
use native.Mathlib.Omega.{arith}
use Rattle.std.proofs.Math.ListN.{set, length-set}
use Rattle.std.proofs.Math.Seq.{get_or-set_same, get_or-set_other}
use Rattle.newick.specs.Newick.{Newick, tip, join, number_text, length_text, text, whole_text, start, done, reached, run}
use Rattle.newick.specs.Numbering.{joins, tips_in, nodes_in, node_of, pairs_in}
use Rattle.newick.specs.DecimalLaws.{digit-is, digit-back, number-one, number-snoc}
use Rattle.newick.specs.RunLaws.{read-written}
use Rattle.newick.specs.PlaceLaws.{Pair, done-pair}
use Rattle.newick_file.specs.Filing.{most, short, filer, Filing, filing, file_state, file_sign, file_byte, file, begun, capped, lengths_in, seen_in}
use Rattle.newick_file.specs.Passes.{Built}

-- ---- numbers

-- with the number v being read
abbrev reads : Filing → ℕ → Filing
reads F v = file_state F (filer F.state.height F.state.next v false)

digit-filed : (F : Filing) (d : ℕ) → d < 10 → file_byte F (48 + d) ≡ reads F (min (F.state.value * 10 + d) most)
unfolding file_byte file_sign
digit-filed F d h = rw (digit-is d h, digit-back d)

point-filed : (F : Filing) → file_byte F 46 ≡ reads F F.state.value
unfolding file_byte file_sign
point-filed F = refl

-- one digit more, within the limit
cap-digit : (m d n : ℕ) → m * 10 + d ≡ n → min (min m most * 10 + d) most ≡ min n most
cap-digit m d n e = omega arith

-- after the number m, whose next digit makes it n
more-filed : (F : Filing) (m d n : ℕ) → d < 10 → m * 10 + d ≡ n → file_byte (reads F (min m most)) (48 + d) ≡ reads F (min n most)
more-filed F m d n h e = digit-filed (reads F (min m most)) d h ∙ ap (reads F) (cap-digit m d n e)

number-filed : (k n : ℕ) → n < k → (F : Filing) → F.state.value ≡ 0 → (rest : List ℕ) → file F (number_text n ++ rest) ≡ file (reads F (min n most)) rest
unfolding file
number-filed zero n h F z rest = absurd (omega arith)
number-filed (suc k) n h F z rest = go (dec_lt n 10) (number-filed k (n / 10))
  where
    go : Dec (n < 10)
        → (n / 10 < k → (F : Filing) → F.state.value ≡ 0 → (rest : List ℕ) → file F (number_text (n / 10) ++ rest) ≡ file (reads F (min (n / 10) most)) rest)
        → file F (number_text n ++ rest) ≡ file (reads F (min n most)) rest
    go (yes p) before =
        let e : min (F.state.value * 10 + n) most ≡ min n most = omega arith in
        ap (λ (l : List ℕ). file F (l ++ rest)) (number-one n p)
        ∙ ap (λ (G : Filing). file G rest) (digit-filed F n p ∙ ap (reads F) e)
    go (no p) before =
        let d = n % 10 in
        ap (λ (l : List ℕ). file F (l ++ rest)) (number-snoc n (omega arith))
        ∙ ap (file F) (append_assoc (number_text (n / 10)) ((48 + d) ∷ []) rest)
        ∙ before (omega arith) F z ((48 + d) ∷ rest)
        ∙ ap (λ (G : Filing). file G rest) (more-filed F (n / 10) d n (omega arith) (omega arith))

length-filed : (x : ℕ) (F : Filing) → F.state.value ≡ 0 → (rest : List ℕ) → file F (length_text x ++ rest) ≡ file (reads F (min x most)) rest
unfolding file
length-filed x F z rest =
    let a = x / 100 % 10 in
    let b = x / 10 % 10 in
    let d = x % 10 in
    ap (file F) (append_assoc (number_text (x / 1000)) (46 ∷ (48 + a) ∷ (48 + b) ∷ (48 + d) ∷ []) rest)
    ∙ number-filed (suc (x / 1000)) (x / 1000) (le_refl _) F z (46 ∷ (48 + a) ∷ (48 + b) ∷ (48 + d) ∷ rest)
    ∙ ap (λ (G : Filing). file G ((48 + a) ∷ (48 + b) ∷ (48 + d) ∷ rest)) (point-filed (reads F (min (x / 1000) most)))
    ∙ ap (λ (G : Filing). file G ((48 + b) ∷ (48 + d) ∷ rest)) (more-filed F (x / 1000) a (x / 100) (omega arith) (omega arith))
    ∙ ap (λ (G : Filing). file G ((48 + d) ∷ rest)) (more-filed F (x / 100) b (x / 10) (omega arith) (omega arith))
    ∙ ap (λ (G : Filing). file G rest) (more-filed F (x / 10) d x (omega arith) (omega arith))

-- ---- signs

module _ (ps us st : List ℕ) (se : List Bool) (h n : ℕ) where
  open-filed : file_byte (filing ps us st se (filer h n 0 false)) 40 ≡ filing ps us st se (filer h n 0 false)
  unfolding file_byte file_sign
  open-filed = refl

  tip-filed : (k : ℕ) → suc h ≤ 65535
      → file_byte (filing ps us st se (filer h n (min k most) false)) 58 ≡ filing ps us (set st h (short k)) (set se (short k) true) (filer (suc h) n 0 false)
  unfolding file_byte file_sign
  tip-filed k H =
      let e : min (min k most) 65535 ≡ min k 65535 = omega arith in
      let f : min (suc h) 65535 ≡ suc h = omega arith in
      rw (e, f)

  made-filed : file_byte (filing ps us st se (filer h n 0 true)) 58 ≡ filing ps us st se (filer h n 0 false)
  unfolding file_byte file_sign
  made-filed = refl

-- with the node i waiting last, and j before it
module _ (ps us st : List ℕ) (se : List Bool) (h n v i : ℕ) where
  comma-filed : get_or st h 0 ≡ i → file_byte (filing ps us st se (filer (suc h) n v false)) 44 ≡ filing ps (set us i v) st se (filer (suc h) n 0 false)
  unfolding file_byte file_sign
  comma-filed e = let f : suc h - 1 ≡ h = omega arith in rw (f, e)

  close-filed : (j : ℕ) → get_or st (suc h) 0 ≡ i → get_or st h 0 ≡ j → suc n ≤ 65535 → file_byte (filing ps us st se (filer (suc (suc h)) n v false)) 41
      ≡ filing (set (set ps (n + n) j) (suc (n + n)) i) (set us i v) (set st h n) se (filer (suc h) (suc n) 0 true)
  unfolding file_byte file_sign
  close-filed j p q N =
      let e : suc (suc h) - 1 ≡ suc h = omega arith in
      let f : suc (suc h) - 2 ≡ h = omega arith in
      let c : min n 65535 ≡ n = omega arith in
      let d : min (suc n) 65535 ≡ suc n = omega arith in
      rw (e, f, p, q, c, d)

-- ---- a subtree and its colon

-- what waited below h waits still, and at h the node i
record Waits (i h : ℕ) (st st' : List ℕ) : Type 0 where
  long : length st' ≡ length st
  below : (j : ℕ) → j < h → get_or st' j 0 ≡ get_or st j 0
  top : get_or st' h 0 ≡ i

waits-put : (i h : ℕ) (st : List ℕ) → h < length st → Waits i h st (set st h i)
waits-put i h st H = record {
  long = length-set st h i;
  below = λ j J. get_or-set_other st h j i 0 (λ e. omega arith);
  top = get_or-set_same st h i 0 H;
}

record Filed (t : Newick) (ps us st : List ℕ) (se : List Bool) (h n : ℕ) : Type 0 where
  stack : List ℕ
  waits : Waits (node_of n (capped t)) h st stack
  goes : (rest : List ℕ) → file (filing ps us st se (filer h n 0 false)) (text t ++ (58 ∷ rest))
      ≡ file (filing (pairs_in n (capped t) ps) (lengths_in n (capped t) us) stack (seen_in (capped t) se) (filer (suc h) (n + joins (capped t)) 0 false)) rest

abbrev inside : Newick → ℕ → Newick → ℕ → List ℕ → List ℕ
inside a x b y rest = text a ++ (58 ∷ length_text x ++ (44 ∷ text b ++ (58 ∷ length_text y ++ (41 ∷ rest))))

glue : (a x b y r : List ℕ) → (40 ∷ a ++ (58 ∷ x ++ (44 ∷ b ++ (58 ∷ y ++ (41 ∷ []))))) ++ r ≡ 40 ∷ a ++ (58 ∷ x ++ (44 ∷ b ++ (58 ∷ y ++ (41 ∷ r))))
glue a x b y r = simp append_assoc

join-text : (a : Newick) (x : ℕ) (b : Newick) (y : ℕ) (rest : List ℕ) → text (join a x b y) ++ rest ≡ 40 ∷ inside a x b y rest
unfolding text
join-text a x b y rest = glue (text a) (length_text x) (text b) (length_text y) rest

pub joins-capped : (t : Newick) → joins (capped t) ≡ joins t
unfolding joins capped
joins-capped (tip k) = refl
joins-capped (join a x b y) = ap₂ (λ (p q : ℕ). suc (p + q)) (joins-capped a) (joins-capped b)

-- two subtrees, one after the other
module _ (a : Newick) (x : ℕ) (b : Newick) (y : ℕ) (ps us st : List ℕ) (se : List Bool) (h n : ℕ) where
  abbrev m : ℕ
  m = n + joins (capped a)

  abbrev i : ℕ
  i = node_of n (capped a)

  abbrev j : ℕ
  j = node_of m (capped b)

  abbrev v : ℕ
  v = m + joins (capped b)

  abbrev ps₁ : List ℕ
  ps₁ = pairs_in n (capped a) ps

  abbrev us₁ : List ℕ
  us₁ = lengths_in n (capped a) us

  abbrev us₂ : List ℕ
  us₂ = set us₁ i (min x most)

  abbrev se₁ : List Bool
  se₁ = seen_in (capped a) se

  join-filed : (A : Filed a ps us st se h n) → Filed b ps₁ us₂ A.stack se₁ (suc h) m → h < length st → v < 65535 → Filed (join a x b y) ps us st se h n
  unfolding capped node_of joins pairs_in lengths_in seen_in file
  join-filed A B R N = record {
    stack = set B.stack h v;
    waits = record {
      long = length-set B.stack h v ∙ B.waits.long ∙ A.waits.long;
      below = λ k K. get_or-set_other B.stack h k v 0 (λ e. omega arith) ∙ B.waits.below k (omega arith) ∙ A.waits.below k K;
      top = get_or-set_same B.stack h v 0 (let p = B.waits.long in let q = A.waits.long in omega arith);
    };
    goes = λ rest.
        let ps₂ = pairs_in m (capped b) ps₁ in
        let ps₃ = set (set ps₂ (v + v) i) (suc (v + v)) j in
        let us₃ = lengths_in m (capped b) us₂ in
        let se₂ = seen_in (capped b) se₁ in
        let w = min y most in
        let e : suc v ≡ n + suc (joins (capped a) + joins (capped b)) = omega arith in
        let between = comma-filed ps₁ us₁ A.stack se₁ h m (min x most) i A.waits.top in
        let behind = close-filed ps₂ us₃ B.stack se₂ h v w j i B.waits.top (B.waits.below h (omega arith) ∙ A.waits.top) (omega arith) in
        ap (file (filing ps us st se (filer h n 0 false))) (join-text a x b y (58 ∷ rest))
        ∙ ap (λ (G : Filing). file G (inside a x b y (58 ∷ rest))) (open-filed ps us st se h n)
        ∙ A.goes (length_text x ++ (44 ∷ text b ++ (58 ∷ length_text y ++ (41 ∷ 58 ∷ rest))))
        ∙ length-filed x (filing ps₁ us₁ A.stack se₁ (filer (suc h) m 0 false)) refl (44 ∷ text b ++ (58 ∷ length_text y ++ (41 ∷ 58 ∷ rest)))
        ∙ ap (λ (G : Filing). file G (text b ++ (58 ∷ length_text y ++ (41 ∷ 58 ∷ rest)))) between
        ∙ B.goes (length_text y ++ (41 ∷ 58 ∷ rest))
        ∙ length-filed y (filing ps₂ us₃ B.stack se₂ (filer (suc (suc h)) v 0 false)) refl (41 ∷ 58 ∷ rest)
        ∙ ap (λ (G : Filing). file G (58 ∷ rest)) behind
        ∙ ap (λ (G : Filing). file G rest) (made-filed ps₃ (set us₃ j w) (set B.stack h v) se₂ (suc h) (suc v))
        ∙ ap (λ (k : ℕ). file (filing ps₃ (set us₃ j w) (set B.stack h v) se₂ (filer (suc h) k 0 false)) rest) e;
  }

filed : (t : Newick) (ps us st : List ℕ) (se : List Bool) (h n : ℕ) → h + joins t < length st → length st ≤ 65535 → n + joins t ≤ 65535
    → Filed t ps us st se h n
unfolding text joins node_of pairs_in lengths_in seen_in capped file
filed (tip k) ps us st se h n R L N = record {
  stack = set st h (short k);
  waits = waits-put (short k) h st (omega arith);
  goes = λ rest.
      let z : n + 0 ≡ n = omega arith in
      number-filed (suc k) k (le_refl _) (filing ps us st se (filer h n 0 false)) refl (58 ∷ rest)
      ∙ ap (λ (G : Filing). file G rest) (tip-filed ps us st se h n k (omega arith))
      ∙ ap (λ (j : ℕ). file (filing ps us (set st h (short k)) (set se (short k) true) (filer (suc h) j 0 false)) rest) (sym z);
}
filed (join a x b y) ps us st se h n R L N =
    let p = joins-capped a in
    let q = joins-capped b in
    let us₂ = set (lengths_in n (capped a) us) (node_of n (capped a)) (min x most) in
    let A = filed a ps us st se h n (omega arith) L (omega arith) in
    let l = A.waits.long in
    let B = filed b (pairs_in n (capped a) ps) us₂ A.stack (seen_in (capped a) se) (suc h) (n + joins (capped a)) (omega arith) (omega arith) (omega arith) in
    join-filed a x b y ps us st se h n A B (omega arith) (omega arith)

-- ---- the whole text: the semicolon behind the last parenthesis does what a colon does there

file-append : (F : Filing) (s r : List ℕ) → file F (s ++ r) ≡ file (file F s) r
unfolding file
file-append F [] r = refl
file-append F (b ∷ s) r = file-append (file_byte F b) s r

end-filed : (G : Filing) → file G (41 ∷ 59 ∷ []) ≡ file G (41 ∷ 58 ∷ [])
unfolding file file_byte file_sign
end-filed G = refl

last-filed : (F : Filing) (s : List ℕ) → file F ((s ++ (41 ∷ [])) ++ (59 ∷ [])) ≡ file F ((s ++ (41 ∷ [])) ++ (58 ∷ []))
last-filed F s =
    ap (file F) (append_assoc s (41 ∷ []) (59 ∷ [])) ∙ file-append F s (41 ∷ 59 ∷ [])
    ∙ end-filed (file F s)
    ∙ sym (ap (file F) (append_assoc s (41 ∷ []) (58 ∷ [])) ∙ file-append F s (41 ∷ 58 ∷ []))

regroup : (a x b y : List ℕ) → 40 ∷ a ++ (58 ∷ x ++ (44 ∷ b ++ (58 ∷ y ++ (41 ∷ [])))) ≡ (40 ∷ a ++ (58 ∷ x ++ (44 ∷ b ++ (58 ∷ y)))) ++ (41 ∷ [])
regroup a x b y = simp append_assoc

semicolon-filed : (F : Filing) (t : Newick) → Pair t → file F (whole_text t) ≡ file F (text t ++ (58 ∷ []))
unfolding whole_text text
semicolon-filed F t P =
    let s = 40 ∷ text P.left ++ (58 ∷ length_text P.upper ++ (44 ∷ text P.right ++ (58 ∷ length_text P.lower))) in
    let e : text t ≡ s ++ (41 ∷ []) = ap text P.is ∙ regroup (text P.left) (length_text P.upper) (text P.right) (length_text P.lower) in
    ap (λ (l : List ℕ). file F (l ++ (59 ∷ []))) e ∙ last-filed F s ∙ ap (λ (l : List ℕ). file F (l ++ (58 ∷ []))) (sym e)

-- S-1: what the pass fills from a text is what the text says, with its numbers within the limits
pub whole-filed : (s : List ℕ) (t : Newick) → run start [] s ≡ reached (done t) [] → (ps us st : List ℕ) (se : List Bool)
    → tips_in t ≤ length st → length st ≤ 65535 → nodes_in t ≤ 65535
    → Built (pairs_in (tips_in t) (capped t) ps) (lengths_in (tips_in t) (capped t) us) (seen_in (capped t) se) (file (begun (tips_in t) ps us st se) s)
unfolding file
whole-filed s t e ps us st se R L N =
    let B = begun (tips_in t) ps us st se in
    let D = filed t ps us st se 0 (tips_in t) (omega arith) L (omega arith) in
    let f = ap (file B) (sym (read-written s t e)) ∙ semicolon-filed B t (done-pair s t e) ∙ D.goes [] in
    record { pairs = sym (ap (λ (G : Filing). G.pairs) f); ups = sym (ap (λ (G : Filing). G.ups) f); seen = sym (ap (λ (G : Filing). G.seen) f) }

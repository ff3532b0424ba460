-- What the answer of `tree::new` says of the pairs and heights that it was given: they make no tree (`new-refused`), or the tree with the parents that it found
-- (`new-made`); and that more nodes than any tree has are refused (`new-large`). Assumes nothing.
use Rattle.std.specs.Prelude.{◌≡◌, refl, List, ℕ, ◌≤◌, ◌<◌, length, Float, Result, Ok, Err}
use Rattle.std.proofs.Common.{sym, ap, arith, eq-eqb, le-leb}
use Rattle.std.proofs.lemmas.Bool.{lt-leb}
use Rattle.answer.specs.declared.Refusal.{Refusal}
use Rattle.answer.specs.declared.Refusal.TheVariants.{Size}
use Rattle.tree.specs.Tree.{nodes_of}
use Rattle.tree.specs.New.{New, refused, made, new_tree, NewCall, new_answered, new_call}
use Rattle.tree.specs.Given.{tree_of, new_given}
use Rattle.accepted.specs.AcceptedLaws.{new-given}

-- r and ps are what it answered and the parents after it
module _ (pairs parents ps : List ℕ) (heights : List Float) (each : length parents ≡ nodes_of pairs) (r : Result ℕ Refusal)
    (e : new_given r ps ≡ new_call pairs heights parents) where
  answers : new_given r ps ≡ new_answered parents (new_tree pairs heights)
  unfolding new_call
  answers = rw (eq-eqb (length parents) (nodes_of pairs) each) at e

  pub new-refused : (why : Refusal) → r ≡ Err why → new_tree pairs heights ≡ refused why
  new-refused why y = go (new_tree pairs heights) answers
    where
      go : (n : New) → new_given r ps ≡ new_answered parents n → n ≡ refused why
      go (refused w) a = let q : r ≡ Err w = ap (λ (c : NewCall). c.answer) a in cc
      go (made t) a = let q : r ≡ Ok t.root = ap (λ (c : NewCall). c.answer) a in let z : ◌≡◌ {A = ℕ} 0 1 = cc in absurd (omega arith)

  pub new-made : (root : ℕ) → r ≡ Ok root → new_tree pairs heights ≡ made (tree_of pairs ps heights root)
  new-made root y = go (new_tree pairs heights) refl answers
    where
      go : (n : New) → new_tree pairs heights ≡ n → new_given r ps ≡ new_answered parents n → n ≡ made (tree_of pairs ps heights root)
      go (refused w) m a = let q : r ≡ Err w = ap (λ (c : NewCall). c.answer) a in let z : ◌≡◌ {A = ℕ} 0 1 = cc in absurd (omega arith)
      go (made t) m a =
          let q : r ≡ Ok t.root = ap (λ (c : NewCall). c.answer) a in
          let f : t.root ≡ root = cc in
          let g = new-given pairs heights t m in
          let h : t.parents ≡ ps = sym (ap (λ (c : NewCall). c.parents) a) in
          ap made (λ i. record { pairs = g.0 i; parents = h i; heights = g.1 i; root = f i })

pub new-large : (pairs : List ℕ) (heights : List Float) → 4095 < nodes_of pairs → new_tree pairs heights ≡ refused (Size (nodes_of pairs))
unfolding new_tree
new-large pairs heights h = let g : 3 ≤ nodes_of pairs = omega arith in rw (le-leb 3 (nodes_of pairs) g, lt-leb (nodes_of pairs) 4095 h)

-- The ways through the readers of single lines. Assumes nothing.
use mathlib.Core.Path.{◌≡◌, refl, sym, ap, ◌∙◌}
use mathlib.Core.Bool.{Bool, true, false, cond}
use mathlib.Core.List.{List, [], ◌∷◌, ◌++◌}
use Prim.Native.Nat.{ℕ}
use native.Mathlib.Omega.{arith}
use lib.Dec.{eqb, lit<}
use lib.ListN.{drop}
use mir.Val.{Fits}
use mir.Syntax.{w16}
use borrow.Author.Rules.{Fits-under}
use Rattle.text.specs.Text.{bytes, line_end}
use Rattle.text.specs.Rules.{Rule, Parsed, malformed, parsed, return, onward, ◌>>=◌, literal, fixed, word, decimal}
use Rattle.text.specs.Places.{placed, numbered}
use Rattle.text.specs.ExactLaws.{unread, decimal-small}
use Rattle.forms.specs.Forms.{entry, next, most_nodes, words, name_of, one_of, takes_node, takes_tuning, edition_line, node_line, tuning_line, pair_line}
use Rattle.forms.specs.Given.{worded, named, paired}
use Rattle.forms.specs.declared.Words.{Words}
use Rattle.forms.specs.declared.Kind.{Kind}
use Rattle.std.specs.Prelude.{Option, Some, None}

-- ---- a number and the end of its line

module _ (s : List ℕ) (n : Option (ℕ × ℕ)) where
  pub end-malformed : (r : Option (ℕ × ℕ)) → n ≡ None → r ≡ None → numbered s r ≡ onward (numbered s n) (fixed line_end)
  unfolding onward
  end-malformed r e w = rw (w, e)

  module _ (v i : ℕ) (p : Option ℕ) (q : n ≡ Some (v, i)) (e : placed s p ≡ literal (10 ∷ []) (drop i s)) where
    pub end-missing : (r : Option (ℕ × ℕ)) → p ≡ None → r ≡ None → numbered s r ≡ onward (numbered s n) (fixed line_end)
    unfolding onward fixed ◌>>=◌ return
    end-missing r m w = rw (w, q, ← e, m)

    pub end-there : (j : ℕ) → p ≡ Some j → numbered s (Some (v, j)) ≡ onward (numbered s n) (fixed line_end)
    unfolding onward fixed ◌>>=◌ return
    end-there j m = rw (q, ← e, m)

pub ruleset end_laws = (end-malformed, end-missing, end-there)

-- ---- a key and a value

module _ {A : Type 0} (s : List ℕ) (p : Option ℕ) (key : List ℕ) (value : Rule A) (t : List ℕ) (e : placed s p ≡ literal key t) where
  key-absent : p ≡ None → malformed ≡ entry key value t
  unfolding onward ◌>>=◌ entry
  key-absent m = rw (← e, m)

  pub key-there : (i : ℕ) (x y : Parsed A) → p ≡ Some i → x ≡ value (drop i s) → y ≡ onward x (fixed line_end) → y ≡ entry key value t
  unfolding onward ◌>>=◌ entry
  key-there i x y m r q = q ∙ rw (r, ← e, m)

module _ (s : List ℕ) (p : Option ℕ) (key t : List ℕ) (m : p ≡ None) (e : placed s p ≡ literal key t) where
  pub key-missing : (r : Option (ℕ × ℕ)) (value : Rule ℕ) → r ≡ None → numbered s r ≡ entry key value t
  key-missing r value w = rw w (key-absent s p key value t e m)

  pub key-unmoved : (r : Option (Kind × ℕ)) (value : Rule Kind) → r ≡ None → named s r ≡ entry key value t
  key-unmoved r value w = rw w (key-absent s p key value t e m)

  pub key-unworded : (r : Option (Words × ℕ)) (value : Rule Words) → r ≡ None → worded s r ≡ entry key value t
  key-unworded r value w = rw w (key-absent s p key value t e m)

pub ruleset key_laws = (key-missing, key-there)

-- ---- a fixed line

literal-append : (a b s : List ℕ) → literal (a ++ b) s ≡ (literal a >>= (λ _. literal b)) s
unfolding literal onward ◌>>=◌
literal-append [] b s = refl
literal-append (k ∷ a) b [] = refl
literal-append (k ∷ a) b (c ∷ s) = either (eqb c k) (literal-append a b s)
  where
    either : (t : Bool) → literal (a ++ b) s ≡ onward (literal a s) (λ _. literal b) → cond t (literal (a ++ b) s) malformed ≡ onward (cond t (literal a s) malformed) (λ _. literal b)
    either true e = e
    either false e = refl

-- a key, a fixed value and the end of the line are one text
entry-fixed : {A : Type 0} (key text : List ℕ) (a : A) (s : List ℕ) → fixed (key ++ (text ++ line_end)) a s ≡ entry key (fixed text a) s
unfolding onward ◌>>=◌ return fixed entry
entry-fixed key text a s =
    ap (λ (p : Parsed Unit). onward p (λ _. return a)) (literal-append key (text ++ line_end) s) ∙ keyed (literal key s)
  where
    valued : (p : Parsed Unit) → onward (onward p (λ _. literal line_end)) (λ _. return a) ≡ onward (onward p (λ _. return a)) (fixed line_end)
    valued malformed = refl
    valued (parsed u r) = refl

    keyed : (p : Parsed Unit) → onward (onward p (λ _. literal (text ++ line_end))) (λ _. return a) ≡ onward p (λ _. fixed text a >>= fixed line_end)
    keyed malformed = refl
    keyed (parsed u r) = ap (λ (p : Parsed Unit). onward p (λ _. return a)) (literal-append text line_end r) ∙ valued (literal text r)

module _ (s text t : List ℕ) (n : ℕ) (p : Option ℕ) (e : placed s p ≡ literal text t) where
  pub fixed-missing : (r : Option (ℕ × ℕ)) → p ≡ None → r ≡ None → numbered s r ≡ fixed text n t
  unfolding onward ◌>>=◌ return fixed
  fixed-missing r m w = rw (w, ← e, m)

  pub fixed-there : (i : ℕ) → p ≡ Some i → numbered s (Some (n, i)) ≡ fixed text n t
  unfolding onward ◌>>=◌ return fixed
  fixed-there i m = rw (← e, m)

pub edition-fixed : (x : Parsed ℕ) (s : List ℕ) → x ≡ fixed (bytes "edition=1\n") 1 s → x ≡ edition_line s
unfolding edition_line
edition-fixed x s e = e ∙ entry-fixed (bytes "edition=") (bytes "1") 1 s

module _ (x : Parsed ℕ) (k : Kind) (t : Bool) (s : List ℕ) where
  pub tuning-used : t ≡ takes_tuning k → t ≡ true → x ≡ entry (bytes "tuning=") word s → x ≡ tuning_line k s
  unfolding tuning_line
  tuning-used q h e = e ∙ ap (λ (b : Bool). entry (bytes "tuning=") (cond b word (fixed (bytes "0000000000000000") 0)) s) (sym h ∙ q)

  pub tuning_unused : t ≡ takes_tuning k → t ≡ false → x ≡ fixed (bytes "tuning=0000000000000000\n") 0 s → x ≡ tuning_line k s
  unfolding tuning_line
  tuning_unused q h e =
      e
      ∙ entry-fixed (bytes "tuning=") (bytes "0000000000000000") 0 s
      ∙ ap (λ (b : Bool). entry (bytes "tuning=") (cond b word (fixed (bytes "0000000000000000") 0)) s) (sym h ∙ q)

  pub node-most : (m : ℕ) → t ≡ takes_node k → m ≡ cond t most_nodes 0 → x ≡ entry (bytes "node=") (decimal m) s → x ≡ node_line k s
  unfolding node_line
  node-most m q h e = e ∙ ap (λ (b : ℕ). entry (bytes "node=") (decimal b) s) (h ∙ ap (λ (b : Bool). cond b most_nodes 0) q)

pub ruleset fixed_laws = (fixed-missing, fixed-there, edition-fixed, tuning-used, tuning_unused, node-most)

-- ---- a value after a comma

module _ (s : List ℕ) (p : Option ℕ) (rule : Rule ℕ) (t : List ℕ) (e : placed s p ≡ literal (44 ∷ []) t) where
  pub next-missing : (r : Option (ℕ × ℕ)) → p ≡ None → r ≡ None → numbered s r ≡ next rule t
  unfolding onward ◌>>=◌ next
  next-missing r m w = rw (w, ← e, m)

  pub next-there : (i : ℕ) (x : Parsed ℕ) → p ≡ Some i → x ≡ rule (drop i s) → x ≡ next rule t
  unfolding onward ◌>>=◌ next
  next-there i x m q = q ∙ rw (← e, m)

pub ruleset next_laws = (next-missing, next-there)

-- ---- four words

module _ (s t : List ℕ) (a : Option (ℕ × ℕ)) (ea : numbered s a ≡ word t) where
  pub words-none : (r : Option (Words × ℕ)) → a ≡ None → r ≡ None → worded s r ≡ words t
  unfolding onward ◌>>=◌ words
  words-none r m w = rw (w, ← ea, m)

  module _ (x i : ℕ) (b : Option (ℕ × ℕ)) (pa : a ≡ Some (x, i)) (eb : numbered s b ≡ next word (drop i s)) where
    pub words-one : (r : Option (Words × ℕ)) → b ≡ None → r ≡ None → worded s r ≡ words t
    unfolding onward ◌>>=◌ words
    words-one r m w = rw (w, ← ea, pa, ← eb, m)

    module _ (y j : ℕ) (c : Option (ℕ × ℕ)) (pb : b ≡ Some (y, j)) (ec : numbered s c ≡ next word (drop j s)) where
      pub words-two : (r : Option (Words × ℕ)) → c ≡ None → r ≡ None → worded s r ≡ words t
      unfolding onward ◌>>=◌ words
      words-two r m w = rw (w, ← ea, pa, ← eb, pb, ← ec, m)

      module _ (z k : ℕ) (d : Option (ℕ × ℕ)) (pc : c ≡ Some (z, k)) (ed : numbered s d ≡ next word (drop k s)) where
        pub words-three : (r : Option (Words × ℕ)) → d ≡ None → r ≡ None → worded s r ≡ words t
        unfolding onward ◌>>=◌ words
        words-three r m w = rw (w, ← ea, pa, ← eb, pb, ← ec, pc, ← ed, m)

        pub words-four : (w l : ℕ) → d ≡ Some (w, l) → worded s (Some ((record { a = x; b = y; c = z; d = w }), l)) ≡ words t
        unfolding onward ◌>>=◌ return words
        words-four w l m = rw (← ea, pa, ← eb, pb, ← ec, pc, ← ed, m)

pub ruleset words_laws = (words-none, words-one, words-two, words-three, words-four)

-- ---- a value whose reader leaves the end of the line

module _ {A : Type 0} (s : List ℕ) (p : Option ℕ) (key : List ℕ) (value : Rule A) (t : List ℕ) (i : ℕ) (x : Parsed A)
    (e : placed s p ≡ literal key t) (m : p ≡ Some i) (ex : x ≡ value (drop i s)) where
  value-malformed : x ≡ malformed → malformed ≡ entry key value t
  unfolding onward ◌>>=◌ entry
  value-malformed n = rw (← e, m, ← ex, n)

  module _ (a : A) (j : ℕ) (q : Option ℕ) (px : x ≡ parsed a (drop j s)) (eq : placed s q ≡ literal (10 ∷ []) (drop j s)) where
    value-open : q ≡ None → malformed ≡ entry key value t
    unfolding onward ◌>>=◌ return fixed entry
    value-open n = rw (← e, m, ← ex, px, ← eq, n)

    value_there : (l : ℕ) → q ≡ Some l → parsed a (drop l s) ≡ entry key value t
    unfolding onward ◌>>=◌ return fixed entry
    value_there l n = rw (← e, m, ← ex, px, ← eq, n)

module _ (s : List ℕ) (p : Option ℕ) (key t : List ℕ) (i : ℕ) (e : placed s p ≡ literal key t) (m : p ≡ Some i) where
  module _ (value : Rule Words) (r : Option (Words × ℕ)) (er : worded s r ≡ value (drop i s)) where
    pub words-malformed : (o : Option (Words × ℕ)) → r ≡ None → o ≡ None → worded s o ≡ entry key value t
    words-malformed o n z = rw z (value-malformed s p key value t i (worded s r) e m er (ap (worded s) n))

    module _ (w : Words) (j : ℕ) (q : Option ℕ) (n : r ≡ Some (w, j)) (eq : placed s q ≡ literal (10 ∷ []) (drop j s)) where
      pub words_open : (o : Option (Words × ℕ)) → q ≡ None → o ≡ None → worded s o ≡ entry key value t
      words_open o h z = rw z (value-open s p key value t i (worded s r) e m er w j q (ap (worded s) n) eq h)

      pub words-there : (l : ℕ) → q ≡ Some l → worded s (Some (w, l)) ≡ entry key value t
      words-there = value_there s p key value t i (worded s r) e m er w j q (ap (worded s) n) eq

  module _ (value : Rule Kind) (r : Option (Kind × ℕ)) (er : named s r ≡ value (drop i s)) where
    pub name-malformed : (o : Option (Kind × ℕ)) → r ≡ None → o ≡ None → named s o ≡ entry key value t
    name-malformed o n z = rw z (value-malformed s p key value t i (named s r) e m er (ap (named s) n))

    module _ (k : Kind) (j : ℕ) (q : Option ℕ) (n : r ≡ Some (k, j)) (eq : placed s q ≡ literal (10 ∷ []) (drop j s)) where
      pub name-open : (o : Option (Kind × ℕ)) → q ≡ None → o ≡ None → named s o ≡ entry key value t
      name-open o h z = rw z (value-open s p key value t i (named s r) e m er k j q (ap (named s) n) eq h)

      pub name-there : (l : ℕ) → q ≡ Some l → named s (Some (k, l)) ≡ entry key value t
      name-there = value_there s p key value t i (named s r) e m er k j q (ap (named s) n) eq

pub ruleset value_laws = (key-unmoved, key-unworded, words-malformed, words_open, words-there, name-malformed, name-open, name-there)

-- ---- the name of a move

module _ (s t : List ℕ) (p : Option ℕ) (k : Kind) (ks : List Kind) (e : placed s p ≡ literal (name_of k) t) where
  pub name-here : (i : ℕ) → p ≡ Some i → parsed k (drop i s) ≡ one_of (k ∷ ks) t
  unfolding onward ◌>>=◌ return fixed one_of
  name-here i m = rw (← e, m)

  pub name-next : (x : Parsed Kind) → p ≡ None → x ≡ one_of ks t → x ≡ one_of (k ∷ ks) t
  unfolding onward ◌>>=◌ return fixed one_of
  name-next x m q = q ∙ rw (← e, m)

pub name-none : (t : List ℕ) → malformed ≡ one_of [] t
unfolding one_of
name-none t = refl

pub ruleset name_laws = (name-here, name-next, name-none)

-- ---- a pair

module _ (s t : List ℕ) (p : Option ℕ) (i : ℕ) (a : Option (ℕ × ℕ)) (e : placed s p ≡ literal (bytes "pair=") t) (m : p ≡ Some i) (ea : numbered s a ≡ decimal most_nodes (drop i s)) where
  pub pair-none : (r : Option (ℕ × ℕ × ℕ)) → a ≡ None → r ≡ None → paired s r ≡ pair_line t
  unfolding onward ◌>>=◌ entry pair_line
  pair-none r n w = rw (w, ← e, m, ← ea, n)

  module _ (x j : ℕ) (b : Option (ℕ × ℕ)) (pa : a ≡ Some (x, j)) (eb : numbered s b ≡ next (decimal most_nodes) (drop j s)) where
    pub pair_one : (r : Option (ℕ × ℕ × ℕ)) → b ≡ None → r ≡ None → paired s r ≡ pair_line t
    unfolding onward ◌>>=◌ entry pair_line
    pair_one r n w = rw (w, ← e, m, ← ea, pa, ← eb, n)

    module _ (y k : ℕ) (q : Option ℕ) (pb : b ≡ Some (y, k)) (eq : placed s q ≡ literal (10 ∷ []) (drop k s)) where
      pub pair-open : (r : Option (ℕ × ℕ × ℕ)) → q ≡ None → r ≡ None → paired s r ≡ pair_line t
      unfolding onward ◌>>=◌ return fixed entry pair_line
      pair-open r n w = rw (w, ← e, m, ← ea, pa, ← eb, pb, ← eq, n)

      pub pair-there : (l : ℕ) → q ≡ Some l → paired s (Some (x, y, l)) ≡ pair_line t
      unfolding onward ◌>>=◌ return fixed entry pair_line
      pair-there l n = rw (← e, m, ← ea, pa, ← eb, pb, ← eq, n)

pub pair_missing : (s t : List ℕ) (p : Option ℕ) → placed s p ≡ literal (bytes "pair=") t → (r : Option (ℕ × ℕ × ℕ)) → p ≡ None → r ≡ None → paired s r ≡ pair_line t
unfolding onward ◌>>=◌ entry pair_line
pair_missing s t p e r m w = rw (w, ← e, m)

-- a node's number is one of u16
pub node-fits : (s t : List ℕ) (a : Option (ℕ × ℕ)) (x i : ℕ) → numbered s a ≡ decimal most_nodes t → a ≡ Some (x, i) → Fits w16 x
node-fits s t a x i e p =
    let q : decimal most_nodes t ≡ parsed x (drop i s) = sym e ∙ ap (numbered s) p in
    let l = decimal-small most_nodes x t (drop i s) (lit< tt) q in
    Fits-under w16 x 65536 (omega arith) tt

pub next_fits : (s t : List ℕ) (a : Option (ℕ × ℕ)) (x i : ℕ) → numbered s a ≡ next (decimal most_nodes) t → a ≡ Some (x, i) → Fits w16 x
unfolding onward ◌>>=◌ next
next_fits s t a x i e p = go (literal (bytes ",") t) (sym e ∙ ap (numbered s) p)
  where
    go : (y : Parsed Unit) → onward y (λ _. decimal most_nodes) ≡ parsed x (drop i s) → Fits w16 x
    go malformed q = absurd (unread q)
    go (parsed u r) q = let l = decimal-small most_nodes x r (drop i s) (lit< tt) q in Fits-under w16 x 65536 (omega arith) tt

pub ruleset pair_laws = (pair_missing, pair-none, pair_one, pair-open, pair-there, node-fits, next_fits)

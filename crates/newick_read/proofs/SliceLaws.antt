-- The ways through the loops over slices, and through the code that writes the lent ones. Assumes nothing.
use mathlib.Core.Path.{◌≡◌, refl, sym, ap, ap₂, ◌∙◌}
use mathlib.Core.Bool.{Bool, true, false, ◌&&◌, false≢true}
use Rattle.std.specs.Prelude.{IsTrue, ◌↔◌}
use mathlib.Core.List.{List, ◌++◌}
use Prim.Native.Nat.{ℕ, zero, suc, ◌+◌, ◌≤◌, ◌<◌}
use native.Mathlib.Decide.{ℕ_discrete}
use native.Mathlib.Omega.{arith}
use lib.ListN.{length, get_or, take, drop}
use lib.Seq.{length-take-le}
use borrow.Author.Tests.{lt-ltb, le-ltb}
use Rattle.newick.specs.Copies.{taken}
use Rattle.newick_read.specs.Taking.{root_ages, all_seen, deliver}
use Rattle.std.specs.Prelude.{Ok, Err}
use Rattle.newick.specs.declared.ReadError.TheVariants as ReadErrors

-- ---- tips that were seen

seen-fails : (se : List Bool) (m d : ℕ) → all_seen se m ≡ false → all_seen se (d + m) ≡ false
unfolding all_seen
seen-fails se m zero e = (let z : 0 + m ≡ m = omega arith in ap (all_seen se) z) ∙ e
seen-fails se m (suc d) e =
    let z : suc d + m ≡ suc (d + m) = omega arith in
    ap (all_seen se) z ∙ ap (λ (c : Bool). c && get_or se (d + m) false) (seen-fails se m d e)

seen-all : (se : List Bool) (m : ℕ) → ((k : ℕ) → k < m → get_or se k false ≡ true) → all_seen se m ≡ true
unfolding all_seen
seen-all se zero h = refl
seen-all se (suc m) h = rw (seen-all se m (λ k l. h k (omega arith)), h m (omega arith))

seen-each : (se : List Bool) (m : ℕ) → all_seen se m ≡ true → (k : ℕ) → k < m → get_or se k false ≡ true
unfolding all_seen
seen-each se zero e k l = absurd (omega arith)
seen-each se (suc m) e k l = go (all_seen se m) refl (get_or se m false) refl e (ℕ_discrete k m) (λ p j. seen-each se m p k j)
  where
    go : (a : Bool) → all_seen se m ≡ a → (b : Bool) → get_or se m false ≡ b → a && b ≡ true → Dec (k ≡ m) → (all_seen se m ≡ true → k < m → get_or se k false ≡ true) → get_or se k false ≡ true
    go true p true q f (yes z) before = ap (λ (i : ℕ). get_or se i false) z ∙ q
    go true p true q f (no z) before = before p (omega arith)
    go true p false q f d before = absurd (false≢true f)
    go false p b q f d before = absurd (false≢true f)

pub seen_is : (se : List Bool) (r : Bool) → IsTrue r ↔ ((k : ℕ) → k < length se → get_or se k false ≡ true) → r ≡ all_seen se (length se)
seen_is se true h = sym (seen-all se (length se) (h.0 refl))
seen_is se false h = go (all_seen se (length se)) refl
  where
    go : (b : Bool) → all_seen se (length se) ≡ b → false ≡ all_seen se (length se)
    go true e = absurd (false≢true (h.1 (seen-each se (length se) e)))
    go false e = sym e

-- ---- the lent slices

pub part_room : (a b : List ℕ) → length a ≤ length b → length a ≡ length (take (length a) b)
part_room a b h = sym (length-take-le (length a) b h)

pub pairs-sent : (fo l m : List ℕ) → m ≡ fo → m ++ drop (length fo) l ≡ fo ++ drop (length fo) l
pairs-sent fo l m e = ap (λ (x : List ℕ). x ++ drop (length fo) l) e

module _ (tips : ℕ) (fo us : List ℕ) (h : ℕ) where
  pub ages-sent : (l m : List ℕ) → length us ≤ length l → m ≡ root_ages tips fo us h (length (take (length us) l))
      → m ++ drop (length us) l ≡ root_ages tips fo us h (length us) ++ drop (length us) l
  ages-sent l m k e = ap (λ (x : List ℕ). x ++ drop (length us) l) (e ∙ ap (root_ages tips fo us h) (length-take-le (length us) l k))

  module _ (pairs ages : List ℕ) where
    pub pairs-short : length pairs < length fo → taken (Err ReadErrors.Room) pairs ages ≡ deliver tips fo us h pairs ages
    unfolding deliver
    pairs-short e = rw (lt-ltb (length pairs) (length fo) e)

    module _ (e : length fo ≤ length pairs) where
      pub ages-short : length ages < length us → taken (Err ReadErrors.Room) pairs ages ≡ deliver tips fo us h pairs ages
      unfolding deliver
      ages-short f = rw (le-ltb (length pairs) (length fo) e, lt-ltb (length ages) (length us) f)

      pub both-sent : length us ≤ length ages → (p a : List ℕ) → p ≡ fo ++ drop (length fo) pairs
          → a ≡ root_ages tips fo us h (length us) ++ drop (length us) ages → taken (Ok (length us)) p a ≡ deliver tips fo us h pairs ages
      unfolding deliver
      both-sent f p a g i = rw (le-ltb (length pairs) (length fo) e, le-ltb (length ages) (length us) f) (ap₂ (taken (Ok (length us))) g i)

pub ruleset send_laws = (part_room, pairs-sent, ages-sent, pairs-short, ages-short, both-sent)

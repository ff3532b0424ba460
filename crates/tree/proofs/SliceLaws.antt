-- Two lists agree at each place exactly where they are one list. Assumes nothing.
use Rattle.std.specs.Prelude.{◌≡◌, Bool, List, ℕ, ◌<◌, length, get_or}
use Rattle.std.proofs.Math.Bool.{true, false}
use Rattle.std.proofs.Math.Decide.{ℕ_discrete}
use Rattle.std.proofs.Common.{refl, zero, suc, arith}
use Rattle.std.proofs.lemmas.Bool.{and_parts, eqb-true, eq-eqb}
use lib.Dec.{eqb}
use lib.Seq.{ext_get_or}
use Rattle.tree.specs.New.{agree}

pub agree-same : (a : List ℕ) (m : ℕ) → agree a a m ≡ true
unfolding agree
agree-same a zero = refl
agree-same a (suc m) = rw (agree-same a m, eq-eqb (get_or a m 0) (get_or a m 0) refl)

agree-at : (a b : List ℕ) (m : ℕ) → agree a b m ≡ true → (k : ℕ) → k < m → get_or a k 0 ≡ get_or b k 0
unfolding agree
agree-at a b zero e k h = absurd (omega arith)
agree-at a b (suc m) e k h =
    let p = and_parts (agree a b m) (eqb (get_or a m 0) (get_or b m 0)) e in
    elim (ℕ_discrete k m) [ yes q ↦ rw q (eqb-true _ _ p.1) | no d ↦ agree-at a b m p.0 k (omega arith) ]

pub agree-not : (a b : List ℕ) → (a ≡ b → ⊥) → length a ≡ length b → agree a b (length a) ≡ false
agree-not a b d l = go (agree a b (length a)) refl
  where
    go : (c : Bool) → agree a b (length a) ≡ c → c ≡ false
    go false e = refl
    go true e = absurd (d (ext_get_or 0 a b l (agree-at a b (length a) e)))

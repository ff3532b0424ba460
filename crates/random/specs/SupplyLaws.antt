-- Laws that join what the code hands back to the definitions: what a drawn value, or none, says of its definition. Assumes nothing.
use Rattle.std.specs.Prelude.{◌≡◌, refl, Some, None}
use Rattle.std.proofs.Common.{sym}
use Rattle.random.specs.Draw.{Drawn, spent, got, drawn}
use Rattle.random.specs.declared.Supply.{Supply}

module _ {A : Type 0} where
  pub drawn-got : (x : Drawn A) (a : A) (s : Supply) → Some (a, s) ≡ drawn x → x ≡ got a s
  drawn-got spent a s e = cc
  drawn-got (got b u) a s e = let p : ◌≡◌ {A = A × Supply} (a, s) (b, u) = cc in sym (λ i. got (p i).0 (p i).1)

  pub drawn-spent : (x : Drawn A) → None ≡ drawn x → x ≡ spent
  drawn-spent spent e = refl
  drawn-spent (got b u) e = cc

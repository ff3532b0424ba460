-- `rove_values::move_named` meets its contract: what is found in a list and copied is what stands there. Assumes nothing.
use Rattle.std.proofs.Common.{◌≡◌, ℕ, List, Option, Some, None, inl, inr, sym, ap, ◌∙◌, arith}
use Rattle.std.proofs.lemmas.Option.{slice_get_cases, slice_get-get_or}
use Rattle.std.specs.List.{slice_get}
use Rattle.std.specs.Option.{option_copied}
use Rattle.std.specs.Slice.{IsItemAt}
use denote.Bor.{Bor}
use Rattle.rove_values.specs.Exports.{moves, move_in}
use Rattle.rove_values.proofs.move_named.Goals as goal

copied-is : {X : Type 0} (xs : List X) (i : ℕ) (r : Option (Bor X)) → IsItemAt xs i r → option_copied r ≡ slice_get xs i
copied-is xs i None h = elim (slice_get_cases xs i).1 [ inl w ↦ absurd (omega (arith, w.1, h.3)) | inr w ↦ sym w.1 ]
copied-is xs i (Some x) h = ap (λ y. Some y) h.1 ∙ sym (slice_get-get_or xs i x.now h.3.0)

pub returns : goal.returns
unfolding move_in
returns c = c.copied.ensures ∙ copied-is moves c.node.result c.get.result c.get.ensures.lookup ∙ ap (slice_get moves) c.node.ensures

-- How the code of copying hands on what the writer of copies answers. Definitions only. Assumes nothing.
use Rattle.std.specs.Prelude.{List, ℕ, Result, Ok, Err}
use Rattle.report.specs.Report.{refused_text, Delivery, delivery, delivered}
use Rattle.newick.specs.declared.CopyError.{CopyError}
use Rattle.newick.specs.declared.CopyError.TheVariants as CopyErrors

-- out is the slice after the writer: it has the text already; or, by "10 when a lent slice is too short", none; or the text of another refusal is put there
abbrev pub handed : Result ℕ CopyError → List ℕ → Delivery
handed (Ok count) out = delivery count out
handed (Err (CopyErrors.Refused why)) out = delivered out (refused_text why)
handed (Err CopyErrors.Room) out = delivery 0 out

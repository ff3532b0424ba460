-- The forms in which the code of a slide's first call hands on what the definitions of calls say. Definitions only. Assumes nothing.
use Rattle.std.specs.Prelude.{ℕ, Float, Option, Some, None, Ok, Err}
use Rattle.random.specs.declared.Random.{Random}
use Rattle.random.specs.declared.Supply.{Supply}
use Rattle.random.specs.Draw.{Drawn, spent, got}
use Rattle.calls.specs.Call.{Reply, makes, not_finite, outside, Ending, refused, given}
use Rattle.moves.specs.Programs.{Start}
use Rattle.slide.specs.declared.Started.{Started}

-- how the call ended: turned back, with the generator g as it came; or with a node, its uniforms and the draws made
abbrev pub started_of : Random → Ending Start → Started
started_of g (refused why) = record { answer = Err why; random = g }
started_of g (given s draws h) = record { answer = Ok (record { node = s.node; first = s.first; second = s.second; draws = draws }); random = h }

-- what was drawn, and the supply after it; the program of the first call meets no 7 and no 8
unfoldable pub drawn_start : Drawn (Reply Start) → Option (ℕ × Float × Float × Supply)
drawn_start spent = None
drawn_start (got (not_finite k) u) = None
drawn_start (got (outside k) u) = None
drawn_start (got (makes a) u) = Some (a.node, a.first, a.second, u)

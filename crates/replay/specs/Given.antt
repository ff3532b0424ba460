-- What the answers of the code say of the data s. Definitions only. Assumes nothing.
use Rattle.std.specs.Prelude.{List, ℕ, ◌+◌, ◌-◌, ◌≤◌, ◌<◌, length, take, drop, Option, Some, None, Result, Ok, Err}
use Rattle.text.specs.Rules.{Parsed, malformed, parsed}
use Rattle.replay.specs.Replay.{Judged, broken, differs, alike}
use Rattle.replay.specs.declared.Fault.{Fault}
use Rattle.replay.specs.declared.Fault.TheVariants as Faults

-- a text that a byte ends
abbrev pub texted : List ℕ → Option (ℕ × ℕ) → Parsed (List ℕ)
texted s (Some (a, b)) = parsed (take (b - a) (drop a s)) (drop (b + 1) s)
texted s None = malformed

abbrev pub Inside : List ℕ → Option (ℕ × ℕ) → Type 0
Inside s (Some (a, b)) = (a ≤ b) × (b < length s)
Inside s None = Unit {0}

abbrev pub stepped : List ℕ → Result ℕ Fault → Judged
stepped s (Ok i) = alike (drop i s)
stepped s (Err (Faults.Differs i)) = differs i
stepped s (Err Faults.Malformed) = broken

-- What the answers of the file's readers say of the text s, as the rules of text/Places do. Definitions only. Assumes nothing.
use Rattle.std.specs.Prelude.{List, ℕ, drop, Option, Some, None}
use Rattle.text.specs.Rules.{Parsed, malformed, parsed}
use Rattle.forms.specs.declared.Words.{Words}
use Rattle.forms.specs.declared.Kind.{Kind}

abbrev pub worded : List ℕ → Option (Words × ℕ) → Parsed Words
worded s (Some (w, i)) = parsed w (drop i s)
worded s None = malformed

abbrev pub named : List ℕ → Option (Kind × ℕ) → Parsed Kind
named s (Some (k, i)) = parsed k (drop i s)
named s None = malformed

abbrev pub paired : List ℕ → Option (ℕ × ℕ × ℕ) → Parsed (ℕ × ℕ)
paired s (Some (a, b, i)) = parsed (a, b) (drop i s)
paired s None = malformed

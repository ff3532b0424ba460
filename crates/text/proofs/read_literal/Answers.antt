-- `text::read_literal` meets its contract. Assumes nothing.
use Rattle.std.proofs.Common.{refl}
use Rattle.text.proofs.ReadLaws.{from_there, literal-there, literal-other}
use Rattle.text.proofs.read_literal.Goals as goal

pub returns-then-starts_with : goal.returns-then-starts_with
returns-then-starts_with c =
    let s = c.args.s.now in
    let e = from_there s c.args.at _ _ _ c.get.ensures.lookup.0 refl c.unwrap_or-rest.ensures in
    literal-there s _ c.args.at _ _ e c.starts_with.ensures.value c.if-starts_with.true

pub returns-else-starts_with : goal.returns-else-starts_with
returns-else-starts_with c =
    let s = c.args.s.now in
    let e = from_there s c.args.at _ _ _ c.get.ensures.lookup.0 refl c.unwrap_or-rest.ensures in
    literal-other s _ c.args.at _ _ e c.starts_with.ensures.value c.if-starts_with.false

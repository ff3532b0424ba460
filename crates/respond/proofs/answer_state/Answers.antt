-- `respond::answer_state` meets its contract, by what `tree::new` said of the tree. Assumes nothing.
use Rattle.respond.proofs.StateLaws.{state-refused, state-made}
use Rattle.respond.proofs.answer_state.Goals as goal

pub returns-in-Ok : goal.returns-in-Ok
returns-in-Ok c =
    state-made c.args.head _ _ _ _ c.requires.each _ c.new.ensures _ _ c.in-Ok.root c.in-Ok.is _ c.generator-random.ensures _ _ _ _
    c.make-answered.ensures c.put_report.ensures

pub returns-in-Err : goal.returns-in-Err
returns-in-Err c = state-refused c.args.head _ _ _ _ c.requires.each _ c.new.ensures _ _ c.in-Err.why c.in-Err.is c.put_refusal.ensures

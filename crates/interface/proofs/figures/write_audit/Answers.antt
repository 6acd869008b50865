use Rattle.interface.proofs.Laws.{audit_stored}
use Rattle.interface.proofs.figures.write_audit.Goals as goal

pub returns : goal.returns
returns c = let head = c in
    audit_stored head.args.answer _ _ _ _ _ head.ending_number.ensures head.put_all.ensures c.put_problems.ensures c.put_all-2.ensures

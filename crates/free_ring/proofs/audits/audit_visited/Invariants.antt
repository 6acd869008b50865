use Rattle.manager.specs.clauses.Place.{bytes_of}
use Rattle.manager.specs.clauses.Lists.{values}
use Rattle.free_ring.proofs.AuditLaws.{Visiting}
use Rattle.free_ring.proofs.audits.audit_visited.Given as goal

abbrev pub invariant-loop : goal.invariant-loop
invariant-loop l = Visiting (values 2 (bytes_of l.image l.container.size l.place.manager) l.list.blocks l.list.table) l.used l.place.ring l.list.head l.fn.steps l.fn.audit l.audit l.i l.counter

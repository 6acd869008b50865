use Rattle.std.proofs.Common.{sym, ◌∙◌}
use Rattle.report.proofs.StepLaws.{stepped_is}
use Rattle.audit.specs.Audit.{read_info, audit_info, read_address, audit_address}
use Rattle.audit.proofs.DeviceLaws.{listed_addresses, listed_infos}
use Rattle.audit.proofs.device.audit_listed.Goals as goal

pub returns-then-has_address_blocks : goal.returns-then-has_address_blocks
unfolding audit_address read_address
returns-then-has_address_blocks c = stepped_is c.audit_each.ensures (listed_addresses _ _ _ _ _ (sym c.has_address_blocks.ensures ∙ c.if-has_address_blocks.true))

pub returns : goal.returns
unfolding audit_info read_info
returns c = stepped_is c.audit_each-2.ensures (listed_infos _ _ _ _ _ (sym c.has_address_blocks.ensures ∙ c.if-has_address_blocks.false))

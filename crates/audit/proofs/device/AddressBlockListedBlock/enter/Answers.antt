use Rattle.std.proofs.Common.{sym}
use Rattle.blocks.specs.clauses.Images.{blocks_in}
use Rattle.blocks.proofs.Laws.{is_given}
use Rattle.report.proofs.StepLaws.{read_stop}
use Rattle.audit.specs.Audit.{read_info, audit_info, enter_address}
use Rattle.audit.proofs.DeviceLaws.{address_list, address_there}
use Rattle.audit.proofs.device.AddressBlockListedBlock.enter.Goals as goal

pub returns-in_err-addresses_there : goal.returns-in_err-addresses_there
unfolding enter_address
returns-in_err-addresses_there c = rw (← address_list (blocks_in c.args.image c.args.container) c.args.container _ _ c.addresses_of-infos.ensures) (read_stop _ _ _ (c.addresses_there.ensures _) _ c.in_err-addresses_there.was c.from_residual.ensures.1)

pub returns : goal.returns
unfolding audit_info read_info
returns c = address_there (blocks_in c.args.image c.args.container) c.args.container _ _ _ _ _ c.addresses_of-infos.ensures (sym (is_given _ _ _ _ (c.addresses_there.ensures _) _ c.in_ok-addresses_there.was)) c.requires c.use_block.ensures c.audit_each.ensures

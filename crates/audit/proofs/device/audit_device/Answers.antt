use Rattle.blocks.specs.clauses.Images.{blocks_in}
use Rattle.report.proofs.StepLaws.{read_then, read_stop}
use Rattle.audit.specs.Audit.{audit_device}
use Rattle.audit.proofs.DeviceLaws.{device_list}
use Rattle.audit.proofs.device.audit_device.Goals as goal

pub returns-in_err-addresses_there : goal.returns-in_err-addresses_there
unfolding audit_device
returns-in_err-addresses_there c = rw (← device_list (blocks_in c.args.image c.args.container) c.args.container _ _ c.listed-list.ensures) (read_stop _ _ _ (c.addresses_there.ensures _) _ c.in_err-addresses_there.was c.from_residual.ensures.1)

pub returns : goal.returns
unfolding audit_device
returns c = rw (← device_list (blocks_in c.args.image c.args.container) c.args.container _ _ c.listed-list.ensures) (read_then _ _ _ (c.addresses_there.ensures _) _ c.in_ok-addresses_there.was c.audit_listed.ensures)

use Rattle.blocks.specs.Reads.{run}
use Rattle.blocks.specs.clauses.Images.{blocks_in}
use Rattle.blocks.proofs.Laws.{at_err, at_ok}
use Rattle.nodes.specs.ObjectMap.{load_object_map}
use Rattle.std.proofs.Common.{rules}
use Rattle.nodes.proofs.object_map.load_object_map.Goals as goal

pub returns-in_err-root : goal.returns-in_err-root
unfolding load_object_map
returns-in_err-root c = search (rules, at_err, c.read_object_map.ensures, c.in_err-root.was)

pub returns-in_err-node : goal.returns-in_err-node
unfolding load_object_map
returns-in_err-node c = search (rules, at_ok, at_err, c.read_object_map.ensures, c.in_ok-root.was, c.read_node.ensures, c.in_err-node.was)

pub returns-in_err-describe_map : goal.returns-in_err-describe_map
unfolding load_object_map
returns-in_err-describe_map c = search (rules, at_ok, at_err, c.read_object_map.ensures, c.in_ok-root.was, c.read_node.ensures, c.in_ok-node.was, c.describe_map.ensures (blocks_in c.args.image c.args.container), c.in_err-describe_map.was)

pub returns : goal.returns
unfolding load_object_map run
returns c = search (rules, at_ok, c.read_object_map.ensures, c.in_ok-root.was, c.read_node.ensures, c.in_ok-node.was, c.describe_map.ensures (blocks_in c.args.image c.args.container), c.in_ok-describe_map.was)

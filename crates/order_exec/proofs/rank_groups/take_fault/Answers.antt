use Rattle.std.proofs.Common.{◌∙◌, sym}
use Rattle.std.specs.BTreeMap as tree
use Rattle.group_rows.specs.Taken.{by_coordinate}
use Rattle.order_exec.proofs.RankLaws.{fault_put, fault_there, not_there}
use Rattle.order_exec.proofs.rank_groups.take_fault.Goals as goal

pub returns-in_ok-insert : goal.returns-in_ok-insert
returns-in_ok-insert c =
    fault_put c.args.attribute c.args.dims.now c.args.row.now c.key_at-key.result c.key_at-key.ensures c.args.groups.now c.insert.new.self c.in-Some.kind
    (not_there (tree.get by_coordinate c.args.groups.now c.key_at-key.result) (sym c.contains_key.ensures ∙ c.if-contains_key.false)) c.in_ok-insert.ensures.updates (sym c.fault_in.ensures ∙ c.in-Some.is)

pub returns-then-contains_key : goal.returns-then-contains_key
returns-then-contains_key c =
    fault_there c.args.attribute c.args.dims.now c.args.row.now c.key_at-key.result c.key_at-key.ensures c.args.groups.now (sym c.contains_key.ensures ∙ c.if-contains_key.true)

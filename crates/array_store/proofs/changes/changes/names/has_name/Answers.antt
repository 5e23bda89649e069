use Rattle.std.proofs.Common.{◌∙◌, ap, sym}
use Rattle.logical_plan.specs.Leaves.{leaves}
use Rattle.plan_changes.specs.declared.change.Change.{Change}
use Rattle.array_store.specs.Fresh.{has_name}
use Rattle.array_store.proofs.FreshLaws.{any_names}
use Rattle.array_store.proofs.changes.changes.names.has_name.Goals as goal

pub returns-in-Store : goal.returns-in-Store
returns-in-Store c = c.reads_or_is.ensures ∙ any_names c.args.name.now (leaves c.in-Store.plan) c.in-Store.own ∙ ap (λ (change : Change). has_name change c.args.name.now) (sym c.in-Store.is)

pub returns-in-Insert : goal.returns-in-Insert
returns-in-Insert c = c.reads_or_is-in-Insert.ensures ∙ any_names c.args.name.now (leaves c.in-Insert.plan) c.in-Insert.own ∙ ap (λ (change : Change). has_name change c.args.name.now) (sym c.in-Insert.is)

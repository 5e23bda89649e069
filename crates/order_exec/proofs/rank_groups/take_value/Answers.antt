use Rattle.std.proofs.Common.{◌≡◌, ◌++◌, ◌∷◌, [], List, Some, ap, subst, sym, ◌∙◌}
use Rattle.std.specs.BTreeMap as tree
use Rattle.std.specs.BTreeMap.{Updates}
use Rattle.std.specs.Option.{is_some}
use Rattle.cell_values.specs.declared.datum.Datum.{Datum}
use Rattle.cell_values.specs.Nulls.{is_null}
use Rattle.group_rows.specs.Taken.{by_coordinate}
use Rattle.order_exec.specs.Inner.Ranked.{values_or_none}
use Rattle.order_exec.proofs.RankLaws.{value_put}
use Rattle.order_exec.proofs.rank_groups.take_value.Goals as goal

pub returns-in-Some : goal.returns-in-Some
returns-in-Some c =
    let more : List Datum = c.push_copy.new.values in
    let found : Some c.in-Some.values.now ≡ tree.get by_coordinate c.args.groups.now c.key_at-key.result = c.in-Some.ensures.value in
    value_put c.args.attribute c.args.dims.now c.args.row.now c.key_at-key.result c.key_at-key.ensures c.args.groups.now (c.get_mut.follows.lender more) c.in-Some.values.now more
    (ap values_or_none found) ((c.get_mut.follows.holds more).3 (ap is_some (sym found)))
    (c.in_ok-push_copy-in-Some.ensures ∙ ap (λ (v : Datum). c.in-Some.values.now ++ v ∷ []) c.value_in-value.ensures)
    (ap is_null (sym c.value_in-value.ensures) ∙ sym c.is_null.ensures ∙ c.if-is_null.false)

pub returns : goal.returns
returns c =
    let made : List Datum = c.in_ok-values-in-None.values in
    value_put c.args.attribute c.args.dims.now c.args.row.now c.key_at-key.result c.key_at-key.ensures c.args.groups.now c.insert.new.self [] made
    (ap values_or_none c.in-None.ensures.value)
    (subst (λ m. Updates by_coordinate m c.insert.new.self c.key_at-key.result (Some made)) c.get_mut.follows.holds-at-none c.in_ok-insert-in-None.ensures.updates)
    (c.in_ok-values-in-None.ensures ∙ ap (λ (v : Datum). v ∷ []) c.value_in-value.ensures)
    (ap is_null (sym c.value_in-value.ensures) ∙ sym c.is_null.ensures ∙ c.if-is_null.false)

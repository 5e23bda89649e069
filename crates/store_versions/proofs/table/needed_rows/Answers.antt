use Rattle.std.proofs.Common.{rules, ◌∙◌, ◌||◌, Bool, ap, map, sym}
use Rattle.std.specs.List.{filter, list_any}
use Rattle.std.proofs.lemmas.Fn.{filter_same}
use Rattle.event_core.proofs.Tests.{any_map, filter_agrees}
use Rattle.store_versions.specs.declared.lean.lean.pin.LeanPin.{LeanPin}
use Rattle.store_versions.specs.declared.row.VersionRow.{VersionRow}
use Rattle.store_versions.specs.Rows.{is_needed, is_seen, stands}
use Rattle.store_versions.proofs.table.needed_rows.Goals as goal

pub returns : goal.returns
returns c =
    let pins = c.args.pins.now in
    c.from_vec.ensures
    ∙ filter_same _ (λ (row : VersionRow). stands row.gone || list_any (λ pin. is_seen pin.place row) pins) _ (λ x b f' k. search rules) _ _ c.retain.ensures.filtered
    ∙ filter_agrees (λ (row : VersionRow). stands row.gone || list_any (λ pin. is_seen pin.place row) pins) (is_needed (map (λ pin. pin.place) pins))
    (λ row. ap (λ (b : Bool). stands row.gone || b) (sym (any_map (λ (pin : LeanPin). pin.place) (λ place. is_seen place row) pins))) c.into_vec-items.result.items
    ∙ ap (filter (is_needed (map (λ pin. pin.place) pins))) c.into_vec-items.ensures

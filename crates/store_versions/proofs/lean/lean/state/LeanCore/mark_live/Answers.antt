use Rattle.std.proofs.Common.{◌≡◌, ◌∙◌, List, Bool, ap, false, ◌||◌, ◌&&◌, nat_eq, arith, length, map, slice_index_or}
use Rattle.std.specs.List.{list_any}
use Rattle.version_reaper.specs.PageSets.{holds}
use Rattle.event_core.specs.Pages.{has_page}
use Rattle.event_core.specs.Replay.{is_core_live}
use Rattle.event_core.proofs.Tests.{eq_sym}
use Rattle.store_versions.specs.declared.lean.lean.pin.LeanPin.{LeanPin}
use Rattle.store_versions.specs.declared.lean.lean.row.Row.{Row}
use Rattle.store_versions.specs.LeanRows.{is_needed, standing}
use Rattle.store_versions.specs.States.{LeanState, pin_of}
use Rattle.store_versions.proofs.Marking.{marked, needed_has}
use Rattle.store_versions.proofs.lean.lean.state.LeanCore.mark_live.Goals as goal

pub returns-clause-pages : goal.returns-clause-pages
returns-clause-pages c p h =
    let i = c.self.inside in
    let old = c.args.set.now in
    let one : length c.add.new.self ≡ length old = c.add.ensures.limit in
    let two : length c.add_all.new.self ≡ length old = c.add_all.ensures.limit ∙ one in
    c.add_needed.ensures.pages p (omega (arith, h, two))
    ∙ ap (λ (rs : List Row). slice_index_or c.add_all.new.self p false || list_any (λ row. is_needed c.as_slice-pins.result.now row && holds row.version.pages p) rs) c.as_slice-rows.ensures.value
    ∙ ap (λ (ps : List LeanPin). slice_index_or c.add_all.new.self p false || list_any (λ row. is_needed ps row && holds row.version.pages p) i.rows.items) c.as_slice-pins.ensures.value
    ∙ ap (λ (b : Bool). slice_index_or c.add_all.new.self p false || b) (needed_has p i.pins.items i.rows.items)
    ∙ ap (λ (b : Bool). b || (has_page (standing i.rows.items) p || list_any (λ pin. has_page pin.pages p) (map (pin_of i.rows.items) i.pins.items)))
    (c.add_all.ensures.pages p (omega (arith, h, one)) ∙ ap (λ (b : Bool). b || holds i.catalogue p) (c.add.ensures.pages p h))
    ∙ marked (slice_index_or old p false) (nat_eq 0 p) (nat_eq p 0) (holds i.catalogue p)
    (has_page (standing i.rows.items) p || list_any (λ pin. has_page pin.pages p) (map (pin_of i.rows.items) i.pins.items)) (eq_sym 0 p)
    ∙ ap (λ (s : LeanState). slice_index_or old p false || is_core_live s.core p) c.self.view_is

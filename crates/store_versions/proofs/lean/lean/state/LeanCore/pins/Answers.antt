use Rattle.std.proofs.Common.{◌∙◌, List, ap, map}
use Rattle.store_versions.specs.declared.lean.lean.pin.LeanPin.{LeanPin}
use Rattle.store_versions.specs.States.{LeanState, place_of, core_place}
use Rattle.store_versions.proofs.States.{places_are}
use Rattle.store_versions.proofs.lean.lean.state.LeanCore.pins.Goals as goal

pub returns : goal.returns
returns c =
    let i = c.self.inside in
    ap (λ (ps : List LeanPin). map place_of ps) c.as_slice.ensures.value ∙ places_are i.rows.items i.pins.items ∙ ap (λ (s : LeanState). map core_place s.core.pins) c.self.view_is

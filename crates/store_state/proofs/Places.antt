-- The places of a ledger's open pins.
use Rattle.std.proofs.Common.{◌≡◌, ◌∙◌, ℕ, List, length, map, ap, sym}
use Rattle.std.proofs.lemmas.Simd.{map-map}
use Rattle.event_core.specs.History.{OpenPin}
use Rattle.store_ledger.specs.LeanPin.{LeanPin}
use Rattle.store_ledger.specs.States.{place_of}
use Rattle.store_ledger.specs.Ledger.{open_place}

pub places_are : (pins : List LeanPin) (before : List OpenPin) → map place_of pins ≡ map open_place before
    → map (λ (pin : LeanPin). pin.place) pins ≡ map (λ (pin : OpenPin). length pin.before) before
places_are pins before e =
    sym (map-map (λ (x : ℕ × ℕ). x.1) place_of pins) ∙ ap (λ (xs : List (ℕ × ℕ)). map (λ (x : ℕ × ℕ). x.1) xs) e ∙ map-map (λ (x : ℕ × ℕ). x.1) open_place before

-- The text of an array by its parts, and the parts of rows band by band.
use Rattle.std.proofs.Common.{◌≡◌, ℕ, List, ◌++◌, sym, ap, ◌∙◌, append_assoc}
use Rattle.std.specs.List.{flat_map}
use Rattle.std.proofs.lemmas.Grind.{flat_map-append}
use Rattle.cell_values.specs.declared.datum.Row.{Row}

pub rows_on : (row : Row → List ℕ) (text text' start : List ℕ) (rest band further whole : List Row) → rest ≡ band ++ further → text' ≡ text ++ flat_map row band
    → text ++ flat_map row rest ≡ start ++ flat_map row whole → text' ++ flat_map row further ≡ start ++ flat_map row whole
rows_on row text text' start rest band further whole split e h =
    ap (λ (t : List ℕ). t ++ flat_map row further) e
    ∙ append_assoc text (flat_map row band) (flat_map row further)
    ∙ ap (λ (t : List ℕ). text ++ t) (sym (flat_map-append row band further) ∙ ap (flat_map row) (sym split))
    ∙ h

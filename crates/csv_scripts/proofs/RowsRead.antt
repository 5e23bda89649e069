-- What `build` reads of a literal of records.
use Rattle.std.proofs.Common.{◌≡◌, ◌==◌, ℤ, pos, Some, None, List, [], ◌∷◌, length, refl, ap, ◌∙◌}
use Rattle.std.specs.Prelude.{◌+ℤ◌, int_le, if◌then◌else◌}
use Rattle.std.proofs.lemmas.Bool.{and_from}
use Rattle.cell_values.specs.declared.datum.Datum.{Datum}
use Rattle.cell_values.specs.declared.schema.Attribute.{Attribute}
use Rattle.check_rules.specs.LiteralRows.{fit_attributes, rows_from, rows_of, with_row}
use Rattle.check_rules.specs.Inner.Reader.{elements_of}
use Rattle.check_rules.proofs.TextLemmas.{texts_are_read}
use Rattle.csv_scripts.specs.Literal.{literal_bytes}
use Rattle.csv_scripts.specs.Rows.{numbered, Fit, RowsAreRead}
use Rattle.csv_scripts.proofs.LiteralRead.{literals_are_read}

all_fit : (columns : List Attribute) (hi at : ℤ) (rows : List (List Datum)) → Fit columns hi at rows → rows_from columns hi at rows ≡ Some (numbered at rows)
all_fit columns hi at [] h = refl
all_fit columns hi at ([] ∷ rows) h = absurd h
all_fit columns hi at ((v ∷ vs) ∷ rows) (low, fits, more) =
    ap (λ b. if b then with_row at (v ∷ vs) (rows_from columns hi (at +ℤ pos 1) rows) else None) (and_from (int_le at hi) (fit_attributes columns (v ∷ vs)) low fits)
    ∙ ap (with_row at (v ∷ vs)) (all_fit columns hi (at +ℤ pos 1) rows more)

pub rows_are_read : RowsAreRead
rows_are_read columns d rows spellable few fit =
    let bare = length columns == 1 in
    let read : elements_of bare (literal_bytes rows) ≡ Some rows = (texts_are_read bare (literal_bytes rows) rows).1 (literals_are_read bare rows spellable few) in
    ap (rows_of columns d) read ∙ all_fit columns d.hi d.lo rows fit

use Rattle.std.proofs.Common.{◌≡◌, ◌+◌, List, [], ◌∷◌, ◌++◌, take, ap, sym, subst, ◌∙◌}
use Rattle.std.proofs.lemmas.List.{take_more}
use Rattle.csv.specs.Records.{fields_of}
use Rattle.cell_values.specs.declared.schema.Attribute.{Attribute}
use Rattle.csv_scripts.specs.Conversion.{AreColumns}
use Rattle.csv_scripts.proofs.Conversions.{columns_more}
use Rattle.csv_scripts.proofs.header.places.Goals as goal

pub loop-at-preserved : goal.loop-at-preserved
loop-at-preserved c =
    let names = fields_of c.args.names.now in
    let columns = c.args.columns.now in
    let at = c.loop-at.at in
    let column = c.index-columns-at.result in
    let grown : take (at + 1) columns ≡ take at columns ++ column ∷ []
    = take_more columns at column c.loop-at-test.true ∙ ap (λ (x : Attribute). take at columns ++ x ∷ []) (sym c.index-columns-at.is) in
    subst (λ (cs : List Attribute). AreColumns names cs c.push.new.self) (sym grown)
    (subst (AreColumns names (take at columns ++ column ∷ [])) (sym c.in_ok-push.ensures.ok)
    (columns_more names (take at columns) c.loop-at.places column c.in_ok-place_of.field-0 c.loop-at.invariant c.in_ok-place_of.ensures))

-- Records that are written by a writer of records of any lengths.
use Rattle.std.proofs.Common.{◌≡◌, ◌≢◌, ◌∙◌, ℕ, List, [], ◌∷◌, ◌++◌, refl, sym, ap, subst, length}
use Rattle.std.specs.Prelude.{◌==◌, if◌then◌else◌}
use Rattle.csv.specs.Writing.{default_writer, escaped, field_text, fields_text, is_blank, needs_quotes, row_text}
use Rattle.csv.specs.declared.writer.QuoteStyle.TheVariants as style
use Rattle.csv.specs.declared.writer.WriterBuilder.{WriterBuilder}
use Rattle.result_print.specs.Inner.Writers.{any_lengths}
use Rattle.result_print.specs.Records.{record_text}

escaped_alike : (field : List ℕ) → escaped any_lengths field ≡ escaped default_writer field
unfolding escaped
escaped_alike [] = refl
escaped_alike (b ∷ field) = ap (λ (t : List ℕ). if b == 34 then 34 ∷ b ∷ t else b ∷ t) (escaped_alike field)

field_alike : (field : List ℕ) → field_text any_lengths field ≡ field_text default_writer field
field_alike field = ap (λ (t : List ℕ). if needs_quotes default_writer field then 34 ∷ (t ++ (34 ∷ [])) else field) (escaped_alike field)

fields_alike : (fields : List (List ℕ)) → fields_text any_lengths fields ≡ fields_text default_writer fields
unfolding fields_text
fields_alike [] = refl
fields_alike (field ∷ rest) = λ i. 44 ∷ (field_alike field i ++ fields_alike rest i)

-- lengths have no influence on a record's text
pub record_alike : (fields : List (List ℕ)) → row_text any_lengths fields ≡ row_text default_writer fields
unfolding is_blank
record_alike [] = refl
record_alike (field ∷ []) = λ i. (field_alike field i ++ fields_alike [] i) ++ ((if length (field_alike field i) == 0 then 34 ∷ 34 ∷ [] else []) ++ (10 ∷ []))
record_alike (field ∷ next ∷ rest) = λ i. (field_alike field i ++ fields_alike (next ∷ rest) i) ++ (10 ∷ [])

pub no_numbers : (cfg : WriterBuilder) → cfg ≡ any_lengths → cfg.style ≢ style.NonNumeric
no_numbers cfg e = subst (λ (w : WriterBuilder). w.style ≢ style.NonNumeric) (sym e) (λ same. cc same)

pub written_more : (cfg : WriterBuilder) (before after : List ℕ) (fields : List (List ℕ)) → cfg ≡ any_lengths → after ≡ before ++ row_text cfg fields → after ≡ before ++ record_text fields
written_more cfg before after fields e h = h ∙ ap (λ (t : List ℕ). before ++ t) (ap (λ (w : WriterBuilder). row_text w fields) e ∙ record_alike fields)

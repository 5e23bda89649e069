-- The text of an array in each style of replies.
use Rattle.std.specs.Prelude.{ℕ, Bool, true, false, List}
use Rattle.cell_values.specs.declared.datum.Row.{Row}
use Rattle.cell_values.specs.declared.schema.Schema.{Schema}
use Rattle.result_print.specs.Records.{csv_text}
use Rattle.result_print.specs.Texts.{array_text}
use Rattle.statement_replies.specs.declared.replies.style.Style.{Style}

abbrev pub text_form : Bool → Schema → List Row → List ℕ
text_form true = csv_text
text_form false = array_text

-- as CSV, or else with a header and lines
abbrev pub printed : Style → Schema → List Row → List ℕ
printed style = text_form style.csv

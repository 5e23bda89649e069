-- The reply to a plan, of which the first fault or the rows are found.
use Rattle.std.proofs.Common.{◌≡◌, ◌++◌, inl, inr, ℕ, List, Option, Some, None, Result, Ok, Err, IfOk, refl, sym, ap, ◌∙◌, subst}
use Rattle.cell_values.specs.declared.datum.Broken.{Broken}
use Rattle.cell_values.specs.declared.datum.Row.{Row}
use Rattle.cell_values.specs.declared.schema.Schema.{Schema}
use Rattle.array_geom.specs.Arrays.{AreRowsOf}
use Rattle.array_geom.specs.declared.chunk.ChunkedArray.{ChunkedArray}
use Rattle.array_parts.specs.Cores.{HaveCells, cores_of}
use Rattle.array_parts.proofs.CoreLaws.{cores_are_rows}
use Rattle.logical_plan.specs.Faults.{fault_of, first_fault}
use Rattle.logical_plan.specs.Meaning.{Database, Meant, meaning}
use Rattle.logical_plan.specs.Query.{Query}
use Rattle.logical_plan.proofs.SchemaLaws.{meaning_schema}
use Rattle.chunk_exec.specs.declared.rows.rows.answers.rows.PlanRows.{PlanRows}
use Rattle.chunk_exec.specs.declared.rows.rows.answers.rows.PlanRows.TheVariants.{Fault, Rows}
use Rattle.chunk_exec.specs.Found.{IsFound}
use Rattle.chunk_source.specs.Source.{SourceState}
use Rattle.changed_chunks.specs.Traced.{lines_over, plan_lines}
use Rattle.changed_chunks.proofs.Tracing.{lines_over_are, plan_lines_are}
use Rattle.check_rules.specs.Checked.{Checked}
use Rattle.afl_types.specs.Queries.{query_of}
use Rattle.statement_replies.specs.Kinds.{HasKind, HasRows, IsRowsOver, IsRowsReply, IsTextOrRefusal, RepliesHaveKinds}
use Rattle.statement_replies.specs.Printed.{printed}
use Rattle.statement_replies.specs.Reply.{array_reply, cell_reply, checked_reply, fault_or_text, meant_reply, plan_reply, text_reply, traced}
use Rattle.statement_replies.specs.declared.replies.replies.Reply.{Reply}
use Rattle.statement_replies.specs.declared.replies.style.Style.{Style}

abbrev broken_or : Broken → Option Broken → Broken
broken_or other (Some broken) = broken
broken_or other None = other

faulty : (style : Style) (lines : List ℕ) (schema : Schema) (rows : Result (List Row) Broken) (broken : Broken) → fault_of rows ≡ Some broken → array_reply style lines schema rows ≡ cell_reply broken
faulty style lines schema (Ok rows) broken e = ap (λ (o : Option Broken). fault_or_text style lines o schema rows) e
faulty style lines schema (Err other) broken e = ap (λ (o : Option Broken). cell_reply (broken_or other o)) e

pub fault_reply : (style : Style) (lines : List ℕ) (meant : Meant) (broken : Broken) (reply : Reply) → IsFound meant (Fault broken) → reply ≡ cell_reply broken → reply ≡ meant_reply style lines meant
fault_reply style lines meant broken reply found e = e ∙ sym (faulty style lines meant.schema meant.rows broken found)

pub rows_reply : (style : Style) (lines : List ℕ) (meant : Meant) (schema : Schema) (rows : List Row) (reply : Reply) → IsFound meant (Rows schema rows) → reply ≡ text_reply style lines schema rows
    → reply ≡ meant_reply style lines meant
rows_reply style lines meant schema rows reply found e =
    e ∙ sym (ap (meant_reply style lines) found.1 ∙ ap (λ (o : Option Broken). fault_or_text style lines o schema rows) (sym (ap (λ (m : Meant). fault_of m.rows) found.1) ∙ found.0))

-- with equal lines
lines_reply : (style : Style) (text lines : List ℕ) (meant : Meant) (reply : Reply) → text ≡ lines → reply ≡ meant_reply style text meant → reply ≡ meant_reply style lines meant
lines_reply style text lines meant reply same e = e ∙ ap (λ (z : List ℕ). meant_reply style z meant) same

pub lines_told : {E : Type 0} (source : SourceState) (style : Style) (query : Query) (text : List ℕ) (found : PlanRows) (answer : Result Reply E)
    → ((db : Database) → source.tells db → text ≡ traced style (plan_lines db query)) → ((meant : Meant) → IsFound meant found → IfOk answer (λ reply. reply ≡ meant_reply style text meant))
    → IfOk answer (λ reply. (db : Database) → source.tells db → IsFound (meaning db query) found → reply ≡ plan_reply style db query)
lines_told source style query text found (Ok reply) same told = λ db tells is.
    lines_reply style text (traced style (plan_lines db query)) (meaning db query) reply (same db tells) (told (meaning db query) is)
lines_told source style query text found (Err fault) same told = tt

-- what a source lists has some numbers
pub rows_kind : (source : SourceState) (style : Style) (query : Query) (reply : Reply) → IsRowsOver source style query reply → IsRowsReply style query reply
rows_kind source style query reply kind = (lines_over source query, lines_over_are source query, kind)

-- ---- kinds

-- the rows of an array's cores are of its schema
pub cores_kind : (style : Style) (lines : List ℕ) (schema : Schema) (array : ChunkedArray) (text : List ℕ) → HaveCells array.schema array.margins.items array.chunks → array.schema ≡ schema
    → text ≡ printed style array.schema (cores_of array) ++ lines → IsTextOrRefusal style lines schema (record { text = text; refusal = None })
cores_kind style lines schema array text cells same is =
    subst (λ (z : Schema). IsTextOrRefusal style lines z (record { text = text; refusal = None })) same
    (inl (cores_of array, cores_are_rows array.schema array.margins.items array.chunks cells, ap plain_text is))
  where
    plain_text : List ℕ → Reply
    plain_text written = record { text = written; refusal = None }

fault_or_rows : (style : Style) (lines : List ℕ) (schema : Schema) (rows : List Row) (o : Option Broken) → AreRowsOf schema rows
    → IsTextOrRefusal style lines schema (fault_or_text style lines o schema rows)
fault_or_rows style lines schema rows (Some broken) are = inr (broken, refl)
fault_or_rows style lines schema rows None are = inl (rows, are, refl)

array_kind : (style : Style) (lines : List ℕ) (schema : Schema) (rows : Result (List Row) Broken) → IfOk rows (AreRowsOf schema)
    → IsTextOrRefusal style lines schema (array_reply style lines schema rows)
array_kind style lines schema (Ok rows) are = fault_or_rows style lines schema rows (first_fault rows) are
array_kind style lines schema (Err broken) are = inr (broken, refl)

pub checked_kind : (style : Style) (db : Database) (checked : Checked Query) → IfOk checked (HasRows db) → HasKind style checked (checked_reply style db checked)
checked_kind style db (Ok query) has =
    let lines = traced style (plan_lines db query) in
    let same = meaning_schema db query in (
      plan_lines db query,
      plan_lines_are db query,
      subst (λ (z : Schema). IsTextOrRefusal style lines z (meant_reply style lines (meaning db query))) same
          (array_kind style lines (meaning db query).schema (meaning db query).rows (subst (λ (z : Schema). IfOk (meaning db query).rows (AreRowsOf z)) (sym same) has)),
    )
checked_kind style db (Err breach) has = refl

pub have_kinds : RepliesHaveKinds
have_kinds style names db tree has = checked_kind style db (query_of names.arrays tree) has

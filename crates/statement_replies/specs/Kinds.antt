-- What the names of the stored arrays alone tell of the reply to a query, whatever the arrays hold.
use Rattle.std.specs.Prelude.{◌≡◌, ◌⊎◌, ℕ, List, Ok, Err, IfOk}
use Rattle.cell_values.specs.declared.datum.Broken.{Broken}
use Rattle.cell_values.specs.declared.datum.Row.{Row}
use Rattle.cell_values.specs.declared.schema.Schema.{Schema}
use Rattle.array_geom.specs.Arrays.{AreRowsOf}
use Rattle.afl_trees.specs.Term.{Term}
use Rattle.logical_plan.specs.declared.names.Names.{Names}
use Rattle.logical_plan.specs.Leaves.{leaves}
use Rattle.logical_plan.specs.Meaning.{Database, meaning}
use Rattle.logical_plan.specs.PlanSchema.{schema_of}
use Rattle.logical_plan.specs.Query.{Query}
use Rattle.chunk_source.specs.Source.{SourceState}
use Rattle.changed_chunks.specs.Traced.{AreLinesOf, lines_over}
use Rattle.check_rules.specs.Checked.{Checked}
use Rattle.afl_types.specs.Queries.{query_of}
use Rattle.result_print.specs.declared.refusal.Refusal.TheVariants.{Typing}
use Rattle.statement_replies.specs.Reply.{cell_reply, query_reply, refused, text_reply, traced}
use Rattle.statement_replies.specs.declared.replies.replies.Reply.{Reply}
use Rattle.statement_replies.specs.declared.replies.style.Style.{Style}

-- the text of some rows of this schema with these lines behind it, or the refusal that tells of some cell
abbrev pub IsTextOrRefusal : Style → List ℕ → Schema → Reply → Type 0
IsTextOrRefusal style lines schema reply =
    ((rows : List Row) × AreRowsOf schema rows × (reply ≡ text_reply style lines schema rows)) ⊎ ((broken : Broken) × (reply ≡ cell_reply broken))

-- that of a plan: the rows are of its schema, and where lines of what was read are wanted, there is one for each of its leaves, with some
-- numbers
abbrev pub IsRowsReply : Style → Query → Reply → Type 0
IsRowsReply style query reply =
    (lines : List ℕ) × AreLinesOf (leaves query) lines × IsTextOrRefusal style (traced style lines) (schema_of query) reply

-- over a source these are the lines of what it lists
abbrev pub IsRowsOver : SourceState → Style → Query → Reply → Type 0
IsRowsOver source style query reply = IsTextOrRefusal style (traced style (lines_over source query)) (schema_of query) reply

-- a rule that is broken is told, and else rows of the plan are
abbrev pub HasKind : Style → Checked Query → Reply → Type 0
HasKind style (Ok query) reply = IsRowsReply style query reply
HasKind style (Err breach) reply = reply ≡ refused (Typing breach.span breach.kind)

-- over a database what a plan means has rows of its schema, where it is not broken, as each typed plan has
abbrev pub HasRows : Database → Query → Type 0
HasRows db query = IfOk (meaning db query).rows (AreRowsOf (schema_of query))

-- a reply over a database is of that kind
abbrev pub RepliesHaveKinds : Type 0
RepliesHaveKinds = (style : Style) (names : Names) (db : Database) (tree : Term) → IfOk (query_of names.arrays tree) (HasRows db)
    → HasKind style (query_of names.arrays tree) (query_reply style names db tree)

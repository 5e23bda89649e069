-- The reply to a statement.
--
-- A statement that is too long is told its number of bytes. Where its text stops to be the front of a statement, it is told the
-- place and why. Else it has a tree. That of a query is checked over the names of the stored arrays, and told the first rule that it
-- breaks. Else it is a plan, and answered by its array's first fault, if there is one, else by the array's text. Where lines of what
-- was read are wanted, they stand behind the text.
use Rattle.std.specs.Prelude.{◌≡◌, ◌⊎◌, ◌++◌, ℕ, if◌then◌else◌, List, [], Option, Some, None, Result, Ok, Err}
use Rattle.cell_values.specs.declared.datum.Broken.{Broken}
use Rattle.cell_values.specs.declared.datum.Row.{Row}
use Rattle.cell_values.specs.declared.schema.Schema.{Schema}
use Rattle.afl_trees.specs.Term.{Term}
use Rattle.afl_trees.specs.Statement.{DerivesText, StopsText}
use Rattle.afl_trees.specs.declared.kind.ParseKind.{ParseKind}
use Rattle.logical_plan.specs.declared.names.Names.{Names}
use Rattle.logical_plan.specs.Query.{Query}
use Rattle.logical_plan.specs.Faults.{first_fault}
use Rattle.logical_plan.specs.Meaning.{Database, Meant, meaning}
use Rattle.changed_chunks.specs.Traced.{plan_lines}
use Rattle.check_rules.specs.Checked.{Checked}
use Rattle.afl_types.specs.Queries.{query_of}
use Rattle.result_print.specs.Lines.{line_of_refusal}
use Rattle.result_print.specs.declared.refusal.Refusal.{Refusal}
use Rattle.result_print.specs.declared.refusal.Refusal.TheVariants.{TooLong, Parse, Typing, Cell, Memory}
use Rattle.statement_replies.specs.Printed.{printed}
use Rattle.statement_replies.specs.declared.replies.replies.Reply.{Reply}
use Rattle.statement_replies.specs.declared.replies.style.Style.{Style}

-- a refusal, told by its line
abbrev pub refused : Refusal → Reply
refused refusal = record { text = line_of_refusal refusal; refusal = Some refusal }

abbrev pub memory_line : List ℕ
memory_line = line_of_refusal Memory

abbrev pub too_long : ℕ → Reply
too_long bytes = refused (TooLong bytes)

-- ---- queries

-- an array that could not be computed
abbrev pub cell_reply : Broken → Reply
cell_reply broken = refused (Cell broken.at broken.kind)

-- the lines that tell what was read, where the style wants them
abbrev pub traced : Style → List ℕ → List ℕ
traced style lines = if style.trace then lines else []

-- the text of an array, and lines behind it
abbrev pub text_reply : Style → List ℕ → Schema → List Row → Reply
text_reply style lines schema rows = record { text = printed style schema rows ++ lines; refusal = None }

-- the fault, or else the text
abbrev pub fault_or_text : Style → List ℕ → Option Broken → Schema → List Row → Reply
fault_or_text style lines (Some fault) schema rows = cell_reply fault
fault_or_text style lines None schema rows = text_reply style lines schema rows

-- the first fault of an array, or its text
abbrev pub array_reply : Style → List ℕ → Schema → Result (List Row) Broken → Reply
array_reply style lines schema (Ok rows) = fault_or_text style lines (first_fault rows) schema rows
array_reply style lines schema (Err broken) = cell_reply broken

abbrev pub meant_reply : Style → List ℕ → Meant → Reply
meant_reply style lines array = array_reply style lines array.schema array.rows

-- the reply to a plan
abbrev pub plan_reply : Style → Database → Query → Reply
plan_reply style db query = meant_reply style (traced style (plan_lines db query)) (meaning db query)

-- the reply to a query that was checked
abbrev pub checked_reply : Style → Database → Checked Query → Reply
checked_reply style db (Ok query) = plan_reply style db query
checked_reply style db (Err breach) = refused (Typing breach.span breach.kind)

-- the reply to the tree of a query over stored arrays of these names and rows
abbrev pub query_reply : Style → Names → Database → Term → Reply
query_reply style names db tree = checked_reply style db (query_of names.arrays tree)

-- ---- statements, where this is the reply to a tree

-- The bytes have this reply: that of the tree that they derive, or that of their stop. They have one of these, and no other.
abbrev pub IsReplyTo : (Term → Reply → Type 0) → List ℕ → Reply → Type 0
IsReplyTo IsTreeReply text reply =
    ((tree : Term) × DerivesText text tree × IsTreeReply tree reply)
    ⊎ ((at : ℕ) × (kind : ParseKind) × StopsText text at kind × (reply ≡ refused (Parse at kind)))

-- The reply to a statement, of which this is the number of bytes, and these are the bytes. It is too long where they aren't there.
abbrev pub IsReplyToStatement : (Term → Reply → Type 0) → ℕ → Option (List ℕ) → Reply → Type 0
IsReplyToStatement IsTreeReply bytes None reply = reply ≡ too_long bytes
IsReplyToStatement IsTreeReply bytes (Some text) reply = IsReplyTo IsTreeReply text reply

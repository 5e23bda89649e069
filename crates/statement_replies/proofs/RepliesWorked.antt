-- Statements over a database of two arrays: `A`, whose version 3 has the cells 7 and null, and `N`, which takes no null and has no
-- version.
use Rattle.std.proofs.Common.{◌≡◌, ℕ, pos, Bool, true, false, Some, List, [], ◌∷◌, ◌++◌, refl}
use Rattle.std.specs.Fmt.{digits}
use Rattle.std.specs.Prelude.{codes}
use Rattle.cell_values.specs.declared.datum.Cell.TheVariants.{Full}
use Rattle.cell_values.specs.declared.datum.Datum.{Datum}
use Rattle.cell_values.specs.declared.datum.Datum.TheVariants.{Int, Null}
use Rattle.cell_values.specs.declared.datum.FaultKind.TheVariants.{NullInNotNull}
use Rattle.cell_values.specs.declared.datum.Row.{Row}
use Rattle.cell_values.specs.declared.name.Span.{Span}
use Rattle.cell_values.specs.declared.schema.Schema.{Schema}
use Rattle.cell_values.specs.declared.schema.Kind.TheVariants.{Int64}
use Rattle.schema_grammar.specs.declared.kinds.TypeKind.TheVariants.{UnknownArray}
use Rattle.afl_trees.specs.Term.{Term, reference, text, call, no_terms, and_term}
use Rattle.logical_plan.specs.Query.{Query, scanned}
use Rattle.logical_plan.specs.declared.names.NameEntry.{NameEntry}
use Rattle.plan_changes.specs.Databases.{Database}
use Rattle.plan_changes.specs.declared.change.Change.TheVariants.{Store, Insert, Remove}
use Rattle.check_rules.specs.Operators.{query_named, change_named}
use Rattle.result_print.specs.Listings.{list_text, show_text, stored_line, versions_text}
use Rattle.result_print.specs.Records.{csv_text}
use Rattle.result_print.specs.declared.refusal.Refusal.TheVariants.{Cell, Typing}
use Rattle.statement_replies.specs.Reply.{refused, text_reply}
use Rattle.statement_replies.specs.Statements.{reply_to, text_alone, without_change}
use Rattle.statement_replies.specs.declared.replies.style.Style.{Style}

abbrev lines : Style
lines = record { csv = false; trace = false }

abbrev traces : Style
traces = record { csv = false; trace = true }

abbrev at : ℕ → ℕ → Span
at a b = record { start = a; end = b }

abbrev line : Bool → Schema
line nullable = record { attributes = record { name = codes "v"; kind = Int64; nullable = nullable } ∷ []; dimensions = record { name = codes "i"; lo = pos 0; hi = pos 4; chunk = 5; overlap = 0 } ∷ [] }

abbrev row : ℕ → Datum → Row
row n value = record { at = record { items = pos n ∷ [] }; cell = Full (value ∷ []) }

abbrev rows : List Row
rows = row 1 (Int (pos 7)) ∷ row 3 Null ∷ []

abbrev db : Database
db =
    record { name = codes "A"; schema = line true; next = 4; versions = record { number = 3; rows = rows } ∷ [] }
    ∷ record { name = codes "N"; schema = line false; next = 1; versions = [] }
    ∷ []

abbrev a : NameEntry
a = record { name = codes "A"; schema = line true; next = 4; versions = 3 ∷ [] }

abbrev n : NameEntry
n = record { name = codes "N"; schema = line false; next = 1; versions = [] }

abbrev plan : Query
plan = scanned (record { name = codes "A"; version = 3; schema = line true })

abbrev name : ℕ → ℕ → List ℕ → Term
name a b bytes = reference (at a b) bytes

abbrev one : List ℕ → ℕ → Term → Term
one word end x = call (at 0 end) word (and_term x no_terms)

abbrev store_in : List ℕ → Term
store_in target = call (at 0 11) (codes "store") (and_term (name 6 7 (codes "A")) (and_term (name 9 10 target) no_terms))

-- A
queried : reply_to lines db [] (name 0 1 (codes "A")) ≡ without_change (text_reply lines [] (line true) rows)
unfolding query_named change_named
queried = refl

-- A, and what was read
queried_traced : reply_to traces db [] (name 0 1 (codes "A")) ≡ without_change (text_reply lines (codes "trace: A@3 asked 1 of 1\n") (line true) rows)
unfolding query_named change_named digits
queried_traced = refl

-- A, as CSV
queried_as_csv : reply_to (record { csv = true; trace = false }) db [] (name 0 1 (codes "A")) ≡ without_change (text_alone (csv_text (line true) rows ++ []))
unfolding query_named change_named
queried_as_csv = refl

-- store(A, A)
stored : reply_to lines db [] (store_in (codes "A")) ≡ record { reply = text_alone (stored_line (codes "A") 4); change = Some (Store (codes "A") (line true) plan) }
unfolding query_named change_named digits
stored = refl

-- store(A, B)
stored_anew : reply_to lines db [] (store_in (codes "B")) ≡ record { reply = text_alone (stored_line (codes "B") 1); change = Some (Store (codes "B") (line true) plan) }
unfolding query_named change_named digits
stored_anew = refl

-- store(A, A), and what was read
stored_traced : reply_to traces db [] (store_in (codes "A"))
    ≡ record { reply = text_alone (codes "ok A@4\ntrace: A@3 asked 1 of 1\n"); change = Some (Store (codes "A") (line true) plan) }
unfolding query_named change_named digits
stored_traced = refl

-- insert(A, A), and what was read, the target last
inserted_traced : reply_to traces db [] (call (at 0 12) (codes "insert") (and_term (name 7 8 (codes "A")) (and_term (name 10 11 (codes "A")) no_terms)))
    ≡ record { reply = text_alone (codes "ok A@4\ntrace: A@3 asked 1 of 1\ntrace: A@3 asked 1 of 1\n"); change = Some (Insert (codes "A") (line true) plan) }
unfolding query_named change_named digits
inserted_traced = refl

-- store(A, N)
broken : reply_to lines db [] (store_in (codes "N")) ≡ without_change (refused (Cell (record { items = pos 3 ∷ [] }) NullInNotNull))
unfolding query_named change_named
broken = refl

-- remove(A)
removed : reply_to lines db [] (one (codes "remove") 9 (name 7 8 (codes "A"))) ≡ record { reply = text_alone (codes "ok\n"); change = Some (Remove (codes "A")) }
unfolding query_named change_named
removed = refl

-- versions(A)
versions : reply_to lines db [] (one (codes "versions") 11 (name 9 10 (codes "A"))) ≡ without_change (text_alone (versions_text a))
unfolding query_named change_named
versions = refl

-- show(N)
shown : reply_to lines db [] (one (codes "show") 7 (name 5 6 (codes "N"))) ≡ without_change (text_alone (show_text n))
unfolding query_named change_named
shown = refl

-- list('arrays')
listed : reply_to lines db [] (one (codes "list") 14 (text (at 5 13) (codes "arrays")))
    ≡ without_change (text_alone (list_text (record { arrays = a ∷ n ∷ [] })))
unfolding query_named change_named
listed = refl

-- show(B)
unknown : reply_to lines db [] (one (codes "show") 7 (name 5 6 (codes "B"))) ≡ without_change (refused (Typing (at 5 6) UnknownArray))
unfolding query_named change_named
unknown = refl

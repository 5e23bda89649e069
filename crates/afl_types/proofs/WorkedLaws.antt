-- A statement over two lists of stored arrays that agree on the names which it says, and over one that doesn't.
use Rattle.std.proofs.Common.{◌≡◌, ℕ, pos, true, Ok, List, [], ◌∷◌, refl}
use Rattle.std.specs.Prelude.{codes}
use Rattle.cell_values.specs.declared.name.Span.{Span}
use Rattle.cell_values.specs.declared.schema.Schema.{Schema}
use Rattle.cell_values.specs.declared.schema.Kind.TheVariants.{Int64}
use Rattle.schema_grammar.specs.declared.kinds.TypeKind.TheVariants.{UnknownVersion}
use Rattle.afl_trees.specs.Term.{Term, reference, version, call, no_terms, and_term}
use Rattle.logical_plan.specs.PlanSchema.{project_schema}
use Rattle.logical_plan.specs.Query.{scanned, projected}
use Rattle.logical_plan.specs.declared.names.NameEntry.{NameEntry}
use Rattle.logical_plan.specs.declared.names.Names.{Names}
use Rattle.plan_changes.specs.declared.change.Change.{Change}
use Rattle.plan_changes.specs.declared.change.Change.TheVariants.{Store}
use Rattle.check_rules.specs.Checked.{refused}
use Rattle.check_rules.specs.Operators.{query_named, change_named}
use Rattle.afl_types.specs.Checking.{check_of}
use Rattle.afl_types.specs.declared.types.statements.checking.Typed.TheVariants.{Change as AChange}
use Rattle.afl_types.specs.NamesLaws.{Agree, change_names}
use Rattle.afl_types.specs.Said.{said_names}

at : ℕ → ℕ → Span
at a b = record { start = a; end = b }

line : Schema
line = record { attributes = record { name = codes "v"; kind = Int64; nullable = true } ∷ []; dimensions = record { name = codes "i"; lo = pos 0; hi = pos 4; chunk = 5; overlap = 0 } ∷ [] }

entry : List ℕ → List ℕ → NameEntry
entry name versions = record { name = name; schema = line; next = 4; versions = versions }

-- the same array A, and other arrays beside it: one has the name of an attribute
first : Names
first = record { arrays = entry (codes "A") (1 ∷ 2 ∷ []) ∷ entry (codes "v") (1 ∷ []) ∷ [] }

second : Names
second = record { arrays = entry (codes "A") (1 ∷ 2 ∷ []) ∷ entry (codes "C") [] ∷ entry (codes "v") (1 ∷ 3 ∷ []) ∷ [] }

-- store(project(A@2, v), B)
tree : Term
tree =
    call (at 0 25) (codes "store")
    (and_term (call (at 6 21) (codes "project") (and_term (version (at 14 17) (codes "A") (pos 2)) (and_term (reference (at 19 20) (codes "v")) no_terms)))
    (and_term (reference (at 23 24) (codes "B")) no_terms))

change : Change
change = Store (codes "B") (project_schema (0 ∷ []) line) (projected (scanned (record { name = codes "A"; version = 2; schema = line })) (0 ∷ []))

says : said_names tree ≡ codes "A" ∷ codes "B" ∷ []
unfolding tree query_named change_named
says = refl

so_does_the_change : change_names change ≡ codes "A" ∷ codes "B" ∷ []
unfolding change
so_does_the_change = refl

agree : Agree first second (said_names tree)
unfolding tree first second entry query_named change_named
agree = record { room = refl; entries = (refl, (refl, tt)) }

over_the_first : check_of tree [] first ≡ Ok (AChange change)
unfolding tree first entry line change at query_named change_named
over_the_first = refl

over_the_second : check_of tree [] second ≡ Ok (AChange change)
unfolding tree second entry line change at query_named change_named
over_the_second = refl

-- where A has another entry
third : Names
third = record { arrays = entry (codes "A") (3 ∷ []) ∷ [] }

over_the_third : check_of tree [] third ≡ refused (at 14 17) UnknownVersion
unfolding tree third entry at query_named change_named
over_the_third = refl

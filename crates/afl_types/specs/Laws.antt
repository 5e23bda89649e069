-- What checking answers is a typed plan, or a typed change.
use Rattle.std.specs.Prelude.{◌≡◌, ◌<◌, ◌≤◌, ℕ, length, get_or, slice_get, List, IsTrue, Some, Ok}
use Rattle.std.specs.Option.{option_map}
use Rattle.cell_values.specs.declared.name.Span.{Span}
use Rattle.schema_grammar.specs.declared.shape_text.SchemaText.{SchemaText}
use Rattle.afl_trees.specs.Statement.{DerivesText}
use Rattle.afl_trees.specs.Term.{Term, create}
use Rattle.logical_plan.specs.Query.{Query}
use Rattle.logical_plan.specs.Typing.{IsTyped}
use Rattle.logical_plan.specs.declared.names.NameEntry.{NameEntry}
use Rattle.logical_plan.specs.declared.names.Names.{Names}
use Rattle.plan_changes.specs.Stored.{AreStored}
use Rattle.plan_changes.specs.Typed.{IsTypedFor}
use Rattle.plan_changes.specs.declared.change.Change.{Change}
use Rattle.check_exprs.specs.Laws.{leaves_fit}
use Rattle.afl_types.specs.Place.{created_place}
use Rattle.afl_types.specs.Arrays.{AreValid}
use Rattle.afl_types.specs.Checking.{check_of}
use Rattle.afl_types.specs.Queries.{query_of}
use Rattle.afl_types.specs.declared.types.statements.checking.Typed.TheVariants.{Change as AChange}

-- over stored arrays of valid schemas, and for a tree whose numbers, texts and codes are within the limits of values
abbrev pub CheckedPlansAreTyped : Type 0
CheckedPlansAreTyped = (arrays : List NameEntry) (tree : Term) (query : Query) → AreValid arrays
    → IsTrue (leaves_fit tree) → query_of arrays tree ≡ Ok query → IsTyped query

-- a change that checking answers over the names of stored arrays is one that they allow, of a typed plan that reads versions which
-- stand, into an array that its schema fits
abbrev pub CheckedChangesAreTyped : Type 0
CheckedChangesAreTyped = (names : Names) (text : List ℕ) (tree : Term) (change : Change) → AreStored names
    → IsTrue (leaves_fit tree) → check_of tree text names ≡ Ok (AChange change) → IsTypedFor names change

-- those of each tree that a text of bytes derives are
abbrev pub ParsedLeavesFit : Type 0
ParsedLeavesFit = (text : List ℕ) (tree : Term) → ((i : ℕ) → get_or text i 0 < 256) → DerivesText text tree → IsTrue (leaves_fit tree)

-- the place that is told of a created array's name is that of the statement's third token
abbrev pub CreatedPlaceIsTheName : Type 0
CreatedPlaceIsTheName = (text : List ℕ) (s : Span) (name : List ℕ) (written : SchemaText)
    → length text ≤ 1048576 → (d : DerivesText text (create s name written))
    → option_map (λ token. token.span) (slice_get d.tokens 2) ≡ Some (created_place text s name)

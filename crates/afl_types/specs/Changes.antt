-- Statements that change arrays or list something: what each is over the stored arrays, or the first rule that it breaks.
--
-- The sort of each argument comes first, from left to right, and then the rules of the statement in their order.
use Rattle.std.specs.Prelude.{ℕ, ℤ, pos, int_le, Bool, not, ◌&&◌, nat_lt, unsigned_abs, cond, codes, Option, Some, None, Ok, List}
use Rattle.std.specs.Str.{bytes_eq}
use Rattle.cell_values.specs.declared.name.Span.{Span}
use Rattle.cell_values.specs.declared.schema.Schema.{Schema}
use Rattle.schema_grammar.specs.declared.shape_text.SchemaText.{SchemaText}
use Rattle.schema_grammar.specs.declared.kinds.TypeKind.TheVariants.{WrongType, WrongCount, UnknownName, UnknownArray, UnknownVersion}
use Rattle.schema_grammar.specs.declared.kinds.TypeKind.TheVariants.{ArrayExists, SchemaDiffers, TooManyArrays, TooManyVersions}
use Rattle.afl_trees.specs.Term.{Term, reference, text, Terms, no_terms, and_term}
use Rattle.afl_trees.specs.Grammar.{span_of}
use Rattle.logical_plan.specs.PlanSchema.{schema_of}
use Rattle.logical_plan.specs.Query.{Query}
use Rattle.logical_plan.specs.declared.names.NameEntry.{NameEntry}
use Rattle.plan_changes.specs.Allowed.{has_room}
use Rattle.plan_changes.specs.Changes.{entry_named, has_array, last_of}
use Rattle.plan_changes.specs.Typed.{are_alike}
use Rattle.plan_changes.specs.declared.change.Change.{Change}
use Rattle.plan_changes.specs.declared.change.Change.TheVariants.{Create, Store, Insert, RemoveVersions}
use Rattle.check_rules.specs.Checked.{Checked, refused, demand, then}
use Rattle.check_rules.specs.Sorts.{number_in}
use Rattle.check_sources.specs.Build.{meant}
use Rattle.afl_types.specs.declared.types.changes.put.Target.{Target}

-- ---- a new array

-- no array has the name, and there is room for one more
abbrev pub created_as : List NameEntry → Span → List ℕ → Schema → Checked Change
created_as arrays t name schema = demand (not (has_array arrays name)) t ArrayExists (demand (has_room arrays) t TooManyArrays (Ok (Create name schema)))

-- `create array` of a name, which stands at a place, and a schema, whose own rules come first
abbrev pub created : List NameEntry → Span → List ℕ → SchemaText → Checked Change
created arrays t name written = then (meant written) (created_as arrays t name)

-- ---- a new version

-- A version of an array of a schema fits into an array that stands: there is a number for it, and the schemas are alike. The
-- array's own schema stays.
abbrev pub fitting : Span → Span → NameEntry → Schema → Checked Schema
fitting s t entry shape = demand (nat_lt entry.next 65536) t TooManyVersions (demand (are_alike entry.schema shape) s SchemaDiffers (Ok entry.schema))

-- under a name that no array has, what is stored makes a new array of its own schema
abbrev pub stored_schema : List NameEntry → Span → Span → Schema → Option NameEntry → Checked Schema
stored_schema arrays s t shape None = demand (has_room arrays) t TooManyArrays (Ok shape)
stored_schema arrays s t shape (Some entry) = fitting s t entry shape

-- what is inserted goes into an array that stands
abbrev pub inserted_schema : Span → Span → Schema → Option NameEntry → Checked Schema
inserted_schema s t shape None = refused t UnknownArray
inserted_schema s t shape (Some entry) = fitting s t entry shape

abbrev pub target_of : List ℕ → Schema → Checked Target
target_of name schema = Ok (record { name = name; schema = schema })

abbrev pub stored_in : List NameEntry → Span → Schema → Span → List ℕ → Checked Target
stored_in arrays s shape t name = then (stored_schema arrays s t shape (entry_named arrays name)) (target_of name)

abbrev pub inserted_in : List NameEntry → Span → Schema → Span → List ℕ → Checked Target
inserted_in arrays s shape t name = then (inserted_schema s t shape (entry_named arrays name)) (target_of name)

-- what stands behind the query is a bare name
abbrev pub store_target : List NameEntry → Span → Schema → Term → Checked Target
store_target arrays s shape (reference t name) = stored_in arrays s shape t name
store_target arrays s shape n = refused (span_of n) WrongType

abbrev pub insert_target : List NameEntry → Span → Schema → Term → Checked Target
insert_target arrays s shape (reference t name) = inserted_in arrays s shape t name
insert_target arrays s shape n = refused (span_of n) WrongType

-- `store` of a plan under a name
abbrev pub store_call : List NameEntry → Span → Query → Term → Checked Change
store_call arrays s plan n = then (store_target arrays s (schema_of plan) n) (λ target. Ok (Store target.name target.schema plan))

-- `insert` of a plan under a name
abbrev pub insert_call : List NameEntry → Span → Query → Term → Checked Change
insert_call arrays s plan n = then (insert_target arrays s (schema_of plan) n) (λ target. Ok (Insert target.name target.schema plan))

-- ---- an array as it stands

-- an array that stands, under its name
abbrev pub known : {A : Type 0} → Span → Checked A → Option NameEntry → Checked A
known t next (Some entry) = next
known t next None = refused t UnknownArray

-- a bare name that an array has
abbrev pub stored_name : List NameEntry → Term → Checked (List ℕ)
stored_name arrays (reference t name) = known t (Ok name) (entry_named arrays name)
stored_name arrays n = refused (span_of n) WrongType

-- `remove`, `versions` and `show` have one argument, the name of an array that stands
abbrev pub array_call : List NameEntry → Span → Terms → Checked (List ℕ)
array_call arrays s (and_term n no_terms) = stored_name arrays n
array_call arrays s arguments = refused s WrongCount

-- a number from 1 to the newest version
abbrev pub below_of : ℕ → ℤ → Option ℕ
below_of newest n = cond (int_le (pos 1) n && int_le n (pos newest)) (Some (unsigned_abs n)) None

abbrev pub cut_at : Span → List ℕ → Option ℕ → Checked Change
cut_at at name (Some below) = Ok (RemoveVersions name below)
cut_at at name None = refused at UnknownVersion

-- the versions below a number go: the array stands, and the number is one from 1 to its newest version, if it has any
abbrev pub cut_of : Span → Span → List ℕ → ℤ → Option NameEntry → Checked Change
cut_of t at name n (Some entry) = cut_at at name (below_of (last_of entry.versions) n)
cut_of t at name n None = refused t UnknownArray

-- the argument behind the name is a number, with or without one prefix `-`
abbrev pub cut_by : List NameEntry → Span → List ℕ → Span → Option ℤ → Checked Change
cut_by arrays t name at (Some n) = cut_of t at name n (entry_named arrays name)
cut_by arrays t name at None = refused at WrongType

abbrev pub cut_from : List NameEntry → Term → Term → Checked Change
cut_from arrays (reference t name) i = cut_by arrays t name (span_of i) (number_in i)
cut_from arrays n i = refused (span_of n) WrongType

-- `remove_versions` of a name and a number
abbrev pub cut_call : List NameEntry → Span → Terms → Checked Change
cut_call arrays s (and_term n (and_term i no_terms)) = cut_from arrays n i
cut_call arrays s arguments = refused s WrongCount

-- ---- the list of arrays

abbrev pub is_arrays : List ℕ → Bool
is_arrays spelled = bytes_eq spelled (codes "arrays")

-- the text `arrays`
abbrev pub listed : Term → Checked (Unit {0})
listed (text t spelled) = demand (is_arrays spelled) t UnknownName (Ok tt)
listed n = refused (span_of n) WrongType

-- `list` of that text
abbrev pub list_call : Span → Terms → Checked (Unit {0})
list_call s (and_term n no_terms) = listed n
list_call s arguments = refused s WrongCount

-- Stored arrays and their versions.
use Rattle.std.specs.Prelude.{ℕ, ◌-◌, length, slice_get, unwrap_or, ℤ, pos, negsuc, Bool, false, ◌==◌, Option, Some, None, Ok, List}
use Rattle.std.specs.List.{find}
use Rattle.std.specs.Str.{bytes_eq}
use Rattle.cell_values.specs.declared.name.Span.{Span}
use Rattle.schema_grammar.specs.declared.kinds.TypeKind.TheVariants.{UnknownArray, UnknownVersion, WrongType, WrongCount}
use Rattle.afl_trees.specs.Term.{Term, reference, version, Terms, no_terms, and_term}
use Rattle.afl_trees.specs.Grammar.{span_of}
use Rattle.logical_plan.specs.Query.{Query, scanned}
use Rattle.logical_plan.specs.declared.names.NameEntry.{NameEntry}
use Rattle.check_rules.specs.Checked.{Checked, refused}

abbrev pub entry_named : List NameEntry → List ℕ → Option NameEntry
entry_named arrays name = find (λ entry. bytes_eq entry.name name) arrays

-- the newest version, the last one; 0 where there is none
abbrev pub newest : List ℕ → ℕ
newest versions = unwrap_or (slice_get versions (length versions - 1)) 0

-- a version that has this number
abbrev pub is_version : ℤ → ℕ → Bool
is_version (pos n) v = v == n
is_version (negsuc n) v = false

abbrev pub leaf_of : NameEntry → ℕ → Query
leaf_of entry v = scanned (record { name = entry.name; version = v; schema = entry.schema })

-- an array by its name alone is its newest version
abbrev pub newest_of : Span → Option NameEntry → Checked Query
newest_of s (Some entry) = Ok (leaf_of entry (newest entry.versions))
newest_of s None = refused s UnknownArray

abbrev pub at_version : Span → NameEntry → Option ℕ → Checked Query
at_version s entry (Some v) = Ok (leaf_of entry v)
at_version s entry None = refused s UnknownVersion

abbrev pub version_of : Span → Option NameEntry → ℤ → Checked Query
version_of s (Some entry) n = at_version s entry (find (is_version n) entry.versions)
version_of s None n = refused s UnknownArray

-- an array, or a version of one; no other tree is a query
abbrev pub referred : List NameEntry → Term → Checked Query
referred arrays (reference s name) = newest_of s (entry_named arrays name)
referred arrays (version s name n) = version_of s (entry_named arrays name) n
referred arrays t = refused (span_of t) WrongType

-- `scan` of an array, or a version of one
abbrev pub scan_call : List NameEntry → Span → Terms → Checked Query
scan_call arrays s (and_term x no_terms) = referred arrays x
scan_call arrays s arguments = refused s WrongCount

-- Worked examples of statements, over an array `A` of one dimension with versions 1 and 2 and an array `N` without versions.
use Rattle.std.proofs.Common.{◌≡◌, ℕ, ◌+◌, pos, true, Ok, List, [], ◌∷◌, length, refl}
use Rattle.std.specs.Prelude.{codes}
use Rattle.cell_values.specs.declared.name.Span.{Span}
use Rattle.schema_grammar.specs.declared.kinds.TypeKind.TheVariants.{UnknownArray, UnknownVersion, UnknownName, WrongType, WrongCount, SchemaDiffers, TooManyVersions, ArrayExists}
use Rattle.schema_grammar.specs.declared.shape_text.SchemaText.{SchemaText}
use Rattle.schema_grammar.specs.Rules.{schema_of}
use Rattle.afl_trees.specs.Term.{Term, create, number, text, truth, reference, version, call, group, negative, no_terms, and_term}
use Rattle.logical_plan.specs.declared.names.NameEntry.{NameEntry}
use Rattle.plan_changes.specs.declared.change.Change.TheVariants.{Create, Store, Insert, Remove, RemoveVersions}
use Rattle.check_rules.specs.Checked.{refused}
use Rattle.check_rules.specs.Operators.{query_named, change_named}
use Rattle.check_sources.specs.Stored.{leaf_of}
use Rattle.afl_types.specs.Statements.{statement_of}
use Rattle.afl_types.specs.declared.types.statements.checking.Typed.TheVariants.{Query as AQuery, Change as AChange, Versions, Show, ListArrays}

abbrev at : ℕ → ℕ → Span
at a b = record { start = a; end = b }

-- <v:WORD>[i=0:HI,2,0] in `create array A `
abbrev written : List ℕ → ℕ → SchemaText
written word hi = record {
  attributes = record { name = codes "v"; name_span = at 16 17; word = word; word_span = at 18 23; nullable = true } ∷ [];
  dimensions = record { name = codes "i"; name_span = at 25 26; lo = pos 0; lo_span = at 27 28; hi = pos hi; hi_span = at 29 30; chunk = 2; chunk_span = at 31 32; overlap = 0; overlap_span = at 33 34 } ∷ [];
  brackets = at 24 35;
}

abbrev entry : List ℕ → List ℕ → ℕ → ℕ → List ℕ → NameEntry
entry name word hi next versions = record { name = name; schema = schema_of (written word hi); next = next; versions = versions }

abbrev a : NameEntry
a = entry (codes "A") (codes "int64") 2 7 (1 ∷ 2 ∷ [])

-- of another kind, and with a version 65,535
abbrev s : NameEntry
s = entry (codes "S") (codes "string") 2 65536 (65535 ∷ [])

abbrev arrays : List NameEntry
arrays = a ∷ entry (codes "E") (codes "int64") 2 7 [] ∷ entry (codes "L") (codes "int64") 3 7 [] ∷ s ∷ []

abbrev name : ℕ → List ℕ → Term
name n word = reference (at n (n + length word)) word

abbrev two : List ℕ → ℕ → Term → Term → Term
two word end x y = call (at 0 end) word (and_term x (and_term y no_terms))

abbrev one : List ℕ → ℕ → Term → Term
one word end x = call (at 0 end) word (and_term x no_terms)

-- store(A, A)
stored_again : statement_of arrays ([]) (two (codes "store") 11 (name 6 (codes "A")) (name 9 (codes "A"))) ≡ Ok (AChange (Store (codes "A") a.schema (leaf_of a 2)))
unfolding query_named change_named
stored_again = refl

-- store(A, N): a new array has the schema of what is stored
stored_anew : statement_of arrays ([]) (two (codes "store") 11 (name 6 (codes "A")) (name 9 (codes "N"))) ≡ Ok (AChange (Store (codes "N") a.schema (leaf_of a 2)))
unfolding query_named change_named
stored_anew = refl

-- store(S, A)
other_kind : statement_of arrays ([]) (two (codes "store") 11 (name 6 (codes "S")) (name 9 (codes "A"))) ≡ refused (at 0 11) SchemaDiffers
unfolding query_named change_named
other_kind = refl

-- store(L, A)
other_bounds : statement_of arrays ([]) (two (codes "store") 11 (name 6 (codes "L")) (name 9 (codes "A"))) ≡ refused (at 0 11) SchemaDiffers
unfolding query_named change_named
other_bounds = refl

-- store(A, S): the number of versions comes before the schemas
no_number : statement_of arrays ([]) (two (codes "store") 11 (name 6 (codes "A")) (name 9 (codes "S"))) ≡ refused (at 9 10) TooManyVersions
unfolding query_named change_named
no_number = refl

-- store(Z, 'A'): the query comes before the sort behind it
query_first : statement_of arrays ([]) (two (codes "store") 13 (name 6 (codes "Z")) (text (at 9 12) (codes "A"))) ≡ refused (at 6 7) UnknownArray
unfolding query_named change_named
query_first = refl

-- store(A, (A))
no_name : statement_of arrays ([]) (two (codes "store") 13 (name 6 (codes "A")) (group (at 9 12) (name 10 (codes "A")))) ≡ refused (at 9 12) WrongType
unfolding query_named change_named
no_name = refl

-- store(Z)
count_of_store : statement_of arrays ([]) (one (codes "store") 8 (name 6 (codes "Z"))) ≡ refused (at 0 8) WrongCount
unfolding query_named change_named
count_of_store = refl

-- insert(A@1, E)
inserted : statement_of arrays ([]) (two (codes "insert") 14 (version (at 7 10) (codes "A") (pos 1)) (name 12 (codes "E"))) ≡ Ok (AChange (Insert (codes "E") a.schema (leaf_of a 1)))
unfolding query_named change_named
inserted = refl

-- insert(L, Z): no array comes before schemas that differ
into_none : statement_of arrays ([]) (two (codes "insert") 12 (name 7 (codes "L")) (name 10 (codes "Z"))) ≡ refused (at 10 11) UnknownArray
unfolding query_named change_named
into_none = refl

-- remove(E)
removed : statement_of arrays ([]) (one (codes "remove") 9 (name 7 (codes "E"))) ≡ Ok (AChange (Remove (codes "E")))
unfolding query_named change_named
removed = refl

-- remove(A@1)
removed_version : statement_of arrays ([]) (one (codes "remove") 11 (version (at 7 10) (codes "A") (pos 1))) ≡ refused (at 7 10) WrongType
unfolding query_named change_named
removed_version = refl

-- remove_versions(A, 2)
cut : statement_of arrays ([]) (two (codes "remove_versions") 21 (name 16 (codes "A")) (number (at 19 20) (pos 2))) ≡ Ok (AChange (RemoveVersions (codes "A") 2))
unfolding query_named change_named
cut = refl

-- remove_versions(A, 3): above the newest version
cut_above : statement_of arrays ([]) (two (codes "remove_versions") 21 (name 16 (codes "A")) (number (at 19 20) (pos 3))) ≡ refused (at 19 20) UnknownVersion
unfolding query_named change_named
cut_above = refl

-- remove_versions(A, -1)
cut_below : statement_of arrays ([]) (two (codes "remove_versions") 22 (name 16 (codes "A")) (negative (at 19 21) (number (at 20 21) (pos 1)))) ≡ refused (at 19 21) UnknownVersion
unfolding query_named change_named
cut_below = refl

-- remove_versions(E, 1): no version stands
none_to_cut : statement_of arrays ([]) (two (codes "remove_versions") 21 (name 16 (codes "E")) (number (at 19 20) (pos 1))) ≡ refused (at 19 20) UnknownVersion
unfolding query_named change_named
none_to_cut = refl

-- remove_versions(Z, true): sorts come before the array
cut_sorts : statement_of arrays ([]) (two (codes "remove_versions") 24 (name 16 (codes "Z")) (truth (at 19 23) true)) ≡ refused (at 19 23) WrongType
unfolding query_named change_named
cut_sorts = refl

-- versions(E)
versions_of : statement_of arrays ([]) (one (codes "versions") 11 (name 9 (codes "E"))) ≡ Ok (Versions (codes "E"))
unfolding query_named change_named
versions_of = refl

-- versions(Z)
versions_of_none : statement_of arrays ([]) (one (codes "versions") 11 (name 9 (codes "Z"))) ≡ refused (at 9 10) UnknownArray
unfolding query_named change_named
versions_of_none = refl

-- show(A)
shown : statement_of arrays ([]) (one (codes "show") 7 (name 5 (codes "A"))) ≡ Ok (Show (codes "A"))
unfolding query_named change_named
shown = refl

-- list('arrays')
all_listed : statement_of arrays ([]) (one (codes "list") 14 (text (at 5 13) (codes "arrays"))) ≡ Ok ListArrays
unfolding query_named change_named
all_listed = refl

-- list('Arrays')
other_list : statement_of arrays ([]) (one (codes "list") 14 (text (at 5 13) (codes "Arrays"))) ≡ refused (at 5 13) UnknownName
unfolding query_named change_named
other_list = refl

-- list(arrays)
list_of_name : statement_of arrays ([]) (one (codes "list") 12 (name 5 (codes "arrays"))) ≡ refused (at 5 11) WrongType
unfolding query_named change_named
list_of_name = refl

-- (show(A)): only the whole statement may be one
in_brackets : statement_of arrays ([]) (group (at 0 9) (call (at 1 8) (codes "show") (and_term (name 6 (codes "A")) no_terms))) ≡ refused (at 1 8) WrongType
unfolding query_named change_named
in_brackets = refl

-- filter(store(A), true): wrong type before the number of arguments
within : statement_of arrays ([]) (two (codes "filter") 22 (call (at 7 15) (codes "store") (and_term (name 13 (codes "A")) no_terms)) (truth (at 17 21) true)) ≡ refused (at 7 15) WrongType
unfolding query_named change_named
within = refl

-- (A)
a_query : statement_of arrays ([]) (group (at 0 3) (name 1 (codes "A"))) ≡ Ok (AQuery (leaf_of a 2))
unfolding query_named change_named
a_query = refl

-- create array A <v:int64>[i=0:2,2,0]
exists : statement_of arrays (codes "create array A <v:int64>[i=0:2,2,0]") (create (at 0 35) (codes "A") (written (codes "int64") 2)) ≡ refused (at 13 14) ArrayExists
unfolding query_named change_named
exists = refl

-- create array N <v:int64>[i=0:2,2,0]
new_one : statement_of arrays (codes "create array N <v:int64>[i=0:2,2,0]") (create (at 0 35) (codes "N") (written (codes "int64") 2)) ≡ Ok (AChange (Create (codes "N") a.schema))
unfolding query_named change_named
new_one = refl

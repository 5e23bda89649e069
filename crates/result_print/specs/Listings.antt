-- The texts of changes and listings.
use Rattle.std.specs.Prelude.{ℕ, ◌+◌, List, [], ◌∷◌, ◌++◌, codes}
use Rattle.std.specs.Fmt.{decimal}
use Rattle.afl_lexer.specs.Spelling.{quoted_text}
use Rattle.schema_grammar.specs.SchemaBytes.{schema_bytes}
use Rattle.logical_plan.specs.declared.names.NameEntry.{NameEntry}
use Rattle.logical_plan.specs.declared.names.Names.{Names}

-- ---- changes

abbrev pub ok_line : List ℕ
ok_line = codes "ok\n"

-- `ok A@3`
abbrev pub stored_line : List ℕ → ℕ → List ℕ
stored_line name number = codes "ok " ++ name ++ codes "@" ++ decimal number ++ codes "\n"

-- ---- listings

-- a line for each item with its number. The numbers rise by 1, from a first one on
abbrev pub numbered : {A : Type 0} → (ℕ → A → List ℕ) → ℕ → List A → List ℕ
numbered line k [] = []
numbered line k (x ∷ xs) = line k x ++ numbered line (k + 1) xs

-- `{3} 5`
abbrev pub version_line : ℕ → ℕ → List ℕ
version_line k number = codes "{" ++ decimal k ++ codes "} " ++ decimal number ++ codes "\n"

-- `{VersionNo} version_id`, and a line for each version of an array, from 1 on
abbrev pub versions_text : NameEntry → List ℕ
versions_text entry = codes "{VersionNo} version_id\n" ++ numbered version_line 1 entry.versions

-- `A<v:int64 not null>[i=0:*,100,0]`
abbrev pub show_text : NameEntry → List ℕ
show_text entry = entry.name ++ schema_bytes entry.schema ++ codes "\n"

-- `{0} 'A','<v:int64 not null>[i=0:*,100,0]'`
abbrev pub array_line : ℕ → NameEntry → List ℕ
array_line k entry = codes "{" ++ decimal k ++ codes "} " ++ quoted_text entry.name ++ codes "," ++ quoted_text (schema_bytes entry.schema) ++ codes "\n"

-- `{No} name,schema`, and a line for each array in their order, from 0 on
abbrev pub list_text : Names → List ℕ
list_text names = codes "{No} name,schema\n" ++ numbered array_line 0 names.arrays

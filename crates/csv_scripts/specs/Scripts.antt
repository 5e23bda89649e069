-- The statements of a script. Each ends with `;` and a line feed.
use Rattle.std.specs.Prelude.{ℕ, ℤ, pos, List, [], ◌∷◌, ◌++◌, length, codes, nat_lt, if◌then◌else◌}
use Rattle.std.specs.Fmt.{decimal}
use Rattle.std.specs.List.{flat_map}
use Rattle.cell_values.specs.declared.datum.Datum.{Datum}
use Rattle.cell_values.specs.declared.schema.Schema.{Schema}
use Rattle.afl_lexer.specs.Spelling.{quoted_text}
use Rattle.schema_grammar.specs.SchemaBytes.{schema_bytes}
use Rattle.csv_scripts.specs.Literal.{literal_bytes}
use Rattle.csv_scripts.specs.declared.plan.LoadPlan.{LoadPlan}

-- Records by their numbers, from one on, in chunks of so many. Each has the attributes and then the dimensions of the array.
abbrev pub by_number : LoadPlan → ℤ → ℕ → Schema
by_number plan first chunk = record {
  attributes = plan.columns;
  dimensions = record { name = plan.record; lo = first; hi = pos 4611686018427387903; chunk = chunk; overlap = 0 } ∷ [];
}

-- `create array A <..>[..];`
abbrev pub create_bytes : List ℕ → Schema → List ℕ
create_bytes name schema = codes "create array " ++ name ++ codes " " ++ schema_bytes schema ++ codes ";\n"

-- `remove(A);`
abbrev pub remove_bytes : List ℕ → List ℕ
remove_bytes name = codes "remove(" ++ name ++ codes ");\n"

-- `build(<..>[record=7:*,..],'[..]',true)`: the records of a literal, from a number on
abbrev pub built_bytes : LoadPlan → ℤ → List ℕ → List ℕ
built_bytes plan first literal = codes "build(" ++ schema_bytes (by_number plan first 65536) ++ codes "," ++ quoted_text literal ++ codes ",true)"

-- `insert(redimension(..,<..>[..]),A);`
abbrev pub insert_bytes : List ℕ → Schema → List ℕ → List ℕ
insert_bytes source schema name = codes "insert(redimension(" ++ source ++ codes "," ++ schema_bytes schema ++ codes ")," ++ name ++ codes ");\n"

-- the array of records
abbrev pub stage_schema : LoadPlan → Schema
stage_schema plan = by_number plan (pos 0) 4096

-- records of one literal, and the number of the first
pub record Part : Type 0 where
  pub first : ℕ
  pub rows : List (List Datum)

abbrev pub part : ℕ → List (List Datum) → Part
part first rows = record { first = first; rows = rows }

abbrev pub part_bytes : LoadPlan → Part → List ℕ
part_bytes plan p = built_bytes plan (pos p.first) (literal_bytes p.rows)

-- records into the array at once
abbrev pub direct_bytes : LoadPlan → Part → List ℕ
direct_bytes plan p = insert_bytes (part_bytes plan p) plan.schema plan.name

-- records into the array of records
abbrev pub stage_bytes : LoadPlan → Part → List ℕ
stage_bytes plan p = insert_bytes (part_bytes plan p) (stage_schema plan) plan.stage

-- the array of records anew: where none stands, the last two undo one another
abbrev pub opening_bytes : LoadPlan → List ℕ
opening_bytes plan = create_bytes plan.stage (stage_schema plan) ++ remove_bytes plan.stage ++ create_bytes plan.stage (stage_schema plan)

-- Of the array of records the version that all its inserts together make, into the array. Where one of them was refused there is
-- no such version.
abbrev pub closing_bytes : LoadPlan → ℕ → List ℕ
closing_bytes plan versions = insert_bytes (plan.stage ++ codes "@" ++ decimal versions) plan.schema plan.name ++ remove_bytes plan.stage

-- what stands before the records of a literal, where so many literals are in the array of records
abbrev pub lead_bytes : LoadPlan → ℕ → List ℕ
lead_bytes plan versions = if nat_lt 0 versions then [] else opening_bytes plan

-- parts in the array of records
abbrev pub staged_bytes : LoadPlan → List Part → List ℕ
staged_bytes plan [] = []
staged_bytes plan (p ∷ ps) = opening_bytes plan ++ flat_map (stage_bytes plan) (p ∷ ps)

-- and then all of them in the array
abbrev pub block_bytes : LoadPlan → List Part → List ℕ
block_bytes plan parts = staged_bytes plan parts ++ closing_bytes plan (length parts)

-- What a script says of records.
use Rattle.std.specs.Prelude.{◌≡◌, ℕ, ◌+◌, Bool, ⊤, List, [], ◌∷◌, ◌++◌, length}
use Rattle.std.specs.List.{flat_map}
use Rattle.cell_values.specs.declared.datum.Datum.{Datum}
use Rattle.check_rules.specs.Literals.{SpellsElementsOf}
use Rattle.csv_scripts.specs.Batches.{IsOpenLiteral}
use Rattle.csv_scripts.specs.Literal.{literal_bytes}
use Rattle.csv_scripts.specs.Scripts.{Part, staged_bytes, block_bytes, direct_bytes}
use Rattle.csv_scripts.specs.declared.plan.LoadPlan.{LoadPlan}

-- the literal of the part spells its records, each once and in order
abbrev pub IsSpelled : Part → Type 0
IsSpelled p = (bare : Bool) → SpellsElementsOf bare (literal_bytes p.rows) p.rows

-- each part is spelled, the first begins with this number, and each other one where the one before it ends
abbrev pub AreConsecutive : ℕ → List Part → Type 0
AreConsecutive from [] = ⊤
AreConsecutive from (p ∷ ps) = (p.first ≡ from) × IsSpelled p × AreConsecutive (from + length p.rows) ps

abbrev pub rows_in : List Part → List (List Datum)
rows_in = flat_map (λ p. p.rows)

-- So far the script puts some of the records into the array of records, and the others wait in a literal that grows.
pub record IsLoading (plan : LoadPlan) (from : ℕ) (text : List ℕ) (first count versions : ℕ) (script : List ℕ) (rows : List (List Datum)) : Type 0 where
  pub parts : List Part
  pub waiting : List (List Datum)
  pub written : script ≡ staged_bytes plan parts
  pub all : rows ≡ rows_in parts ++ waiting
  pub is_open : IsOpenLiteral text count waiting
  pub staged : versions ≡ length parts
  pub follow : AreConsecutive from parts
  pub next : first ≡ from + length (rows_in parts)

-- A script for records from a number on: nothing for none; one statement that puts them into their array; or the statements that put
-- them into the array of records, a literal at a time, and then one that takes them from there. Each record stands in one literal.
pub data IsLoad (plan : LoadPlan) (from : ℕ) (script : List ℕ) (rows : List (List Datum)) : Type 0 where
  nothing : rows ≡ [] → script ≡ [] → IsLoad plan from script rows
  at_once : (p : Part) → p.rows ≡ rows → AreConsecutive from (p ∷ []) → script ≡ direct_bytes plan p → IsLoad plan from script rows
  in_steps : (parts : List Part) → rows_in parts ≡ rows → AreConsecutive from parts → script ≡ block_bytes plan parts → IsLoad plan from script rows

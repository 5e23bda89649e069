-- Records as a literal: in brackets, with commas between. Of each record the values, in brackets, with commas between.
use Rattle.std.specs.Prelude.{◌≤◌, ℕ, pos, negsuc, Bool, true, false, ◌&&◌, nat_le, nat_lt, IsTrue, List, ◌++◌, map, length, codes}
use Rattle.std.specs.List.{list_all}
use Rattle.cell_values.specs.declared.datum.Datum.{Datum}
use Rattle.cell_values.specs.declared.datum.Datum.TheVariants.{Null, Missing, Int, Text, Truth, Bad}
use Rattle.result_print.specs.Texts.{spelled, listed}
use Rattle.check_rules.specs.Literals.{SpellsElementsOf}

-- `(5,null,'a')`
abbrev pub element_bytes : List Datum → List ℕ
element_bytes values = codes "(" ++ listed (map spelled values) ++ codes ")"

-- `[(5,null,'a'),(6,?2,'b')]`
abbrev pub literal_bytes : List (List Datum) → List ℕ
literal_bytes rows = codes "[" ++ listed (map element_bytes rows) ++ codes "]"

-- A literal can spell the value: all but a fault, and but the least number, whose digits are no token.
abbrev pub is_spellable : Datum → Bool
is_spellable Null = true
is_spellable (Missing code) = nat_le 1 code && nat_le code 127
is_spellable (Int (pos n)) = nat_lt n 9223372036854775808
is_spellable (Int (negsuc n)) = nat_lt n 9223372036854775807
is_spellable (Text content) = nat_le (length content) 65535
is_spellable (Truth truth) = true
is_spellable (Bad kind) = false

abbrev pub are_spellable : List Datum → Bool
are_spellable = list_all is_spellable

abbrev pub are_all_spellable : List (List Datum) → Bool
are_all_spellable = list_all are_spellable

-- Records that a literal can spell, and that have room in one, are the elements that the text spells: each once, in order.
abbrev pub LiteralsAreRead : Type 0
LiteralsAreRead = (bare : Bool) (rows : List (List Datum)) → IsTrue (are_all_spellable rows) → length (literal_bytes rows) ≤ 65535
    → SpellsElementsOf bare (literal_bytes rows) rows

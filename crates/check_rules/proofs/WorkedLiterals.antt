-- Worked examples of literals.
use Rattle.std.proofs.Common.{◌≡◌, pos, negsuc, true, false, Some, None, [], ◌∷◌, refl}
use Rattle.std.specs.Prelude.{codes}
use Rattle.cell_values.specs.declared.datum.Datum.TheVariants.{Null, Missing, Int, Text, Truth}
use Rattle.afl_lexer.specs.Scan.{reading_of, word_reading, number_reading, code_reading, content_reading, text_reading, symbol_reading}
use Rattle.check_rules.specs.Inner.Reader.{elements_of}
use Rattle.check_rules.specs.Literals.{SpellsElementsOf}
use Rattle.check_rules.proofs.TextLemmas.{texts_are_read}

-- an element for each place, one of them without a value
each_place : elements_of true (codes "[(1),(),(null),(5), 2]") ≡ Some ((Int (pos 1) ∷ []) ∷ [] ∷ (Null ∷ []) ∷ (Int (pos 5) ∷ []) ∷ (Int (pos 2) ∷ []) ∷ [])
unfolding reading_of word_reading number_reading symbol_reading
each_place = refl

-- so the grammar spells them in the text
each_spelled : SpellsElementsOf true (codes "[(1),(),(null),(5), 2]") ((Int (pos 1) ∷ []) ∷ [] ∷ (Null ∷ []) ∷ (Int (pos 5) ∷ []) ∷ (Int (pos 2) ∷ []) ∷ [])
each_spelled = (texts_are_read true (codes "[(1),(),(null),(5), 2]") ((Int (pos 1) ∷ []) ∷ [] ∷ (Null ∷ []) ∷ (Int (pos 5) ∷ []) ∷ (Int (pos 2) ∷ []) ∷ [])).0 each_place

several_values : elements_of false (codes "[(-1,true,?7), (?0 , false,'a')]") ≡ Some ((Int (negsuc 0) ∷ Truth true ∷ Missing 7 ∷ []) ∷ (Null ∷ Truth false ∷ Text (97 ∷ []) ∷ []) ∷ [])
unfolding reading_of word_reading number_reading code_reading content_reading text_reading symbol_reading
several_values = refl

no_elements : elements_of false (codes "[ ]") ≡ Some []
unfolding reading_of symbol_reading
no_elements = refl

-- with several attributes each element stands in brackets
bare_value : elements_of false (codes "[1]") ≡ None
unfolding reading_of number_reading symbol_reading
bare_value = refl

two_signs : elements_of true (codes "[- - 1]") ≡ None
unfolding reading_of number_reading symbol_reading
two_signs = refl

comma_at_the_end : elements_of true (codes "[1,]") ≡ None
unfolding reading_of number_reading symbol_reading
comma_at_the_end = refl

more_behind : elements_of true (codes "[1] 2") ≡ None
unfolding reading_of number_reading symbol_reading
more_behind = refl

no_token : elements_of true (codes "[1, $]") ≡ None
unfolding reading_of number_reading symbol_reading
no_token = refl

number_too_large : elements_of true (codes "[9223372036854775808]") ≡ None
unfolding reading_of number_reading symbol_reading
number_too_large = refl

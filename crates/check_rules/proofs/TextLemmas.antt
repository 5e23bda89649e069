-- What is read of a text is what it spells.
use Rattle.std.proofs.Common.{◌≡◌, ℕ, ◌≤◌, ◌==◌, Bool, true, false, Option, Some, None, IfSome, List, length, map, refl, sym, ap, subst, ◌∙◌}
use Rattle.std.specs.Prelude.{nat_le, if◌then◌else◌, Result, Ok, Err, IfOk}
use Rattle.std.proofs.lemmas.Bool.{le-leb, leb-true}
use Rattle.cell_values.specs.declared.datum.Datum.{Datum}
use Rattle.cell_values.specs.declared.datum.Row.{Row}
use Rattle.cell_values.specs.declared.schema.Attribute.{Attribute}
use Rattle.cell_values.specs.declared.schema.Dimension.{Dimension}
use Rattle.afl_lexer.specs.Tokens.{AreTokens}
use Rattle.afl_lexer.specs.declared.token.Token.{Token}
use Rattle.check_rules.specs.Inner.Lexed.{tokens_of}
use Rattle.check_rules.specs.Inner.Reader.{spelled_by, elements_of}
use Rattle.check_rules.specs.Laws.{LiteralTokens, TextsAreRead, RowsAreRead}
use Rattle.check_rules.specs.LiteralRows.{SpellsRows, AreSpelled, rows_from, rows_of}
use Rattle.check_rules.specs.Literals.{SpellsElementsOf, mark_of, whats}
use Rattle.check_rules.proofs.LexedLemmas.{tokens_are, tokens_stop, tokens_of_are}
use Rattle.check_rules.proofs.LiteralComplete.{complete}
use Rattle.check_rules.proofs.LiteralSound.{sound}

pub literal_tokens : LiteralTokens
literal_tokens text = (tokens_are text, tokens_stop text)

-- within the limit the elements are those that the tokens spell
pub few_elements : (bare : Bool) (text : List ℕ) → length text ≤ 65535 → elements_of bare text ≡ spelled_by bare text (tokens_of text)
few_elements bare text few = ap (λ (b : Bool). if b then spelled_by bare text (tokens_of text) else None) (le-leb (length text) 65535 few)

by_tokens : (bare : Bool) (text : List ℕ) (elements : List (List Datum)) (o : Option (List Token)) → length text ≤ 65535 → IfSome o (AreTokens text) → spelled_by bare text o ≡ Some elements → SpellsElementsOf bare text elements
by_tokens bare text elements (Some tokens) few are h = record { few = few; tokens = tokens; are_tokens = are; marks = sound bare elements (map mark_of (whats text tokens)) h }
by_tokens bare text elements None few are h = absurd (cc h)

by_length : (bare : Bool) (text : List ℕ) (elements : List (List Datum)) (b : Bool) → nat_le (length text) 65535 ≡ b → (if b then spelled_by bare text (tokens_of text) else None) ≡ Some elements → SpellsElementsOf bare text elements
by_length bare text elements true e h = by_tokens bare text elements (tokens_of text) (leb-true (length text) 65535 e) (tokens_of_are text) h
by_length bare text elements false e h = absurd (cc h)

spells : (bare : Bool) (text : List ℕ) (elements : List (List Datum)) → SpellsElementsOf bare text elements → elements_of bare text ≡ Some elements
spells bare text elements s =
    few_elements bare text s.few ∙ ap (spelled_by bare text) (tokens_are text s.tokens s.are_tokens) ∙ complete bare elements (map mark_of (whats text s.tokens)) s.marks

pub texts_are_read : TextsAreRead
texts_are_read bare text elements = (by_length bare text elements (nat_le (length text) 65535) refl, spells bare text elements)

by_elements : (attributes : List Attribute) (d : Dimension) (text : List ℕ) (rows : List Row) (o : Option (List (List Datum))) → elements_of (length attributes == 1) text ≡ o → rows_of attributes d o ≡ Some rows → SpellsRows attributes d text rows
by_elements attributes d text rows (Some elements) e h = record { elements = elements; spelled = (texts_are_read (length attributes == 1) text elements).0 e; fit = h }
by_elements attributes d text rows None e h = absurd (cc h)

pub rows_are_read : RowsAreRead
rows_are_read attributes d text rows = (
  by_elements attributes d text rows (elements_of (length attributes == 1) text) refl,
  λ s. ap (rows_of attributes d) (spells (length attributes == 1) text s.elements s.spelled) ∙ s.fit,
)

-- what is answered for the elements that are read is what the text spells
pub spelled_some : {E : Type 0} (attributes : List Attribute) (d : Dimension) (text : List ℕ) (elements : List (List Datum)) (r : Result (Option (List Row)) E) → Some elements ≡ elements_of (length attributes == 1) text
    → IfOk r (λ read. read ≡ rows_from attributes d.hi d.lo elements) → IfOk r (AreSpelled attributes d text)
spelled_some attributes d text elements (Err fault) e h = h
spelled_some attributes d text elements (Ok read) e h = subst (AreSpelled attributes d text) (sym (h ∙ ap (rows_of attributes d) e)) (rows_are_read attributes d text)

pub spelled_none : (attributes : List Attribute) (d : Dimension) (text : List ℕ) → None ≡ elements_of (length attributes == 1) text → AreSpelled attributes d text None
spelled_none attributes d text e = subst (AreSpelled attributes d text) (sym (ap (rows_of attributes d) e)) (rows_are_read attributes d text)

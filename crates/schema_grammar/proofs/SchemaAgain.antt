-- The text of a schema is read as the schema.
use Rattle.std.proofs.Common.{◌≡◌, ◌≢◌, ℕ, suc, ◌*◌, ◌≤◌, true, ◌&&◌, List, [], ◌∷◌, map, length, drop, Some, is_some, Result, Ok, Err, IfOk, OnOk, refl, sym, ap, subst, ◌∙◌, arith}
use Rattle.std.specs.Prelude.{nat_le, unsigned_abs, unwrap_or}
use Rattle.std.specs.List.{All, list_all, AllByRecursion}
use Rattle.std.proofs.lemmas.Bool.{and_parts, leb-true}
use Rattle.std.proofs.lemmas.List.{append-nil}
use Rattle.std.proofs.Math.Seq.{drop-length}
use Rattle.std.proofs.Math.Nat.{le-mul_of_pos_right}
use Rattle.afl_lexer.specs.Naming.{IsName}
use Rattle.afl_lexer.specs.Schemas.{is_dimension, is_bound, bounds_in_range, bounds_in_order, has_chunk, overlap_fits, has_attributes, has_dimensions, are_distinct, names_of, frame_length, frame_size, frame_fits, IsValid}
use Rattle.afl_lexer.specs.Kind.{Kind}
use Rattle.afl_lexer.specs.Kind.TheVariants.{Int64, Str, Bool as Truth}
use Rattle.afl_lexer.specs.Attribute.{Attribute}
use Rattle.afl_lexer.specs.Dimension.{Dimension}
use Rattle.afl_lexer.specs.Schema.{Schema}
use Rattle.afl_lexer.specs.declared.Memory.{Memory}
use Rattle.afl_lexer.specs.Lexemes.{Placed, lexeme_of}
use Rattle.afl_lexer.specs.declared.token.Token.{Token}
use Rattle.afl_lexer.specs.Tokens.{AreTokens}
use Rattle.afl_lexer.specs.Spelling.{spelled, said, lexemes as lexemes_said}
use Rattle.afl_lexer.proofs.Printing.{read_again}
use Rattle.schema_grammar.specs.declared.shape_text.SchemaText.{SchemaText}
use Rattle.schema_grammar.specs.declared.shape_text.AttrText.{AttrText}
use Rattle.schema_grammar.specs.declared.shape_text.DimText.{DimText}
use Rattle.schema_grammar.specs.Spelling.{SpellsSchema}
use Rattle.schema_grammar.specs.Outcome.{lexemes}
use Rattle.schema_grammar.specs.Rules.{kind_named, attribute_of, dimension_of, schema_of}
use Rattle.schema_grammar.specs.SchemaBytes.{kind_bytes, attribute_bytes, dimension_bytes, attr_text_bytes, dim_text_bytes, parts_bytes, schema_bytes, shape_bytes}
use Rattle.schema_grammar.specs.Inner.SchemaMarks.{nowhere, bare_attr, bare_dim, bare_shape, shape_marks, IsAttrPrintable, IsDimPrintable, IsPrintable}
use Rattle.schema_grammar.specs.ReadAs.{IsReadAs}
use Rattle.schema_grammar.proofs.SchemaPrinted.{whats, shape_spelled, shape_apart, shape_again}
use Rattle.schema_grammar.proofs.RuleLemmas.{at_least}
use Rattle.schema_grammar.proofs.RulesHold.{IsKnown, valid_rules}

-- The syntax tree of a schema's text, without places.

abbrev written_attr : Attribute → AttrText
written_attr a = record { name = a.name; name_span = nowhere; word = kind_bytes a.kind; word_span = nowhere; nullable = a.nullable }

abbrev written_dim : Dimension → DimText
written_dim d = record {
  name = d.name;
  name_span = nowhere;
  lo = d.lo;
  lo_span = nowhere;
  hi = d.hi;
  hi_span = nowhere;
  chunk = d.chunk;
  chunk_span = nowhere;
  overlap = d.overlap;
  overlap_span = nowhere;
}

abbrev written : Schema → SchemaText
written s = record { attributes = map written_attr s.attributes; dimensions = map written_dim s.dimensions; brackets = nowhere }

attrs_bytes : (xs : List Attribute) → map attribute_bytes xs ≡ map attr_text_bytes (map written_attr xs)
attrs_bytes [] = refl
attrs_bytes (x ∷ xs) = ap (λ l. attribute_bytes x ∷ l) (attrs_bytes xs)

dims_bytes : (xs : List Dimension) → map dimension_bytes xs ≡ map dim_text_bytes (map written_dim xs)
dims_bytes [] = refl
dims_bytes (x ∷ xs) = ap (λ l. dimension_bytes x ∷ l) (dims_bytes xs)

same_bytes : (s : Schema) → schema_bytes s ≡ shape_bytes (written s)
same_bytes s =
    ap (λ l. parts_bytes l (map dimension_bytes s.dimensions)) (attrs_bytes s.attributes)
    ∙ ap (parts_bytes (map attr_text_bytes (map written_attr s.attributes))) (dims_bytes s.dimensions)

-- It means the schema.

kind_again : (k : Kind) → kind_named (kind_bytes k) ≡ Some k
kind_again Int64 = refl
kind_again Str = refl
kind_again Truth = refl

attrs_meant : (xs : List Attribute) → map attribute_of (map written_attr xs) ≡ xs
attrs_meant [] = refl
attrs_meant (x ∷ xs) =
    ap (λ o. record { name = x.name; kind = unwrap_or o Int64; nullable = x.nullable } ∷ map attribute_of (map written_attr xs)) (kind_again x.kind)
    ∙ ap (λ l. x ∷ l) (attrs_meant xs)

dims_meant : (xs : List Dimension) → map dimension_of (map written_dim xs) ≡ xs
dims_meant [] = refl
dims_meant (x ∷ xs) = ap (λ l. x ∷ l) (dims_meant xs)

bare_attrs : (xs : List AttrText) → map attribute_of (map bare_attr xs) ≡ map attribute_of xs
bare_attrs [] = refl
bare_attrs (x ∷ xs) = ap (λ l. attribute_of x ∷ l) (bare_attrs xs)

bare_dims : (xs : List DimText) → map dimension_of (map bare_dim xs) ≡ map dimension_of xs
bare_dims [] = refl
bare_dims (x ∷ xs) = ap (λ l. dimension_of x ∷ l) (bare_dims xs)

pub schema_of-bare : (t : SchemaText) → schema_of (bare_shape t) ≡ schema_of t
schema_of-bare t =
    ap (λ l. record { attributes = l; dimensions = map dimension_of (map bare_dim t.dimensions) }) (bare_attrs t.attributes)
    ∙ ap (λ l. record { attributes = map attribute_of t.attributes; dimensions = l }) (bare_dims t.dimensions)

schema_of-written : (s : Schema) → schema_of (written s) ≡ s
schema_of-written s =
    ap (λ l. record { attributes = l; dimensions = map dimension_of (map written_dim s.dimensions) }) (attrs_meant s.attributes)
    ∙ ap (λ l. record { attributes = s.attributes; dimensions = l }) (dims_meant s.dimensions)

-- Its words name types.

known_written : (xs : List Attribute) → AllByRecursion IsKnown (map bare_attr (map written_attr xs))
known_written [] = tt
known_written (x ∷ xs) = (ap is_some (kind_again x.kind), known_written xs)

known_bare : (xs : List AttrText) → AllByRecursion IsKnown (map bare_attr xs) → AllByRecursion IsKnown xs
known_bare [] h = tt
known_bare (x ∷ xs) h = (h.0, known_bare xs h.1)

-- A valid schema has numbers that tokens have.

all_places : {X : Type 0} (P : X → Type 0) (xs : List X) → All P xs → AllByRecursion P xs
all_places P [] h = tt
all_places P (x ∷ xs) h = (h 0 x (omega arith), all_places P xs (λ k d w. h (suc k) d (omega arith)))

attrs_printable : (xs : List Attribute) → AllByRecursion (λ (a : Attribute). IsName a.name) xs → AllByRecursion IsAttrPrintable (map written_attr xs)
attrs_printable [] h = tt
attrs_printable (x ∷ xs) h = (record { name = h.0; word = word_name x.kind }, attrs_printable xs h.1)
  where
    word_name : (k : Kind) → IsName (kind_bytes k)
    word_name Int64 = refl
    word_name Str = refl
    word_name Truth = refl

-- what the rules say of a dimension
pub record DimFacts (d : Dimension) : Type 0 where
  pub lo : unsigned_abs d.lo ≤ 4611686018427387903
  pub hi : unsigned_abs d.hi ≤ 4611686018427387903
  pub chunk : 1 ≤ d.chunk
  pub overlap : d.overlap ≤ d.chunk

dim_facts : (d : Dimension) → is_dimension d ≡ true → DimFacts d
dim_facts d h =
    let a1 = and_parts (bounds_in_range d && bounds_in_order d && has_chunk d) (overlap_fits d) h in
    let a2 = and_parts (bounds_in_range d && bounds_in_order d) (has_chunk d) a1.0 in
    let a3 = and_parts (bounds_in_range d) (bounds_in_order d) a2.0 in
    let range = and_parts (is_bound d.lo) (is_bound d.hi) a3.0 in
    record {
      lo = leb-true (unsigned_abs d.lo) 4611686018427387903 range.0;
      hi = leb-true (unsigned_abs d.hi) 4611686018427387903 range.1;
      chunk = leb-true 1 d.chunk a2.1;
      overlap = leb-true d.overlap d.chunk a1.1;
    }

-- each side of a frame is at most its size, where none is 0
some_places : (xs : List Dimension) → list_all is_dimension xs ≡ true → 1 ≤ frame_size xs
some_places [] a = omega arith
some_places (x ∷ xs) a =
    let all = and_parts (is_dimension x) (list_all is_dimension xs) a in
    let facts = dim_facts x all.0 in
    let rest : 1 ≤ frame_size xs = some_places xs all.1 in
    let product : frame_length x ≤ frame_length x * frame_size xs = le-mul_of_pos_right (frame_length x) rest in
    omega (arith, product, facts.chunk)

sides : (xs : List Dimension) (m : ℕ) → list_all is_dimension xs ≡ true → frame_size xs ≤ m → AllByRecursion (λ (d : Dimension). frame_length d ≤ m) xs
sides [] m a h = tt
sides (x ∷ xs) m a h =
    let all = and_parts (is_dimension x) (list_all is_dimension xs) a in
    let facts = dim_facts x all.0 in
    let length : 1 ≤ frame_length x = omega (arith, facts.chunk) in
    let first : frame_length x ≤ frame_length x * frame_size xs = le-mul_of_pos_right (frame_length x) (some_places xs all.1) in
    let others : frame_size xs ≤ frame_length x * frame_size xs = at_least (frame_length x) (frame_size xs) length in
    (omega (arith, first, h), sides xs m all.1 (omega (arith, others, h)))

dims_printable : (xs : List Dimension) → AllByRecursion (λ (d : Dimension). IsName d.name) xs → list_all is_dimension xs ≡ true → AllByRecursion (λ (d : Dimension). frame_length d ≤ 281474976710656) xs
    → AllByRecursion IsDimPrintable (map written_dim xs)
dims_printable [] h a f = tt
dims_printable (x ∷ xs) h a f =
    let all = and_parts (is_dimension x) (list_all is_dimension xs) a in
    let facts = dim_facts x all.0 in
    let side : frame_length x ≤ 281474976710656 = f.0 in (
      record {
        name = h.0;
        lo = omega (arith, facts.lo);
        hi = omega (arith, facts.hi);
        chunk = omega (arith, side);
        overlap = omega (arith, side, facts.overlap);
      },
      dims_printable xs h.1 all.1 f.1,
    )

some_map : {X Y : Type 0} (f : X → Y) (xs : List X) → 1 ≤ length xs → map f xs ≢ []
some_map f [] h e = let no : ⊥ = omega arith in no
some_map f (x ∷ xs) h e = cc

-- The tokens.

whats_are : (text : List ℕ) (tokens : List Token) → whats (lexemes text tokens) ≡ lexemes_said text tokens
whats_are text [] = refl
whats_are text (t ∷ ts) = ap (λ l. (lexeme_of text t).what ∷ l) (whats_are text ts)

nothing : (vs : List Placed) → whats vs ≡ [] → vs ≡ []
nothing [] e = refl
nothing (v ∷ vs) e = cc

-- what the marks are read as
read_marks : (s : Schema) → IsValid s → (t : SchemaText) → t ≡ written s → IsPrintable t → (tokens : List Token) → AreTokens (spelled (shape_marks t [])) tokens
    → lexemes_said (spelled (shape_marks t [])) tokens ≡ said (shape_marks t []) → IsReadAs (spelled (shape_marks t [])) s
read_marks s v t is printable tokens of_text says =
    let text = spelled (shape_marks t []) in
    let (u, span, vs, spells, same, none) = shape_again t (lexemes text tokens) [] printable.some_attribute printable.some_dimension (whats_are text tokens ∙ says) in
    let bare : bare_shape u ≡ bare_shape (written s) = same ∙ ap bare_shape is in
    let meant : schema_of u ≡ s = sym (schema_of-bare u) ∙ ap schema_of bare ∙ schema_of-bare (written s) ∙ schema_of-written s in
    let known : AllByRecursion IsKnown u.attributes = known_bare u.attributes (subst (λ (x : SchemaText). AllByRecursion IsKnown x.attributes) (sym bare) (known_written s.attributes)) in
    let last : vs ≡ lexemes text (drop (length tokens) tokens) = nothing vs none ∙ ap (lexemes text) (sym (drop-length tokens)) in
    record {
      tokens = tokens;
      of_text = of_text;
      shape = u;
      spelled = record { within = omega arith; span = span; spelled = subst (SpellsSchema u span (lexemes text tokens)) last spells };
      hold = valid_rules u (subst IsValid (sym meant) v) known;
      meant = meant;
    }

-- the text of a valid schema is read as the schema
pub read_as : (s : Schema) → All (λ (a : Attribute). IsName a.name) s.attributes → All (λ (d : Dimension). IsName d.name) s.dimensions → IsValid s → IsReadAs (schema_bytes s) s
read_as s named_attributes named_dimensions v =
    let v1 = and_parts (has_attributes s.attributes && has_dimensions s.dimensions && are_distinct (names_of s) && list_all is_dimension s.dimensions) (frame_fits s.dimensions) v in
    let v2 = and_parts (has_attributes s.attributes && has_dimensions s.dimensions && are_distinct (names_of s)) (list_all is_dimension s.dimensions) v1.0 in
    let v3 = and_parts (has_attributes s.attributes && has_dimensions s.dimensions) (are_distinct (names_of s)) v2.0 in
    let v4 = and_parts (has_attributes s.attributes) (has_dimensions s.dimensions) v3.0 in
    let count = and_parts (nat_le 1 (length s.attributes)) (nat_le (length s.attributes) 64) v4.0 in
    let flat = and_parts (nat_le 1 (length s.dimensions)) (nat_le (length s.dimensions) 6) v4.1 in
    let t = written s in
    let printable : IsPrintable t
    = record {
      attributes = attrs_printable s.attributes (all_places (λ (a : Attribute). IsName a.name) s.attributes named_attributes);
      some_attribute = some_map written_attr s.attributes (leb-true 1 (length s.attributes) count.0);
      dimensions = dims_printable s.dimensions (all_places (λ (d : Dimension). IsName d.name) s.dimensions named_dimensions) v2.1 (sides s.dimensions 281474976710656 v2.1 (leb-true (frame_size s.dimensions) 281474976710656 v1.1));
      some_dimension = some_map written_dim s.dimensions (leb-true 1 (length s.dimensions) flat.0);
    } in
    let text : spelled (shape_marks t []) ≡ schema_bytes s = shape_spelled t [] ∙ append-nil (shape_bytes t) ∙ sym (same_bytes s) in
    let read = read_again (shape_marks t []) (shape_apart t [] printable tt) in
    subst (λ bytes. IsReadAs bytes s) text (read_marks s v t refl printable read.0 read.1 read.2)

-- the same of the parts, as a call writes them
pub printed_reads : (s : Schema) (answer : Result (List ℕ) Memory) (attributes : List Attribute) (dimensions : List Dimension)
    → attributes ≡ s.attributes → dimensions ≡ s.dimensions
    → IfOk answer (λ text. text ≡ parts_bytes (map attribute_bytes attributes) (map dimension_bytes dimensions))
    → OnOk answer (All (λ (a : Attribute). IsName a.name) attributes) → OnOk answer (All (λ (d : Dimension). IsName d.name) dimensions)
    → IsValid s → IfOk answer (λ text. IsReadAs text s)
printed_reads s (Err fault) attributes dimensions p q e f g v = tt
printed_reads s (Ok text) attributes dimensions p q e f g v =
    let same : text ≡ schema_bytes s
    = e ∙ ap (λ l. parts_bytes (map attribute_bytes l) (map dimension_bytes dimensions)) p
    ∙ ap (λ l. parts_bytes (map attribute_bytes s.attributes) (map dimension_bytes l)) q in
    subst (λ bytes. IsReadAs bytes s) (sym same)
    (read_as s (subst (All (λ (a : Attribute). IsName a.name)) p f) (subst (All (λ (d : Dimension). IsName d.name)) q g) v)

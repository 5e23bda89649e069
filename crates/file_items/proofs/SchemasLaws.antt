-- A schema that is read is spelled so, and what is spelled so is read.
use Rattle.std.proofs.Common.{◌≡◌, ℕ, ℤ, zero, suc, ◌^◌, ◌<◌, ◌≤◌, Bool, true, false, ◌&&◌, nat_lt, nat_le, List, [], ◌∷◌, ◌++◌, length, Result, Ok, Err, refl, sym, ap, subst, ◌∙◌, arith, get_or}
use Rattle.std.specs.Prelude.{◌==◌, int_le, FitsSigned}
use Rattle.std.specs.Int.{w8, w64, to_le_bytes, from_le_bytes, cast_signed, cast_unsigned}
use Rattle.std.proofs.lemmas.Int.{of_z-to_z, to_z-of_z, ints}
use Rattle.std.proofs.Math.Facts.{sfits_to_z}
use Rattle.file_items.specs.Items.{◌>>=◌, Reading, number_at, bytes_at, item, one_item, counted, spell_counted, Are, AreCounted}
use Rattle.file_items.proofs.BytesLaws.{AreBytes, Begins, two_begin, Reads, IsExact, bind_ok, ok_is, exact64, number_reads, bytes_reads, item_reads, one_item_reads, then_reads, seen_reads, repeat_reads, counted_reads}
use Rattle.cell_values.specs.Naming.{is_name}
use Rattle.cell_values.specs.Schemas.{attribute_names, is_bound}
use Rattle.cell_values.specs.declared.schema.Attribute.{Attribute}
use Rattle.cell_values.specs.declared.schema.Dimension.{Dimension}
use Rattle.cell_values.specs.declared.schema.Kind.{Kind}
use Rattle.cell_values.specs.declared.schema.Kind.TheVariants.{Int64, Str, Bool as Truths}
use Rattle.cell_values.specs.declared.schema.Schema.{Schema}
use Rattle.file_items.specs.Spelling.{spell_name, kind_number, flag_number, spell_attribute, spell_signed, spell_dimension, spell_schema}
use Rattle.file_items.specs.Table.{name_fields, name_at, with_last, kind_at, flag_at, Typed, typed_at, is_new_attribute, attribute_at, next_attribute, attributes_at, signed_at, Range, range_at, Cut, is_overlap, cut_at, Extent, extent_at, is_new_dimension, dimension_at, dimensions_at, schema_at}

-- ---- numbers of one byte

one_byte : (bytes : List ℕ) → length bytes ≡ 1 → AreBytes bytes → to_le_bytes w8 (from_le_bytes w8 bytes) ≡ bytes
one_byte [] len small = absurd (omega (arith, len))
one_byte (b ∷ []) len small = let e : to_le_bytes w8 (from_le_bytes w8 (b ∷ [])) ≡ b ∷ [] = ap (λ (n : ℕ). n ∷ []) (omega (arith, small 0)) in e
one_byte (b ∷ c ∷ bytes) len small = absurd (omega (arith, len))

pub exact8 : IsExact w8 (2 ^ 8)
exact8 = record {
  size = λ n. refl;
  bytes_back = one_byte;
  number_back = λ n lt. omega (arith, lt);
  bound = λ bytes small. omega (arith, small 0);
}

-- ---- a value that is seen otherwise, where it has a form

pub fit_reads : {A C : Type 0} (reads : Reading A) (spell : A → List ℕ) (Good : A → Type 0) (make : A → C) (back : C → A) (Fits : C → Type 0)
    → ((a : A) → Good a → (back (make a) ≡ a) × Fits (make a)) → ((c : C) → Fits c → make (back c) ≡ c)
    → Reads reads spell Good → Reads (λ bytes. reads bytes >>= λ a. Ok (make a.0, a.1)) (λ c. spell (back c)) (λ c. Good (back c) × Fits c)
fit_reads {A = A} {C = C} reads spell Good make back Fits there again laws = record {
  takes = λ bytes c rest small e.
      let a = bind_ok (reads bytes) (λ a. Ok (make a.0, a.1)) (c, rest) e in
      let t = laws.takes bytes a.0.0 a.0.1 small a.1 in
      let f = there a.0.0 t.1 in
      let made : C × List ℕ = (make a.0.0, a.0.1) in
      subst (λ (p : C × List ℕ). Begins bytes (spell (back p.0)) p.1 × (Good (back p.0) × Fits p.0)) (ok_is made (c, rest) a.2)
      (subst (λ (x : A). Begins bytes (spell x) a.0.1 × (Good x × Fits (make a.0.0))) (sym f.0) (t.0, (t.1, f.1)));
  again = λ c rest good. rw (laws.again (back c) rest good.0, again c good.1) refl;
}

-- ---- names

abbrev pub FitsOneByte : List ℕ → Type 0
FitsOneByte name = (length name < 2 ^ 8) × AreBytes name

abbrev taken : List ℕ × List ℕ → Result (List ℕ × List ℕ) ℕ
taken x = Ok x

fields_take : (bytes name rest : List ℕ) → AreBytes bytes → name_fields bytes ≡ Ok (name, rest) → Begins bytes (spell_name name) rest × FitsOneByte name
unfolding name_fields spell_name
fields_take bytes name rest small e =
    let a = bind_ok (number_at w8 bytes) (λ count. bytes_at count.0 count.1) (name, rest) e in
    let t = (number_reads w8 (2 ^ 8) exact8).takes bytes a.0.0 a.0.1 small a.1 in
    let t' = (bytes_reads a.0.0).takes a.0.1 name rest t.0.after a.2 in
    let both = two_begin bytes (to_le_bytes w8 a.0.0) a.0.1 name rest t.0 t'.0 in
    subst (λ (n : ℕ). Begins bytes (to_le_bytes w8 n ++ name) rest × ((n < 2 ^ 8) × AreBytes name)) (sym t'.1.0) (both, (t.1, t'.1.1))

fields_again : (name rest : List ℕ) → FitsOneByte name → name_fields (spell_name name ++ rest) ≡ Ok (name, rest)
unfolding name_fields spell_name
fields_again name rest good =
    rw ((number_reads w8 (2 ^ 8) exact8).again (length name) (name ++ rest) good.0, (bytes_reads (length name)).again name rest (refl, good.1)) refl

abbrev pub IsSpelledName : List ℕ → Type 0
IsSpelledName name = FitsOneByte name × (is_name name ≡ true)

pub name_reads : Reads name_at spell_name IsSpelledName
unfolding name_at
name_reads = item_reads (one_item name_fields) spell_name FitsOneByte is_name (one_item_reads name_fields spell_name FitsOneByte (record { takes = fields_take; again = fields_again }))

-- ---- attributes

rest_fits : (b : ℕ) (bytes : List ℕ) → AreBytes (b ∷ bytes) → AreBytes bytes
rest_fits b bytes h i = h (suc i)

abbrev read_kind : Kind × List ℕ → Result (Kind × List ℕ) ℕ
read_kind x = Ok x

abbrev TakenKind : List ℕ → Kind × List ℕ → Type 0
TakenKind bytes x = Begins bytes (kind_number x.0 ∷ []) x.1 × Unit {0}

kind_taken : (bytes : List ℕ) (made x : Kind × List ℕ) → read_kind made ≡ Ok x → TakenKind bytes made → TakenKind bytes x
kind_taken bytes made x e t = subst (TakenKind bytes) (ok_is made x e) t

kind_takes : (bytes : List ℕ) (x : Kind) (rest : List ℕ) → AreBytes bytes → kind_at bytes ≡ Ok (x, rest) → TakenKind bytes (x, rest)
unfolding kind_at
kind_takes [] x rest small e = absurd cc
kind_takes (zero ∷ bytes) x rest small e = absurd cc
kind_takes (suc zero ∷ bytes) x rest small e = kind_taken (1 ∷ bytes) (Int64, bytes) (x, rest) e (record { joined = refl; after = rest_fits 1 bytes small }, tt)
kind_takes (suc (suc zero) ∷ bytes) x rest small e = kind_taken (2 ∷ bytes) (Str, bytes) (x, rest) e (record { joined = refl; after = rest_fits 2 bytes small }, tt)
kind_takes (suc (suc (suc zero)) ∷ bytes) x rest small e = kind_taken (3 ∷ bytes) (Truths, bytes) (x, rest) e (record { joined = refl; after = rest_fits 3 bytes small }, tt)
kind_takes (suc (suc (suc (suc n))) ∷ bytes) x rest small e = absurd cc

kind_again : (x : Kind) (rest : List ℕ) → Unit {0} → kind_at ((kind_number x ∷ []) ++ rest) ≡ Ok (x, rest)
unfolding kind_at
kind_again Int64 rest good = refl
kind_again Str rest good = refl
kind_again Truths rest good = refl

abbrev any_kind : Kind → Type 0
any_kind kind = Unit {0}

kind_reads : Reads kind_at (λ kind. kind_number kind ∷ []) any_kind
kind_reads = record { takes = kind_takes; again = kind_again }

abbrev read_flag : Bool × List ℕ → Result (Bool × List ℕ) ℕ
read_flag x = Ok x

abbrev TakenFlag : List ℕ → Bool × List ℕ → Type 0
TakenFlag bytes x = Begins bytes (flag_number x.0 ∷ []) x.1 × Unit {0}

flag_taken : (bytes : List ℕ) (made x : Bool × List ℕ) → read_flag made ≡ Ok x → TakenFlag bytes made → TakenFlag bytes x
flag_taken bytes made x e t = subst (TakenFlag bytes) (ok_is made x e) t

flag_takes : (bytes : List ℕ) (x : Bool) (rest : List ℕ) → AreBytes bytes → flag_at bytes ≡ Ok (x, rest) → TakenFlag bytes (x, rest)
unfolding flag_at
flag_takes [] x rest small e = absurd cc
flag_takes (zero ∷ bytes) x rest small e = flag_taken (0 ∷ bytes) (false, bytes) (x, rest) e (record { joined = refl; after = rest_fits 0 bytes small }, tt)
flag_takes (suc zero ∷ bytes) x rest small e = flag_taken (1 ∷ bytes) (true, bytes) (x, rest) e (record { joined = refl; after = rest_fits 1 bytes small }, tt)
flag_takes (suc (suc n) ∷ bytes) x rest small e = absurd cc

flag_again : (x : Bool) (rest : List ℕ) → Unit {0} → flag_at ((flag_number x ∷ []) ++ rest) ≡ Ok (x, rest)
unfolding flag_at
flag_again false rest good = refl
flag_again true rest good = refl

abbrev any_flag : Bool → Type 0
any_flag flag = Unit {0}

flag_reads : Reads flag_at (λ flag. flag_number flag ∷ []) any_flag
flag_reads = record { takes = flag_takes; again = flag_again }

abbrev any_typed : Typed → Type 0
any_typed typed = Unit {0} × Unit {0}

abbrev spell_typed : Typed → List ℕ
spell_typed typed = kind_number typed.kind ∷ flag_number typed.nullable ∷ []

typed_reads : Reads typed_at spell_typed any_typed
unfolding typed_at
typed_reads =
    then_reads kind_at (λ kind. kind_number kind ∷ []) any_kind (λ kind. flag_at) (λ kind flag. flag_number flag ∷ []) (λ kind. any_flag)
    (λ kind nullable. record { kind = kind; nullable = nullable }) (λ (t : Typed). t.kind) (λ (t : Typed). t.nullable) (λ a b. refl) (λ a b. refl) (λ t. refl)
    kind_reads (λ kind good. flag_reads)

abbrev typed_of : Attribute → Typed
typed_of attribute = record { kind = attribute.kind; nullable = attribute.nullable }

abbrev pub IsNextAttribute : List Attribute → ℕ → Attribute → Type 0
IsNextAttribute before after attribute = (IsSpelledName attribute.name × (is_new_attribute before attribute.name ≡ true)) × any_typed (typed_of attribute)

attribute_reads : (before : List Attribute) (after : ℕ) → Reads (next_attribute before after) spell_attribute (IsNextAttribute before after)
unfolding attribute_at spell_attribute
attribute_reads before after =
    then_reads (item name_at (is_new_attribute before)) spell_name (λ name. IsSpelledName name × (is_new_attribute before name ≡ true)) (λ name. typed_at) (λ name. spell_typed) (λ name. any_typed)
    (λ name typed. record { name = name; kind = typed.kind; nullable = typed.nullable }) (λ (a : Attribute). a.name) typed_of (λ a b. refl) (λ a b. refl) (λ a. refl)
    (item_reads name_at spell_name IsSpelledName (is_new_attribute before) name_reads) (λ name good. typed_reads)

abbrev pub AreAttributes : List Attribute → Type 0
AreAttributes attributes = AreCounted (2 ^ 8) (λ count. nat_le 1 count && nat_le count 64) IsNextAttribute with_last [] attributes

attributes_reads : Reads attributes_at (spell_counted w8 spell_attribute) AreAttributes
unfolding attributes_at
attributes_reads = counted_reads w8 (2 ^ 8) exact8 (λ count. nat_le 1 count && nat_le count 64) next_attribute with_last spell_attribute IsNextAttribute attribute_reads []

-- ---- dimensions

abbrev pub IsSigned : ℤ → Type 0
IsSigned number = (cast_unsigned w64 number < 2 ^ 64) × FitsSigned w64 number

signed_there : (n : ℕ) → n < 2 ^ 64 → (cast_unsigned w64 (cast_signed w64 n) ≡ n) × FitsSigned w64 (cast_signed w64 n)
signed_there n lt = (of_z-to_z w64 n lt, sfits_to_z (record { fits = lt }))

signed_reads : Reads signed_at spell_signed IsSigned
unfolding signed_at spell_signed
signed_reads =
    fit_reads (number_at w64) (to_le_bytes w64) (λ n. n < 2 ^ 64) (cast_signed w64) (cast_unsigned w64) (FitsSigned w64)
    signed_there (to_z-of_z w64) (number_reads w64 (2 ^ 64) exact64)

abbrev is_high : ℤ → ℤ → Bool
is_high lo hi = is_bound hi && int_le lo hi

abbrev pub IsRange : Range → Type 0
IsRange range = (IsSigned range.lo × (is_bound range.lo ≡ true)) × (IsSigned range.hi × (is_high range.lo range.hi ≡ true))

abbrev spell_range : Range → List ℕ
spell_range range = spell_signed range.lo ++ spell_signed range.hi

range_reads : Reads range_at spell_range IsRange
unfolding range_at
range_reads =
    then_reads (item signed_at is_bound) spell_signed (λ lo. IsSigned lo × (is_bound lo ≡ true)) (λ lo. item signed_at (is_high lo)) (λ lo. spell_signed) (λ lo hi. IsSigned hi × (is_high lo hi ≡ true))
    (λ lo hi. record { lo = lo; hi = hi }) (λ (r : Range). r.lo) (λ (r : Range). r.hi) (λ a b. refl) (λ a b. refl) (λ r. refl)
    (item_reads signed_at spell_signed IsSigned is_bound signed_reads) (λ lo good. item_reads signed_at spell_signed IsSigned (is_high lo) signed_reads)

abbrev pub IsCut : List Dimension → Bool → Cut → Type 0
IsCut before last cut = ((cut.chunk < 2 ^ 64) × (nat_le 1 cut.chunk ≡ true)) × ((cut.overlap < 2 ^ 64) × (is_overlap before last cut.chunk cut.overlap ≡ true))

abbrev spell_cut : Cut → List ℕ
spell_cut cut = to_le_bytes w64 cut.chunk ++ to_le_bytes w64 cut.overlap

cut_reads : (before : List Dimension) (last : Bool) → Reads (cut_at before last) spell_cut (IsCut before last)
unfolding cut_at
cut_reads before last =
    then_reads (item (number_at w64) (nat_le 1)) (to_le_bytes w64) (λ n. (n < 2 ^ 64) × (nat_le 1 n ≡ true)) (λ chunk. item (number_at w64) (is_overlap before last chunk)) (λ chunk. to_le_bytes w64) (λ chunk n. (n < 2 ^ 64) × (is_overlap before last chunk n ≡ true))
    (λ chunk overlap. record { chunk = chunk; overlap = overlap }) (λ (c : Cut). c.chunk) (λ (c : Cut). c.overlap) (λ a b. refl) (λ a b. refl) (λ c. refl)
    (item_reads (number_at w64) (to_le_bytes w64) (λ n. n < 2 ^ 64) (nat_le 1) (number_reads w64 (2 ^ 64) exact64))
    (λ chunk good. item_reads (number_at w64) (to_le_bytes w64) (λ n. n < 2 ^ 64) (is_overlap before last chunk) (number_reads w64 (2 ^ 64) exact64))

abbrev pub IsExtent : List Dimension → Bool → Extent → Type 0
IsExtent before last extent = IsRange extent.range × IsCut before last extent.cut

abbrev spell_extent : Extent → List ℕ
spell_extent extent = spell_range extent.range ++ spell_cut extent.cut

extent_reads : (before : List Dimension) (last : Bool) → Reads (extent_at before last) spell_extent (IsExtent before last)
unfolding extent_at
extent_reads before last =
    then_reads range_at spell_range IsRange (λ range. cut_at before last) (λ range. spell_cut) (λ range. IsCut before last)
    (λ range cut. record { range = range; cut = cut }) (λ (e : Extent). e.range) (λ (e : Extent). e.cut) (λ a b. refl) (λ a b. refl) (λ e. refl)
    range_reads (λ range good. cut_reads before last)

abbrev pub extent_of : Dimension → Extent
extent_of d = record { range = record { lo = d.lo; hi = d.hi }; cut = record { chunk = d.chunk; overlap = d.overlap } }

abbrev pub IsNextDimension : List (List ℕ) → List Dimension → ℕ → Dimension → Type 0
IsNextDimension names before after d = (IsSpelledName d.name × (is_new_dimension names before d.name ≡ true)) × IsExtent before (after == 0) (extent_of d)

dimension_reads : (names : List (List ℕ)) (before : List Dimension) (after : ℕ) → Reads (dimension_at names before after) spell_dimension (IsNextDimension names before after)
unfolding dimension_at spell_dimension
dimension_reads names before after =
    then_reads (item name_at (is_new_dimension names before)) spell_name (λ name. IsSpelledName name × (is_new_dimension names before name ≡ true)) (λ name. extent_at before (after == 0)) (λ name. spell_extent) (λ name. IsExtent before (after == 0))
    (λ name extent. record { name = name; lo = extent.range.lo; hi = extent.range.hi; chunk = extent.cut.chunk; overlap = extent.cut.overlap }) (λ (d : Dimension). d.name) extent_of (λ a b. refl) (λ a b. refl) (λ d. refl)
    (item_reads name_at spell_name IsSpelledName (is_new_dimension names before) name_reads) (λ name good. extent_reads before (after == 0))

abbrev pub AreDimensions : List (List ℕ) → List Dimension → Type 0
AreDimensions names dimensions = AreCounted (2 ^ 8) (λ count. nat_le 1 count && nat_le count 6) (IsNextDimension names) with_last [] dimensions

dimensions_reads : (names : List (List ℕ)) → Reads (dimensions_at names) (spell_counted w8 spell_dimension) (AreDimensions names)
unfolding dimensions_at
dimensions_reads names = counted_reads w8 (2 ^ 8) exact8 (λ count. nat_le 1 count && nat_le count 6) (dimension_at names) with_last spell_dimension (IsNextDimension names) (dimension_reads names) []

-- ---- schemas

abbrev pub ArePassed : Schema → Type 0
ArePassed schema = AreAttributes schema.attributes × AreDimensions (attribute_names schema.attributes) schema.dimensions

pub passed_reads : Reads schema_at spell_schema ArePassed
unfolding schema_at spell_schema
passed_reads =
    then_reads attributes_at (spell_counted w8 spell_attribute) AreAttributes (λ attributes. dimensions_at (attribute_names attributes)) (λ attributes. spell_counted w8 spell_dimension) (λ attributes. AreDimensions (attribute_names attributes))
    (λ attributes dimensions. record { attributes = attributes; dimensions = dimensions }) (λ (s : Schema). s.attributes) (λ (s : Schema). s.dimensions) (λ a b. refl) (λ a b. refl) (λ s. refl)
    attributes_reads (λ attributes good. dimensions_reads (attribute_names attributes))

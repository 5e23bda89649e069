-- A catalogue or a record that is read is spelled so, and what is spelled so is read.
use Rattle.std.proofs.Common.{◌≡◌, ℕ, zero, suc, ◌^◌, ◌<◌, Bool, true, ◌&&◌, nat_le, List, [], ◌∷◌, ◌++◌, length, Option, None, Result, Ok, refl, ap, subst}
use Rattle.std.specs.Int.{w32, w64, to_le_bytes}
use Rattle.file_items.specs.Items.{number_at, item, counted, spell_counted, AreCounted}
use Rattle.file_items.proofs.BytesLaws.{AreBytes, Begins, Reads, bind_ok, ok_is, exact32, number_reads, item_reads, then_reads, seen_reads, counted_reads}
use Rattle.file_items.specs.Pages.{positive_at, pages_at, spell_pages}
use Rattle.file_items.proofs.PagesLaws.{IsPositive, ArePages, positive_reads, pages_reads}
use Rattle.file_items.specs.Spelling.{spell_name, spell_schema}
use Rattle.file_items.specs.Table.{name_at, schema_at}
use Rattle.file_items.proofs.SchemasLaws.{IsSpelledName, ArePassed, fit_reads, name_reads, passed_reads}
use Rattle.version_catalog.specs.declared.rules.catalog.BlobAt.{BlobAt}
use Rattle.version_catalog.specs.declared.rules.catalog.CatalogArray.{CatalogArray}
use Rattle.version_catalog.specs.declared.rules.catalog.Catalog.{Catalog}
use Rattle.version_catalog.specs.declared.rules.catalog_record.CatalogRecord.{CatalogRecord}
use Rattle.version_catalog.specs.declared.rules.catalog_record.CatalogRecord.TheVariants.{Create, First, Next, Remove, RemoveVersions}
use Rattle.version_catalog.specs.Spelling.{spell_blob, VersionAt, versions_at, spell_version, spell_array, spelling, spell_record}
use Rattle.version_catalog.specs.Table.{blob_at, is_version, version_at, next_version, number_in, Numbered, numbered_at, Content, content_at, Items, is_next_name, items_at, array_of, array_at, next_array, name_in, arrays_at, NamedSchema, named_schema_at, FirstVersion, first_version_at, NamedBlob, named_blob_at, NamedNumber, named_number_at, record_at}
use Rattle.version_catalog.proofs.Pairs.{joined_again, one_each, array_is}

-- ---- versions

abbrev pub IsBlobItem : BlobAt → Type 0
IsBlobItem blob = IsPositive blob.length × ArePages blob.length blob.pages

pub blob_reads : Reads blob_at spell_blob IsBlobItem
unfolding blob_at spell_blob
blob_reads =
    then_reads positive_at (to_le_bytes w64) IsPositive pages_at (λ length. spell_pages) ArePages
    (λ length pages. record { length = length; pages = pages }) (λ (b : BlobAt). b.length) (λ (b : BlobAt). b.pages) (λ a b. refl) (λ a b. refl) (λ b. refl)
    positive_reads (λ length good. pages_reads length)

abbrev pub IsNextVersion : ℕ → ℕ → ℕ → VersionAt → Type 0
IsNextVersion next last after version = ((version.number < 2 ^ 32) × (is_version next last version.number ≡ true)) × IsBlobItem version.directory

version_reads : (next last after : ℕ) → Reads (next_version next last after) spell_version (IsNextVersion next last after)
unfolding version_at spell_version
version_reads next last after =
    then_reads (item (number_at w32) (is_version next last)) (to_le_bytes w32) (λ n. (n < 2 ^ 32) × (is_version next last n ≡ true)) (λ number. blob_at) (λ number. spell_blob) (λ number. IsBlobItem)
    (λ number directory. record { number = number; directory = directory }) (λ (v : VersionAt). v.number) (λ (v : VersionAt). v.directory) (λ a b. refl) (λ a b. refl) (λ v. refl)
    (item_reads (number_at w32) (to_le_bytes w32) (λ n. n < 2 ^ 32) (is_version next last) (number_reads w32 (2 ^ 32) exact32)) (λ number good. blob_reads)

abbrev any_count : ℕ → Bool
any_count count = true

abbrev is_next_number : ℕ → Bool
is_next_number next = nat_le 1 next && nat_le next 65536

abbrev pub AreVersions : ℕ → List VersionAt → Type 0
AreVersions next versions = AreCounted (2 ^ 32) (λ count. true) (IsNextVersion next) number_in 0 versions

abbrev pub IsNumbered : Numbered → Type 0
IsNumbered numbered = ((numbered.next < 2 ^ 32) × (is_next_number numbered.next ≡ true)) × AreVersions numbered.next numbered.versions

abbrev spell_numbered : Numbered → List ℕ
spell_numbered numbered = to_le_bytes w32 numbered.next ++ spell_counted w32 spell_version numbered.versions

numbered_reads : Reads numbered_at spell_numbered IsNumbered
unfolding numbered_at
numbered_reads =
    then_reads (item (number_at w32) is_next_number) (to_le_bytes w32) (λ n. (n < 2 ^ 32) × (is_next_number n ≡ true)) (λ next. counted w32 any_count (next_version next) number_in 0) (λ next. spell_counted w32 spell_version) AreVersions
    (λ next versions. record { next = next; versions = versions }) (λ (n : Numbered). n.next) (λ (n : Numbered). n.versions) (λ a b. refl) (λ a b. refl) (λ n. refl)
    (item_reads (number_at w32) (to_le_bytes w32) (λ n. n < 2 ^ 32) is_next_number (number_reads w32 (2 ^ 32) exact32))
    (λ next good. counted_reads w32 (2 ^ 32) exact32 any_count (next_version next) number_in spell_version (IsNextVersion next) (version_reads next) 0)

-- ---- arrays

abbrev pub IsContent : Content → Type 0
IsContent content = ArePassed content.schema × IsNumbered content.numbered

abbrev spell_content : Content → List ℕ
spell_content content = spell_schema content.schema ++ spell_numbered content.numbered

content_reads : Reads content_at spell_content IsContent
unfolding content_at
content_reads =
    then_reads schema_at spell_schema ArePassed (λ schema. numbered_at) (λ schema. spell_numbered) (λ schema. IsNumbered)
    (λ schema numbered. record { schema = schema; numbered = numbered }) (λ (c : Content). c.schema) (λ (c : Content). c.numbered) (λ a b. refl) (λ a b. refl) (λ c. refl)
    passed_reads (λ schema good. numbered_reads)

abbrev pub AreItems : Option (List ℕ) → Items → Type 0
AreItems before items = (IsSpelledName items.name × (is_next_name before items.name ≡ true)) × IsContent items.content

abbrev spell_items : Items → List ℕ
spell_items items = spell_name items.name ++ spell_content items.content

items_reads : (before : Option (List ℕ)) → Reads (items_at before) spell_items (AreItems before)
unfolding items_at
items_reads before =
    then_reads (item name_at (is_next_name before)) spell_name (λ name. IsSpelledName name × (is_next_name before name ≡ true)) (λ name. content_at) (λ name. spell_content) (λ name. IsContent)
    (λ name content. record { name = name; content = content }) (λ (i : Items). i.name) (λ (i : Items). i.content) (λ a b. refl) (λ a b. refl) (λ i. refl)
    (item_reads name_at spell_name IsSpelledName (is_next_name before) name_reads) (λ name good. content_reads)

abbrev pub items_of : CatalogArray → Items
items_of array = record { name = array.entry.name; content = record { schema = array.entry.schema; numbered = record { next = array.entry.next; versions = versions_at array.entry.versions array.directories } } }

abbrev pub IsPaired : CatalogArray → Type 0
IsPaired array = length array.directories ≡ length array.entry.versions

items_again : (items : Items) → items_of (array_of items) ≡ items
items_again items = ap (λ (vs : List VersionAt). record { name = items.name; content = record { schema = items.content.schema; numbered = record { next = items.content.numbered.next; versions = vs } } }) (joined_again items.content.numbered.versions)

array_again : (array : CatalogArray) → IsPaired array → array_of (items_of array) ≡ array
array_again array paired = array_is array.entry.name array.entry.schema array.entry.next array.entry.versions array.directories paired

abbrev pub IsNextArray : Option (List ℕ) → ℕ → CatalogArray → Type 0
IsNextArray before after array = AreItems before (items_of array) × IsPaired array

array_reads : (before : Option (List ℕ)) (after : ℕ) → Reads (next_array before after) spell_array (IsNextArray before after)
unfolding array_at spell_array
array_reads before after =
    fit_reads (items_at before) spell_items (AreItems before) array_of items_of IsPaired
    (λ items good. (items_again items, one_each items.content.numbered.versions)) array_again (items_reads before)

-- ---- catalogues

abbrev few_arrays : ℕ → Bool
few_arrays count = nat_le count 1024

abbrev pub AreArrays : Catalog → Type 0
AreArrays catalog = AreCounted (2 ^ 32) (λ count. nat_le count 1024) IsNextArray name_in None catalog.arrays

pub arrays_reads : Reads arrays_at spelling AreArrays
unfolding arrays_at spelling
arrays_reads =
    seen_reads (counted w32 few_arrays next_array name_in None) (spell_counted w32 spell_array) (AreCounted (2 ^ 32) few_arrays IsNextArray name_in None)
    (λ arrays. record { arrays = arrays }) (λ (c : Catalog). c.arrays) (λ a. refl) (λ c. refl)
    (counted_reads w32 (2 ^ 32) exact32 few_arrays next_array name_in spell_array IsNextArray array_reads None)

-- ---- records

abbrev IsNamedSchema : NamedSchema → Type 0
IsNamedSchema x = IsSpelledName x.name × ArePassed x.schema

abbrev spell_named_schema : NamedSchema → List ℕ
spell_named_schema x = spell_name x.name ++ spell_schema x.schema

named_schema_reads : Reads named_schema_at spell_named_schema IsNamedSchema
unfolding named_schema_at
named_schema_reads =
    then_reads name_at spell_name IsSpelledName (λ name. schema_at) (λ name. spell_schema) (λ name. ArePassed)
    (λ name schema. record { name = name; schema = schema }) (λ (x : NamedSchema). x.name) (λ (x : NamedSchema). x.schema) (λ a b. refl) (λ a b. refl) (λ x. refl)
    name_reads (λ name good. passed_reads)

abbrev IsFirstVersion : FirstVersion → Type 0
IsFirstVersion x = IsNamedSchema x.named × IsBlobItem x.directory

abbrev spell_first_version : FirstVersion → List ℕ
spell_first_version x = spell_named_schema x.named ++ spell_blob x.directory

first_version_reads : Reads first_version_at spell_first_version IsFirstVersion
unfolding first_version_at
first_version_reads =
    then_reads named_schema_at spell_named_schema IsNamedSchema (λ named. blob_at) (λ named. spell_blob) (λ named. IsBlobItem)
    (λ named directory. record { named = named; directory = directory }) (λ (x : FirstVersion). x.named) (λ (x : FirstVersion). x.directory) (λ a b. refl) (λ a b. refl) (λ x. refl)
    named_schema_reads (λ named good. blob_reads)

abbrev IsNamedBlob : NamedBlob → Type 0
IsNamedBlob x = IsSpelledName x.name × IsBlobItem x.directory

abbrev spell_named_blob : NamedBlob → List ℕ
spell_named_blob x = spell_name x.name ++ spell_blob x.directory

named_blob_reads : Reads named_blob_at spell_named_blob IsNamedBlob
unfolding named_blob_at
named_blob_reads =
    then_reads name_at spell_name IsSpelledName (λ name. blob_at) (λ name. spell_blob) (λ name. IsBlobItem)
    (λ name directory. record { name = name; directory = directory }) (λ (x : NamedBlob). x.name) (λ (x : NamedBlob). x.directory) (λ a b. refl) (λ a b. refl) (λ x. refl)
    name_reads (λ name good. blob_reads)

abbrev IsNamedNumber : NamedNumber → Type 0
IsNamedNumber x = IsSpelledName x.name × (x.number < 2 ^ 32)

abbrev spell_named_number : NamedNumber → List ℕ
spell_named_number x = spell_name x.name ++ to_le_bytes w32 x.number

named_number_reads : Reads named_number_at spell_named_number IsNamedNumber
unfolding named_number_at
named_number_reads =
    then_reads name_at spell_name IsSpelledName (λ name. number_at w32) (λ name. to_le_bytes w32) (λ name n. n < 2 ^ 32)
    (λ name number. record { name = name; number = number }) (λ (x : NamedNumber). x.name) (λ (x : NamedNumber). x.number) (λ a b. refl) (λ a b. refl) (λ x. refl)
    name_reads (λ name good. number_reads w32 (2 ^ 32) exact32)

-- what passes the tests of the record's kind
abbrev pub IsRecordItem : CatalogRecord → Type 0
IsRecordItem (Create name schema) = IsSpelledName name × ArePassed schema
IsRecordItem (First name schema directory) = (IsSpelledName name × ArePassed schema) × IsBlobItem directory
IsRecordItem (Next name directory) = IsSpelledName name × IsBlobItem directory
IsRecordItem (Remove name) = IsSpelledName name
IsRecordItem (RemoveVersions name below) = IsSpelledName name × (below < 2 ^ 32)

rest_fits : (b : ℕ) (bytes : List ℕ) → AreBytes (b ∷ bytes) → AreBytes bytes
rest_fits b bytes h i = h (suc i)

abbrev read_as : CatalogRecord × List ℕ → Result (CatalogRecord × List ℕ) ℕ
read_as x = Ok x

abbrev Taken : List ℕ → CatalogRecord × List ℕ → Type 0
Taken bytes x = Begins bytes (spell_record x.0) x.1 × IsRecordItem x.0

taken_alone : (bytes : List ℕ) (made x : CatalogRecord × List ℕ) → read_as made ≡ Ok x → Taken bytes made → Taken bytes x
taken_alone bytes made x e t = subst (Taken bytes) (ok_is made x e) t

behind_kind : (kind : ℕ) (bytes text rest : List ℕ) → Begins bytes text rest → Begins (kind ∷ bytes) (kind ∷ text) rest
behind_kind kind bytes text rest b = record { joined = ap (λ (t : List ℕ). kind ∷ t) b.joined; after = b.after }

record_takes : (bytes : List ℕ) (x : CatalogRecord) (rest : List ℕ) → AreBytes bytes → record_at bytes ≡ Ok (x, rest) → Taken bytes (x, rest)
unfolding record_at spell_record
record_takes [] x rest small e = absurd cc
record_takes (zero ∷ bytes) x rest small e = absurd cc
record_takes (suc zero ∷ bytes) x rest small e =
    let b = bind_ok (named_schema_at bytes) (λ create. Ok (Create create.0.name create.0.schema, create.1)) (x, rest) e in
    let t = named_schema_reads.takes bytes b.0.0 b.0.1 (rest_fits 1 bytes small) b.1 in
    taken_alone (1 ∷ bytes) (Create b.0.0.name b.0.0.schema, b.0.1) (x, rest) b.2 (behind_kind 1 bytes (spell_named_schema b.0.0) b.0.1 t.0, t.1)
record_takes (suc (suc zero) ∷ bytes) x rest small e =
    let b = bind_ok (first_version_at bytes) (λ first. Ok (First first.0.named.name first.0.named.schema first.0.directory, first.1)) (x, rest) e in
    let t = first_version_reads.takes bytes b.0.0 b.0.1 (rest_fits 2 bytes small) b.1 in
    taken_alone (2 ∷ bytes) (First b.0.0.named.name b.0.0.named.schema b.0.0.directory, b.0.1) (x, rest) b.2 (behind_kind 2 bytes (spell_first_version b.0.0) b.0.1 t.0, t.1)
record_takes (suc (suc (suc zero)) ∷ bytes) x rest small e =
    let b = bind_ok (named_blob_at bytes) (λ next. Ok (Next next.0.name next.0.directory, next.1)) (x, rest) e in
    let t = named_blob_reads.takes bytes b.0.0 b.0.1 (rest_fits 3 bytes small) b.1 in
    taken_alone (3 ∷ bytes) (Next b.0.0.name b.0.0.directory, b.0.1) (x, rest) b.2 (behind_kind 3 bytes (spell_named_blob b.0.0) b.0.1 t.0, t.1)
record_takes (suc (suc (suc (suc zero))) ∷ bytes) x rest small e =
    let b = bind_ok (name_at bytes) (λ name. Ok (Remove name.0, name.1)) (x, rest) e in
    let t = name_reads.takes bytes b.0.0 b.0.1 (rest_fits 4 bytes small) b.1 in
    taken_alone (4 ∷ bytes) (Remove b.0.0, b.0.1) (x, rest) b.2 (behind_kind 4 bytes (spell_name b.0.0) b.0.1 t.0, t.1)
record_takes (suc (suc (suc (suc (suc zero)))) ∷ bytes) x rest small e =
    let b = bind_ok (named_number_at bytes) (λ below. Ok (RemoveVersions below.0.name below.0.number, below.1)) (x, rest) e in
    let t = named_number_reads.takes bytes b.0.0 b.0.1 (rest_fits 5 bytes small) b.1 in
    taken_alone (5 ∷ bytes) (RemoveVersions b.0.0.name b.0.0.number, b.0.1) (x, rest) b.2 (behind_kind 5 bytes (spell_named_number b.0.0) b.0.1 t.0, t.1)
record_takes (suc (suc (suc (suc (suc (suc kind))))) ∷ bytes) x rest small e = absurd cc

record_reads_again : (x : CatalogRecord) (rest : List ℕ) → IsRecordItem x → record_at (spell_record x ++ rest) ≡ Ok (x, rest)
unfolding record_at spell_record
record_reads_again (Create name schema) rest good = rw (named_schema_reads.again (record { name = name; schema = schema }) rest good) refl
record_reads_again (First name schema directory) rest good = rw (first_version_reads.again (record { named = record { name = name; schema = schema }; directory = directory }) rest good) refl
record_reads_again (Next name directory) rest good = rw (named_blob_reads.again (record { name = name; directory = directory }) rest good) refl
record_reads_again (Remove name) rest good = rw (name_reads.again name rest good) refl
record_reads_again (RemoveVersions name below) rest good = rw (named_number_reads.again (record { name = name; number = below }) rest good) refl

pub record_reads : Reads record_at spell_record IsRecordItem
record_reads = record { takes = record_takes; again = record_reads_again }

-- Catalogues and records whose items pass their tests are those that the rules allow.
use Rattle.std.proofs.Common.{◌≡◌, ℕ, zero, suc, ◌+◌, ◌<◌, ◌≤◌, true, nat_lt, nat_le, List, [], ◌∷◌, map, length, Option, Some, None, Ok, refl, ap, ◌∙◌, arith}
use Rattle.std.specs.List.{AllByRecursion}
use Rattle.std.proofs.lemmas.Bool.{and_parts, and_from, ltb-true, lt-ltb, leb-true, le-leb}
use Rattle.file_items.specs.Items.{Are}
use Rattle.file_items.proofs.BytesLaws.{AreBytes, whole_takes, whole_again}
use Rattle.plan_changes.specs.NameEntry.{NameEntry}
use Rattle.file_items.proofs.PagesLaws.{lie_in, has_bytes, has_pages}
use Rattle.plan_changes.specs.Stored.{NamesRise, RiseBetween, IsStored}
use Rattle.file_items.proofs.Rules.{spelled_name, is_spelled, are_passed}
use Rattle.version_catalog.specs.declared.rules.catalog.BlobAt.{BlobAt}
use Rattle.version_catalog.specs.declared.rules.catalog.CatalogArray.{CatalogArray}
use Rattle.version_catalog.specs.declared.rules.catalog.Catalog.{Catalog}
use Rattle.version_catalog.specs.declared.rules.catalog_record.CatalogRecord.{CatalogRecord}
use Rattle.version_catalog.specs.declared.rules.catalog_record.CatalogRecord.TheVariants.{Create, First, Next, Remove, RemoveVersions}
use Rattle.version_catalog.specs.Catalogs.{IsBlob, HasDirectories, IsCatalog, IsRecord}
use Rattle.version_catalog.specs.Spelling.{VersionAt, versions_at, spelling, spell_record}
use Rattle.version_catalog.specs.Table.{is_version, number_in, is_next_name, name_in, arrays_at, catalog_in, record_at, record_in}
use Rattle.version_catalog.proofs.Laws.{IsBlobItem, IsNextVersion, IsNextArray, AreArrays, arrays_reads, IsRecordItem, record_reads}

-- ---- blobs

is_blob : (blob : BlobAt) → IsBlobItem blob → IsBlob blob
is_blob blob good = lie_in blob.length blob.pages good.0 good.1

blob_item : (blob : BlobAt) → IsBlob blob → IsBlobItem blob
blob_item blob is = (has_bytes blob.length blob.pages is, has_pages blob.length blob.pages is)

-- ---- versions

abbrev NextVersions : ℕ → ℕ → ℕ → List VersionAt → Type 0
NextVersions next = Are (IsNextVersion next) number_in

version_parts : (next last n : ℕ) → is_version next last n ≡ true → (last < n) × (n < next)
version_parts next last n e = let p = and_parts (nat_lt last n) (nat_lt n next) e in (ltb-true last n p.0, ltb-true n next p.1)

version_made : (next last n : ℕ) → last < n → n < next → is_version next last n ≡ true
version_made next last n l b = and_from (nat_lt last n) (nat_lt n next) (lt-ltb last n l) (lt-ltb n next b)

rising_versions : (next k last : ℕ) (numbers : List ℕ) (directories : List BlobAt) → length directories ≡ length numbers → NextVersions next k last (versions_at numbers directories) → RiseBetween last next numbers
unfolding Are
rising_versions next k last [] directories same good = tt
rising_versions next k last (n ∷ numbers) [] same good = absurd (omega (arith, same))
rising_versions next zero last (n ∷ numbers) (d ∷ directories) same good = absurd good
rising_versions next (suc k) last (n ∷ numbers) (d ∷ directories) same good =
    let p = version_parts next last n good.0.0.1 in (p.0, p.1, rising_versions next k n numbers directories (omega (arith, same)) good.1)

blobs_of : (next k last : ℕ) (numbers : List ℕ) (directories : List BlobAt) → length directories ≡ length numbers → NextVersions next k last (versions_at numbers directories) → AllByRecursion IsBlob directories
unfolding Are
blobs_of next k last numbers [] same good = tt
blobs_of next k last [] (d ∷ directories) same good = absurd (omega (arith, same))
blobs_of next zero last (n ∷ numbers) (d ∷ directories) same good = absurd good
blobs_of next (suc k) last (n ∷ numbers) (d ∷ directories) same good = (is_blob d good.0.1, blobs_of next k n numbers directories (omega (arith, same)) good.1)

next_versions : (next last : ℕ) (numbers : List ℕ) (directories : List BlobAt) → next ≤ 65536 → length directories ≡ length numbers → RiseBetween last next numbers → AllByRecursion IsBlob directories
    → NextVersions next (length (versions_at numbers directories)) last (versions_at numbers directories)
unfolding Are
next_versions next last [] directories small same rise blobs = tt
next_versions next last (n ∷ numbers) [] small same rise blobs = tt
next_versions next last (n ∷ numbers) (d ∷ directories) small same rise blobs =
    (((omega (arith, small, rise.1), version_made next last n rise.0 rise.1), blob_item d blobs.0), next_versions next n numbers directories small (omega (arith, same)) rise.2 blobs.1)

-- rising numbers are not many
few_between : (low high : ℕ) (numbers : List ℕ) (directories : List BlobAt) → RiseBetween low high numbers → low ≤ high → length (versions_at numbers directories) + low ≤ high
few_between low high [] directories rise le = omega (arith, le)
few_between low high (n ∷ numbers) [] rise le = omega (arith, le)
few_between low high (n ∷ numbers) (d ∷ directories) rise le =
    let rest : length (versions_at numbers directories) + n ≤ high = few_between n high numbers directories rise.2 (omega (arith, rise.1)) in
    omega (arith, rest, rise.0)

few_numbers : (low high : ℕ) (numbers : List ℕ) (directories : List BlobAt) → RiseBetween low high numbers → low ≤ high → length (versions_at numbers directories) ≤ high
few_numbers low high numbers directories rise le = omega (arith, few_between low high numbers directories rise le)

-- ---- arrays

stored_of : (before : Option (List ℕ)) (after : ℕ) (array : CatalogArray) → IsNextArray before after array → IsStored array.entry
stored_of before after array good =
    let spelled = is_spelled array.entry.schema good.0.1.0 in
    let numbered = good.0.1.1 in
    let p = and_parts (nat_le 1 array.entry.next) (nat_le array.entry.next 65536) numbered.0.1 in
    record {
      name = good.0.0.0.1;
      schema = spelled.valid;
      named = record { attributes = spelled.attributes; dimensions = spelled.dimensions };
      next = (leb-true 1 array.entry.next p.0, leb-true array.entry.next 65536 p.1);
      versions = rising_versions array.entry.next (length (versions_at array.entry.versions array.directories)) 0 array.entry.versions array.directories good.1 numbered.1.each;
    }

directories_in : (before : Option (List ℕ)) (after : ℕ) (array : CatalogArray) → IsNextArray before after array → HasDirectories array
directories_in before after array good = record {
  one_each = good.1;
  blobs = blobs_of array.entry.next (length (versions_at array.entry.versions array.directories)) 0 array.entry.versions array.directories good.1 good.0.1.1.1.each;
}

next_array_is : (before : Option (List ℕ)) (after : ℕ) (array : CatalogArray) → IsStored array.entry → HasDirectories array → is_next_name before array.entry.name ≡ true → IsNextArray before after array
next_array_is before after array stored has next =
    let few : length (versions_at array.entry.versions array.directories) ≤ array.entry.next = few_numbers 0 array.entry.next array.entry.versions array.directories stored.versions (omega arith) in (
      (
        (spelled_name array.entry.name stored.name, next),
        (
          are_passed array.entry.schema (record { valid = stored.schema; attributes = stored.named.attributes; dimensions = stored.named.dimensions }),
          (
            (omega (arith, stored.next.1), and_from (nat_le 1 array.entry.next) (nat_le array.entry.next 65536) (le-leb 1 array.entry.next stored.next.0) (le-leb array.entry.next 65536 stored.next.1)),
            record { below = omega (arith, few, stored.next.1); count = refl; each = next_versions array.entry.next 0 array.entry.versions array.directories stored.next.1 has.one_each stored.versions has.blobs },
          ),
        ),
      ),
      has.one_each,
    )

-- ---- catalogues

abbrev entries_of : List CatalogArray → List NameEntry
entries_of = map (λ array. array.entry)

abbrev names_of : List CatalogArray → List (List ℕ)
names_of arrays = map (λ entry. entry.name) (entries_of arrays)

-- the names behind the one before
abbrev RiseAfter : Option (List ℕ) → List (List ℕ) → Type 0
RiseAfter None names = NamesRise names
RiseAfter (Some last) names = NamesRise (last ∷ names)

abbrev NextArrays : ℕ → Option (List ℕ) → List CatalogArray → Type 0
NextArrays = Are IsNextArray name_in

rise_first : (before : Option (List ℕ)) (name : List ℕ) (names : List (List ℕ)) → is_next_name before name ≡ true → NamesRise (name ∷ names) → RiseAfter before (name ∷ names)
rise_first None name names next rise = rise
rise_first (Some last) name names next rise = (next, rise)

rise_none : (before : Option (List ℕ)) → RiseAfter before []
rise_none None = tt
rise_none (Some last) = tt

names_rise : (k : ℕ) (before : Option (List ℕ)) (arrays : List CatalogArray) → NextArrays k before arrays → RiseAfter before (names_of arrays)
unfolding Are
names_rise zero before [] good = rise_none before
names_rise zero before (a ∷ arrays) good = absurd good
names_rise (suc k) before [] good = absurd good
names_rise (suc k) before (a ∷ arrays) good = rise_first before a.entry.name (names_of arrays) good.0.0.0.1 (names_rise k (Some a.entry.name) arrays good.1)

all_stored : (k : ℕ) (before : Option (List ℕ)) (arrays : List CatalogArray) → NextArrays k before arrays → AllByRecursion IsStored (entries_of arrays)
unfolding Are
all_stored zero before [] good = tt
all_stored zero before (a ∷ arrays) good = absurd good
all_stored (suc k) before [] good = absurd good
all_stored (suc k) before (a ∷ arrays) good = (stored_of before k a good.0, all_stored k (Some a.entry.name) arrays good.1)

all_directories : (k : ℕ) (before : Option (List ℕ)) (arrays : List CatalogArray) → NextArrays k before arrays → AllByRecursion HasDirectories arrays
unfolding Are
all_directories zero before [] good = tt
all_directories zero before (a ∷ arrays) good = absurd good
all_directories (suc k) before [] good = absurd good
all_directories (suc k) before (a ∷ arrays) good = (directories_in before k a good.0, all_directories k (Some a.entry.name) arrays good.1)

-- the first name behind the one before, and the others behind it
first_next : (before : Option (List ℕ)) (name : List ℕ) (names : List (List ℕ)) → RiseAfter before (name ∷ names) → (is_next_name before name ≡ true) × NamesRise (name ∷ names)
first_next None name names rise = (refl, rise)
first_next (Some last) name names rise = rise

next_arrays : (before : Option (List ℕ)) (arrays : List CatalogArray) → RiseAfter before (names_of arrays) → AllByRecursion IsStored (entries_of arrays) → AllByRecursion HasDirectories arrays → NextArrays (length arrays) before arrays
unfolding Are
next_arrays before [] rise stored has = tt
next_arrays before (a ∷ arrays) rise stored has =
    let f = first_next before a.entry.name (names_of arrays) rise in
    (next_array_is before (length arrays) a stored.0 has.0 f.0, next_arrays (Some a.entry.name) arrays f.1 stored.1 has.1)

same_count : (arrays : List CatalogArray) → length (entries_of arrays) ≡ length arrays
same_count [] = refl
same_count (a ∷ arrays) = ap suc (same_count arrays)

is_catalog : (catalog : Catalog) → AreArrays catalog → IsCatalog catalog
is_catalog catalog good =
    let few : length catalog.arrays ≤ 1024 = leb-true (length catalog.arrays) 1024 good.count in
    let counted : length (entries_of catalog.arrays) ≡ length catalog.arrays = same_count catalog.arrays in
    record {
      names = record {
        count = omega (arith, few, counted);
        rising = names_rise (length catalog.arrays) None catalog.arrays good.each;
        each = all_stored (length catalog.arrays) None catalog.arrays good.each;
      };
      each = all_directories (length catalog.arrays) None catalog.arrays good.each;
    }

are_arrays : (catalog : Catalog) → IsCatalog catalog → AreArrays catalog
are_arrays catalog is =
    let counted : length (entries_of catalog.arrays) ≡ length catalog.arrays = same_count catalog.arrays in
    let few : length catalog.arrays ≤ 1024 = omega (arith, counted, is.names.count) in
    record {
      below = omega (arith, few);
      count = le-leb (length catalog.arrays) 1024 few;
      each = next_arrays None catalog.arrays is.names.rising is.names.each is.each;
    }

pub catalog_keeps_rules : (bytes : List ℕ) (catalog : Catalog) → AreBytes bytes → catalog_in bytes ≡ Ok catalog → IsCatalog catalog
catalog_keeps_rules bytes catalog small e = is_catalog catalog (whole_takes arrays_at spelling AreArrays arrays_reads bytes catalog small e).0

pub catalog_is_spelled : (bytes : List ℕ) (catalog : Catalog) → AreBytes bytes → catalog_in bytes ≡ Ok catalog → bytes ≡ spelling catalog
catalog_is_spelled bytes catalog small e = (whole_takes arrays_at spelling AreArrays arrays_reads bytes catalog small e).1

pub catalog_again : (bytes : List ℕ) (catalog : Catalog) → IsCatalog catalog → bytes ≡ spelling catalog → catalog_in bytes ≡ Ok catalog
catalog_again bytes catalog is e = ap catalog_in e ∙ whole_again arrays_at spelling AreArrays arrays_reads catalog (are_arrays catalog is)

-- ---- records

is_record : (entry : CatalogRecord) → IsRecordItem entry → IsRecord entry
is_record (Create name schema) good = (good.0.1, is_spelled schema good.1)
is_record (First name schema directory) good = (good.0.0.1, is_spelled schema good.0.1, is_blob directory good.1)
is_record (Next name directory) good = (good.0.1, is_blob directory good.1)
is_record (Remove name) good = good.1
is_record (RemoveVersions name below) good = (good.0.1, good.1)

record_item : (entry : CatalogRecord) → IsRecord entry → IsRecordItem entry
record_item (Create name schema) is = (spelled_name name is.0, are_passed schema is.1)
record_item (First name schema directory) is = ((spelled_name name is.0, are_passed schema is.1), blob_item directory is.2)
record_item (Next name directory) is = (spelled_name name is.0, blob_item directory is.1)
record_item (Remove name) is = spelled_name name is
record_item (RemoveVersions name below) is = (spelled_name name is.0, is.1)

pub record_keeps_rules : (bytes : List ℕ) (entry : CatalogRecord) → AreBytes bytes → record_in bytes ≡ Ok entry → IsRecord entry
record_keeps_rules bytes entry small e = is_record entry (whole_takes record_at spell_record IsRecordItem record_reads bytes entry small e).0

pub record_is_spelled : (bytes : List ℕ) (entry : CatalogRecord) → AreBytes bytes → record_in bytes ≡ Ok entry → bytes ≡ spell_record entry
record_is_spelled bytes entry small e = (whole_takes record_at spell_record IsRecordItem record_reads bytes entry small e).1

pub record_again : (bytes : List ℕ) (entry : CatalogRecord) → IsRecord entry → bytes ≡ spell_record entry → record_in bytes ≡ Ok entry
record_again bytes entry is e = ap record_in e ∙ whole_again record_at spell_record IsRecordItem record_reads entry (record_item entry is)

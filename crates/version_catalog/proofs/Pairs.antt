-- Versions and their directories, as two lists and as one.
use Rattle.std.proofs.Common.{◌≡◌, ℕ, zero, suc, ◌<◌, min, List, [], ◌∷◌, ◌++◌, map, length, take, slice_index_or, refl, ap, ◌∙◌, arith}
use Rattle.file_items.specs.Schema.{Schema}
use Rattle.version_catalog.specs.declared.rules.catalog.BlobAt.{BlobAt}
use Rattle.version_catalog.specs.Spelling.{VersionAt, versions_at}
use Rattle.version_catalog.specs.Table.{array_of}

abbrev pub numbers_of : List VersionAt → List ℕ
numbers_of = map (λ version. version.number)

abbrev pub directories_of : List VersionAt → List BlobAt
directories_of = map (λ version. version.directory)

pub joined_again : (versions : List VersionAt) → versions_at (numbers_of versions) (directories_of versions) ≡ versions
joined_again [] = refl
joined_again (v ∷ versions) = ap (λ (vs : List VersionAt). v ∷ vs) (joined_again versions)

pub same_numbers : (numbers : List ℕ) (directories : List BlobAt) → length directories ≡ length numbers → numbers_of (versions_at numbers directories) ≡ numbers
same_numbers [] directories e = refl
same_numbers (n ∷ numbers) [] e = absurd (omega (arith, e))
same_numbers (n ∷ numbers) (d ∷ directories) e = ap (λ (ns : List ℕ). n ∷ ns) (same_numbers numbers directories (omega (arith, e)))

pub same_directories : (numbers : List ℕ) (directories : List BlobAt) → length directories ≡ length numbers → directories_of (versions_at numbers directories) ≡ directories
same_directories [] [] e = refl
same_directories [] (d ∷ directories) e = absurd (omega (arith, e))
same_directories (n ∷ numbers) [] e = absurd (omega (arith, e))
same_directories (n ∷ numbers) (d ∷ directories) e = ap (λ (ds : List BlobAt). d ∷ ds) (same_directories numbers directories (omega (arith, e)))

pub one_each : (versions : List VersionAt) → length (directories_of versions) ≡ length (numbers_of versions)
one_each [] = refl
one_each (v ∷ versions) = ap suc (one_each versions)

pub one_more_pair : (numbers : List ℕ) (directories : List BlobAt) (number : ℕ) (directory : BlobAt) → length directories ≡ length numbers
    → versions_at (numbers ++ number ∷ []) (directories ++ directory ∷ []) ≡ versions_at numbers directories ++ record { number = number; directory = directory } ∷ []
one_more_pair [] [] number directory e = refl
one_more_pair [] (d ∷ directories) number directory e = absurd (omega (arith, e))
one_more_pair (n ∷ numbers) [] number directory e = absurd (omega (arith, e))
one_more_pair (n ∷ numbers) (d ∷ directories) number directory e = ap (λ (vs : List VersionAt). record { number = n; directory = d } ∷ vs) (one_more_pair numbers directories number directory (omega (arith, e)))

-- an array whose lists are as long as one another is told by its versions
pub array_is : (name : List ℕ) (schema : Schema) (next : ℕ) (numbers : List ℕ) (directories : List BlobAt) → length directories ≡ length numbers
    → array_of (record { name = name; content = record { schema = schema; numbered = record { next = next; versions = versions_at numbers directories } } })
    ≡ record { entry = record { name = name; schema = schema; next = next; versions = numbers }; directories = directories }
array_is name schema next numbers directories e =
    ap (λ (ns : List ℕ). record { entry = record { name = name; schema = schema; next = next; versions = ns }; directories = directories_of (versions_at numbers directories) }) (same_numbers numbers directories e)
    ∙ ap (λ (ds : List BlobAt). record { entry = record { name = name; schema = schema; next = next; versions = numbers }; directories = ds }) (same_directories numbers directories e)

pub count_pairs : (numbers : List ℕ) (directories : List BlobAt) → min (length numbers) (length directories) ≡ length (versions_at numbers directories)
count_pairs [] directories = omega arith
count_pairs (n ∷ numbers) [] = omega arith
count_pairs (n ∷ numbers) (d ∷ directories) = omega (arith, count_pairs numbers directories)

-- the pair at a place
pub take_pairs : (numbers : List ℕ) (directories : List BlobAt) (i : ℕ) (n : ℕ) (d : BlobAt) → i < length (versions_at numbers directories)
    → take (suc i) (versions_at numbers directories) ≡ take i (versions_at numbers directories) ++ record { number = slice_index_or numbers i n; directory = slice_index_or directories i d } ∷ []
take_pairs [] directories i n d lt = absurd (omega (arith, lt))
take_pairs (x ∷ numbers) [] i n d lt = absurd (omega (arith, lt))
take_pairs (x ∷ numbers) (y ∷ directories) zero n d lt = refl
take_pairs (x ∷ numbers) (y ∷ directories) (suc i) n d lt = ap (λ (vs : List VersionAt). record { number = x; directory = y } ∷ vs) (take_pairs numbers directories i n d (omega (arith, lt)))

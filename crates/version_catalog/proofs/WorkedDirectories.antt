-- A catalogue of one array with two versions, and where its directories lie after some records.
use Rattle.std.proofs.Common.{◌≡◌, ℕ, ◌<◌, ◌^◌, pos, true, [], ◌∷◌, Option, Some, None, refl, codes, IsTrue, arith}
use Rattle.cell_values.specs.declared.schema.Schema.{Schema}
use Rattle.cell_values.specs.declared.schema.Kind.TheVariants.{Int64}
use Rattle.version_catalog.specs.declared.rules.catalog.BlobAt.{BlobAt}
use Rattle.version_catalog.specs.declared.rules.catalog.Catalog.{Catalog}
use Rattle.version_catalog.specs.declared.rules.catalog_record.CatalogRecord.{CatalogRecord}
use Rattle.version_catalog.specs.declared.rules.catalog_record.CatalogRecord.TheVariants.{Create, First, Next, Remove, RemoveVersions}
use Rattle.version_catalog.specs.Catalogs.{IsBlob, IsCatalog}
use Rattle.version_catalog.specs.Records.{is_allowed, after_record}
use Rattle.version_catalog.specs.Directories.{directory_at, directory_after}

line : Schema
line = record { attributes = record { name = codes "v"; kind = Int64; nullable = true } ∷ []; dimensions = record { name = codes "i"; lo = pos 0; hi = pos 3; chunk = 2; overlap = 0 } ∷ [] }

blob : ℕ → BlobAt
blob page = record { length = 44; pages = page ∷ [] }

-- A@2 and A@4
catalog : Catalog
catalog = record { arrays = record { entry = record { name = codes "A"; schema = line; next = 5; versions = 2 ∷ 4 ∷ [] }; directories = blob 7 ∷ blob 8 ∷ [] } ∷ [] }

one_page : (page : ℕ) → page < 2 ^ 32 → IsBlob (blob page)
unfolding blob
one_page page low = record { some = (omega arith, omega arith); count = (refl, omega arith); each = (low, tt) }

is_catalog : IsCatalog catalog
unfolding catalog line blob
is_catalog = record {
  names = record {
    count = omega arith;
    rising = tt;
    each = (record { name = refl; schema = refl; named = record { attributes = (refl, tt); dimensions = (refl, tt) }; next = (omega arith, omega arith); versions = (omega arith, omega arith, (omega arith, omega arith, tt)) }, tt);
  };
  each = (
    record {
      one_each = refl;
      blobs = (one_page 7 (omega arith), (one_page 8 (omega arith), tt));
    },
    tt,
  );
}

after : CatalogRecord → ℕ → Option BlobAt
after entry number = directory_at (after_record catalog entry) (codes "A") number

before : (directory_at catalog (codes "A") 2 ≡ Some (blob 7)) × (directory_at catalog (codes "A") 4 ≡ Some (blob 8)) × (directory_at catalog (codes "A") 3 ≡ None)
unfolding catalog line blob
before = (refl, refl, refl)

-- the next version has the record's directory
next : (IsTrue (is_allowed catalog (Next (codes "A") (blob 9)))) × (after (Next (codes "A") (blob 9)) 5 ≡ Some (blob 9)) × (after (Next (codes "A") (blob 9)) 4 ≡ Some (blob 8))
    × (directory_after catalog (Next (codes "A") (blob 9)) (codes "A") 5 ≡ Some (blob 9))
unfolding catalog line blob after
next = (refl, refl, refl, refl)

-- of the versions from 3 on version 4 is left, with its own directory
cut : (IsTrue (is_allowed catalog (RemoveVersions (codes "A") 3))) × (after (RemoveVersions (codes "A") 3) 2 ≡ None) × (after (RemoveVersions (codes "A") 3) 4 ≡ Some (blob 8))
unfolding catalog line blob after
cut = (refl, refl, refl)

others : (directory_at (after_record catalog (First (codes "B") line (blob 9))) (codes "B") 1 ≡ Some (blob 9)) × (after (First (codes "B") line (blob 9)) 2 ≡ Some (blob 7)) × (after (Create (codes "B") line) 4 ≡ Some (blob 8))
    × (after (Remove (codes "A")) 2 ≡ None)
unfolding catalog line blob after
others = (refl, refl, refl, refl)

-- The worked store is one.
use Rattle.std.proofs.Common.{◌≡◌, ℕ, Bool, true, false, ◌&&◌, ◌||◌, inl, nat_eq, [], refl, ap, arith}
use Rattle.std.specs.Prelude.{codes}
use Rattle.std.specs.Str.{bytes_eq}
use Rattle.std.proofs.lemmas.Bool.Decides.{nat_tests}
use Rattle.plan_changes.specs.Stored.{AreStored}
use Rattle.version_catalog.specs.Catalogs.{IsCatalog}
use Rattle.file_meaning.specs.Inner.FileExample.{schema}
use Rattle.file_meaning.proofs.WorkedFiles.{file_stands}
use Rattle.event_core.specs.Agree.{HavePages}
use Rattle.event_core.specs.Allowed.{IsBase}
use Rattle.event_core.specs.Apart.{AreApart}
use Rattle.store_versions.specs.Versions.{HaveDirectories}
use Rattle.store_state.specs.Standings.{given_of}
use Rattle.store_state.specs.Kept.{IsKept, IsInOrder, AreVersions}
use Rattle.store_state.specs.Inner.Keeping.{IsDirectoryOf}
use Rattle.store_state.specs.Worked.{worked_moment, worked_base, worked_store, worked_keeping, worked_directory}

or_nothing : (b : Bool) → (b || false) ≡ b
or_nothing true = refl
or_nothing false = refl

pub base_is : IsBase worked_base
base_is = record { pins = refl; entries = refl; free = refl }

names_are : AreStored worked_base.names
names_are = file_stands.database.names

pub pages_are : HavePages worked_base.names worked_base.pages
pages_are name version = ap (λ (b : Bool). (bytes_eq (codes "A") name && b) || false) (or_nothing (nat_eq 1 version))

directories_are : HaveDirectories worked_base.names worked_store.first
directories_are name number = ap (λ (b : Bool). (bytes_eq (codes "A") name && b) || false) (or_nothing (nat_eq 1 number))

none_here : (page : ℕ) → (nat_eq 1 page || (nat_eq 2 page || false)) ≡ true → ((nat_eq 3 page || (nat_eq 4 page || false)) || false) ≡ false
none_here page e = grind (arith, nat_tests)

apart_is : AreApart worked_base []
apart_is = record { now = λ page e. none_here page e; pinned = λ page e. refl; first = (refl, refl) }

in_order : IsInOrder worked_base []
in_order = record { ordered = record { base = base_is; names = names_are; pages = pages_are }; own = tt; apart = apart_is }

catalog_is : IsCatalog worked_keeping.catalog
catalog_is = record {
  names = names_are;
  each = (record { one_each = refl; blobs = (record { some = (omega arith, omega arith); count = (refl, omega arith); each = (omega arith, tt) }, tt) }, tt);
}

directory_is : IsDirectoryOf schema worked_directory
directory_is = record {
  spelled = record {
    count = omega arith;
    each = (
      record {
        dimensions = refl;
        numbers = (omega arith, tt);
        birth = (omega arith, omega arith);
        payload = record { some = (omega arith, omega arith); count = (refl, omega arith); each = (omega arith, tt) };
      },
      tt,
    );
    rising = (tt, tt);
  };
  cores = (refl, tt);
}

versions_are : AreVersions worked_base (given_of worked_store) [] worked_keeping.rows
versions_are = record {
  first = directories_are;
  seen = record { now = refl; pinned = tt; past = refl };
  now = (directory_is, tt);
  pinned = tt;
  in_order = (refl, tt);
  pages = (record { name = refl; version = refl; payloads = (refl, tt) }, tt);
  pinned_pages = tt;
}

pub store_is_kept : IsKept worked_moment worked_store worked_keeping [] (given_of worked_store)
store_is_kept = record {
  in_order = in_order;
  catalog = catalog_is;
  names = refl;
  versions = versions_are;
  slots = record { sequence = refl; records = refl; fits = omega arith; log = refl; target = refl; alone = tt };
  doubt = refl;
  acked = refl;
  made = refl;
  tried = refl;
  noted = inl (omega arith);
}

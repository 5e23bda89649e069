-- The directory that a place sees of a version.
use Rattle.std.proofs.Common.{◌≡◌, ◌∙◌, ℕ, Bool, true, false, ◌&&◌, if◌then◌else◌, nat_eq, List, [], ◌∷◌, map, Some, refl, ap}
use Rattle.std.specs.List.{filter, find}
use Rattle.std.specs.Option.{option_map}
use Rattle.store_versions.specs.declared.row.VersionRow.{VersionRow}
use Rattle.store_versions.specs.Rows.{is_seen, is_row_of}
use Rattle.store_versions.specs.Seen.{version_of, seen}
use Rattle.store_versions.specs.Versions.{is_numbered, directory_of}

abbrev is_found : List ℕ → ℕ → ℕ → VersionRow → Bool
is_found name version place row = (is_row_of name row && nat_eq row.version version) && is_seen place row

found_by : (b c : Bool) (name : List ℕ) (version place : ℕ) (row : VersionRow) (rows : List VersionRow) → is_numbered name version (version_of row) ≡ c →
    directory_of name version (seen place rows) ≡ option_map (λ r. r.directory) (find (is_found name version place) rows) →
    directory_of name version (map version_of (if b then row ∷ filter (is_seen place) rows else filter (is_seen place) rows))
    ≡ option_map (λ r. r.directory) (if c && b then Some row else find (is_found name version place) rows)
found_by true true name version place row rows e more = ap (λ t. option_map (λ v. v.directory) (if t then Some (version_of row) else find (is_numbered name version) (seen place rows))) e
found_by true false name version place row rows e more = ap (λ t. option_map (λ v. v.directory) (if t then Some (version_of row) else find (is_numbered name version) (seen place rows))) e ∙ more
found_by false true name version place row rows e more = more
found_by false false name version place row rows e more = more

pub found_seen : (name : List ℕ) (version place : ℕ) (rows : List VersionRow) →
    directory_of name version (seen place rows) ≡ option_map (λ r. r.directory) (find (λ row. (is_row_of name row && nat_eq row.version version) && is_seen place row) rows)
found_seen name version place [] = refl
found_seen name version place (row ∷ rows) = found_by (is_seen place row) (is_numbered name version (version_of row)) name version place row rows refl (found_seen name version place rows)

-- A backup is that of one database.
use Rattle.std.proofs.Common.{◌≡◌, ◌∙◌, ℕ, List, [], ◌∷◌, map, Result, Ok, refl, sym, ap}
use Rattle.std.specs.List.{AllByRecursion}
use Rattle.cell_values.specs.declared.datum.Row.{Row}
use Rattle.cell_values.specs.declared.schema.Schema.{Schema}
use Rattle.array_rows.specs.Arrays.{AreRowsOf}
use Rattle.logical_plan.specs.Typing.{AreSound}
use Rattle.plan_changes.specs.Databases.{Version, Database, HoldsArrays}
use Rattle.backup_format.specs.Pieces.{PiecesArray, version_of, pieces_of}
use Rattle.backup_format.specs.Table.{backup_in}
use Rattle.backup_meaning.specs.Meaning.{BackupsAreOfOneDatabase}
use Rattle.backup_meaning.proofs.Backing.{version_back, database_back}
use Rattle.backup_meaning.proofs.Fitting.{versions_fit}
use Rattle.backup_meaning.proofs.Reading.{backups_are_read}

versions_back : (schema : Schema) (vs : List Version) → AllByRecursion (λ v. AreRowsOf schema v.rows × AreSound schema v.rows) vs → map (version_back schema) (map (version_of schema) vs) ≡ vs
versions_back schema [] all = refl
versions_back schema (v ∷ vs) all =
    ap (λ (rows : List Row). record { number = v.number; rows = rows } ∷ map (version_back schema) (map (version_of schema) vs)) (versions_fit schema v all.0.0 all.0.1).rows
    ∙ ap (λ (ws : List Version). v ∷ ws) (versions_back schema vs all.1)

arrays_back : (db : Database) → HoldsArrays db → database_back (pieces_of db) ≡ db
arrays_back [] all = refl
arrays_back (a ∷ db) all =
    ap (λ (vs : List Version). record { name = a.name; schema = a.schema; next = a.next; versions = vs } ∷ database_back (pieces_of db)) (versions_back a.schema a.versions all.0)
    ∙ ap (λ (others : Database). a ∷ others) (arrays_back db all.1)

abbrev found : List PiecesArray → Result (List PiecesArray) ℕ
found arrays = Ok arrays

found_same : (a b : List PiecesArray) → found a ≡ found b → a ≡ b
found_same a b e = cc

pub backups_are_of_one_database : BackupsAreOfOneDatabase
backups_are_of_one_database db other is is' counted counted' same =
    let pieces : pieces_of db ≡ pieces_of other = found_same (pieces_of db) (pieces_of other) (sym (backups_are_read db is counted) ∙ ap backup_in same ∙ backups_are_read other is' counted') in
    sym (arrays_back db is.rows) ∙ ap database_back pieces ∙ arrays_back other is'.rows

-- A file stands for one database at most.
use Rattle.std.proofs.Common.{◌≡◌, ℕ, List, [], ◌∷◌, map, refl, sym, ◌∙◌, ap, subst}
use Rattle.std.specs.Prelude.{Result, Ok, Err}
use Rattle.std.specs.List.{AllByRecursion, AllZip}
use Rattle.cell_values.specs.declared.datum.Row.{Row}
use Rattle.cell_values.specs.declared.schema.Schema.{Schema}
use Rattle.chunk_source.specs.Arrays.{AreRowsOf}
use Rattle.chunk_map.specs.declared.directory.Directory.{Directory}
use Rattle.chunk_source.specs.Typing.{AreSound}
use Rattle.chunk_source.specs.NameEntry.{NameEntry}
use Rattle.chunk_source.specs.Names.{Names}
use Rattle.version_catalog.specs.Databases.{Database, Stored, Version, HoldsArrays, entry_of}
use Rattle.file_meaning.specs.Opening.{opened}
use Rattle.file_meaning.specs.Standing.{HoldsVersion, HoldsVersions, HoldsFound, Stands}
use Rattle.file_meaning.specs.declared.meaning.found.Found.{Found}
use Rattle.file_meaning.proofs.OneVersion.{one_version}

abbrev HasRows : Schema → Version → Type 0
HasRows schema v = AreRowsOf schema v.rows × AreSound schema v.rows

versions_are : (file : List ℕ) (schema : Schema) (a b : List Version) (row : List Directory) → map (λ v. v.number) a ≡ map (λ v. v.number) b
    → AllZip (λ (v : Version) (d : Directory). HoldsVersion file schema d v.rows) a row → AllZip (λ (v : Version) (d : Directory). HoldsVersion file schema d v.rows) b row
    → AllByRecursion (HasRows schema) a → AllByRecursion (HasRows schema) b → a ≡ b
versions_are file schema [] [] row numbers x y p q = refl
versions_are file schema [] (w ∷ b) row numbers x y p q = absurd cc
versions_are file schema (v ∷ a) [] row numbers x y p q = absurd cc
versions_are file schema (v ∷ a) (w ∷ b) [] numbers x y p q = absurd x
versions_are file schema (v ∷ a) (w ∷ b) (d ∷ row) numbers x y p q =
    let number : v.number ≡ w.number = cc in
    let others : map (λ (z : Version). z.number) a ≡ map (λ (z : Version). z.number) b = cc in
    let rows : v.rows ≡ w.rows = one_version file schema d v.rows w.rows p.0.0 q.0.0 x.0 y.0 in
    first v w number rows a ∙ ap (λ (vs : List Version). w ∷ vs) (versions_are file schema a b row others x.1 y.1 p.1 q.1)
  where
    first : (v w : Version) → v.number ≡ w.number → v.rows ≡ w.rows → (vs : List Version) → v ∷ vs ≡ w ∷ vs
    first v w number rows vs =
        ap (λ (n : ℕ). record { number = n; rows = v.rows } ∷ vs) number ∙ ap (λ (rs : List Row). record { number = w.number; rows = rs } ∷ vs) rows

array_is : (file : List ℕ) (a b : Stored) (row : List Directory) → entry_of a ≡ entry_of b → HoldsVersions file a row → HoldsVersions file b row
    → AllByRecursion (HasRows a.schema) a.versions → AllByRecursion (HasRows b.schema) b.versions → a ≡ b
array_is file a b row entry x y p q =
    let name : a.name ≡ b.name = ap (λ (e : NameEntry). e.name) entry in
    let schema : a.schema ≡ b.schema = ap (λ (e : NameEntry). e.schema) entry in
    let next : a.next ≡ b.next = ap (λ (e : NameEntry). e.next) entry in
    let numbers : map (λ (v : Version). v.number) a.versions ≡ map (λ (v : Version). v.number) b.versions = ap (λ (e : NameEntry). e.versions) entry in
    let versions : a.versions ≡ b.versions = versions_are file a.schema a.versions b.versions row numbers x
    (subst (λ (s : Schema). AllZip (λ (v : Version) (d : Directory). HoldsVersion file s d v.rows) b.versions row) (sym schema) y) p
    (subst (λ (s : Schema). AllByRecursion (HasRows s) b.versions) (sym schema) q) in
    ap (λ (n : List ℕ). record { name = n; schema = a.schema; next = a.next; versions = a.versions }) name
    ∙ ap (λ (s : Schema). record { name = b.name; schema = s; next = a.next; versions = a.versions }) schema
    ∙ ap (λ (n : ℕ). record { name = b.name; schema = b.schema; next = n; versions = a.versions }) next
    ∙ ap (λ (vs : List Version). record { name = b.name; schema = b.schema; next = b.next; versions = vs }) versions

arrays_are : (file : List ℕ) (a b : Database) (rows : List (List Directory)) → map entry_of a ≡ map entry_of b → AllZip (HoldsVersions file) a rows → AllZip (HoldsVersions file) b rows → HoldsArrays a → HoldsArrays b → a ≡ b
arrays_are file [] [] rows names x y p q = refl
arrays_are file [] (w ∷ b) rows names x y p q = absurd cc
arrays_are file (v ∷ a) [] rows names x y p q = absurd cc
arrays_are file (v ∷ a) (w ∷ b) [] names x y p q = absurd x
arrays_are file (v ∷ a) (w ∷ b) (row ∷ rows) names x y p q =
    let entry : entry_of v ≡ entry_of w = cc in
    let others : map entry_of a ≡ map entry_of b = cc in
    ap (λ (s : Stored). s ∷ a) (array_is file v w row entry x.0 y.0 p.0 q.0) ∙ ap (λ (db : Database). w ∷ db) (arrays_are file a b rows others x.1 y.1 p.1 q.1)

databases_are : (file : List ℕ) (a b : Database) (found : Result Found ℕ) → HoldsFound file a found → HoldsFound file b found → HoldsArrays a → HoldsArrays b → a ≡ b
databases_are file a b (Ok found) x y p q = arrays_are file a b found.directories (ap (λ (n : Names). n.arrays) (sym x.names ∙ y.names)) x.versions y.versions p q
databases_are file a b (Err page) x y p q = absurd x

pub one_database : (file : List ℕ) (a b : Database) → Stands file a → Stands file b → a ≡ b
one_database file a b x y = databases_are file a b (opened file) x.holds y.holds x.database.rows y.database.rows

-- The version that a leaf is of.
use Rattle.std.proofs.Common.{◌≡◌, ◌∙◌, ℕ, zero, suc, true, ◌⊎◌, inl, inr, nat_eq, List, [], length, map, Option, None, Some, IfSome, IsTrue, refl, ap, sym, subst}
use Rattle.std.specs.List.{AllByRecursion, find, list_any}
use Rattle.std.specs.Option.{option_map}
use Rattle.std.specs.Str.{bytes_eq}
use Rattle.std.proofs.lemmas.Bool.{and_parts, eqb-true}
use Rattle.std.proofs.lemmas.Simd.{map-map}
use Rattle.std.proofs.lemmas.Slice.Eq.{bytes_eq-Decides}
use Rattle.arrayvec.specs.ArrayVec.{ArrayVec}
use Rattle.cell_values.specs.declared.datum.Row.{Row}
use Rattle.cell_values.specs.declared.schema.Schema.{Schema}
use Rattle.array_rows.specs.Arrays.{AreRowsOf}
use Rattle.array_geom.specs.Link.{NumbersRise, is_listed, has_cell}
use Rattle.chunk_map.specs.declared.directory.DirEntry.{DirEntry}
use Rattle.chunk_map.specs.declared.directory.Directory.{Directory}
use Rattle.chunk_map.specs.Entries.{numbers}
use Rattle.file_meaning.specs.Source.{HasArray, numbers_of, version_chunks}
use Rattle.logical_plan.specs.declared.names.NameEntry.{NameEntry}
use Rattle.logical_plan.specs.declared.names.Names.{Names}
use Rattle.logical_plan.specs.declared.parts.Leaf.{Leaf}
use Rattle.logical_plan.specs.Meaning.{version_rows}
use Rattle.logical_plan.specs.Typing.{AreSound}
use Rattle.plan_changes.specs.Changes.{entry_named, is_named}
use Rattle.plan_changes.specs.Databases.{Database, Stored, Version, entry_of, is_array, names_of, rows_in, rows_of, rows_or}
use Rattle.plan_changes.specs.Stored.{IsDatabase}
use Rattle.plan_changes.specs.Typed.{IsVersionOf}
use Rattle.plan_changes.proofs.DatabaseLaws.{leaf_rows}
use Rattle.event_core.specs.Agree.{can_name}
use Rattle.store_versions.specs.Versions.{HaveDirectories, MadeVersion, directory_of, is_numbered}
use Rattle.store_state.specs.Calls.{numbers_in, IsLeafOf}
use Rattle.store_state.specs.Inner.Keeping.{AreDirectoriesOf, IsDirectoryOf, LiesIn, LieIn}
use Rattle.store_state.proofs.Finds.{IsFoundIn, found_in_all, any_found, found_any, find_map}

same_name : (a b : List ℕ) → bytes_eq a b ≡ true → a ≡ b
same_name a b e = (bytes_eq-Decides a b).0 e

-- the array that a leaf names, which has the leaf's schema and its version
record IsLeaf (names : Names) (leaf : Leaf) (n : ℕ) : Type 0 where
  entry : NameEntry
  found : entry_named names.arrays leaf.name ≡ Some entry
  schema : leaf.schema ≡ entry.schema
  listed : list_any (λ v. nat_eq v (suc n)) entry.versions ≡ true

either_version : (leaf : Leaf) (entry : NameEntry) (n : ℕ) → leaf.version ≡ suc n → IsTrue (list_any (λ v. nat_eq v leaf.version) entry.versions) ⊎ ((leaf.version ≡ 0) × (entry.versions ≡ [])) →
    list_any (λ v. nat_eq v (suc n)) entry.versions ≡ true
either_version leaf entry n e (inl listed) = subst (λ (m : ℕ). list_any (λ v. nat_eq v m) entry.versions ≡ true) e listed
either_version leaf entry n e (inr none) = let no : suc n ≡ 0 = sym e ∙ none.0 in absurd cc

is_leaf : (names : Names) (leaf : Leaf) (n : ℕ) → leaf.version ≡ suc n → (o : Option NameEntry) → entry_named names.arrays leaf.name ≡ o → IsVersionOf leaf o → IsLeaf names leaf n
is_leaf names leaf n e None found is = absurd is
is_leaf names leaf n e (Some entry) found is = record { entry = entry; found = found; schema = is.0; listed = either_version leaf entry n e is.1 }

-- the version of a leaf that isn't of version 0
pub record IsSeen (names : Names) (versions : List MadeVersion) (leaf : Leaf) (n : ℕ) : Type 0 where
  pub v : MadeVersion
  pub found : find (is_numbered leaf.name (suc n)) versions ≡ Some v
  pub entry : NameEntry
  pub named : entry_named names.arrays leaf.name ≡ Some entry
  pub schema : leaf.schema ≡ entry.schema

pub is_seen : (names : Names) (versions : List MadeVersion) (leaf : Leaf) (n : ℕ) → leaf.version ≡ suc n → IsLeafOf names leaf → HaveDirectories names versions → IsSeen names versions leaf n
is_seen names versions leaf n e is have =
    let l : IsLeaf names leaf n = is_leaf names leaf n e (entry_named names.arrays leaf.name) refl is in
    let can : can_name names leaf.name (suc n) ≡ true =
    found_any (is_named leaf.name) (λ (entry : NameEntry). list_any (λ v. nat_eq v (suc n)) entry.versions) names.arrays l.entry l.found l.listed in
    let v : (x : MadeVersion) × (find (is_numbered leaf.name (suc n)) versions ≡ Some x) = any_found (is_numbered leaf.name (suc n)) versions (sym (have leaf.name (suc n)) ∙ can) in
    record { v = v.0; found = v.1; entry = l.entry; named = l.found; schema = l.schema }

-- what holds of each version with its array's entry holds of this one
pub of_version : (Q : NameEntry → MadeVersion → Type 0) (names : Names) (versions : List MadeVersion) (leaf : Leaf) (n : ℕ) (s : IsSeen names versions leaf n) →
    AllByRecursion (λ v. IfSome (entry_named names.arrays v.name) (λ entry. Q entry v)) versions → Q s.entry s.v × (s.v.name ≡ leaf.name) × (s.v.version ≡ suc n)
of_version Q names versions leaf n s all =
    let f : IsFoundIn (λ (v : MadeVersion). IfSome (entry_named names.arrays v.name) (λ entry. Q entry v)) (is_numbered leaf.name (suc n)) s.v =
    found_in_all (λ (v : MadeVersion). IfSome (entry_named names.arrays v.name) (λ entry. Q entry v)) (is_numbered leaf.name (suc n)) versions s.v all s.found in
    let both : (bytes_eq s.v.name leaf.name ≡ true) × (nat_eq s.v.version (suc n) ≡ true) = and_parts (bytes_eq s.v.name leaf.name) (nat_eq s.v.version (suc n)) f.passes in
    let name : s.v.name ≡ leaf.name = same_name s.v.name leaf.name both.0 in (
      subst (λ (o : Option NameEntry). IfSome o (λ entry. Q entry s.v)) (ap (entry_named names.arrays) name ∙ s.named) f.holds,
      name,
      eqb-true s.v.version (suc n) both.1,
    )

pub directory_is : (names : Names) (versions : List MadeVersion) (leaf : Leaf) (n : ℕ) (s : IsSeen names versions leaf n) → directory_of leaf.name (suc n) versions ≡ Some s.v.directory
directory_is names versions leaf n s = ap (option_map (λ (v : MadeVersion). v.directory)) s.found

pub numbers_are : (entries : List DirEntry) → numbers_of (map (λ (entry : DirEntry). entry.at) entries) ≡ numbers entries
numbers_are entries = map-map (λ (at : ArrayVec ℕ). at.items) (λ (entry : DirEntry). entry.at) entries

-- ---- listings

pub rises : (names : Names) (versions : List MadeVersion) (leaf : Leaf) (version : ℕ) → leaf.version ≡ version → IsLeafOf names leaf → HaveDirectories names versions → AreDirectoriesOf names versions →
    NumbersRise (numbers_of (version_chunks (λ name number. numbers_in (directory_of name number versions)) leaf.name version))
rises names versions leaf zero e is have all = tt
rises names versions leaf (suc n) e is have all =
    let s : IsSeen names versions leaf n = is_seen names versions leaf n e is have in
    let d : IsDirectoryOf s.entry.schema s.v.directory = (of_version (λ (entry : NameEntry) (v : MadeVersion). IsDirectoryOf entry.schema v.directory) names versions leaf n s all).0 in
    subst (λ (o : Option Directory). NumbersRise (numbers_of (numbers_in o))) (sym (directory_is names versions leaf n s))
    (subst NumbersRise (sym (numbers_are s.v.directory.entries)) d.spelled.rising)

-- ---- sound rows

sound_or : (schema : Schema) (k : ℕ) (versions : List Version) → AllByRecursion (λ v. AreRowsOf schema v.rows × AreSound schema v.rows) versions → (o : Option Version) →
    find (λ v. nat_eq v.number k) versions ≡ o → AreSound schema (rows_or o)
sound_or schema k versions all None e = tt
sound_or schema k versions all (Some v) e = (found_in_all (λ (w : Version). AreRowsOf schema w.rows × AreSound schema w.rows) (λ w. nat_eq w.number k) versions v all e).holds.1

sound_in : (db : Database) → IsDatabase db → (leaf : Leaf) (entry : NameEntry) (k : ℕ) → leaf.schema ≡ entry.schema → (o : Option Stored) → find (is_array leaf.name) db ≡ o → option_map entry_of o ≡ Some entry →
    AreSound leaf.schema (rows_in o k)
sound_in db is leaf entry k schema None e f = absurd cc
sound_in db is leaf entry k schema (Some a) e f =
    let same : entry_of a ≡ entry = cc in
    let its : a.schema ≡ leaf.schema = ap (λ (x : NameEntry). x.schema) same ∙ sym schema in
    let holds : AllByRecursion (λ (v : Version). AreRowsOf a.schema v.rows × AreSound a.schema v.rows) a.versions =
    (found_in_all (λ (b : Stored). AllByRecursion (λ (v : Version). AreRowsOf b.schema v.rows × AreSound b.schema v.rows) b.versions) (is_array leaf.name) db a is.rows e).holds in
    subst (λ (s : Schema). AreSound s (rows_in (Some a) k)) its (sound_or a.schema k a.versions holds (find (λ v. nat_eq v.number k) a.versions) refl)

leaf_sound : (db : Database) → IsDatabase db → (leaf : Leaf) (entry : NameEntry) (k : ℕ) → leaf.schema ≡ entry.schema → entry_named (map entry_of db) leaf.name ≡ Some entry → AreSound leaf.schema (rows_of db leaf.name k)
leaf_sound db is leaf entry k schema named =
    sound_in db is leaf entry k schema (find (is_array leaf.name) db) refl (sym (find_map entry_of (is_named leaf.name) db) ∙ named)

-- ---- what is told of cells

pub has_array : (file : List ℕ) (db : Database) (names : Names) (versions : List MadeVersion) (leaf : Leaf) (version : ℕ) → leaf.version ≡ version → names_of db ≡ names → IsDatabase db →
    IsLeafOf names leaf → HaveDirectories names versions → LieIn file db versions →
    HasArray leaf (version_rows (rows_of db) leaf.name version) (version_chunks (λ name number. numbers_in (directory_of name number versions)) leaf.name version)
has_array file db names versions leaf zero e same is leaf_is have all =
    let rows : AreRowsOf leaf.schema (version_rows (rows_of db) leaf.name leaf.version) = leaf_rows db is leaf (subst (λ (ns : Names). IsVersionOf leaf (entry_named ns.arrays leaf.name)) (sym same) leaf_is) in
    record {
      rows_of = subst (λ (v : ℕ). AreRowsOf leaf.schema (version_rows (rows_of db) leaf.name v)) e rows;
      sound = tt;
      listed = λ k long. refl;
    }
has_array file db names versions leaf (suc n) e same is leaf_is have all =
    let rows : AreRowsOf leaf.schema (version_rows (rows_of db) leaf.name leaf.version) = leaf_rows db is leaf (subst (λ (ns : Names). IsVersionOf leaf (entry_named ns.arrays leaf.name)) (sym same) leaf_is) in
    let s : IsSeen names versions leaf n = is_seen names versions leaf n e leaf_is have in
    let of : LiesIn file s.entry.schema s.v.directory (rows_of db s.v.name s.v.version) × (s.v.name ≡ leaf.name) × (s.v.version ≡ suc n) =
    of_version (λ (entry : NameEntry) (v : MadeVersion). LiesIn file entry.schema v.directory (rows_of db v.name v.version)) names versions leaf n s
    (subst (λ (ns : Names). AllByRecursion (λ v. IfSome (entry_named ns.arrays v.name) (λ entry. LiesIn file entry.schema v.directory (rows_of db v.name v.version))) versions) same all) in
    let its : rows_of db s.v.name s.v.version ≡ rows_of db leaf.name (suc n) = ap (λ (name : List ℕ). rows_of db name s.v.version) of.1 ∙ ap (rows_of db leaf.name) of.2 in
    record {
      rows_of = subst (λ (v : ℕ). AreRowsOf leaf.schema (version_rows (rows_of db) leaf.name v)) e rows;
      sound = leaf_sound db is leaf s.entry (suc n) s.schema (ap (λ (ns : Names). entry_named ns.arrays leaf.name) same ∙ s.named);
      listed = λ k long.
          ap (λ (o : Option Directory). is_listed k (numbers_of (numbers_in o))) (directory_is names versions leaf n s)
          ∙ ap (is_listed k) (numbers_are s.v.directory.entries)
          ∙ of.0.holds.listed k (long ∙ ap (λ (x : Schema). length x.dimensions) s.schema)
          ∙ ap (λ (rows : List Row). has_cell s.entry.schema.dimensions rows k) its
          ∙ ap (λ (x : Schema). has_cell x.dimensions (rows_of db leaf.name (suc n)) k) (sym s.schema);
    }

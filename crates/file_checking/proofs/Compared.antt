-- Overlaps of a version that are compared, and those that aren't.
use Rattle.std.proofs.Common.{◌≡◌, ℕ, Bool, true, false, List, Option, None, Some, Ok, Err, refl, sym, ◌∙◌, subst}
use Rattle.std.specs.Prelude.{◌&&◌, is_none, MatchResult}
use Rattle.cell_values.specs.declared.schema.Schema.{Schema}
use Rattle.cell_values.specs.Schemas.{IsValid}
use Rattle.array_geom.specs.Link.{NumbersRise}
use Rattle.chunk_map.specs.declared.directory.DirEntry.{DirEntry}
use Rattle.chunk_map.specs.declared.directory.Directory.{Directory}
use Rattle.backup_format.specs.Table.{rows_of}
use Rattle.file_checking.specs.Checking.{pieces_in}
use Rattle.file_checking.specs.Checks.{Tested, test_overlaps, test_payloads}
use Rattle.file_checking.specs.Inner.Steps.{AreOverlaps, AreWhole, IsChecked, IsDirectoryOf, Stops, has_overlaps, overlap_fault, test_entries}
use Rattle.file_checking.specs.declared.sound.CheckFault.{CheckFault}
use Rattle.file_checking.proofs.Alone.{alone_fit}
use Rattle.file_checking.proofs.Answered.{of_bytes, pieces_read, pieces_tested}
use Rattle.file_checking.proofs.Checked.{entry_numbers}
use Rattle.file_checking.proofs.Tests.{first_of_all}

-- without overlaps none is wrong
none_wrong : (file : List ℕ) (schema : Schema) (directory : Directory) → IsValid schema → IsDirectoryOf schema directory → has_overlaps schema.dimensions ≡ false → AreWhole file schema directory.entries → test_overlaps file schema directory ≡ Ok tt
none_wrong file schema directory valid are without whole =
    pieces_tested file schema (rows_of schema (pieces_in file directory)) directory.entries
    (alone_fit schema (pieces_in file directory) valid without (subst NumbersRise (sym (entry_numbers file directory.entries)) are.rising) (of_bytes file directory.entries whole.small)
    (pieces_read file schema directory.entries are.entries whole.whole))

not_compared : (file : List ℕ) (schema : Schema) (directory : Directory) (old : Option ℕ) → IsValid schema → IsDirectoryOf schema directory → (is_none old && has_overlaps schema.dimensions) ≡ false → AreWhole file schema directory.entries
    → IsChecked file schema directory old old
not_compared file schema directory None valid are without whole = record { are = whole; overlaps = sym (none_wrong file schema directory valid are without whole) }
not_compared file schema directory (Some page) valid are without whole = record { are = whole; overlaps = refl }

-- a version whose payloads were read alone
pub read_alone : (file : List ℕ) (schema : Schema) (directory : Directory) (slice : List DirEntry) (old : Option ℕ) (compared : Bool) (result : Tested) → IsValid schema → IsDirectoryOf schema directory → slice ≡ directory.entries
    → compared ≡ (is_none old && has_overlaps schema.dimensions) → compared ≡ false → MatchResult result (λ _. AreWhole file schema slice) (λ fault. Stops fault (test_entries file schema slice))
    → MatchResult result (λ _. IsChecked file schema directory old old) (λ fault. Stops fault (test_payloads file schema directory))
read_alone file schema directory slice old compared (Ok u) valid are same is without read =
    not_compared file schema directory old valid are (sym is ∙ without) (subst (AreWhole file schema) same read)
read_alone file schema directory slice old compared (Err fault) valid are same is without read =
    subst (λ (entries : List DirEntry). Stops fault (test_entries file schema entries)) same read

none_before : (old : Option ℕ) (some : Bool) → (is_none old && some) ≡ true → overlap_fault old ≡ Ok tt
none_before None some is = refl
none_before (Some page) some is = absurd cc

-- one whose overlaps were compared
pub compared_so : (file : List ℕ) (schema : Schema) (directory : Directory) (slice : List DirEntry) (old page : Option ℕ) (compared : Bool) → slice ≡ directory.entries
    → compared ≡ (is_none old && has_overlaps schema.dimensions) → compared ≡ true → AreOverlaps file schema slice page → IsChecked file schema directory old page
compared_so file schema directory slice old page compared same is with_them read =
    let own = subst (λ (entries : List DirEntry). AreOverlaps file schema entries page) same read in
    record { are = own.are; overlaps = first_of_all page (test_overlaps file schema directory) own.overlaps old (none_before old (has_overlaps schema.dimensions) (sym is ∙ with_them)) }

pub stops_so : (file : List ℕ) (schema : Schema) (directory : Directory) (slice : List DirEntry) (fault : CheckFault) → slice ≡ directory.entries → Stops fault (test_entries file schema slice) → Stops fault (test_payloads file schema directory)
stops_so file schema directory slice fault same stops = subst (λ (entries : List DirEntry). Stops fault (test_entries file schema entries)) same stops

-- The entries, directories and arrays that are made of what was written.
use Rattle.std.proofs.Common.{◌≡◌, ℕ, ◌+◌, ◌<◌, ◌^◌, List, [], ◌∷◌, map, length, refl, ◌∙◌, ap, subst, arith}
use Rattle.std.specs.Prelude.{sum_by}
use Rattle.arrayvec.specs.ArrayVec.{ArrayVec}
use Rattle.afl_outside.specs.Disk.{Moment}
use Rattle.file_items.specs.Pages.{pages_needed}
use Rattle.page_chain.specs.Pages.{page_size, HoldsBlob}
use Rattle.page_chain.specs.declared.slots.slots.slots.Slots.{Slots}
use Rattle.chunk_map.specs.declared.directory.DirEntry.{DirEntry}
use Rattle.chunk_map.specs.Spelling.{spelling as directory_spelling}
use Rattle.version_catalog.specs.declared.rules.catalog.BlobAt.{BlobAt}
use Rattle.backup_format.specs.Pieces.{PiecesVersion}
use Rattle.backup_format.specs.PiecePlaces.{version_in, array_in}
use Rattle.backup_format.specs.declared.arrays.ArrayAt.{ArrayAt}
use Rattle.backup_format.specs.declared.versions.VersionPiecesAt.{VersionPiecesAt}
use Rattle.backup_restoring.specs.Restores.{payload_pages, directory_length, directory_pages, version_pages}
use Rattle.backup_restoring.specs.Inner.Layout.{pages_from, laid, entry_at, directory_at, behind_payloads, blob_at, array_at, HoldsPayload, HoldsPayloads, HoldsPieces}
use Rattle.backup_restoring.specs.Inner.Writing.{Lays, Writes}
use Rattle.backup_restoring.proofs.Laid.{none_below}
use Rattle.backup_restoring.proofs.Lengths.{directory_long}
use Rattle.backup_restoring.proofs.Written.{payloads_stay, writes_on}

-- ---- payloads

pub entry_is : (first n : ℕ) (at copy : ArrayVec ℕ) (payload own pages : List ℕ) → copy ≡ at → own ≡ payload → n ≡ length own → pages ≡ pages_from first (pages_needed (length own))
    → record { at = copy; length = n; birth = 2; pages = pages } ≡ entry_at first (record { at = at.items; payload = payload })
entry_is first n at copy payload own pages at_is is long lie =
    let size : n ≡ length payload = long ∙ ap (λ (p : List ℕ). length p) is in
    let placed : pages ≡ pages_from first (pages_needed (length payload)) = lie ∙ ap (λ (p : List ℕ). pages_from first (pages_needed (length p))) is in
    ap (λ (a : ArrayVec ℕ). record { at = a; length = n; birth = 2; pages = pages }) at_is ∙ ap (λ (m : ℕ). record { at = at; length = m; birth = 2; pages = pages }) size
    ∙ ap (λ (ps : List ℕ). record { at = at; length = length payload; birth = 2; pages = ps }) placed

pub payload_written : (first : ℕ) (payload own : List ℕ) (s t : Slots) (old new : Moment) → own ≡ payload
    → Writes first (pages_needed (length own)) (λ now. HoldsBlob page_size now (pages_from first (pages_needed (length own))) own) s t old new
    → Writes first (pages_needed (length payload)) (λ now. HoldsBlob page_size now (pages_from first (pages_needed (length payload))) payload) s t old new
payload_written first payload own s t old new is = subst (λ (p : List ℕ). Writes first (pages_needed (length p)) (λ now. HoldsBlob page_size now (pages_from first (pages_needed (length p))) p) s t old new) is

-- ---- versions

-- what a directory's bytes are, and how many pages they need
pub record IsText (first : ℕ) (version : PiecesVersion) (next : ℕ) (bytes : List ℕ) : Type 0 where
  pub text : bytes ≡ directory_spelling (directory_at first version)
  pub next_is : next ≡ behind_payloads first version
  pub long : length bytes ≡ directory_length version
  pub needs : pages_needed (length bytes) ≡ directory_pages version

pub is_text : (first : ℕ) (version : PiecesVersion) (next : ℕ) (entries : List DirEntry) (bytes : List ℕ) (s t : Slots) (old new : Moment) → Lays payload_pages entry_at HoldsPayload first version.pieces next entries s t old new
    → bytes ≡ directory_spelling (record { entries = entries }) → IsText first version next bytes
is_text first version next entries bytes s t old new lays is =
    let text : bytes ≡ directory_spelling (directory_at first version) = is ∙ ap (λ (es : List DirEntry). directory_spelling (record { entries = es })) lays.made_is in
    let long : length bytes ≡ directory_length version = ap (λ (b : List ℕ). length b) text ∙ directory_long first version in
    record { text = text; next_is = lays.next_is; long = long; needs = ap pages_needed long }

pub version_room : (first : ℕ) (version : PiecesVersion) (next : ℕ) (bytes : List ℕ) → first + version_pages version < 2 ^ 32 → IsText first version next bytes → next + pages_needed (length bytes) < 2 ^ 32
version_room first version next bytes room t = let a = t.next_is in let b = t.needs in omega (arith, room, a, b)

pub blob_is : (first : ℕ) (version : PiecesVersion) (next : ℕ) (bytes : List ℕ) (blob : BlobAt) → IsText first version next bytes → blob ≡ record { length = length bytes; pages = pages_from next (pages_needed (length bytes)) } → blob ≡ blob_at first version
blob_is first version next bytes blob t is =
    is ∙ ap (λ (n : ℕ). record { length = n; pages = pages_from next (pages_needed (length bytes)) }) t.long
    ∙ ap (λ (p : ℕ). record { length = directory_length version; pages = pages_from p (pages_needed (length bytes)) }) t.next_is
    ∙ ap (λ (n : ℕ). record { length = directory_length version; pages = pages_from (behind_payloads first version) n }) t.needs

pub behind_is : (first : ℕ) (version : PiecesVersion) (next : ℕ) (bytes : List ℕ) (later : ℕ) → IsText first version next bytes → later ≡ next + pages_needed (length bytes) → later ≡ first + version_pages version
behind_is first version next bytes later t is = let a = t.next_is in let b = t.needs in omega (arith, is, a, b)

pub version_written : (first : ℕ) (version : PiecesVersion) (next : ℕ) (entries : List DirEntry) (bytes : List ℕ) (s0 s1 s2 : Slots) (m0 m1 m2 : Moment) → IsText first version next bytes
    → Lays payload_pages entry_at HoldsPayload first version.pieces next entries s0 s1 m0 m1
    → Writes next (pages_needed (length bytes)) (λ now. HoldsBlob page_size now (pages_from next (pages_needed (length bytes))) bytes) s1 s2 m1 m2
    → Writes first (version_pages version) (λ now. HoldsPieces now first version) s0 s2 m0 m2
version_written first version next entries bytes s0 s1 s2 m0 m1 m2 t lays writes =
    let sum = sum_by payload_pages version.pieces in
    let from = behind_payloads first version in
    let count = directory_pages version in
    let text = directory_spelling (directory_at first version) in
    let a : Writes next count (λ now. HoldsBlob page_size now (pages_from next count) bytes) s1 s2 m1 m2
    = subst (λ (n : ℕ). Writes next n (λ now. HoldsBlob page_size now (pages_from next n) bytes) s1 s2 m1 m2) t.needs writes in
    let b : Writes from count (λ now. HoldsBlob page_size now (pages_from from count) bytes) s1 s2 m1 m2
    = subst (λ (p : ℕ). Writes p count (λ now. HoldsBlob page_size now (pages_from p count) bytes) s1 s2 m1 m2) t.next_is a in
    let c : Writes from count (λ now. HoldsBlob page_size now (pages_from from count) text) s1 s2 m1 m2
    = subst (λ (bs : List ℕ). Writes from count (λ now. HoldsBlob page_size now (pages_from from count) bs) s1 s2 m1 m2) t.text b in
    writes_on first sum count (version_pages version) (λ now. HoldsPayloads now first version.pieces) (λ now. HoldsBlob page_size now (pages_from from count) text) (λ now. HoldsPieces now first version)
    s0 s1 s2 m0 m1 m2 refl lays.writes c
    (λ x y keeps before here. (payloads_stay (pages_from from count) x y first from version.pieces keeps (λ p low high. none_below from count p high) (omega arith) before, here))

-- ---- arrays

same_numbers : (whole : List ℕ) (vs : List VersionPiecesAt) → map (λ (v : VersionPiecesAt). v.number) vs ≡ map (λ (v : PiecesVersion). v.number) (map (version_in whole) vs)
same_numbers whole [] = refl
same_numbers whole (v ∷ vs) = ap (λ (ns : List ℕ). v.number ∷ ns) (same_numbers whole vs)

pub array_is : (whole : List ℕ) (first : ℕ) (array : ArrayAt) (directories : List BlobAt) → directories ≡ laid version_pages blob_at first (map (version_in whole) array.versions)
    → record { entry = record { name = array.name; schema = array.schema; next = array.next; versions = map (λ (v : VersionPiecesAt). v.number) array.versions }; directories = directories } ≡ array_at first (array_in whole array)
array_is whole first array directories is =
    ap (λ (ns : List ℕ). record { entry = record { name = array.name; schema = array.schema; next = array.next; versions = ns }; directories = directories }) (same_numbers whole array.versions)
    ∙ ap (λ (ds : List BlobAt). record {
      entry = record { name = array.name; schema = array.schema; next = array.next; versions = map (λ (v : PiecesVersion). v.number) (map (version_in whole) array.versions) };
      directories = ds;
    }) is

-- The loop that puts the versions of an array.
use Rattle.std.proofs.Common.{◌≡◌, ℕ, ◌+◌, ◌<◌, List, [], ◌∷◌, ◌++◌, length, take, slice_index_or, sym, ap, ◌∙◌, append_assoc, add-one}
use Rattle.std.specs.List.{flat_map}
use Rattle.std.proofs.lemmas.Grind.{flat_map-append}
use Rattle.std.proofs.lemmas.List.{append-nil}
use Rattle.version_catalog.specs.declared.rules.catalog.BlobAt.{BlobAt}
use Rattle.version_catalog.specs.Spelling.{VersionAt, versions_at, spell_version}
use Rattle.version_catalog.proofs.Pairs.{take_pairs}

one_spelled : (versions : List VersionAt) (v : VersionAt) → flat_map spell_version (versions ++ v ∷ []) ≡ flat_map spell_version versions ++ spell_version v
one_spelled versions v = flat_map-append spell_version versions (v ∷ []) ∙ ap (λ (t : List ℕ). flat_map spell_version versions ++ t) (append-nil (spell_version v))

pair_at : (numbers : List ℕ) (directories : List BlobAt) (i n : ℕ) (d : BlobAt) → n ≡ slice_index_or numbers i 0 → d ≡ slice_index_or directories i d → i < length (versions_at numbers directories)
    → take (i + 1) (versions_at numbers directories) ≡ take i (versions_at numbers directories) ++ record { number = n; directory = d } ∷ []
pair_at numbers directories i n d e f lt =
    ap (λ (k : ℕ). take k (versions_at numbers directories)) (add-one i)
    ∙ take_pairs numbers directories i 0 d lt
    ∙ ap (λ (m : ℕ). take i (versions_at numbers directories) ++ record { number = m; directory = slice_index_or directories i d } ∷ []) (sym e)
    ∙ ap (λ (b : BlobAt). take i (versions_at numbers directories) ++ record { number = n; directory = b } ∷ []) (sym f)

pub version_put : (old head out out' : List ℕ) (numbers : List ℕ) (directories : List BlobAt) (i n : ℕ) (d : BlobAt) → n ≡ slice_index_or numbers i 0 → d ≡ slice_index_or directories i d → i < length (versions_at numbers directories)
    → out ≡ old ++ (head ++ flat_map spell_version (take i (versions_at numbers directories))) → out' ≡ out ++ spell_version (record { number = n; directory = d })
    → out' ≡ old ++ (head ++ flat_map spell_version (take (i + 1) (versions_at numbers directories)))
version_put old head out out' numbers directories i n d e f lt before put =
    let had = flat_map spell_version (take i (versions_at numbers directories)) in
    let v = spell_version (record { number = n; directory = d }) in
    put
    ∙ ap (λ (t : List ℕ). t ++ v) before
    ∙ append_assoc old (head ++ had) v
    ∙ ap (λ (t : List ℕ). old ++ t) (append_assoc head had v)
    ∙ ap (λ (t : List ℕ). old ++ (head ++ t)) (sym (one_spelled (take i (versions_at numbers directories)) (record { number = n; directory = d })) ∙ ap (flat_map spell_version) (sym (pair_at numbers directories i n d e f lt)))

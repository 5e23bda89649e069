-- The loop over the versions of an array.
use Rattle.std.proofs.Common.{◌≡◌, ℕ, ◌+◌, ◌-◌, ◌<◌, List, [], ◌∷◌, ◌++◌, length, Result, Ok, refl, sym, ap, subst, ◌∙◌}
use Rattle.std.proofs.lemmas.List.{length-append}
use Rattle.file_items.specs.Items.{repeat}
use Rattle.file_items.proofs.Loop.{behind, one_more}
use Rattle.version_catalog.specs.declared.rules.catalog.BlobAt.{BlobAt}
use Rattle.version_catalog.specs.Spelling.{VersionAt, versions_at}
use Rattle.version_catalog.specs.Table.{version_at, next_version, number_in}
use Rattle.version_catalog.proofs.Pairs.{one_more_pair}

abbrev read_version : ℕ → BlobAt → List ℕ → Result (VersionAt × List ℕ) ℕ
read_version number directory rest = Ok (record { number = number; directory = directory }, rest)

pub version_more : (next last : ℕ) (numbers numbers' : List ℕ) (directories directories' : List BlobAt) (count i : ℕ) (bytes : List ℕ) (number : ℕ) (directory : BlobAt) (rest : List ℕ) (all : Result (List VersionAt × List ℕ) ℕ)
    → length directories ≡ length numbers → numbers' ≡ numbers ++ number ∷ [] → directories' ≡ directories ++ directory ∷ [] → i < count → version_at next last bytes ≡ read_version number directory rest
    → behind (versions_at numbers directories) (repeat (next_version next) number_in (count - i) last bytes) ≡ all
    → behind (versions_at numbers' directories') (repeat (next_version next) number_in (count - (i + 1)) number rest) ≡ all
version_more next last numbers numbers' directories directories' count i bytes number directory rest all same pushed pushed' lt read before =
    let pairs : versions_at numbers' directories' ≡ versions_at numbers directories ++ record { number = number; directory = directory } ∷ [] =
    ap (λ (ns : List ℕ). versions_at ns directories') pushed ∙ ap (λ (ds : List BlobAt). versions_at (numbers ++ number ∷ []) ds) pushed' ∙ one_more_pair numbers directories number directory same in
    subst (λ (vs : List VersionAt). behind vs (repeat (next_version next) number_in (count - (i + 1)) number rest) ≡ all) (sym pairs)
    (one_more (next_version next) number_in last (versions_at numbers directories) count i (count - (i + 1)) bytes (record { number = number; directory = directory }) rest all lt refl read before)

pub same_lengths : (numbers numbers' : List ℕ) (directories directories' : List BlobAt) (number : ℕ) (directory : BlobAt) → length directories ≡ length numbers → numbers' ≡ numbers ++ number ∷ [] → directories' ≡ directories ++ directory ∷ []
    → length directories' ≡ length numbers'
same_lengths numbers numbers' directories directories' number directory same pushed pushed' =
    ap (λ (ds : List BlobAt). length ds) pushed' ∙ length-append directories (directory ∷ []) ∙ ap (λ (n : ℕ). n + 1) same ∙ sym (length-append numbers (number ∷ [])) ∙ ap (λ (ns : List ℕ). length ns) (sym pushed)

-- The pages of what is found after a commit.
use Rattle.std.proofs.Common.{◌≡◌, ◌∙◌, ◌+◌, ℕ, List, [], ◌∷◌, ◌++◌, Option, Some, None, refl, sym, ap, subst}
use Rattle.std.proofs.lemmas.List.{append_assoc, append-nil}
use Rattle.chunk_map.specs.declared.directory.Directory.{Directory}
use Rattle.file_meaning.specs.Changed.{after_change}
use Rattle.file_meaning.specs.Opening.{all_of, sequence_of}
use Rattle.file_meaning.specs.Next.{blob_of, with_record, with_base}
use Rattle.commit_pages.specs.declared.pages.laid.Laid.{Laid}
use Rattle.commit_pages.specs.declared.pages.version.NewVersion.{NewVersion}
use Rattle.commit_pages.specs.declared.pages.written.Written.{Written}
use Rattle.commit_pages.specs.Versions.{draft_of, version_in, new_version}
use Rattle.commit_pages.specs.Commits.{record_laid, base_laid}
use Rattle.store_state.specs.LaidLaws.{HasRecordPages, HasBasePages, LaidRecordsHaveTheirPages, LaidBasesHaveTheirPages}
use Rattle.store_state.specs.LaidPremises.{made_by, made_of, pages_made}

-- ---- the version

record IsIts (version : NewVersion) : Type 0 where
  pages : version.pages ≡ pages_made (made_by version.at version.directory)
  at : blob_of (made_by version.at version.directory) ≡ version.at

version_its : (pages : List ℕ) (written : Option Written) (newest : Directory) → IsIts (new_version pages written newest)
unfolding version_in
version_its pages None newest = record { pages = refl; at = refl }
version_its pages (Some written) newest = record { pages = refl; at = refl }

-- ---- the catalogue

behind : (lists : List (List ℕ)) (pages : List ℕ) → all_of (lists ++ pages ∷ []) ≡ all_of lists ++ pages
behind [] pages = append-nil pages
behind (list ∷ lists) pages = ap (λ (ps : List ℕ). list ++ ps) (behind lists pages) ∙ sym (append_assoc list (all_of lists) pages)

pub records_have : LaidRecordsHaveTheirPages
unfolding record_laid
records_have slots found change changed newest catalogue pages laid its =
    let is = version_its pages (draft_of (sequence_of slots + 1) changed) newest in
    subst (λ (l : Laid). HasRecordPages found (with_record found l.chain.pages change (made_of l)) catalogue l) (sym its.is) (record {
      catalog = ap (after_change found.catalog change) is.at;
      catalogue = ap (λ (ps : List ℕ). found.chain ++ ps) (behind found.logged _) ∙ sym (append_assoc found.chain (all_of found.logged) _);
      told = refl;
      version = is.pages;
    })

pub bases_have : LaidBasesHaveTheirPages
unfolding base_laid
bases_have slots found change changed newest pages log laid its =
    let is = version_its pages (draft_of (sequence_of slots + 1) changed) newest in
    subst (λ (l : Laid). HasBasePages (with_base found l.chain.pages change (made_of l)) log l) (sym its.is) (record {
      catalog = ap (after_change found.catalog change) is.at;
      catalogue = append-nil _;
      told = refl;
      version = is.pages;
    })

-- How many pages a version takes, by where its directory lies.
use Rattle.std.proofs.Common.{◌≡◌, ◌∙◌, ℕ, ◌+◌, Option, Some, None, refl, ap}
use Rattle.std.proofs.lemmas.List.{length-replicate}
use Rattle.chunk_map.specs.declared.directory.Directory.{Directory}
use Rattle.file_meaning.specs.BlobAt.{BlobAt}
use Rattle.commit_pages.specs.declared.pages.written.Written.{Written}
use Rattle.commit_pages.specs.Versions.{blob_count, directory_bytes, draft_at, count_at, payload_count, version_needs}

needs : (written : Option Written) (newest : Directory) → payload_count written + count_at (draft_at written newest) ≡ version_needs written newest
needs None newest = refl
needs (Some written) newest = ap (λ (n : ℕ). payload_count (Some written) + n) (length-replicate (blob_count (directory_bytes written newest)) 1)

pub needs_are : (written : Option Written) (newest : Directory) (at : Option BlobAt) (payloads own sum : ℕ) → at ≡ draft_at written newest → payloads ≡ payload_count written → own ≡ count_at at
    → sum ≡ payloads + own → sum ≡ version_needs written newest
needs_are written newest at payloads own sum a p o s =
    s ∙ ap (λ (n : ℕ). n + own) p ∙ ap (λ (n : ℕ). payload_count written + n) (o ∙ ap count_at a) ∙ needs written newest

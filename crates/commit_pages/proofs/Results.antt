-- What holds of a value that is there.
use Rattle.std.proofs.Common.{◌≡◌, IfOk, ℕ, List, Result, Ok, Err, ap, ◌∙◌}
use Rattle.chunk_map.specs.declared.directory.DirEntry.{DirEntry}
use Rattle.chunk_map.specs.declared.directory.Directory.{Directory}
use Rattle.chunk_map.specs.Entries.{AreRising}
use Rattle.chunk_map.specs.Replacing.{AreReplaced}
use Rattle.page_file.specs.declared.commits.placed.Placed.{Placed}
use Rattle.commit_pages.specs.Versions.{put_entries}
use Rattle.commit_pages.proofs.Directories.{replaced_are_put}

pub if_ok : {A E : Type 0} (P Q : A → Type 0) (r : Result A E) → ((x : A) → P x → Q x) → IfOk r P → IfOk r Q
if_ok P Q (Ok x) f h = f x h
if_ok P Q (Err e) f h = h

-- a value that is handed on, told by an equal one
pub handed : {A E : Type 0} (r : Result A E) (x y : A) → x ≡ y → IfOk r (λ v. v ≡ x) → IfOk r (λ v. v ≡ y)
handed (Ok v) x y same is = is ∙ same
handed (Err e) x y same is = is

-- bytes in some pages
abbrev pub blob_of : List ℕ → List ℕ → Placed
blob_of pages bytes = record { pages = pages; bytes = bytes }

pub replaced_put : (fresh old : List DirEntry) (new : Directory) → AreRising old → AreReplaced fresh old new.entries → new ≡ record { entries = put_entries fresh old }
replaced_put fresh old new rise replaced = ap (λ (es : List DirEntry). record { entries = es }) (replaced_are_put fresh old new.entries rise replaced)

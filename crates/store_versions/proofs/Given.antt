-- The directories of commits that come later may be any.
use Rattle.std.proofs.Common.{◌≡◌, ◌∙◌, ℕ, ◌≤◌, ◌<◌, if◌then◌else◌, [], ◌∷◌, length, refl, ap, sym, arith}
use Rattle.std.proofs.lemmas.Bool.{ne_eqb}
use Rattle.chunk_map.specs.declared.directory.Directory.{Directory}
use Rattle.event_core.specs.declared.entry.Entry.TheVariants.{Pin, Unpin, Commit, Reap}
use Rattle.event_core.specs.declared.state.Core.{Core}
use Rattle.event_core.specs.History.{History, names_at, open_pins}
use Rattle.store_versions.specs.Laws.{with_made, LaterDirectoriesAreFree}
use Rattle.store_versions.specs.Seen.{seen}
use Rattle.store_versions.specs.Versions.{Directories, versions_after, versions_at}
use Rattle.store_versions.proofs.Seen.{all_two, pins_within}

other_made : (given : Directories) (n place : ℕ) (directory : Directory) → n < place → (with_made place directory given).made n ≡ given.made n
other_made given n place directory lt =
    let differ : n ≡ place → ⊥ = λ (e : n ≡ place). omega (arith, e, lt) in
    ap (λ b. if b then directory else given.made n) (ne_eqb n place differ)

later_made : (base : Core) (given : Directories) (place : ℕ) (directory : Directory) (h : History) → length h ≤ place → versions_at base (with_made place directory given) h ≡ versions_at base given h
later_made base given place directory [] le = refl
later_made base given place directory (Pin s ∷ before) le = later_made base given place directory before (omega arith)
later_made base given place directory (Unpin s ∷ before) le = later_made base given place directory before (omega arith)
later_made base given place directory (Commit s change used ∷ before) le =
    ap (λ d. versions_after (names_at base before) change d (versions_at base (with_made place directory given) before)) (other_made given (length before) place directory (omega arith))
    ∙ ap (versions_after (names_at base before) change (given.made (length before))) (later_made base given place directory before (omega arith))
later_made base given place directory (Reap ∷ before) le = later_made base given place directory before (omega arith)

pub later_directories_are_free : LaterDirectoriesAreFree
later_directories_are_free given rows base h place directory le are = record {
  now = are.now ∙ sym (later_made base given place directory h le);
  pinned = all_two (λ pin. length pin.before < length h) (λ pin. seen (length pin.before) rows ≡ versions_at base given pin.before)
      (λ pin. seen (length pin.before) rows ≡ versions_at base (with_made place directory given) pin.before)
      (λ pin lt e. e ∙ sym (later_made base given place directory pin.before (omega arith))) (open_pins h) (pins_within h) are.pinned;
  past = are.past;
}

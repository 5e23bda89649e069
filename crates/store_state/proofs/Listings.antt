-- What a listing tells.
use Rattle.std.proofs.Common.{◌≡◌, ◌∙◌, ℕ, List, Option, Some, IfSome, IfOk, Result, Ok, Err, refl, ap, sym, subst}
use Rattle.afl_outside.specs.Disk.{Moment}
use Rattle.arrayvec.specs.ArrayVec.{ArrayVec}
use Rattle.array_geom.specs.Link.{NumbersRise}
use Rattle.file_meaning.specs.Source.{numbers_of, version_chunks, AreNumbersIn}
use Rattle.logical_plan.specs.declared.parts.Leaf.{Leaf}
use Rattle.plan_changes.specs.Databases.{Database, rows_of}
use Rattle.event_core.specs.Cells.{at}
use Rattle.event_core.specs.History.{History, names_at}
use Rattle.store_versions.specs.Seen.{seen}
use Rattle.store_versions.specs.Versions.{MadeVersion, directory_of}
use Rattle.store_state.specs.Calls.{numbers_in, IsLeafOf}
use Rattle.store_state.specs.Standings.{Standing, versions_after}
use Rattle.store_state.specs.Inner.Keeping.{Keeping}
use Rattle.store_state.specs.Inner.Sights.{Sees, SeesCells}
use Rattle.store_state.proofs.Leaves.{rises, has_array}

pub if_ok : {A E : Type 0} (P Q : A → Type 0) (r : Result A E) → ((x : A) → P x → Q x) → IfOk r P → IfOk r Q
if_ok P Q (Ok x) f h = f x h
if_ok P Q (Err e) f h = tt

abbrev pub chunks_of : List MadeVersion → Leaf → List (ArrayVec ℕ)
chunks_of versions leaf = version_chunks (λ name number. numbers_in (directory_of name number versions)) leaf.name leaf.version

-- a disk as it reads is one of its images
pub as_it_reads : (now : Moment) (file : List ℕ) → now.state.seen ≡ Some file → IfSome now.state.seen now.may_leave → now.may_leave file
as_it_reads now file tells is = let all : IfSome (Some file) now.may_leave = subst (λ (o : Option (List ℕ)). IfSome o now.may_leave) tells is in all

module _ {D : Type 0} (moment : D → Moment) (s : Standing D) (k : Keeping) (place : ℕ) (before : History) (leaf : Leaf) (sees : Sees s k place before)
    (is : IsLeafOf (names_at s.ledger.base before) leaf) (chunks : List (ArrayVec ℕ)) (e : chunks ≡ chunks_of (seen place k.rows) leaf) where
  these : chunks ≡ chunks_of (versions_after s before) leaf
  these = e ∙ ap (λ (versions : List MadeVersion). chunks_of versions leaf) sees.rows

  pub listing_rises : NumbersRise (numbers_of chunks)
  listing_rises = subst (λ (xs : List (ArrayVec ℕ)). NumbersRise (numbers_of xs)) (sym these)
      (rises (names_at s.ledger.base before) (versions_after s before) leaf leaf.version refl is sees.named sees.directories)

  pub listing_told : (db : Database) → SeesCells moment s db before → IfSome (moment s.disk).state.seen (moment s.disk).may_leave → AreNumbersIn (rows_of (at db before)) leaf chunks
  listing_told db cells reads = subst (AreNumbersIn (rows_of (at db before)) leaf) (sym these) (λ valid.
      has_array cells.file (at db before) (names_at s.ledger.base before) (versions_after s before) leaf leaf.version refl cells.names cells.database is sees.named
      (cells.lies cells.file (as_it_reads (moment s.disk) cells.file cells.tells reads)))

-- A change that chunks come with is asked of the worked store, and either of its images may occur.
use Rattle.std.proofs.Common.{◌≡◌, ◌∙◌, inl, inr, ℕ, List, [], ◌∷◌, Some, refl, sym, ap, subst, arith}
use Rattle.plan_changes.specs.Databases.{Database, after}
use Rattle.array_geom.specs.Geometry.{overlaps}
use Rattle.array_geom.specs.Link.{IsPart}
use Rattle.chunk_rle.specs.Stored.{IsStored}
use Rattle.store_state.specs.Changes.{AreValid, IsChangeOf}
use Rattle.file_meaning.specs.Inner.FileExample.{database, file, rows, schema}
use Rattle.file_meaning.specs.FileLaws.{OneDatabase, SoundRowsAreStored}
use Rattle.file_meaning.proofs.Payloads.{stored_part}
use Rattle.file_meaning.specs.Standing.{Stands, stored_chunk}
use Rattle.file_meaning.specs.Inner.NextExample.{AnArrayIsStoredAgain, change, next}
use Rattle.prepared_commits.specs.Standings.{BeganAs}
use Rattle.prepared_commits.specs.Worked.{worked_moment}
use Rattle.prepared_commits.specs.Prepared.{MayBeMade}
use Rattle.file_meaning.proofs.WorkedFiles.{file_stands}
use Rattle.store_sealing.specs.CellsWorked.{BothMayOccur, ChunksAreAsked, stored_again}

module _ (stored_so : AnArrayIsStoredAgain) (one : OneDatabase) where
  -- ---- what is asked

  module _ (sound : SoundRowsAreStored) where
    is_stored : IsStored schema (stored_chunk schema rows (0 ∷ []))
    is_stored = sound schema rows (0 ∷ []) file_stands.database.rows.0.0.0 file_stands.database.rows.0.0.1 refl refl

    valid : AreValid stored_again
    valid = record { rising = (tt, tt); stored = (is_stored, tt) }

    part : IsPart schema.dimensions (overlaps schema.dimensions) rows (stored_chunk schema rows (0 ∷ []))
    part = stored_part schema rows (0 ∷ []) is_stored.valid.framed

    changes : IsChangeOf database change stored_again
    changes = record {
      fault = stored_so.may.sound;
      rows = file_stands.database.rows.0.0.0;
      listed = λ k len. stored_so.stands.holds.versions.0.0.listed k len;
      parts = (part, tt);
    }

    may_be : MayBeMade database change (Some stored_again)
    may_be = record { stores = stored_so.may.stores; fault = stored_so.may.sound; chunks = changes }

    the_same : (db : Database) → BeganAs (worked_moment tt).state db → database ≡ db
    the_same db began =
        let told : Some file ≡ Some began.file = began.tells in
        let same : file ≡ began.file = cc in
        one file database db file_stands (subst (λ (c : List ℕ). Stands c db) (sym same) began.stands)

    pub are_asked : ChunksAreAsked
    are_asked = record {
      named = stored_so.may.named;
      typed = stored_so.may.typed;
      comes = (refl, refl);
      valid = valid;
      told = λ db began. subst (λ (d : Database). MayBeMade d change (Some stored_again)) (the_same db began) may_be;
    }

  -- ---- in doubt

  first_next : Database → ℕ
  first_next [] = 0
  first_next (a ∷ db) = a.next

  other : (db : Database) → database ≡ db → first_next db ≡ 3 → ⊥
  unfolding first_next
  other db same is = let e : first_next database ≡ 3 = ap first_next same ∙ is in omega (arith, e)

  three : first_next (after database change) ≡ 3
  unfolding first_next
  three = refl

  pub may_occur : BothMayOccur
  may_occur = record {
    without = inl file_stands;
    behind = inr stored_so.next_stands;
    apart = λ stands. other (after database change) (one next database (after database change) stands stored_so.next_stands) three;
  }

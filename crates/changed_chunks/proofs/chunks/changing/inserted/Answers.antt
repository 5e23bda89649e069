use Rattle.std.proofs.Common.{◌≡◌, ◌∙◌, ◌++◌, List, [], length, map, subst, sym, ap, false, Result}
use Rattle.std.specs.Prelude.{IfOk}
use Rattle.cell_values.specs.declared.datum.Row.{Row}
use Rattle.cell_values.specs.declared.datum.Broken.{Broken}
use Rattle.cell_values.specs.declared.schema.Schema.{Schema}
use Rattle.array_geom.specs.declared.chunk.ChunkedArray.{ChunkedArray}
use Rattle.array_parts.specs.Cores.{cores_of}
use Rattle.logical_plan.specs.Leaves.{leaves}
use Rattle.commit_pages.specs.Changes.{IsOf}
use Rattle.changed_chunks.specs.Inner.Writes.{IsInsertOf}
use Rattle.changed_chunks.specs.Targets.{asking_put}
use Rattle.changed_chunks.specs.Wanted.{target_wanted}
use Rattle.logical_plan.specs.Meaning.{version_rows}
use Rattle.plan_changes.specs.declared.change.Change.TheVariants.{Insert}
use Rattle.plan_changes.specs.Databases.{Database, fitted, rows_of}
use Rattle.chunk_source.specs.Source.{AsksFront, asks, listed}
use Rattle.chunk_source.proofs.ReadLemmas.{on_err, keeps_on, reads_still}
use Rattle.changed_chunks.specs.Changing.{asked_of_all, asked_with, rows_without_fault}
use Rattle.changed_chunks.specs.Inner.Input.{IsFound, IsToStore, found_cores}
use Rattle.changed_chunks.proofs.Asked.{asked_then, asked_there, counted_then, counted_there, front_plan, front_then, front_there}
use Rattle.changed_chunks.proofs.Told.{answers_insert}
use Rattle.changed_chunks.proofs.chunks.changing.inserted.Goals as goal

pub returns-in_err-put-clause-front : goal.returns-in_err-put-clause-front
returns-in_err-put-clause-front g c =
    let old = g.S.ChunkSource.state c.args.source.now in
    let new = g.S.ChunkSource.state c.input_of.new.source in
    let schema = c.args.schema.now in
    let plan = c.args.plan.now in
    let front : (db : Database) → old.tells (rows_of db) → AsksFront (asked_of_all db old (Insert [] schema plan) c.args.target.now) old new
    = λ db tells. front_plan plan c.args.target.now schema.dimensions (rows_without_fault (fitted schema plan db)) old new c.in_err-put.ensures.front in
    on_err _ _ front

pub returns-in_err-put-clause-some : goal.returns-in_err-put-clause-some
returns-in_err-put-clause-some g c =
    let old = g.S.ChunkSource.state c.args.source.now in
    let new = g.S.ChunkSource.state c.input_of.new.source in
    let some : (rows : List Row) × AsksFront (asked_with rows old (Insert [] c.args.schema.now c.args.plan.now) c.args.target.now) old new
    = ([], front_plan c.args.plan.now c.args.target.now c.args.schema.now.dimensions [] old new c.in_err-put.ensures.front) in
    on_err _ _ some

pub returns-in_err-put_over_target-in-Ok-clause-front : goal.returns-in_err-put_over_target-in-Ok-clause-front
returns-in_err-put_over_target-in-Ok-clause-front g c =
    let old = g.S.ChunkSource.state c.args.source.now in
    let new = g.S.ChunkSource.state c.put_over_target.new.source in
    let schema = c.args.schema.now in
    let plan = c.args.plan.now in
    let front : (db : Database) → old.tells (rows_of db) → AsksFront (asked_of_all db old (Insert [] schema plan) c.args.target.now) old new
    = λ db tells. front_there schema plan c.args.target.now old new (cores_of c.in-Ok.put) db (found_cores c.in_ok-put.field-0) (ap found_cores c.in-Ok.is) (c.in_ok-put.ensures.found db tells)
    (front_then plan c.args.target.now schema.dimensions (cores_of c.in-Ok.put) old (g.S.ChunkSource.state c.input_of.new.source) new
    c.in_ok-put.ensures.kept c.in_ok-put.ensures.asked (subst (λ (z : Schema). AsksFront (map (asks (length (leaves c.args.plan.now))) (target_wanted z.dimensions (cores_of c.in-Ok.put) (listed (g.S.ChunkSource.state c.input_of.new.source) c.args.target.now))) (g.S.ChunkSource.state c.input_of.new.source) (g.S.ChunkSource.state c.put_over_target.new.source)) c.requires.schema c.in_err-put_over_target-in-Ok.ensures.front)) in
    on_err _ _ front

pub returns-in_err-put_over_target-in-Ok-clause-some : goal.returns-in_err-put_over_target-in-Ok-clause-some
returns-in_err-put_over_target-in-Ok-clause-some g c =
    let old = g.S.ChunkSource.state c.args.source.now in
    let new = g.S.ChunkSource.state c.put_over_target.new.source in
    let some : (rows : List Row) × AsksFront (asked_with rows old (Insert [] c.args.schema.now c.args.plan.now) c.args.target.now) old new
    = (
      (cores_of c.in-Ok.put),
      front_then c.args.plan.now c.args.target.now c.args.schema.now.dimensions (cores_of c.in-Ok.put) old (g.S.ChunkSource.state c.input_of.new.source) new
          c.in_ok-put.ensures.kept c.in_ok-put.ensures.asked (subst (λ (z : Schema). AsksFront (map (asks (length (leaves c.args.plan.now))) (target_wanted z.dimensions (cores_of c.in-Ok.put) (listed (g.S.ChunkSource.state c.input_of.new.source) c.args.target.now))) (g.S.ChunkSource.state c.input_of.new.source) (g.S.ChunkSource.state c.put_over_target.new.source)) c.requires.schema c.in_err-put_over_target-in-Ok.ensures.front),
    ) in
    on_err _ _ some

pub returns-in_ok-put_over_target-in-Ok-clause-asked : goal.returns-in_ok-put_over_target-in-Ok-clause-asked
returns-in_ok-put_over_target-in-Ok-clause-asked g c db tells =
    let old = g.S.ChunkSource.state c.args.source.now in
    let new = g.S.ChunkSource.state c.put_over_target.new.source in
    asked_there c.args.schema.now c.args.plan.now c.args.target.now old new (cores_of c.in-Ok.put) db (found_cores c.in_ok-put.field-0) (ap found_cores c.in-Ok.is) (c.in_ok-put.ensures.found db tells)
    (asked_then c.args.plan.now c.args.target.now c.args.schema.now.dimensions (cores_of c.in-Ok.put) old (g.S.ChunkSource.state c.input_of.new.source) new
    c.in_ok-put.ensures.kept c.in_ok-put.ensures.asked (subst (λ (z : Schema). (g.S.ChunkSource.state c.put_over_target.new.source).asked ≡ (g.S.ChunkSource.state c.input_of.new.source).asked ++ map (asks (length (leaves c.args.plan.now))) (target_wanted z.dimensions (cores_of c.in-Ok.put) (listed (g.S.ChunkSource.state c.input_of.new.source) c.args.target.now))) c.requires.schema c.in_ok-put_over_target-in-Ok.ensures.asked))

pub returns-in_ok-put_over_target-in-Ok-clause-only : goal.returns-in_ok-put_over_target-in-Ok-clause-only
returns-in_ok-put_over_target-in-Ok-clause-only g c =
    let plan = c.args.plan.now in
    let target = c.args.target.now in
    let old = g.S.ChunkSource.state c.args.source.now in
    let mid = g.S.ChunkSource.state c.input_of.new.source in
    let new = g.S.ChunkSource.state c.put_over_target.new.source in
    let dims = c.args.schema.now.dimensions in
    let kept = c.in_ok-put.ensures.kept in
    let before = c.in_ok-put.ensures.asked in (
      (cores_of c.in-Ok.put),
      asked_then plan target dims (cores_of c.in-Ok.put) old mid new kept before (subst (λ (z : Schema). (g.S.ChunkSource.state c.put_over_target.new.source).asked ≡ (g.S.ChunkSource.state c.input_of.new.source).asked ++ map (asks (length (leaves c.args.plan.now))) (target_wanted z.dimensions (cores_of c.in-Ok.put) (listed (g.S.ChunkSource.state c.input_of.new.source) c.args.target.now))) c.requires.schema c.in_ok-put_over_target-in-Ok.ensures.asked),
      counted_then plan target dims (cores_of c.in-Ok.put) old mid new kept before c.put_over_target.new.asking c.in_ok-put_over_target-in-Ok.ensures.over,
    )

pub returns-in-Err-clause-only : goal.returns-in-Err-clause-only
returns-in-Err-clause-only g c = ([], c.in_ok-put.ensures.asked, tt)

pub returns-in_ok-put_over_target-in-Ok-clause-counted : goal.returns-in_ok-put_over_target-in-Ok-clause-counted
returns-in_ok-put_over_target-in-Ok-clause-counted g c db tells =
    let old = g.S.ChunkSource.state c.args.source.now in
    let new = g.S.ChunkSource.state c.put_over_target.new.source in
    let target = c.args.target.now in
    counted_there c.args.schema.now c.args.plan.now target old new (cores_of c.in-Ok.put) db (found_cores c.in_ok-put.field-0) (ap found_cores c.in-Ok.is) (c.in_ok-put.ensures.found db tells)
    c.put_over_target.new.asking (version_rows (rows_of db) target.name target.version)
    (subst (λ (z : Schema). c.put_over_target.new.asking ≡ asking_put z.dimensions (cores_of c.in-Ok.put) (version_rows (rows_of db) target.name target.version)) c.requires.schema
    (c.in_ok-put_over_target-in-Ok.ensures.counted (rows_of db) ((c.in_ok-put.ensures.kept.tells (rows_of db)).1 tells)))

pub returns-in-Err-clause-asked : goal.returns-in-Err-clause-asked
returns-in-Err-clause-asked g c db tells = c.in_ok-put.ensures.asked

pub put_over_target-requires-clause-put : goal.put_over_target-requires-clause-put
put_over_target-requires-clause-put g c = (subst (λ (found : Result ChunkedArray Broken). IfOk found (IsToStore c.args.schema.now)) c.in-Ok.is c.in_ok-put.ensures.may).can

pub returns-in_ok-put_over_target-in-Ok-clause-valid : goal.returns-in_ok-put_over_target-in-Ok-clause-valid
returns-in_ok-put_over_target-in-Ok-clause-valid g c = c.in_ok-put_over_target-in-Ok.ensures.valid

pub returns-in_err-put_over_target-in-Ok-clause-kept : goal.returns-in_err-put_over_target-in-Ok-clause-kept
returns-in_err-put_over_target-in-Ok-clause-kept g c = keeps_on (g.S.ChunkSource.state c.args.source.now) (g.S.ChunkSource.state c.input_of.new.source) (g.S.ChunkSource.state c.put_over_target.new.source) c.in_ok-put.ensures.kept c.in_err-put_over_target-in-Ok.ensures.kept

pub returns-in-Err-clause-cause : goal.returns-in-Err-clause-cause
returns-in-Err-clause-cause g c = c.in_ok-put.ensures.cause

pub returns-in_err-put-clause-start : goal.returns-in_err-put-clause-start
returns-in_err-put-clause-start g c = c.in_err-put.ensures.start

pub put_over_target-requires-clause-schema : goal.put_over_target-requires-clause-schema
put_over_target-requires-clause-schema g c = (subst (λ (found : Result ChunkedArray Broken). IfOk found (IsToStore c.args.schema.now)) c.in-Ok.is c.in_ok-put.ensures.may).same ∙ sym c.requires.schema

pub returns-in-Err-clause-start : goal.returns-in-Err-clause-start
returns-in-Err-clause-start g c = c.in_ok-put.ensures.start

pub returns-in-Err-clause-kept : goal.returns-in-Err-clause-kept
returns-in-Err-clause-kept g c = c.in_ok-put.ensures.kept

pub returns-in_ok-put_over_target-in-Ok-clause-start : goal.returns-in_ok-put_over_target-in-Ok-clause-start
returns-in_ok-put_over_target-in-Ok-clause-start g c = c.in_ok-put_over_target-in-Ok.ensures.start ∙ c.in_ok-put.ensures.start

pub returns-in-Err-clause-told : goal.returns-in-Err-clause-told
returns-in-Err-clause-told g c db tells name newest =
    record { stores = c.in_ok-put.ensures.means db tells; answer = subst (IsFound (fitted c.args.schema.now c.args.plan.now db)) (ap found_cores c.in-Err.is) (c.in_ok-put.ensures.found db tells) }

pub returns-in_ok-put_over_target-in-Ok-clause-some : goal.returns-in_ok-put_over_target-in-Ok-clause-some
returns-in_ok-put_over_target-in-Ok-clause-some g c = tt

pub returns-in_err-put-clause-kept : goal.returns-in_err-put-clause-kept
returns-in_err-put-clause-kept g c = c.in_err-put.ensures.kept

pub returns-in_ok-put_over_target-in-Ok-clause-kept : goal.returns-in_ok-put_over_target-in-Ok-clause-kept
returns-in_ok-put_over_target-in-Ok-clause-kept g c = keeps_on (g.S.ChunkSource.state c.args.source.now) (g.S.ChunkSource.state c.input_of.new.source) (g.S.ChunkSource.state c.put_over_target.new.source) c.in_ok-put.ensures.kept c.in_ok-put_over_target-in-Ok.ensures.kept

pub returns-in_err-put_over_target-in-Ok-clause-start : goal.returns-in_err-put_over_target-in-Ok-clause-start
returns-in_err-put_over_target-in-Ok-clause-start g c = c.in_err-put_over_target-in-Ok.ensures.start ∙ c.in_ok-put.ensures.start

pub returns-in_ok-put_over_target-in-Ok-clause-is_of : goal.returns-in_ok-put_over_target-in-Ok-clause-is_of
returns-in_ok-put_over_target-in-Ok-clause-is_of g c = subst (λ (z : Schema). IsOf z false c.in_ok-put_over_target-in-Ok.field-0) c.requires.schema c.in_ok-put_over_target-in-Ok.ensures.is_of

pub put_over_target-requires-clause-reads : goal.put_over_target-requires-clause-reads
put_over_target-requires-clause-reads g c = reads_still (g.S.ChunkSource.state c.args.source.now) (g.S.ChunkSource.state c.input_of.new.source) c.args.target.now c.in_ok-put.ensures.kept c.requires.reads

pub returns-in_ok-put_over_target-in-Ok-clause-front : goal.returns-in_ok-put_over_target-in-Ok-clause-front
returns-in_ok-put_over_target-in-Ok-clause-front g c = tt

pub returns-in_ok-put_over_target-in-Ok-clause-cause : goal.returns-in_ok-put_over_target-in-Ok-clause-cause
returns-in_ok-put_over_target-in-Ok-clause-cause g c = c.in_ok-put_over_target-in-Ok.ensures.cause ∙ c.in_ok-put.ensures.cause

pub returns-in_ok-put_over_target-in-Ok-clause-told : goal.returns-in_ok-put_over_target-in-Ok-clause-told
returns-in_ok-put_over_target-in-Ok-clause-told g c db tells name newest =
    answers_insert db name c.args.schema.now c.args.plan.now (found_cores c.in_ok-put.field-0) (cores_of c.in-Ok.put) c.in_ok-put_over_target-in-Ok.field-0 (c.in_ok-put.ensures.means db tells) (c.in_ok-put.ensures.found db tells) (ap found_cores c.in-Ok.is)
    (version_rows (rows_of db) c.args.target.now.name c.args.target.now.version) newest (subst (λ (z : Schema). IsInsertOf z (cores_of c.in-Ok.put) (version_rows (rows_of db) c.args.target.now.name c.args.target.now.version) c.in_ok-put_over_target-in-Ok.field-0) c.requires.schema
    (c.in_ok-put_over_target-in-Ok.ensures.told (rows_of db) ((c.in_ok-put.ensures.kept.tells (rows_of db)).1 tells)))

use Rattle.std.proofs.Common.{◌∙◌, ◌≡◌, List, [], subst, sym}
use Rattle.std.specs.Prelude.{IfOk}
use Rattle.array_geom.specs.declared.chunk.Chunk.{Chunk}
use Rattle.array_parts.specs.Cores.{cores_of}
use Rattle.changed_chunks.specs.Inner.Writes.{IsInsertOf}
use Rattle.changed_chunks.specs.Inner.Input.{stored_rows}
use Rattle.changed_chunks.proofs.chunks.versions.put_over_rows.Goals as goal

pub returns : goal.returns
returns c = c.touched.ensures (stored_rows c.args.put.now.schema c.args.old) (c.in_ok-version.ensures.rows ∙ c.in_ok-rows.ensures.rows)

pub returns-then-is_empty : goal.returns-then-is_empty
returns-then-is_empty c =
    let none : c.args.old ≡ [] = c.is_empty.ensures.0 c.if-is_empty.true in
    subst (λ (old : List Chunk). IfOk c.put_over_none.result (IsInsertOf c.args.put.now.schema (cores_of c.args.put.now) (stored_rows c.args.put.now.schema old))) (sym none) c.put_over_none.ensures

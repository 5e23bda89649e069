use Rattle.std.proofs.Common.{◌∙◌, [], ◌∷◌, sym, ap, subst}
use Rattle.std.specs.List.{AllByRecursion}
use Rattle.std.proofs.lemmas.List.{take_all}
use Rattle.array_rows.specs.Rows.{put_all}
use Rattle.array_geom.specs.declared.chunk.Chunk.{Chunk}
use Rattle.array_geom.specs.Geometry.{overlaps}
use Rattle.array_geom.specs.Link.{IsPart, numbers}
use Rattle.array_parts.specs.Cores.{cores_of}
use Rattle.changed_chunks.specs.Inner.Input.{stored_rows}
use Rattle.changed_chunks.proofs.ChunkLaws.{all_both}
use Rattle.changed_chunks.proofs.OverCores.{new_part, new_places, one_over}
use Rattle.changed_chunks.proofs.chunks.alone.chunks_over.Goals as goal

pub loop-new-init : goal.loop-new-init
loop-new-init c =
    let put = c.args.put.now in
    (ap numbers c.another-made.ensures, subst (AllByRecursion (IsPart put.schema.dimensions (overlaps put.schema.dimensions) (put_all (cores_of put) (stored_rows put.schema c.args.old.now)))) (sym c.another-made.ensures) tt)

pub chunk_over-requires-clause-places : goal.chunk_over-requires-clause-places
chunk_over-requires-clause-places c =
    new_places c.args.put.now c.requires.put c.args.old.now c.requires.old c.requires.none c.as_slice-new-items.result.now c.loop-new.new-index c.new-item.result c.as_slice-new-items.ensures c.loop-new-test.true c.new-item.is

pub chunk_over-requires-clause-part : goal.chunk_over-requires-clause-part
chunk_over-requires-clause-part c =
    new_part c.args.put.now c.requires.put c.args.old.now c.requires.old c.requires.none c.as_slice-new-items.result.now c.loop-new.new-index c.new-item.result c.as_slice-new-items.ensures c.loop-new-test.true c.new-item.is

pub loop-new-preserved : goal.loop-new-preserved
loop-new-preserved c =
    let put = c.args.put.now in
    let P : Chunk → Type 0 = IsPart put.schema.dimensions (overlaps put.schema.dimensions) (put_all (cores_of put) (stored_rows put.schema c.args.old.now)) in (
      one_over c.as_slice-new-items.result.now c.loop-new.made c.push.new.self c.loop-new.new-index c.new-item.result c.in_ok-chunk_over.field-0 c.loop-new-test.true c.new-item.is c.in_ok-chunk_over.ensures.number c.in_ok-push.ensures.ok c.loop-new.invariant.0,
      subst (AllByRecursion P) (sym c.in_ok-push.ensures.ok) (all_both P c.loop-new.made (c.in_ok-chunk_over.field-0 ∷ []) c.loop-new.invariant.1 (c.in_ok-chunk_over.ensures.part, tt)),
    )

pub returns-clause-numbers : goal.returns-clause-numbers
returns-clause-numbers c = c.loop-new.invariant.0 ∙ ap numbers (take_all c.loop-new.new-index c.as_slice-new-items.result.now c.loop-new-test.false ∙ c.as_slice-new-items.ensures)

pub returns-clause-parts : goal.returns-clause-parts
returns-clause-parts c = c.loop-new.invariant.1

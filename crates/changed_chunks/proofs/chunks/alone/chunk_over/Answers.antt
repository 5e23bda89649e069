use Rattle.std.proofs.Common.{◌≡◌, ◌<◌, length, false, refl, rules, sym}
use Rattle.std.proofs.lemmas.Fn.{always_returns_same}
use Rattle.array_geom.specs.Geometry.{overlaps}
use Rattle.array_geom.specs.Link.{IsPart, is_listed, number_order, numbers}
use Rattle.array_parts.specs.Cores.{cores_of}
use Rattle.array_rows.specs.Rows.{put_all}
use Rattle.chunk_source.proofs.SearchLaws.{is_found, same_at}
use Rattle.changed_chunks.specs.Inner.Input.{stored_rows}
use Rattle.changed_chunks.proofs.OverCores.{before_rows, below_part, below_places, if_number, if_same, over_nothing, refuted}
use Rattle.changed_chunks.proofs.chunks.alone.chunk_over.Goals as goal

pub put_over-requires-clause-number : goal.put_over-requires-clause-number
put_over-requires-clause-number c =
    let equal = c.in-Ok.ensures.position (λ chunk. number_order chunk.at.items c.args.new.now.at.items) (always_returns_same _ _ _ (λ a r g called. search rules)) in
    sym (same_at _ _ (rw (sym c.index-old-place.is) at (equal c.index-old-place.result)))

pub put_over-requires-clause-old_each : goal.put_over-requires-clause-old_each
put_over-requires-clause-old_each c =
    let near : c.in-Ok.place < length c.args.old.now = c.in-Ok.ensures.bound in
    (below_places c.args.put.now c.requires.put c.args.old.now c.requires.old c.requires.none c.in-Ok.place c.index-old-place.result near c.index-old-place.is).placed.each

pub put_over-requires-clause-new_each : goal.put_over-requires-clause-new_each
put_over-requires-clause-new_each c = c.requires.part.each

pub returns-in-Ok-clause-part : goal.returns-in-Ok-clause-part
returns-in-Ok-clause-part c =
    let put = c.args.put.now in
    let old = c.args.old.now in
    let below = c.index-old-place.result in
    let near : c.in-Ok.place < length old = c.in-Ok.ensures.bound in
    c.put_over.ensures.part put.schema (overlaps put.schema.dimensions) (stored_rows put.schema old) (cores_of put)
    (below_places put c.requires.put old c.requires.old c.requires.none c.in-Ok.place below near c.index-old-place.is).framed
    (before_rows put c.requires.put old c.requires.old c.requires.none).are_rows.rising c.requires.put.holds.rows_of.are_rows.rising
    (below_part put c.requires.put old c.requires.old c.requires.none c.in-Ok.place below near c.index-old-place.is) c.requires.part

pub returns-in-Ok-clause-number : goal.returns-in-Ok-clause-number
returns-in-Ok-clause-number c =
    let equal = c.in-Ok.ensures.position (λ chunk. number_order chunk.at.items c.args.new.now.at.items) (always_returns_same _ _ _ (λ a r g called. search rules)) in
    if_number c.index-old-place.result c.args.new.now c.put_over.result (same_at _ _ (rw (sym c.index-old-place.is) at (equal c.index-old-place.result))) c.put_over.ensures.number

pub returns-in-Err-clause-part : goal.returns-in-Err-clause-part
returns-in-Err-clause-part c =
    let put = c.args.put.now in
    let old = c.args.old.now in
    let new = c.args.new.now in
    let unlisted : is_listed new.at.items (numbers old) ≡ false = refuted (is_listed new.at.items (numbers old))
    (λ e. is_found old new.at.items _ c.requires.old.rising e (c.in-Err.ensures.position (λ chunk. number_order chunk.at.items new.at.items) (always_returns_same _ _ _ (λ a r g called. search rules)))) in
    if_same (IsPart put.schema.dimensions (overlaps put.schema.dimensions) (put_all (cores_of put) (stored_rows put.schema old))) new c.copy.result
    (over_nothing put c.requires.put old c.requires.old c.requires.none new c.requires.places c.requires.part unlisted) c.copy.ensures

pub returns-in-Err-clause-number : goal.returns-in-Err-clause-number
returns-in-Err-clause-number c = if_same (λ made. made.at ≡ c.args.new.now.at) c.args.new.now c.copy.result refl c.copy.ensures

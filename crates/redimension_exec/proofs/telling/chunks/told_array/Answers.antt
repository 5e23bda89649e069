use Rattle.redimension_exec.specs.Inner.Telling.{told_rows}
use Rattle.redimension_exec.proofs.TellLaws.{can_tell_all, parts_told, places_told, rows_told}
use Rattle.redimension_exec.proofs.telling.chunks.told_array.Goals as goal

pub told_chunks-requires : goal.told_chunks-requires
told_chunks-requires c = (c.requires.rows.made, can_tell_all c.args.target.now c.args.chunks c.requires.rows c.len-room.ensures.ordered c.args.none.now.items c.requires.margins)

pub array_of_parts-requires : goal.array_of_parts-requires
array_of_parts-requires c = places_told c.args.target.now c.args.chunks c.requires.rows c.len-room.ensures.ordered c.args.none.now.items c.requires.margins c.in_ok-told.told c.in_ok-told.ensures

pub with_overlaps-requires : goal.with_overlaps-requires
with_overlaps-requires c =
    let can = c.requires.rows in (
      told_rows c.args.target.now can.made,
      c.in_ok-array.ensures.array (told_rows c.args.target.now can.made) (rows_told c.args.target.now c.args.chunks can c.len-room.ensures.ordered)
          (parts_told c.args.target.now c.args.chunks can c.len-room.ensures.ordered c.args.none.now.items c.requires.margins c.in_ok-told.told c.in_ok-told.ensures),
    )

pub returns-clause-array : goal.returns-clause-array
returns-clause-array c = λ can.
    c.with_overlaps.ensures.array (told_rows c.args.target.now can.made)
    (c.in_ok-array.ensures.array (told_rows c.args.target.now can.made) (rows_told c.args.target.now c.args.chunks can c.len-room.ensures.ordered)
    (parts_told c.args.target.now c.args.chunks can c.len-room.ensures.ordered c.args.none.now.items c.requires.margins c.in_ok-told.told c.in_ok-told.ensures))

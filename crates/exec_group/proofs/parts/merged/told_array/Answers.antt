use Rattle.std.proofs.Common.{sym, subst}
use Rattle.array_rows.specs.Arrays.{AreRowsOf}
use Rattle.group_rows.specs.Told.{AreRowsOfSets}
use Rattle.group_rows.proofs.ToldLaws.{if_ok, told_rows, rows_of_target}
use Rattle.exec_group.proofs.parts.merged.told_array.Goals as goal

pub assemble-requires-clause-rows : goal.assemble-requires-clause-rows
assemble-requires-clause-rows c =
    let can = c.requires.sets in
    let target = c.args.target.now in
    subst (AreRowsOf target) (sym c.as_slice.ensures)
    (rows_of_target can.gs can.attributes target can.sets c.args.groups.groups c.in_ok-rows.rows c.requires.valid can.groups_of
    (told_rows can.gs can.attributes target can.sets c.args.groups.groups c.in_ok-rows.rows c.in_ok-rows.ensures can.groups_of can.typed can.cells) can.typed can.cells can.kinds c.requires.room)

pub returns-clause-array : goal.returns-clause-array
returns-clause-array c = λ can.
    if_ok c.assemble.result c.assemble.ensures.array
    (λ array is. record {
      rows = c.as_slice.result.now;
      told = subst (AreRowsOfSets can.gs can.sets) (sym c.as_slice.ensures) (told_rows can.gs can.attributes c.args.target.now can.sets c.args.groups.groups c.in_ok-rows.rows c.in_ok-rows.ensures can.groups_of can.typed can.cells);
      is = is;
    })

use Rattle.std.proofs.Common.{◌≤◌, ◌⊎◌, inl, inr, length, arith}
use Rattle.array_geom.specs.declared.chunk.Chunk.{Chunk}
use Rattle.chunk_cells.proofs.OverLaws.{goes_on, made_part}
use Rattle.chunk_cells.proofs.overlay.over.put_over.Goals as goal
use Rattle.chunk_cells.proofs.overlay.over.put_over.Goals.{then-putting-test+else-at_old-len, else-putting-test}

pub putting-preserved : goal.putting-preserved
putting-preserved c =
    let made0 : Chunk = record { at = c.copy_numbers.result; positions = c.another.result; cells = c.another-2.result } in
    record {
      goes = goes_on c.args.new.now c.args.old.now made0 c.putting.made c.put_next.new.made 0 0 c.putting.at_new c.putting.at_old c.in_ok-next_new.next_new c.in_ok-next_new.next_old c.putting.invariant.goes c.in_ok-next_new.ensures.made;
      new_inside = c.in_ok-next_new.ensures.new_inside;
      old_inside = c.in_ok-next_new.ensures.old_inside;
    }

pub returns-clause-part : goal.returns-clause-part
returns-clause-part c = λ schema margins old_rows new_rows framed rise_old rise_new part_old part_new.
    let made0 : Chunk = record { at = c.copy_numbers.result; positions = c.another.result; cells = c.another-2.result } in
    let end : (length c.args.new.now.positions ≤ c.putting.at_new) ⊎ (length c.args.old.now.positions ≤ c.putting.at_old) =
    elim c.putting-test.branch [ then-putting-test+else-at_old-len w ↦ inr (omega arith) | else-putting-test w ↦ inl (omega arith) ] in
    made_part schema margins c.args.new.now c.args.old.now made0 c.putting.made c.push_rest.new.made c.push_rest-2.new.made c.putting.at_new c.putting.at_old old_rows new_rows
    c.requires.number c.requires.new_each c.requires.old_each c.copy_numbers.ensures c.another.ensures c.another-2.ensures c.putting.invariant.goes end c.in_ok-push_rest.ensures c.in_ok-push_rest-2.ensures framed rise_old rise_new part_old part_new

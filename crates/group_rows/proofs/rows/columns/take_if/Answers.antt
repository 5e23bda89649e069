use Rattle.std.proofs.Common.{◌∙◌, sym}
use Rattle.std.proofs.lemmas.Bool.{false≢true}
use Rattle.std.proofs.lemmas.Int.{to_z-of_z}
use Rattle.group_rows.proofs.rows.columns.take_if.Goals as goal

pub returns-clause-stands : goal.returns-clause-stands
returns-clause-stands c = λ yes. simp (to_z-of_z, c.ranges.number) at c.take_number.ensures.stands

pub returns-then-not-wanted-clause-stands : goal.returns-then-not-wanted-clause-stands
returns-then-not-wanted-clause-stands c = λ yes. absurd (false≢true (sym c.if-not-wanted.true ∙ yes))

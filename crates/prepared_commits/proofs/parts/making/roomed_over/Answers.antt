use Rattle.std.proofs.Common.{◌∙◌, true, sym}
use Rattle.prepared_commits.specs.Parts.{is_short}
use Rattle.prepared_commits.proofs.Making.{names_kept}
use Rattle.prepared_commits.proofs.parts.making.roomed_over.Goals as goal

pub make_room-requires-clause-room : goal.make_room-requires-clause-room
make_room-requires-clause-room c = c.requires.room

pub make_room-requires-clause-cause : goal.make_room-requires-clause-cause
make_room-requires-clause-cause c = c.requires.cause

pub made_over-requires-clause-allow : goal.made_over-requires-clause-allow
made_over-requires-clause-allow c = c.requires.allow

pub made_over-requires-clause-comes : goal.made_over-requires-clause-comes
made_over-requires-clause-comes c = c.requires.comes

pub made_over-requires-clause-written : goal.made_over-requires-clause-written
made_over-requires-clause-written c = c.requires.written

pub made_over-requires-clause-newest : goal.made_over-requires-clause-newest
made_over-requires-clause-newest c = c.requires.newest

pub made_over-requires-clause-needed : goal.made_over-requires-clause-needed
made_over-requires-clause-needed c = c.requires.needed

pub made_over-requires-clause-names : goal.made_over-requires-clause-names
made_over-requires-clause-names c =
    c.requires.names ∙ sym (names_kept (is_short c.args.needed c.args.ledger.now) c.args.ledger.now c.make_room.new.ledger c.in-Ok.ensures.left)

pub made_over-requires-clause-enough : goal.made_over-requires-clause-enough
made_over-requires-clause-enough c = c.in-Ok.ensures.full

pub returns-in-Err-made_over-clause-left : goal.returns-in-Err-made_over-clause-left
returns-in-Err-made_over-clause-left c = (true, c.in-Ok.ensures.left)

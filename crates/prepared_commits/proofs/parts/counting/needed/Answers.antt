use Rattle.std.proofs.Common.{◌≡◌, IfOk, subst, sym}
use Rattle.page_chain.specs.declared.slots.slots.slots.Target.{Target}
use Rattle.prepared_commits.specs.Needs.{needs_by}
use Rattle.prepared_commits.proofs.parts.counting.needed.Goals as goal

pub needed_for_record-requires-clause-names : goal.needed_for_record-requires-clause-names
needed_for_record-requires-clause-names c = c.requires.names

pub needed_for_record-requires-clause-comes : goal.needed_for_record-requires-clause-comes
needed_for_record-requires-clause-comes c = c.requires.comes

pub needed_for_record-requires-clause-written : goal.needed_for_record-requires-clause-written
needed_for_record-requires-clause-written c = c.requires.written

pub needed_for_record-requires-clause-newest : goal.needed_for_record-requires-clause-newest
needed_for_record-requires-clause-newest c = c.requires.newest

pub needed_for_base-requires-clause-names : goal.needed_for_base-requires-clause-names
needed_for_base-requires-clause-names c = c.requires.names

pub needed_for_base-requires-clause-comes : goal.needed_for_base-requires-clause-comes
needed_for_base-requires-clause-comes c = c.requires.comes

pub needed_for_base-requires-clause-written : goal.needed_for_base-requires-clause-written
needed_for_base-requires-clause-written c = c.requires.written

pub needed_for_base-requires-clause-newest : goal.needed_for_base-requires-clause-newest
needed_for_base-requires-clause-newest c = c.requires.newest

pub returns-in-Record : goal.returns-in-Record
returns-in-Record c =
    subst (λ (t : Target). IfOk c.needed_for_record.result (λ count. count ≡ needs_by t c.args.catalog.now c.args.newest.now c.args.change.now c.args.written.now)) (sym c.in-Record.is)
    c.needed_for_record.ensures

use Rattle.std.proofs.Common.{◌∙◌, Some, ap, length, sym}
use Rattle.std.specs.Option.{is_some}
use Rattle.prepared_commits.proofs.Making.{none_for, ready_for}
use Rattle.prepared_commits.proofs.parts.ready.ready_version.Goals as goal

pub returns-in_ok-ready-in-Some-clause-ready : goal.returns-in_ok-ready-in-Some-clause-ready
returns-in_ok-ready-in-Some-clause-ready c =
    let ready = c.in_ok-ready-in-Some in
    ready_for c.args.names.now c.args.change.now (length c.args.table.now.rows) ready.field-0 c.changed_name-name.result.now c.next_of-version.result
    c.changed_name-name.ensures c.next_of-version.ensures ready.ensures.name ready.ensures.version ready.ensures.room

pub returns-in_ok-ready-in-Some-clause-directory : goal.returns-in_ok-ready-in-Some-clause-directory
returns-in_ok-ready-in-Some-clause-directory c = (λ i. Some (c.in_ok-ready-in-Some.ensures.directory i)) ∙ sym c.in-Some.is

pub returns-in-None-clause-ready : goal.returns-in-None-clause-ready
returns-in-None-clause-ready c =
    none_for c.args.names.now c.args.change.now (length c.args.table.now.rows) (sym (ap is_some c.in-None.is) ∙ c.requires)

pub returns-in-None-clause-directory : goal.returns-in-None-clause-directory
returns-in-None-clause-directory c = sym c.in-None.is

use Rattle.std.proofs.Common.{◌∙◌, IsTrue, ap, subst, sym}
use Rattle.logical_plan.specs.declared.names.Names.{Names}
use Rattle.chunk_map.specs.Entries.{AreRising}
use Rattle.plan_changes.specs.Allowed.{names_allow}
use Rattle.version_catalog.specs.Catalogs.{names_in}
use Rattle.event_core.specs.History.{catalogue_at, names_at}
use Rattle.store_ledger.specs.Ledger.{history}
use Rattle.prepared_commits.specs.Layouts.{IsLayout}
use Rattle.prepared_commits.specs.Needs.{needs_by}
use Rattle.prepared_commits.specs.Parts.{free_pages, newest_at}
use Rattle.prepared_commits.proofs.Comes.{directory_comes}
use Rattle.prepared_commits.proofs.Making.{prepared_as}
use Rattle.prepared_commits.proofs.parts.making.made_over.Goals as goal

pub laid_over-requires-clause-names : goal.laid_over-requires-clause-names
laid_over-requires-clause-names c = c.requires.allow

pub laid_over-requires-clause-comes : goal.laid_over-requires-clause-comes
laid_over-requires-clause-comes c = c.requires.comes

pub laid_over-requires-clause-written : goal.laid_over-requires-clause-written
laid_over-requires-clause-written c = c.requires.written

pub laid_over-requires-clause-newest : goal.laid_over-requires-clause-newest
laid_over-requires-clause-newest c =
    subst (λ (n : Names). AreRising (newest_at n c.args.table.now.rows c.args.place c.args.change).entries) c.requires.names c.requires.newest

pub laid_over-requires-clause-needed : goal.laid_over-requires-clause-needed
laid_over-requires-clause-needed c =
    c.requires.needed
    ∙ ap (λ (n : Names). needs_by c.args.target c.args.catalog.now (newest_at n c.args.table.now.rows c.args.place c.args.change) c.args.change c.args.written)
    c.requires.names

pub laid_over-requires-clause-enough : goal.laid_over-requires-clause-enough
laid_over-requires-clause-enough c = c.requires.enough

pub prepared_by-requires-clause-names : goal.prepared_by-requires-clause-names
prepared_by-requires-clause-names c = subst (λ (n : Names). IsTrue (names_allow n c.args.change)) c.requires.names c.requires.allow

pub prepared_by-requires-clause-comes : goal.prepared_by-requires-clause-comes
prepared_by-requires-clause-comes c =
    let ledger = c.args.ledger.now in
    let names = names_at ledger.base (history ledger) in
    directory_comes c.args.target c.args.sequence c.args.catalog.now (catalogue_at ledger.base (history ledger)) (newest_at names c.args.table.now.rows c.args.place c.args.change)
    c.args.change c.args.written (free_pages ledger) c.in-Ok.layout c.in-Ok.ensures
    ∙ c.requires.comes

pub returns-in-Ok : goal.returns-in-Ok
returns-in-Ok c =
    let ledger = c.args.ledger.now in
    let catalogue = catalogue_at ledger.base (history ledger) in
    let names = names_in c.args.catalog.now in
    prepared_as c.args.target c.args.sequence c.args.catalog.now (newest_at names c.args.table.now.rows c.args.place c.args.change) _ c.args.change c.args.written
    c.args.session ledger c.in-Ok.layout c.prepared_by.result
    (subst (λ (n : Names). IsLayout c.args.target c.args.sequence c.args.catalog.now catalogue (newest_at n c.args.table.now.rows c.args.place c.args.change)
    c.args.change c.args.written (free_pages ledger) c.in-Ok.layout) (sym c.requires.names) c.in-Ok.ensures)
    c.prepared_by.ensures

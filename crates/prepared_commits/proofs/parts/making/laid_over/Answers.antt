use Rattle.std.proofs.Common.{◌≡◌, ◌∙◌, ◌≤◌, length, IfOk, ap, subst, sym}
use Rattle.std.specs.Option.{option_copied}
use Rattle.chunk_map.specs.Entries.{AreRising}
use Rattle.chunk_map.specs.declared.directory.Directory.{Directory}
use Rattle.logical_plan.specs.declared.names.Names.{Names}
use Rattle.event_core.specs.History.{catalogue_at, names_at}
use Rattle.store_ledger.specs.Ledger.{history}
use Rattle.prepared_commits.specs.Layouts.{IsLayout}
use Rattle.prepared_commits.specs.Needs.{needs_by, or_empty}
use Rattle.prepared_commits.specs.Parts.{free_pages, newest_at}
use Rattle.prepared_commits.proofs.parts.making.laid_over.Goals as goal

pub layout_over-requires-clause-names : goal.layout_over-requires-clause-names
layout_over-requires-clause-names c = c.requires.names

pub layout_over-requires-clause-comes : goal.layout_over-requires-clause-comes
layout_over-requires-clause-comes c = c.requires.comes

pub layout_over-requires-clause-written : goal.layout_over-requires-clause-written
layout_over-requires-clause-written c = c.requires.written

pub layout_over-requires-clause-newest : goal.layout_over-requires-clause-newest
layout_over-requires-clause-newest c =
    let e : or_empty (option_copied c.newest_at-newest.result) ≡ newest_at (names_at c.args.ledger.now.base (history c.args.ledger.now)) c.args.table.now.rows c.args.place c.args.change.now
    = ap or_empty c.newest_at-newest.ensures ∙ ap (λ (n : Names). newest_at n c.args.table.now.rows c.args.place c.args.change.now) (c.names.ensures) in
    subst (λ (d : Directory). AreRising d.entries) (sym e) c.requires.newest

pub layout_over-requires-clause-needed : goal.layout_over-requires-clause-needed
layout_over-requires-clause-needed c =
    let e : or_empty (option_copied c.newest_at-newest.result) ≡ newest_at (names_at c.args.ledger.now.base (history c.args.ledger.now)) c.args.table.now.rows c.args.place c.args.change.now
    = ap or_empty c.newest_at-newest.ensures ∙ ap (λ (n : Names). newest_at n c.args.table.now.rows c.args.place c.args.change.now) (c.names.ensures) in
    c.requires.needed ∙ ap (λ (d : Directory). needs_by c.args.target c.args.catalog.now d c.args.change.now c.args.written) (sym e)

pub layout_over-requires-clause-enough : goal.layout_over-requires-clause-enough
layout_over-requires-clause-enough c =
    let free : c.as_slice-2.result.now ≡ free_pages c.args.ledger.now = c.as_slice-2.ensures ∙ c.free.ensures.free in
    subst (λ fs. c.args.needed ≤ length fs) (sym free) c.requires.enough

pub returns : goal.returns
returns c =
    let e : or_empty (option_copied c.newest_at-newest.result) ≡ newest_at (names_at c.args.ledger.now.base (history c.args.ledger.now)) c.args.table.now.rows c.args.place c.args.change.now
    = ap or_empty c.newest_at-newest.ensures ∙ ap (λ (n : Names). newest_at n c.args.table.now.rows c.args.place c.args.change.now) (c.names.ensures) in
    let free : c.as_slice-2.result.now ≡ free_pages c.args.ledger.now = c.as_slice-2.ensures ∙ c.free.ensures.free in
    let catalogue : c.as_slice.result.now ≡ catalogue_at c.args.ledger.now.base (history c.args.ledger.now) = c.as_slice.ensures ∙ c.catalogue.ensures.catalogue in
    let newest = newest_at (names_at c.args.ledger.now.base (history c.args.ledger.now)) c.args.table.now.rows c.args.place c.args.change.now in
    let cs = catalogue_at c.args.ledger.now.base (history c.args.ledger.now) in
    subst (λ fs. IfOk c.layout_over.result (IsLayout c.args.target c.args.sequence c.args.catalog.now cs newest c.args.change.now c.args.written fs)) free
    (subst (λ l. IfOk c.layout_over.result (IsLayout c.args.target c.args.sequence c.args.catalog.now l newest c.args.change.now c.args.written c.as_slice-2.result.now)) catalogue
    (subst (λ (d : Directory). IfOk c.layout_over.result (IsLayout c.args.target c.args.sequence c.args.catalog.now c.as_slice.result.now d c.args.change.now c.args.written
    c.as_slice-2.result.now)) e c.layout_over.ensures))

use Rattle.std.proofs.Common.{◌≡◌, ◌∙◌, IfOk, ap, subst, sym}
use Rattle.std.specs.Option.{option_copied}
use Rattle.chunk_map.specs.Entries.{AreRising}
use Rattle.chunk_map.specs.declared.directory.Directory.{Directory}
use Rattle.logical_plan.specs.declared.names.Names.{Names}
use Rattle.version_catalog.specs.Catalogs.{names_in}
use Rattle.prepared_commits.specs.Needs.{needs_by, or_empty}
use Rattle.prepared_commits.specs.Parts.{newest_at}
use Rattle.prepared_commits.proofs.Making.{rising_numbers}
use Rattle.prepared_commits.proofs.parts.making.counted_over.Goals as goal

pub needed_over-requires-clause-names : goal.needed_over-requires-clause-names
needed_over-requires-clause-names c = c.requires.allow

pub needed_over-requires-clause-comes : goal.needed_over-requires-clause-comes
needed_over-requires-clause-comes c = c.requires.comes

pub needed_over-requires-clause-written : goal.needed_over-requires-clause-written
needed_over-requires-clause-written c = rising_numbers c.args.written.now c.requires.written

pub needed_over-requires-clause-newest : goal.needed_over-requires-clause-newest
needed_over-requires-clause-newest c =
    let e : or_empty (option_copied c.newest_at-newest.result) ≡ newest_at (names_in c.args.catalog.now) c.args.table.now.rows c.args.place c.args.change.now
    = ap or_empty c.newest_at-newest.ensures ∙ ap (λ (n : Names). newest_at n c.args.table.now.rows c.args.place c.args.change.now) (c.names.ensures ∙ sym c.requires.names) in
    subst (λ (d : Directory). AreRising d.entries) (sym e) c.requires.newest

pub returns : goal.returns
returns c =
    let e : or_empty (option_copied c.newest_at-newest.result) ≡ newest_at (names_in c.args.catalog.now) c.args.table.now.rows c.args.place c.args.change.now
    = ap or_empty c.newest_at-newest.ensures ∙ ap (λ (n : Names). newest_at n c.args.table.now.rows c.args.place c.args.change.now) (c.names.ensures ∙ sym c.requires.names) in
    subst (λ (d : Directory). IfOk c.needed_over.result (λ count. count ≡ needs_by c.args.target c.args.catalog.now d c.args.change.now c.args.written.now)) e
    c.needed_over.ensures

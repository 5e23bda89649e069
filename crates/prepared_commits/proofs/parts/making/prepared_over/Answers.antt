use Rattle.std.proofs.Common.{◌≡◌, ◌∙◌, false, length, IfOk, ap, subst, sym, refl}
use Rattle.chunk_map.specs.Entries.{AreRising}
use Rattle.version_catalog.specs.Catalogs.{names_in}
use Rattle.prepared_commits.specs.Needs.{needs_by}
use Rattle.prepared_commits.specs.Parts.{IsFullFor, IsLeft, IsPreparedAs, newest_at}
use Rattle.prepared_commits.proofs.parts.making.prepared_over.Goals as goal

pub counted_over-requires-clause-names : goal.counted_over-requires-clause-names
counted_over-requires-clause-names c = c.requires.names

pub counted_over-requires-clause-allow : goal.counted_over-requires-clause-allow
counted_over-requires-clause-allow c = c.requires.allow

pub counted_over-requires-clause-comes : goal.counted_over-requires-clause-comes
counted_over-requires-clause-comes c = c.requires.comes

pub counted_over-requires-clause-written : goal.counted_over-requires-clause-written
counted_over-requires-clause-written c = c.requires.written

pub roomed_over-requires-clause-names : goal.roomed_over-requires-clause-names
roomed_over-requires-clause-names c = c.requires.names

pub roomed_over-requires-clause-allow : goal.roomed_over-requires-clause-allow
roomed_over-requires-clause-allow c = c.requires.allow

pub roomed_over-requires-clause-comes : goal.roomed_over-requires-clause-comes
roomed_over-requires-clause-comes c = c.requires.comes

pub roomed_over-requires-clause-written : goal.roomed_over-requires-clause-written
roomed_over-requires-clause-written c = c.requires.written

pub roomed_over-requires-clause-room : goal.roomed_over-requires-clause-room
roomed_over-requires-clause-room c = c.requires.room

pub roomed_over-requires-clause-cause : goal.roomed_over-requires-clause-cause
roomed_over-requires-clause-cause c = c.requires.cause

pub roomed_over-requires-clause-needed : goal.roomed_over-requires-clause-needed
roomed_over-requires-clause-needed c = c.in-Ok.ensures

pub counted_over-requires-clause-newest : goal.counted_over-requires-clause-newest
counted_over-requires-clause-newest c =
    subst (λ es. AreRising (newest_at (names_in c.args.catalog.now) c.args.table.now.rows (length es) c.args.change).entries) (sym c.entries.ensures) c.requires.newest

pub roomed_over-requires-clause-newest : goal.roomed_over-requires-clause-newest
roomed_over-requires-clause-newest c =
    subst (λ es. AreRising (newest_at (names_in c.args.catalog.now) c.args.table.now.rows (length es) c.args.change).entries) (sym c.entries.ensures) c.requires.newest

pub returns-in-Ok-clause-left : goal.returns-in-Ok-clause-left
returns-in-Ok-clause-left c =
    let needed : c.in-Ok.needed ≡ needs_by c.args.target c.args.catalog.now (newest_at (names_in c.args.catalog.now) c.args.table.now.rows (length c.args.ledger.now.entries) c.args.change)
    c.args.change c.args.written
    = c.in-Ok.ensures ∙ ap (λ es. needs_by c.args.target c.args.catalog.now (newest_at (names_in c.args.catalog.now) c.args.table.now.rows (length es) c.args.change)
    c.args.change c.args.written) c.entries.ensures in
    subst (λ n. IsLeft n c.args.ledger.now c.roomed_over.result c.roomed_over.new.ledger) needed c.roomed_over.ensures.left

pub returns-in-Ok-clause-full : goal.returns-in-Ok-clause-full
returns-in-Ok-clause-full c =
    let needed : c.in-Ok.needed ≡ needs_by c.args.target c.args.catalog.now (newest_at (names_in c.args.catalog.now) c.args.table.now.rows (length c.args.ledger.now.entries) c.args.change)
    c.args.change c.args.written
    = c.in-Ok.ensures ∙ ap (λ es. needs_by c.args.target c.args.catalog.now (newest_at (names_in c.args.catalog.now) c.args.table.now.rows (length es) c.args.change)
    c.args.change c.args.written) c.entries.ensures in
    subst (λ n. IsFullFor n c.roomed_over.result c.roomed_over.new.ledger) needed c.roomed_over.ensures.full

pub returns-in-Ok-clause-ok : goal.returns-in-Ok-clause-ok
returns-in-Ok-clause-ok c =
    subst (λ es. IfOk c.roomed_over.result (IsPreparedAs c.args.target c.args.sequence c.args.catalog.now
    (newest_at (names_in c.args.catalog.now) c.args.table.now.rows (length es) c.args.change) (length c.args.table.now.rows) c.args.change c.args.written
    c.args.session c.roomed_over.new.ledger)) c.entries.ensures c.roomed_over.ensures.ok

pub returns-in-Err-clause-left : goal.returns-in-Err-clause-left
returns-in-Err-clause-left c = (false, refl)

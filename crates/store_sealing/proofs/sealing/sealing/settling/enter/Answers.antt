use Rattle.std.proofs.Common.{◌∙◌, ℕ, List, ap, length}
use Rattle.event_core.specs.declared.entry.Entry.TheVariants.{Commit}
use Rattle.event_core.specs.declared.entry.Entry.{Entry}
use Rattle.logical_plan.specs.declared.names.Names.{Names}
use Rattle.plan_changes.specs.declared.change.Change.{Change}
use Rattle.event_core.specs.History.{History, names_at}
use Rattle.store_ledger.specs.Ledger.{LedgerState, history}
use Rattle.store_ledger.proofs.Pins.{one_more}
use Rattle.store_versions.specs.declared.row.VersionRow.{VersionRow}
use Rattle.store_versions.specs.Rows.{directory_in, needed_rows, places_at, rows_after}
use Rattle.prepared_commits.proofs.Places.{places_are}
use Rattle.store_sealing.proofs.sealing.sealing.settling.enter.Goals as goal

pub returns-clause-place : goal.returns-clause-place
returns-clause-place c = ap (λ (es : List Entry). length es) c.entries.ensures

pub returns-clause-rows : goal.returns-clause-rows
returns-clause-rows c =
    let ledger = c.args.ledger.now in
    let rows = c.committed.new.self.rows in
    let places = places_at (history ledger) in
    let before = c.args.table.now.rows in
    c.forget.ensures
    ∙ ap (λ (ps : List ℕ). needed_rows ps rows) (places_are _ _ c.pins.ensures.pins)
    ∙ ap (λ (l : LedgerState). needed_rows (places_at (history l)) rows) c.put.ensures
    ∙ ap (λ (h : History). needed_rows (places_at h) rows) (one_more ledger.entries (Commit c.args.session c.args.commit.change c.args.commit.used))
    ∙ ap (λ (r : List VersionRow). needed_rows places r) c.committed.ensures
    ∙ ap (λ (names : Names). needed_rows places (rows_after names (length c.entries.result.now) c.change.result.now (directory_in c.args.version) before)) c.names.ensures
    ∙ ap (λ (change : Change). needed_rows places (rows_after (names_at ledger.base (history ledger)) (length c.entries.result.now) change (directory_in c.args.version) before)) c.change.ensures
    ∙ ap (λ (es : List Entry). needed_rows places (rows_after (names_at ledger.base (history ledger)) (length es) c.args.commit.change (directory_in c.args.version) before)) c.entries.ensures

use Rattle.std.proofs.Common.{◌≡◌, ◌∙◌, ◌+◌, ◌<◌, List, length, drop, ap, sym, subst}
use Rattle.event_core.specs.declared.entry.Entry.{Entry}
use Rattle.event_core.specs.History.{names_at}
use Rattle.array_store.specs.Fresh.{is_fresh}
use Rattle.logical_plan.specs.declared.names.Names.{Names}
use Rattle.store_ledger.specs.Ledger.{history}
use Rattle.array_store.proofs.FreshChanges.{fresh_since, place_within}
use Rattle.array_store.proofs.store.store.Store.fresh.Goals as goal

pub entries_behind-later-requires : goal.entries_behind-later-requires
entries_behind-later-requires g c =
    let entries : c.entries.result.now ≡ c.args.self.now.ledger.entries = c.entries.ensures ∙ ap (λ parts. parts.ledger.entries) c.self.view_is in
    subst (λ (es : List Entry). c.args.pinned.now.place < length es) (sym entries) (place_within c.args.self.now.ledger c.args.pinned.now c.requires)

pub returns-clause-same : goal.returns-clause-same
returns-clause-same g c =
    let ledger = c.args.self.now.ledger in
    let pinned = c.args.pinned.now in
    let change = c.args.change.now in
    let entries : c.entries.result.now ≡ ledger.entries = c.entries.ensures ∙ ap (λ parts. parts.ledger.entries) c.self.view_is in
    let later : c.entries_behind-later.result.now ≡ drop (pinned.place + 1) ledger.entries =
    c.entries_behind-later.ensures ∙ ap (drop (pinned.place + 1)) entries in
    let names : c.names.result.now ≡ names_at ledger.base (history ledger) =
    c.names.ensures ∙ ap (λ parts. names_at parts.ledger.base (history parts.ledger)) c.self.view_is in
    let told : c.is_fresh.result ≡ is_fresh (drop (pinned.place + 1) ledger.entries) (names_at ledger.base (history ledger)) pinned.names change =
    c.is_fresh.ensures
    ∙ ap (λ (es : List Entry). is_fresh es c.names.result.now pinned.names change) later
    ∙ ap (λ (ns : Names). is_fresh (drop (pinned.place + 1) ledger.entries) ns pinned.names change) names in
    λ ok later before e at. fresh_since ledger pinned change c.requires (sym told ∙ ok) later before e at

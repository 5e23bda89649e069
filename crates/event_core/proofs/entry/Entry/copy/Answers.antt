use Rattle.std.proofs.Common.{◌∙◌, ap, sym}
use Rattle.plan_changes.specs.declared.change.Change.{Change}
use Rattle.event_core.specs.declared.entry.Entry.TheVariants.{Commit}
use Rattle.event_core.specs.declared.entry.Used.{Used}
use Rattle.event_core.proofs.entry.Entry.copy.Goals as goal

pub returns-in-Pin : goal.returns-in-Pin
returns-in-Pin c = sym c.in-Pin.is

pub returns-in-Unpin : goal.returns-in-Unpin
returns-in-Unpin c = sym c.in-Unpin.is

pub returns-in_ok-copy-in-Commit : goal.returns-in_ok-copy-in-Commit
returns-in_ok-copy-in-Commit c =
    let entry = c.in-Commit in
    ap (λ (change : Change). Commit entry.session change c.in_ok-used-in-Commit.used) c.in_ok-copy-in-Commit.ensures
    ∙ ap (λ (used : Used). Commit entry.session entry.change used) c.in_ok-used-in-Commit.ensures ∙ sym entry.is

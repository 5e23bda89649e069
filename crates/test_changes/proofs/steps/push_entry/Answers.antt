use Rattle.std.proofs.Common.{IsTrue, subst}
use Rattle.std.proofs.lemmas.Bool.{and_parts}
use Rattle.event_core.specs.declared.entry.Entry.TheVariants.{Commit}
use Rattle.event_core.specs.Replay.{core_allows}
use Rattle.test_changes.proofs.steps.push_entry.Goals as goal

pub push_change-requires : goal.push_change-requires
push_change-requires c =
    let h : IsTrue (core_allows c.args.core.now (Commit c.in-Commit.session c.in-Commit.change c.in-Commit.used)) = subst (λ entry. IsTrue (core_allows c.args.core.now entry)) c.in-Commit.is c.requires in
    (and_parts _ _ (and_parts _ _ h).1).0

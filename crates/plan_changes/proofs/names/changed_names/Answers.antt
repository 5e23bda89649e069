use Rattle.std.proofs.Common.{subst, IsTrue}
use Rattle.std.proofs.lemmas.Bool.{and_parts}
use Rattle.plan_changes.specs.Allowed.{names_allow}
use Rattle.plan_changes.specs.declared.change.Change.TheVariants.{Store, Insert}
use Rattle.plan_changes.proofs.names.changed_names.Goals as goal

pub with_version-requires : goal.with_version-requires
with_version-requires c =
    let h : IsTrue (names_allow c.args.names (Store c.in-Store.name c.in-Store.schema c.in-Store.plan)) = subst (λ change. IsTrue (names_allow c.args.names change)) c.in-Store.is c.requires in
    c.in_ok-arrays-in-Store.ensures.number (and_parts _ _ (and_parts _ _ h).1).1

pub with_version-requires-in-Insert : goal.with_version-requires-in-Insert
with_version-requires-in-Insert c =
    let h : IsTrue (names_allow c.args.names (Insert c.in-Insert.name c.in-Insert.schema c.in-Insert.plan)) = subst (λ change. IsTrue (names_allow c.args.names change)) c.in-Insert.is c.requires in
    (and_parts _ _ h).1

use Rattle.std.proofs.Common.{◌∙◌, ℕ, List, ap}
use Rattle.plan_changes.specs.Changes.{newest_of}
use Rattle.store_versions.specs.Seen.{seen}
use Rattle.store_versions.specs.Versions.{directory_of}
use Rattle.prepared_commits.proofs.parts.counting.newest_at.Goals as goal

pub returns : goal.returns
returns c =
    let rows = seen c.args.place c.args.table.now.rows in
    c.directory_at.ensures
    ∙ ap (λ (version : ℕ). directory_of c.changed_name-name.result.now version rows) c.newest_of.ensures
    ∙ ap (λ (name : List ℕ). directory_of name (newest_of c.args.names.now.arrays name) rows) c.changed_name-name.ensures

use Rattle.std.proofs.Common.{◌∙◌, ap, sym}
use Rattle.std.specs.Option.{option_map}
use Rattle.store_versions.specs.declared.row.VersionRow.{VersionRow}
use Rattle.store_versions.proofs.Found.{found_seen}
use Rattle.store_versions.proofs.table.VersionTable.directory_at.Goals as goal

pub returns-in-Some : goal.returns-in-Some
returns-in-Some c = ap (option_map (λ (row : VersionRow). row.directory)) c.in-Some.ensures ∙ sym (found_seen c.args.name.now c.args.version c.args.place c.args.self.now.rows)

pub returns-in-None : goal.returns-in-None
returns-in-None c = ap (option_map (λ (row : VersionRow). row.directory)) c.in-None.ensures ∙ sym (found_seen c.args.name.now c.args.version c.args.place c.args.self.now.rows)

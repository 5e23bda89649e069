use Rattle.std.proofs.Common.{rules}
use Rattle.std.proofs.lemmas.Fn.{filter_same}
use Rattle.store_versions.specs.LeanRows.{is_needed}
use Rattle.store_versions.proofs.lean.lean.rows.forget.Goals as goal

pub returns-clause-rows : goal.returns-clause-rows
returns-clause-rows c = filter_same _ (is_needed c.args.pins.now) _ (λ x b f' k. search rules) _ _ c.retain.ensures.filtered

use Rattle.std.proofs.Common.{◌∙◌}
use Rattle.test_changes.proofs.Allowed.{is_base, all_allowed, first_allowed}
use Rattle.test_changes.proofs.steps.push_worked.Goals as goal

pub push_steps-told-requires-clause-base : goal.push_steps-told-requires-clause-base
push_steps-told-requires-clause-base c = is_base c.args.base.now c.requires.base

pub push_steps-told-requires-clause-allowed : goal.push_steps-told-requires-clause-allowed
push_steps-told-requires-clause-allowed c = all_allowed c.args.base.now _ c.requires.base (c.as_slice.ensures ∙ c.requires.entries)

pub push_at_once-requires-clause-base : goal.push_at_once-requires-clause-base
push_at_once-requires-clause-base c = is_base c.args.base.now c.requires.base

pub push_at_once-requires-clause-allowed : goal.push_at_once-requires-clause-allowed
push_at_once-requires-clause-allowed c =
    first_allowed c.args.base.now _ _ c.requires.base c.requires.entries (c.as_slice-2.ensures ∙ c.truncate.ensures)

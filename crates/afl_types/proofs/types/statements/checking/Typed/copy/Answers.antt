use Rattle.std.proofs.Common.{sym, ap, ◌∙◌}
use Rattle.afl_types.specs.declared.types.statements.checking.Typed.TheVariants.{Change, Query, Show, Versions}
use Rattle.afl_types.proofs.types.statements.checking.Typed.copy.Goals as goal

pub returns-in_ok-copy-in-Query : goal.returns-in_ok-copy-in-Query
returns-in_ok-copy-in-Query c = ap (λ plan. Query plan) c.in_ok-copy-in-Query.ensures ∙ sym c.in-Query.is

pub returns-in_ok-copy-in-Change : goal.returns-in_ok-copy-in-Change
returns-in_ok-copy-in-Change c = ap (λ change. Change change) c.in_ok-copy-in-Change.ensures ∙ sym c.in-Change.is

pub returns-in_ok-copy-in-Versions : goal.returns-in_ok-copy-in-Versions
returns-in_ok-copy-in-Versions c = ap (λ name. Versions name) c.in_ok-copy-in-Versions.ensures ∙ sym c.in-Versions.is

pub returns-in_ok-copy-in-Show : goal.returns-in_ok-copy-in-Show
returns-in_ok-copy-in-Show c = ap (λ name. Show name) c.in_ok-copy-in-Show.ensures ∙ sym c.in-Show.is

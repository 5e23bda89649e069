use Rattle.std.proofs.Common.{◌∙◌, ◌++◌, ap, not}
use Rattle.std.specs.List.{filter}
use Rattle.version_reaper.specs.PageSets.{holds}
use Rattle.event_core.specs.Inner.Known.{known_of}
use Rattle.event_core.proofs.Knowing.{unknown_is}
use Rattle.event_core.proofs.Reaping.{ok_goes_on}
use Rattle.event_core.proofs.commit.fresh_pages.Goals as goal

pub returns : goal.returns
returns c =
    ok_goes_on c.unknown_pages.result _ _
    (ap (λ known. filter (λ page. not (holds known page)) (c.args.used.now.version ++ c.args.used.now.catalogue))
    (c.in_ok-known.ensures ∙ c.in_ok-pages.ensures ∙ ap (λ name. known_of c.args.core.now.names c.args.core.now.pages c.args.core.now.catalogue name) c.changed_name.ensures)
    ∙ unknown_is c.args.core.now.names c.args.core.now.pages c.args.core.now.catalogue c.args.change.now c.args.used.now)
    c.unknown_pages.ensures

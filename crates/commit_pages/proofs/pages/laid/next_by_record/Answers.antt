use Rattle.std.proofs.Common.{ℕ, List, ◌++◌, ap, ◌∙◌}
use Rattle.file_meaning.specs.Changed.{after_change}
use Rattle.page_file.specs.declared.commits.placed.Placed.{Placed}
use Rattle.commit_pages.specs.declared.pages.laid.Next.{Next}
use Rattle.commit_pages.specs.Commits.{chain_in, record_bytes}
use Rattle.commit_pages.proofs.Results.{handed}
use Rattle.commit_pages.proofs.pages.laid.next_by_record.Goals as goal

pub next_of-requires-clause-names : goal.next_of-requires-clause-names
next_of-requires-clause-names c = c.requires.names

pub next_of-requires-clause-directory : goal.next_of-requires-clause-directory
next_of-requires-clause-directory c = c.requires.directory

pub recorded-requires-clause-names : goal.recorded-requires-clause-names
recorded-requires-clause-names c = c.requires.names

pub recorded-requires-clause-directory : goal.recorded-requires-clause-directory
recorded-requires-clause-directory c = c.requires.directory

pub returns-in-Ok : goal.returns-in-Ok
returns-in-Ok c =
    let bytes = record_bytes c.args.catalog.now c.args.change.now c.args.version.now.at in
    let next : Placed → List ℕ → Next = λ chain pages. record { chain = chain; catalog = after_change c.args.catalog.now c.args.change.now c.args.version.now.at; pages = pages } in
    let rest = c.in_ok-rest.rest.now in
    handed c.next_of.result _ _
    (ap (λ (chain : Placed). next chain c.in-Ok.all) c.in-Ok.ensures.chain
    ∙ ap (next (chain_in rest bytes)) c.in-Ok.ensures.pages
    ∙ ap (λ (rest : List ℕ). next (chain_in rest bytes) (c.args.catalogue.now ++ (chain_in rest bytes).pages)) c.in_ok-rest.ensures) c.next_of.ensures

use Rattle.std.proofs.Common.{◌∙◌, ap}
use Rattle.commit_pages.specs.declared.pages.laid.Laid.{Laid}
use Rattle.commit_pages.specs.declared.pages.laid.Next.{Next}
use Rattle.commit_pages.proofs.pages.laid.with_record.Goals as goal

pub returns-in-Ok : goal.returns-in-Ok
returns-in-Ok c =
    let version = c.args.version in
    let laid : Next → Laid = λ next. record {
      blobs = version.blobs;
      chain = next.chain;
      directory = version.directory;
      at = version.at;
      catalog = next.catalog;
      used = record { version = version.pages; catalogue = next.pages };
    } in
    c.joined.ensures ∙ ap laid c.in-Ok.ensures

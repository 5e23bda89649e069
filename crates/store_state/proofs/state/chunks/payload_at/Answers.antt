use Rattle.std.proofs.Common.{rules, ◌≡◌, ◌∙◌, List, Option, Some, ap, sym, subst}
use Rattle.std.specs.List.{find}
use Rattle.std.specs.Ordering.{is_eq}
use Rattle.array_geom.specs.Link.{number_order}
use Rattle.chunk_map.specs.declared.directory.DirEntry.{DirEntry}
use Rattle.chunk_map.specs.declared.directory.Directory.{Directory}
use Rattle.store_versions.specs.Seen.{seen}
use Rattle.store_versions.specs.Versions.{directory_of}
use Rattle.store_state.specs.Calls.{entry_in}
use Rattle.store_state.proofs.Finds.{entry_found}
use Rattle.chunk_map.specs.Entries.{AreRising}
use Rattle.store_state.specs.Inner.Searched.{IfRising}
use Rattle.store_state.proofs.state.chunks.payload_at.Goals as goal

pub returns-in-Some : goal.returns-in-Some
returns-in-Some c =
    let items = c.args.at.now.items in
    let directory = c.in-Some.directory.now in
    let is : directory_of c.args.leaf.now.name c.args.leaf.now.version (seen c.args.place c.args.table.now.rows) ≡ Some directory = search rules in
    c.entry_at.ensures
    ∙ ap (λ (entries : List DirEntry). find (λ entry. is_eq (number_order entry.at.items items)) entries) c.as_slice.ensures
    ∙ entry_found directory.entries items
    ∙ ap (λ (o : Option Directory). entry_in o items) (sym is)

pub entry_at-requires : goal.entry_at-requires
entry_at-requires c =
    let directory = c.in-Some.directory.now in
    let is : directory_of c.args.leaf.now.name c.args.leaf.now.version (seen c.args.place c.args.table.now.rows) ≡ Some directory = search rules in
    subst AreRising (sym c.as_slice.ensures) (subst IfRising is c.requires)

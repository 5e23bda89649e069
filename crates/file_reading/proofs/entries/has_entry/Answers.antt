use Rattle.std.proofs.Common.{rules, sym, ◌∙◌, ap}
use Rattle.std.proofs.lemmas.Fn.{always_returns_same}
use Rattle.array_geom.specs.Link.{number_order}
use Rattle.chunk_map.specs.declared.directory.DirEntry.{DirEntry}
use Rattle.file_meaning.specs.Opening.{is_same}
use Rattle.file_reading.proofs.SearchLaws.{found_once, not_found}
use Rattle.file_reading.proofs.entries.has_entry.Goals as goal

pub returns-in-Ok : goal.returns-in-Ok
returns-in-Ok c =
    let entry = c.args.entry.now in
    let found = c.index-entries-place.result in
    let equal = c.in-Ok.ensures.position (λ (other : DirEntry). number_order other.at.items entry.at.items) (always_returns_same _ _ _ (λ a r g called. search rules)) in
    c.is_same.ensures ∙ ap (is_same entry) c.index-entries-place.is ∙ sym (found_once c.args.entries.now entry c.in-Ok.place found c.requires c.in-Ok.ensures.bound (equal found))

pub returns-in-Err : goal.returns-in-Err
returns-in-Err c =
    let entry = c.args.entry.now in
    sym (not_found c.args.entries.now entry c.in-Err.field-0 c.requires
    (c.in-Err.ensures.position (λ (other : DirEntry). number_order other.at.items entry.at.items) (always_returns_same _ _ _ (λ a r g called. search rules))))

use Rattle.std.proofs.Common.{◌≡◌, ◌-◌}
use Rattle.file_items.specs.Items.{repeat}
use Rattle.file_items.proofs.Loop.{behind}
use Rattle.file_items.specs.Pages.{page_of, seen_nothing}
use Rattle.file_items.proofs.page_lists.reading.pages_from.Given as goal

abbrev pub invariant-loop-index : goal.invariant-loop-index
invariant-loop-index l = behind l.pages (repeat page_of seen_nothing (l.count - l._index) tt l.rest) ≡ repeat page_of seen_nothing l.count tt l.bytes

use Rattle.std.proofs.Common.{◌≡◌, ◌<◌, ◌||◌, ℕ, false, length, take, slice_index_or}
use Rattle.std.specs.List.{list_any}
use Rattle.event_core.specs.Pages.{has_page}
use Rattle.event_core.proofs.reap.add_pins.Given as goal

abbrev pub invariant-loop-pin : goal.invariant-loop-pin
invariant-loop-pin l = record {
  limit : length l.set ≡ length l.fn.set;
  pages : (p : ℕ) → p < length l.fn.set → slice_index_or l.set p false ≡ (slice_index_or l.fn.set p false || list_any (λ pin. has_page pin.pages p) (take l.pin-index l.pin-items));
}

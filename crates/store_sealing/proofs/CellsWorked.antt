-- The removal that is prepared for the worked store, written as far as that its slot wasn't closed for sure.
use Rattle.std.proofs.Common.{◌≡◌, inl, ℕ, List, [], ◌∷◌, refl, arith}
use Rattle.page_chain.proofs.Kept.{keeps_self}
use Rattle.page_chain.specs.Standing.{Holds, IsSound}
use Rattle.page_chain.specs.Steps.{doubted}
use Rattle.page_chain.specs.declared.slots.slots.slots.Slots.{Slots}
use Rattle.page_chain.proofs.Opening.{may_open}
use Rattle.page_file.specs.Moments.{IsKnown, IsUntouched}
use Rattle.event_core.specs.declared.entry.Entry.TheVariants.{Pin}
use Rattle.file_meaning.proofs.WorkedFiles.{file_stands}
use Rattle.file_meaning.specs.Inner.FileExample.{database, file}
use Rattle.store_ledger.specs.Ledger.{attempt}
use Rattle.prepared_commits.specs.At.{IsAt}
use Rattle.prepared_commits.specs.Standings.{BeganAs, with_entries}
use Rattle.prepared_commits.specs.Worked.{worked_keeping, worked_moment, worked_slots, worked_store}
use Rattle.prepared_commits.proofs.AtOn.{at_noted, at_pin}
use Rattle.store_sealing.specs.StepsLaws.{IsReady}
use Rattle.store_sealing.specs.StepsWorked.{pinned_store, prepared_removal, removal}
use Rattle.store_sealing.specs.Moves.{Writes}
use Rattle.store_sealing.specs.CellsWorked.{ACommitIsWritten}

at_pinned : IsAt worked_moment worked_store worked_keeping → IsAt worked_moment pinned_store worked_keeping
at_pinned x = at_noted worked_moment (with_entries (Pin 7 ∷ []) worked_store) worked_keeping (at_pin worked_moment worked_store worked_keeping x 7 refl)
    (record { session = 7; kind = attempt removal; after = 1 }) (inl (omega arith))

began : BeganAs (worked_moment tt).state database
began = record { honest = refl; file = file; tells = refl; stands = file_stands }

holds_doubted : (slots : Slots) (c : List ℕ) → Holds slots c → Holds (doubted slots) c
holds_doubted slots c x = record { roots = record { front = x.roots.front; current = x.roots.current; other = x.roots.other }; log = x.log }

sound_doubted : (seen : List ℕ) → IsSound worked_slots seen (worked_moment tt).may_leave → IsSound (doubted worked_slots) seen (worked_moment tt).may_leave
sound_doubted seen x = record {
  images = λ c left. holds_doubted worked_slots c (x.images c left);
  zeroed = tt;
  alone = tt;
  sure = λ e. x.sure refl;
  filled = tt;
}

untouched : (seen : List ℕ) → IsKnown worked_slots seen (worked_moment tt) → (c : List ℕ) → c ≡ file → IsUntouched 2 worked_slots (worked_moment tt).may_leave c
untouched seen known c left = ((c, left, keeps_self (2 ∷ []) c), may_open worked_slots c (known.sound.images c left))

writes : Writes worked_slots (doubted worked_slots) prepared_removal (worked_moment tt) (worked_moment tt)
writes = record {
  known = λ seen known. (seen, record { honest = known.honest; tells = known.tells; sound = sound_doubted seen known.sound });
  during = λ seen known. record { later = omega arith; each = λ c left. inl (untouched seen known c left); earlier = λ t c le left. inl left };
  same = record { name = refl; first = refl; honest = refl; later = omega arith; wants_later = omega arith };
}

pub commit_is_written : IsAt worked_moment worked_store worked_keeping → IsReady worked_moment pinned_store worked_keeping prepared_removal → ACommitIsWritten
commit_is_written x ready = record {
  written = record { ready = ready; cells = (at_pinned x).cells database began; began = began; writes = writes };
  stops = record { slots_are = refl; images = λ seen known c left. untouched seen known c left };
}

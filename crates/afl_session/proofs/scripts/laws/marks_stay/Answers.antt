use Rattle.std.proofs.Common.{◌≤◌, ℕ, refl, inl, inr, length, arith}
use Rattle.std.specs.Fmt.{digits}
use Rattle.snapshot_manager.specs.Told.{entries_in}
use Rattle.afl_session.proofs.InHistories.{marks_stay, sessions_stay}
use Rattle.afl_session.proofs.scripts.laws.marks_stay.Goals as goal

same_le : (n : ℕ) → n ≤ n
same_le n = omega arith

pub returns : goal.returns
unfolding digits
returns g c = record {
  stay = marks_stay g.D.Disk.moment;
  sessions = sessions_stay g.D.Disk.moment;
  worked = record {
    told = λ style origin events. record { start = refl; end = refl; reply = record { same = refl; words = inl (refl, refl) }; want = λ is. absurd (cc (is)) };
    wanting = λ style origin events. record {
      start = refl;
      end = refl;
      reply = record { same = refl; words = inr ((refl, refl), same_le (length (entries_in events)), same_le (length (entries_in events))) };
      want = λ is. refl;
    };
  };
}

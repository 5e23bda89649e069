-- Changes that sessions tried to commit, over more entries and more notes.
use Rattle.std.proofs.Common.{◌≡◌, ℕ, List, ◌∷◌, ◌++◌, length, Option, None, Some, IfSome, true, ap, arith}
use Rattle.std.proofs.lemmas.List.Elements.{Contains-append_left}
use Rattle.afl_outside.specs.Disk.{Moment}
use Rattle.plan_changes.specs.declared.change.Change.{Change}
use Rattle.plan_changes.specs.Databases.{Database}
use Rattle.event_core.specs.declared.entry.Entry.{Entry}
use Rattle.event_core.specs.declared.entry.Entry.TheVariants.{Pin, Unpin, Commit, Reap}
use Rattle.event_core.specs.History.{History}
use Rattle.store_versions.specs.Cores.{is_no_commit}
use Rattle.store_ledger.specs.declared.note.Note.{Note}
use Rattle.store_ledger.specs.Ledger.{attempt}
use Rattle.store_state.specs.Standings.{HaveStood, IsAttempt, StoodFor, WasTriedBy}

pub some_map : {A : Type 0} (P Q : A → Type 0) → ((x : A) → P x → Q x) → (o : Option A) → IfSome o P → IfSome o Q
some_map P Q f None is = tt
some_map P Q f (Some x) is = f x is

-- ---- entries

pub tried_on : (session : ℕ) (notes : List Note) (change : Change) (entry : Entry) (h : History) → is_no_commit entry ≡ true → WasTriedBy session notes h change
    → WasTriedBy session notes (entry ∷ h) change
tried_on session notes change (Pin own) h quiet x = record { since = Pin own ∷ x.since; start = x.start; part = ap (λ (rest : History). Pin own ∷ rest) x.part; noted = x.noted; still = x.still }
tried_on session notes change (Unpin own) h quiet x = record { since = Unpin own ∷ x.since; start = x.start; part = ap (λ (rest : History). Unpin own ∷ rest) x.part; noted = x.noted; still = x.still }
tried_on session notes change (Commit own other used) h quiet x = absurd cc
tried_on session notes change Reap h quiet x = record { since = Reap ∷ x.since; start = x.start; part = ap (λ (rest : History). Reap ∷ rest) x.part; noted = x.noted; still = x.still }

pub attempt_on : (db : Database) (notes : List Note) (entry : Entry) (h : History) → is_no_commit entry ≡ true → (change : Change) → IsAttempt db notes h change → IsAttempt db notes (entry ∷ h) change
attempt_on db notes (Pin own) h quiet change x = record { sound = x.sound; tried = (x.tried.0, tried_on x.tried.0 notes change (Pin own) h quiet x.tried.1) }
attempt_on db notes (Unpin own) h quiet change x = record { sound = x.sound; tried = (x.tried.0, tried_on x.tried.0 notes change (Unpin own) h quiet x.tried.1) }
attempt_on db notes (Commit own other used) h quiet change x = absurd cc
attempt_on db notes Reap h quiet change x = record { sound = x.sound; tried = (x.tried.0, tried_on x.tried.0 notes change Reap h quiet x.tried.1) }

stood_on : (entry : Entry) (db : Database) (notes : List Note) (least : ℕ) (h : History) (image : List ℕ) → StoodFor db notes least h image → StoodFor db notes least (entry ∷ h) image
stood_on entry db notes least h image x = record {
  later = entry ∷ x.later;
  before = x.before;
  part = ap (λ (rest : History). entry ∷ rest) x.part;
  enough = x.enough;
  more = x.more;
  tried = x.tried;
  stands = x.stands;
}

-- one more entry
pub have_stood_on : (entry : Entry) (now : Moment) (db : Database) (notes : List Note) (h : History) (least since : ℕ) → HaveStood now db notes h least since
    → HaveStood now db notes (entry ∷ h) least since
have_stood_on entry now db notes h least since x = record {
  gone = x.gone;
  made = omega (arith, x.made);
  images = λ image left. stood_on entry db notes least h image (x.images image left);
}

-- ---- notes

pub tried_noted : (session : ℕ) (notes more : List Note) (h : History) (change : Change) → WasTriedBy session notes h change → WasTriedBy session (notes ++ more) h change
tried_noted session notes more h change x = record {
  since = x.since;
  start = x.start;
  part = x.part;
  noted = Contains-append_left notes more (record { session = session; kind = attempt change; after = length x.start }) x.noted;
  still = x.still;
}

pub attempt_noted : (db : Database) (notes more : List Note) (h : History) (change : Change) → IsAttempt db notes h change → IsAttempt db (notes ++ more) h change
attempt_noted db notes more h change x = record { sound = x.sound; tried = (x.tried.0, tried_noted x.tried.0 notes more h change x.tried.1) }

stood_noted : (db : Database) (notes more : List Note) (least : ℕ) (h : History) (image : List ℕ) → StoodFor db notes least h image → StoodFor db (notes ++ more) least h image
stood_noted db notes more least h image x = record {
  later = x.later;
  before = x.before;
  part = x.part;
  enough = x.enough;
  more = x.more;
  tried = some_map (IsAttempt db notes x.before) (IsAttempt db (notes ++ more) x.before) (attempt_noted db notes more x.before) x.more x.tried;
  stands = x.stands;
}

-- more notes
pub have_stood_noted : (now : Moment) (db : Database) (notes more : List Note) (h : History) (least since : ℕ) → HaveStood now db notes h least since
    → HaveStood now db (notes ++ more) h least since
have_stood_noted now db notes more h least since x = record {
  gone = x.gone;
  made = x.made;
  images = λ image left. stood_noted db notes more least h image (x.images image left);
}

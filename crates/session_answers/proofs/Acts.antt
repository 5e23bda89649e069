-- The acts of a session under its pin, and the notes of its faults.
use Rattle.std.proofs.Common.{◌≡◌, ◌∙◌, ◌⊎◌, inl, inr, ℕ, Bool, true, false, not, ◌&&◌, nat_eq, List, [], ◌∷◌, ◌++◌, true≢false, refl, ap, sym, arith}
use Rattle.std.specs.List.{list_all}
use Rattle.std.proofs.lemmas.Bool.{and_from, and_parts, eqb-true}
use Rattle.std.proofs.lemmas.List.Elements.{Contains-append_left, Contains-append_right}
use Rattle.event_core.specs.declared.entry.Entry.TheVariants.{Pin, Unpin, Commit, Reap}
use Rattle.store_ledger.specs.declared.note.Note.{Note}
use Rattle.store_ledger.specs.declared.note.NoteKind.{NoteKind}
use Rattle.store_ledger.specs.declared.note.NoteKind.TheVariants.{Fault, Tried}
use Rattle.store_ledger.specs.Ledger.{is_fault, is_noted}
use Rattle.store_state.specs.declared.state.event.Event.{Event}
use Rattle.store_state.specs.declared.state.event.Event.TheVariants.{Entered, Acknowledged, Noted}
use Rattle.snapshot_manager.specs.Turns.{leaves_notes_of, leaves_pin_of}
use Rattle.session_answers.specs.Acts.{Act, Course, acts_for, acts_in, acts_of_note, begins, ends, tries, makes, nothing, looking, trying, making}
use Rattle.session_answers.specs.Replies.{HasFault}
use Rattle.snapshot_manager.specs.Start.{Start}
use Rattle.session_answers.proofs.ActsJoined.{acts_join}
use Rattle.session_sources.specs.Courses.{AddsOwn, IsFaultAtMost}
use Rattle.snapshot_manager.specs.Told.{ledger_of}
use Rattle.session_sources.proofs.CourseLaws.{courses_keep_notes}

-- ---- a statement does nothing between its pin and its unpin but try and make a commit

abbrev is_inner : Act → Bool
is_inner begins = false
is_inner ends = false
is_inner (tries change) = true
is_inner (makes change) = true

abbrev front_of : List Act → List Act
front_of [] = []
front_of (act ∷ []) = []
front_of (act ∷ next ∷ acts) = act ∷ front_of (next ∷ acts)

abbrev rest_of : List Act → List Act
rest_of [] = []
rest_of (act ∷ acts) = acts

front_is : (acts : List Act) → front_of (acts ++ ends ∷ []) ≡ acts
front_is [] = refl
front_is (act ∷ []) = refl
front_is (act ∷ next ∷ acts) = ap (λ (all : List Act). act ∷ all) (front_is (next ∷ acts))

inner_course : (course : Course) → list_all is_inner (front_of (rest_of (acts_for course))) ≡ true
inner_course nothing = refl
inner_course looking = refl
inner_course (trying change) = refl
inner_course (making change) = refl

inner_acts : (acts : List Act) (course : Course) → begins ∷ (acts ++ ends ∷ []) ≡ acts_for course → list_all is_inner acts ≡ true
inner_acts acts course e =
    let is : acts ≡ front_of (rest_of (acts_for course)) = sym (front_is acts) ∙ ap (λ (all : List Act). front_of (rest_of all)) e in
    ap (list_all is_inner) is ∙ inner_course course

noted_inner : (kind : NoteKind) (acts : List Act) → list_all is_inner (acts_of_note kind ++ acts) ≡ true → list_all is_inner acts ≡ true
noted_inner Fault acts e = e
noted_inner (Tried change) acts e = e

-- so its pin stays
acts_leave : (session : ℕ) (own : List Event) → list_all is_inner (acts_in own) ≡ true → list_all (leaves_pin_of session) own ≡ true
acts_leave session [] e = refl
acts_leave session (Entered (Pin other) ∷ own) e = absurd (true≢false (sym e))
acts_leave session (Entered (Unpin other) ∷ own) e = absurd (true≢false (sym e))
acts_leave session (Entered (Commit other change used) ∷ own) e = acts_leave session own e
acts_leave session (Entered Reap ∷ own) e = acts_leave session own e
acts_leave session (Acknowledged (Pin other) moment directory ∷ own) e = absurd (true≢false (sym e))
acts_leave session (Acknowledged (Unpin other) moment directory ∷ own) e = absurd (true≢false (sym e))
acts_leave session (Acknowledged (Commit other change used) moment directory ∷ own) e = acts_leave session own e
acts_leave session (Acknowledged Reap moment directory ∷ own) e = acts_leave session own e
acts_leave session (Noted note ∷ own) e = acts_leave session own (noted_inner note.kind (acts_in own) e)

-- ---- a fault under its pin that was not noted before is noted among its own events

abbrev Found : ℕ → List Event → Type 0
Found session own = HasFault session own ⊎ (list_all (leaves_notes_of is_fault session) own ≡ true)

found_later : (session : ℕ) (event : Event) (own : List Event) → leaves_notes_of is_fault session event ≡ true → Found session own → Found session (event ∷ own)
found_later session event own leaves (inl f) =
    inl (f.0, Contains-append_right (event ∷ []) own (Noted (record { session = session; kind = Fault; after = f.0 })) f.1)
found_later session event own leaves (inr all) = inr (and_from (leaves_notes_of is_fault session event) (list_all (leaves_notes_of is_fault session) own) leaves all)

note_is : (session : ℕ) (note : Note) → note.session ≡ session → note.kind ≡ Fault → note ≡ record { session = session; kind = Fault; after = note.after }
note_is session note s k =
    ap (λ (n : ℕ). record { session = n; kind = note.kind; after = note.after }) s
    ∙ ap (λ (kind : NoteKind). record { session = session; kind = kind; after = note.after }) k

at_note : (session : ℕ) (note : Note) (own : List Event) (b : Bool) (kind : NoteKind) → nat_eq note.session session ≡ b → note.kind ≡ kind → Found session own →
    Found session (Noted note ∷ own)
at_note session note own true Fault s k rest =
    let is : note ≡ record { session = session; kind = Fault; after = note.after } = note_is session note (eqb-true note.session session s) k in
    inl (note.after, Contains-append_left (Noted note ∷ []) own (Noted (record { session = session; kind = Fault; after = note.after })) (0, omega arith, ap (λ (n : Note). Noted n) is))
at_note session note own true (Tried change) s k rest =
    found_later session (Noted note) own
    (ap (λ (b : Bool). not (b && is_fault note.kind)) s ∙ ap (λ (kind : NoteKind). not (is_fault kind)) k) rest
at_note session note own false kind s k rest =
    found_later session (Noted note) own (ap (λ (b : Bool). not (b && is_fault note.kind)) s) rest

fault_or_left : (session : ℕ) (own : List Event) → list_all (leaves_pin_of session) own ≡ true → Found session own
fault_or_left session [] e = inr refl
fault_or_left session (Entered entry ∷ own) e =
    let p : (leaves_pin_of session (Entered entry) ≡ true) × (list_all (leaves_pin_of session) own ≡ true) =
    and_parts (leaves_pin_of session (Entered entry)) (list_all (leaves_pin_of session) own) e in
    found_later session (Entered entry) own p.0 (fault_or_left session own p.1)
fault_or_left session (Acknowledged entry moment directory ∷ own) e =
    let p : (leaves_pin_of session (Entered entry) ≡ true) × (list_all (leaves_pin_of session) own ≡ true) =
    and_parts (leaves_pin_of session (Entered entry)) (list_all (leaves_pin_of session) own) e in
    found_later session (Acknowledged entry moment directory) own p.0 (fault_or_left session own p.1)
fault_or_left session (Noted note ∷ own) e = at_note session note own (nat_eq note.session session) note.kind refl refl (fault_or_left session own e)

module _ {D : Type 0} (start : Start D) (session : ℕ) (own old new : List Event) (adds : AddsOwn session own old new)
    (untried : is_noted is_fault (ledger_of start old) session ≡ false) (noted : is_noted is_fault (ledger_of start new) session ≡ true) where
  found_own : Found session own → HasFault session own
  found_own (inl f) = f
  found_own (inr left) = absurd (true≢false (sym noted ∙ courses_keep_notes D start is_fault session own old new adds left ∙ untried))

  pub fault_is_own : (course : Course) → begins ∷ (acts_in own ++ ends ∷ []) ≡ acts_for course → HasFault session own
  fault_is_own course acts = found_own (fault_or_left session own (acts_leave session own (inner_acts (acts_in own) course acts)))

-- ---- a reading does nothing

pub note_acts : {D : Type 0} (start : Start D) (session : ℕ) (own new : List Event) → IsFaultAtMost (ledger_of start new) session own → acts_in own ≡ []
note_acts start session own new (inl none) = ap acts_in none
note_acts start session own new (inr one) = ap acts_in one.is

-- what comes behind events without acts does all
pub acts_behind : (before own : List Event) (course : Course) → acts_in before ≡ [] → begins ∷ (acts_in own ++ ends ∷ []) ≡ acts_for course →
    begins ∷ (acts_in (before ++ own) ++ ends ∷ []) ≡ acts_for course
acts_behind before own course none acts =
    ap (λ (all : List Act). begins ∷ (all ++ ends ∷ [])) (acts_join before own ∙ ap (λ (all : List Act). all ++ acts_in own) none) ∙ acts

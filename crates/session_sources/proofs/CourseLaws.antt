-- Courses of a session.
use Rattle.std.proofs.Common.{◌≡◌, ◌∙◌, ℕ, Bool, true, false, not, ◌&&◌, cond, List, [], ◌∷◌, ◌++◌, refl, ap, sym, subst, append-nil, append_assoc}
use Rattle.std.specs.List.{list_all}
use Rattle.std.proofs.lemmas.Bool.{and_from, and_parts}
use Rattle.std.proofs.lemmas.List.Elements.{filter-append}
use Rattle.turn_lock.specs.Owners.{is_owned_by, none_of}
use Rattle.store_ledger.specs.Ledger.{is_noted, IsOpenPin}
use Rattle.snapshot_manager.specs.Event.{Event}
use Rattle.snapshot_manager.specs.Events.{owner_of}
use Rattle.snapshot_manager.specs.Told.{ledger_of}
use Rattle.snapshot_manager.specs.Turns.{leaves_notes_of, leaves_pin_of, own_events}
use Rattle.snapshot_manager.proofs.Notes.{notes_outlast, others_leave_notes}
use Rattle.snapshot_manager.proofs.Sights.{others_leave_pins, pins_outlast}
use Rattle.snapshot_manager.proofs.Turning.{turns_add_own}
use Rattle.session_sources.specs.Laws.{CoursesAddOwn, CoursesJoin, CoursesKeepNotes, CoursesKeepPins, CoursesMayBeEmpty, TurnsAreCourses}

pub own_more : (session : ℕ) (old more : List Event) → own_events session (old ++ more) ≡ own_events session old ++ own_events session more
own_more session old more = filter-append (λ (event : Event). is_owned_by (owner_of event) session) old more

pub none_own : (session : ℕ) (others : List Event) → none_of owner_of session others ≡ true → own_events session others ≡ []
none_own session others e =
    ap (own_events session) (sym (append-nil others))
    ∙ turns_add_own session [] [] (others ++ []) (record { others = others; theirs = e; grown = refl })

pub turns_are_courses : TurnsAreCourses
turns_are_courses session own old new turn = record {
  more = turn.others ++ own;
  grown = turn.grown ∙ append_assoc old turn.others own;
  mine = own_more session turn.others own
      ∙ ap (λ (es : List Event). es ++ own_events session own) (none_own session turn.others turn.theirs);
}

pub courses_may_be_empty : CoursesMayBeEmpty
courses_may_be_empty session old = record { more = []; grown = sym (append-nil old); mine = refl }

pub courses_join : CoursesJoin
courses_join session first later old between new a b = record {
  more = a.more ++ b.more;
  grown = b.grown ∙ ap (λ (es : List Event). es ++ b.more) a.grown ∙ append_assoc old a.more b.more;
  mine = own_more session a.more b.more
      ∙ ap (λ (es : List Event). es ++ own_events session b.more) a.mine
      ∙ ap (λ (es : List Event). first ++ es) b.mine;
}

pub courses_add_own : CoursesAddOwn
courses_add_own session own old new a =
    ap (own_events session) a.grown ∙ own_more session old a.more ∙ ap (λ (es : List Event). own_events session old ++ es) a.mine

-- ---- what holds of each event of others and of a session's own holds of all

module _ (test : Event → Bool) (session : ℕ) (theirs : (event : Event) → none_of owner_of session (event ∷ []) ≡ true → list_all test (event ∷ []) ≡ true) where
  one_more : (b : Bool) (event : Event) (more : List Event) → is_owned_by (owner_of event) session ≡ b →
      list_all test (cond b (event ∷ own_events session more) (own_events session more)) ≡ true →
      (list_all test (own_events session more) ≡ true → list_all test more ≡ true) → list_all test (event ∷ more) ≡ true
  one_more true event more e all rest =
      let p : (test event ≡ true) × (list_all test (own_events session more) ≡ true) = and_parts (test event) (list_all test (own_events session more)) all in
      and_from (test event) (list_all test more) p.0 (rest p.1)
  one_more false event more e all rest =
      let free : none_of owner_of session (event ∷ []) ≡ true = ap (λ (b : Bool). not b && true) e in
      let p : (test event ≡ true) × (true ≡ true) = and_parts (test event) true (theirs event free) in
      and_from (test event) (list_all test more) p.0 (rest all)

  pub all_hold : (more : List Event) → list_all test (own_events session more) ≡ true → list_all test more ≡ true
  all_hold [] e = refl
  all_hold (event ∷ more) e = one_more (is_owned_by (owner_of event) session) event more refl e (all_hold more)

pub courses_keep_pins : (D : Type 0) → CoursesKeepPins D
courses_keep_pins D start own old new pinned a leaves o =
    let test : Event → Bool = leaves_pin_of pinned.session in
    let all : list_all test a.more ≡ true =
    all_hold test pinned.session (λ event. others_leave_pins pinned.session (event ∷ [])) a.more (ap (list_all test) a.mine ∙ leaves) in
    subst (λ (es : List Event). IsOpenPin (ledger_of start es) pinned) (sym a.grown) (pins_outlast D start old a.more pinned all o)

pub courses_keep_notes : (D : Type 0) → CoursesKeepNotes D
courses_keep_notes D start kinds session own old new a leaves =
    let test : Event → Bool = leaves_notes_of kinds session in
    let all : list_all test a.more ≡ true =
    all_hold test session (λ event. others_leave_notes kinds session (event ∷ [])) a.more (ap (list_all test) a.mine ∙ leaves) in
    ap (λ (es : List Event). is_noted kinds (ledger_of start es) session) a.grown ∙ notes_outlast D start old a.more session kinds all

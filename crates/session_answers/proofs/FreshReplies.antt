-- What a change is answered behind entries that leave it as it was.
use Rattle.std.proofs.Common.{◌≡◌, ◌∙◌, ℕ, zero, suc, inl, inr, List, [], ◌∷◌, ◌++◌, map, Option, None, Some, Ok, refl, ap, sym, subst}
use Rattle.std.specs.List.{AllByRecursion}
use Rattle.std.proofs.lemmas.Option.{none-some}
use Rattle.afl_outside.specs.Disk.{Moment}
use Rattle.afl_trees.specs.Term.{Term}
use Rattle.cell_values.specs.declared.datum.Broken.{Broken}
use Rattle.logical_plan.specs.Leaves.{leaves}
use Rattle.logical_plan.specs.Meaning.{version_rows}
use Rattle.logical_plan.specs.declared.parts.Leaf.{Leaf}
use Rattle.logical_plan.specs.declared.names.NameEntry.{NameEntry}
use Rattle.logical_plan.specs.declared.names.Names.{Names}
use Rattle.plan_changes.specs.declared.change.Change.{Change}
use Rattle.plan_changes.specs.declared.change.Change.TheVariants.{Create, Store, Insert, Remove, RemoveVersions}
use Rattle.plan_changes.specs.Changes.{newest_of, newest_or, next_or}
use Rattle.plan_changes.specs.Databases.{Database, Stored, fault_of_change, names_of, newest_in, rows_in, rows_of}
use Rattle.afl_types.specs.Checking.{check_of}
use Rattle.afl_types.specs.declared.types.statements.checking.Typed.TheVariants.{Change as AChange}
use Rattle.afl_types.specs.NamesLaws.{leaf_names}
use Rattle.event_core.specs.Cells.{at}
use Rattle.event_core.specs.declared.state.Core.{Core}
use Rattle.event_core.specs.History.{History, names_at}
use Rattle.array_store.specs.FreshLaws.{AreLeft, SameRoom}
use Rattle.array_store.specs.ChangesLeft.{IsLeft}
use Rattle.array_store.proofs.Fresh.{changes_mean_the_same, checks_stay}
use Rattle.array_store.proofs.Left.{array_stays, names_stay, rows_stay}
use Rattle.result_print.specs.Listings.{stored_line}
use Rattle.statement_replies.specs.declared.replies.replies.Reply.{Reply as Told}
use Rattle.statement_replies.specs.Reply.{traced}
use Rattle.statement_replies.specs.StatementKinds.{HasChangeKind, HasStatementKind, MayBreak}
use Rattle.statement_replies.specs.Statements.{Accepted, accepted, change_text, changed_or_broken, reply_to, reply_to_checked, text_alone}
use Rattle.statement_replies.specs.Traces.{change_lines, read_by}
use Rattle.statement_replies.proofs.Lines.{AreReadAlike, accepted_stays, change_lines_stay}
use Rattle.statement_replies.specs.declared.replies.style.Style.{Style}
use Rattle.store_state.specs.declared.state.event.Event.{Event}
use Rattle.store_state.specs.Calls.{history_at}
use Rattle.store_state.specs.Standings.{BeganAs}
use Rattle.array_store.specs.declared.store.start.Start.{Start}
use Rattle.array_store.specs.Told.{told}
use Rattle.session_answers.specs.Fresh.{AreLeftSince, FreshChangesAreSaid, IsNamedAt}
use Rattle.session_answers.specs.Replies.{Says, SaysChange}

last_holds : (P : List ℕ → Type 0) (xs : List (List ℕ)) (x : List ℕ) → AllByRecursion P (xs ++ x ∷ []) → P x
last_holds P [] x all = all.0
last_holds P (y ∷ xs) x all = last_holds P xs x all.1

leaves_hold : (P : List ℕ → Type 0) (all : List Leaf) (x : List ℕ) → AllByRecursion P (map (λ (leaf : Leaf). leaf.name) all ++ x ∷ []) → AllByRecursion (λ leaf. P leaf.name) all
leaves_hold P [] x holds = tt
leaves_hold P (leaf ∷ all) x holds = (holds.0, leaves_hold P all x holds.1)

-- ---- over names

abbrev numbered_text : List ℕ → Option NameEntry → List ℕ
numbered_text name entry = stored_line name (next_or entry)

same_text : (base : Core) (later h : History) (change : Change) → AreLeft later change → change_text (names_at base (later ++ h)) change ≡ change_text (names_at base h) change
same_text base later h (Create name schema) left = refl
same_text base later h (Store name schema plan) left = ap (numbered_text name) (names_stay base later h name (last_holds (IsLeft later) (leaf_names plan) name left))
same_text base later h (Insert name schema plan) left = ap (numbered_text name) (names_stay base later h name (last_holds (IsLeft later) (leaf_names plan) name left))
same_text base later h (Remove name) left = refl
same_text base later h (RemoveVersions name below) left = refl

same_read : (base : Core) (later h : History) (change : Change) → AreLeft later change → read_by (names_at base (later ++ h)) change ≡ read_by (names_at base h) change
same_read base later h (Create name schema) left = refl
same_read base later h (Store name schema plan) left = refl
same_read base later h (Insert name schema plan) left =
    ap (λ (entry : Option NameEntry). leaves plan ++ record { name = name; version = newest_or entry; schema = schema } ∷ [])
    (names_stay base later h name (last_holds (IsLeft later) (leaf_names plan) name left))
same_read base later h (Remove name) left = refl
same_read base later h (RemoveVersions name below) left = refl

-- the reply to an accepted change is of its kind over names that number its version the same
module _ (style : Style) (a b : Names) (reply : Told) where
  abbrev its : Change → Accepted
  its change = record { reply = reply; change = Some change }

  may_stay : (change : Change) → read_by b change ≡ read_by a change → change_text b change ≡ change_text a change
      → MayBreak style a change (its change) → MayBreak style b change (its change)
  may_stay change read text (inl is) = inl (accepted_stays style a b change (its change) read text is)
  may_stay change read text (inr e) = absurd (none-some change (sym (ap (λ (answer : Accepted). answer.change) e.1)))

  kind_stays : (change : Change) → read_by b change ≡ read_by a change → change_text b change ≡ change_text a change
      → HasChangeKind style a change (its change) → HasChangeKind style b change (its change)
  kind_stays (Create name schema) read text is = accepted_stays style a b (Create name schema) (its (Create name schema)) read text is
  kind_stays (Store name schema plan) read text is = may_stay (Store name schema plan) read text is
  kind_stays (Insert name schema plan) read text is = may_stay (Insert name schema plan) read text is
  kind_stays (Remove name) read text is = accepted_stays style a b (Remove name) (its (Remove name)) read text is
  kind_stays (RemoveVersions name below) read text is = accepted_stays style a b (RemoveVersions name below) (its (RemoveVersions name below)) read text is

broken_or_same : (a b : Names) (lines : List ℕ) (change : Change) (fault : Option Broken) → accepted a lines change ≡ accepted b lines change →
    changed_or_broken a lines change fault ≡ changed_or_broken b lines change fault
broken_or_same a b lines change None same = same
broken_or_same a b lines change (Some broken) same = refl

-- ---- the lines of what a change reads

version_stays : (db : Database) (later h : History) (name : List ℕ) (number : ℕ) → IsLeft later name
    → version_rows (rows_of (at db (later ++ h))) name number ≡ version_rows (rows_of (at db h)) name number
version_stays db later h name zero left = refl
version_stays db later h name (suc n) left = rows_stay db later h name left (suc n)

versions_stay : (db : Database) (later h : History) (all : List Leaf) → AllByRecursion (λ leaf. IsLeft later leaf.name) all
    → AllByRecursion (λ leaf. version_rows (rows_of (at db (later ++ h))) leaf.name leaf.version ≡ version_rows (rows_of (at db h)) leaf.name leaf.version) all
versions_stay db later h [] left = tt
versions_stay db later h (leaf ∷ all) left = (version_stays db later h leaf.name leaf.version left.0, versions_stay db later h all left.1)

module _ (base : Core) (db : Database) (later h : History) (here : names_of (at db h) ≡ names_at base h) (there : names_of (at db (later ++ h)) ≡ names_at base (later ++ h)) where
  newest_stays : (name : List ℕ) → IsLeft later name → newest_of (names_of (at db (later ++ h))).arrays name ≡ newest_of (names_of (at db h)).arrays name
  newest_stays name left =
      ap (λ (names : Names). newest_of names.arrays name) there ∙ ap newest_or (names_stay base later h name left) ∙ sym (ap (λ (names : Names). newest_of names.arrays name) here)

  read_alike : (change : Change) → AreLeft later change → AreReadAlike (at db (later ++ h)) (at db h) change
  read_alike (Create name schema) left = tt
  read_alike (Store name schema plan) left = versions_stay db later h (leaves plan) (leaves_hold (IsLeft later) (leaves plan) name left)
  read_alike (Insert name schema plan) left =
      let its : IsLeft later name = last_holds (IsLeft later) (leaf_names plan) name left in (
        versions_stay db later h (leaves plan) (leaves_hold (IsLeft later) (leaves plan) name left),
        (changes_mean_the_same db later h (Store name schema plan) left).1,
        ap (λ (o : Option Stored). rows_in o (newest_in o)) (array_stays db later h name its),
        newest_stays name its,
      )
  read_alike (Remove name) left = tt
  read_alike (RemoveVersions name below) left = tt

  lines_stay : (change : Change) → AreLeft later change → change_lines (at db (later ++ h)) change ≡ change_lines (at db h) change
  lines_stay change left = change_lines_stay (at db (later ++ h)) (at db h) change (read_alike change left)

-- ---- over histories

module _ (base : Core) (later h : History) (text : List ℕ) (tree : Term) (change : Change) (left : AreLeft later change) (room : SameRoom base later h)
    (typed : check_of tree text (names_at base h) ≡ Ok (AChange change)) where
  typed_later : check_of tree text (names_at base (later ++ h)) ≡ Ok (AChange change)
  typed_later = checks_stay base later h text tree change left room typed

  same_accepted : (lines : List ℕ) → accepted (names_at base (later ++ h)) lines change ≡ accepted (names_at base h) lines change
  same_accepted lines = ap (λ (told : List ℕ). record { reply = text_alone (told ++ lines); change = Some change }) (same_text base later h change left)

  module _ (style : Style) where
    kind_later : (reply : Told) → HasStatementKind style (names_at base h) (check_of tree text (names_at base h)) (record { reply = reply; change = Some change }) →
        HasStatementKind style (names_at base (later ++ h)) (check_of tree text (names_at base (later ++ h))) (record { reply = reply; change = Some change })
    kind_later reply k =
        subst (λ c. HasStatementKind style (names_at base (later ++ h)) c (record { reply = reply; change = Some change })) (sym typed_later)
        (kind_stays style (names_at base h) (names_at base (later ++ h)) reply change (same_read base later h change left) (same_text base later h change left)
        (subst (λ c. HasStatementKind style (names_at base h) c (record { reply = reply; change = Some change })) typed k))

    answer_there : (d : Database) (names : Names) → names_of d ≡ names → check_of tree text names ≡ Ok (AChange change) →
        reply_to style d text tree ≡ changed_or_broken names (traced style (change_lines d change)) change (fault_of_change d change)
    answer_there d names e c =
        ap (λ checked. reply_to_checked style d checked) (ap (λ (n : Names). check_of tree text n) e ∙ c)
        ∙ ap (λ (n : Names). changed_or_broken n (traced style (change_lines d change)) change (fault_of_change d change)) e

    answer_later : (db : Database) → names_of (at db h) ≡ names_at base h → names_of (at db (later ++ h)) ≡ names_at base (later ++ h) →
        reply_to style (at db (later ++ h)) text tree ≡ reply_to style (at db h) text tree
    answer_later db here there =
        let lines : List ℕ = traced style (change_lines (at db h) change) in
        answer_there (at db (later ++ h)) (names_at base (later ++ h)) there typed_later
        ∙ ap (λ (all : List ℕ). changed_or_broken (names_at base (later ++ h)) (traced style all) change (fault_of_change (at db (later ++ h)) change))
        (lines_stay base db later h here there change left)
        ∙ ap (λ (fault : Option Broken). changed_or_broken (names_at base (later ++ h)) lines change fault) (changes_mean_the_same db later h change left).0
        ∙ broken_or_same (names_at base (later ++ h)) (names_at base h) lines change (fault_of_change (at db h) change) (same_accepted lines)
        ∙ sym (answer_there (at db h) (names_at base h) here typed)

-- ---- at places

module _ {D : Type 0} (moment : D → Moment) (style : Style) (start : Start D) (events : List Event) (text : List ℕ) (tree : Term) (place other : ℕ) (change : Change)
    (since : AreLeftSince start events place other change) (here : IsNamedAt moment start events place) (there : IsNamedAt moment start events other)
    (says : SaysChange style moment start events text tree place change) where
  answer_at : (db : Database) → BeganAs (moment start.opened.disk).state db →
      reply_to style (at db (history_at (told start events) other)) text tree ≡ reply_to style (at db (history_at (told start events) place)) text tree
  answer_at db began =
      ap (λ (h : History). reply_to style (at db h) text tree) since.grown
      ∙ answer_later start.base since.later (history_at (told start events) place) text tree change since.left since.room says.typed style db (here db began)
      (sym (ap (λ (h : History). names_of (at db h)) since.grown) ∙ there db began ∙ ap (names_at start.base) since.grown)

  said_again : SaysChange style moment start events text tree other change
  said_again = record {
    typed = ap (λ (h : History). check_of tree text (names_at start.base h)) since.grown
        ∙ typed_later start.base since.later (history_at (told start events) place) text tree change since.left since.room says.typed;
    told = λ db began. ap (λ (answer : Accepted). answer.change) (answer_at db began) ∙ says.told db began;
  }

  replied_again : (reply : Told) → Says style moment start events text tree place (record { reply = reply; change = Some change }) →
      Says style moment start events text tree other (record { reply = reply; change = Some change })
  replied_again reply s = record {
    kind = subst (λ (h : History). HasStatementKind style (names_at start.base h) (check_of tree text (names_at start.base h)) (record { reply = reply; change = Some change })) (sym since.grown)
        (kind_later start.base since.later (history_at (told start events) place) text tree change since.left since.room says.typed style reply s.kind);
    told = λ db began. answer_at db began ∙ s.told db began;
  }

pub fresh_changes_are_said : {D : Type 0} (moment : D → Moment) → FreshChangesAreSaid moment
fresh_changes_are_said moment style start events text tree place other change since here there = (
  λ says. said_again moment style start events text tree place other change since here there says,
  λ reply says s. replied_again moment style start events text tree place other change since here there says reply s,
)

-- What a lean core stands for, entry by entry.
use Rattle.std.proofs.Common.{◌≡◌, ◌∙◌, ℕ, ◌+◌, ◌-◌, ◌<◌, ◌≤◌, Bool, true, false, not, ◌&&◌, ◌||◌, nat_eq, List, [], ◌∷◌, ◌++◌, map, refl, ap, sym, subst, arith}
use Rattle.std.specs.Prelude.{nat_le}
use Rattle.std.specs.List.{filter, list_all}
use Rattle.std.proofs.lemmas.Bool.{and_from, leb-true, le-leb}
use Rattle.std.proofs.lemmas.List.{map-append}
use Rattle.std.proofs.lemmas.List.Folds.{list_all-append}
use Rattle.plan_changes.specs.Names.{Names}
use Rattle.plan_changes.specs.declared.change.Change.{Change}
use Rattle.plan_changes.specs.Changes.{names_after, newest_of, name_of}
use Rattle.plan_changes.proofs.Maps.{all_weaker}
use Rattle.version_reaper.specs.PageSets.{holds, pages_below}
use Rattle.event_core.specs.declared.entry.Used.{Used}
use Rattle.event_core.specs.declared.entry.Entry.TheVariants.{Pin, Unpin, Commit, Reap}
use Rattle.event_core.specs.declared.state.VersionPages.{VersionPages}
use Rattle.event_core.specs.declared.state.CorePin.{CorePin}
use Rattle.event_core.specs.declared.state.Core.{Core}
use Rattle.event_core.specs.History.{is_pages_of}
use Rattle.event_core.specs.Pages.{is_newest, fresh_of}
use Rattle.event_core.specs.Ready.{ReadyFor, IsReadyOver}
use Rattle.event_core.specs.Replay.{core_after, is_core_live}
use Rattle.event_core.proofs.Tests.{map_filter, filter_agrees}
use Rattle.store_versions.specs.declared.lean.lean.pin.LeanPin.{LeanPin}
use Rattle.store_versions.specs.declared.lean.lean.row.Row.{Row}
use Rattle.store_versions.specs.LeanRows.{is_needed, standing, seen, rows_after, first_row}
use Rattle.store_versions.specs.States.{LeanState, pin_of, core_of, place_of, core_place}
use Rattle.store_versions.specs.Inner.Kept.{IsLean, IsPart}
use Rattle.store_versions.proofs.Lists.{all_left, map_among, any_agrees, any_filter}
use Rattle.store_versions.proofs.Seeing.{past_later, seen_now, first_stand, first_past, standing_after, seen_after, past_after, standing_needed, needed_see, past_needed}

-- a core of equal versions and pins
parts : (names : Names) (catalogue free : List ℕ) (limit n : ℕ) (vs ws : List VersionPages) (ps qs : List CorePin) → vs ≡ ws → ps ≡ qs →
    ◌≡◌ {A = Core} (record { names = names; pages = vs; catalogue = catalogue; pins = ps; free = free; limit = limit; entries = n })
    (record { names = names; pages = ws; catalogue = catalogue; pins = qs; free = free; limit = limit; entries = n })
parts names catalogue free limit n vs ws ps qs v p = λ i. record { names = names; pages = v i; catalogue = catalogue; pins = p i; free = free; limit = limit; entries = n }

-- ---- room

pub room_left : (capacity len now count room : ℕ) → capacity - len ≡ room → now ≡ capacity → count ≤ len + 1 → room ≤ (now - count) + 1
room_left capacity len now count room e same more = omega (arith, e, same, more)

pub room_there : (capacity len room : ℕ) → capacity - len ≡ room → 0 < room → len < capacity
room_there capacity len room e some = omega (arith, e, some)

-- ---- the beginning

pub first_core : (core : Core) → core.pins ≡ [] → core_of core.names (map first_row core.pages) core.catalogue [] core.free core.limit core.entries ≡ core
first_core core none = parts core.names core.catalogue core.free core.limit core.entries _ _ _ _ (first_stand core.pages) (sym none)

pub first_lean : (core : Core) → IsLean (map first_row core.pages) [] core.entries
first_lean core = record { past = first_past core.entries core.pages; placed = refl }

-- ---- pins and unpins

within_later : (n m : ℕ) → n ≤ m → (pins : List LeanPin) → list_all (λ pin. nat_le pin.place n) pins ≡ true → list_all (λ pin. nat_le pin.place m) pins ≡ true
within_later n m le pins all = all_weaker (λ (pin : LeanPin). nat_le pin.place n) (λ (pin : LeanPin). nat_le pin.place m)
    (λ pin p. let low : pin.place ≤ n = leb-true pin.place n p in le-leb pin.place m (omega arith)) pins all

pub later_lean : (rows : List Row) (pins : List LeanPin) (n : ℕ) → IsLean rows pins n → IsLean rows pins (n + 1)
later_lean rows pins n is = record { past = past_later n (n + 1) (omega arith) rows is.past; placed = within_later n (n + 1) (omega arith) pins is.placed }

pub pin_lean : (rows : List Row) (pins : List LeanPin) (n : ℕ) (pin : LeanPin) → IsLean rows pins n → pin.place ≡ n → IsLean rows (pins ++ pin ∷ []) (n + 1)
pin_lean rows pins n pin is at = record {
  past = past_later n (n + 1) (omega arith) rows is.past;
  placed = list_all-append (λ (p : LeanPin). nat_le p.place (n + 1)) pins (pin ∷ [])
      ∙ and_from (list_all (λ (p : LeanPin). nat_le p.place (n + 1)) pins) (nat_le pin.place (n + 1) && true) (within_later n (n + 1) (omega arith) pins is.placed)
      (and_from (nat_le pin.place (n + 1)) true (le-leb pin.place (n + 1) (omega (arith, at))) refl);
}

pub pin_core : (names : Names) (rows : List Row) (catalogue : List ℕ) (pins : List LeanPin) (free : List ℕ) (limit n session : ℕ) (pin : LeanPin) →
    IsLean rows pins n → pin_of rows pin ≡ record { session = session; place = n; names = names; pages = seen n rows } →
    core_of names rows catalogue (pins ++ pin ∷ []) free limit (n + 1) ≡ core_after (core_of names rows catalogue pins free limit n) (Pin session)
pin_core names rows catalogue pins free limit n session pin is at =
    parts names catalogue free limit (n + 1) _ _ _ _ refl
    (map-append (pin_of rows) pins (pin ∷ [])
    ∙ ap (λ (p : CorePin). map (pin_of rows) pins ++ p ∷ []) (at ∙ ap (λ (vs : List VersionPages). record { session = session; place = n; names = names; pages = vs }) (seen_now n rows is.past)))

pub unpin_lean : (rows : List Row) (pins : List LeanPin) (n session : ℕ) → IsLean rows pins n →
    IsLean (filter (is_needed (filter (λ pin. not (nat_eq pin.session session)) pins)) rows) (filter (λ pin. not (nat_eq pin.session session)) pins) (n + 1)
unpin_lean rows pins n session is = record {
  past = past_needed (n + 1) (filter (λ pin. not (nat_eq pin.session session)) pins) rows (past_later n (n + 1) (omega arith) rows is.past);
  placed = all_left (λ (pin : LeanPin). nat_le pin.place (n + 1)) (λ pin. not (nat_eq pin.session session)) pins (within_later n (n + 1) (omega arith) pins is.placed);
}

pub unpin_core : (names : Names) (rows : List Row) (catalogue : List ℕ) (pins : List LeanPin) (free : List ℕ) (limit n session : ℕ) →
    core_of names (filter (is_needed (filter (λ pin. not (nat_eq pin.session session)) pins)) rows) catalogue (filter (λ pin. not (nat_eq pin.session session)) pins) free limit (n + 1)
    ≡ core_after (core_of names rows catalogue pins free limit n) (Unpin session)
unpin_core names rows catalogue pins free limit n session =
    parts names catalogue free limit (n + 1) _ _ _ _ (standing_needed (filter (λ pin. not (nat_eq pin.session session)) pins) rows)
    (needed_see (λ pin vs. record { session = pin.session; place = pin.place; names = pin.names.value; pages = vs }) (filter (λ pin. not (nat_eq pin.session session)) pins) rows
    ∙ map_filter (pin_of rows) (λ pin. not (nat_eq pin.session session)) pins)

-- ---- commits

pub commit_lean : (names : Names) (rows : List Row) (pins : List LeanPin) (n : ℕ) (change : Change) (used : List ℕ) → IsLean rows pins n → IsLean (rows_after names n change used rows) pins (n + 1)
commit_lean names rows pins n change used is = record { past = past_after names n change used rows is.past; placed = within_later n (n + 1) (omega arith) pins is.placed }

pins_after : (names : Names) (rows : List Row) (pins : List LeanPin) (n : ℕ) (change : Change) (used : List ℕ) → IsLean rows pins n →
    map (pin_of (rows_after names n change used rows)) pins ≡ map (pin_of rows) pins
pins_after names rows pins n change used is =
    map_among (pin_of (rows_after names n change used rows)) (pin_of rows) (λ pin. nat_le pin.place n)
    (λ pin p. ap (λ (vs : List VersionPages). record { session = pin.session; place = pin.place; names = pin.names.value; pages = vs }) (seen_after names n change used rows pin.place (leb-true pin.place n p)))
    pins is.placed

pub commit_core : (names : Names) (rows : List Row) (catalogue : List ℕ) (pins : List LeanPin) (free : List ℕ) (limit n session : ℕ) (change : Change) (used : Used) → IsLean rows pins n →
    core_of (names_after names change) (rows_after names n change used.version rows) used.catalogue pins
    (filter (λ page. not (holds (fresh_of names (standing rows) catalogue change used) page)) free) limit (n + 1)
    ≡ core_after (core_of names rows catalogue pins free limit n) (Commit session change used)
commit_core names rows catalogue pins free limit n session change used is =
    parts (names_after names change) used.catalogue (filter (λ page. not (holds (fresh_of names (standing rows) catalogue change used) page)) free) limit (n + 1) _ _ _ _
    (standing_after names n change used.version rows) (pins_after names rows pins n change used.version is)

-- ---- the part by which fresh pages go

and_again : (b h : Bool) → (b && (b && h)) ≡ (b && h)
and_again true h = refl
and_again false h = refl

abbrev pub newest_alone : Names → List ℕ → List VersionPages → List VersionPages
newest_alone names name versions = filter (λ v. is_pages_of name v && nat_eq v.version (newest_of names.arrays name)) versions

newest_same : (names : Names) (versions : List VersionPages) (name : List ℕ) (page : ℕ) → is_newest names (newest_alone names name versions) name page ≡ is_newest names versions name page
newest_same names versions name page =
    any_filter (λ v. is_pages_of name v && nat_eq v.version (newest_of names.arrays name) && holds v.pages page) (λ v. is_pages_of name v && nat_eq v.version (newest_of names.arrays name)) versions
    ∙ any_agrees (λ v. (is_pages_of name v && nat_eq v.version (newest_of names.arrays name)) && (is_pages_of name v && nat_eq v.version (newest_of names.arrays name) && holds v.pages page))
    (λ v. is_pages_of name v && nat_eq v.version (newest_of names.arrays name) && holds v.pages page)
    (λ v. and_again (is_pages_of name v && nat_eq v.version (newest_of names.arrays name)) (holds v.pages page)) versions

pub fresh_same : (names : Names) (versions : List VersionPages) (catalogue : List ℕ) (change : Change) (used : Used) →
    fresh_of names (newest_alone names (name_of change) versions) catalogue change used ≡ fresh_of names versions catalogue change used
fresh_same names versions catalogue change used =
    filter_agrees (λ page. not (is_newest names (newest_alone names (name_of change) versions) (name_of change) page || holds catalogue page))
    (λ page. not (is_newest names versions (name_of change) page || holds catalogue page))
    (λ page. ap (λ (b : Bool). not (b || holds catalogue page)) (newest_same names versions (name_of change) page)) (used.version ++ used.catalogue)

-- ---- the calls, as the parts stand after them

pub new_lean : (core : Core) (rows : List Row) (pins : List LeanPin) → rows ≡ map first_row core.pages → pins ≡ [] → IsLean rows pins core.entries
new_lean core rows pins er ep =
    subst (λ (rs : List Row). IsLean rs pins core.entries) (sym er) (subst (λ (ps : List LeanPin). IsLean (map first_row core.pages) ps core.entries) (sym ep) (first_lean core))

pub new_core : (core : Core) (rows : List Row) (pins : List LeanPin) → core.pins ≡ [] → rows ≡ map first_row core.pages → pins ≡ [] →
    core_of core.names rows core.catalogue pins core.free core.limit core.entries ≡ core
new_core core rows pins none er ep =
    ap (λ (rs : List Row). core_of core.names rs core.catalogue pins core.free core.limit core.entries) er
    ∙ ap (λ (ps : List LeanPin). core_of core.names (map first_row core.pages) core.catalogue ps core.free core.limit core.entries) ep
    ∙ first_core core none

pub places_are : (rows : List Row) (pins : List LeanPin) → map place_of pins ≡ map core_place (map (pin_of rows) pins)
places_are rows [] = refl
places_are rows (pin ∷ pins) = ap (λ (ps : List (ℕ × ℕ)). (pin.session, pin.place) ∷ ps) (places_are rows pins)

pub pin_keeps : (rows : List Row) (pins qins : List LeanPin) (n : ℕ) (pin : LeanPin) → IsLean rows pins n → qins ≡ pins ++ pin ∷ [] → pin.place ≡ n → IsLean rows qins (n + 1)
pin_keeps rows pins qins n pin is eq at = subst (λ (ps : List LeanPin). IsLean rows ps (n + 1)) (sym eq) (pin_lean rows pins n pin is at)

pub pin_tells : (names : Names) (rows : List Row) (catalogue : List ℕ) (pins qins : List LeanPin) (free : List ℕ) (limit n session room : ℕ) (pin : LeanPin) (now : LeanState) →
    ◌≡◌ {A = LeanState} (record { core = core_of names rows catalogue pins free limit n; room = room }) now →
    IsLean rows pins n → qins ≡ pins ++ pin ∷ [] → pin.session ≡ session → pin.place ≡ n → pin.names.value ≡ names →
    core_of names rows catalogue qins free limit (n + 1) ≡ core_after now.core (Pin session)
pin_tells names rows catalogue pins qins free limit n session room pin now same is eq who at what =
    ap (λ (ps : List LeanPin). core_of names rows catalogue ps free limit (n + 1)) eq
    ∙ pin_core names rows catalogue pins free limit n session pin is
    (ap (λ (s : ℕ). record { session = s; place = pin.place; names = pin.names.value; pages = seen pin.place rows }) who
    ∙ ap (λ (p : ℕ). record { session = session; place = p; names = pin.names.value; pages = seen p rows }) at
    ∙ ap (λ (m : Names). record { session = session; place = n; names = m; pages = seen n rows }) what)
    ∙ ap (λ (s : LeanState). core_after s.core (Pin session)) same

pub unpin_keeps : (rows sows : List Row) (pins qins : List LeanPin) (n session : ℕ) → IsLean rows pins n →
    qins ≡ filter (λ pin. not (nat_eq pin.session session)) pins → sows ≡ filter (is_needed qins) rows → IsLean sows qins (n + 1)
unpin_keeps rows sows pins qins n session is eq es =
    subst (λ (ss : List Row). IsLean ss qins (n + 1)) (sym es)
    (subst (λ (ps : List LeanPin). IsLean (filter (is_needed ps) rows) ps (n + 1)) (sym eq) (unpin_lean rows pins n session is))

pub unpin_tells : (names : Names) (rows sows : List Row) (catalogue : List ℕ) (pins qins : List LeanPin) (free : List ℕ) (limit n session room : ℕ) (now : LeanState) →
    ◌≡◌ {A = LeanState} (record { core = core_of names rows catalogue pins free limit n; room = room }) now →
    qins ≡ filter (λ pin. not (nat_eq pin.session session)) pins → sows ≡ filter (is_needed qins) rows →
    core_of names sows catalogue qins free limit (n + 1) ≡ core_after now.core (Unpin session)
unpin_tells names rows sows catalogue pins qins free limit n session room now same eq es =
    ap (λ (ss : List Row). core_of names ss catalogue qins free limit (n + 1)) es
    ∙ ap (λ (ps : List LeanPin). core_of names (filter (is_needed ps) rows) catalogue ps free limit (n + 1)) eq
    ∙ unpin_core names rows catalogue pins free limit n session
    ∙ ap (λ (s : LeanState). core_after s.core (Unpin session)) same

pub reap_tells : (names : Names) (rows : List Row) (catalogue : List ℕ) (pins : List LeanPin) (free given : List ℕ) (limit n room : ℕ) (now : LeanState) →
    ◌≡◌ {A = LeanState} (record { core = core_of names rows catalogue pins free limit n; room = room }) now →
    given ≡ filter (λ page. not (is_core_live now.core page)) (pages_below now.core.limit) →
    core_of names rows catalogue pins given limit (n + 1) ≡ core_after now.core Reap
reap_tells names rows catalogue pins free given limit n room now same eq =
    ap (λ (fs : List ℕ). core_of names rows catalogue pins fs limit (n + 1)) eq
    ∙ ap (λ (s : LeanState). core_of names rows catalogue pins (filter (λ page. not (is_core_live s.core page)) (pages_below s.core.limit)) limit (n + 1)) (sym same)
    ∙ ap (λ (s : LeanState). core_after s.core Reap) same

pub ready_keeps : (lean now : LeanState) (ready : ReadyFor) (part : Core) (change : Change) (used : Used) (name : List ℕ) → lean ≡ now →
    ready ≡ record { core = part; change = change; used = used } → name ≡ name_of change →
    part ≡ record {
      names = now.core.names;
      pages = newest_alone now.core.names name now.core.pages;
      catalogue = now.core.catalogue;
      pins = [];
      free = [];
      limit = now.core.limit;
      entries = 0;
    } → (ready.core ≡ part) × IsPart lean.core ready.change ready.used part
ready_keeps lean now ready part change used name same for named is = (
  ap (λ (r : ReadyFor). r.core) for,
  subst (λ (l : LeanState). IsPart l.core ready.change ready.used part) (sym same)
      (subst (λ (r : ReadyFor). IsPart now.core r.change r.used part) (sym for) (record {
        names = ap (λ (p : Core). p.names) is;
        catalogue = ap (λ (p : Core). p.catalogue) is;
        fresh = ap (λ (p : Core). fresh_of p.names p.pages p.catalogue change used) is
            ∙ ap (λ (n : List ℕ). fresh_of now.core.names (newest_alone now.core.names n now.core.pages) now.core.catalogue change used) named
            ∙ fresh_same now.core.names now.core.pages now.core.catalogue change used;
        entries = ap (λ (p : Core). p.entries) is;
      })),
)

pub put_keeps : (names : Names) (rows sows : List Row) (pins : List LeanPin) (n : ℕ) (change : Change) (used : List ℕ) → IsLean rows pins n → sows ≡ rows_after names n change used rows → IsLean sows pins (n + 1)
put_keeps names rows sows pins n change used is es = subst (λ (ss : List Row). IsLean ss pins (n + 1)) (sym es) (commit_lean names rows pins n change used is)

-- the same fresh pages over the core as it is when the commit comes
fresh_over : (part core now : Core) (ready : ReadyFor) → IsPart core ready.change ready.used part → ready.core ≡ core → IsReadyOver ready now →
    fresh_of part.names part.pages part.catalogue ready.change ready.used ≡ fresh_of now.names now.pages now.catalogue ready.change ready.used
fresh_over part core now ready is of over =
    is.fresh ∙ ap (λ (c : Core). fresh_of c.names c.pages c.catalogue ready.change ready.used) (sym of)
    ∙ ap (λ (n : Names). fresh_of n ready.core.pages ready.core.catalogue ready.change ready.used) over.names
    ∙ ap (λ (vs : List VersionPages). fresh_of now.names vs ready.core.catalogue ready.change ready.used) over.pages
    ∙ ap (λ (ps : List ℕ). fresh_of now.names now.pages ps ready.change ready.used) over.catalogue

-- what a part makes of the pages that are free
abbrev pub with_free : List ℕ → Core → Core
with_free free part = record part { free = free }

put_over : (names : Names) (rows sows : List Row) (catalogue : List ℕ) (pins : List LeanPin) (free : List ℕ) (limit n session : ℕ) (part after core : Core) (ready : ReadyFor) →
    IsLean rows pins n → IsPart core ready.change ready.used part → ready.core ≡ core → IsReadyOver ready (core_of names rows catalogue pins free limit n) →
    after ≡ core_after (with_free free part) (Commit session ready.change ready.used) →
    sows ≡ rows_after part.names n ready.change ready.used.version rows →
    core_of after.names sows after.catalogue pins after.free limit (n + 1) ≡ core_after (core_of names rows catalogue pins free limit n) (Commit session ready.change ready.used)
put_over names rows sows catalogue pins free limit n session part after core ready is part_is of over made es =
    let same_names : part.names ≡ names = part_is.names ∙ ap (λ (c : Core). c.names) (sym of) ∙ over.names in
    let same_fresh : fresh_of part.names part.pages part.catalogue ready.change ready.used ≡ fresh_of names (standing rows) catalogue ready.change ready.used =
    fresh_over part core (core_of names rows catalogue pins free limit n) ready part_is of over in
    ap (λ (a : Core). core_of a.names sows a.catalogue pins a.free limit (n + 1)) made
    ∙ ap (λ (ss : List Row). core_of (names_after part.names ready.change) ss ready.used.catalogue pins
    (filter (λ page. not (holds (fresh_of part.names part.pages part.catalogue ready.change ready.used) page)) free) limit (n + 1)) es
    ∙ ap (λ (fs : List ℕ). core_of (names_after part.names ready.change) (rows_after part.names n ready.change ready.used.version rows) ready.used.catalogue pins
    (filter (λ page. not (holds fs page)) free) limit (n + 1)) same_fresh
    ∙ ap (λ (m : Names). core_of (names_after m ready.change) (rows_after m n ready.change ready.used.version rows) ready.used.catalogue pins
    (filter (λ page. not (holds (fresh_of names (standing rows) catalogue ready.change ready.used) page)) free) limit (n + 1)) same_names
    ∙ commit_core names rows catalogue pins free limit n session ready.change ready.used is

pub put_tells : (names : Names) (rows sows : List Row) (catalogue : List ℕ) (pins : List LeanPin) (free given : List ℕ) (limit n session room : ℕ) (part after core : Core) (change : Change) (used : Used)
    (commit : ReadyFor) (now : LeanState) →
    ◌≡◌ {A = LeanState} (record { core = core_of names rows catalogue pins free limit n; room = room }) now →
    ◌≡◌ {A = ReadyFor} (record { core = core; change = change; used = used }) commit →
    IsLean rows pins n → IsPart core change used part → IsReadyOver commit now.core → given ≡ free →
    after ≡ core_after (with_free given part) (Commit session change used) →
    sows ≡ rows_after part.names n change used.version rows →
    core_of after.names sows after.catalogue pins after.free limit (n + 1) ≡ core_after now.core (Commit session commit.change commit.used)
put_tells names rows sows catalogue pins free given limit n session room part after core change used commit now same for is part_is over took made es =
    let over_fields : IsReadyOver commit (core_of names rows catalogue pins free limit n) = subst (λ (s : LeanState). IsReadyOver commit s.core) (sym same) over in
    let over_all : IsReadyOver (record { core = core; change = change; used = used }) (core_of names rows catalogue pins free limit n) =
    subst (λ (r : ReadyFor). IsReadyOver r (core_of names rows catalogue pins free limit n)) (sym for) over_fields in
    put_over names rows sows catalogue pins free limit n session part after core (record { core = core; change = change; used = used }) is part_is refl over_all
    (made ∙ ap (λ (fs : List ℕ). core_after (with_free fs part) (Commit session change used)) took) es
    ∙ ap (λ (s : LeanState). core_after s.core (Commit session change used)) same
    ∙ ap (λ (r : ReadyFor). core_after now.core (Commit session r.change r.used)) for

-- Pages that await a reap, and how many reaps there are.
use Rattle.std.proofs.Common.{◌≡◌, ◌∙◌, ℕ, ◌+◌, ◌≤◌, ◌<◌, Bool, true, false, not, ◌&&◌, ◌||◌, nat_eq, if◌then◌else◌, List, [], ◌∷◌, ◌++◌, length, refl, ap, sym, subst, arith, append-nil, length-append}
use Rattle.std.specs.List.{filter, list_any}
use Rattle.std.proofs.lemmas.Bool.{eq-eqb, or_from, or_left, or_right}
use Rattle.std.proofs.lemmas.List.Elements.{filter-append}
use Rattle.std.proofs.lemmas.List.Folds.{list_any-append}
use Rattle.store_versions.specs.Change.{Change}
use Rattle.version_reaper.specs.PageSets.{holds, pages_below}
use Rattle.store_versions.specs.Used.{Used}
use Rattle.store_versions.specs.Entry.TheVariants.{Pin, Unpin, Commit, Reap}
use Rattle.store_versions.specs.Core.{Core}
use Rattle.event_core.specs.Allowed.{IsBase}
use Rattle.store_versions.specs.Bases.{commits}
use Rattle.store_versions.specs.History.{History, OpenPin, catalogue_at, open_pins, pages_at}
use Rattle.store_versions.specs.Pages.{free_at, has_page, is_awaiting, is_live, pin_names}
use Rattle.store_versions.proofs.Tests.{holds_filter}
use Rattle.store_ledger.specs.declared.note.Note.{Note}
use Rattle.store_ledger.specs.declared.note.NoteKind.TheVariants.{Fault}
use Rattle.store_ledger.specs.Ledger.{AreFew, LedgerState, MayReap, attempt, causes, history, is_tried, is_waiting, reaps, unpins}

-- ---- pages

kept_out : (f t h : Bool) → f ≡ (t && h) → h ≡ true → (not f && t) ≡ false
kept_out true t h e have = refl
kept_out false true true e have = absurd cc
kept_out false true false e have = absurd cc
kept_out false false h e have = refl

-- no page of a list passes a test and is none of those that the test keeps
none_left : (t : ℕ → Bool) (xs ys : List ℕ) → ((page : ℕ) → holds ys page ≡ true → holds xs page ≡ true) → list_any (λ page. not (holds (filter t xs) page) && t page) ys ≡ false
none_left t xs [] within = refl
none_left t xs (y ∷ ys) within =
    or_from (not (holds (filter t xs) y) && t y) (list_any (λ page. not (holds (filter t xs) page) && t page) ys)
    (kept_out (holds (filter t xs) y) (t y) (holds xs y) (holds_filter t xs y) (within y (or_left (nat_eq y y) (holds ys y) (eq-eqb y y refl))))
    (none_left t xs ys (λ page e. within page (or_right (nat_eq y page) (holds ys page) e)))

at_base : (base : Core) → IsBase base → is_waiting base [] ≡ false
at_base base b =
    ap (λ (free : List ℕ). list_any (λ page. not (holds free page) && not (is_live base [] page)) (pages_below base.limit)) b.free
    ∙ none_left (λ page. not (is_live base [] page)) (pages_below base.limit) (pages_below base.limit) (λ page e. e)

after_reap : (base : Core) (h : History) → is_waiting base (Reap ∷ h) ≡ false
after_reap base h = none_left (λ page. not (is_live base h page)) (pages_below base.limit) (pages_below base.limit) (λ page e. e)

any_step : (p q a b : Bool) → (p ≡ true → q ≡ true) → (a ≡ true → b ≡ true) → (p || a) ≡ true → (q || b) ≡ true
any_step true q a b f g e = or_left q b (f refl)
any_step false q a b f g e = or_right q b (g e)

any_more : (p q : ℕ → Bool) → ((x : ℕ) → p x ≡ true → q x ≡ true) → (xs : List ℕ) → list_any p xs ≡ true → list_any q xs ≡ true
any_more p q f [] e = e
any_more p q f (x ∷ xs) e = any_step (p x) (q x) (list_any p xs) (list_any q xs) (f x) (any_more p q f xs) e

fewer_live : (f a b c d e : Bool) → (not f && not (a || (b || (c || (d || e))))) ≡ true → (not f && not (a || (b || (c || d)))) ≡ true
fewer_live true a b c d e x = x
fewer_live false true b c d e x = x
fewer_live false false true c d e x = x
fewer_live false false false true d e x = x
fewer_live false false false false true e x = x
fewer_live false false false false false e x = refl

-- what awaits a reap behind a pin awaited it before
before_pin : (base : Core) (session : ℕ) (h : History) → is_waiting base (Pin session ∷ h) ≡ true → is_waiting base h ≡ true
before_pin base session h = any_more (is_awaiting base (Pin session ∷ h)) (is_awaiting base h) one (pages_below base.limit)
  where
    one : (page : ℕ) → is_awaiting base (Pin session ∷ h) page ≡ true → is_awaiting base h page ≡ true
    one page e =
        let begun : OpenPin = record { session = session; before = h } in
        fewer_live (holds (free_at base h) page) (nat_eq page 0) (holds (catalogue_at base h) page) (has_page (pages_at base h) page) (list_any (pin_names base page) (open_pins h))
        (list_any (pin_names base page) (begun ∷ []))
        (ap (λ (b : Bool). not (holds (free_at base h) page) && not (nat_eq page 0 || (holds (catalogue_at base h) page || (has_page (pages_at base h) page || b))))
        (sym (list_any-append (pin_names base page) (open_pins h) (begun ∷ []))) ∙ e)

-- ---- counts

abbrev one_if : Bool → ℕ
one_if b = if b then 1 else 0

at_most : (w : Bool) → one_if w ≤ 1
at_most true = omega arith
at_most false = omega arith

no_more : (w v : Bool) → (w ≡ true → v ≡ true) → one_if w ≤ one_if v
no_more true true f = omega arith
no_more true false f = absurd (let bad : false ≡ true = f refl in cc)
no_more false true f = omega arith
no_more false false f = omega arith

by_less : (r w v c : ℕ) → w ≤ v → r + v ≤ c → r + w ≤ c
by_less r w v c le few = omega (arith, le, few)

by_unpin : (r w v c u t : ℕ) → v ≤ 1 → r + w ≤ c + u + t → r + v ≤ c + (u + 1) + t
by_unpin r w v c u t le few = omega (arith, le, few)

by_commit : (r w v c u t : ℕ) → v ≤ 1 → r + w ≤ c + u + t → r + v ≤ c + 1 + u + t
by_commit r w v c u t le few = omega (arith, le, few)

by_try : (r w c u t s : ℕ) → s ≡ t + 1 → r + w ≤ c + u + t → r + w ≤ c + u + s
by_try r w c u t s e few = omega (arith, e, few)

try_left : (r w c u t s : ℕ) → s ≡ t + 1 → r + w ≤ c + u + t → r < c + u + s
try_left r w c u t s e few = omega (arith, e, few)

by_reap : (r c : ℕ) → r < c → r + 1 + 0 ≤ c
by_reap r c less = omega (arith, less)

one_left : (r c : ℕ) → r + 1 ≤ c → r < c
one_left r c few = omega (arith, few)

abbrev tries : List Note → ℕ
tries notes = length (filter (λ note. is_tried note.kind) notes)

more_tries : (notes : List Note) (session after : ℕ) (change : Change) → tries (notes ++ record { session = session; kind = attempt change; after = after } ∷ []) ≡ tries notes + 1
more_tries notes session after change =
    ap (λ (ns : List Note). length ns) (filter-append (λ (note : Note). is_tried note.kind) notes (record { session = session; kind = attempt change; after = after } ∷ []))
    ∙ length-append (filter (λ note. is_tried note.kind) notes) (record { session = session; kind = attempt change; after = after } ∷ [])

same_tries : (notes : List Note) (session after : ℕ) → tries (notes ++ record { session = session; kind = Fault; after = after } ∷ []) ≡ tries notes
same_tries notes session after =
    ap (λ (ns : List Note). length ns) (filter-append (λ (note : Note). is_tried note.kind) notes (record { session = session; kind = Fault; after = after } ∷ [])
    ∙ append-nil (filter (λ note. is_tried note.kind) notes))

-- ---- reaps stay few

pub few_first : (base : Core) → IsBase base → AreFew base [] []
few_first base b = subst (λ (w : Bool). 0 + one_if w ≤ causes [] []) (sym (at_base base b)) (omega arith)

pub few_pin : (base : Core) (session : ℕ) (h : History) (notes : List Note) → AreFew base h notes → AreFew base (Pin session ∷ h) notes
few_pin base session h notes few =
    by_less (reaps h) (one_if (is_waiting base (Pin session ∷ h))) (one_if (is_waiting base h)) (causes h notes)
    (no_more (is_waiting base (Pin session ∷ h)) (is_waiting base h) (before_pin base session h)) few

pub few_unpin : (base : Core) (session : ℕ) (h : History) (notes : List Note) → AreFew base h notes → AreFew base (Unpin session ∷ h) notes
few_unpin base session h notes few =
    by_unpin (reaps h) (one_if (is_waiting base h)) (one_if (is_waiting base (Unpin session ∷ h))) (commits h) (unpins h) (tries notes) (at_most (is_waiting base (Unpin session ∷ h))) few

pub few_commit : (base : Core) (session : ℕ) (change : Change) (used : Used) (h : History) (notes : List Note) → AreFew base h notes → AreFew base (Commit session change used ∷ h) notes
few_commit base session change used h notes few =
    by_commit (reaps h) (one_if (is_waiting base h)) (one_if (is_waiting base (Commit session change used ∷ h))) (commits h) (unpins h) (tries notes)
    (at_most (is_waiting base (Commit session change used ∷ h))) few

pub few_reap : (base : Core) (h : History) (notes : List Note) → reaps h < causes h notes → AreFew base (Reap ∷ h) notes
few_reap base h notes less = subst (λ (w : Bool). reaps h + 1 + one_if w ≤ causes h notes) (sym (after_reap base h)) (by_reap (reaps h) (causes h notes) less)

pub few_tried : (base : Core) (h : History) (notes : List Note) (session after : ℕ) (change : Change) → AreFew base h notes
    → AreFew base h (notes ++ record { session = session; kind = attempt change; after = after } ∷ [])
few_tried base h notes session after change few =
    by_try (reaps h) (one_if (is_waiting base h)) (commits h) (unpins h) (tries notes) (tries (notes ++ record { session = session; kind = attempt change; after = after } ∷ []))
    (more_tries notes session after change) few

pub few_fault : (base : Core) (h : History) (notes : List Note) (session after : ℕ) → AreFew base h notes → AreFew base h (notes ++ record { session = session; kind = Fault; after = after } ∷ [])
few_fault base h notes session after few =
    subst (λ (t : ℕ). reaps h + one_if (is_waiting base h) ≤ commits h + unpins h + t) (sym (same_tries notes session after)) few

-- ---- a reap may come

-- behind the note that a commit is tried
pub may_tried : (base : Core) (h : History) (notes : List Note) (session after : ℕ) (change : Change) → AreFew base h notes
    → reaps h < causes h (notes ++ record { session = session; kind = attempt change; after = after } ∷ [])
may_tried base h notes session after change few =
    try_left (reaps h) (one_if (is_waiting base h)) (commits h) (unpins h) (tries notes) (tries (notes ++ record { session = session; kind = attempt change; after = after } ∷ []))
    (more_tries notes session after change) few

-- where a page awaits it
pub may_wait : (ledger now : LedgerState) → ledger ≡ now → AreFew ledger.base (history ledger) ledger.notes → is_waiting now.base (history now) ≡ true → MayReap now
may_wait ledger now same few waiting =
    one_left (reaps (history now)) (causes (history now) now.notes)
    (subst (λ (w : Bool). reaps (history now) + one_if w ≤ causes (history now) now.notes) waiting (subst (λ (l : LedgerState). AreFew l.base (history l) l.notes) same few))

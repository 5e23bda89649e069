-- Fresh changes.
use Rattle.std.proofs.Common.{◌≡◌, ◌∙◌, ℕ, Bool, true, false, not, ◌&&◌, ◌||◌, nat_eq, nat_lt, List, [], ◌∷◌, ◌++◌, length, map, reverse, refl, ap, sym}
use Rattle.std.specs.List.{AllByRecursion, list_all, list_any}
use Rattle.std.specs.Str.{bytes_eq}
use Rattle.std.proofs.lemmas.Bool.{and_from, and_parts, eqb-true}
use Rattle.std.proofs.lemmas.List.{reverse-append}
use Rattle.std.proofs.lemmas.List.Folds.{list_all-append, list_any-append}
use Rattle.logical_plan.specs.declared.parts.Leaf.{Leaf}
use Rattle.plan_changes.specs.Changes.{entry_named, name_of}
use Rattle.plan_changes.specs.declared.change.Change.{Change}
use Rattle.afl_types.specs.NamesLaws.{change_names}
use Rattle.event_core.specs.declared.entry.Entry.{Entry}
use Rattle.event_core.specs.declared.entry.Entry.TheVariants.{Pin, Unpin, Commit, Reap}
use Rattle.event_core.specs.History.{names_at}
use Rattle.event_core.proofs.Tests.{both_not}
use Rattle.array_store.specs.ChangesLeft.{IsLeft, leaves_alone}
use Rattle.array_store.specs.FreshLaws.{AreLeft}
use Rattle.array_store.proofs.Left.{names_stay}
use Rattle.array_store.specs.Fresh.{FreshChangesAreLeft, leaves_change}

or_nothing : (b : Bool) → b ≡ (b || false)
or_nothing true = refl
or_nothing false = refl

or_assoc : (a b c : Bool) → ((a || b) || c) ≡ (a || (b || c))
or_assoc true b c = refl
or_assoc false b c = refl

-- what none of some names equals
none_of : (name : List ℕ) (names : List (List ℕ)) → not (list_any (λ other. bytes_eq name other) names) ≡ true → AllByRecursion (λ other. not (bytes_eq name other) ≡ true) names
none_of name [] e = tt
none_of name (other ∷ names) e = split (bytes_eq name other) (list_any (λ x. bytes_eq name x) names) e (none_of name names)
  where
    split : (a b : Bool) → not (a || b) ≡ true → (not b ≡ true → AllByRecursion (λ x. not (bytes_eq name x) ≡ true) names) → (not a ≡ true) × AllByRecursion (λ x. not (bytes_eq name x) ≡ true) names
    split true b f later = absurd (both_not false refl f)
    split false b f later = (refl, later f)

all_of : {A : Type 0} (P : A → Type 0) → ((x : A) → P x) → (xs : List A) → AllByRecursion P xs
all_of P f [] = tt
all_of P f (x ∷ xs) = (f x, all_of P f xs)

all_two : {A : Type 0} (P Q R : A → Type 0) → ((x : A) → P x → Q x → R x) → (xs : List A) → AllByRecursion P xs → AllByRecursion Q xs → AllByRecursion R xs
all_two P Q R f [] p q = tt
all_two P Q R f (x ∷ xs) p q = (f x p.0 q.0, all_two P Q R f xs p.1 q.1)

-- an entry leaves each of some names alone
each_alone : (change : Change) (entry : Entry) → leaves_change change entry ≡ true → AllByRecursion (λ name. leaves_alone name entry ≡ true) (change_names change)
each_alone change (Commit session other used) e = none_of (name_of other) (change_names change) e
each_alone change (Pin session) e = all_of (λ (name : List ℕ). leaves_alone name (Pin session) ≡ true) (λ name. refl) (change_names change)
each_alone change (Unpin session) e = all_of (λ (name : List ℕ). leaves_alone name (Unpin session) ≡ true) (λ name. refl) (change_names change)
each_alone change Reap e = all_of (λ (name : List ℕ). leaves_alone name Reap ≡ true) (λ name. refl) (change_names change)

all_left : (change : Change) (later : List Entry) → list_all (leaves_change change) later ≡ true → AllByRecursion (λ name. list_all (leaves_alone name) later ≡ true) (change_names change)
all_left change [] e = all_of (λ (name : List ℕ). list_all (leaves_alone name) [] ≡ true) (λ name. refl) (change_names change)
all_left change (entry ∷ later) e =
    let parts : (leaves_change change entry ≡ true) × (list_all (leaves_change change) later ≡ true) = and_parts (leaves_change change entry) (list_all (leaves_change change) later) e in
    all_two (λ (name : List ℕ). leaves_alone name entry ≡ true) (λ (name : List ℕ). list_all (leaves_alone name) later ≡ true) (λ (name : List ℕ). list_all (leaves_alone name) (entry ∷ later) ≡ true)
    (λ name. and_from (leaves_alone name entry) (list_all (leaves_alone name) later)) (change_names change) (each_alone change entry parts.0) (all_left change later parts.1)

swapped : (a b : Bool) → (a && (b && true)) ≡ (b && a)
swapped true true = refl
swapped true false = refl
swapped false true = refl
swapped false false = refl

all_reverse : (p : Entry → Bool) (entries : List Entry) → list_all p (reverse entries) ≡ list_all p entries
all_reverse p [] = refl
all_reverse p (entry ∷ entries) =
    ap (list_all p) (reverse-append (entry ∷ []) entries)
    ∙ list_all-append p (reverse entries) (entry ∷ [])
    ∙ swapped (list_all p (reverse entries)) (p entry)
    ∙ ap (λ (b : Bool). p entry && b) (all_reverse p entries)

pub fresh_are_left : FreshChangesAreLeft
fresh_are_left base later before change e =
    let parts : (list_all (leaves_change change) (reverse later) ≡ true) × (nat_eq (length (names_at base (later ++ before)).arrays) (length (names_at base before).arrays) ≡ true) =
    and_parts (list_all (leaves_change change) (reverse later)) _ e in
    let left : AreLeft later change = all_left change later (sym (all_reverse (leaves_change change) later) ∙ parts.0) in
    record {
      entries = all_two (IsLeft later) (IsLeft later) (λ (name : List ℕ). entry_named (names_at base (later ++ before)).arrays name ≡ entry_named (names_at base before).arrays name)
          (λ name is same. names_stay base later before name is) (change_names change) left left;
      left = left;
      room = ap (λ (n : ℕ). nat_lt n 1024) (eqb-true (length (names_at base (later ++ before)).arrays) (length (names_at base before).arrays) parts.1);
    }

-- ---- the names of a change

pub any_names : (name : List ℕ) (leaves : List Leaf) (own : List ℕ) → (list_any (λ leaf. bytes_eq name leaf.name) leaves || bytes_eq name own) ≡ list_any (λ other. bytes_eq name other) (map (λ leaf. leaf.name) leaves ++ own ∷ [])
any_names name [] own = or_nothing (bytes_eq name own)
any_names name (leaf ∷ leaves) own =
    or_assoc (bytes_eq name leaf.name) (list_any (λ leaf. bytes_eq name leaf.name) leaves) (bytes_eq name own)
    ∙ ap (λ (b : Bool). bytes_eq name leaf.name || b) (any_names name leaves own)

pub any_both : {A : Type 0} (p : A → Bool) (xs ys : List A) → list_any p (xs ++ ys) ≡ (list_any p xs || list_any p ys)
any_both p xs ys = list_any-append p xs ys

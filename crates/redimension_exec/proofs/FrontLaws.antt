-- Lists as functions read them from the front, and as loops fill them.
use Rattle.std.proofs.Common.{◌≡◌, ◌∙◌, Bool, false, if◌then◌else◌, ℕ, ◌+◌, ◌≤◌, ◌<◌, List, [], ◌∷◌, ◌++◌, append-nil, append_assoc, map, length, take, get_or, Option, Some, sym, ap, arith}
use Rattle.std.specs.Option.{option_map}
use Rattle.std.proofs.lemmas.List.{length-map, map-append, map_more}
use Rattle.cell_values.specs.declared.schema.Dimension.{Dimension}
use Rattle.cell_values.specs.declared.schema.Schema.{Schema}
use Rattle.cell_values.specs.Schemas.{IsValid}
use Rattle.array_geom.proofs.Fronts.{rest, rest_is}
use Rattle.area_cells.proofs.BoundLaws.{one_more}
use Rattle.logical_plan.specs.Redimension.{Origin, place_where}
use Rattle.redimension_exec.specs.declared.places.places.Place.{Place}
use Rattle.redimension_exec.specs.Inner.Places.{origin}
use Rattle.redimension_exec.proofs.BandLaws.{few_dimensions}

-- ---- from the front

pub none_pushed : {A B : Type 0} (F : List A → List B) (xs : List A) (old : List B) → F [] ≡ [] → length xs < 1 → old ≡ old ++ F xs
none_pushed {A} {B} F [] old empty none = sym (ap (λ (l : List B). old ++ l) empty ∙ append-nil old)
none_pushed F (x ∷ xs) old empty none = absurd (omega (arith, none))

pub front_pushed : {A B : Type 0} (F : List A → List B) (f : A → B) (xs : List A) (d : A) (old more new : List B) (z b : B)
    → ((y : A) (ys : List A) → F (y ∷ ys) ≡ f y ∷ F ys) → 1 ≤ length xs → more ≡ old ++ z ∷ [] → new ≡ more ++ F (rest xs) → z ≡ b → b ≡ f (get_or xs 0 d)
    → new ≡ old ++ F xs
front_pushed F f [] d old more new z b each some _ _ _ _ = absurd (omega (arith, some))
front_pushed {A} {B} F f (y ∷ ys) d old more new z b each _ pushed after same is =
    after ∙ ap (λ (l : List A). more ++ F l) (rest_is y ys) ∙ ap (λ (l : List B). l ++ F ys) pushed ∙ append_assoc old (z ∷ []) (F ys)
    ∙ ap (λ (x : B). old ++ x ∷ F ys) (same ∙ is) ∙ ap (λ (l : List B). old ++ l) (sym (each y ys))

-- ---- the first one that passes a test

pub behind : {A : Type 0} (p : A → Bool) (xs : List A) (x : A) (found : Option ℕ) → 1 ≤ length xs → x ≡ get_or xs 0 x → p x ≡ false
    → found ≡ place_where p (rest xs) → option_map (λ n. n + 1) found ≡ place_where p xs
behind p [] x found some _ _ _ = absurd (omega (arith, some))
behind p (y ∷ ys) x found _ first fails is =
    ap (option_map (λ n. n + 1)) (is ∙ ap (place_where p) (rest_is y ys))
    ∙ sym (ap (λ (b : Bool). if b then Some 0 else option_map (λ n. n + 1) (place_where p ys)) (sym (ap p first) ∙ fails))

-- ---- what a loop has pushed so far

pub place_more : {A : Type 0} (f : A → Origin) (xs : List A) (i : ℕ) (x : A) (p : Place) (old new : List Place) → i < length xs → x ≡ get_or xs i x
    → map origin old ≡ map f (take i xs) → new ≡ old ++ p ∷ [] → origin p ≡ f x → map origin new ≡ map f (take (i + 1) xs)
place_more f xs i x p old new less item is pushed same =
    one_more f xs i x (origin p) (map origin old) (map origin new) less item is (ap (map origin) pushed ∙ map-append origin old (p ∷ [])) same

pub value_more : {B : Type 0} (f : Origin → B) (xs : List Place) (i : ℕ) (d : Place) (z : B) (old new : List B) → i < length xs
    → old ≡ map f (map origin (take i xs)) → new ≡ old ++ z ∷ [] → z ≡ f (origin (get_or xs i d)) → new ≡ map f (map origin (take (i + 1) xs))
value_more {B} f xs i d z old new less is pushed same =
    pushed ∙ ap (λ (l : List B). l ++ z ∷ []) is ∙ ap (λ (y : B). map f (map origin (take i xs)) ++ y ∷ []) same
    ∙ sym (ap (map f) (map_more origin xs i d less) ∙ map-append f (map origin (take i xs)) (origin (get_or xs i d) ∷ []))

-- as many places as dimensions
pub few_places : (schema : Schema) (dims : List Dimension) (f : Dimension → Origin) (places : List Place) → IsValid schema → dims ≡ schema.dimensions
    → map origin places ≡ map f dims → length places ≤ 6
few_places schema dims f places valid all is =
    let few = few_dimensions schema valid in
    let same = sym (length-map places origin) ∙ ap length is ∙ length-map dims f ∙ ap length all in omega (arith, few, same)

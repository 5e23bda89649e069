-- Whose the entries of a list are, and what a longer list adds.
use Rattle.std.specs.Prelude.{◌≡◌, ℕ, ◌==◌, nat_lt, Bool, true, false, not, List, ◌++◌, Option, Some, None}
use Rattle.std.specs.List.{list_all}

abbrev pub is_owned_by : Option ℕ → ℕ → Bool
is_owned_by None k = false
is_owned_by (Some j) k = j == k

-- the entry is owned by the seat k or by none
abbrev pub is_open_to : Option ℕ → ℕ → Bool
is_open_to None k = true
is_open_to (Some j) k = j == k

-- the entry is owned by a seat below n or by none
abbrev pub is_owned_below : Option ℕ → ℕ → Bool
is_owned_below None n = true
is_owned_below (Some j) n = nat_lt j n

module _ {E : Type 0} (owner : E → Option ℕ) where
  -- no entry is owned by the seat k
  abbrev pub none_of : ℕ → List E → Bool
  none_of k es = list_all (λ e. not (is_owned_by (owner e) k)) es

  -- each entry is owned by the seat k or by none
  abbrev pub only_of : ℕ → List E → Bool
  only_of k es = list_all (λ e. is_open_to (owner e) k) es

  -- each entry is owned by a seat whose number is below n or by none
  abbrev pub AreOwnedBelow : ℕ → List E → Type 0
  AreOwnedBelow n es = list_all (λ e. is_owned_below (owner e) n) es ≡ true

  -- the list begins with what was seen, and nothing past that is owned by the seat k
  abbrev pub ExtendsByOthers : ℕ → List E → List E → Type 0
  ExtendsByOthers k seen xs = (more : List E) × (xs ≡ seen ++ more) × (none_of k more ≡ true)

  -- the list begins with what was seen, and all past that is owned by the seat k or by none
  abbrev pub ExtendsByOwn : ℕ → List E → List E → Type 0
  ExtendsByOwn k seen xs = (more : List E) × (xs ≡ seen ++ more) × (only_of k more ≡ true)

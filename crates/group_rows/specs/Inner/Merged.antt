-- Groups of two parts that are being put together.
use Rattle.std.specs.Prelude.{◌≡◌, List, [], ◌∷◌, ◌++◌, length, Option, Some, None, ⊤}
use Rattle.cell_values.specs.declared.datum.Row.{Row}
use Rattle.array_rows.specs.Rows.{Coordinate, put_all}
use Rattle.logical_plan.specs.declared.parts.Aggregate.{Aggregate}
use Rattle.agg_states.specs.Stands.{StandsFor, AreApart}
use Rattle.agg_states.specs.Inner.Summary.{Summary}
use Rattle.group_rows.specs.declared.rows.groups.Group.{Group}
use Rattle.group_rows.specs.Grouped.{ComesBefore, AreInOrder, states_at}

-- a state for the cells of two others
abbrev pub IsBoth : Summary → Summary → Summary → Type 0
IsBoth s t u = (g : Aggregate) (a b : List Row) → StandsFor g a s → StandsFor g b t → AreApart a b → StandsFor g (put_all a b) u

-- state by state
abbrev pub AreBoth : List Summary → List Summary → List Summary → Type 0
AreBoth [] [] [] = ⊤
AreBoth (s ∷ ss) (t ∷ ts) (u ∷ us) = IsBoth s t u × AreBoth ss ts us
AreBoth _ _ _ = ⊥

-- where both lists have as many states
abbrev pub AreBothOf : List Summary → List Summary → List Summary → Type 0
AreBothOf ss ts us = length ss ≡ length ts → AreBoth ss ts us

-- the group of both parts where both have one, and else the group of the one part
abbrev pub IsBothAt : Option (List Summary) → Option (List Summary) → Option (List Summary) → Type 0
IsBothAt None None None = ⊤
IsBothAt (Some ss) None (Some us) = us ≡ ss
IsBothAt None (Some ts) (Some us) = us ≡ ts
IsBothAt (Some ss) (Some ts) (Some us) = AreBothOf ss ts us
IsBothAt _ _ _ = ⊥

-- the groups of two parts, in row-major order
pub record AreMerged (left right merged : List Group) : Type 0 where
  pub in_order : AreInOrder merged
  pub behind : (c : Coordinate) → ComesBefore c left → ComesBefore c right → ComesBefore c merged
  pub each : (c : Coordinate) → IsBothAt (states_at left c) (states_at right c) (states_at merged c)

-- groups have moved to the merged ones. With what is left of both they become the same
pub record AreMoved (merged left right merged' left' right' : List Group) : Type 0 where
  pub left_in_order : AreInOrder left'
  pub right_in_order : AreInOrder right'
  pub leads : (all_left all_right : List Group) → ((rest : List Group) → AreMerged left right rest → AreMerged all_left all_right (merged ++ rest))
      → (rest : List Group) → AreMerged left' right' rest → AreMerged all_left all_right (merged' ++ rest)

abbrev pub IsMove : List Group → List Group → List Group → List Group → List Group → List Group → Type 0
IsMove merged left right merged' left' right' = AreInOrder left → AreInOrder right → AreMoved merged left right merged' left' right'

-- the first groups of two parts have one coordinate
abbrev pub IsSamePlace : List Group → List Group → Type 0
IsSamePlace (x ∷ left) (y ∷ right) = x.at.items ≡ y.at.items
IsSamePlace _ _ = ⊥

-- What a statement is over the names of stored arrays.
use Rattle.logical_plan.specs.declared.names.Names.{Names}
use Rattle.plan_changes.specs.Typed.{IsTypedFor}
use Rattle.afl_types.specs.declared.types.statements.checking.Typed.{Typed}
use Rattle.afl_types.specs.declared.types.statements.checking.Typed.TheVariants.{Query, Change, Versions, Show, ListArrays}

-- a change is one that they allow, of a typed plan
abbrev pub IsStatement : Names → Typed → Type 0
IsStatement names (Query plan) = Unit {0}
IsStatement names (Change change) = IsTypedFor names change
IsStatement names (Versions name) = Unit {0}
IsStatement names (Show name) = Unit {0}
IsStatement names ListArrays = Unit {0}

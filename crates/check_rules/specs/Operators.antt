-- The operators and functions that a call may name.
use Rattle.std.specs.Prelude.{ℕ, ◌+◌, min, List, length, codes, Option, Some, None, if◌then◌else◌}
use Rattle.std.specs.Str.{bytes_eq}
use Rattle.cell_values.specs.declared.name.Span.{Span}
use Rattle.check_rules.specs.declared.rules.operator.Operator.{Operator}
use Rattle.check_rules.specs.declared.rules.operator.Operator.TheVariants.{Build, Scan, Filter, Apply, Project, Between}
use Rattle.check_rules.specs.declared.rules.operator.Operator.TheVariants.{Subarray, Slice, Join, CrossJoin, Redimension}
use Rattle.check_rules.specs.declared.rules.operator.Operator.TheVariants.{Regrid, Window, Aggregate, Store, Insert, Remove}
use Rattle.check_rules.specs.declared.rules.operator.Operator.TheVariants.{RemoveVersions, Versions, Show, ListNames}
use Rattle.check_rules.specs.declared.rules.operator.Operator.TheVariants.{Sort, Rank, Cumulate, Transpose, Reverse}
use Rattle.check_rules.specs.declared.rules.operator.Operator.TheVariants.{Unpack, Xgrid, Merge, Concat}
use Rattle.check_rules.specs.declared.rules.operator.Form.{Form}
use Rattle.check_rules.specs.declared.rules.operator.Form.TheVariants.{Iif, One}
use Rattle.check_rules.specs.declared.rules.operator.OneForm.TheVariants.{IsNull, StrLen, ToText, Missing, Reason}

-- the operator of this name that gives an array
unfoldable pub query_named : List ℕ → Option Operator
query_named name =
    if bytes_eq name (codes "build") then Some Build else if bytes_eq name (codes "scan") then Some Scan
    else if bytes_eq name (codes "filter") then Some Filter else if bytes_eq name (codes "apply") then Some Apply
    else if bytes_eq name (codes "project") then Some Project else if bytes_eq name (codes "between") then Some Between
    else if bytes_eq name (codes "subarray") then Some Subarray else if bytes_eq name (codes "slice") then Some Slice
    else if bytes_eq name (codes "join") then Some Join else if bytes_eq name (codes "cross_join") then Some CrossJoin
    else if bytes_eq name (codes "redimension") then Some Redimension else if bytes_eq name (codes "regrid") then Some Regrid
    else if bytes_eq name (codes "window") then Some Window else if bytes_eq name (codes "aggregate") then Some Aggregate
    else if bytes_eq name (codes "sort") then Some Sort else if bytes_eq name (codes "rank") then Some Rank
    else if bytes_eq name (codes "cumulate") then Some Cumulate else if bytes_eq name (codes "transpose") then Some Transpose
    else if bytes_eq name (codes "reverse") then Some Reverse else if bytes_eq name (codes "unpack") then Some Unpack
    else if bytes_eq name (codes "xgrid") then Some Xgrid else if bytes_eq name (codes "merge") then Some Merge
    else if bytes_eq name (codes "concat") then Some Concat
    else None

-- the operator of this name that changes arrays or lists something
unfoldable pub change_named : List ℕ → Option Operator
change_named name =
    if bytes_eq name (codes "store") then Some Store else if bytes_eq name (codes "insert") then Some Insert
    else if bytes_eq name (codes "remove") then Some Remove else if bytes_eq name (codes "remove_versions") then Some RemoveVersions
    else if bytes_eq name (codes "versions") then Some Versions else if bytes_eq name (codes "show") then Some Show
    else if bytes_eq name (codes "list") then Some ListNames
    else None

abbrev pub either : Option Operator → Option Operator → Option Operator
either (Some operator) other = Some operator
either None other = other

-- the operator of this name
abbrev pub operator_named : List ℕ → Option Operator
operator_named name = either (query_named name) (change_named name)

-- the function of this name
unfoldable pub form_named : List ℕ → Option Form
form_named name =
    if bytes_eq name (codes "iif") then Some Iif else if bytes_eq name (codes "is_null") then Some (One IsNull)
    else if bytes_eq name (codes "strlen") then Some (One StrLen) else if bytes_eq name (codes "string") then Some (One ToText)
    else if bytes_eq name (codes "missing") then Some (One Missing) else if bytes_eq name (codes "missing_reason") then Some (One Reason)
    else None

-- the name of a call: the first bytes of the call
abbrev pub name_span : Span → List ℕ → Span
name_span s name = record { start = s.start; end = min s.end (s.start + length name) }

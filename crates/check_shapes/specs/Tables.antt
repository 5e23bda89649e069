-- Rules as a table, in the order in which they are tested: whether each holds, and the place and the kind of the fault where it does not.
use Rattle.std.specs.Prelude.{not, Ok, Option, Some, None, List}
use Rattle.std.specs.List.{find}
use Rattle.schema_grammar.specs.declared.rules.Rule.{Rule}
use Rattle.check_rules.specs.Checked.{Checked, refused}

abbrev pub unless_broken : Option Rule → Checked (Unit {0})
unless_broken None = Ok tt
unless_broken (Some r) = refused r.span r.kind

-- the first that is broken is the answer
abbrev pub all_hold : List Rule → Checked (Unit {0})
all_hold rules = unless_broken (find (λ r. not r.holds) rules)

use Rattle.std.proofs.Common.{◌≡◌, ◌∙◌, ◌||◌, Bool, true, false, Option, Some, None, [], ◌∷◌, length, refl, sym, ap}
use Rattle.std.specs.Prelude.{if◌then◌else◌}
use Rattle.std.proofs.lemmas.Option.{slice_get_past, slice_get_read}
use Rattle.cell_values.specs.declared.schema.Attribute.{Attribute}
use Rattle.schema_grammar.specs.declared.kinds.TypeKind.{TypeKind}
use Rattle.schema_grammar.specs.declared.kinds.TypeKind.TheVariants.{WrongType}
use Rattle.expr_nulls.specs.Typing.{same_kind}
use Rattle.logical_plan.specs.Typing.{is_of_some_kind}
use Rattle.check_sources.proofs.redimension.target.attribute_fault.Goals as goal

abbrev unless : Bool → Option TypeKind
unless b = if b then None else Some WrongType

alone : (b : Bool) → unless b ≡ unless (b || false)
alone true = refl
alone false = refl

pub returns-in-Some : goal.returns-in-Some
returns-in-Some c =
    let attributes = c.args.attributes.now in
    let found = c.in-Some.attribute.now in
    let here = slice_get_read attributes (length attributes) c.args.place found refl c.in-Some.ensures.lookup.3.0 c.in-Some.ensures.lookup.1 in
    c.kind_fault.ensures ∙ alone (same_kind found.kind c.args.wanted)
    ∙ sym (ap (λ (o : Option Attribute). unless (is_of_some_kind (c.args.wanted ∷ []) o)) here)

pub returns-in-None : goal.returns-in-None
returns-in-None c =
    sym (ap (λ (o : Option Attribute). unless (is_of_some_kind (c.args.wanted ∷ []) o))
    (slice_get_past c.args.attributes.now c.args.place c.in-None.ensures.lookup.3))

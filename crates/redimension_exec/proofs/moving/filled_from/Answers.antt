use Rattle.std.proofs.Common.{◌≤◌, List, length, sym, ap, ◌∙◌, subst, map}
use Rattle.array_parts.specs.Cores.{cores_of}
use Rattle.redimension_exec.specs.declared.places.places.Place.{Place}
use Rattle.redimension_exec.specs.Inner.Places.{origin}
use Rattle.redimension_exec.proofs.FillLaws.{by_names}
use Rattle.redimension_exec.proofs.moving.filled_from.Goals as goal

pub filled_by-requires-clause-target : goal.filled_by-requires-clause-target
filled_by-requires-clause-target c = record {
  valid = c.requires.valid;
  none = c.requires.margins;
  all = c.in_ok-origins.ensures.bounds;
  few = subst (λ (ps : List Place). length ps ≤ 6) (sym c.as_slice.ensures) c.in_ok-origins.ensures.few;
}

pub returns : goal.returns
returns c =
    by_names c.args.array.now.schema c.args.target.now c.as_slice.result.now c.as_slice-2.result.now c.in_ok-origins.origins.bounds (cores_of c.args.array.now) c.in_ok-filled.filled
    (ap (map origin) c.as_slice.ensures ∙ c.in_ok-origins.ensures.places) (ap (map origin) c.as_slice-2.ensures ∙ c.in_ok-origins.ensures.values) c.in_ok-origins.ensures.bounds c.in_ok-filled.ensures

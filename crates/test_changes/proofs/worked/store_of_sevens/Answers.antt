use Rattle.test_changes.proofs.Made.{sevens_as}
use Rattle.test_changes.proofs.worked.store_of_sevens.Goals as goal

pub returns : goal.returns
returns c =
    sevens_as c.in_ok-name.name c.in_ok-schema.schema c.in_ok-places.places c.lit.result c.build-plan.result
    c.in_ok-name.ensures c.in_ok-schema.ensures c.in_ok-places.ensures c.lit.ensures c.build-plan.ensures

use Rattle.std.proofs.Common.{◌∙◌, ap, refl, subst, sym}
use Rattle.logical_plan.specs.Query.{Query, filtered, applied, projected, between, subarray, sliced, regridded, windowed, aggregated}
use Rattle.logical_plan.specs.Query.{ranked, cumulated, transposed, reversed, xgridded, merged, concatenated}
use Rattle.logical_plan.specs.ShapeSchemas.{concat_schema, merge_schema}
use Rattle.logical_plan.specs.Inner.QueryView.{query_of}
use Rattle.plan_schemas.specs.Inner.Origins.{AreSources, IsSource}
use Rattle.plan_schemas.proofs.schema.origin_of.Goals as goal

pub returns-in-Filter : goal.returns-in-Filter
returns-in-Filter c =
    subst (λ (q : Query). IsSource q c.deref.result.now)
    (ap (λ (s : Query). filtered s c.in-Filter.field-1) c.deref.ensures
    ∙ sym (ap query_of c.in-Filter.is) ∙ c.plan.view_is)
    (refl, refl)

pub returns-in-Apply : goal.returns-in-Apply
returns-in-Apply c =
    subst (λ (q : Query). IsSource q c.deref-in-Apply.result.now)
    (ap (λ (s : Query). applied s c.in-Apply.field-1) c.deref-in-Apply.ensures
    ∙ sym (ap query_of c.in-Apply.is) ∙ c.plan.view_is)
    (refl, refl)

pub returns-in-Project : goal.returns-in-Project
returns-in-Project c =
    subst (λ (q : Query). IsSource q c.deref-in-Project.result.now)
    (ap (λ (s : Query). projected s c.in-Project.field-1) c.deref-in-Project.ensures
    ∙ sym (ap query_of c.in-Project.is) ∙ c.plan.view_is)
    (refl, refl)

pub returns-in-Between : goal.returns-in-Between
returns-in-Between c =
    subst (λ (q : Query). IsSource q c.deref-in-Between.result.now)
    (ap (λ (s : Query). between s c.in-Between.field-1) c.deref-in-Between.ensures
    ∙ sym (ap query_of c.in-Between.is) ∙ c.plan.view_is)
    (refl, refl)

pub returns-in-Subarray : goal.returns-in-Subarray
returns-in-Subarray c =
    subst (λ (q : Query). IsSource q c.deref-in-Subarray.result.now)
    (ap (λ (s : Query). subarray s c.in-Subarray.field-1) c.deref-in-Subarray.ensures
    ∙ sym (ap query_of c.in-Subarray.is) ∙ c.plan.view_is)
    (refl, refl)

pub returns-in-Slice : goal.returns-in-Slice
returns-in-Slice c =
    subst (λ (q : Query). IsSource q c.deref-in-Slice.result.now)
    (ap (λ (s : Query). sliced s c.in-Slice.field-1) c.deref-in-Slice.ensures
    ∙ sym (ap query_of c.in-Slice.is) ∙ c.plan.view_is)
    (refl, refl)

pub returns-in-Regrid : goal.returns-in-Regrid
returns-in-Regrid c =
    subst (λ (q : Query). IsSource q c.deref-in-Regrid.result.now)
    (ap (λ (s : Query). regridded s c.in-Regrid.field-1 c.in-Regrid.field-2) c.deref-in-Regrid.ensures
    ∙ sym (ap query_of c.in-Regrid.is) ∙ c.plan.view_is)
    (refl, refl)

pub returns-in-Window : goal.returns-in-Window
returns-in-Window c =
    subst (λ (q : Query). IsSource q c.deref-in-Window.result.now)
    (ap (λ (s : Query). windowed s c.in-Window.field-1 c.in-Window.field-2) c.deref-in-Window.ensures
    ∙ sym (ap query_of c.in-Window.is) ∙ c.plan.view_is)
    (refl, refl)

pub returns-in-Aggregate : goal.returns-in-Aggregate
returns-in-Aggregate c =
    subst (λ (q : Query). IsSource q c.deref-in-Aggregate.result.now)
    (ap (λ (s : Query). aggregated s c.in-Aggregate.field-1 c.in-Aggregate.field-2) c.deref-in-Aggregate.ensures
    ∙ sym (ap query_of c.in-Aggregate.is) ∙ c.plan.view_is)
    (refl, refl)

pub returns-in-Rank : goal.returns-in-Rank
returns-in-Rank c =
    subst (λ (q : Query). IsSource q c.deref-in-Rank.result.now)
    (ap (λ (s : Query). ranked s c.in-Rank.field-1 c.in-Rank.field-2) c.deref-in-Rank.ensures
    ∙ sym (ap query_of c.in-Rank.is) ∙ c.plan.view_is)
    (refl, refl)

pub returns-in-Cumulate : goal.returns-in-Cumulate
returns-in-Cumulate c =
    subst (λ (q : Query). IsSource q c.deref-in-Cumulate.result.now)
    (ap (λ (s : Query). cumulated s c.in-Cumulate.field-1 c.in-Cumulate.field-2) c.deref-in-Cumulate.ensures
    ∙ sym (ap query_of c.in-Cumulate.is) ∙ c.plan.view_is)
    (refl, refl)

pub returns-in-Transpose : goal.returns-in-Transpose
returns-in-Transpose c =
    subst (λ (q : Query). IsSource q c.deref-in-Transpose.result.now)
    (ap (λ (s : Query). transposed s) c.deref-in-Transpose.ensures
    ∙ sym (ap query_of c.in-Transpose.is) ∙ c.plan.view_is)
    (refl, refl)

pub returns-in-Reverse : goal.returns-in-Reverse
returns-in-Reverse c =
    subst (λ (q : Query). IsSource q c.deref-in-Reverse.result.now)
    (ap (λ (s : Query). reversed s) c.deref-in-Reverse.ensures
    ∙ sym (ap query_of c.in-Reverse.is) ∙ c.plan.view_is)
    (refl, refl)

pub returns-in-Xgrid : goal.returns-in-Xgrid
returns-in-Xgrid c =
    subst (λ (q : Query). IsSource q c.deref-in-Xgrid.result.now)
    (ap (λ (s : Query). xgridded s c.in-Xgrid.field-1) c.deref-in-Xgrid.ensures
    ∙ sym (ap query_of c.in-Xgrid.is) ∙ c.plan.view_is)
    (refl, refl)

pub returns-in-Merge : goal.returns-in-Merge
returns-in-Merge c =
    subst (λ (q : Query). AreSources merge_schema q c.deref-in-Merge.result.now c.deref-in-Merge-2.result.now)
    (ap (λ (s : Query). merged s c.deref-in-Merge-2.result.now) c.deref-in-Merge.ensures
    ∙ ap (λ (s : Query). merged c.in-Merge.left.value s) c.deref-in-Merge-2.ensures
    ∙ sym (ap query_of c.in-Merge.is) ∙ c.plan.view_is)
    (refl, refl)

pub returns-in-Concat : goal.returns-in-Concat
returns-in-Concat c =
    subst (λ (q : Query). AreSources concat_schema q c.deref-in-Concat.result.now c.deref-in-Concat-2.result.now)
    (ap (λ (s : Query). concatenated s c.deref-in-Concat-2.result.now) c.deref-in-Concat.ensures
    ∙ ap (λ (s : Query). concatenated c.in-Concat.left.value s) c.deref-in-Concat-2.ensures
    ∙ sym (ap query_of c.in-Concat.is) ∙ c.plan.view_is)
    (refl, refl)

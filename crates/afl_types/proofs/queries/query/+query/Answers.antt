use Rattle.std.proofs.Common.{◌<◌, ◌-◌, ◌∙◌, length, take, drop, Some, Err, ap, arith, tests}
use Rattle.afl_types.specs.Calls.{call_of}
use Rattle.afl_types.specs.Content.{content_span}
use Rattle.afl_types.specs.Queries.{query_of}
use Rattle.afl_types.specs.declared.queries.call.Call.{Call}
use Rattle.afl_types.proofs.Ruled.{over_fits, over_unfit, two_fit, two_unfit}
use Rattle.afl_types.proofs.Small.{answer_small}
use Rattle.afl_types.proofs.Sources.{few_called, first_smaller, none_called, one_called, two_called, two_smaller}
use Rattle.afl_types.proofs.queries.query.+query.Goals as goal
use Rattle.afl_types.proofs.queries.query.+query.Goals.{called-in_default-via-then-arguments-lt1, called-in_default-via-in-len1-up+else-fits_count}
use Rattle.afl_types.proofs.queries.query.+query.Goals.{called-in_default-arguments-via-then-arguments-lt2, called-in_default-arguments-via-in-len2-up+else-fits_count-2}

pub called-query_of-checked-requires : goal.called-query_of-checked-requires
called-query_of-checked-requires t c =
    let less = first_smaller c.args.arguments.now c.source-item.result c.in-len1-up.len_at_least c.source-item.is in (omega (arith, less), c.requires)

pub called-query_of-left-requires : goal.called-query_of-left-requires
called-query_of-left-requires t c =
    let less = two_smaller c.args.arguments.now c.left-item.result c.right-item.result c.in-len2-up.len_at_least c.left-item.is c.right-item.is in
    (omega (arith, less), c.requires)

pub called-query_of-right-requires : goal.called-query_of-right-requires
called-query_of-right-requires t c =
    let less = two_smaller c.args.arguments.now c.left-item.result c.right-item.result c.in-len2-up.len_at_least c.left-item.is c.right-item.is in
    (omega (arith, less), c.requires)

pub called-one_checked-requires : goal.called-one_checked-requires
called-one_checked-requires t c = answer_small c.args.arrays.now c.source-item.result c.query_of-checked.result c.requires c.query_of-checked.ensures

pub called-two_checked-requires-clause-left : goal.called-two_checked-requires-clause-left
called-two_checked-requires-clause-left t c = answer_small c.args.arrays.now c.left-item.result c.query_of-left.result c.requires c.query_of-left.ensures

pub called-two_checked-requires-clause-right : goal.called-two_checked-requires-clause-right
called-two_checked-requires-clause-right t c = answer_small c.args.arrays.now c.right-item.result c.query_of-right.result c.requires
    c.query_of-right.ensures

pub called-returns-in-len1-up : goal.called-returns-in-len1-up
called-returns-in-len1-up t c =
    let xs = c.args.arguments.now in
    one_called c.args.arrays.now c.args.span c.args.name.now c.call_of.result (c.call_of.ensures ∙ ap call_of c.operator_named.ensures)
    c.one_checked.result xs
    c.in-Some-Over.operator (c.in-Some-Over.is ∙ ap (λ (call : Call). Some call) c.in-Some-Over.field-0-is) c.source-item.result
    c.in-len1-up.len_at_least c.source-item.is
    (over_fits c.args.span c.in-Some-Over.operator (take (length xs - 1) (drop 1 xs)) c.one_checked.result c.query_of-checked.result
    (query_of c.args.arrays.now c.source-item.result)
    c.content_span-at.result (content_span c.source-item.result) c.content_span-at.ensures c.fits_count.result c.fits_count.ensures c.if-fits_count.true
    c.one_checked.ensures c.query_of-checked.ensures)

pub called-returns-in_default : goal.called-returns-in_default
called-returns-in_default t c =
    let xs = c.args.arguments.now in
    let called = c.call_of.ensures ∙ ap call_of c.operator_named.ensures in
    let over = c.in-Some-Over.is ∙ ap (λ (call : Call). Some call) c.in-Some-Over.field-0-is in
    elim c.in_default.branch [
      | called-in_default-via-then-arguments-lt1 w ↦
          let none : length xs < 1 = grind (arith, tests) in
          none_called c.args.arrays.now c.args.span c.args.name.now c.call_of.result called xs c.broken.result c.broken.ensures
          c.in-Some-Over.operator over none
      | called-in_default-via-in-len1-up+else-fits_count w ↦
          one_called c.args.arrays.now c.args.span c.args.name.now c.call_of.result called (Err c.broken.result) xs
          c.in-Some-Over.operator over w.source-item.result w.in-len1-up.len_at_least w.source-item.is
          (over_unfit c.args.span c.in-Some-Over.operator (take (length xs - 1) (drop 1 xs)) c.broken.result
          (query_of c.args.arrays.now w.source-item.result)
          (content_span w.source-item.result) w.fits_count.result w.fits_count.ensures w.if-fits_count.false c.broken.ensures)
    ]

pub called-returns-in-len2-up : goal.called-returns-in-len2-up
called-returns-in-len2-up t c =
    let xs = c.args.arguments.now in
    two_called c.args.arrays.now c.args.span c.args.name.now c.call_of.result (c.call_of.ensures ∙ ap call_of c.operator_named.ensures)
    c.two_checked.result xs
    c.in-Some-Two.operator (c.in-Some-Two.is ∙ ap (λ (call : Call). Some call) c.in-Some-Two.field-0-is) c.left-item.result c.right-item.result
    c.in-len2-up.len_at_least c.left-item.is c.right-item.is
    (two_fit c.args.span c.in-Some-Two.operator (take (length xs - 2) (drop 2 xs)) c.two_checked.result c.query_of-left.result c.query_of-right.result
    (query_of c.args.arrays.now c.left-item.result) (query_of c.args.arrays.now c.right-item.result)
    c.content_span-at-in-len2-up.result (content_span c.left-item.result) c.content_span-at-in-len2-up.ensures
    c.fits_count-in-Some-Two.result c.fits_count-in-Some-Two.ensures c.if-fits_count-2.true
    c.two_checked.ensures c.query_of-left.ensures c.query_of-right.ensures)

pub called-returns-in_default-arguments : goal.called-returns-in_default-arguments
called-returns-in_default-arguments t c =
    let xs = c.args.arguments.now in
    let fault = c.broken-in_default-arguments.result in
    let called = c.call_of.ensures ∙ ap call_of c.operator_named.ensures in
    let two = c.in-Some-Two.is ∙ ap (λ (call : Call). Some call) c.in-Some-Two.field-0-is in
    elim c.in_default-arguments.branch [
      | called-in_default-arguments-via-then-arguments-lt2 w ↦
          let few : length xs < 2 = grind (arith, tests) in
          few_called c.args.arrays.now c.args.span c.args.name.now c.call_of.result called xs fault c.broken-in_default-arguments.ensures
          c.in-Some-Two.operator two few
      | called-in_default-arguments-via-in-len2-up+else-fits_count-2 w ↦
          two_called c.args.arrays.now c.args.span c.args.name.now c.call_of.result called (Err fault) xs
          c.in-Some-Two.operator two w.left-item.result w.right-item.result w.in-len2-up.len_at_least w.left-item.is w.right-item.is
          (two_unfit c.args.span c.in-Some-Two.operator (take (length xs - 2) (drop 2 xs)) fault
          (query_of c.args.arrays.now w.left-item.result) (query_of c.args.arrays.now w.right-item.result)
          (content_span w.left-item.result) w.fits_count-in-Some-Two.result w.fits_count-in-Some-Two.ensures w.if-fits_count-2.false
          c.broken-in_default-arguments.ensures)
    ]

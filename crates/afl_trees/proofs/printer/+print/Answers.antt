use Rattle.std.proofs.Common.{◌≡◌, ℕ, ◌+◌, ◌≤◌, List, ◌++◌, codes, slice_index_or, sym, ap, subst, ◌∙◌, arith, append_assoc}
use Rattle.std.specs.List.{join_with_byte}
use Rattle.std.proofs.lemmas.Result.{IfOk-equal}
use Rattle.schema_grammar.proofs.Joined.{ended, more}
use Rattle.afl_trees.specs.Print.{op_bytes, printed, all_printed}
use Rattle.afl_trees.specs.Term.{Term, call, renamed, opposite, negative, binary, group, to_terms, term_size, terms_size}
use Rattle.afl_trees.proofs.PrintedParts.{others, later_size, joined_after, written_more, printed_view, size_view}
use Rattle.afl_trees.proofs.printer.+print.Goals as goal

spaced : (a b : List ℕ) → a ++ (codes " " ++ b ++ codes " ") ≡ a ++ codes " " ++ b ++ codes " "
spaced a b = sym (append_assoc (a ++ codes " ") b (codes " ") ∙ append_assoc a (codes " ") (b ++ codes " "))

pub write_trees-write_tree-requires-in-loop-tree : goal.write_trees-write_tree-requires-in-loop-tree
write_trees-write_tree-requires-in-loop-tree t c =
    let is : c.tree-item.result ≡ slice_index_or (others c.args.trees.now) c.loop-tree.tree-index c.tree-item.result = c.tree-item.is in
    let smaller : term_size c.tree-item.result ≤ terms_size (to_terms c.args.trees.now)
    = subst (λ x. term_size x ≤ terms_size (to_terms c.args.trees.now)) (sym is) (later_size c.args.trees.now c.loop-tree.tree-index c.tree-item.result c.loop-tree-test.true) in
    (omega (arith, smaller, c.decreases), tt)

pub write_trees-returns : goal.write_trees-returns
write_trees-returns t c =
    joined_after c.args.trees.now c.first-item.result c.loop-tree.tree-index c.args.out.now c.write_tree.new.out c.loop-tree.out c.in-len1-up.len_at_least c.first-item.is
    c.loop-tree-test.false c.in_ok-write_tree.ensures c.loop-tree.invariant

pub write_trees-loop-tree-preserved : goal.write_trees-loop-tree-preserved
write_trees-loop-tree-preserved t c =
    written_more (others c.args.trees.now) c.loop-tree.tree-index c.tree-item.result c.write_tree.new.out c.loop-tree.out
    c.push.new.self c.write_tree-in-loop-tree.new.out
    c.loop-tree-test.true c.tree-item.is c.loop-tree.invariant c.in_ok-push.ensures.ok c.in_ok-write_tree-2.ensures

pub write_call-write_trees-requires : goal.write_call-write_trees-requires
write_call-write_trees-requires t c = (omega (arith, c.decreases), tt)

pub write_renamed-write_tree-requires : goal.write_renamed-write_tree-requires
write_renamed-write_tree-requires t c = (omega (arith, c.decreases), tt)

pub write_prefixed-write_tree-requires : goal.write_prefixed-write_tree-requires
write_prefixed-write_tree-requires t c = (omega (arith, c.decreases), tt)

pub write_binary-write_tree-requires : goal.write_binary-write_tree-requires
write_binary-write_tree-requires t c = (omega (arith, c.decreases), tt)

pub write_binary-write_tree-requires-2 : goal.write_binary-write_tree-requires-2
write_binary-write_tree-requires-2 t c = (omega (arith, c.decreases), tt)

pub write_grouped-write_tree-requires : goal.write_grouped-write_tree-requires
write_grouped-write_tree-requires t c = (omega (arith, c.decreases), tt)

pub write_call-returns : goal.write_call-returns
write_call-returns t c =
    let out = c.args.out.now in
    let name = c.args.name.now in
    let list = join_with_byte 44 (all_printed (to_terms c.args.arguments.now)) in
    let first : c.extend.new.self ≡ out ++ name = c.in_ok-extend.ensures.ok ∙ ap (λ l. out ++ l) c.as_slice.ensures.value in
    let opened = more out c.extend.new.self c.push.new.self name (codes "(") first c.in_ok-push.ensures.ok in
    let behind = more out c.push.new.self c.write_trees.new.out (name ++ codes "(") list opened c.in_ok-write_trees.ensures in
    IfOk-equal c.push-2.result c.push-2.new.self _ _ c.push-2.ensures.ok (ended out c.write_trees.new.out (name ++ codes "(" ++ list) (codes ")") behind)

pub write_renamed-returns : goal.write_renamed-returns
write_renamed-returns t c =
    let out = c.args.out.now in
    let part = printed c.args.inner.now in
    let behind = more out c.write_tree.new.out c.extend.new.self part (codes " as ") c.in_ok-write_tree.ensures c.in_ok-extend.ensures.ok in
    IfOk-equal c.extend-2.result c.extend-2.new.self _ _ c.extend-2.ensures.ok
    (ap (λ l. c.extend.new.self ++ l) c.as_slice.ensures.value ∙ ended out c.extend.new.self (part ++ codes " as ") c.args.name.now behind)

pub write_prefixed-returns : goal.write_prefixed-returns
write_prefixed-returns t c =
    IfOk-equal c.write_tree.result c.write_tree.new.out _ _ c.write_tree.ensures
    (ended c.args.out.now c.extend.new.self c.args.words.now (printed c.args.inner.now) c.in_ok-extend.ensures.ok)

pub write_binary-returns : goal.write_binary-returns
write_binary-returns t c =
    let out = c.args.out.now in
    let left = printed c.args.left.now in
    let op = op_bytes c.args.op in
    let behind = more out c.write_tree.new.out c.write_op.new.out left (codes " " ++ op ++ codes " ") c.in_ok-write_tree.ensures c.in_ok-write_op.ensures
    ∙ ap (λ l. out ++ l) (spaced left op) in
    IfOk-equal c.write_tree-2.result c.write_tree-2.new.out _ _ c.write_tree-2.ensures
    (ended out c.write_op.new.out (left ++ codes " " ++ op ++ codes " ") (printed c.args.right.now) behind)

pub write_grouped-returns : goal.write_grouped-returns
write_grouped-returns t c =
    let out = c.args.out.now in
    let part = printed c.args.inner.now in
    let behind = more out c.push.new.self c.write_tree.new.out (codes "(") part c.in_ok-push.ensures.ok c.in_ok-write_tree.ensures in
    IfOk-equal c.push-2.result c.push-2.new.self _ _ c.push-2.ensures.ok (ended out c.write_tree.new.out (codes "(" ++ part) (codes ")") behind)

pub write_tree-write_call-requires : goal.write_tree-write_call-requires
write_tree-write_call-requires t c =
    let whole : terms_size (to_terms c.in-Call.arguments.items) + 1 ≡ term_size c.args.tree.now = size_view c.tree.inside.span c.tree.view_is c.in-Call.is in
    (omega (arith, whole, ap (λ (l : List Term). terms_size (to_terms l)) c.deref.ensures.value, c.decreases), tt)

pub write_tree-write_renamed-requires : goal.write_tree-write_renamed-requires
write_tree-write_renamed-requires t c =
    let whole : term_size c.in-As.inner.value + 1 ≡ term_size c.args.tree.now = size_view c.tree.inside.span c.tree.view_is c.in-As.is in
    (omega (arith, whole, ap term_size c.deref-in-As.ensures, c.decreases), tt)

pub write_tree-write_prefixed-requires : goal.write_tree-write_prefixed-requires
write_tree-write_prefixed-requires t c =
    let whole : term_size c.in-Not.inner.value + 1 ≡ term_size c.args.tree.now = size_view c.tree.inside.span c.tree.view_is c.in-Not.is in
    (omega (arith, whole, ap term_size c.deref-in-Not.ensures, c.decreases), tt)

pub write_tree-write_prefixed-requires-in-Minus : goal.write_tree-write_prefixed-requires-in-Minus
write_tree-write_prefixed-requires-in-Minus t c =
    let whole : term_size c.in-Minus.inner.value + 1 ≡ term_size c.args.tree.now = size_view c.tree.inside.span c.tree.view_is c.in-Minus.is in
    (omega (arith, whole, ap term_size c.deref-in-Minus.ensures, c.decreases), tt)

pub write_tree-write_grouped-requires : goal.write_tree-write_grouped-requires
write_tree-write_grouped-requires t c =
    let whole : term_size c.in-Group.inner.value + 1 ≡ term_size c.args.tree.now = size_view c.tree.inside.span c.tree.view_is c.in-Group.is in
    (omega (arith, whole, ap term_size c.deref-in-Group.ensures, c.decreases), tt)

pub write_tree-write_binary-requires : goal.write_tree-write_binary-requires
write_tree-write_binary-requires t c =
    let whole : term_size c.in-Binary.left.value + term_size c.in-Binary.right.value + 1 ≡ term_size c.args.tree.now
    = size_view c.tree.inside.span c.tree.view_is c.in-Binary.is in
    (omega (arith, whole, ap term_size c.deref-in-Binary.ensures, ap term_size c.deref-in-Binary-2.ensures, c.decreases), tt)

pub write_tree-returns-in-Create : goal.write_tree-returns-in-Create
write_tree-returns-in-Create t c =
    IfOk-equal c.write_create.result c.write_create.new.out _ _ c.write_create.ensures
    (ap (λ l. c.args.out.now ++ l) (printed_view c.tree.inside.span c.tree.view_is c.in-Create.is))

pub write_tree-returns-in-Call : goal.write_tree-returns-in-Call
write_tree-returns-in-Call t c =
    IfOk-equal c.write_call.result c.write_call.new.out _ _ c.write_call.ensures
    (ap (λ (l : List Term). c.args.out.now ++ printed (call c.tree.inside.span c.in-Call.name (to_terms l))) c.deref.ensures.value
    ∙ ap (λ l. c.args.out.now ++ l) (printed_view c.tree.inside.span c.tree.view_is c.in-Call.is))

pub write_tree-returns-in-As : goal.write_tree-returns-in-As
write_tree-returns-in-As t c =
    IfOk-equal c.write_renamed.result c.write_renamed.new.out _ _ c.write_renamed.ensures
    (ap (λ (i : Term). c.args.out.now ++ printed (renamed c.tree.inside.span i c.in-As.name)) c.deref-in-As.ensures
    ∙ ap (λ l. c.args.out.now ++ l) (printed_view c.tree.inside.span c.tree.view_is c.in-As.is))

pub write_tree-returns-in-Not : goal.write_tree-returns-in-Not
write_tree-returns-in-Not t c =
    IfOk-equal c.write_prefixed.result c.write_prefixed.new.out _ _ c.write_prefixed.ensures
    (ap (λ (i : Term). c.args.out.now ++ printed (opposite c.tree.inside.span i)) c.deref-in-Not.ensures
    ∙ ap (λ l. c.args.out.now ++ l) (printed_view c.tree.inside.span c.tree.view_is c.in-Not.is))

pub write_tree-returns-in-Minus : goal.write_tree-returns-in-Minus
write_tree-returns-in-Minus t c =
    IfOk-equal c.write_prefixed-in-Minus.result c.write_prefixed-in-Minus.new.out _ _ c.write_prefixed-in-Minus.ensures
    (ap (λ (i : Term). c.args.out.now ++ printed (negative c.tree.inside.span i)) c.deref-in-Minus.ensures
    ∙ ap (λ l. c.args.out.now ++ l) (printed_view c.tree.inside.span c.tree.view_is c.in-Minus.is))

pub write_tree-returns-in-Binary : goal.write_tree-returns-in-Binary
write_tree-returns-in-Binary t c =
    IfOk-equal c.write_binary.result c.write_binary.new.out _ _ c.write_binary.ensures
    (ap (λ (i : Term). c.args.out.now ++ printed (binary c.tree.inside.span c.in-Binary.op i c.deref-in-Binary-2.result.now)) c.deref-in-Binary.ensures
    ∙ ap (λ (i : Term). c.args.out.now ++ printed (binary c.tree.inside.span c.in-Binary.op c.in-Binary.left.value i)) c.deref-in-Binary-2.ensures
    ∙ ap (λ l. c.args.out.now ++ l) (printed_view c.tree.inside.span c.tree.view_is c.in-Binary.is))

pub write_tree-returns-in-Group : goal.write_tree-returns-in-Group
write_tree-returns-in-Group t c =
    IfOk-equal c.write_grouped.result c.write_grouped.new.out _ _ c.write_grouped.ensures
    (ap (λ (i : Term). c.args.out.now ++ printed (group c.tree.inside.span i)) c.deref-in-Group.ensures
    ∙ ap (λ l. c.args.out.now ++ l) (printed_view c.tree.inside.span c.tree.view_is c.in-Group.is))

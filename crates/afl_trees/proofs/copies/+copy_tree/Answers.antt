use Rattle.std.proofs.Common.{rules, ◌≤◌, List, [], ◌∷◌, ◌++◌, take, sym, ap, subst, ◌∙◌, append_assoc}
use Rattle.std.proofs.lemmas.List.{take_more}
use Rattle.afl_trees.specs.Term.{Term, opposite, negative, binary, group, to_terms, term_size, terms_size}
use Rattle.afl_trees.specs.Inner.View.{term_of}
use Rattle.afl_trees.proofs.PrintedParts.{part_size}
use Rattle.afl_trees.proofs.copies.+copy_tree.Goals as goal

pub push_copies-copy_tree-requires : goal.push_copies-copy_tree-requires
push_copies-copy_tree-requires t c =
    let items = c.as_slice-tree-items.result.now in
    let part : term_size c.tree-item.result ≤ terms_size (to_terms items)
    = subst (λ x. term_size x ≤ terms_size (to_terms items)) (sym c.tree-item.is) (part_size items c.loop-tree.tree-index c.tree-item.result c.loop-tree-test.true) in
    let smaller : term_size c.tree-item.result ≤ terms_size (to_terms c.args.trees.now.items)
    = subst (λ l. term_size c.tree-item.result ≤ terms_size (to_terms l)) c.as_slice-tree-items.ensures.value part in
    search rules

pub copy_node-returns-in-Ok : goal.copy_node-returns-in-Ok
copy_node-returns-in-Ok t c span =
    ap (λ (l : Term). binary span c.in-Binary.op l c.in-Ok.right.value) c.in-Ok.ensures.0
    ∙ ap (λ (r : Term). binary span c.in-Binary.op c.in-Binary.left.value r) c.in-Ok.ensures.1
    ∙ sym (ap (term_of span) c.in-Binary.is)

pub copy_trees-returns-in-Ok : goal.copy_trees-returns-in-Ok
copy_trees-returns-in-Ok t c = c.in-Ok.ensures ∙ ap (λ (l : List Term). l ++ c.args.trees.now.items) c.in_ok-copies.ensures.items

pub copy_tree-returns : goal.copy_tree-returns
copy_tree-returns t c = c.in_ok-copy_node.ensures c.tree.inside.span ∙ c.tree.view_is

pub push_copies-loop-tree-preserved : goal.push_copies-loop-tree-preserved
push_copies-loop-tree-preserved t c =
    let start = c.args.copies.now.items in
    let items = c.as_slice-tree-items.result.now in
    let before = take c.loop-tree.tree-index items in
    let copy = c.in_ok-copy_tree.field-0 in
    c.in_ok-push.ensures.items
    ∙ ap (λ (l : List Term). l ++ copy ∷ []) c.loop-tree.invariant
    ∙ append_assoc start before (copy ∷ [])
    ∙ ap (λ (x : Term). start ++ (before ++ x ∷ [])) (c.in_ok-copy_tree.ensures ∙ c.tree-item.is)
    ∙ ap (λ (l : List Term). start ++ l) (sym (take_more items c.loop-tree.tree-index c.tree-item.result c.loop-tree-test.true))

pub copy_box-returns : goal.copy_box-returns
copy_box-returns t c = c.in_ok-new.ensures.ok ∙ c.in_ok-copy_tree.ensures ∙ c.deref.ensures

pub copy_node-returns-in_ok-copy_box-in-Not : goal.copy_node-returns-in_ok-copy_box-in-Not
copy_node-returns-in_ok-copy_box-in-Not t c span = ap (opposite span) c.in_ok-copy_box-in-Not.ensures ∙ sym (ap (term_of span) c.in-Not.is)

pub copy_node-returns-in_ok-copy_box-in-Minus : goal.copy_node-returns-in_ok-copy_box-in-Minus
copy_node-returns-in_ok-copy_box-in-Minus t c span = ap (negative span) c.in_ok-copy_box-in-Minus.ensures ∙ sym (ap (term_of span) c.in-Minus.is)

pub copy_node-returns-in_ok-copy_box-in-Group : goal.copy_node-returns-in_ok-copy_box-in-Group
copy_node-returns-in_ok-copy_box-in-Group t c span = ap (group span) c.in_ok-copy_box-in-Group.ensures ∙ sym (ap (term_of span) c.in-Group.is)

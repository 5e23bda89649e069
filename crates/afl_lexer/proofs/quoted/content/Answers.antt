use Rattle.std.proofs.Common.{◌≡◌, ℕ, ◌<◌, ◌+◌, List, ◌++◌, map, drop, ap, subst, ◌∙◌, sym}
use Rattle.std.proofs.lemmas.List.{append-nil, drop_all, take_rest}
use Rattle.afl_lexer.specs.Quoted.{items, byte_of}
use Rattle.afl_lexer.specs.Scan.{item_len}
use Rattle.afl_lexer.proofs.quoted.content.Goals as goal
use Rattle.afl_lexer.proofs.Steps.{content_more, step_within, some_left}

pub loop-at-preserved : goal.loop-at-preserved
loop-at-preserved c =
    let bytes = c.args.bytes.now in
    let at = c.loop-at.at in
    let k = c.front_len-len.result in
    let is : k ≡ item_len (drop at bytes) = c.front_len-len.ensures.len ∙ ap item_len (take_rest bytes at) in
    let pos : 0 < k = c.front_len-len.ensures.some (some_left bytes at c.loop-at-test.true) in (
      step_within bytes at k c.loop-at.invariant.0 c.front_len-len.ensures.within,
      subst (λ (so_far : List ℕ). map byte_of (items bytes) ≡ so_far ++ map byte_of (items (drop (at + k) bytes))) (sym c.in_ok-push.ensures.ok)
          (content_more bytes c.loop-at.content at k c.loop-at-test.true is pos c.loop-at.invariant.1),
    )

pub returns : goal.returns
returns c =
    let so_far = c.loop-at.content in
    sym (c.loop-at.invariant.1 ∙ ap (λ l. so_far ++ map byte_of (items l)) (drop_all c.loop-at.at c.args.bytes.now c.loop-at-test.false) ∙ append-nil so_far)

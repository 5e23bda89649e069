use Rattle.std.proofs.Common.{◌≡◌, ℕ, List, ◌++◌, codes, sym, ap, ◌∙◌, append-nil}
use Rattle.std.proofs.lemmas.Result.{IfOk-equal}
use Rattle.schema_grammar.specs.SchemaBytes.{null_bytes}
use Rattle.schema_grammar.proofs.Joined.{ended, more}
use Rattle.schema_grammar.proofs.printer.write_attribute.Goals as goal

-- a name, a colon and a word behind what was written
worded : (out slice name word named behind after : List ℕ) → named ≡ out ++ slice → slice ≡ name → behind ≡ named ++ codes ":" → after ≡ behind ++ word
    → after ≡ out ++ (name ++ codes ":" ++ word)
worded out slice name word named behind after e f g h =
    more out behind after (name ++ codes ":") word (more out named behind name (codes ":") (e ∙ ap (λ l. out ++ l) f) g) h

pub returns-then-nullable-clause-text : goal.returns-then-nullable-clause-text
returns-then-nullable-clause-text c =
    let out = c.args.out.now in
    let front = c.args.name.now ++ codes ":" ++ c.args.word.now in
    worded out c.as_slice.result.now c.args.name.now c.args.word.now c.extend.new.self c.push.new.self c.extend-2.new.self
    c.in_ok-extend.ensures.ok c.as_slice.ensures.value c.in_ok-push.ensures.ok c.in_ok-extend-2.ensures.ok
    ∙ ap (λ l. out ++ l) (sym (append-nil front))
    ∙ ap (λ b. out ++ (front ++ null_bytes b)) (sym c.if-nullable.true)

pub returns-else-nullable-clause-text : goal.returns-else-nullable-clause-text
returns-else-nullable-clause-text c =
    let out = c.args.out.now in
    let front = c.args.name.now ++ codes ":" ++ c.args.word.now in
    let behind = worded out c.as_slice.result.now c.args.name.now c.args.word.now c.extend.new.self c.push.new.self c.extend-2.new.self
    c.in_ok-extend.ensures.ok c.as_slice.ensures.value c.in_ok-push.ensures.ok c.in_ok-extend-2.ensures.ok in
    IfOk-equal c.extend-else-nullable.result c.extend-else-nullable.new.self _ _ c.extend-else-nullable.ensures.ok
    (ended out c.extend-2.new.self front (codes " not null") behind ∙ ap (λ b. out ++ (front ++ null_bytes b)) (sym c.if-nullable.false))

use Rattle.std.proofs.Common.{◌≡◌, ℤ, ◌++◌, codes, ap, ◌∙◌, to_z-of_z}
use Rattle.std.proofs.lemmas.Result.{IfOk-equal}
use Rattle.schema_grammar.specs.SchemaBytes.{bounds_bytes, lengths_bytes}
use Rattle.schema_grammar.proofs.Joined.{ended, more}
use Rattle.schema_grammar.proofs.printer.write_dimension.Goals as goal

same_bounds : {a b c d : ℤ} → a ≡ b → c ≡ d → bounds_bytes a c ≡ bounds_bytes b d
same_bounds {a} {b} {c} {d} e f = ap (λ z. bounds_bytes z c) e ∙ ap (bounds_bytes b) f

pub returns-clause-text : goal.returns-clause-text
returns-clause-text c =
    let out = c.args.out.now in
    let name = c.args.name.now in
    let bounds = bounds_bytes c.args.lo c.args.hi in
    let named : c.extend.new.self ≡ out ++ name = c.in_ok-extend.ensures.ok ∙ ap (λ l. out ++ l) c.as_slice.ensures.value in
    let equal = more out c.extend.new.self c.push.new.self name (codes "=") named c.in_ok-push.ensures.ok in
    let written = c.in_ok-write_bounds.ensures ∙ ap (λ l. c.push.new.self ++ l) (same_bounds (to_z-of_z c.ranges.lo) (to_z-of_z c.ranges.hi)) in
    let bounded = more out c.push.new.self c.write_bounds.new.out (name ++ codes "=") bounds equal written in
    let behind = more out c.write_bounds.new.out c.push-2.new.self (name ++ codes "=" ++ bounds) (codes ",") bounded c.in_ok-push-2.ensures.ok in
    IfOk-equal c.write_lengths.result c.write_lengths.new.out _ _ c.write_lengths.ensures
    (ended out c.push-2.new.self (name ++ codes "=" ++ bounds ++ codes ",") (lengths_bytes c.args.chunk c.args.overlap) behind)

use Rattle.std.proofs.Common.{◌++◌, codes, ap, ◌∙◌}
use Rattle.command_words.proofs.script.script.inserting.Goals as goal

pub returns : goal.returns
returns c =
    c.in_ok-extend-4.ensures.ok
    ∙ ap (λ l. l ++ codes "aggregate(join(G@1, G@2), count(*), sum(v_2));\n") (c.in_ok-extend-3.ensures.ok
    ∙ ap (λ l. l ++ codes "aggregate(G, count(*), sum(v), min(v), max(v));\n") (c.in_ok-extend-2.ensures.ok
    ∙ ap (λ l. l ++ codes ", v>=20 and v<30), G);\n") (c.in_ok-extend.ensures.ok
    ∙ ap (λ l. l ++ c.as_slice.result.now) c.in_ok-text.ensures
    ∙ ap (λ l. codes "insert(filter(" ++ l) (c.as_slice.ensures ∙ c.in_ok-build.ensures))))

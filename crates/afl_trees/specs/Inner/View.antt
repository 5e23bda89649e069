-- What a tree reads as.
use Rattle.cell_values.specs.declared.name.Span.{Span}
use Rattle.afl_trees.specs.Term.{Term, create, number, text, truth, null, missing, reference, version}
use Rattle.afl_trees.specs.Term.{call, schema, star, renamed, opposite, negative, binary, group, to_terms}
use Rattle.afl_trees.specs.declared.tree.Node.{Node}
use Rattle.afl_trees.specs.declared.tree.Node.TheVariants.{Create, Number, Text, Truth, Null, Missing, Ref, Version}
use Rattle.afl_trees.specs.declared.tree.Node.TheVariants.{Call, Schema, Star, As, Not, Minus, Binary, Group}

abbrev pub term_of : Span → Node → Term
term_of s (Create n m) = create s n m
term_of s (Number n) = number s n
term_of s (Text x) = text s x
term_of s (Truth b) = truth s b
term_of s Null = null s
term_of s (Missing c) = missing s c
term_of s (Ref n) = reference s n
term_of s (Version n v) = version s n v
term_of s (Call n ts) = call s n (to_terms ts.items)
term_of s (Schema m) = schema s m
term_of s Star = star s
term_of s (As a n) = renamed s a.value n
term_of s (Not a) = opposite s a.value
term_of s (Minus a) = negative s a.value
term_of s (Binary o a b) = binary s o a.value b.value
term_of s (Group a) = group s a.value

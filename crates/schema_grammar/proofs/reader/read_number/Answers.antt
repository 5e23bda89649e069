use Rattle.std.proofs.Common.{◌≡◌, unsigned_abs, sym, ap, subst, ◌∙◌, rules}
use Rattle.afl_lexer.specs.Lexemes.{what_of}
use Rattle.schema_grammar.specs.declared.state.Count.{Count}
use Rattle.schema_grammar.specs.declared.state.DimPlace.TheVariants as dim
use Rattle.schema_grammar.specs.declared.state.NumberPlace.TheVariants.{Chunked, Chunk, Overlap}
use Rattle.schema_grammar.specs.declared.state.PartStep.TheVariants.{On}
use Rattle.schema_grammar.specs.Inner.Reading.{count, dimension, number_step}
use Rattle.schema_grammar.specs.Inner.Unsigned.{IsUnsigned}
use Rattle.schema_grammar.proofs.Numbers.{chunk_read, overlap_read}
use Rattle.schema_grammar.proofs.reader.read_number.Goals as goal

pub returns-in-Int : goal.returns-in-Int
returns-in-Int c bytes =
    let n = c.in-Int.value in
    let span = c.args.token.span in
    let same : c.count_of-chunk.result ≡ count (unsigned_abs n) span = search rules in
    ap (λ (l : Count). On (dim.Numbers c.args.label c.args.lo c.args.hi (Chunked l))) same
    ∙ sym (chunk_read c.args.label c.args.lo c.args.hi span n (subst IsUnsigned c.in-Int.is c.requires))
    ∙ sym (ap (λ kind. number_step c.args.label c.args.lo c.args.hi Chunk span (what_of kind bytes)) c.in-Int.is)
    ∙ sym (ap (λ place. number_step c.args.label c.args.lo c.args.hi place span (what_of c.args.token.kind bytes)) c.in-Chunk.is)

pub returns-in-Int-kind : goal.returns-in-Int-kind
returns-in-Int-kind c bytes =
    let n = c.in-Int-kind.value in
    let chunk = c.in-Overlap.chunk in
    let span = c.args.token.span in
    let same : c.count_of-overlap.result ≡ count (unsigned_abs n) span = search rules in
    ap (λ d. On (dim.Ended d)) (c.with_numbers.ensures ∙ ap (λ (o : Count). dimension c.args.label c.args.lo c.args.hi chunk o.value o.span) same)
    ∙ sym (overlap_read c.args.label c.args.lo c.args.hi chunk span n (subst IsUnsigned c.in-Int-kind.is c.requires))
    ∙ sym (ap (λ kind. number_step c.args.label c.args.lo c.args.hi (Overlap chunk) span (what_of kind bytes)) c.in-Int-kind.is)
    ∙ sym (ap (λ place. number_step c.args.label c.args.lo c.args.hi place span (what_of c.args.token.kind bytes)) c.in-Overlap.is)

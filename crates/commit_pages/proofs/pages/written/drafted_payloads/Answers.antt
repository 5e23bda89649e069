use Rattle.std.proofs.Common.{◌<◌, ◌^◌, ◌∙◌, length, map, ap, List, sym, subst}
use Rattle.std.proofs.lemmas.List.{take_all}
use Rattle.array_geom.specs.declared.chunk.Chunk.{Chunk}
use Rattle.chunk_rle.specs.Chunks.{spelling}
use Rattle.page_file.specs.declared.commits.placed.Placed.{Placed}
use Rattle.commit_pages.specs.Versions.{drafted}
use Rattle.commit_pages.proofs.Loops.{all_more, map_more}
use Rattle.std.specs.List.{AllByRecursion}
use Rattle.commit_pages.proofs.pages.written.drafted_payloads.Goals as goal

pub loop-chunk-preserved : goal.loop-chunk-preserved
loop-chunk-preserved c =
    let l = c.loop-chunk in
    let one = c.in_ok-drafted_payload.field-0 in
    record {
      made = map_more c.args.chunks.now l.chunk-index c.chunk-item.result c.loop-chunk-test.true c.chunk-item.is
          (λ (chunk : Chunk). drafted (spelling c.args.schema.now.attributes chunk)) l.payloads c.push.new.self one l.invariant.made
          c.in_ok-drafted_payload.ensures.drafted c.in_ok-push.ensures.ok;
      short = all_more (λ (one : Placed). length one.bytes < 2 ^ 64) l.payloads c.push.new.self one l.invariant.short c.in_ok-drafted_payload.ensures.short
          c.in_ok-push.ensures.ok;
    }

pub returns-clause-drafted : goal.returns-clause-drafted
returns-clause-drafted c =
    let l = c.loop-chunk in
    l.invariant.made
    ∙ ap (map (λ (chunk : Chunk). drafted (spelling c.args.schema.now.attributes chunk))) (take_all l.chunk-index c.args.chunks.now c.loop-chunk-test.false)

pub loop-chunk-init : goal.loop-chunk-init
loop-chunk-init c = record {
  made = c.in_ok-payloads.ensures;
  short = subst (λ (payloads : List Placed). AllByRecursion (λ one. length one.bytes < 2 ^ 64) payloads) (sym c.in_ok-payloads.ensures) tt;
}

pub returns-clause-short : goal.returns-clause-short
returns-clause-short c = c.loop-chunk.invariant.short

pub bounds-chunks-chunk-index : goal.bounds-chunks-chunk-index
bounds-chunks-chunk-index c = c.loop-chunk-test.true

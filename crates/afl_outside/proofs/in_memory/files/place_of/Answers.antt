use Rattle.std.proofs.Common.{◌≡◌, true, false, ◌+◌, ◌<◌, List, ◌++◌, length, get_or, take, drop, sym, ◌∙◌, ap, subst, arith}
use Rattle.std.specs.Str.{bytes_eq}
use Rattle.afl_outside.specs.Files.{file_of, without}
use Rattle.afl_outside.specs.declared.in_memory.mem_file.MemFile.{MemFile}
use Rattle.afl_outside.proofs.FileLemmas.{found, found_rest, passed_over, passed_rest}
use Rattle.afl_outside.proofs.in_memory.files.place_of.Goals as goal

pub loop-i-preserved : goal.loop-i-preserved
loop-i-preserved c =
    let files = c.args.files.now in
    let name = c.args.name.now in
    let i = c.loop-i.i in
    let f = c.file-item.result in
    let lt : i < length files = omega (arith, c.loop-i-test.true, ap length c.as_slice-file-items.ensures) in
    let is : f ≡ get_or files i f = rw c.as_slice-file-items.ensures at c.file-item.is in
    let differs : bytes_eq f.name name ≡ false = ap (λ x. bytes_eq x name) (sym c.as_slice.ensures) ∙ sym c.eq.ensures ∙ c.if-eq.false in
    let skips = rw c.as_slice-file-items.ensures at c.loop-i.invariant in
    subst (λ (l : List MemFile). (file_of (drop (i + 1) l) name ≡ file_of files name) × (without files name ≡ take (i + 1) l ++ without (drop (i + 1) l) name))
    (sym c.as_slice-file-items.ensures) (passed_over files i name f lt is differs skips.0, passed_rest files i name f lt is differs skips.1)

pub returns-then-eq-clause-file : goal.returns-then-eq-clause-file
returns-then-eq-clause-file c =
    let files = c.args.files.now in
    let lt : c.loop-i.i < length files = omega (arith, c.loop-i-test.true, ap length c.as_slice-file-items.ensures) in
    let is : c.file-item.result ≡ get_or files c.loop-i.i c.file-item.result = rw c.as_slice-file-items.ensures at c.file-item.is in
    let same : bytes_eq c.file-item.result.name c.args.name.now ≡ true = ap (λ x. bytes_eq x c.args.name.now) (sym c.as_slice.ensures) ∙ sym c.eq.ensures ∙ c.if-eq.true in
    let skips = rw c.as_slice-file-items.ensures at c.loop-i.invariant.0 in
    (lt, found files c.loop-i.i c.args.name.now c.file-item.result lt is same skips)

pub returns-then-eq-clause-rest : goal.returns-then-eq-clause-rest
returns-then-eq-clause-rest c =
    let files = c.args.files.now in
    let lt : c.loop-i.i < length files = omega (arith, c.loop-i-test.true, ap length c.as_slice-file-items.ensures) in
    let is : c.file-item.result ≡ get_or files c.loop-i.i c.file-item.result = rw c.as_slice-file-items.ensures at c.file-item.is in
    let same : bytes_eq c.file-item.result.name c.args.name.now ≡ true = ap (λ x. bytes_eq x c.args.name.now) (sym c.as_slice.ensures) ∙ sym c.eq.ensures ∙ c.if-eq.true in
    let skips = rw c.as_slice-file-items.ensures at c.loop-i.invariant.1 in
    found_rest files c.loop-i.i c.args.name.now c.file-item.result lt is same skips

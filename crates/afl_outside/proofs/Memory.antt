-- What reads and writes of objects in memory do to what they tell.
use Rattle.std.proofs.Common.{◌≡◌, ◌≤◌, ◌<◌, ℕ, ◌+◌, ◌-◌, max, min, replicate, append_assoc, length-append, List, [], ◌++◌, ◌⊎◌, inl, inr, length, take, drop, refl, sym, ◌∙◌, ap, subst, arith, append-nil, take-append-drop, Some, Result, Ok, Err, MatchResult}
use Rattle.std.proofs.lemmas.List.{drop-drop, take_all, take_at, length-drop, length-take-le, take-replicate, take-append-le, length-replicate}
use Rattle.std.proofs.Math.ListN.{drop_of_length-le}
use Rattle.afl_outside.specs.Disk.{written, ReadsAt}
use Rattle.std.proofs.Math.Seq.{take-length}
use Rattle.afl_outside.specs.Source.{Gives}
use Rattle.afl_outside.specs.Sink.{Takes}
use Rattle.afl_outside.specs.InMemory.{Reading, read_on, ReadsPiece, MemorySource, MemoryReads, SureReads, told_source, memory_source_state, sure_source_state, Holding, written_on, MemorySink, MemoryWrites, SureWrites, told_sink, memory_sink_state, sure_sink_state}
use Rattle.afl_outside.specs.declared.source.Failed.{Failed}

Gives-read_on : (name : List ℕ) (old : Reading) (n faults later : ℕ) (into : List ℕ) → ReadsPiece old n into → faults ≤ later
    → Gives (told_source name old faults) (told_source name (read_on n old) later) (take n into)
Gives-read_on name old n faults later into reads le =
    let size : length (take n into) ≡ n = length-take-le n into (omega (arith, reads.most)) in
    record {
      name = refl;
      first = refl;
      left = sym (take-append-drop n old.left) ∙ ap (λ (l : List ℕ). l ++ drop n old.left) (sym reads.bytes);
      given = omega (arith, size);
      later = le;
    }

Gives-same : (name : List ℕ) (old : Reading) (faults later : ℕ) → faults ≤ later → Gives (told_source name old faults) (told_source name old later) []
Gives-same name old faults later le = record { name = refl; first = refl; left = refl; given = omega arith; later = le }

-- what was read was given
pub gives_what_was_read : (into : List ℕ) (old new : MemorySource) (result : Result ℕ Failed) → MemoryReads into old new result → old.turns.faults ≤ new.turns.faults
    → MatchResult result (λ n. Gives (memory_source_state old) (memory_source_state new) (take n into)) (λ _. Gives (memory_source_state old) (memory_source_state new) [])
gives_what_was_read into old new (Ok n) (fits, reads, is) later =
    subst (λ (s : MemorySource). old.turns.faults ≤ s.turns.faults → Gives (memory_source_state old) (memory_source_state s) (take n into)) (sym is) (Gives-read_on old.name old.bytes n old.turns.faults _ into reads) later
gives_what_was_read into old new (Err e) (listed, is) later =
    subst (λ (s : MemorySource). old.turns.faults ≤ s.turns.faults → Gives (memory_source_state old) (memory_source_state s) []) (sym is) (Gives-same old.name old.bytes old.turns.faults _) later

pub sure_gives_what_was_read : (into : List ℕ) (old new : Reading) (result : Result ℕ Failed) → SureReads into old new result
    → MatchResult result (λ n. Gives (sure_source_state old) (sure_source_state new) (take n into)) (λ _. Gives (sure_source_state old) (sure_source_state new) [])
sure_gives_what_was_read into old new (Ok n) (reads, is) =
    subst (λ (r : Reading). Gives (sure_source_state old) (sure_source_state r) (take n into)) (sym is) (Gives-read_on [] old n 0 0 into reads (omega arith))
sure_gives_what_was_read into old new (Err e) never = absurd never

Takes-written_on : (name : List ℕ) (old : Holding) (faults later : ℕ) (piece : List ℕ) → faults ≤ later
    → Takes (told_sink name old faults) (told_sink name (written_on piece old) later) (take (length piece) piece)
Takes-written_on name old faults later piece le =
    record { name = refl; first = refl; held = ap (λ (l : List ℕ). old.held ++ l) (sym (take-length piece)); later = le; wants_later = omega arith }

Takes-same : (name name' : List ℕ) (old new : Holding) (faults later : ℕ) → name' ≡ name → new.first ≡ old.first → new.held ≡ old.held → faults ≤ later → old.wants ≤ new.wants
    → Takes (told_sink name old faults) (told_sink name' new later) []
Takes-same name name' old new faults later named first held le w = record { name = ap Some named; first = ap Some first; held = held ∙ sym (append-nil old.held); later = le; wants_later = w }

-- what was written was taken
pub takes_what_was_written : (piece : List ℕ) (old new : MemorySink) (result : Result ℕ Failed) → MemoryWrites piece old new result → old.turns.faults ≤ new.turns.faults → old.bytes.wants ≤ new.bytes.wants
    → MatchResult result (λ n. Takes (memory_sink_state old) (memory_sink_state new) (take n piece)) (λ _. Takes (memory_sink_state old) (memory_sink_state new) [])
takes_what_was_written piece old new (Ok n) (fits, size, is) later wants =
    let whole = subst (λ (s : MemorySink). old.turns.faults ≤ s.turns.faults → Takes (memory_sink_state old) (memory_sink_state s) (take (length piece) piece)) (sym is) (Takes-written_on old.name old.bytes old.turns.faults _ piece) later in
    subst (λ k. Takes (memory_sink_state old) (memory_sink_state new) (take k piece)) (sym size) whole
takes_what_was_written piece old new (Err e) (inl (listed, is)) later wants =
    Takes-same old.name new.name old.bytes new.bytes _ _ (ap (λ (s : MemorySink). s.name) is) (ap (λ (s : MemorySink). s.bytes.first) is) (ap (λ (s : MemorySink). s.bytes.held) is) later wants
takes_what_was_written piece old new (Err e) (inr (fits, is)) later wants =
    Takes-same old.name new.name old.bytes new.bytes _ _ (ap (λ (s : MemorySink). s.name) is) (ap (λ (s : MemorySink). s.bytes.first) is) (ap (λ (s : MemorySink). s.bytes.held) is) later wants

pub sure_takes_what_was_written : (piece : List ℕ) (old new : Holding) (result : Result ℕ Failed) → SureWrites piece old new result → old.wants ≤ new.wants
    → MatchResult result (λ n. Takes (sure_sink_state old) (sure_sink_state new) (take n piece)) (λ _. Takes (sure_sink_state old) (sure_sink_state new) [])
sure_takes_what_was_written piece old new (Ok n) (size, is) wants =
    let whole = subst (λ (h : Holding). Takes (sure_sink_state old) (sure_sink_state h) (take (length piece) piece)) (sym is) (Takes-written_on [] old 0 0 piece (omega arith)) in
    subst (λ k. Takes (sure_sink_state old) (sure_sink_state new) (take k piece)) (sym size) whole
sure_takes_what_was_written piece old new (Err e) is wants =
    Takes-same [] [] old new 0 0 refl (ap (λ (h : Holding). h.first) is) (ap (λ (h : Holding). h.held) is) (omega arith) wants

-- what fits of what is left was read
pub reads_piece : (r : Reading) (from old into : List ℕ) (n : ℕ) → from ≡ r.left → n ≡ min (length from) (length old) → into ≡ take n from ++ drop n old → ReadsPiece r n into
reads_piece r from old into n f m is =
    let front : length (take n from) ≡ n = length-take-le n from (omega (arith, m)) in
    let long : length into ≡ length old = omega (arith, ap length is, length-append (take n from) (drop n old), front, length-drop n old, m) in
    record { most = omega (arith, ap length f, m, long); bytes = ap (take n) is ∙ take_at (take n from) (drop n old) n front ∙ ap (take n) f }

abbrev pub reading : List ℕ → ℕ → Reading
reading content at = record { first = content; left = drop at content; given = at }

-- what is behind that is left
pub read_behind : (content : List ℕ) (at n : ℕ) → reading content (at + n) ≡ read_on n (reading content at)
read_behind content at n = let made : List ℕ → Reading = λ l. record { first = content; left = l; given = at + n } in ap made (sym (drop-drop n at content))

le_or_more : (a b : ℕ) → (a ≤ b) ⊎ (b < a)
le_or_more a b = grind arith

abbrev pub holding : ℕ → List ℕ → ℕ → Holding
holding begun held wants = record { first = take begun held; held = held; wants = wants }

-- what is written behind leaves the bytes with which a sink began
pub written_behind : (held bytes now : List ℕ) (begun wants : ℕ) → begun ≤ length held → now ≡ held ++ bytes → holding begun now wants ≡ written_on bytes (holding begun held wants)
written_behind held bytes now begun wants fits is = λ i. record { first = (ap (take begun) is ∙ take-append-le begun held bytes fits) i; held = is i; wants = wants }

-- what fits of the bytes from a place on was copied
pub reads_from : (content from old into : List ℕ) (at place n : ℕ) → place ≡ min (length content) at → from ≡ drop place content → n ≡ min (length from) (length old)
    → into ≡ take n from ++ drop n old → ReadsAt content at n into
reads_from content from old into at place n p f m is =
    let left : length from ≡ length content - place = ap length f ∙ length-drop place content in
    let front : length (take n from) ≡ n = length-take-le n from (omega (arith, m)) in
    let long : length into ≡ length old = omega (arith, ap length is, length-append (take n from) (drop n old), front, length-drop n old, m) in
    record {
      most = omega (arith, p, left, m, long);
      bytes = ap (take n) is ∙ take_at (take n from) (drop n old) n front ∙ ap (take n) f ∙ same (le_or_more at (length content)) left;
    }
  where
    same : (at ≤ length content) ⊎ (length content < at) → length from ≡ length content - place → take n (drop place content) ≡ take n (drop at content)
    same (inl fits) left = ap (λ (k : ℕ). take n (drop k content)) (let e : place ≡ at = omega (arith, p, fits) in e)
    same (inr past) left =
        let none : n ≡ 0 = omega (arith, p, past, left, m) in
        ap (λ (k : ℕ). take k (drop place content)) none ∙ sym (ap (λ (k : ℕ). take k (drop at content)) none)

-- as many zeros as reach the place, of more that stand there
front_of-zeros : (at m : ℕ) (old : List ℕ) → at - length old ≤ m → take at (old ++ replicate m 0) ≡ take at (old ++ replicate (at - length old) 0)
front_of-zeros at m old le =
    let gap = at - length old in
    let zeros : List ℕ = replicate m 0 in
    let split : old ++ zeros ≡ (old ++ replicate gap 0) ++ drop gap zeros =
    ap (λ (l : List ℕ). old ++ l) (sym (take-append-drop gap zeros) ∙ ap (λ (l : List ℕ). l ++ drop gap zeros) (take-replicate gap m 0 le)) ∙ sym (append_assoc old (replicate gap 0) (drop gap zeros)) in
    ap (take at) split ∙ take-append-le at (old ++ replicate gap 0) (drop gap zeros) (omega (arith, length-append old (replicate {A = ℕ} gap 0), length-replicate {A = ℕ} gap 0))

-- nothing but what was there stands past the end of a write
back_of-zeros : (end : ℕ) (old : List ℕ) → drop end (old ++ replicate (max (length old) end - length old) 0) ≡ drop end old
back_of-zeros end old = split (le_or_more end (length old))
  where
    split : (end ≤ length old) ⊎ (length old < end) → drop end (old ++ replicate (max (length old) end - length old) 0) ≡ drop end old
    split (inl fits) = ap (λ m. drop end (old ++ replicate m 0)) (let none : max (length old) end - length old ≡ 0 = omega (arith, fits) in none) ∙ ap (drop end) (append-nil old)
    split (inr past) =
        let zeros : List ℕ = replicate (max (length old) end - length old) 0 in
        drop_of_length-le (old ++ zeros) (omega (arith, past, length-append old zeros, length-replicate {A = ℕ} (max (length old) end - length old) 0)) ∙ sym (drop_of_length-le old (omega (arith, past)))

-- a part that was written over in bytes that reach its end
pub written_over : (at : ℕ) (bytes old : List ℕ) → let end = at + length bytes in let grown = old ++ replicate (max (length old) end - length old) 0 in
    take at grown ++ (bytes ++ drop end grown) ≡ written at bytes old
written_over at bytes old =
    let end = at + length bytes in
    let m = max (length old) end - length old in
    let grown = old ++ replicate m 0 in
    ap (λ (l : List ℕ). l ++ (bytes ++ drop end grown)) (front_of-zeros at m old (omega arith))
    ∙ ap (λ (l : List ℕ). take at (old ++ replicate (at - length old) 0) ++ (bytes ++ l)) (back_of-zeros end old)
    ∙ sym (append_assoc (take at (old ++ replicate (at - length old) 0)) bytes (drop end old))

-- a vector was made long enough, and then written over
pub laid : (at m len : ℕ) (bytes old items lent new : List ℕ) → new ≡ take at lent ++ (bytes ++ drop (at + length bytes) lent) → lent ≡ items → items ≡ take m old ++ replicate (m - length old) 0
    → m ≡ max (length old) (at + length bytes) → len ≡ m → take len (new ++ drop (length new) items) ≡ written at bytes old
laid at m len bytes old items lent new over lends grows most size =
    let end = at + length bytes in
    let zeros : List ℕ = replicate (max (length old) end - length old) 0 in
    let grown : lent ≡ old ++ zeros = lends ∙ grows ∙ ap (λ (l : List ℕ). l ++ replicate (m - length old) 0) (take_all m old (omega (arith, most))) ∙ ap (λ k. old ++ replicate (k - length old) 0) most in
    let long : length (old ++ zeros) ≡ m = omega (arith, most, length-append old zeros, length-replicate {A = ℕ} (max (length old) end - length old) 0) in
    let is : new ≡ take at (old ++ zeros) ++ (bytes ++ drop end (old ++ zeros)) = over ∙ ap (λ (l : List ℕ). take at l ++ (bytes ++ drop end l)) grown in
    let front : length (take at (old ++ zeros)) ≡ at = length-take-le at (old ++ zeros) (omega (arith, most, long)) in
    let all : length new ≡ len = omega (arith, ap length is, length-append (take at (old ++ zeros)) (bytes ++ drop end (old ++ zeros)), length-append bytes (drop end (old ++ zeros)), length-drop end (old ++ zeros), front, long, most, size) in
    take_at new (drop (length new) items) len all ∙ is ∙ written_over at bytes old

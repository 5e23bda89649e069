-- What files hold, by name.
use Rattle.std.proofs.Common.{◌≡◌, ◌≢◌, ◌<◌, ◌≤◌, ◌⊎◌, inl, inr, ℕ, suc, ◌+◌, true, false, List, [], ◌∷◌, ◌++◌, length, get_or, take, drop, remove, cond, Some, None, unwrap_or, Result, Ok, Err, OnErr, IfOk, Contains, refl, sym, ◌∙◌, ap, subst, arith, drop-cons, append_assoc}
use Rattle.std.proofs.lemmas.List.{get_or_default, take_more}
use Rattle.std.proofs.lemmas.Option.{get_or_from_slice_get}
use Rattle.std.proofs.lemmas.Slice.Eq.{bytes_eq-Decides}
use Rattle.std.specs.List.{slice_get}
use Rattle.std.specs.Str.{bytes_eq}
use Rattle.std.specs.Option.{option_map}
use Rattle.std.specs.declared.option.Option.{Option}
use Rattle.afl_outside.specs.Counts.{risen, Rose}
use Rattle.afl_outside.specs.Turns.{Turns, passed, failed}
use Rattle.afl_outside.specs.Sink.{IsNewSink}
use Rattle.afl_outside.specs.InMemory.{MemorySink, memory_sink_state}
use Rattle.afl_outside.specs.Shelf.{KeepsWord, LeavesOthers, Hands}
use Rattle.afl_outside.specs.Files.{file_of, without, file_bytes, if_sure, MemoryShelf, OpensFile, OpensReply, made_reply, memory_shelf_state}
use Rattle.afl_outside.specs.declared.source.Failed.{Failed}
use Rattle.afl_outside.specs.declared.in_memory.mem_file.MemFile.{MemFile}

-- a file that is found has the name
pub file_of-name : (files : List MemFile) (name : List ℕ) (f : MemFile) → file_of files name ≡ Some f → f.name ≡ name
file_of-name [] name f is = cc
file_of-name (g ∷ files) name f is = elim (bytes_eq g.name name) as (λ b. bytes_eq g.name name ≡ b → cond b (Some g) (file_of files name) ≡ Some f → f.name ≡ name) [
  | true ↦ λ e found. sym (ap (λ o. (unwrap_or o g).name) found) ∙ (bytes_eq-Decides g.name name).0 e
  | false ↦ λ e found. file_of-name files name f found
] refl is

differs : (a b n : List ℕ) → a ≡ b → n ≢ b → bytes_eq a n ≡ false
differs a b n same other = elim (bytes_eq a n) as (λ v. bytes_eq a n ≡ v → bytes_eq a n ≡ false) [
  | true ↦ λ e. absurd (other (sym ((bytes_eq-Decides a n).0 e) ∙ same))
  | false ↦ λ e. e
] refl

-- taking a file out leaves those of other names
pub file_of-without : (files : List MemFile) (name n : List ℕ) → n ≢ name → file_of (without files name) n ≡ file_of files n
file_of-without [] name n other = refl
file_of-without (g ∷ files) name n other = elim (bytes_eq g.name name) as (λ b. bytes_eq g.name name ≡ b → file_of (cond b files (g ∷ without files name)) n ≡ cond (bytes_eq g.name n) (Some g) (file_of files n)) [
  | true ↦ λ e. sym (ap (λ b. cond b (Some g) (file_of files n)) (differs g.name name n ((bytes_eq-Decides g.name name).0 e) other))
  | false ↦ λ e. ap (λ (o : Option MemFile). cond (bytes_eq g.name n) (Some g) o) (file_of-without files name n other)
] refl

pub file_bytes-without : (files : List MemFile) (name n : List ℕ) → n ≢ name → file_bytes (without files name) n ≡ file_bytes files n
file_bytes-without files name n other = ap (option_map (λ (f : MemFile). f.content)) (file_of-without files name n other)

module _ (files : List MemFile) (i : ℕ) (name : List ℕ) (f : MemFile) (lt : i < length files) (is : f ≡ get_or files i f) where
  here : (d : MemFile) → drop i files ≡ f ∷ drop (suc i) files
  here d = drop-cons files i d lt ∙ ap (λ (x : MemFile). x ∷ drop (suc i) files) (get_or_default files i d f lt ∙ sym is)

  -- the first file of the name is found
  pub found : bytes_eq f.name name ≡ true → file_of (drop i files) name ≡ file_of files name → (d : MemFile) → ((get_or files i d).name ≡ name) × (file_of files name ≡ Some (get_or files i d))
  found same skips d =
      let item : get_or files i d ≡ f = get_or_default files i d f lt ∙ sym is in (
        ap (λ (x : MemFile). x.name) item ∙ (bytes_eq-Decides f.name name).0 same,
        sym skips ∙ ap (λ (l : List MemFile). file_of l name) (here d) ∙ ap (λ b. cond b (Some f) (file_of (drop (suc i) files) name)) same ∙ ap Some (sym item),
      )

  pub found_rest : bytes_eq f.name name ≡ true → without files name ≡ take i files ++ without (drop i files) name → without files name ≡ remove files i
  found_rest same skips = skips ∙ ap (λ (l : List MemFile). take i files ++ l) (ap (λ (l : List MemFile). without l name) (here f) ∙ ap (λ b. cond b (drop (suc i) files) (f ∷ without (drop (suc i) files) name)) same)

  -- a file of another name is passed over
  pub passed_over : bytes_eq f.name name ≡ false → file_of (drop i files) name ≡ file_of files name → file_of (drop (i + 1) files) name ≡ file_of files name
  passed_over differs skips = ap (λ k. file_of (drop k files) name) (let e : i + 1 ≡ suc i = omega arith in e) ∙ sym (ap (λ (l : List MemFile). file_of l name) (here f) ∙ ap (λ b. cond b (Some f) (file_of (drop (suc i) files) name)) differs) ∙ skips

  pub passed_rest : bytes_eq f.name name ≡ false → without files name ≡ take i files ++ without (drop i files) name → without files name ≡ take (i + 1) files ++ without (drop (i + 1) files) name
  passed_rest differs skips =
      let rest = without (drop (suc i) files) name in
      skips ∙ ap (λ (l : List MemFile). take i files ++ l) (ap (λ (l : List MemFile). without l name) (here f) ∙ ap (λ b. cond b (drop (suc i) files) (f ∷ rest)) differs)
      ∙ sym (append_assoc (take i files) (f ∷ []) rest)
      ∙ ap (λ (l : List MemFile). l ++ rest) (ap (λ (x : MemFile). take i files ++ x ∷ []) is ∙ sym (take_more files i f lt))
      ∙ ap (λ k. take (i + 1) files ++ without (drop k files) name) (let e : suc i ≡ i + 1 = omega arith in e)

-- what is taken from the place where a name was found
pub taken : (files : List MemFile) (i : ℕ) (name : List ℕ) (f : MemFile) → slice_get files i ≡ Some f → (i < length files) × ((d : MemFile) → ((get_or files i d).name ≡ name) × (file_of files name ≡ Some (get_or files i d)))
    → (f.name ≡ name) × (Some f ≡ file_of files name)
taken files i name f is here =
    let item : get_or files i f ≡ f = get_or_from_slice_get files i f f is in
    (sym (ap (λ (x : MemFile). x.name) item) ∙ (here.1 f).0, sym ((here.1 f).1 ∙ ap Some item))

-- what a shelf leaves of other names, whichever name was asked
record KeepsOthers (asked : List ℕ) (old new : MemoryShelf) : Type 0 where
  pub files : (n : List ℕ) → n ≢ asked → file_bytes new.files n ≡ file_bytes old.files n
  pub replies : (n : List ℕ) → n ≢ asked → file_bytes new.replies n ≡ file_bytes old.replies n
  pub fails : new.turns.fails ≡ old.turns.fails

leaves : (asked : List ℕ) (old new : MemoryShelf) → KeepsOthers asked old new → old.turns.faults ≤ new.turns.faults → old.wants ≤ new.wants → LeavesOthers asked (memory_shelf_state old) (memory_shelf_state new)
leaves asked old new keeps later wants_later =
    let sure : (n : List ℕ) → n ≢ asked → if_sure new.turns.fails (file_bytes new.files n) ≡ if_sure old.turns.fails (file_bytes old.files n) =
    λ n other. ap (λ (l : List ℕ). if_sure l (file_bytes new.files n)) keeps.fails ∙ ap (if_sure old.turns.fails) (keeps.files n other) in
    record {
      scripts = sure;
      replies = λ n other. ap (λ (l : List ℕ). if_sure l (Some (unwrap_or (file_bytes new.replies n) []))) keeps.fails ∙ ap (λ (o : Option (List ℕ)). if_sure old.turns.fails (Some (unwrap_or o []))) (keeps.replies n other);
      devices = sure;
      later = later;
      wants_later = wants_later;
    }

none_listed : (call : ℕ) → Contains [] call → ⊥
none_listed call (k, lt, is) = omega (arith, lt)

-- a script or a device that is opened
module _ {T : Type 0} (made : MemFile → T) (count : ℕ → ℕ) where
  -- what holds after both ways in which the call can end holds after it
  outcomes : (P : MemoryShelf → Type 0) (name : List ℕ) (old new : MemoryShelf) (result : Result T Failed) → OpensFile made count name old new result
      → P (record old { files = without old.files name; turns = passed old.turns; handed = count old.handed }) → P (record old { turns = failed old.turns }) → P new
  outcomes P name old new (Ok x) opens ok err = subst P (sym opens.4) ok
  outcomes P name old new (Err e) opens ok err = subst P (sym opens.1) err

  -- it is made of a file of that name
  pub opened_handed : (P : T → Type 0) (name : List ℕ) (old new : MemoryShelf) (result : Result T Failed) → OpensFile made count name old new result → ((f : MemFile) → f.name ≡ name → P (made f)) → IfOk result P
  opened_handed P name old new (Ok x) opens good = subst P (sym opens.3) (good opens.0 (file_of-name old.files name opens.0 opens.1))
  opened_handed P name old new (Err e) opens good = tt

  word : (first : T → Option (List ℕ)) → ((f : MemFile) → first (made f) ≡ Some f.content) → (fails : List ℕ) (call before now : ℕ) (found : Option MemFile) (result : Result T Failed)
      → IfOk result (λ x. (f : MemFile) × (found ≡ Some f) × (x ≡ made f)) → OnErr result (Contains fails call ⊎ (found ≡ None))
      → KeepsWord (if_sure fails (option_map (λ (f : MemFile). f.content) found)) before now first result
  word first begins (c ∷ fails) call before now found result ok err = tt
  word first begins [] call before now None result ok err = tt
  word first begins [] call before now (Some f) (Ok x) ok err = ap first ok.2 ∙ begins ok.0 ∙ ap (λ (o : Option MemFile). option_map (λ (f : MemFile). f.content) o) (sym ok.1)
  word first begins [] call before now (Some f) (Err e) ok (inl listed) = absurd (none_listed call listed)
  word first begins [] call before now (Some f) (Err e) ok (inr none) = cc

  pub opened_told : (first : T → Option (List ℕ)) → ((f : MemFile) → first (made f) ≡ Some f.content) → (name : List ℕ) (old new : MemoryShelf) (result : Result T Failed) → OpensFile made count name old new result
      → KeepsWord ((memory_shelf_state old).scripts name) old.wants new.wants first result
  opened_told first begins name old new (Ok x) opens = word first begins old.turns.fails old.turns.calls old.wants new.wants (file_of old.files name) (Ok x) (opens.0, opens.1, opens.3) tt
  opened_told first begins name old new (Err e) opens = word first begins old.turns.fails old.turns.calls old.wants new.wants (file_of old.files name) (Err e) tt opens.0

  pub opened_others : (name : List ℕ) (old new : MemoryShelf) (result : Result T Failed) → OpensFile made count name old new result → old.turns.faults ≤ new.turns.faults
      → LeavesOthers name (memory_shelf_state old) (memory_shelf_state new)
  opened_others name old new result opens later =
      leaves name old new (outcomes (KeepsOthers name old) name old new result opens (record { files = file_bytes-without old.files name; replies = λ n other. refl; fails = refl }) (record { files = λ n other. refl; replies = λ n other. refl; fails = refl })) later
      (outcomes (λ s. old.wants ≤ s.wants) name old new result opens (omega arith) (omega arith))

  pub opened_replies : (name : List ℕ) (old new : MemoryShelf) (result : Result T Failed) → OpensFile made count name old new result → (n : List ℕ) → (memory_shelf_state new).replies n ≡ (memory_shelf_state old).replies n
  opened_replies name old new result opens n = outcomes (λ s. (memory_shelf_state s).replies n ≡ (memory_shelf_state old).replies n) name old new result opens refl refl

  pub opened_cause : (name : List ℕ) (old new : MemoryShelf) (result : Result T Failed) → OpensFile made count name old new result → OnErr result (Rose old.turns.faults new.turns.faults ⊎ Rose old.wants new.wants)
  opened_cause name old new (Ok x) opens = tt
  opened_cause name old new (Err e) opens = inl (omega (arith, ap (λ (s : MemoryShelf). s.turns.faults) opens.1))

-- a reply that is opened
reply_outcomes : (P : MemoryShelf → Type 0) (name : List ℕ) (old new : MemoryShelf) (result : Result MemorySink Failed) → OpensReply name old new result
    → P (record old { replies = without old.replies name; turns = passed old.turns; handed = risen old.handed }) → ((turns : Turns) (wants : ℕ) → turns.fails ≡ old.turns.fails → P (record old { turns = turns; wants = wants })) → P new
reply_outcomes P name old new (Ok x) opens ok err = subst P (sym opens.2) ok
reply_outcomes P name old new (Err e) (inl opens) ok err = subst P (sym opens.1) (err (failed old.turns) old.wants refl)
reply_outcomes P name old new (Err e) (inr opens) ok err = subst P (sym opens.2) (err (passed old.turns) (risen old.wants) refl)

made_handed : (name : List ℕ) (found : Option MemFile) → ((f : MemFile) → found ≡ Some f → f.name ≡ name) → IsNewSink name (memory_sink_state (made_reply name found))
made_handed name None named = record { name = refl; held = refl; faults = refl; wants = refl }
made_handed name (Some f) named = record { name = named f refl; held = refl; faults = refl; wants = refl }

pub reply_handed : (name : List ℕ) (old new : MemoryShelf) (result : Result MemorySink Failed) → OpensReply name old new result → IfOk result (λ k. IsNewSink name (memory_sink_state k))
reply_handed name old new (Ok x) opens = subst (λ (k : MemorySink). IsNewSink name (memory_sink_state k)) (sym opens.1) (made_handed name (file_of old.replies name) (file_of-name old.replies name))
reply_handed name old new (Err e) opens = tt

made_first : (name : List ℕ) (found : Option MemFile) → (memory_sink_state (made_reply name found)).first ≡ Some (unwrap_or (option_map (λ (f : MemFile). f.content) found) [])
made_first name None = refl
made_first name (Some f) = refl

reply_word : (fails : List ℕ) (call before now : ℕ) (bytes : List ℕ) (result : Result MemorySink Failed) → IfOk result (λ k. (memory_sink_state k).first ≡ Some bytes) → OnErr result (Contains fails call ⊎ Rose before now)
    → KeepsWord (if_sure fails (Some bytes)) before now (λ k. (memory_sink_state k).first) result
reply_word (c ∷ fails) call before now bytes result ok err = tt
reply_word [] call before now bytes (Ok x) ok err = ok
reply_word [] call before now bytes (Err e) ok (inl listed) = absurd (none_listed call listed)
reply_word [] call before now bytes (Err e) ok (inr rose) = rose

pub reply_told : (name : List ℕ) (old new : MemoryShelf) (result : Result MemorySink Failed) → OpensReply name old new result
    → KeepsWord ((memory_shelf_state old).replies name) old.wants new.wants (λ k. (memory_sink_state k).first) result
reply_told name old new (Ok x) opens =
    reply_word old.turns.fails old.turns.calls old.wants new.wants (unwrap_or (file_bytes old.replies name) []) (Ok x) (ap (λ (k : MemorySink). (memory_sink_state k).first) opens.1 ∙ made_first name (file_of old.replies name)) tt
reply_told name old new (Err e) (inl opens) = reply_word old.turns.fails old.turns.calls old.wants new.wants (unwrap_or (file_bytes old.replies name) []) (Err e) tt (inl opens.0)
reply_told name old new (Err e) (inr opens) = reply_word old.turns.fails old.turns.calls old.wants new.wants (unwrap_or (file_bytes old.replies name) []) (Err e) tt (inr (omega (arith, ap (λ (s : MemoryShelf). s.wants) opens.2)))

pub reply_others : (name : List ℕ) (old new : MemoryShelf) (result : Result MemorySink Failed) → OpensReply name old new result → old.turns.faults ≤ new.turns.faults → old.wants ≤ new.wants
    → LeavesOthers name (memory_shelf_state old) (memory_shelf_state new)
reply_others name old new result opens later wants_later =
    leaves name old new (reply_outcomes (KeepsOthers name old) name old new result opens (record { files = λ n other. refl; replies = file_bytes-without old.replies name; fails = refl }) (λ turns wants fails. record { files = λ n other. refl; replies = λ n other. refl; fails = fails })) later wants_later

pub reply_cause : (name : List ℕ) (old new : MemoryShelf) (result : Result MemorySink Failed) → OpensReply name old new result → OnErr result (Rose old.turns.faults new.turns.faults ⊎ Rose old.wants new.wants)
reply_cause name old new (Ok x) opens = tt
reply_cause name old new (Err e) (inl opens) = inl (omega (arith, ap (λ (s : MemoryShelf). s.turns.faults) opens.1))
reply_cause name old new (Err e) (inr opens) = inr (omega (arith, ap (λ (s : MemoryShelf). s.wants) opens.2))

-- what can be written is counted as it is handed out
pub script_counted : {T : Type 0} (made : MemFile → T) (name : List ℕ) (old new : MemoryShelf) (result : Result T Failed) → OpensFile made (λ n. n) name old new result → new.handed ≡ old.handed
script_counted made name old new (Ok x) opens = ap (λ (s : MemoryShelf). s.handed) opens.4
script_counted made name old new (Err e) opens = ap (λ (s : MemoryShelf). s.handed) opens.1

pub device_counted : {T : Type 0} (made : MemFile → T) (name : List ℕ) (old new : MemoryShelf) (result : Result T Failed) → OpensFile made risen name old new result → Hands old.handed new.handed result
device_counted made name old new (Ok x) opens = ap (λ (s : MemoryShelf). s.handed) opens.4
device_counted made name old new (Err e) opens = ap (λ (s : MemoryShelf). s.handed) opens.1

pub reply_counted : (name : List ℕ) (old new : MemoryShelf) (result : Result MemorySink Failed) → OpensReply name old new result → Hands old.handed new.handed result
reply_counted name old new (Ok x) opens = ap (λ (s : MemoryShelf). s.handed) opens.2
reply_counted name old new (Err e) (inl opens) = ap (λ (s : MemoryShelf). s.handed) opens.1
reply_counted name old new (Err e) (inr opens) = ap (λ (s : MemoryShelf). s.handed) opens.2

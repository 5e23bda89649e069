-- Texts that go out one behind the other, and why no more does.
use Rattle.std.proofs.Common.{◌≡◌, ℕ, zero, suc, false, true, ◌+◌, ◌≤◌, List, [], ◌∷◌, ◌++◌, map, length, take, drop, get_or, Result, Ok, Err, OnOk, OnErr, IfErr, refl, sym, ap, subst, ◌∙◌, append_assoc, arith}
use Rattle.std.specs.List.{flat_map}
use Rattle.std.specs.Result.{IsErr}
use Rattle.std.proofs.lemmas.List.{append-nil, take-append-drop, take_more, take_all}
use Rattle.std.proofs.lemmas.Grind.{flat_map-append}
use Rattle.std.proofs.lemmas.List.Concat.{flat_map-cons}
use Rattle.sha2.specs.Hashers.{Holds256}
use Rattle.afl_outside.specs.Counts.{Rose}
use Rattle.afl_outside.specs.Sink.{SinkState, Takes}
use Rattle.afl_outside.proofs.Streams.{Takes-nothing, Takes-more}
use Rattle.logical_plan.specs.Meaning.{Database}
use Rattle.chunk_source.specs.Source.{SourceState, Keeps}
use Rattle.backup_writing.specs.declared.digest_sink.DigestSink.{DigestSink}
use Rattle.backup_writing.specs.declared.stop.WriteStop.{WriteStop}
use Rattle.backup_writing.specs.declared.stop.WriteStop.TheVariants as stops
use Rattle.backup_writing.specs.Writing.{Wrote, Broke, Writes, HasCause, IsSinkFault, IsSourceFault}

module _ {K : Type 0} (sink_of : K → SinkState) (tells : Database → Type 0) where
  pub wrote_none : (text : Database → List ℕ) (out : DigestSink K) → ((db : Database) → tells db → [] ≡ text db) → Wrote sink_of tells text out out
  wrote_none text out none = record { bytes = []; takes = Takes-nothing (sink_of out.sink); holds = λ m h. subst (λ (xs : List ℕ). Holds256 out.digest xs) (sym (append-nil m)) h; told = none }

  pub broke_none : (text : Database → List ℕ) (out : DigestSink K) → Broke sink_of tells text out out
  broke_none text out = record { bytes = []; takes = Takes-nothing (sink_of out.sink); front = λ db is. (text db, refl) }

  -- a text that is the same whatever is told
  pub plain_wrote : (text : List ℕ) (old new : DigestSink K) → Takes (sink_of old.sink) (sink_of new.sink) text → ((m : List ℕ) → Holds256 old.digest m → Holds256 new.digest (m ++ text)) → Wrote sink_of tells (λ db. text) old new
  plain_wrote text old new takes holds = record { bytes = text; takes = takes; holds = holds; told = λ db is. refl }

  pub plain_broke : (text : List ℕ) (old new : DigestSink K) (n : ℕ) → Takes (sink_of old.sink) (sink_of new.sink) (take n text) → Broke sink_of tells (λ db. text) old new
  plain_broke text old new n takes = record { bytes = take n text; takes = takes; front = λ db is. (drop n text, sym (take-append-drop n text)) }

  pub plain_writes : {A : Type 0} (result : Result A WriteStop) (text : List ℕ) (old new : DigestSink K) → OnOk result (Takes (sink_of old.sink) (sink_of new.sink) text) → OnOk result ((m : List ℕ) → Holds256 old.digest m → Holds256 new.digest (m ++ text))
      → OnErr result ((n : ℕ) × Takes (sink_of old.sink) (sink_of new.sink) (take n text)) → Writes sink_of tells (λ db. text) result old new
  plain_writes (Ok x) text old new takes holds fails = plain_wrote text old new takes holds
  plain_writes (Err stop) text old new takes holds fails = plain_broke text old new fails.0 fails.1

  pub as_wrote : (f g : Database → List ℕ) (old new : DigestSink K) → ((db : Database) → tells db → f db ≡ g db) → Wrote sink_of tells f old new → Wrote sink_of tells g old new
  as_wrote f g old new same w = record { bytes = w.bytes; takes = w.takes; holds = w.holds; told = λ db is. w.told db is ∙ same db is }

  pub as_broke : (f g : Database → List ℕ) (old new : DigestSink K) → ((db : Database) → tells db → f db ≡ g db) → Broke sink_of tells f old new → Broke sink_of tells g old new
  as_broke f g old new same w = record { bytes = w.bytes; takes = w.takes; front = λ db is. let rest = w.front db is in (rest.0, sym (same db is) ∙ rest.1) }

  pub as_writes : {A : Type 0} (result : Result A WriteStop) (f g : Database → List ℕ) (old new : DigestSink K) → ((db : Database) → tells db → f db ≡ g db) → Writes sink_of tells f result old new → Writes sink_of tells g result old new
  as_writes (Ok x) f g old new same w = as_wrote f g old new same w
  as_writes (Err stop) f g old new same w = as_broke f g old new same w

  pub wrote_then : (f g : Database → List ℕ) (old mid new : DigestSink K) → Wrote sink_of tells f old mid → Wrote sink_of tells g mid new → Wrote sink_of tells (λ db. f db ++ g db) old new
  wrote_then f g old mid new a b = record {
    bytes = a.bytes ++ b.bytes;
    takes = Takes-more (sink_of old.sink) (sink_of mid.sink) (sink_of new.sink) a.bytes b.bytes a.takes b.takes;
    holds = λ m h. subst (λ (xs : List ℕ). Holds256 new.digest xs) (append_assoc m a.bytes b.bytes) (b.holds (m ++ a.bytes) (a.holds m h));
    told = λ db is. ap (λ (t : List ℕ). t ++ b.bytes) (a.told db is) ∙ ap (λ (t : List ℕ). f db ++ t) (b.told db is);
  }

  pub broke_then : (f g : Database → List ℕ) (old mid new : DigestSink K) → Wrote sink_of tells f old mid → Broke sink_of tells g mid new → Broke sink_of tells (λ db. f db ++ g db) old new
  broke_then f g old mid new a b = record {
    bytes = a.bytes ++ b.bytes;
    takes = Takes-more (sink_of old.sink) (sink_of mid.sink) (sink_of new.sink) a.bytes b.bytes a.takes b.takes;
    front = λ db is.
        let rest = b.front db is in
        (rest.0, ap (λ (t : List ℕ). t ++ g db) (sym (a.told db is)) ∙ ap (λ (t : List ℕ). a.bytes ++ t) rest.1 ∙ sym (append_assoc a.bytes b.bytes rest.0));
  }

  pub broke_front : (f g : Database → List ℕ) (old new : DigestSink K) → Broke sink_of tells f old new → Broke sink_of tells (λ db. f db ++ g db) old new
  broke_front f g old new a = record {
    bytes = a.bytes;
    takes = a.takes;
    front = λ db is. let rest = a.front db is in (rest.0 ++ g db, ap (λ (t : List ℕ). t ++ g db) rest.1 ∙ append_assoc a.bytes rest.0 (g db));
  }

  pub writes_then : {A : Type 0} (result : Result A WriteStop) (f g : Database → List ℕ) (old mid new : DigestSink K) → Wrote sink_of tells f old mid → Writes sink_of tells g result mid new → Writes sink_of tells (λ db. f db ++ g db) result old new
  writes_then (Ok x) f g old mid new a b = wrote_then f g old mid new a b
  writes_then (Err stop) f g old mid new a b = broke_then f g old mid new a b

  -- ---- a text, and what goes out behind it

  pub head_broke : (text head : List ℕ) (behind whole : Database → List ℕ) (old new : DigestSink K) → text ≡ head → ((db : Database) → tells db → head ++ behind db ≡ whole db)
      → (n : ℕ) × Takes (sink_of old.sink) (sink_of new.sink) (take n text) → Broke sink_of tells whole old new
  head_broke text head behind whole old new is same some =
      as_broke (λ db. text ++ behind db) whole old new (λ db told. ap (λ (t : List ℕ). t ++ behind db) is ∙ same db told) (broke_front (λ db. text) behind old new (plain_broke text old new some.0 some.1))

  pub head_writes : {A : Type 0} (result : Result A WriteStop) (text head : List ℕ) (behind whole : Database → List ℕ) (old mid new : DigestSink K) → text ≡ head → ((db : Database) → tells db → head ++ behind db ≡ whole db)
      → Takes (sink_of old.sink) (sink_of mid.sink) text → ((m : List ℕ) → Holds256 old.digest m → Holds256 mid.digest (m ++ text)) → Writes sink_of tells behind result mid new → Writes sink_of tells whole result old new
  head_writes result text head behind whole old mid new is same takes holds rest =
      as_writes result (λ db. text ++ behind db) whole old new (λ db told. ap (λ (t : List ℕ). t ++ behind db) is ∙ same db told) (writes_then result (λ db. text) behind old mid new (plain_wrote text old mid takes holds) rest)

  -- ---- one of a list

  one_longer : {X : Type 0} (spell : X → List ℕ) (xs : List X) (i : ℕ) (x : X) → i + 1 ≤ length xs → x ≡ get_or xs i x → flat_map spell (take i xs) ++ spell x ≡ flat_map spell (take (i + 1) xs)
  one_longer {X} spell xs i x lt at =
      sym (ap (flat_map spell) (take_more xs i x (omega (arith, lt)) ∙ ap (λ (y : X). take i xs ++ y ∷ []) (sym at)) ∙ flat_map-append spell (take i xs) (x ∷ []) ∙ ap (λ (t : List ℕ). flat_map spell (take i xs) ++ t) (append-nil (spell x)))

  pub each_wrote : {X : Type 0} (spell : Database → X → List ℕ) (xs : List X) (i : ℕ) (x : X) (old mid new : DigestSink K) → i + 1 ≤ length xs → x ≡ get_or xs i x
      → Wrote sink_of tells (λ db. flat_map (spell db) (take i xs)) old mid → Wrote sink_of tells (λ db. spell db x) mid new → Wrote sink_of tells (λ db. flat_map (spell db) (take (i + 1) xs)) old new
  each_wrote spell xs i x old mid new lt at a b =
      as_wrote (λ db. flat_map (spell db) (take i xs) ++ spell db x) (λ db. flat_map (spell db) (take (i + 1) xs)) old new (λ db is. one_longer (spell db) xs i x lt at)
      (wrote_then (λ db. flat_map (spell db) (take i xs)) (λ db. spell db x) old mid new a b)

  split_at : {X : Type 0} (spell : X → List ℕ) (xs : List X) (i : ℕ) (x : X) → i + 1 ≤ length xs → x ≡ get_or xs i x → (flat_map spell (take i xs) ++ spell x) ++ flat_map spell (drop (i + 1) xs) ≡ flat_map spell xs
  split_at {X} spell xs i x lt at =
      ap (λ (t : List ℕ). t ++ flat_map spell (drop (i + 1) xs)) (one_longer spell xs i x lt at)
      ∙ sym (flat_map-append spell (take (i + 1) xs) (drop (i + 1) xs)) ∙ ap (flat_map spell) (take-append-drop (i + 1) xs)

  -- of which no more goes out
  pub part_broke : {X : Type 0} (spell : Database → X → List ℕ) (xs : List X) (i : ℕ) (old new : DigestSink K) → Wrote sink_of tells (λ db. flat_map (spell db) (take i xs)) old new → Broke sink_of tells (λ db. flat_map (spell db) xs) old new
  part_broke spell xs i old new a = record {
    bytes = a.bytes;
    takes = a.takes;
    front = λ db is. (
      flat_map (spell db) (drop i xs),
      sym (ap (λ (t : List ℕ). t ++ flat_map (spell db) (drop i xs)) (a.told db is) ∙ sym (flat_map-append (spell db) (take i xs) (drop i xs)) ∙ ap (flat_map (spell db)) (take-append-drop i xs)),
    );
  }

  pub each_broke : {X : Type 0} (spell : Database → X → List ℕ) (xs : List X) (i : ℕ) (x : X) (old mid new : DigestSink K) → i + 1 ≤ length xs → x ≡ get_or xs i x
      → Wrote sink_of tells (λ db. flat_map (spell db) (take i xs)) old mid → Broke sink_of tells (λ db. spell db x) mid new → Broke sink_of tells (λ db. flat_map (spell db) xs) old new
  each_broke spell xs i x old mid new lt at a b =
      as_broke (λ db. (flat_map (spell db) (take i xs) ++ spell db x) ++ flat_map (spell db) (drop (i + 1) xs)) (λ db. flat_map (spell db) xs) old new (λ db is. split_at (spell db) xs i x lt at)
      (broke_front (λ db. flat_map (spell db) (take i xs) ++ spell db x) (λ db. flat_map (spell db) (drop (i + 1) xs)) old new
      (broke_then (λ db. flat_map (spell db) (take i xs)) (λ db. spell db x) old mid new a b))

  pub all_wrote : {X : Type 0} (spell : Database → X → List ℕ) (xs : List X) (i : ℕ) (old new : DigestSink K) → length xs ≤ i → Wrote sink_of tells (λ db. flat_map (spell db) (take i xs)) old new → Wrote sink_of tells (λ db. flat_map (spell db) xs) old new
  all_wrote {X} spell xs i old new le a = as_wrote (λ db. flat_map (spell db) (take i xs)) (λ db. flat_map (spell db) xs) old new (λ db is. ap (flat_map (spell db)) (take_all i xs le)) a

refuse : false ≡ true → ⊥
refuse e = cc

-- a result that is an error
pub failed_writes : {K A : Type 0} (sink_of : K → SinkState) (tells : Database → Type 0) (result : Result A WriteStop) (text : Database → List ℕ) (old new : DigestSink K) → IsErr result → Broke sink_of tells text old new → Writes sink_of tells text result old new
failed_writes sink_of tells (Ok x) text old new is b = absurd (refuse is)
failed_writes sink_of tells (Err stop) text old new is b = b

-- which value stands beyond the end says nothing of one before it
pub item_at : (xs : List ℕ) (i d : ℕ) → i + 1 ≤ length xs → get_or xs i d ≡ get_or xs i (get_or xs i d)
item_at [] i d lt = absurd (omega (arith, lt))
item_at (x ∷ xs) zero d lt = refl
item_at (x ∷ xs) (suc i) d lt = far xs i d (get_or xs i d) (omega (arith, lt))
  where
    far : (ys : List ℕ) (j a b : ℕ) → j + 1 ≤ length ys → get_or ys j a ≡ get_or ys j b
    far [] j a b le = absurd (omega (arith, le))
    far (y ∷ ys) zero a b le = refl
    far (y ∷ ys) (suc j) a b le = far ys j a b (omega (arith, le))

-- ---- what is told stays

pub less_wrote : {K : Type 0} (sink_of : K → SinkState) (source later : SourceState) (text : Database → List ℕ) (old new : DigestSink K) → Keeps source later → Wrote sink_of later.tells text old new → Wrote sink_of source.tells text old new
less_wrote sink_of source later text old new kept w = record { bytes = w.bytes; takes = w.takes; holds = w.holds; told = λ db is. w.told db ((kept.tells db).1 is) }

pub less_broke : {K : Type 0} (sink_of : K → SinkState) (source later : SourceState) (text : Database → List ℕ) (old new : DigestSink K) → Keeps source later → Broke sink_of later.tells text old new → Broke sink_of source.tells text old new
less_broke sink_of source later text old new kept w = record { bytes = w.bytes; takes = w.takes; front = λ db is. w.front db ((kept.tells db).1 is) }

pub less_writes : {K A : Type 0} (sink_of : K → SinkState) (source later : SourceState) (result : Result A WriteStop) (text : Database → List ℕ) (old new : DigestSink K) → Keeps source later → Writes sink_of later.tells text result old new → Writes sink_of source.tells text result old new
less_writes sink_of source later (Ok x) text old new kept w = less_wrote sink_of source later text old new kept w
less_writes sink_of source later (Err stop) text old new kept w = less_broke sink_of source later text old new kept w

pub kept_all : (source : SourceState) → Keeps source source
kept_all source = record { stored = refl; chunks = refl; tells = λ db. ((λ is. is), (λ is. is)); later = omega arith }

pub kept_then : (a b c : SourceState) → Keeps a b → Keeps b c → Keeps a c
kept_then a b c x y = record {
  stored = y.stored ∙ x.stored;
  chunks = y.chunks ∙ x.chunks;
  tells = λ db. ((λ is. (x.tells db).0 ((y.tells db).0 is)), (λ is. (y.tells db).1 ((x.tells db).1 is)));
  later = omega (arith, x.later, y.later);
}

-- ---- causes

pub rose_since : (a b c : ℕ) → a ≤ b → Rose b c → Rose a c
rose_since a b c le rose = omega (arith, le, rose)

pub cause_since : (sink mid sink' : SinkState) (source between source' : SourceState) (stop : WriteStop) → sink.faults ≤ mid.faults → source.faults ≤ between.faults → HasCause mid sink' between source' stop → HasCause sink sink' source source' stop
cause_since sink mid sink' source between source' stops.Sink le le' cause = rose_since sink.faults mid.faults sink'.faults le cause
cause_since sink mid sink' source between source' stops.Source le le' cause = rose_since source.faults between.faults source'.faults le' cause
cause_since sink mid sink' source between source' (stops.Damaged page) le le' cause = cause
cause_since sink mid sink' source between source' stops.Memory le le' cause = tt

pub sink_cause : (sink mid sink' : SinkState) (source source' : SourceState) (stop : WriteStop) → sink.faults ≤ mid.faults → IsSinkFault mid sink' stop → HasCause sink sink' source source' stop
sink_cause sink mid sink' source source' stops.Sink le cause = rose_since sink.faults mid.faults sink'.faults le cause
sink_cause sink mid sink' source source' stops.Source le cause = absurd cause
sink_cause sink mid sink' source source' (stops.Damaged page) le cause = absurd cause
sink_cause sink mid sink' source source' stops.Memory le cause = tt

pub source_cause : (sink : SinkState) (source source' : SourceState) (stop : WriteStop) → IsSourceFault source source' stop → HasCause sink sink source source' stop
source_cause sink source source' stops.Sink cause = absurd cause
source_cause sink source source' stops.Source cause = cause
source_cause sink source source' (stops.Damaged page) cause = cause
source_cause sink source source' stops.Memory cause = tt

pub sink_causes : {A : Type 0} (result : Result A WriteStop) (sink mid sink' : SinkState) (source source' : SourceState) → sink.faults ≤ mid.faults → IfErr result (IsSinkFault mid sink') → IfErr result (HasCause sink sink' source source')
sink_causes (Ok x) sink mid sink' source source' le cause = tt
sink_causes (Err stop) sink mid sink' source source' le cause = sink_cause sink mid sink' source source' stop le cause

pub causes_since : {A : Type 0} (result : Result A WriteStop) (sink mid sink' : SinkState) (source between source' : SourceState) → sink.faults ≤ mid.faults → source.faults ≤ between.faults → IfErr result (HasCause mid sink' between source') → IfErr result (HasCause sink sink' source source')
causes_since (Ok x) sink mid sink' source between source' le le' cause = tt
causes_since (Err stop) sink mid sink' source between source' le le' cause = cause_since sink mid sink' source between source' stop le le' cause

-- ---- writing to the end

pub writes_front : (a b c : SinkState) (bytes : List ℕ) (at : ℕ) → Takes a b (take at bytes) → Takes b c [] → Takes a c (take at bytes)
writes_front a b c bytes at p q = subst (Takes a c) (append-nil (take at bytes)) (Takes-more a b c (take at bytes) [] p q)

pub faults_rose : (a b c : SinkState) (bytes : List ℕ) → Takes a b bytes → (before now : ℕ) → before ≡ b.faults → now ≡ c.faults → Rose before now → Rose a.faults c.faults
faults_rose a b c bytes p before now was is rose = subst (Rose a.faults) is (rose_since a.faults b.faults now p.later (subst (λ (n : ℕ). Rose n now) was rose))

-- ---- texts of lists

pub flat_of_map : {A B : Type 0} (g : B → List ℕ) (f : A → B) (xs : List A) → flat_map g (map f xs) ≡ flat_map (λ (x : A). g (f x)) xs
flat_of_map g f [] = refl
flat_of_map {A = A} g f (x ∷ xs) = flat_map-cons g (f x) (map f xs) ∙ ap (λ (t : List ℕ). g (f x) ++ t) (flat_of_map g f xs) ∙ sym (flat_map-cons (λ (y : A). g (f y)) x xs)

-- One name more is opened.
use Rattle.std.proofs.Common.{◌≡◌, ◌≢◌, ℕ, zero, suc, ◌+◌, ◌<◌, ◌≤◌, List, [], ◌∷◌, ◌++◌, length, get_or, take, map, slice_get, All, AllPairs, Option, Some, None, IfSome, IsSomeAnd, Result, Ok, Err, IfErr, ◌⊎◌, inl, inr, refl, sym, ◌∙◌, ap, subst, arith}
use Rattle.std.specs.List.{AllZip}
use Rattle.std.proofs.lemmas.Grind.{common_steps}
use Rattle.std.proofs.lemmas.List.{length-map, map-append, take_more}
use Rattle.std.proofs.lemmas.List.Elements.{All-take}
use Rattle.std.proofs.lemmas.Option.{slice_get_read}
use Rattle.afl_outside.specs.Counts.{Rose, risen}
use Rattle.afl_outside.specs.Shelf.{ShelfState, LeavesOthers}
use Rattle.afl_outside.specs.Sink.{SinkState, IsNewSink}
use Rattle.afl_outside.specs.Source.{SourceState, IsNewSource}
use Rattle.run_opening.specs.declared.reports.notices.Notice.{Notice}
use Rattle.run_opening.specs.Names.{Word, reply_name}
use Rattle.run_opening.specs.Opened.{FailsFor, FailsToOpen, HandsOut, HandsOutSome, IsSinkOf, IsSourceOf, IsUnopened, LeavesUnasked, StopsAt}
use Rattle.run_opening.specs.Inner.Replying.{FailsAtReply, StopsAmong, StopsAmongScripts, StopsAtName}

-- ---- lists

pub zip_push : {A B : Type 0} (R : A → B → Type 0) (xs : List A) (ys : List B) (x : A) (y : B) → AllZip R xs ys → R x y → AllZip R (xs ++ x ∷ []) (ys ++ y ∷ [])
zip_push R [] [] x y all one = (one, tt)
zip_push R [] (b ∷ ys) x y all one = absurd all
zip_push R (a ∷ xs) [] x y all one = absurd all
zip_push R (a ∷ xs) (b ∷ ys) x y all one = (all.0, zip_push R xs ys x y all.1 one)

zip_each : {A B : Type 0} (R Q : A → B → Type 0) (xs : List A) (ys : List B) → ((x : A) (y : B) → R x y → Q x y) → AllZip R xs ys → AllZip Q xs ys
zip_each R Q [] [] each all = tt
zip_each R Q [] (y ∷ ys) each all = absurd all
zip_each R Q (x ∷ xs) [] each all = absurd all
zip_each R Q (x ∷ xs) (y ∷ ys) each all = (each x y all.0, zip_each R Q xs ys each all.1)

some_each : {A : Type 0} (P Q : A → Type 0) (o : Option A) → ((x : A) → P x → Q x) → IsSomeAnd o P → IsSomeAnd o Q
some_each P Q None each some = some
some_each P Q (Some x) each some = each x some

last_of : (n : Word) (xs : List Word) (x : Word) → All (λ m. n ≢ m) (xs ++ x ∷ []) → n ≢ x
last_of n [] x all = all zero x (omega arith)
last_of n (y ∷ xs) x all = last_of n xs x (λ k d lt. all (suc k) d (omega (arith, lt)))

front_of : (n : Word) (xs : List Word) (x : Word) → All (λ m. n ≢ m) (xs ++ x ∷ []) → All (λ m. n ≢ m) xs
front_of n [] x all k d lt = absurd (omega (arith, lt))
front_of n (y ∷ xs) x all zero d lt = all zero d (omega arith)
front_of n (y ∷ xs) x all (suc k) d lt = front_of n xs x (λ j e le. all (suc j) e (omega (arith, le))) k d (omega (arith, lt))

-- none of the first ones is a later one
fresh_among : (names : List Word) (i : ℕ) (d : Word) → i < length names → AllPairs (λ a b. a ≢ b) names → All (λ m. get_or names i d ≢ m) (take i names)
fresh_among names i d lt apart k e within =
    let near : k < i = grind (arith, common_steps) in
    let same : get_or (take i names) k e ≡ get_or names k e = grind (arith, common_steps) in
    let default : get_or names i d ≡ get_or names i e = grind (arith, common_steps) in
    λ is. apart k i e near lt (sym same ∙ sym is ∙ default)

-- what stands among all stands among the first ones
among_first : (n : Word) (names : List Word) (k : ℕ) → All (λ m. n ≢ m) names → All (λ m. n ≢ m) (take k names)
among_first n names k all = All-take (λ m. n ≢ m) k names all

-- ---- what is told of other names

pub leaves_nothing : (s : ShelfState) → LeavesUnasked [] s s
leaves_nothing s = record { scripts = λ n all. refl; replies = λ n all. refl; devices = λ n all. refl; later = omega arith; wants_later = omega arith }

-- more names may be asked for
leaves_first : (names : List Word) (k : ℕ) (old new : ShelfState) → LeavesUnasked (take k names) old new → LeavesUnasked names old new
leaves_first names k old new leaves = record {
  scripts = λ n all. leaves.scripts n (among_first n names k all);
  replies = λ n all. leaves.replies n (among_first n names k all);
  devices = λ n all. leaves.devices n (among_first n names k all);
  later = leaves.later;
  wants_later = leaves.wants_later;
}

pub front_all : (n : Word) (xs ys : List Word) → All (λ m. n ≢ m) (xs ++ ys) → All (λ m. n ≢ m) xs
front_all n [] ys all k d lt = absurd (omega (arith, lt))
front_all n (x ∷ xs) ys all zero d lt = all zero d (omega arith)
front_all n (x ∷ xs) ys all (suc k) d lt = front_all n xs ys (λ j e le. all (suc j) e (omega (arith, le))) k d (omega (arith, lt))

pub back_all : (n : Word) (xs ys : List Word) → All (λ m. n ≢ m) (xs ++ ys) → All (λ m. n ≢ m) ys
back_all n [] ys all = all
back_all n (x ∷ xs) ys all = back_all n xs ys (λ j e le. all (suc j) e (omega (arith, le)))

pub leaves_front : (xs ys : List Word) (old new : ShelfState) → LeavesUnasked xs old new → LeavesUnasked (xs ++ ys) old new
leaves_front xs ys old new leaves = record {
  scripts = λ n all. leaves.scripts n (front_all n xs ys all);
  replies = λ n all. leaves.replies n (front_all n xs ys all);
  devices = λ n all. leaves.devices n (front_all n xs ys all);
  later = leaves.later;
  wants_later = leaves.wants_later;
}

pub leaves_both : (xs ys : List Word) (old mid new : ShelfState) → LeavesUnasked xs old mid → LeavesUnasked ys mid new → LeavesUnasked (xs ++ ys) old new
leaves_both xs ys old mid new first second = record {
  scripts = λ n all. second.scripts n (back_all n xs ys all) ∙ first.scripts n (front_all n xs ys all);
  replies = λ n all. second.replies n (back_all n xs ys all) ∙ first.replies n (front_all n xs ys all);
  devices = λ n all. second.devices n (back_all n xs ys all) ∙ first.devices n (front_all n xs ys all);
  later = omega (arith, first.later, second.later);
  wants_later = omega (arith, first.wants_later, second.wants_later);
}

-- ---- what is handed out

pub hands_none : (most : ℕ) (old new : ShelfState) → new.handed ≡ old.handed → HandsOutSome most old new
hands_none most old new same = (0, omega arith, λ fits. omega (arith, same))

pub hands_some : (count most : ℕ) (old new : ShelfState) → count ≤ most → HandsOut count old new → HandsOutSome most old new
hands_some count most old new least hands = (count, least, hands)

pub hands_more : (count : ℕ) (old now next : ShelfState) → HandsOut count old now → next.handed ≡ risen now.handed → HandsOut (count + 1) old next
hands_more count old now next hands rose fits = let before : now.handed ≡ old.handed + count = hands (omega (arith, fits)) in omega (arith, before, rose, fits)

pub hands_since : (count : ℕ) (old now next : ShelfState) → now.handed ≡ old.handed → HandsOut count now next → HandsOut count old next
hands_since count old now next same hands fits = let is : next.handed ≡ now.handed + count = hands (omega (arith, same, fits)) in omega (arith, is, same)

pub hands_some_since : (count most : ℕ) (old now next : ShelfState) → count ≡ most → now.handed ≡ old.handed → HandsOutSome count now next → HandsOutSome most old next
hands_some_since count most old now next even same some = (some.0, omega (arith, even, some.1), hands_since some.0 old now next same some.2)

-- ---- a count rose since the first call

rose_since : (first before now : ℕ) → first ≤ before → Rose before now → Rose first now
rose_since first before now le rose = omega (arith, le, rose)

module _ (names : List Word) (i : ℕ) (item asked : Word) (lt : i < length names) (is : item ≡ get_or names i item) (same : asked ≡ item) where
  one_more : take (i + 1) names ≡ take i names ++ asked ∷ []
  one_more = take_more names i item lt ∙ ap (λ (n : Word). take i names ++ n ∷ []) (sym is ∙ sym same)

  fresh : AllPairs (λ a b. a ≢ b) names → All (λ m. asked ≢ m) (take i names)
  fresh apart = subst (λ (n : Word). All (λ m. n ≢ m) (take i names)) (sym is ∙ sym same) (fresh_among names i item lt apart)

  at_place : slice_get names i ≡ Some asked
  at_place = slice_get_read names (length names) i item refl lt is ∙ ap Some (sym same)

  pub zips_more : {S X : Type 0} (state : S → X) (R : Word → X → Type 0) (some more : List S) (x : S) → more ≡ some ++ x ∷ [] → R asked (state x)
      → AllZip R (take i names) (map state some) → AllZip R (take (i + 1) names) (map state more)
  zips_more {S} {X} state R some more x grown one all =
      subst (λ (l : List X). AllZip R (take (i + 1) names) l) (sym (ap (map state) grown ∙ map-append state some (x ∷ [])))
      (subst (λ (l : List Word). AllZip R l (map state some ++ state x ∷ [])) (sym one_more) (zip_push R (take i names) (map state some) asked (state x) all one))

  pub leaves_more : (start now next : ShelfState) → LeavesUnasked (take i names) start now → LeavesOthers asked now next → LeavesUnasked (take (i + 1) names) start next
  leaves_more start now next before others = record {
    scripts = λ n all. others.scripts n (apart_from n all) ∙ before.scripts n (earlier n all);
    replies = λ n all. others.replies n (apart_from n all) ∙ before.replies n (earlier n all);
    devices = λ n all. others.devices n (apart_from n all) ∙ before.devices n (earlier n all);
    later = omega (arith, before.later, others.later);
    wants_later = omega (arith, before.wants_later, others.wants_later);
  }
    where
      apart_from : (n : Word) → All (λ m. n ≢ m) (take (i + 1) names) → n ≢ asked
      apart_from n all = last_of n (take i names) asked (subst (All (λ m. n ≢ m)) one_more all)

      earlier : (n : Word) → All (λ m. n ≢ m) (take (i + 1) names) → All (λ m. n ≢ m) (take i names)
      earlier n all = front_of n (take i names) asked (subst (All (λ m. n ≢ m)) one_more all)

  module _ (start now next : ShelfState) (apart : AllPairs (λ a b. a ≢ b) names) (before : LeavesUnasked (take i names) start now) (others : LeavesOthers asked now next) where
    pub leaves_all : LeavesUnasked names start next
    leaves_all = leaves_first names (i + 1) start next (leaves_more start now next before others)

    -- what is told of this name was told at first
    pub told_script : now.scripts asked ≡ start.scripts asked
    told_script = before.scripts asked (fresh apart)

    pub told_reply : now.replies asked ≡ start.replies asked
    told_reply = before.replies asked (fresh apart)

    pub fails_script : (session : ℕ) (notice : Notice) → session ≡ i → FailsFor session (now.scripts asked) notice now next → FailsToOpen names notice start next
    fails_script session notice place fails = elim fails [
      | inl want ↦ inl (want.0, rose_since start.wants now.wants next.wants before.wants_later want.1)
      | inr fault ↦ inr (
        session,
        fault.0,
        subst (λ (o : Option Word). IsSomeAnd o (λ script. IsUnopened script start next)) (sym (ap (slice_get names) place ∙ at_place))
            (record { rose = rose_since start.faults now.faults next.faults before.later fault.1; untold = inl (sym told_script ∙ fault.2) }),
      )
    ]

    pub fails_reply : (session : ℕ) (notice : Notice) → session ≡ i → FailsFor session (now.replies asked) notice now next → FailsAtReply names notice start next
    fails_reply session notice place fails = elim fails [
      | inl want ↦ inl (want.0, rose_since start.wants now.wants next.wants before.wants_later want.1)
      | inr fault ↦ inr (
        session,
        fault.0,
        rose_since start.faults now.faults next.faults before.later fault.1,
        subst (λ (o : Option Word). IsSomeAnd o (λ name. start.replies name ≡ None)) (sym (ap (slice_get names) place ∙ at_place)) (sym told_reply ∙ fault.2),
      )
    ]

    -- the first that fails
    pub stops_script : {S : Type 0} (state : S → SourceState) (opened : List S) → AllZip (IsSourceOf start) (take i names) (map state opened)
        → ((n : Word) → next.replies n ≡ start.replies n) → next.handed ≡ start.handed
        → (notice : Notice) → FailsFor i (now.scripts asked) notice now next → StopsAmongScripts state names start next notice
    stops_script state opened so_far replies handed notice fails = elim fails [
      | inl want ↦ subst (StopsAmongScripts state names start next) (sym want.0) tt
      | inr fault ↦ subst (StopsAmongScripts state names start next) (sym fault.0) (record {
        opened = opened;
        before = zip_each (IsSourceOf start) IsNewSource (take i names) (map state opened) (λ name source is_source. is_source.new) so_far;
        untold = subst (λ (o : Option Word). IsSomeAnd o (λ script. start.scripts script ≡ None)) (sym at_place) (sym told_script ∙ fault.2);
        others = leaves_more start now next before others;
        replies = replies;
        handed = handed;
      })
    ]

    pub stops_reply : {K : Type 0} (state : K → SinkState) (opened : List K) → AllZip (IsSinkOf start) (take i names) (map state opened) → HandsOut i start next
        → (notice : Notice) → FailsFor i (now.replies asked) notice now next → StopsAmong state names start next notice
    stops_reply state opened so_far handed notice fails = elim fails [
      | inl want ↦ subst (StopsAmong state names start next) (sym want.0) tt
      | inr fault ↦ subst (StopsAmong state names start next) (sym fault.0) (record {
        opened = opened;
        before = zip_each (IsSinkOf start) IsNewSink (take i names) (map state opened) (λ name sink is_sink. is_sink.new) so_far;
        untold = subst (λ (o : Option Word). IsSomeAnd o (λ reply. start.replies reply ≡ None)) (sym at_place) (sym told_reply ∙ fault.2);
        others = leaves_more start now next before others;
        handed = handed;
      })
    ]

-- ---- scripts, and then their replies

pub first_script : {S K : Type 0} (source_state : S → SourceState) (sink_state : K → SinkState) (scripts : List Word) (old new : ShelfState) (notice : Notice)
    → FailsToOpen scripts notice old new → StopsAmongScripts source_state scripts old new notice → StopsAt source_state sink_state scripts old new notice
first_script source_state sink_state scripts old new notice fails stops = elim fails [
  | inl want ↦ subst (StopsAt source_state sink_state scripts old new) (sym want.0) tt
  | inr fault ↦ subst (StopsAt source_state sink_state scripts old new) (sym fault.1)
      (inl (subst (StopsAmongScripts source_state scripts old new) fault.1 stops))
]

some_of_map : {A B : Type 0} (f : A → B) (P : B → Type 0) (Q : A → Type 0) (xs : List A) (k : ℕ) → ((x : A) → P (f x) → Q x) → IsSomeAnd (slice_get (map f xs) k) P → IsSomeAnd (slice_get xs k) Q
some_of_map f P Q [] k each some = some
some_of_map f P Q (x ∷ xs) zero each some = each x some
some_of_map f P Q (x ∷ xs) (suc k) each some = some_of_map f P Q xs k each some

module _ (scripts names : List Word) (are : names ≡ map reply_name scripts) (start mid next : ShelfState) (later : start.faults ≤ mid.faults) (wants_later : start.wants ≤ mid.wants)
    (replies : (n : Word) → mid.replies n ≡ start.replies n) where
  pub fails_from_reply : (notice : Notice) → FailsAtReply names notice mid next → FailsToOpen scripts notice start next
  fails_from_reply notice fails = elim fails [
    | inl want ↦ inl (want.0, rose_since start.wants mid.wants next.wants wants_later want.1)
    | inr fault ↦ inr (
      fault.0,
      fault.1,
      some_of_map reply_name (λ name. mid.replies name ≡ None) (λ script. IsUnopened script start next) scripts fault.0
          (λ script untold. record { rose = rose_since start.faults mid.faults next.faults later fault.2; untold = inr (sym (replies (reply_name script)) ∙ untold) })
          (subst (λ (l : List Word). IsSomeAnd (slice_get l fault.0) (λ name. mid.replies name ≡ None)) are fault.3),
    )
  ]

  pub first_reply : {S K : Type 0} (source_state : S → SourceState) (sink_state : K → SinkState) (sources : List S) → AllZip (IsSourceOf start) scripts (map source_state sources)
      → LeavesUnasked scripts start mid → mid.handed ≡ start.handed → (notice : Notice) → FailsAtReply names notice mid next → StopsAmong sink_state names mid next notice
      → StopsAt source_state sink_state scripts start next notice
  first_reply source_state sink_state sources opened leaves handed notice fails stops = elim fails [
    | inl want ↦ subst (StopsAt source_state sink_state scripts start next) (sym want.0) tt
    | inr fault ↦
        let at : StopsAtName sink_state (map reply_name scripts) fault.0 mid next =
        subst (λ (l : List Word). StopsAtName sink_state l fault.0 mid next) are (subst (StopsAmong sink_state names mid next) fault.1 stops) in
        subst (StopsAt source_state sink_state scripts start next) (sym fault.1) (inr (record {
          sources = sources;
          scripts_opened = zip_each (IsSourceOf start) IsNewSource scripts (map source_state sources) (λ name source is_source. is_source.new) opened;
          sinks = at.opened;
          before = at.before;
          untold = some_each (λ reply. mid.replies reply ≡ None) (λ reply. start.replies reply ≡ None) (slice_get (map reply_name scripts) fault.0)
              (λ reply untold. sym (replies reply) ∙ untold) at.untold;
          others = leaves_both scripts (take (fault.0 + 1) (map reply_name scripts)) start mid next leaves at.others;
          handed = hands_since fault.0 start mid next handed at.handed;
        }))
  ]

  sinks_since : {K : Type 0} (state : K → SinkState) (xs : List Word) (ks : List K) → AllZip (IsSinkOf mid) xs (map state ks) → AllZip (IsSinkOf start) xs (map state ks)
  sinks_since state [] [] all = tt
  sinks_since state [] (k ∷ ks) all = absurd all
  sinks_since state (x ∷ xs) [] all = absurd all
  sinks_since state (x ∷ xs) (k ∷ ks) all = (
    record { new = (all.0).new; content = subst (λ (o : Option Word). IfSome o (λ bytes. (state k).first ≡ Some bytes)) (replies x) (all.0).content },
    sinks_since state xs ks all.1,
  )

  pub sinks_of : {K : Type 0} (state : K → SinkState) (ks : List K) → AllZip (IsSinkOf mid) names (map state ks) → AllZip (IsSinkOf start) (map reply_name scripts) (map state ks)
  sinks_of state ks all = sinks_since state (map reply_name scripts) ks (subst (λ (l : List Word). AllZip (IsSinkOf mid) l (map state ks)) are all)

  pub names_count : length names ≡ length scripts
  names_count = ap length are ∙ length-map scripts reply_name

-- one cause of two
pub or_second : {A : Type 0} (r : Result A Notice) (P Q : Notice → Type 0) → IfErr r Q → IfErr r (λ notice. P notice ⊎ Q notice)
or_second (Ok a) P Q told = tt
or_second (Err notice) P Q told = inr told

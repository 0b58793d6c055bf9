-- What a step leaves as it was.
use Rattle.std.proofs.Common.{◌≡◌, ◌⊎◌, inl, inr, ℕ, Bool, true, false, ◌||◌, List, [], ◌++◌, take, Option, Some, None, option_map, bytes_eq, if◌then◌else◌, refl, sym, ◌∙◌, ap, ap₂, subst, append_assoc, append-nil, arith}
use Rattle.std.proofs.lemmas.List.{nil_from_length, take_all}
use Rattle.chk_bytes.specs.Words.{BeginsWith}
use Rattle.chk_site.specs.declared.lists.Left.{Left}
use Rattle.chk_site.specs.declared.acts.CallFault.TheVariants.{Failed}
use Rattle.chk_site.specs.declared.acts.ActAnswer.{ActAnswer}
use Rattle.chk_site.specs.declared.acts.ActAnswer.TheVariants.{Done, Refused, Stopped, Rotated, Deleted}
use Rattle.chk_site.specs.Files.{File, Files, Change, Nothing, Created, Grown, Secured, Moved, Gone, Shortened, LogGrown, LogTurned, LogDropped, IsSettled, changed, moved}
use Rattle.chk_site.specs.Logs.{Log, Logs, log_grown, log_dropped, logs_changed}
use Rattle.chk_site.specs.Acts.{Deed, Creates, Appends, Syncs, Renames, Removes, Cuts, GrowsLog, deed, change_of, touches, says_whole, tail_of, tail_in, OnlyAppends, TornAppend, MayHave, HasHalf, Did}
use Rattle.chk_site.specs.Effect.{UnsyncedTails, TailFits, with_tail, in_work}
use Rattle.chk_site.specs.History.{Step, History, Modelled, files_after, logs_after}

-- the change is of the file of this name
abbrev reaches : Change → List ℕ → Bool
reaches (Created n) name = bytes_eq name n
reaches (Grown n piece) name = bytes_eq name n
reaches (Secured n) name = bytes_eq name n
reaches (Moved old new) name = bytes_eq name new || bytes_eq name old
reaches (Gone n) name = bytes_eq name n
reaches (Shortened n k) name = bytes_eq name n
reaches change name = false

pub moved_elsewhere : (file : Option File) (old new : List ℕ) (files : Files) (name : List ℕ) (a b : Bool)
    → bytes_eq name new ≡ a → bytes_eq name old ≡ b → a || b ≡ false → moved file old new files name ≡ files name
moved_elsewhere None old new files name a b at_new at_old out = refl
moved_elsewhere (Some file) old new files name true b at_new at_old out = cc
moved_elsewhere (Some file) old new files name false true at_new at_old out = cc
moved_elsewhere (Some file) old new files name false false at_new at_old out = rw (at_new, at_old) refl

-- a change of other files leaves this one
changed_elsewhere : (change : Change) (files : Files) (name : List ℕ) → reaches change name ≡ false → changed change files name ≡ files name
changed_elsewhere Nothing files name out = refl
changed_elsewhere (Created n) files name out = rw out refl
changed_elsewhere (Grown n piece) files name out = rw out refl
changed_elsewhere (Secured n) files name out = rw out refl
changed_elsewhere (Moved old new) files name out =
    moved_elsewhere (files old) old new files name (bytes_eq name new) (bytes_eq name old) refl refl out
changed_elsewhere (Gone n) files name out = rw out refl
changed_elsewhere (Shortened n k) files name out = rw out refl
changed_elsewhere (LogGrown path piece) files name out = refl
changed_elsewhere (LogTurned path suffix) files name out = refl
changed_elsewhere (LogDropped path suffix) files name out = refl

reaches_same : (call : Deed) (name : List ℕ) → touches call name ≡ false → reaches (change_of call) name ≡ false
reaches_same (Creates n) name out = out
reaches_same (Appends n piece) name out = out
reaches_same (Syncs n) name out = out
reaches_same (Renames old new) name out = out
reaches_same (Removes n) name out = out
reaches_same (Cuts n k) name out = out
reaches_same call name out = refl

is_nothing : (did : Change) (name : List ℕ) → did ≡ Nothing → reaches did name ≡ false
is_nothing did name e = rw e refl

torn_within : (change did : Change) (name : List ℕ) → TornAppend change did → reaches change name ≡ false → reaches did name ≡ false
torn_within (LogGrown path piece) did name torn out = rw torn.2 refl
torn_within (Grown n piece) did name torn out = rw torn.2 out
torn_within Nothing did name torn out = rw torn refl
torn_within (Created n) did name torn out = rw torn out
torn_within (Secured n) did name torn out = rw torn out
torn_within (Moved old new) did name torn out = rw torn out
torn_within (Gone n) did name torn out = rw torn out
torn_within (Shortened n k) did name torn out = rw torn out
torn_within (LogTurned path suffix) did name torn out = rw torn refl
torn_within (LogDropped path suffix) did name torn out = rw torn refl

either_within : (change did : Change) (name : List ℕ) → (did ≡ Nothing) ⊎ TornAppend change did
    → reaches change name ≡ false → reaches did name ≡ false
either_within change did name (inl e) out = is_nothing did name e
either_within change did name (inr torn) out = torn_within change did name torn out

may_within : (change did : Change) (name : List ℕ) → MayHave change did → reaches change name ≡ false → reaches did name ≡ false
may_within Nothing did name may out = is_nothing did name may
may_within (Secured n) did name may out = is_nothing did name may
may_within (LogGrown path piece) did name may out = either_within (LogGrown path piece) did name may out
may_within (Grown n piece) did name may out = either_within (Grown n piece) did name may out
may_within (Created n) did name may out = either_within (Created n) did name may out
may_within (Moved old new) did name may out = either_within (Moved old new) did name may out
may_within (Gone n) did name may out = either_within (Gone n) did name may out
may_within (Shortened n k) did name may out = either_within (Shortened n k) did name may out
may_within (LogTurned path suffix) did name may out = either_within (LogTurned path suffix) did name may out
may_within (LogDropped path suffix) did name may out = either_within (LogDropped path suffix) did name may out

whole_within : (b : Bool) (change did : Change) (name : List ℕ) → did ≡ (if b then change else Nothing)
    → reaches change name ≡ false → reaches did name ≡ false
whole_within true change did name e out = rw e out
whole_within false change did name e out = rw e refl

half_within : (change did : Change) (left : List Left) (name : List ℕ) → HasHalf change left did → reaches change name ≡ false → reaches did name ≡ false
half_within (Created n) did left name half out = whole_within (says_whole left n) (Created n) did name half out
half_within (Moved old new) did left name half out = whole_within (says_whole left old) (Moved old new) did name half out
half_within (Gone n) did left name half out = whole_within (says_whole left n) (Gone n) did name half out
half_within (Shortened n k) did left name half out = whole_within (says_whole left n) (Shortened n k) did name half out
half_within (LogGrown path piece) did left name half out = torn_within (LogGrown path piece) did name half out
half_within change did left name half out = is_nothing did name half

-- what a call did is within what it may change
did_within : (call : Deed) (answer : ActAnswer) (did : Change) (name : List ℕ)
    → Did call answer did → touches call name ≡ false → reaches did name ≡ false
did_within call (Done words number of) did name may out = rw may (reaches_same call name out)
did_within call (Refused Failed) did name may out = may_within (change_of call) did name may (reaches_same call name out)
did_within call (Refused fault) did name may out = is_nothing did name may
did_within call (Stopped left) did name may out = half_within (change_of call) did left name may (reaches_same call name out)
did_within (GrowsLog path piece) (Rotated suffix) did name may out = rw may.1 refl
did_within (GrowsLog path piece) (Deleted suffix) did name may out = rw may refl
did_within call (Rotated suffix) did name may out = is_nothing did name may
did_within call (Deleted suffix) did name may out = is_nothing did name may

no_work : (call : Deed) (name : List ℕ) → touches call name ≡ false → in_work call name ≡ 0
no_work (Appends n piece) name out = rw out refl
no_work call name out = refl

-- no tail of it can be left but an empty one
tail_of_settled : (tail : Option (List ℕ)) (file : Option File) (extra : ℕ) → extra ≡ 0 → IsSettled file → TailFits extra tail file
    → option_map (with_tail tail) file ≡ file
tail_of_settled None None extra no_extra settled fits = refl
tail_of_settled None (Some file) extra no_extra settled fits = refl
tail_of_settled (Some tail) None extra no_extra settled fits = refl
tail_of_settled (Some tail) (Some file) extra no_extra settled fits =
    let empty : tail ≡ [] = nil_from_length tail (omega (arith, settled, fits, no_extra)) in
    let all : take file.synced file.bytes ≡ file.bytes = take_all file.synced file.bytes (omega (arith, settled)) in
    let same : take file.synced file.bytes ++ tail ≡ file.bytes = ap₂ (λ a b. a ++ b) all empty ∙ append-nil file.bytes in
    ap (λ bytes. Some (record { bytes = bytes; synced = file.synced })) same

pub tails_of_settled : (call : Deed) (answer : ActAnswer) (middle after : Files) (name : List ℕ) → UnsyncedTails call answer middle after
    → in_work call name ≡ 0 → IsSettled (middle name) → after name ≡ middle name
tails_of_settled call (Stopped left) middle after name tails idle settled =
    (tails name).0 ∙ tail_of_settled (tail_of left name) (middle name) (in_work call name) idle settled (tails name).1
tails_of_settled call (Done words number of) middle after name tails idle settled = tails name
tails_of_settled call (Refused fault) middle after name tails idle settled = tails name
tails_of_settled call (Rotated suffix) middle after name tails idle settled = tails name
tails_of_settled call (Deleted suffix) middle after name tails idle settled = tails name

tails_unnamed : (call : Deed) (answer : ActAnswer) (middle after : Files) (name : List ℕ) → UnsyncedTails call answer middle after
    → tail_in answer name ≡ None → after name ≡ middle name
tails_unnamed call (Stopped left) middle after name tails none =
    (tails name).0 ∙ ap (λ t. option_map (with_tail t) (middle name)) none ∙ untouched (middle name)
  where
    untouched : (file : Option File) → option_map (with_tail None) file ≡ file
    untouched None = refl
    untouched (Some file) = refl
tails_unnamed call (Done words number of) middle after name tails none = tails name
tails_unnamed call (Refused fault) middle after name tails none = tails name
tails_unnamed call (Rotated suffix) middle after name tails none = tails name
tails_unnamed call (Deleted suffix) middle after name tails none = tails name

-- a step that touches other files leaves one that is wholly on the disk, whatever it is and however it ends
pub settled_stays : (history : History) (step : Step) (name : List ℕ) → Modelled history step → touches (deed step.act) name ≡ false
    → IsSettled (files_after history name) → step.files name ≡ files_after history name
settled_stays history step name modelled out settled =
    let e = modelled.effect in
    let same : changed e.did (files_after history) name ≡ files_after history name =
    changed_elsewhere e.did (files_after history) name (did_within (deed step.act) step.act.answer e.did name e.may out) in
    let settled' : IsSettled (changed e.did (files_after history) name) = subst IsSettled (sym same) settled in
    tails_of_settled (deed step.act) step.act.answer (changed e.did (files_after history)) step.files name e.files_left (no_work (deed step.act) name out) settled'
    ∙ same

-- a step that touches other files, and is no stop that names this one, leaves it
pub unnamed_stays : (history : History) (step : Step) (name : List ℕ) → Modelled history step → touches (deed step.act) name ≡ false
    → tail_in step.act.answer name ≡ None → step.files name ≡ files_after history name
unnamed_stays history step name modelled out none =
    let e = modelled.effect in
    tails_unnamed (deed step.act) step.act.answer (changed e.did (files_after history)) step.files name e.files_left none
    ∙ changed_elsewhere e.did (files_after history) name (did_within (deed step.act) step.act.answer e.did name e.may out)

-- no base file is made a generation
abbrev KeepsBase : Change → Type 0
KeepsBase (LogTurned path suffix) = ⊥
KeepsBase change = Unit {0}

keeps_call : (call : Deed) → KeepsBase (change_of call)
keeps_call (Creates n) = tt
keeps_call (Appends n piece) = tt
keeps_call (Syncs n) = tt
keeps_call (Renames old new) = tt
keeps_call (Removes n) = tt
keeps_call (Cuts n k) = tt
keeps_call call = tt

keeps_torn : (change did : Change) → KeepsBase change → TornAppend change did → KeepsBase did
keeps_torn (LogGrown path piece) did keeps torn = rw torn.2 tt
keeps_torn (Grown n piece) did keeps torn = rw torn.2 tt
keeps_torn Nothing did keeps torn = rw torn tt
keeps_torn (Created n) did keeps torn = rw torn tt
keeps_torn (Secured n) did keeps torn = rw torn tt
keeps_torn (Moved old new) did keeps torn = rw torn tt
keeps_torn (Gone n) did keeps torn = rw torn tt
keeps_torn (Shortened n k) did keeps torn = rw torn tt
keeps_torn (LogTurned path suffix) did keeps torn = absurd keeps
keeps_torn (LogDropped path suffix) did keeps torn = rw torn tt

keeps_nothing : (did : Change) → did ≡ Nothing → KeepsBase did
keeps_nothing did e = rw e tt

keeps_either : (change did : Change) → KeepsBase change → (did ≡ Nothing) ⊎ TornAppend change did → KeepsBase did
keeps_either change did keeps (inl e) = keeps_nothing did e
keeps_either change did keeps (inr torn) = keeps_torn change did keeps torn

keeps_may : (change did : Change) → KeepsBase change → MayHave change did → KeepsBase did
keeps_may Nothing did keeps may = keeps_nothing did may
keeps_may (Secured n) did keeps may = keeps_nothing did may
keeps_may (LogGrown path piece) did keeps may = keeps_either (LogGrown path piece) did keeps may
keeps_may (Grown n piece) did keeps may = keeps_either (Grown n piece) did keeps may
keeps_may (Created n) did keeps may = keeps_either (Created n) did keeps may
keeps_may (Moved old new) did keeps may = keeps_either (Moved old new) did keeps may
keeps_may (Gone n) did keeps may = keeps_either (Gone n) did keeps may
keeps_may (Shortened n k) did keeps may = keeps_either (Shortened n k) did keeps may
keeps_may (LogTurned path suffix) did keeps may = absurd keeps
keeps_may (LogDropped path suffix) did keeps may = keeps_either (LogDropped path suffix) did keeps may

keeps_whole : (b : Bool) (change did : Change) → KeepsBase change → did ≡ (if b then change else Nothing) → KeepsBase did
keeps_whole true change did keeps e = subst KeepsBase (sym e) keeps
keeps_whole false change did keeps e = keeps_nothing did e

keeps_half : (change did : Change) (left : List Left) → KeepsBase change → HasHalf change left did → KeepsBase did
keeps_half (Created n) did left keeps half = keeps_whole (says_whole left n) (Created n) did keeps half
keeps_half (Moved old new) did left keeps half = keeps_whole (says_whole left old) (Moved old new) did keeps half
keeps_half (Gone n) did left keeps half = keeps_whole (says_whole left n) (Gone n) did keeps half
keeps_half (Shortened n k) did left keeps half = keeps_whole (says_whole left n) (Shortened n k) did keeps half
keeps_half (LogGrown path piece) did left keeps half = keeps_torn (LogGrown path piece) did keeps half
keeps_half (LogTurned path suffix) did left keeps half = absurd keeps
keeps_half change did left keeps half = keeps_nothing did half

-- what a call did turned no log, where its answer isn't that it did
keeps_base : (call : Deed) (answer : ActAnswer) (did : Change) → Did call answer did → OnlyAppends answer → KeepsBase did
keeps_base call (Done words number of) did may only = subst KeepsBase (sym may) (keeps_call call)
keeps_base call (Refused Failed) did may only = keeps_may (change_of call) did (keeps_call call) may
keeps_base call (Refused fault) did may only = keeps_nothing did may
keeps_base call (Stopped left) did may only = keeps_half (change_of call) did left (keeps_call call) may
keeps_base call (Rotated suffix) did may only = absurd only
keeps_base call (Deleted suffix) did may only = absurd only

same_base : (log : Log) → BeginsWith log.base log.base
same_base log = ([], sym (append-nil log.base))

grown_if : (b : Bool) (piece : List ℕ) (log : Log) → BeginsWith (if b then log_grown piece log else log).base log.base
grown_if true piece log = (piece, refl)
grown_if false piece log = same_base log

dropped_if : (b : Bool) (suffix : List ℕ) (log : Log) → BeginsWith (if b then log_dropped suffix log else log).base log.base
dropped_if true suffix log = same_base log
dropped_if false suffix log = same_base log

base_grows_by : (did : Change) (logs : Logs) (path : List ℕ) → KeepsBase did → BeginsWith (logs_changed did logs path).base (logs path).base
base_grows_by (LogGrown p piece) logs path keeps = grown_if (bytes_eq path p) piece (logs path)
base_grows_by (LogTurned p suffix) logs path keeps = absurd keeps
base_grows_by (LogDropped p suffix) logs path keeps = dropped_if (bytes_eq path p) suffix (logs path)
base_grows_by change logs path keeps = same_base (logs path)

-- a step that does no more to a log than append leaves the earlier bytes at the front of its base file
pub base_grows : (history : History) (step : Step) (path : List ℕ) → Modelled history step → OnlyAppends step.act.answer
    → BeginsWith (step.logs path).base (logs_after history path).base
base_grows history step path modelled only =
    let e = modelled.effect in
    subst (λ (log : Log). BeginsWith log.base (logs_after history path).base) (sym (e.logs_left path))
    (base_grows_by e.did (logs_after history) path (keeps_base (deed step.act) step.act.answer e.did e.may only))

-- what begins with a text that begins with a part begins with the part
pub begins_then : (whole middle part : List ℕ) → BeginsWith whole middle → BeginsWith middle part → BeginsWith whole part
begins_then whole middle part outer inner =
    (inner.0 ++ outer.0, outer.1 ∙ ap (λ t. t ++ outer.0) inner.1 ∙ append_assoc part inner.0 outer.0)

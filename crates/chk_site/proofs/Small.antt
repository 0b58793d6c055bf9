-- No file and no log becomes too large.
use Rattle.std.proofs.Common.{◌≡◌, ◌⊎◌, inl, inr, ℕ, ◌+◌, ◌<◌, ◌^◌, min, Bool, true, false, List, [], ◌∷◌, ◌++◌, length, take, Option, Some, None, option_map, bytes_eq, if◌then◌else◌, refl, sym, ◌∙◌, subst, arith, length-append, length-take}
use Rattle.std.proofs.lemmas.Bool.{false≢true}
use Rattle.std.proofs.lemmas.Slice.Eq.{bytes_eq-Decides}
use Rattle.chk_site.specs.declared.lists.Left.{Left}
use Rattle.chk_site.specs.declared.acts.CallFault.TheVariants.{Failed}
use Rattle.chk_site.specs.declared.acts.ActAnswer.{ActAnswer}
use Rattle.chk_site.specs.declared.acts.ActAnswer.TheVariants.{Done, Refused, Stopped, Rotated, Deleted}
use Rattle.chk_site.specs.Files.{File, Files, Change, Nothing, Created, Grown, Secured, Moved, Gone, Shortened, LogGrown, LogTurned, LogDropped, changed, made, moved, secured, shortened}
use Rattle.chk_site.specs.Logs.{Log, Logs, logs_changed, log_size}
use Rattle.chk_site.specs.Acts.{Deed, GrowsLog, Creates, Appends, Syncs, Renames, Removes, Cuts, deed, change_of, says_whole, tail_of, TornAppend, MayHave, HasHalf, Did}
use Rattle.chk_site.specs.Effect.{UnsyncedTails, TailFits, with_tail, in_work, IsSmallFile, StaysSmall}
use Rattle.chk_site.specs.History.{Step, History, Modelled, AllModelled, files_after, logs_after}

-- each file is shorter than 2^63 bytes, and each log shorter than 2^62
pub record AllSmall (history : History) : Type 0 where
  pub files : (name : List ℕ) → IsSmallFile (files_after history name)
  pub logs : (path : List ℕ) → log_size (logs_after history path) < 2 ^ 62

-- P holds of what the call may do to the files and logs, in whole or in part
record Within (call : Deed) (P : Change → Type 0) : Type 0 where
  nothing : P Nothing
  part : (did : Change) → TornAppend (change_of call) did → P did
  turned : (path piece suffix : List ℕ) → call ≡ GrowsLog path piece → P (LogTurned path suffix)
  dropped : (path piece suffix : List ℕ) → call ≡ GrowsLog path piece → P (LogDropped path suffix)

-- the whole change is a part of it
whole_part : (change : Change) → TornAppend change change
whole_part (LogGrown path piece) = (piece, omega arith, refl)
whole_part (Grown name piece) = (piece, omega arith, refl)
whole_part Nothing = refl
whole_part (Created name) = refl
whole_part (Secured name) = refl
whole_part (Moved old new) = refl
whole_part (Gone name) = refl
whole_part (Shortened name n) = refl
whole_part (LogTurned path suffix) = refl
whole_part (LogDropped path suffix) = refl

module _ (P : Change → Type 0) (nothing : P Nothing) where
  if_nothing : (did : Change) → did ≡ Nothing → P did
  if_nothing did e = subst P (sym e) nothing

  if_whole : (b : Bool) (change did : Change) → P change → did ≡ (if b then change else Nothing) → P did
  if_whole true change did p e = subst P (sym e) p
  if_whole false change did p e = if_nothing did e

  if_either : (change did : Change) → ((d : Change) → TornAppend change d → P d) → (did ≡ Nothing) ⊎ TornAppend change did → P did
  if_either change did part (inl e) = if_nothing did e
  if_either change did part (inr torn) = part did torn

  if_failed : (change did : Change) → ((d : Change) → TornAppend change d → P d) → MayHave change did → P did
  if_failed Nothing did part may = if_nothing did may
  if_failed (Secured name) did part may = if_nothing did may
  if_failed (LogGrown path piece) did part may = if_either (LogGrown path piece) did part may
  if_failed (Grown name piece) did part may = if_either (Grown name piece) did part may
  if_failed (Created name) did part may = if_either (Created name) did part may
  if_failed (Moved old new) did part may = if_either (Moved old new) did part may
  if_failed (Gone name) did part may = if_either (Gone name) did part may
  if_failed (Shortened name n) did part may = if_either (Shortened name n) did part may
  if_failed (LogTurned path suffix) did part may = if_either (LogTurned path suffix) did part may
  if_failed (LogDropped path suffix) did part may = if_either (LogDropped path suffix) did part may

  if_stopped : (change did : Change) (left : List Left) → ((d : Change) → TornAppend change d → P d) → HasHalf change left did → P did
  if_stopped (Created name) did left part half = if_whole (says_whole left name) (Created name) did (part (Created name) refl) half
  if_stopped (Moved old new) did left part half = if_whole (says_whole left old) (Moved old new) did (part (Moved old new) refl) half
  if_stopped (Gone name) did left part half = if_whole (says_whole left name) (Gone name) did (part (Gone name) refl) half
  if_stopped (Shortened name n) did left part half = if_whole (says_whole left name) (Shortened name n) did (part (Shortened name n) refl) half
  if_stopped (LogGrown path piece) did left part half = part did half
  if_stopped change did left part half = if_nothing did half

-- what an act did has each P that all parts of its call have
within_did : (P : Change → Type 0) (call : Deed) (answer : ActAnswer) (did : Change) → Within call P → Did call answer did → P did
within_did P call (Done words number of) did w may = subst P (sym may) (w.part (change_of call) (whole_part (change_of call)))
within_did P call (Refused Failed) did w may = if_failed P w.nothing (change_of call) did w.part may
within_did P call (Refused fault) did w may = if_nothing P w.nothing did may
within_did P call (Stopped left) did w may = if_stopped P w.nothing (change_of call) did left w.part may
within_did P (GrowsLog path piece) (Rotated suffix) did w may = subst P (sym may.1) (w.turned path piece suffix refl)
within_did P (GrowsLog path piece) (Deleted suffix) did w may = subst P (sym may) (w.dropped path piece suffix refl)
within_did P call (Rotated suffix) did w may = if_nothing P w.nothing did may
within_did P call (Deleted suffix) did w may = if_nothing P w.nothing did may

-- the files after a change that is no append to this one
made_small : (file : Option File) → IsSmallFile file → IsSmallFile (made file)
made_small None small = omega arith
made_small (Some file) small = small

secured_small : (file : Option File) → IsSmallFile file → IsSmallFile (option_map secured file)
secured_small None small = tt
secured_small (Some file) small = small

shortened_small : (n : ℕ) (file : Option File) → IsSmallFile file → IsSmallFile (option_map (shortened n) file)
shortened_small n None small = tt
shortened_small n (Some file) small =
    let size : length (take n file.bytes) ≡ min n (length file.bytes) = length-take n file.bytes in
    omega arith

moved_small : (file : Option File) (old new : List ℕ) (files : Files) (name : List ℕ) → IsSmallFile file → IsSmallFile (files name)
    → IsSmallFile (moved file old new files name)
moved_small None old new files name small here = here
moved_small (Some file) old new files name small here = at (bytes_eq name new) (bytes_eq name old)
  where
    at : (a b : Bool) → IsSmallFile (if a then Some file else if b then None else files name)
    at true b = small
    at false true = tt
    at false false = here

small_if : (b : Bool) (x y : Option File) → IsSmallFile x → IsSmallFile y → IsSmallFile (if b then x else y)
small_if true x y p q = p
small_if false x y p q = q

-- it is no append to this file
abbrev NoAppendTo : List ℕ → Change → Type 0
NoAppendTo name (Grown n piece) = bytes_eq name n ≡ false
NoAppendTo name change = Unit {0}

changed_small : (change : Change) (files : Files) (name : List ℕ) → ((n : List ℕ) → IsSmallFile (files n)) → NoAppendTo name change
    → IsSmallFile (changed change files name)
changed_small (Created n) files name small other = small_if (bytes_eq name n) _ _ (made_small (files name) (small name)) (small name)
changed_small (Grown n piece) files name small other = rw other (small name)
changed_small (Secured n) files name small other = small_if (bytes_eq name n) _ _ (secured_small (files name) (small name)) (small name)
changed_small (Moved old new) files name small other = moved_small (files old) old new files name (small old) (small name)
changed_small (Gone n) files name small other = small_if (bytes_eq name n) None (files name) tt (small name)
changed_small (Shortened n k) files name small other = small_if (bytes_eq name n) _ _ (shortened_small k (files name) (small name)) (small name)
changed_small Nothing files name small other = small name
changed_small (LogGrown path piece) files name small other = small name
changed_small (LogTurned path suffix) files name small other = small name
changed_small (LogDropped path suffix) files name small other = small name

-- a tail makes no file longer, where none was appended to
tail_small : (tail : Option (List ℕ)) (file : Option File) (extra : ℕ) → extra ≡ 0 → TailFits extra tail file → IsSmallFile file
    → IsSmallFile (option_map (with_tail tail) file)
tail_small None None extra none fits small = tt
tail_small None (Some file) extra none fits small = small
tail_small (Some tail) None extra none fits small = tt
tail_small (Some tail) (Some file) extra none fits small =
    let front : length (take file.synced file.bytes) ≡ min file.synced (length file.bytes) = length-take file.synced file.bytes in
    let all : length (take file.synced file.bytes ++ tail) ≡ length (take file.synced file.bytes) + length tail =
    length-append (take file.synced file.bytes) tail in
    omega arith

tails_small : (call : Deed) (answer : ActAnswer) (middle after : Files) (name : List ℕ) → UnsyncedTails call answer middle after
    → in_work call name ≡ 0 → IsSmallFile (middle name) → IsSmallFile (after name)
tails_small call (Stopped left) middle after name tails idle small =
    subst IsSmallFile (sym (tails name).0) (tail_small (tail_of left name) (middle name) (in_work call name) idle (tails name).1 small)
tails_small call (Done words number of) middle after name tails idle small = subst IsSmallFile (sym (tails name)) small
tails_small call (Refused fault) middle after name tails idle small = subst IsSmallFile (sym (tails name)) small
tails_small call (Rotated suffix) middle after name tails idle small = subst IsSmallFile (sym (tails name)) small
tails_small call (Deleted suffix) middle after name tails idle small = subst IsSmallFile (sym (tails name)) small

-- the call appends to this file
abbrev appends_to : Deed → List ℕ → Bool
appends_to (Appends n piece) name = bytes_eq name n
appends_to call name = false

idle : (call : Deed) (name : List ℕ) → appends_to call name ≡ false → in_work call name ≡ 0
idle (Appends n piece) name out = rw out refl
idle call name out = refl

no_append : (call : Deed) (name : List ℕ) → appends_to call name ≡ false → Within call (NoAppendTo name)
no_append call name out = record {
  nothing = tt;
  part = parts call out;
  turned = λ path piece suffix e. tt;
  dropped = λ path piece suffix e. tt;
}
  where
    parts : (call : Deed) → appends_to call name ≡ false → (did : Change) → TornAppend (change_of call) did → NoAppendTo name did
    parts (Appends n piece) out did torn = rw torn.2 out
    parts (GrowsLog path piece) out did torn = rw torn.2 tt
    parts (Creates n) out did torn = rw torn tt
    parts (Syncs n) out did torn = rw torn tt
    parts (Renames old new) out did torn = rw torn tt
    parts (Removes n) out did torn = rw torn tt
    parts (Cuts n k) out did torn = rw torn tt
    parts call out did torn = rw torn tt

-- the file that was appended to is small, as the step says
appended_small : (call : Deed) (files : Files) (logs : Logs) (name : List ℕ) → appends_to call name ≡ true → StaysSmall call files logs → IsSmallFile (files name)
appended_small (Appends n piece) files logs name same small =
    subst (λ (m : List ℕ). IsSmallFile (files m)) (sym ((bytes_eq-Decides name n).0 same)) small
appended_small call files logs name same small = absurd (false≢true same)

-- the call appends to this log
abbrev appends_to_log : Deed → List ℕ → Bool
appends_to_log (GrowsLog p piece) path = bytes_eq path p
appends_to_log call path = false

-- an act on another log leaves this one
abbrev LeavesLog : Logs → List ℕ → Change → Type 0
LeavesLog logs path did = logs_changed did logs path ≡ logs path

other_log : (call : Deed) (logs : Logs) (path : List ℕ) → appends_to_log call path ≡ false → Within call (LeavesLog logs path)
other_log call logs path out = record {
  nothing = refl;
  part = parts call out;
  turned = λ p piece suffix e. let far : bytes_eq path p ≡ false = elsewhere p piece e in rw far refl;
  dropped = λ p piece suffix e. let far : bytes_eq path p ≡ false = elsewhere p piece e in rw far refl;
}
  where
    elsewhere : (p piece : List ℕ) → call ≡ GrowsLog p piece → bytes_eq path p ≡ false
    elsewhere p piece e = subst (λ (c : Deed). appends_to_log c path ≡ false) e out

    parts : (call : Deed) → appends_to_log call path ≡ false → (did : Change) → TornAppend (change_of call) did → LeavesLog logs path did
    parts (GrowsLog p piece) out did torn = rw (torn.2, out) refl
    parts (Appends n piece) out did torn = rw torn.2 refl
    parts (Creates n) out did torn = rw torn refl
    parts (Syncs n) out did torn = rw torn refl
    parts (Renames old new) out did torn = rw torn refl
    parts (Removes n) out did torn = rw torn refl
    parts (Cuts n k) out did torn = rw torn refl
    parts call out did torn = rw torn refl

appended_log_small : (call : Deed) (files : Files) (logs : Logs) (path : List ℕ) → appends_to_log call path ≡ true → StaysSmall call files logs
    → log_size (logs path) < 2 ^ 62
appended_log_small (GrowsLog p piece) files logs path same small =
    subst (λ (q : List ℕ). log_size (logs q) < 2 ^ 62) (sym ((bytes_eq-Decides path p).0 same)) small
appended_log_small call files logs path same small = absurd (false≢true same)

-- one more step
files_small : (history : History) (step : Step) → AllSmall history → Modelled history step → (name : List ℕ) → IsSmallFile (step.files name)
files_small history step before modelled name = by (appends_to call name) refl
  where
    call : Deed
    call = deed step.act

    by : (b : Bool) → appends_to call name ≡ b → IsSmallFile (step.files name)
    by true e = appended_small call step.files step.logs name e modelled.small
    by false e =
        let effect = modelled.effect in
        let kept = within_did (NoAppendTo name) call step.act.answer effect.did (no_append call name e) effect.may in
        tails_small call step.act.answer (changed effect.did (files_after history)) step.files name effect.files_left (idle call name e)
        (changed_small effect.did (files_after history) name before.files kept)

logs_small : (history : History) (step : Step) → AllSmall history → Modelled history step → (path : List ℕ) → log_size (step.logs path) < 2 ^ 62
logs_small history step before modelled path = by (appends_to_log call path) refl
  where
    call : Deed
    call = deed step.act

    by : (b : Bool) → appends_to_log call path ≡ b → log_size (step.logs path) < 2 ^ 62
    by true e = appended_log_small call step.files step.logs path e modelled.small
    by false e =
        let effect = modelled.effect in
        let same = within_did (LeavesLog (logs_after history) path) call step.act.answer effect.did (other_log call (logs_after history) path e) effect.may in
        subst (λ (log : Log). log_size log < 2 ^ 62) (sym (effect.logs_left path ∙ same)) (before.logs path)

-- where each step is one that the file model allows, each file is shorter than 2^63 bytes and each log
-- shorter than 2^62
pub all_small : (history : History) → AllModelled history → AllSmall history
all_small [] modelled = record { files = λ name. tt; logs = λ path. omega arith }
all_small (step ∷ history) modelled =
    let before = all_small history modelled.0 in
    record {
      files = files_small history step before modelled.1;
      logs = logs_small history step before modelled.1;
    }

-- What a call came to: all of it, nothing, or an append of other bytes.
use Rattle.std.proofs.Common.{◌≡◌, inl, inr, ℕ, Bool, true, false, List, option_map, if◌then◌else◌, refl, sym, ap, subst, ◌∙◌}
use Rattle.chk_site.specs.declared.acts.CallFault.TheVariants.{Failed, Missing, Exists, Short, NoMemory}
use Rattle.chk_site.specs.declared.acts.ActAnswer.{ActAnswer}
use Rattle.chk_site.specs.declared.acts.ActAnswer.TheVariants.{Done, Refused, Stopped, Rotated, Deleted}
use Rattle.chk_site.specs.declared.lists.Left.{Left}
use Rattle.chk_site.specs.Files.{Files, Change, Nothing, Grown, changed}
use Rattle.chk_site.specs.Acts.{Deed, Starts, ReadsLog, AsksNewest, GrowsLog, Creates, Appends, Syncs, Renames, Removes, Cuts, AsksSize, Reads, Lists, AsksClock, Pauses, Sends, Gets, Takes, TakesMore, Answers, Says, change_of, is_done, says_whole, tail_of, Did, MayHave, HasHalf}
use Rattle.chk_site.specs.Effect.{UnsyncedTails, in_work, with_tail, TailFits}

pub data CameTo (call : Deed) (done : Bool) (before after : Files) : Type 0 where
  whole : ((w : List ℕ) → after w ≡ changed (change_of call) before w) → CameTo call done before after
  nothing : done ≡ false → ((w : List ℕ) → after w ≡ before w) → CameTo call done before after
  junk : (n piece bytes : List ℕ) → call ≡ Appends n piece → done ≡ false → ((w : List ℕ) → after w ≡ changed (Grown n bytes) before w)
      → CameTo call done before after

module _ (call : Deed) (done : Bool) (before : Files) where
  as_whole : (did : Change) → did ≡ change_of call → CameTo call done before (changed did before)
  as_whole did e = whole (λ w. ap (λ d. changed d before w) e)

  as_nothing : (did : Change) → done ≡ false → did ≡ Nothing → CameTo call done before (changed did before)
  as_nothing did not_yet e = nothing not_yet (λ w. ap (λ d. changed d before w) e)

-- a call that failed
failed : (call : Deed) (before : Files) (did : Change) → MayHave (change_of call) did → CameTo call false before (changed did before)
failed (GrowsLog path piece) before did (inl e) = as_nothing (GrowsLog path piece) false before did refl e
failed (GrowsLog path piece) before did (inr h) = nothing refl (λ w. ap (λ d. changed d before w) h.2)
failed (Creates n) before did (inl e) = as_nothing (Creates n) false before did refl e
failed (Creates n) before did (inr e) = as_whole (Creates n) false before did e
failed (Appends n piece) before did (inl e) = as_nothing (Appends n piece) false before did refl e
failed (Appends n piece) before did (inr h) = junk n piece h.0 refl refl (λ w. ap (λ d. changed d before w) h.2)
failed (Syncs n) before did e = as_nothing (Syncs n) false before did refl e
failed (Renames old new) before did (inl e) = as_nothing (Renames old new) false before did refl e
failed (Renames old new) before did (inr e) = as_whole (Renames old new) false before did e
failed (Removes n) before did (inl e) = as_nothing (Removes n) false before did refl e
failed (Removes n) before did (inr e) = as_whole (Removes n) false before did e
failed (Cuts n k) before did (inl e) = as_nothing (Cuts n k) false before did refl e
failed (Cuts n k) before did (inr e) = as_whole (Cuts n k) false before did e
failed Starts before did e = as_nothing Starts false before did refl e
failed (ReadsLog path part at max) before did e = as_nothing (ReadsLog path part at max) false before did refl e
failed (AsksNewest path) before did e = as_nothing (AsksNewest path) false before did refl e
failed (AsksSize n) before did e = as_nothing (AsksSize n) false before did refl e
failed (Reads n at max) before did e = as_nothing (Reads n at max) false before did refl e
failed (Lists n) before did e = as_nothing (Lists n) false before did refl e
failed AsksClock before did e = as_nothing AsksClock false before did refl e
failed (Pauses n) before did e = as_nothing (Pauses n) false before did refl e
failed (Sends m address bytes) before did e = as_nothing (Sends m address bytes) false before did refl e
failed (Gets m) before did e = as_nothing (Gets m) false before did refl e
failed (Takes door wait) before did e = as_nothing (Takes door wait) false before did refl e
failed (TakesMore t) before did e = as_nothing (TakesMore t) false before did refl e
failed (Answers t bytes) before did e = as_nothing (Answers t bytes) false before did refl e
failed (Says bytes) before did e = as_nothing (Says bytes) false before did refl e

-- a call that was stopped, before its tails
half : (call : Deed) (left : List Left) (before : Files) (did : Change) → HasHalf (change_of call) left did → CameTo call false before (changed did before)
half call left before did h = go call h
  where
    pick : (call : Deed) (b : Bool) → did ≡ (if b then change_of call else Nothing) → CameTo call false before (changed did before)
    pick call true e = as_whole call false before did e
    pick call false e = as_nothing call false before did refl e

    go : (call : Deed) → HasHalf (change_of call) left did → CameTo call false before (changed did before)
    go (GrowsLog path piece) h = nothing refl (λ w. ap (λ d. changed d before w) h.2)
    go (Creates n) h = pick (Creates n) (says_whole left n) h
    go (Appends n piece) h = as_nothing (Appends n piece) false before did refl h
    go (Syncs n) h = as_nothing (Syncs n) false before did refl h
    go (Renames old new) h = pick (Renames old new) (says_whole left old) h
    go (Removes n) h = pick (Removes n) (says_whole left n) h
    go (Cuts n k) h = pick (Cuts n k) (says_whole left n) h
    go Starts h = as_nothing Starts false before did refl h
    go (ReadsLog path part at max) h = as_nothing (ReadsLog path part at max) false before did refl h
    go (AsksNewest path) h = as_nothing (AsksNewest path) false before did refl h
    go (AsksSize n) h = as_nothing (AsksSize n) false before did refl h
    go (Reads n at max) h = as_nothing (Reads n at max) false before did refl h
    go (Lists n) h = as_nothing (Lists n) false before did refl h
    go AsksClock h = as_nothing AsksClock false before did refl h
    go (Pauses n) h = as_nothing (Pauses n) false before did refl h
    go (Sends m address bytes) h = as_nothing (Sends m address bytes) false before did refl h
    go (Gets m) h = as_nothing (Gets m) false before did refl h
    go (Takes door wait) h = as_nothing (Takes door wait) false before did refl h
    go (TakesMore t) h = as_nothing (TakesMore t) false before did refl h
    go (Answers t bytes) h = as_nothing (Answers t bytes) false before did refl h
    go (Says bytes) h = as_nothing (Says bytes) false before did refl h

-- a writer's turning of a log leaves the files
turned : (call : Deed) (suffix : List ℕ) (before : Files) (did : Change) → Did call (Rotated suffix) did → CameTo call false before (changed did before)
turned (GrowsLog path piece) suffix before did h = nothing refl (λ w. ap (λ d. changed d before w) h.1)
turned call suffix before did h = as_nothing call false before did refl h

dropped : (call : Deed) (suffix : List ℕ) (before : Files) (did : Change) → Did call (Deleted suffix) did → CameTo call false before (changed did before)
dropped (GrowsLog path piece) suffix before did h = nothing refl (λ w. ap (λ d. changed d before w) h)
dropped call suffix before did h = as_nothing call false before did refl h

-- what a call did, before what a stop leaves of the files
pub came : (call : Deed) (answer : ActAnswer) (before : Files) (did : Change) → Did call answer did → CameTo call (is_done answer) before (changed did before)
came call (Done words number of) before did e = as_whole call true before did e
came call (Refused Failed) before did h = failed call before did h
came call (Refused Missing) before did e = as_nothing call false before did refl e
came call (Refused Exists) before did e = as_nothing call false before did refl e
came call (Refused (Short size)) before did e = as_nothing call false before did refl e
came call (Refused NoMemory) before did e = as_nothing call false before did refl e
came call (Stopped left) before did h = half call left before did h
came call (Rotated suffix) before did h = turned call suffix before did h
came call (Deleted suffix) before did h = dropped call suffix before did h

then_so : (call : Deed) (done : Bool) (before middle after : Files) → ((w : List ℕ) → after w ≡ middle w) → CameTo call done before middle → CameTo call done before after
then_so call done before middle after same (whole e) = whole (λ w. same w ∙ e w)
then_so call done before middle after same (nothing not_yet e) = nothing not_yet (λ w. same w ∙ e w)
then_so call done before middle after same (junk n piece bytes is not_yet e) = junk n piece bytes is not_yet (λ w. same w ∙ e w)

-- what a step left: what its call came to, or that and then tails
pub data Leaves (call : Deed) (answer : ActAnswer) (before after : Files) : Type 0 where
  went_on : ((left : List Left) → answer ≡ Stopped left → ⊥) → CameTo call (is_done answer) before after → Leaves call answer before after
  was_stopped : (left : List Left) → answer ≡ Stopped left → (middle : Files) → CameTo call false before middle
      → ((w : List ℕ) → (after w ≡ option_map (with_tail (tail_of left w)) (middle w)) × TailFits (in_work call w) (tail_of left w) (middle w))
      → Leaves call answer before after

abbrev stop_test : ActAnswer → Type 0
stop_test (Stopped left) = Unit {0}
stop_test answer = ⊥

pub leaves : (call : Deed) (answer : ActAnswer) (before after : Files) (did : Change) → Did call answer did → UnsyncedTails call answer (changed did before) after
    → Leaves call answer before after
leaves call (Done words number of) before after did may same =
    went_on (λ left e. subst stop_test (sym e) tt) (then_so call true before (changed did before) after same (came call (Done words number of) before did may))
leaves call (Refused fault) before after did may same =
    went_on (λ left e. subst stop_test (sym e) tt) (then_so call false before (changed did before) after same (came call (Refused fault) before did may))
leaves call (Rotated suffix) before after did may same =
    went_on (λ left e. subst stop_test (sym e) tt) (then_so call false before (changed did before) after same (came call (Rotated suffix) before did may))
leaves call (Deleted suffix) before after did may same =
    went_on (λ left e. subst stop_test (sym e) tt) (then_so call false before (changed did before) after same (came call (Deleted suffix) before did may))
leaves call (Stopped left) before after did may tails = was_stopped left refl (changed did before) (came call (Stopped left) before did may) tails

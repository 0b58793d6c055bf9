-- What a call of a process's own leaves of the files, by its answer.
use Rattle.std.proofs.Common.{◌≡◌, ℕ, true, false, List, Option, Some, None, ap, sym, ◌∙◌, refl, true≢false}
use Rattle.std.specs.Prelude.{IsTrue, IsSome}
use Rattle.chk_site.specs.declared.acts.ActAnswer.{ActAnswer}
use Rattle.chk_site.specs.declared.acts.ActAnswer.TheVariants.{Done, Refused, Stopped, Rotated, Deleted}
use Rattle.chk_site.specs.declared.acts.CallFault.TheVariants.{Failed, Missing, Exists, Short, NoMemory}
use Rattle.chk_site.specs.Files.{File, Files, Change, Nothing, changed}
use Rattle.chk_site.specs.Acts.{Deed, deed, change_of, is_done, Did}
use Rattle.chk_site.specs.Effect.{UnsyncedTails}
use Rattle.chk_site.specs.History.{Step, History, files_after}
use Rattle.chk_site.specs.Honest.{Honest, AtPresent, AtAbsent}
use Rattle.chk_site.specs.Site.{WasDone}
use Rattle.chk_world.specs.Names.{Name, spell, file, is_known}
use Rattle.chk_world.proofs.NameTests.{named, applied, bridge}
use Rattle.chk_world.proofs.ToldCalls.{GoesOn}

done_words : (call : Deed) (answer : ActAnswer) (before after : Files) (did : Change) → is_done answer ≡ true → Did call answer did
    → UnsyncedTails call answer (changed did before) after → (w : List ℕ) → after w ≡ changed (change_of call) before w
done_words call (Done words number of) before after did is may tails w = tails w ∙ ap (λ d. changed d before w) may
done_words call (Refused fault) before after did is may tails w = absurd (true≢false (sym is))
done_words call (Stopped left) before after did is may tails w = absurd (true≢false (sym is))
done_words call (Rotated suffix) before after did is may tails w = absurd (true≢false (sym is))
done_words call (Deleted suffix) before after did is may tails w = absurd (true≢false (sym is))

-- a call that was done
pub done_file : (before : History) (step : Step) (n : Name) → Honest before step → is_done step.act.answer ≡ true → IsTrue (is_known n)
    → file step.files n ≡ applied (named (change_of (deed step.act))) (file (files_after before)) n
done_file before step n honest is known =
    let e = honest.modelled.effect in
    done_words (deed step.act) step.act.answer (files_after before) step.files e.did is e.may e.files_left (spell n)
    ∙ bridge (change_of (deed step.act)) (files_after before) n known

refused_words : (call : Deed) (answer : ActAnswer) (before after : Files) (did : Change) → WasDone answer → is_done answer ≡ false
    → Did call answer did → UnsyncedTails call answer (changed did before) after → (w : List ℕ) → after w ≡ before w
refused_words call (Done words number of) before after did was is may tails w = absurd (true≢false is)
refused_words call (Refused Failed) before after did was is may tails w = absurd was
refused_words call (Refused Missing) before after did was is may tails w = tails w ∙ ap (λ d. changed d before w) may
refused_words call (Refused Exists) before after did was is may tails w = tails w ∙ ap (λ d. changed d before w) may
refused_words call (Refused (Short size)) before after did was is may tails w = tails w ∙ ap (λ d. changed d before w) may
refused_words call (Refused NoMemory) before after did was is may tails w = absurd was
refused_words call (Stopped left) before after did was is may tails w = absurd was
refused_words call (Rotated suffix) before after did was is may tails w = absurd was
refused_words call (Deleted suffix) before after did was is may tails w = absurd was

-- a call that was refused for the state of the files
pub refused_file : (before : History) (step : Step) (n : Name) → Honest before step → WasDone step.act.answer → is_done step.act.answer ≡ false
    → file step.files n ≡ file (files_after before) n
refused_file before step n honest was is =
    let e = honest.modelled.effect in
    refused_words (deed step.act) step.act.answer (files_after before) step.files e.did was is e.may e.files_left (spell n)

-- a call on a file that is there is done
pub done_present : (answer : ActAnswer) (o : Option File) → WasDone answer → AtPresent answer o → (f : File) → o ≡ Some f → is_done answer ≡ true
done_present (Done words number of) o was agrees f there = refl
done_present (Refused Failed) o was agrees f there = absurd was
done_present (Refused Missing) o was agrees f there = absurd (cc)
done_present (Refused Exists) o was agrees f there = absurd agrees
done_present (Refused (Short size)) o was agrees f there = absurd agrees
done_present (Refused NoMemory) o was agrees f there = absurd was
done_present (Stopped left) o was agrees f there = absurd was
done_present (Rotated suffix) o was agrees f there = absurd was
done_present (Deleted suffix) o was agrees f there = absurd was

-- on one that may be missing it is done, or found none
pub data MissedOrDone (answer : ActAnswer) (o : Option File) : Type 0 where
  was_done : is_done answer ≡ true → MissedOrDone answer o
  was_missing : answer ≡ Refused Missing → o ≡ None → MissedOrDone answer o

pub missed_or_done : (answer : ActAnswer) (o : Option File) → WasDone answer → AtPresent answer o → MissedOrDone answer o
missed_or_done (Done words number of) o was agrees = was_done refl
missed_or_done (Refused Failed) o was agrees = absurd was
missed_or_done (Refused Missing) o was agrees = was_missing refl agrees
missed_or_done (Refused Exists) o was agrees = absurd agrees
missed_or_done (Refused (Short size)) o was agrees = absurd agrees
missed_or_done (Refused NoMemory) o was agrees = absurd was
missed_or_done (Stopped left) o was agrees = absurd was
missed_or_done (Rotated suffix) o was agrees = absurd was
missed_or_done (Deleted suffix) o was agrees = absurd was

is_some_none : (o : Option File) → IsSome o → o ≡ None → ⊥
is_some_none None some none = absurd (true≢false (sym some))
is_some_none (Some f) some none = absurd (cc)

-- the creation of a file that isn't there is done
pub done_absent : (answer : ActAnswer) (o : Option File) → WasDone answer → AtAbsent answer o → o ≡ None → is_done answer ≡ true
done_absent (Done words number of) o was agrees none = refl
done_absent (Refused Failed) o was agrees none = absurd was
done_absent (Refused Missing) o was agrees none = absurd agrees
done_absent (Refused Exists) o was agrees none = absurd (is_some_none o agrees none)
done_absent (Refused (Short size)) o was agrees none = absurd agrees
done_absent (Refused NoMemory) o was agrees none = absurd was
done_absent (Stopped left) o was agrees none = absurd was
done_absent (Rotated suffix) o was agrees none = absurd was
done_absent (Deleted suffix) o was agrees none = absurd was

looks_words : (call : Deed) (answer : ActAnswer) (before after : Files) (did : Change) → change_of call ≡ Nothing → GoesOn answer
    → (did ≡ Nothing) → UnsyncedTails call answer (changed did before) after → (w : List ℕ) → after w ≡ before w
looks_words call (Done words number of) before after did looks goes e tails w = tails w ∙ ap (λ d. changed d before w) e
looks_words call (Refused fault) before after did looks goes e tails w = tails w ∙ ap (λ d. changed d before w) e
looks_words call (Stopped left) before after did looks goes e tails w = absurd goes
looks_words call (Rotated suffix) before after did looks goes e tails w = tails w ∙ ap (λ d. changed d before w) e
looks_words call (Deleted suffix) before after did looks goes e tails w = tails w ∙ ap (λ d. changed d before w) e

did_nothing : (call : Deed) (answer : ActAnswer) (did : Change) → change_of call ≡ Nothing → WasDone answer → Did call answer did → did ≡ Nothing
did_nothing call (Done words number of) did looks was may = may ∙ looks
did_nothing call (Refused Failed) did looks was may = absurd was
did_nothing call (Refused Missing) did looks was may = may
did_nothing call (Refused Exists) did looks was may = may
did_nothing call (Refused (Short size)) did looks was may = may
did_nothing call (Refused NoMemory) did looks was may = may
did_nothing call (Stopped left) did looks was may = absurd was
did_nothing call (Rotated suffix) did looks was may = absurd was
did_nothing call (Deleted suffix) did looks was may = absurd was

goes_done : (answer : ActAnswer) → WasDone answer → GoesOn answer
goes_done (Done words number of) was = tt
goes_done (Refused fault) was = tt
goes_done (Stopped left) was = was
goes_done (Rotated suffix) was = tt
goes_done (Deleted suffix) was = tt

-- a call that only looks
pub looked_file : (before : History) (step : Step) (n : Name) → Honest before step → change_of (deed step.act) ≡ Nothing
    → WasDone step.act.answer → file step.files n ≡ file (files_after before) n
looked_file before step n honest looks was =
    let e = honest.modelled.effect in
    looks_words (deed step.act) step.act.answer (files_after before) step.files e.did looks (goes_done step.act.answer was)
    (did_nothing (deed step.act) step.act.answer e.did looks was e.may) e.files_left (spell n)

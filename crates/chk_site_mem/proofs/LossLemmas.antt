-- No message is lost by what happens.
use Rattle.std.proofs.Common.{◌≡◌, ℕ, false, List, [], ◌∷◌, ◌++◌, map, sym, ◌∙◌, subst}
use Rattle.std.proofs.lemmas.Bool.{false≢true}
use Rattle.chk_site.specs.declared.acts.Act.{Act}
use Rattle.chk_site.specs.declared.acts.ActAnswer.{ActAnswer}
use Rattle.chk_site.specs.declared.acts.ActAnswer.TheVariants.{Done, Refused, Stopped, Rotated, Deleted}
use Rattle.chk_site.specs.Acts.{deed, is_stop}
use Rattle.chk_site.specs.Files.{Files}
use Rattle.chk_site.specs.History.{History, Every, IsTheirs}
use Rattle.chk_site_mem_store.specs.Going.{GoesOn, TheirsSince}
use Rattle.chk_site_mem_store.specs.Told.{Kept, disowned, fitted, fitted_answer, step_of, told_from, told_of}
use Rattle.chk_site_mem_calls.specs.Plans.{LosesNothing}
use Rattle.chk_site_mem.specs.Lossless.{NothingLost}

lost_by_others : (P : List ℕ → Type 0) (added start : History) → Every IsTheirs added start → NothingLost P start
    → NothingLost P (added ++ start)
lost_by_others P [] start theirs still = still
lost_by_others P (step ∷ added) start theirs still =
    (lost_by_others P added start theirs.0 still, λ own. absurd (false≢true (sym theirs.1.0 ∙ own)))

-- what others do loses nothing
pub still_begun : (P : List ℕ → Type 0) (start now : History) → TheirsSince start now → NothingLost P start → NothingLost P now
still_begun P start now since still =
    subst (NothingLost P) (sym since.goes_on) (lost_by_others P since.added start since.theirs still)

none_own : (P : List ℕ → Type 0) (kept : List Kept) (history : History) → NothingLost P history
    → NothingLost P (told_from history (map disowned kept))
none_own P [] history still = still
none_own P (k ∷ kept) history still =
    none_own P kept (step_of history (disowned k) ∷ history) (still, λ own. absurd (false≢true own))

-- no act is own any more
pub still_disowned : (P : List ℕ → Type 0) (kept : List Kept) → NothingLost P (told_of (map disowned kept))
still_disowned P kept = none_own P kept [] tt

-- the act that comes to be kept loses as little
loses_fitted : (numbers : List ℕ) (h : History) (files : Files) (act : Act) → is_stop act.answer ≡ false
    → LosesNothing numbers h act.who (deed act) act.answer
    → LosesNothing numbers h act.who (deed act) (fitted files act).answer
loses_fitted numbers h files act runs loses = by act.answer runs loses
  where
    by : (answer : ActAnswer) → is_stop answer ≡ false → LosesNothing numbers h act.who (deed act) answer
        → LosesNothing numbers h act.who (deed act) (fitted_answer (deed act) files answer)
    by (Done words number of) runs loses = loses
    by (Refused fault) runs loses = loses
    by (Stopped left) runs loses = absurd (cc)
    by (Rotated suffix) runs loses = loses
    by (Deleted suffix) runs loses = loses

-- an own act that loses nothing, as it is kept
pub still_made : (P : List ℕ → Type 0) (numbers : List ℕ) (act : Act) (files : Files) (before now : History) → P numbers
    → is_stop act.answer ≡ false → LosesNothing numbers before act.who (deed act) act.answer
    → GoesOn (fitted files act) before now → NothingLost P before → NothingLost P now
still_made P numbers act files before now fits runs loses goes still =
    subst (NothingLost P) (sym goes.goes_on) (still, λ own. (numbers, fits, loses_fitted numbers before files act runs loses))

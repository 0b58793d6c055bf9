-- What the takings of a run add to what is saved or waits to be saved.
use Rattle.std.proofs.Common.{◌≡◌, ℕ, Bool, true, false, List, [], ◌∷◌, ◌++◌, Option, Ok, if◌then◌else◌, refl, sym, ◌∙◌, ap, append_assoc, append-nil}
use Rattle.chk_site.specs.declared.acts.Call.{Call}
use Rattle.chk_site.specs.declared.acts.ActAnswer.{ActAnswer}
use Rattle.chk_site.specs.Acts.{Deed, deed_by}
use Rattle.chk_site.specs.Files.{Files}
use Rattle.chk_site.specs.History.{History, files_after}
use Rattle.chk_site.specs.Honest.{Honest}
use Rattle.chk_site.specs.Logs.{Logs}
use Rattle.chk_site.specs.Runs.{Leads, MadeInTurn, finished, went_on}
use Rattle.chk_site.specs.Site.{Adds, Asked, own_step, WasDone}
use Rattle.chk_site.proofs.Leads.{leads_then, leads_none, done_leads, Keeps}
use Rattle.chk_udp_laws.specs.Marked.{Tally, tally, tally_by, given_by, took, joined, added, saved_all}
use Rattle.chk_udp_laws.specs.Histories.{IsApart}
use Rattle.chk_udp_laws.proofs.Parts.{joined_more, joined_one}
use Rattle.chk_udp_laws.proofs.Phases.{S, mine, owned, tally_own, took_own, tally_other, took_other, Move, Walk, rest, step_on}

-- all that was added: what is saved, and what waits to be saved
abbrev pub all_in : Tally → List ℕ
all_in t = joined t.saved ++ joined t.unsaved

saved_all_in : (t : Tally) → all_in (saved_all t) ≡ all_in t
saved_all_in t =
    append-nil (joined (t.saved ++ t.unsaved)) ∙ joined_more t.saved t.unsaved

pub either_all_in : (b : Bool) (t : Tally) → all_in (if b then saved_all t else t) ≡ all_in t
either_all_in true t = saved_all_in t
either_all_in false t = refl

pub added_all_in : (bytes : List ℕ) (t : Tally) → all_in (added true bytes t) ≡ all_in t ++ bytes
added_all_in bytes t =
    ap (λ x. joined t.saved ++ x) (joined_one t.unsaved bytes)
    ∙ sym (append_assoc (joined t.saved) (joined t.unsaved) bytes)

module _ (n d : List ℕ) (l : List (List ℕ)) where
  -- Since then this was taken behind `l`. All of it but for what comes last was added behind `d`.
  pub record Ledger (last : List (List ℕ)) (h : History) : Type 0 where
    pub more : List (List ℕ)
    pub took_is : took n h ≡ l ++ (more ++ last)
    pub all_is : all_in (tally n h) ≡ d ++ joined more

  pub keeps_ledger : (last : List (List ℕ)) → Keeps (IsApart n) (Ledger last)
  keeps_ledger last before step theirs apart b = record {
    more = b.more;
    took_is = took_other n before step apart.by ∙ b.took_is;
    all_is = ap all_in (tally_other n before step apart.by) ∙ b.all_is;
  }

  -- the call adds nothing, and takes nothing
  pub record Even (call : Deed) : Type 0 where
    pub by : (answer : ActAnswer) (before after : Files) (t : Tally)
        → all_in (tally_by n call answer before after t) ≡ all_in t
    pub gives : (answer : ActAnswer) → given_by call answer ≡ []

  pub even_step : (call : Call) (words : List (List ℕ)) (number max : ℕ)
      → Even (deed_by call words number max) → (last : List (List ℕ)) (answer : ActAnswer)
      (before : History) (files : Files) (logs : Logs) → Ledger last before
      → Ledger last (own_step (mine n call words number max) answer files logs ∷ before)
  even_step call words number max even last answer before files logs b = record {
    more = b.more;
    took_is = took_own n call words number max answer files logs before
        ∙ (ap (λ x. took n before ++ x) (even.gives answer)
        ∙ (append-nil (took n before) ∙ b.took_is));
    all_is = ap all_in (tally_own n call words number max answer files logs before)
        ∙ (even.by answer (files_after before) files (tally n before) ∙ b.all_is);
  }

  -- where the call is done, from A the one leads to the other
  abbrev pub Carries : Asked → (History → Type 0) → (History → Type 0) → (History → Type 0) → Type 0
  Carries q A L L' =
      (answer : ActAnswer) → WasDone answer → (before : History) (files : Files) (logs : Logs)
      → Honest before (own_step q answer files logs) → A before → L before
      → L' (own_step q answer files logs ∷ before)

  -- a walk with what is carried along
  pub data Tour : List Asked → (History → Type 0) → (History → Type 0) → (History → Type 0)
      → (History → Type 0) → Type 1 where
    arrived : {A L : History → Type 0} → Tour [] A A L L
    onward : {q : Asked} {qs : List Asked} {A A' A'' L L' L'' : History → Type 0} → Move n q A A'
        → Keeps (IsApart n) L → Carries q A L L' → Tour qs A' A'' L' L''
        → Tour (q ∷ qs) A A'' L L''

  pub tour_join : {qs rs : List Asked} {A A' A'' L L' L'' : History → Type 0} → Tour qs A A' L L'
      → Tour rs A' A'' L' L'' → Tour (qs ++ rs) A A'' L L''
  tour_join arrived later = later
  tour_join (onward move keeps carries tour) later =
      onward move keeps carries (tour_join tour later)

  pub tour_leads : {qs : List Asked} {A A' L L' : History → Type 0} {old new : Option History}
      → Tour qs A A' L L' → MadeInTurn qs (Ok tt) old new
      → Adds old new (Leads (S n) (λ h. A h × L h) (λ h. A' h × L' h))
  tour_leads {old = old} arrived finished = leads_none old (λ h x. x)
  tour_leads (onward {q = q} {A = A} {A' = A'} {L = L} {L' = L'} move keeps carries later)
      (went_on given is told script) =
      leads_then {B = λ h. A' h × L' h}
      (done_leads {A = λ h. A h × L h} {B = λ h. A' h × L' h} given (owned n q) is
      (λ before step theirs apart x. (
        move.keeps before step theirs apart x.0,
        keeps before step theirs apart x.1,
      ))
      (λ answer was before files logs running honest x. (
        move.done answer was before files logs running honest x.0,
        carries answer was before files logs honest x.0 x.1,
      ))
      told)
      (tour_leads later script)

  -- each of these calls adds nothing and takes nothing
  abbrev pub AllEven : List Asked → Type 0
  AllEven [] = Unit {0}
  AllEven (q ∷ qs) =
      ((last : List (List ℕ)) (answer : ActAnswer) (before : History) (files : Files) (logs : Logs)
      → Ledger last before → Ledger last (own_step q answer files logs ∷ before)) × AllEven qs

  pub even_tour : {qs : List Asked} {A A' : History → Type 0} (last : List (List ℕ))
      → Walk n qs A A' → AllEven qs → Tour qs A A' (Ledger last) (Ledger last)
  even_tour last (rest weak) all = arrived
  even_tour last (step_on move walk) all =
      onward move (keeps_ledger last)
      (λ answer was before files logs honest a b. all.0 last answer before files logs b)
      (even_tour last walk all.1)

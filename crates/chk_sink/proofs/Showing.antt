-- What the own steps of calls show. Each step shows something or nothing, and what was shown last counts.
use Rattle.std.proofs.Common.{◌≡◌, inl, inr, ℕ, Bool, true, false, ◌||◌, List, [], ◌∷◌, ◌++◌, Option, Some, None, Result, Ok, Err, ap, sym, ◌∙◌, refl}
use Rattle.chk_site.specs.declared.acts.Who.{Who}
use Rattle.chk_site.specs.declared.acts.CallFault.{CallFault}
use Rattle.chk_site.specs.declared.acts.CallFault.TheVariants.{Failed, NoMemory}
use Rattle.chk_site.specs.declared.acts.OutsideFault.{OutsideFault}
use Rattle.chk_site.specs.declared.acts.ActAnswer.{ActAnswer}
use Rattle.chk_site.specs.declared.acts.ActAnswer.TheVariants.{Refused, Stopped}
use Rattle.chk_site.specs.declared.lists.Left.{Left}
use Rattle.chk_site.specs.Acts.{Deed, Reads, Cuts, deed}
use Rattle.chk_site.specs.History.{Step, History, Every, IsTheirs, is_stopped}
use Rattle.chk_site.specs.Site.{Adds, Asked, own_step, Acted, Added, Calls}
use Rattle.chk_site.proofs.Runs.{adds_then, adds_as, adds_none}
use Rattle.chk_world.specs.Works.{Works, rests, unbegun, works, ends, deed_of}
use Rattle.chk_sink.specs.Damage.{damage_by, first_name, damage_in, reads_last, has_read_last}

-- what steps may show; a failure and a stop show nothing
pub record Sign (X : Type 0) : Type 0 where
  pub none : X
  pub join : X → X → X
  pub of : Bool → Deed → ActAnswer → X
  pub all : History → X
  pub right : (x : X) → join x none ≡ x
  pub begins : all [] ≡ none
  pub more : (step : Step) (h : History) → all (step ∷ h) ≡ join (of step.own (deed step.act) step.act.answer) (all h)
  pub others : (call : Deed) (answer : ActAnswer) → of false call answer ≡ none
  pub failed : (call : Deed) → of true call (Refused Failed) ≡ none
  pub stopped : (call : Deed) (left : List Left) → of true call (Stopped left) ≡ none

module _ {X : Type 0} (s : Sign X) where
  -- the earlier steps showed nothing
  pub behind : (b a : History) → s.all a ≡ s.none → s.all (b ++ a) ≡ s.all b
  behind [] a none = none ∙ sym s.begins
  behind (step ∷ b) a none =
      let x = s.of step.own (deed step.act) step.act.answer in
      s.more step (b ++ a) ∙ (ap (s.join x) (behind b a none) ∙ sym (s.more step b))

  theirs_none : (added history : History) → Every IsTheirs added history → s.all added ≡ s.none
  theirs_none [] history theirs = s.begins
  theirs_none (step ∷ added) history theirs =
      s.more step added
      ∙ rw (theirs.1.0, s.others (deed step.act) step.act.answer, theirs_none added history theirs.0) (s.right s.none)

  acted_shows : (q : Asked) (answer : ActAnswer) {added history : History} → Acted q answer added history
      → s.all added ≡ s.of true (deed_of q) answer
  acted_shows q answer {history = history} acted =
      let x = s.of true (deed_of q) answer in
      ap s.all acted.added_is ∙ (s.more (own_step q answer acted.files acted.logs) acted.others
      ∙ (ap (s.join x) (theirs_none acted.others history acted.theirs) ∙ s.right x))

  -- what this answer of the call shows
  abbrev pub shown : Asked → Result ActAnswer CallFault → X
  shown q (Ok answer) = s.of true (deed_of q) answer
  shown q (Err Failed) = s.none
  shown q (Err NoMemory) = s.none
  shown q (Err fault) = s.of true (deed_of q) (Refused fault)

  pub call_shows : (q : Asked) (r : Result ActAnswer CallFault) {added history : History} → Calls q r added history
      → s.all added ≡ shown q r
  call_shows q r {added = added} {history = history} calls = by (is_stopped history) refl
    where
      gave : (r : Result ActAnswer CallFault) → Added q r added history → s.all added ≡ shown q r
      gave (Ok answer) acted = acted_shows q answer acted
      gave (Err Failed) (inl acted) = acted_shows q (Refused Failed) acted ∙ s.failed (deed_of q)
      gave (Err Failed) (inr stop) = acted_shows q (Stopped stop.0) stop.1 ∙ s.stopped (deed_of q) stop.0
      gave (Err NoMemory) theirs = theirs_none added history theirs
      gave (Err fault) acted = acted_shows q (Refused fault) acted

      by : (b : Bool) → is_stopped history ≡ b → s.all added ≡ shown q r
      by false e = gave r (calls.running e)
      by true e = let stop = calls.stopped e in ap s.all stop.0 ∙ (s.begins ∙ sym (ap (shown q) stop.1))

  -- the call shows nothing, whatever it answers
  abbrev pub IsSilent : Deed → Type 0
  IsSilent call = (answer : ActAnswer) → s.of true call answer ≡ s.none

  pub silent_shown : (q : Asked) → IsSilent (deed_of q) → (r : Result ActAnswer CallFault) → shown q r ≡ s.none
  silent_shown q silent (Ok answer) = silent answer
  silent_shown q silent (Err Failed) = refl
  silent_shown q silent (Err NoMemory) = refl
  silent_shown q silent (Err fault) = silent (Refused fault)

  pub silent_call : (q : Asked) → IsSilent (deed_of q) → (r : Result ActAnswer CallFault) {added history : History}
      → Calls q r added history → s.all added ≡ s.none
  silent_call q silent r calls = call_shows q r calls ∙ silent_shown q silent r

  abbrev pub ShowsNone : History → History → Type 0
  ShowsNone added history = s.all added ≡ s.none

  -- calls of which none shows anything
  pub works_silent : {who : Who} {P : Deed → Type 0} {f : Option OutsideFault} {old new : Option History}
      → ((call : Deed) → P call → IsSilent call) → Works who P f old new → Adds old new ShowsNone
  works_silent silent rests = adds_none _ ShowsNone (λ h. s.begins)
  works_silent silent unbegun = adds_none _ ShowsNone (λ h. s.begins)
  works_silent silent (works q given by may is told more) =
      adds_then ShowsNone told (works_silent silent more)
      (λ a b h calls later. behind b a (silent_call q (silent (deed_of q) may) given calls) ∙ later)
  works_silent silent (ends q given by may is told) =
      adds_as ShowsNone told (λ a h calls. silent_call q (silent (deed_of q) may) given calls)

-- ---- a damaged file

pub first_none : (x : Option (List ℕ)) → first_name x None ≡ x
first_none None = refl
first_none (Some name) = refl

pub damage_failed : (call : Deed) → damage_by true call (Refused Failed) ≡ None
damage_failed (Reads w at max) = refl
damage_failed (Cuts w n) = refl
damage_failed call = refl

pub damage_stopped : (call : Deed) (left : List Left) → damage_by true call (Stopped left) ≡ None
damage_stopped (Reads w at max) left = refl
damage_stopped (Cuts w n) left = refl
damage_stopped call left = refl

abbrev pub damage : Sign (Option (List ℕ))
damage = record {
  none = None;
  join = first_name;
  of = damage_by;
  all = damage_in;
  right = first_none;
  begins = refl;
  more = λ step h. refl;
  others = λ call answer. refl;
  failed = damage_failed;
  stopped = damage_stopped;
}

-- ---- the last number of starts

pub or_false : (x : Bool) → (x || false) ≡ x
or_false true = refl
or_false false = refl

pub last_failed : (call : Deed) → reads_last true call (Refused Failed) ≡ false
last_failed (Reads w at max) = refl
last_failed call = refl

pub last_stopped : (call : Deed) (left : List Left) → reads_last true call (Stopped left) ≡ false
last_stopped (Reads w at max) left = refl
last_stopped call left = refl

abbrev pub last : Sign Bool
last = record {
  none = false;
  join = λ x y. x || y;
  of = reads_last;
  all = has_read_last;
  right = or_false;
  begins = refl;
  more = λ step h. refl;
  others = λ call answer. refl;
  failed = last_failed;
  stopped = last_stopped;
}

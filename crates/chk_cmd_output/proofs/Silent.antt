-- Calls that print nothing.
use Rattle.std.proofs.Common.{◌≡◌, inl, inr, Bool, true, false, List, [], ◌++◌, Option, Result, Ok, Err, ap, ◌∙◌, refl}
use Rattle.chk_site.specs.declared.acts.Act.{Act}
use Rattle.chk_site.specs.declared.acts.ActAnswer.{ActAnswer}
use Rattle.chk_site.specs.declared.acts.ActAnswer.TheVariants.{Refused, Stopped}
use Rattle.chk_site.specs.declared.acts.CallFault.{CallFault}
use Rattle.chk_site.specs.declared.acts.CallFault.TheVariants.{Failed, Missing, Exists, Short, NoMemory}
use Rattle.chk_site.specs.Acts.{deed_by}
use Rattle.chk_site.specs.History.{History, is_stopped}
use Rattle.chk_site.specs.Runs.{own_acts}
use Rattle.chk_site.specs.Site.{Acted, Added, Adds, Asked, Calls}
use Rattle.chk_site.proofs.Runs.{adds_then}
use Rattle.chk_cmd_output.specs.Printing.{Print, print_of, printed}
use Rattle.chk_cmd_output.proofs.Printed.{prints_join, theirs_silent}

abbrev pub Silent : History → History → Type 0
Silent added history = printed (own_acts added) ≡ []

pub silent_then : {old mid new : Option History} → Adds old mid Silent → Adds mid new Silent
    → Adds old new Silent
silent_then p q = adds_then Silent p q (λ a b history x y. prints_join b a ∙ (λ i. x i ++ y i))

-- what the call prints, by its answer
abbrev pub PrintedBy : Asked → ActAnswer → List Print
PrintedBy q answer = print_of q.who (deed_by q.call q.words q.number q.max) answer

pub acted_silent : (q : Asked) (answer : ActAnswer) {added history : History}
    → PrintedBy q answer ≡ [] → Acted q answer added history → Silent added history
acted_silent q answer {history = history} quiet a =
    ap (λ (k : History). printed (own_acts k)) a.added_is
    ∙ (ap (λ (acts : List Act). printed acts ++ PrintedBy q answer)
    (theirs_silent a.others history a.theirs) ∙ quiet)

-- a call that prints nothing, whatever it answers
module _ (q : Asked) (quiet : (answer : ActAnswer) → PrintedBy q answer ≡ []) where
  running : (given : Result ActAnswer CallFault) (added history : History)
      → Added q given added history → Silent added history
  running (Ok answer) added history a = acted_silent q answer (quiet answer) a
  running (Err NoMemory) added history a = ap printed (theirs_silent added history a)
  running (Err Failed) added history (inl a) =
      acted_silent q (Refused Failed) (quiet (Refused Failed)) a
  running (Err Failed) added history (inr a) =
      acted_silent q (Stopped a.0) (quiet (Stopped a.0)) a.1
  running (Err Missing) added history a =
      acted_silent q (Refused Missing) (quiet (Refused Missing)) a
  running (Err Exists) added history a =
      acted_silent q (Refused Exists) (quiet (Refused Exists)) a
  running (Err (Short size)) added history a =
      acted_silent q (Refused (Short size)) (quiet (Refused (Short size))) a

  pub silent_call : (given : Result ActAnswer CallFault) (added history : History)
      → Calls q given added history → Silent added history
  silent_call given added history c = go (is_stopped history) refl
    where
      go : (b : Bool) → is_stopped history ≡ b → Silent added history
      go true is = ap (λ (k : History). printed (own_acts k)) (c.stopped is).0
      go false is = running given added history (c.running is)

-- What was printed, over several stretches of steps.
use Rattle.std.proofs.Common.{◌≡◌, inl, inr, Bool, true, false, List, ℕ, [], ◌∷◌, ◌++◌, Option, refl, sym, ◌∙◌, ap, subst, append_assoc, append-nil}
use Rattle.chk_site.specs.declared.lists.Left.{Left}
use Rattle.chk_site.specs.declared.acts.ActAnswer.{ActAnswer}
use Rattle.chk_site.specs.declared.acts.ActAnswer.TheVariants.{Refused, Stopped}
use Rattle.chk_site.specs.declared.acts.CallFault.TheVariants.{Failed, NoMemory}
use Rattle.std.proofs.Common.{Err}
use Rattle.chk_site.specs.Acts.{deed, deed_by}
use Rattle.chk_site.specs.Files.{Files}
use Rattle.chk_site.specs.History.{Step, History, Every, IsTheirs, is_stopped}
use Rattle.chk_site.specs.Site.{Adds, Asked, Acted, Calls}
use Rattle.chk_site.proofs.Runs.{adds_then, adds_as, every_join, every_early, every_late, ran}
use Rattle.chk_site.proofs.Leads.{Keeps}
use Rattle.chk_world.specs.JobSteps.{IsOf}
use Rattle.chk_ctl_cat.specs.Looking.{text_said, text_of, LooksOrSays, AreOrWent, SparesOrTakes, Sees}

-- the text of two stretches, the second one being the newer
pub text_then : (b a : History) → text_of (b ++ a) ≡ text_of a ++ text_of b
text_then [] a = sym (append-nil (text_of a))
text_then (step ∷ b) a =
    let by : (own : Bool) → step.own ≡ own → text_of (step ∷ (b ++ a)) ≡ text_of a ++ text_of (step ∷ b) =
    λ own. elim own as (λ own. step.own ≡ own → text_of (step ∷ (b ++ a)) ≡ text_of a ++ text_of (step ∷ b)) [
      | true ↦ λ e. rw e (ap (λ t. t ++ text_said (deed step.act) step.act.answer) (text_then b a)
          ∙ append_assoc (text_of a) (text_of b) (text_said (deed step.act) step.act.answer))
      | false ↦ λ e. rw e (text_then b a)
    ] in
    by step.own refl

-- others print nothing
pub theirs_silent : (added history : History) → Every IsTheirs added history → text_of added ≡ []
theirs_silent [] history theirs = refl
theirs_silent (step ∷ added) history theirs = rw theirs.1.0 (theirs_silent added history theirs.0)

-- what a call with this answer printed
pub acted_text : (q : Asked) (answer : ActAnswer) {added history : History} → Acted q answer added history
    → text_of added ≡ text_said (deed_by q.call q.words q.number q.max) answer
acted_text q answer {history = history} acted =
    subst (λ (a : History). text_of a ≡ text_said (deed_by q.call q.words q.number q.max) answer) (sym acted.added_is)
    (ap (λ t. t ++ text_said (deed_by q.call q.words q.number q.max) answer) (theirs_silent acted.others history acted.theirs))

-- a call that failed printed nothing, where a refusal and a stop of it print nothing
pub failed_text : (q : Asked) {added history : History} → text_said (deed_by q.call q.words q.number q.max) (Refused Failed) ≡ []
    → ((left : List Left) → text_said (deed_by q.call q.words q.number q.max) (Stopped left) ≡ [])
    → Calls q (Err Failed) added history → text_of added ≡ []
failed_text q {added = added} {history = history} refused stopped calls =
    let by : (b : Bool) → is_stopped history ≡ b → text_of added ≡ [] =
    λ b. elim b as (λ b. is_stopped history ≡ b → text_of added ≡ []) [
      | true ↦ λ e. ap text_of (calls.stopped e).0
      | false ↦ λ e. elim (calls.running e) [
        | inl acted ↦ acted_text q (Refused Failed) acted ∙ refused
        | inr half ↦ acted_text q (Stopped half.0) half.1 ∙ stopped half.0
      ]
    ] in
    by (is_stopped history) refl

pub unmade_text : (q : Asked) {added history : History} → Calls q (Err NoMemory) added history → text_of added ≡ []
unmade_text q {added = added} {history = history} calls = theirs_silent added history (ran (Err NoMemory) (λ e. cc) calls)

-- what others leave or take away was left or taken away
pub keeps_files : (held : Files) → Keeps (SparesOrTakes held) (AreOrWent held)
keeps_files held before step theirs spares are name f is =
    elim (spares name f is) [
      | inl same ↦ elim (are name f is) [ inl there ↦ inl (same ∙ there) | inr went ↦ inr (same ∙ went) ]
      | inr taken ↦ inr taken
    ]

-- one stretch after the other
pub sees_then : {A B : Files → List ℕ → History → Type 0} (C : Files → List ℕ → History → Type 0) {old mid new : Option History}
    → ((held : Files) (t : List ℕ) (h : History) → A held t h → AreOrWent held h)
    → ((held : Files) (t u : List ℕ) (m h : History) → A held t m → B held u h → C held (t ++ u) h)
    → Adds old mid (Sees A) → Adds mid new (Sees B) → Adds old new (Sees C)
sees_then {A = A} {B = B} C are join p q =
    adds_then (Sees C) p q
    (λ a b history x y. record {
      sees = λ held s h.
          let O : History → Step → Type 0 = λ before step. step.own ≡ false → SparesOrTakes held before step in
          let first : A held (text_of a) (a ++ history) = x.sees held (every_early O b a history s) h in
          let second : B held (text_of b) (b ++ (a ++ history)) =
          y.sees held (every_late O b a history s) (are held (text_of a) (a ++ history) first) in
          let both : C held (text_of a ++ text_of b) (b ++ (a ++ history)) =
          join held (text_of a) (text_of b) (a ++ history) (b ++ (a ++ history)) first second in
          subst (λ (t : List ℕ). C held t ((b ++ a) ++ history)) (sym (text_then b a))
          (subst (λ (k : History). C held (text_of a ++ text_of b) k) (sym (append_assoc b a history)) both);
      own = every_join (IsOf LooksOrSays) b a history x.own y.own;
    })

-- less is said of it
pub sees_as : {A : Files → List ℕ → History → Type 0} (B : Files → List ℕ → History → Type 0) {old new : Option History}
    → ((held : Files) (t : List ℕ) (h : History) → A held t h → B held t h) → Adds old new (Sees A) → Adds old new (Sees B)
sees_as B weaker p =
    adds_as (Sees B) p
    (λ a history x. record { sees = λ held s h. weaker held (text_of a) (a ++ history) (x.sees held s h); own = x.own })

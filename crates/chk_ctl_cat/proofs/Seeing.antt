-- One read, and one print.
use Rattle.std.proofs.Common.{◌≡◌, inl, inr, ℕ, ◌≤◌, false, List, [], ◌∷◌, ◌++◌, length, take, drop, Option, Some, None, Ok, Err, Result, refl, sym, ◌∙◌, ap, subst, arith}
use Rattle.std.proofs.lemmas.List.{drop_all}
use Rattle.std.proofs.Math.Seq.{take-nil}
use Rattle.chk_site.specs.declared.acts.Who.{Who}
use Rattle.chk_site.specs.declared.acts.Call.TheVariants.{Read, Say}
use Rattle.chk_site.specs.declared.acts.OutsideFault.TheVariants.{Outside, NoMemory as no_memory}
use Rattle.chk_site.specs.declared.acts.CallFault.{CallFault}
use Rattle.chk_site.specs.declared.acts.CallFault.TheVariants.{Failed, Missing, Short, NoMemory}
use Rattle.chk_site.specs.declared.acts.ActAnswer.{ActAnswer}
use Rattle.chk_site.specs.declared.acts.ActAnswer.TheVariants.{Done, Refused}
use Rattle.chk_site.specs.Files.{File, Files}
use Rattle.chk_site.specs.Acts.{Reads, deed_by, touches, tail_in}
use Rattle.chk_site.specs.History.{History, Every, files_after}
use Rattle.chk_site.specs.Honest.{Honest, AtRead}
use Rattle.chk_site.specs.Logs.{Logs}
use Rattle.chk_site.specs.Site.{Adds, Asked, asked, plain, own_step, bytes_given, Calls}
use Rattle.chk_site.proofs.Runs.{adds_as, adds_none, ran}
use Rattle.chk_site.proofs.Leads.{Shows, acted_leads}
use Rattle.chk_site.proofs.Stays.{unnamed_stays}
use Rattle.chk_replace.proofs.CallSteps.{call_each}
use Rattle.chk_world.specs.Sight.{job}
use Rattle.chk_world.specs.JobSteps.{IsOf, reads}
use Rattle.chk_ctl_cat.specs.declared.fault.LookFault.{LookFault}
use Rattle.chk_ctl_cat.specs.declared.fault.LookFault.TheVariants.{Outside as LookOutside, Damaged as LookDamaged, Gone, NoMemory as LookNoMemory}
use Rattle.chk_ctl_cat.specs.Faults.{IsLoss}
use Rattle.chk_ctl_cat.specs.Looking.{LooksOrSays, looks, says, text_of, AreOrWent, Sees}
use Rattle.chk_ctl_cat.specs.Segments.{asks_at, Looked, Said}
use Rattle.chk_ctl_cat.proofs.Texts.{acted_text, failed_text, unmade_text, keeps_files}

abbrev pub read_of : Who → List ℕ → ℕ → Asked
read_of who name at = asked who Read (name ∷ []) at (asks_at at)

abbrev pub say_of : Who → List ℕ → Asked
say_of who text = asked who Say (text ∷ []) 0 0

-- an own step that touches no file leaves these
still : (held : Files) (q : Asked) (answer : ActAnswer) → ((name : List ℕ) → touches (deed_by q.call q.words q.number q.max) name ≡ false)
    → ((name : List ℕ) → tail_in answer name ≡ None) → (before : History) (files : Files) (logs : Logs)
    → Honest before (own_step q answer files logs) → AreOrWent held before → AreOrWent held (own_step q answer files logs ∷ before)
still held q answer untouched quiet before files logs honest are name f is =
    let same : files name ≡ files_after before name =
    unnamed_stays before (own_step q answer files logs) name honest.modelled (untouched name) (quiet name) in
    elim (are name f is) [ inl there ↦ inl (same ∙ there) | inr went ↦ inr (same ∙ went) ]

read_own : (who : Who) (name : List ℕ) (at : ℕ) (given : Result ActAnswer CallFault) {added history : History} → who ≡ job
    → Calls (read_of who name at) given added history → Every (IsOf LooksOrSays) added history
read_own who name at given is calls =
    call_each (IsOf LooksOrSays) given (λ before step theirs. inl theirs)
    (λ before answer files logs running honest.
    inr (record { own = refl; running = running; honest = honest; by = is }, looks (Reads name at (asks_at at)) (reads name at (asks_at at))))
    calls

say_own : (who : Who) (text : List ℕ) (given : Result ActAnswer CallFault) {added history : History} → who ≡ job
    → Calls (say_of who text) given added history → Every (IsOf LooksOrSays) added history
say_own who text given is calls =
    call_each (IsOf LooksOrSays) given (λ before step theirs. inl theirs)
    (λ before answer files logs running honest.
    inr (record { own = refl; running = running; honest = honest; by = is }, says text))
    calls

-- ---- a read

module _ (who : Who) (name : List ℕ) (at : ℕ) (is_job : who ≡ job) where
  piece_is : (bytes : List ℕ) (f : File) → AtRead (Done (bytes ∷ []) 0 0) at (asks_at at) (Some f)
      → bytes ≡ take (asks_at at) (drop at f.bytes)
  piece_is bytes f agrees = let e = agrees.1 in cc

  pub piece_seen : (bytes : List ℕ) {old new : Option History} → Adds old new (Calls (read_of who name at) (Ok (bytes_given bytes)))
      → Adds old new (Sees (Looked name at (Ok bytes)))
  piece_seen bytes told =
      let A : ActAnswer = bytes_given bytes in
      adds_as (Sees (Looked name at (Ok bytes))) told
      (λ added history calls.
      let acted = ran (Ok A) (λ e. cc) calls in
      record {
        sees = λ held s h.
            let B : History → Type 0 =
            λ k. AreOrWent held k × ((f : File) → held name ≡ Some f → bytes ≡ take (asks_at at) (drop at f.bytes)) in
            let shows : Shows (AreOrWent held) B (read_of who name at) A =
            λ before files logs running honest are. (
              still held (read_of who name at) A (λ n. refl) (λ n. refl) before files logs honest are,
              λ f is. elim (are name f is) [
                | inl there ↦ piece_is bytes f (subst (AtRead A at (asks_at at)) there honest.agrees)
                | inr went ↦ absurd (subst (AtRead A at (asks_at at)) went honest.agrees)
              ],
            ) in
            let y : B (added ++ history) = acted_leads B (keeps_files held) shows acted s h in
            (y.0, acted_text (read_of who name at) A acted, y.1);
        own = read_own who name at (Ok A) is_job calls;
      })

  missed_so : (fault : LookFault) → IsLoss name fault → (held : Files) (text : List ℕ) (history : History)
      → AreOrWent held history × (files_after history name ≡ None) × (text ≡ []) → Looked name at (Err fault) held text history
  missed_so (LookOutside call) loss held text history x = absurd loss
  missed_so (LookDamaged which place) loss held text history x = absurd loss
  missed_so (Gone which) loss held text history x = (x.0, loss, x.1, x.2)
  missed_so LookNoMemory loss held text history x = x.2

  pub missing_seen : (fault : LookFault) → IsLoss name fault → {old new : Option History}
      → Adds old new (Calls (read_of who name at) (Err Missing)) → Adds old new (Sees (Looked name at (Err fault)))
  missing_seen fault loss told =
      let A : ActAnswer = Refused Missing in
      adds_as (Sees (Looked name at (Err fault))) told
      (λ added history calls.
      let acted = ran (Err Missing) (λ e. cc) calls in
      record {
        sees = λ held s h.
            let B : History → Type 0 = λ k. AreOrWent held k × (files_after k name ≡ None) in
            let shows : Shows (AreOrWent held) B (read_of who name at) A =
            λ before files logs running honest are. (
              still held (read_of who name at) A (λ n. refl) (λ n. refl) before files logs honest are,
              unnamed_stays before (own_step (read_of who name at) A files logs) name honest.modelled refl refl ∙ honest.agrees,
            ) in
            let y : B (added ++ history) = acted_leads B (keeps_files held) shows acted s h in
            missed_so fault loss held (text_of added) (added ++ history)
            (y.0, y.1, acted_text (read_of who name at) A acted);
        own = read_own who name at (Err Missing) is_job calls;
      })

  short_is : (size : ℕ) (f : File) → AtRead (Refused (Short size)) at (asks_at at) (Some f) → [] ≡ take (asks_at at) (drop at f.bytes)
  short_is size f agrees =
      let past : length f.bytes ≤ at = omega (arith, agrees.0) in
      sym (ap (take (asks_at at)) (drop_all at f.bytes past) ∙ take-nil (asks_at at))

  pub short_seen : (size : ℕ) {old new : Option History} → Adds old new (Calls (read_of who name at) (Err (Short size)))
      → Adds old new (Sees (Looked name at (Ok [])))
  short_seen size told =
      let A : ActAnswer = Refused (Short size) in
      adds_as (Sees (Looked name at (Ok []))) told
      (λ added history calls.
      let acted = ran (Err (Short size)) (λ e. cc) calls in
      record {
        sees = λ held s h.
            let B : History → Type 0 =
            λ k. AreOrWent held k × ((f : File) → held name ≡ Some f → [] ≡ take (asks_at at) (drop at f.bytes)) in
            let shows : Shows (AreOrWent held) B (read_of who name at) A =
            λ before files logs running honest are. (
              still held (read_of who name at) A (λ n. refl) (λ n. refl) before files logs honest are,
              λ f is. elim (are name f is) [
                | inl there ↦ short_is size f (subst (AtRead A at (asks_at at)) there honest.agrees)
                | inr went ↦ absurd (subst (AtRead A at (asks_at at)) went honest.agrees)
              ],
            ) in
            let y : B (added ++ history) = acted_leads B (keeps_files held) shows acted s h in
            (y.0, acted_text (read_of who name at) A acted, y.1);
        own = read_own who name at (Err (Short size)) is_job calls;
      })

  pub read_failed : {old new : Option History} → Adds old new (Calls (read_of who name at) (Err Failed))
      → Adds old new (Sees (Looked name at (Err (LookOutside Read))))
  read_failed told =
      adds_as (Sees (Looked name at (Err (LookOutside Read)))) told
      (λ added history calls. record {
        sees = λ held s h. failed_text (read_of who name at) refl (λ left. refl) calls;
        own = read_own who name at (Err Failed) is_job calls;
      })

  pub read_unmade : {old new : Option History} → Adds old new (Calls (read_of who name at) (Err NoMemory))
      → Adds old new (Sees (Looked name at (Err LookNoMemory)))
  read_unmade told =
      adds_as (Sees (Looked name at (Err LookNoMemory))) told
      (λ added history calls. record {
        sees = λ held s h. unmade_text (read_of who name at) calls;
        own = read_own who name at (Err NoMemory) is_job calls;
      })

-- ---- a print

module _ (who : Who) (text : List ℕ) (is_job : who ≡ job) where
  pub said_seen : {old new : Option History} → Adds old new (Calls (say_of who text) (Ok (plain {T = Unit {0}} tt)))
      → Adds old new (Sees (Said text (Ok tt)))
  said_seen told =
      let A : ActAnswer = plain {T = Unit {0}} tt in
      adds_as (Sees (Said text (Ok tt))) told
      (λ added history calls.
      let acted = ran (Ok A) (λ e. cc) calls in
      record {
        sees = λ held s h.
            let shows : Shows (AreOrWent held) (AreOrWent held) (say_of who text) A =
            λ before files logs running honest are. still held (say_of who text) A (λ n. refl) (λ n. refl) before files logs honest are in
            (acted_leads (AreOrWent held) (keeps_files held) shows acted s h, acted_text (say_of who text) A acted);
        own = say_own who text (Ok A) is_job calls;
      })

  pub say_failed : {old new : Option History} → Adds old new (Calls (say_of who text) (Err Failed))
      → Adds old new (Sees (Said text (Err (Outside Say))))
  say_failed told =
      adds_as (Sees (Said text (Err (Outside Say)))) told
      (λ added history calls. record {
        sees = λ held s h. failed_text (say_of who text) refl (λ left. refl) calls;
        own = say_own who text (Err Failed) is_job calls;
      })

  pub say_unmade : {old new : Option History} → Adds old new (Calls (say_of who text) (Err NoMemory))
      → Adds old new (Sees (Said text (Err no_memory)))
  say_unmade told =
      adds_as (Sees (Said text (Err no_memory))) told
      (λ added history calls. record {
        sees = λ held s h. unmade_text (say_of who text) calls;
        own = say_own who text (Err NoMemory) is_job calls;
      })

-- nothing to print
pub unsaid : (now : Option History) (text : List ℕ) → text ≡ [] → Adds now now (Sees (Said text (Ok tt)))
unsaid now text none =
    adds_none now (Sees (Said text (Ok tt))) (λ history. record { sees = λ held s h. (h, sym none); own = tt })

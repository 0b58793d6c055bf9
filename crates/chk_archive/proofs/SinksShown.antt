-- A listing of the sinks by the job.
use Rattle.std.proofs.Common.{◌≡◌, inl, inr, ℕ, true, List, ◌∷◌, Option, Some, Ok, Err, Result, ap, sym, subst, ◌∙◌, refl}
use Rattle.std.specs.Prelude.{IsSome, IfOk, IfErr, OnErr, Contains, codes}
use Rattle.chk_site.specs.declared.acts.OutsideFault.{OutsideFault}
use Rattle.chk_site.specs.declared.acts.ActAnswer.{ActAnswer}
use Rattle.chk_site.specs.Files.{File, Files}
use Rattle.chk_site.specs.Logs.{Logs}
use Rattle.chk_site.specs.Acts.{Lists}
use Rattle.chk_site.specs.History.{Step, History, Every}
use Rattle.chk_site.specs.Site.{Adds, own_step, answered, names_given}
use Rattle.chk_site.specs.Runs.{Leads}
use Rattle.chk_site.proofs.Runs.{adds_as}
use Rattle.chk_replace.proofs.CallSteps.{OfOwn, call_each}
use Rattle.chk_world.specs.Names.{Name}
use Rattle.chk_world.specs.ArchiveRuns.{Listing, last_listing, listing_by, sink_path}
use Rattle.chk_world.specs.Rules.{Legal}
use Rattle.chk_world.specs.Places.{As}
use Rattle.chk_world.specs.Sight.{job, listed_sinks, sight, AtJob}
use Rattle.chk_world.specs.JobSteps.{IsOf}
use Rattle.chk_world.proofs.DoneNames.{done_named}
use Rattle.chk_world.proofs.ToldCalls.{told_ok}
use Rattle.chk_world.proofs.SightStays.{job_stays, some_file}
use Rattle.chk_archive.specs.Calling.{listing, Listed}
use Rattle.chk_archive.specs.Sinks.{OwnAre, ShowsSinks, ListsSinks, lists_sinks}
use Rattle.chk_archive.proofs.Looking.{list_may, not_listed, files_same, is_listing, own_same}

module _ (stamped : List (List ℕ)) (own : Name → Option File) (names : List (List ℕ)) where
  shows_at : (before : History) (answer : ActAnswer) (files : Files) (logs : Logs) → answer
      ≡ names_given names
      → Legal stamped (own_step (listing job (codes "sinks")) answer files logs ∷ before)
      → OwnAre own (sight before)
      → ShowsSinks own names (sight (own_step
      (listing job (codes "sinks")) answer files logs ∷ before))
  shows_at before answer files logs is legal h =
      let step : Step = own_step (listing job (codes "sinks")) answer files logs in
      let l : Listing = record { names = names; upto = step ∷ before } in
      let last : last_listing (step ∷ before) ≡ Some l =
      subst (λ a. listing_by true (Lists (codes "sinks")) a (step ∷ before) (last_listing before)
      ≡ Some l) (sym is) refl in
      let honest = legal.1.honest in
      let there : (name : List ℕ) → Contains names name → IsSome (files (sink_path name)) =
      λ name one. subst (λ o. IsSome o) (sym
      (files_same names before answer files logs is (codes "sinks") honest (sink_path name)))
      (((is_listing names before answer files logs is (codes "sinks") honest).each name).0 one).1 in
      record {
        own_now = λ n. own_same names before answer files logs is (codes "sinks") honest n ∙ h n;
        listing = l;
        last = last;
        are = refl;
        own_then = λ n. own_same names before answer files logs is (codes "sinks") honest n ∙ h n;
        sinks_then = λ x. sym (ap (λ o. listed_sinks o files x) last);
        there = there;
        done = λ name one closed.
            let f = some_file (files (sink_path name)) (there name one) in
            done_named stamped (step ∷ before) legal name closed f.0 f.1;
      }

  pub sinks_shown : {old new : Option History} → Listed job (codes "sinks") (Ok names) old new
      → Adds old new (Leads (As stamped job) (AtJob stamped (OwnAre own))
      (AtJob stamped (ShowsSinks own names)))
  sinks_shown told =
      told_ok stamped (listing job (codes "sinks")) refl (λ h. OwnAre own (sight h))
      (λ h. ShowsSinks own names (sight h))
      (names_given names) (job_stays stamped (OwnAre own))
      (list_may stamped (codes "sinks") (λ h. OwnAre own (sight h))) tt
      shows_at told

list_is : OfOwn (IsOf ListsSinks) (listing job (codes "sinks"))
list_is before answer files logs running honest =
    inr (record { own = refl; running = running; honest = honest; by = refl }, lists_sinks)

pub sinks_works : (result : Result (List (List ℕ)) OutsideFault) {old new : Option History}
    → Listed job (codes "sinks") result old new → Adds old new (Every (IsOf ListsSinks))
sinks_works (Ok names) told =
    adds_as (Every (IsOf ListsSinks)) told
    (λ added history calls. call_each (IsOf ListsSinks) (Ok (names_given names))
    (λ before step theirs. inl theirs) list_is calls)
sinks_works (Err fault) told =
    adds_as (Every (IsOf ListsSinks)) told.2
    (λ added history calls. call_each (IsOf ListsSinks) (answered names_given told.0)
    (λ before step theirs. inl theirs) list_is calls)

-- ---- by the call's result, whose value shows these names

module _ {T : Type 0} (items : T → List (List ℕ)) (old new : Option History) where
  abbrev Gave : Result T OutsideFault → Type 0
  Gave r = IfOk r (λ v. Listed job (codes "sinks") (Ok (items v)) old new)

  abbrev Refused : Result T OutsideFault → Type 0
  Refused r = IfErr r (λ fault. Listed job (codes "sinks") (Err fault) old new)

  pub shown_ok : (stamped : List (List ℕ)) (own : Name → Option File) (r : Result T OutsideFault)
      → Gave r
      → IfOk r (λ v. Adds old new (Leads (As stamped job) (AtJob stamped (OwnAre own))
      (AtJob stamped (ShowsSinks own (items v)))))
  shown_ok stamped own (Ok v) gave = sinks_shown stamped own (items v) gave
  shown_ok stamped own (Err fault) gave = tt

  pub shown_err : (stamped : List (List ℕ)) (own : Name → Option File) (r : Result T OutsideFault)
      → Refused r
      → OnErr r (Adds old new (Leads (As stamped job) (AtJob stamped (OwnAre own)) (Legal stamped)))
  shown_err stamped own (Ok v) refused = tt
  shown_err stamped own (Err fault) refused = not_listed stamped (codes "sinks")
      (OwnAre own) fault refused

  pub shown_works : (r : Result T OutsideFault) → Gave r → Refused r → Adds old new
      (Every (IsOf ListsSinks))
  shown_works (Ok v) gave refused = sinks_works (Ok (items v)) gave
  shown_works (Err fault) gave refused = sinks_works (Err fault) refused

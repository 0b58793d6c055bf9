-- What a removal by the job that was done leaves.
use Rattle.std.proofs.Common.{◌≡◌, Bool, true, false, List, None, ap, sym, ◌∙◌, refl, if◌then◌else◌, ℕ}
use Rattle.std.specs.Prelude.{IsTrue}
use Rattle.chk_site.specs.declared.acts.ActAnswer.{ActAnswer}
use Rattle.chk_site.specs.Files.{Files}
use Rattle.chk_site.specs.Logs.{Logs}
use Rattle.chk_site.specs.Acts.{is_done}
use Rattle.chk_site.specs.History.{History, files_after}
use Rattle.chk_site.specs.Honest.{Honest}
use Rattle.chk_site.specs.Site.{own_step, WasDone}
use Rattle.chk_world.specs.Names.{Name, spell, read, file, is_known}
use Rattle.chk_world.specs.Sight.{job}
use Rattle.chk_world.proofs.NameTests.{same_name}
use Rattle.chk_world.proofs.OwnFiles.{done_file, refused_file, MissedOrDone, was_done, was_missing, missed_or_done}
use Rattle.chk_archive.specs.Calling.{removal}

module _ (w : List ℕ) (before : History) (answer : ActAnswer) (files : Files) (logs : Logs)
    (was : WasDone answer)
    (honest : Honest before (own_step (removal job w) answer files logs)) where
  so : MissedOrDone answer (files_after before w)
  so = missed_or_done answer (files_after before w) was honest.agrees

  -- another file stays
  pub kept : (m : Name) → IsTrue (is_known m) → same_name m (read w) ≡ false
      → file files m ≡ file (files_after before) m
  kept m known apart = go so
    where
      go : MissedOrDone answer (files_after before w) → file files m ≡ file (files_after before) m
      go (was_done is) =
          done_file before (own_step (removal job w) answer files logs) m honest is known
          ∙ ap (λ b. if b then None else file (files_after before) m) apart
      go (was_missing is none) =
          refused_file before (own_step (removal job w) answer files logs) m honest was
          (ap is_done is)

  -- this one is gone
  pub gone : (m : Name) → IsTrue (is_known m) → same_name m (read w) ≡ true → w ≡ spell m
      → file files m ≡ None
  gone m known same spelled = go so
    where
      go : MissedOrDone answer (files_after before w) → file files m ≡ None
      go (was_done is) =
          done_file before (own_step (removal job w) answer files logs) m honest is known
          ∙ ap (λ b. if b then None else file (files_after before) m) same
      go (was_missing is none) =
          refused_file before (own_step (removal job w) answer files logs) m honest was
          (ap is_done is)
          ∙ (ap (files_after before) (sym spelled) ∙ none)

  -- what was not there still isn't
  pub still_gone : (m : Name) → IsTrue (is_known m) → file (files_after before) m ≡ None
      → file files m ≡ None
  still_gone m known none = go (same_name m (read w)) refl
    where
      out : (b : Bool) → (if b then None else file (files_after before) m) ≡ None
      out true = refl
      out false = none

      go : (b : Bool) → same_name m (read w) ≡ b → file files m ≡ None
      go false e = kept m known e ∙ none
      go true e = by so
        where
          by : MissedOrDone answer (files_after before w) → file files m ≡ None
          by (was_done is) =
              done_file before (own_step (removal job w) answer files logs) m honest is known ∙ out
              (same_name m (read w))
          by (was_missing is missing) =
              refused_file before (own_step (removal job w) answer files logs) m honest was
              (ap is_done is) ∙ none

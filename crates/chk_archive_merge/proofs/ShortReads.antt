-- One short read of a file that stands beside others, while others leave them all as they are.
use Rattle.std.proofs.Common.{◌≡◌, ◌≤◌, ℕ, List, [], ◌∷◌, length, take, drop, Option, Some, None, Ok, Err, Result, refl, sym, ◌∙◌, ap, subst, arith}
use Rattle.std.specs.Prelude.{Contains}
use Rattle.std.proofs.lemmas.List.{drop_all}
use Rattle.std.proofs.Math.Seq.{take-nil}
use Rattle.chk_site.specs.declared.acts.Who.{Who}
use Rattle.chk_site.specs.declared.acts.CallFault.{CallFault}
use Rattle.chk_site.specs.declared.acts.CallFault.TheVariants.{Missing, Short}
use Rattle.chk_site.specs.declared.acts.ActAnswer.{ActAnswer}
use Rattle.chk_site.specs.declared.acts.ActAnswer.TheVariants.{Done, Refused}
use Rattle.chk_site.specs.Files.{File, Files}
use Rattle.chk_site.specs.Acts.{tail_in}
use Rattle.chk_site.specs.History.{History}
use Rattle.chk_site.specs.Honest.{AtRead}
use Rattle.chk_site.specs.Site.{Adds, own_step, bytes_given, Calls, Acted}
use Rattle.chk_site.specs.Runs.{anyhow, Leads}
use Rattle.chk_site.proofs.Runs.{adds_as, ran}
use Rattle.chk_site.proofs.Leads.{Keeps, Shows, acted_leads, owned_anyhow}
use Rattle.chk_site.proofs.Stays.{unnamed_stays}
use Rattle.chk_record_index.specs.Pieces.{asks_for, bytes_in}
use Rattle.chk_record_index.proofs.PieceReads.{read_for}
use Rattle.chk_record_reader.specs.Segments.{HasFiles, SparesFiles}
use Rattle.chk_archive_merge.specs.Cursors.{HasShort}

given_bytes : (at : ℕ) (bytes : List ℕ) (file : Option File) → AtRead (Done (bytes ∷ []) 0 0) at (asks_for 262144 at) file
    → bytes ≡ take (asks_for 262144 at) (drop at (bytes_in file))
given_bytes at bytes None agrees = absurd agrees
given_bytes at bytes (Some file) agrees = let e = agrees.1 in cc

missing_bytes : (at : ℕ) (file : Option File) → AtRead (Refused Missing) at (asks_for 262144 at) file
    → [] ≡ take (asks_for 262144 at) (drop at (bytes_in file))
missing_bytes at file agrees =
    sym (ap (take (asks_for 262144 at)) (drop_all at [] (omega arith)) ∙ take-nil (asks_for 262144 at))
    ∙ ap (λ o. take (asks_for 262144 at) (drop at (bytes_in o))) (sym agrees)

past_bytes : (at size : ℕ) (file : Option File) → AtRead (Refused (Short size)) at (asks_for 262144 at) file
    → [] ≡ take (asks_for 262144 at) (drop at (bytes_in file))
past_bytes at size None agrees = absurd agrees
past_bytes at size (Some file) agrees =
    let past : length file.bytes ≤ at = omega (arith, agrees.0) in
    sym (ap (take (asks_for 262144 at)) (drop_all at file.bytes past) ∙ take-nil (asks_for 262144 at))

module _ (names : List (List ℕ)) (held : Files) where
  keeps_files : Keeps (SparesFiles names) (HasFiles names held)
  keeps_files before step theirs leaves has w is = leaves w is ∙ has w is

  module _ (who : Who) (name : List ℕ) (at : ℕ) (one : Contains names name) where
    shows_files : (answer : ActAnswer) (bytes : List ℕ) → ((w : List ℕ) → tail_in answer w ≡ None)
        → (AtRead answer at (asks_for 262144 at) (held name) → bytes ≡ take (asks_for 262144 at) (drop at (bytes_in (held name))))
        → Shows (HasFiles names held) (HasShort names held name at (Ok bytes)) (read_for who name at 262144) answer
    shows_files answer bytes quiet known before files logs running honest has = (
      λ w is.
          unnamed_stays before (own_step (read_for who name at 262144) answer files logs) w honest.modelled refl (quiet w) ∙ has w is,
      known (subst (AtRead answer at (asks_for 262144 at)) (has name one) honest.agrees),
    )

    leads_short : (answer : Result ActAnswer CallFault) (given : ActAnswer) (bytes : List ℕ) {old new : Option History}
        → Shows (HasFiles names held) (HasShort names held name at (Ok bytes)) (read_for who name at 262144) given
        → ((added history : History) → Calls (read_for who name at 262144) answer added history → Acted (read_for who name at 262144) given added history)
        → Adds old new (Calls (read_for who name at 262144) answer)
        → Adds old new (Leads (anyhow (SparesFiles names)) (HasFiles names held) (HasShort names held name at (Ok bytes)))
    leads_short answer given bytes shows acted told =
        adds_as (Leads (anyhow (SparesFiles names)) (HasFiles names held) (HasShort names held name at (Ok bytes))) told
        (λ added history calls. record {
          leads = acted_leads (HasShort names held name at (Ok bytes)) keeps_files shows (acted added history calls);
          own = owned_anyhow added history;
        })

    pub short_given : (bytes : List ℕ) {old new : Option History} → Adds old new (Calls (read_for who name at 262144) (Ok (bytes_given bytes)))
        → Adds old new (Leads (anyhow (SparesFiles names)) (HasFiles names held) (HasShort names held name at (Ok bytes)))
    short_given bytes told =
        leads_short (Ok (bytes_given bytes)) (bytes_given bytes) bytes
        (shows_files (bytes_given bytes) bytes (λ w. refl) (λ agrees. given_bytes at bytes (held name) agrees))
        (λ added history calls. ran (Ok (bytes_given bytes)) (λ e. cc) calls) told

    pub short_missing : {old new : Option History} → Adds old new (Calls (read_for who name at 262144) (Err Missing))
        → Adds old new (Leads (anyhow (SparesFiles names)) (HasFiles names held) (HasShort names held name at (Ok [])))
    short_missing told =
        leads_short (Err Missing) (Refused Missing) []
        (shows_files (Refused Missing) [] (λ w. refl) (λ agrees. missing_bytes at (held name) agrees))
        (λ added history calls. ran (Err Missing) (λ e. cc) calls) told

    pub short_past : (size : ℕ) {old new : Option History} → Adds old new (Calls (read_for who name at 262144) (Err (Short size)))
        → Adds old new (Leads (anyhow (SparesFiles names)) (HasFiles names held) (HasShort names held name at (Ok [])))
    short_past size told =
        leads_short (Err (Short size)) (Refused (Short size)) []
        (shows_files (Refused (Short size)) [] (λ w. refl) (λ agrees. past_bytes at size (held name) agrees))
        (λ added history calls. ran (Err (Short size)) (λ e. cc) calls) told

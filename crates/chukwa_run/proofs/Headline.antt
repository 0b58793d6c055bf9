-- The headline follows from what a run leads to and from the laws of all legal histories.
use Rattle.std.proofs.Common.{◌≡◌, ℕ, zero, suc, List, ◌∷◌, ◌++◌, Option, refl, sym, subst, ap, ◌∙◌, append_assoc, arith}
use Rattle.std.proofs.lemmas.Option.{same_Some}
use Rattle.chk_site.specs.History.{History}
use Rattle.chk_site.specs.Site.{Adds}
use Rattle.chk_site.specs.Runs.{Leads}
use Rattle.chk_site.proofs.Leads.{leads_as}
use Rattle.chk_world.specs.ArchiveRuns.{Listing, unclosed_in}
use Rattle.chk_world.specs.Laws.{IsComplete}
use Rattle.chk_world.specs.Rules.{Legal}
use Rattle.chk_world.proofs.AcknowledgedSaved.{law_covered}
use Rattle.chk_world.proofs.Fronts.{law_prefix}
use Rattle.chk_world.proofs.Reports.{reports_are_true}
use Rattle.chk_cmd_line.specs.Commands.{Asked, RoundAsked, Round, Agent, Collector, Drain, Archive, Demux, Salvage, Load, Udp, Subscribe, Join}
use Rattle.chk_cmd_line.specs.Endings.{ending_status}
use Rattle.chk_cmd_line.specs.declared.endings.Ending.{Ending}
use Rattle.chk_cmd_line.specs.declared.endings.Ending.TheVariants.{Outside, NoMemory, Damaged, Length, Growing, Unclosed, Shrank, Spent, Refused, Differ}
use Rattle.chukwa_run.specs.Endings.{Ended, done, ended, stopped}
use Rattle.chukwa_run.specs.Headline.{ArchivesAreFronts, Headline, IfRoundDone, ReportsCover, RoundIsWhole}
use Rattle.chukwa_run.specs.Processes.{RunSide}
use Rattle.chukwa_run.specs.RoundRuns.{RoundWhole}
use Rattle.chukwa_run.specs.Runs.{Begins, Ends}
use Rattle.chukwa_run.specs.Showing.{Shows}
use Rattle.chukwa_run.specs.Whole.{Whole}
use Rattle.chk_world.proofs.Rounds.{legal_front}

fronts : (stamped : List (List ℕ)) (history : History) → Legal stamped history
    → ArchivesAreFronts history
fronts stamped history legal later front is s =
    law_prefix stamped front (legal_front stamped later front (subst (Legal stamped) is legal)) s

covered : (stamped : List (List ℕ)) (history : History) → Legal stamped history
    → ReportsCover history
covered stamped history legal later step front is r l last closed s source =
    let then_legal = legal_front stamped later (step ∷ front) (subst (Legal stamped) is legal) in
    let told = reports_are_true stamped front step then_legal r.by_job r.text r.says r.report r.words
    r.number r.of r.done in
    let same : told.listing ≡ l = same_Some told.listing l (sym told.last ∙ last) in
    let complete : IsComplete (step ∷ front) l =
    subst (IsComplete (step ∷ front)) same
    (told.complete (ap (λ (k : Listing). unclosed_in k.names) same ∙ closed)) in
    law_covered stamped (step ∷ front) then_legal l complete s source

-- ---- a round

round_whole : (earlier added : History) (w : RoundAsked) → RoundWhole w earlier added
    → RoundIsWhole w.source earlier (added ++ earlier)
round_whole earlier added w x = record {
  tail = x.done.tail;
  body = x.done.body;
  split = ap (λ (k : History). k ++ earlier) x.done.split
      ∙ append_assoc x.done.tail x.done.body earlier;
  each = λ l one live.
      let a = x.done.archived refl l one live in
      record {
        later = a.later;
        front = a.step ∷ a.earlier;
        split = a.split;
        end_is = a.holds.0;
        archive_is = a.holds.1;
      };
}

not_zero : (e : Ending) → ending_status e ≡ 0 → ⊥
not_zero (Outside call) is = omega (arith, is)
not_zero NoMemory is = omega (arith, is)
not_zero (Damaged name at) is = omega (arith, is)
not_zero (Length stem got want) is = omega (arith, is)
not_zero (Growing path reads) is = omega (arith, is)
not_zero (Unclosed name) is = omega (arith, is)
not_zero (Shrank path had has) is = omega (arith, is)
not_zero (Spent n) is = omega (arith, is)
not_zero (Refused code) is = omega (arith, is)
not_zero (Differ source kind stream at) is = omega (arith, is)

-- the status 0 says that all was done
all_done : {Done : History → Type 0} {Shown : Ending → History → Type 0} {added earlier : History}
    {status : ℕ} → Ended Done Shown added earlier status → status ≡ 0 → Done added
all_done (done running did) is = did
all_done (ended e x) is = absurd (not_zero e is)
all_done (stopped e x) is = absurd (not_zero e is)

if_round : (stamped : List (List ℕ)) (command : Asked) (status : ℕ) (earlier added : History)
    → Ended (Whole stamped command earlier) (Shows command earlier) added earlier status
    → IfRoundDone command status earlier (added ++ earlier)
if_round stamped (Round w) zero earlier added x =
    round_whole earlier added w (all_done x refl)
if_round stamped (Round w) (suc n) earlier added x = tt
if_round stamped (Agent w) status earlier added x = tt
if_round stamped (Collector w) status earlier added x = tt
if_round stamped (Drain w) status earlier added x = tt
if_round stamped Archive status earlier added x = tt
if_round stamped (Demux kinds) status earlier added x = tt
if_round stamped (Salvage file) status earlier added x = tt
if_round stamped (Load lines) status earlier added x = tt
if_round stamped (Udp w) status earlier added x = tt
if_round stamped (Subscribe w) status earlier added x = tt
if_round stamped (Join w) status earlier added x = tt

pub headline : (stamped : List (List ℕ)) (command : Asked) (earlier : History) (status : ℕ)
    {old new : Option History}
    → Adds old new
    (Leads (RunSide stamped command) (Begins stamped earlier) (Ends stamped command status earlier))
    → Adds old new
    (Leads (RunSide stamped command) (Begins stamped earlier) (Headline command status earlier))
headline stamped command earlier status told =
    leads_as (λ h begins. begins)
    (λ h end. record {
      fronts = fronts stamped h end.legal;
      covered = covered stamped h end.legal;
      round = subst (IfRoundDone command status earlier) (sym end.since.goes_on)
          (if_round stamped command status earlier end.since.added end.since.holds);
    }) told

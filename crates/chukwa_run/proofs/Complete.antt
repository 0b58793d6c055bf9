-- What may still end a run in which no call failed.
use Rattle.std.proofs.Common.{◌≡◌, inl, inr, ◌⊎◌, ◌≤◌, ℕ, false, List, ◌++◌, Ok, Err, Option, Result, refl, sym, ◌∙◌, true≢false}
use Rattle.std.proofs.Math.Nat.{le_trans}
use Rattle.chk_site.specs.History.{History, is_stopped}
use Rattle.chk_site.specs.Site.{Adds, Rose}
use Rattle.chk_site.specs.Runs.{Leads}
use Rattle.chk_site.proofs.Leads.{leads_as}
use Rattle.chk_cmd_line.specs.Datagrams.{UdpAsked}
use Rattle.chk_cmd_line.specs.Subscribing.{SubscribeAsked}
use Rattle.chk_cmd_line.specs.Joining.{JoinAsked}
use Rattle.chk_cmd_line.specs.Commands.{RoundAsked, AgentAsked, CollectorAsked, DrainAsked}
use Rattle.chk_cmd_line.specs.Commands.{Asked, Round, Agent, Collector, Drain, Archive, Demux, Salvage, Load, Udp, Subscribe, Join}
use Rattle.chk_cmd_line.specs.Endings.{ending_status}
use Rattle.chk_cmd_line.specs.declared.endings.Ending.{Ending}
use Rattle.chk_cmd_line.specs.declared.endings.Ending.TheVariants.{Outside, NoMemory, Damaged, Length, Growing, Unclosed, Shrank, Spent, Refused, Differ}
use Rattle.chukwa_run.specs.Causes.{EndingCause}
use Rattle.chukwa_run.specs.Complete.{LeftOver, Completed, whole, wanting, left, Completes}
use Rattle.chukwa_run.specs.Endings.{Ended, done, ended, stopped}
use Rattle.chukwa_run.specs.Processes.{RunSide}
use Rattle.chukwa_run.specs.Runs.{Begins, Ends}
use Rattle.chukwa_run.specs.Saying.{IsOutsideEnd}
use Rattle.chukwa_run.specs.Showing.{Shows}
use Rattle.chukwa_run.specs.Whole.{Whole}

-- ---- by command

-- there was no memory, or the ending is one that is left over
abbrev Remains : Asked → History → Ending → History → Type 0
Remains command earlier e added = (e ≡ NoMemory) ⊎ LeftOver command earlier e added

-- what a command's endings show but for a call that failed
abbrev Leaves : Asked → Type 0
Leaves command =
    (earlier added : History) (e : Ending) → ¬ (ending_status e ≡ 3)
    → Shows command earlier e added → Remains command earlier e added

of_round : (w : RoundAsked) → Leaves (Round w)
of_round w earlier added (Outside call) calm shows = absurd (calm refl)
of_round w earlier added NoMemory calm shows = inl refl
of_round w earlier added (Damaged name at) calm shows = absurd shows.1
of_round w earlier added (Length stem got want) calm shows = inr shows
of_round w earlier added (Growing path reads) calm shows = inr shows.0
of_round w earlier added (Unclosed name) calm shows = inr shows
of_round w earlier added (Shrank path had has) calm shows = absurd shows.1
of_round w earlier added (Spent n) calm shows = inr shows.1
of_round w earlier added (Refused code) calm shows = absurd shows.1
of_round w earlier added (Differ source kind stream at) calm shows = absurd shows.0

of_agent : (w : AgentAsked) → Leaves (Agent w)
of_agent w earlier added (Outside call) calm shows = absurd (calm refl)
of_agent w earlier added NoMemory calm shows = inl refl
of_agent w earlier added (Damaged name at) calm shows = inr shows.1
of_agent w earlier added (Length stem got want) calm shows = absurd shows.0
of_agent w earlier added (Growing path reads) calm shows = absurd shows.0
of_agent w earlier added (Unclosed name) calm shows = absurd shows.0
of_agent w earlier added (Shrank path had has) calm shows = absurd shows.0
of_agent w earlier added (Spent n) calm shows = absurd shows.0
of_agent w earlier added (Refused code) calm shows = absurd shows.0
of_agent w earlier added (Differ source kind stream at) calm shows = absurd shows.0

of_collector : (w : CollectorAsked) → Leaves (Collector w)
of_collector w earlier added (Outside call) calm shows = absurd (calm refl)
of_collector w earlier added NoMemory calm shows = inl refl
of_collector w earlier added (Damaged name at) calm shows = inr shows.1
of_collector w earlier added (Length stem got want) calm shows = absurd shows.0
of_collector w earlier added (Growing path reads) calm shows = absurd shows.0
of_collector w earlier added (Unclosed name) calm shows = absurd shows.0
of_collector w earlier added (Shrank path had has) calm shows = absurd shows.0
of_collector w earlier added (Spent n) calm shows = inr shows.1
of_collector w earlier added (Refused code) calm shows = absurd shows.0
of_collector w earlier added (Differ source kind stream at) calm shows = absurd shows.0

of_drain : (w : DrainAsked) → Leaves (Drain w)
of_drain w earlier added (Outside call) calm shows = absurd (calm refl)
of_drain w earlier added NoMemory calm shows = inl refl
of_drain w earlier added (Damaged name at) calm shows = inr shows.1
of_drain w earlier added (Length stem got want) calm shows = inr shows.0
of_drain w earlier added (Growing path reads) calm shows = inr shows.0
of_drain w earlier added (Unclosed name) calm shows = absurd shows.0
of_drain w earlier added (Shrank path had has) calm shows = absurd shows.1
of_drain w earlier added (Spent n) calm shows = absurd shows.0
of_drain w earlier added (Refused code) calm shows = inr shows.0
of_drain w earlier added (Differ source kind stream at) calm shows = absurd shows.0

of_archive : Leaves Archive
of_archive earlier added (Outside call) calm shows = absurd (calm refl)
of_archive earlier added NoMemory calm shows = inl refl
of_archive earlier added (Damaged name at) calm shows = absurd shows.1
of_archive earlier added (Length stem got want) calm shows = absurd shows.0.1
of_archive earlier added (Growing path reads) calm shows = absurd shows.0.1
of_archive earlier added (Unclosed name) calm shows = absurd shows.0.1
of_archive earlier added (Shrank path had has) calm shows = absurd shows.0.1
of_archive earlier added (Spent n) calm shows = inr shows.1
of_archive earlier added (Refused code) calm shows = absurd shows.0.1
of_archive earlier added (Differ source kind stream at) calm shows = absurd shows.0.1

of_demux : (kinds : List (List ℕ)) → Leaves (Demux kinds)
of_demux kinds earlier added (Outside call) calm shows = absurd (calm refl)
of_demux kinds earlier added NoMemory calm shows = inl refl
of_demux kinds earlier added (Damaged name at) calm shows = absurd shows.1
of_demux kinds earlier added (Length stem got want) calm shows = absurd shows.0.1
of_demux kinds earlier added (Growing path reads) calm shows = absurd shows.0.1
of_demux kinds earlier added (Unclosed name) calm shows = absurd shows.0.1
of_demux kinds earlier added (Shrank path had has) calm shows = absurd shows.0.1
of_demux kinds earlier added (Spent n) calm shows = inr shows.1
of_demux kinds earlier added (Refused code) calm shows = absurd shows.0.1
of_demux kinds earlier added (Differ source kind stream at) calm shows = absurd shows.0.1

of_salvage : (file : List ℕ) → Leaves (Salvage file)
of_salvage file earlier added (Outside call) calm shows = absurd (calm refl)
of_salvage file earlier added NoMemory calm shows = inl refl
of_salvage file earlier added (Damaged name at) calm shows = inr shows
of_salvage file earlier added (Length stem got want) calm shows = absurd shows
of_salvage file earlier added (Growing path reads) calm shows = absurd shows
of_salvage file earlier added (Unclosed name) calm shows = absurd shows
of_salvage file earlier added (Shrank path had has) calm shows = absurd shows
of_salvage file earlier added (Spent n) calm shows = absurd shows
of_salvage file earlier added (Refused code) calm shows = absurd shows
of_salvage file earlier added (Differ source kind stream at) calm shows = absurd shows

of_load : (lines : ℕ) → Leaves (Load lines)
of_load lines earlier added (Outside call) calm shows = absurd (calm refl)
of_load lines earlier added NoMemory calm shows = inl refl
of_load lines earlier added (Damaged name at) calm shows = absurd shows.1
of_load lines earlier added (Length stem got want) calm shows = inr (shows.0.fault, shows.1)
of_load lines earlier added (Growing path reads) calm shows = inr shows.0.fault
of_load lines earlier added (Unclosed name) calm shows = inr shows.1
of_load lines earlier added (Shrank path had has) calm shows = absurd shows.1
of_load lines earlier added (Spent n) calm shows = inr (shows.0.fault, shows.1)
of_load lines earlier added (Refused code) calm shows = absurd shows.1
of_load lines earlier added (Differ source kind stream at) calm shows = absurd shows.0.fault

of_udp : (w : UdpAsked) → Leaves (Udp w)
of_udp w earlier added (Outside call) calm shows = absurd (calm refl)
of_udp w earlier added NoMemory calm shows = inl refl
of_udp w earlier added (Damaged name at) calm shows = inr shows
of_udp w earlier added (Length stem got want) calm shows = absurd shows
of_udp w earlier added (Growing path reads) calm shows = absurd shows
of_udp w earlier added (Unclosed name) calm shows = absurd shows
of_udp w earlier added (Shrank path had has) calm shows = absurd shows
of_udp w earlier added (Spent n) calm shows = inr shows
of_udp w earlier added (Refused code) calm shows = absurd shows
of_udp w earlier added (Differ source kind stream at) calm shows = absurd shows

of_subscribe : (w : SubscribeAsked) → Leaves (Subscribe w)
of_subscribe w earlier added (Outside call) calm shows = absurd (calm refl)
of_subscribe w earlier added NoMemory calm shows = inl refl
of_subscribe w earlier added (Damaged name at) calm shows = absurd shows
of_subscribe w earlier added (Length stem got want) calm shows = absurd shows
of_subscribe w earlier added (Growing path reads) calm shows = absurd shows
of_subscribe w earlier added (Unclosed name) calm shows = absurd shows
of_subscribe w earlier added (Shrank path had has) calm shows = absurd shows
of_subscribe w earlier added (Spent n) calm shows = absurd shows
of_subscribe w earlier added (Refused code) calm shows = absurd shows
of_subscribe w earlier added (Differ source kind stream at) calm shows = absurd shows

of_join : (w : JoinAsked) → Leaves (Join w)
of_join w earlier added (Outside call) calm shows = absurd (calm refl)
of_join w earlier added NoMemory calm shows = inl refl
of_join w earlier added (Damaged name at) calm shows = inr shows
of_join w earlier added (Length stem got want) calm shows = absurd shows.of
of_join w earlier added (Growing path reads) calm shows = absurd shows.of
of_join w earlier added (Unclosed name) calm shows = absurd shows.of
of_join w earlier added (Shrank path had has) calm shows = absurd shows.of
of_join w earlier added (Spent n) calm shows = inr shows
of_join w earlier added (Refused code) calm shows = absurd shows.of
of_join w earlier added (Differ source kind stream at) calm shows = inr shows

remains : (command : Asked) → Leaves command
remains (Round w) = of_round w
remains (Agent w) = of_agent w
remains (Collector w) = of_collector w
remains (Drain w) = of_drain w
remains Archive = of_archive
remains (Demux kinds) = of_demux kinds
remains (Salvage file) = of_salvage file
remains (Load lines) = of_load lines
remains (Udp w) = of_udp w
remains (Subscribe w) = of_subscribe w
remains (Join w) = of_join w

-- ---- of the run

completed : (stamped : List (List ℕ)) (command : Asked) (added earlier : History) (status : ℕ)
    → ¬ (status ≡ 3) → is_stopped (added ++ earlier) ≡ false
    → Ended (Whole stamped command earlier) (Shows command earlier) added earlier status
    → Completed (Whole stamped command earlier) (LeftOver command earlier) added earlier status
completed stamped command added earlier status calm runs (done running did) = whole did
completed stamped command added earlier status calm runs (ended e x) =
    by (remains command earlier x.body e calm x.shows)
  where
    by : Remains command earlier e x.body
        → Completed (Whole stamped command earlier) (LeftOver command earlier) added earlier (ending_status e)
    by (inl same) = rw same wanting
    by (inr over) =
        left e
        (record {
          tail = x.tail;
          body = x.body;
          is = x.is;
          running = x.running;
          shows = over;
          said = x.said;
        })
completed stamped command added earlier status calm runs (stopped e is) =
    absurd (true≢false (sym is ∙ runs))

-- only a failed call ends a run so, and then the count rose
pub calm_status : (result : Result (Unit {0}) Ending) (status before mid now : ℕ)
    → (status ≡ 3 → IsOutsideEnd result) → EndingCause before mid result → mid ≤ now
    → ¬ Rose before now → ¬ (status ≡ 3)
calm_status (Err (Outside call)) status before mid now outside rose further calm is =
    calm (le_trans rose further)
calm_status (Err NoMemory) status before mid now outside rose further calm is = outside is
calm_status (Err (Damaged name at)) status before mid now outside rose further calm is = outside is
calm_status (Err (Length stem got want)) status before mid now outside rose further calm is = outside is
calm_status (Err (Growing path reads)) status before mid now outside rose further calm is = outside is
calm_status (Err (Unclosed name)) status before mid now outside rose further calm is = outside is
calm_status (Err (Shrank path had has)) status before mid now outside rose further calm is = outside is
calm_status (Err (Spent n)) status before mid now outside rose further calm is = outside is
calm_status (Err (Refused code)) status before mid now outside rose further calm is = outside is
calm_status (Err (Differ source kind stream at)) status before mid now outside rose further calm
    is = outside is
calm_status (Ok value) status before mid now outside rose further calm is = outside is

pub completes : (stamped : List (List ℕ)) (command : Asked) (earlier : History) (status : ℕ)
    {old new : Option History} → ¬ (status ≡ 3)
    → Adds old new (Leads (RunSide stamped command) (Begins stamped earlier) (Ends stamped command status earlier))
    → Adds old new (Leads (RunSide stamped command) (Begins stamped earlier) (Completes stamped command status earlier))
completes stamped command earlier status calm told =
    leads_as (λ h begins. begins)
    (λ h end. record {
      added = end.since.added;
      goes_on = end.since.goes_on;
      holds = λ runs. completed stamped command end.since.added earlier status calm runs end.since.holds;
    }) told

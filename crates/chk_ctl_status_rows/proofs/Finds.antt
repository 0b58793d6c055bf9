-- What is found of the agents behind the listing.
use Rattle.std.proofs.Common.{◌≡◌, ℕ, List, [], Option, Ok, Err, Result}
use Rattle.std.specs.Prelude.{IfOk, IfErr}
use Rattle.chk_site.specs.declared.acts.Who.{Who}
use Rattle.chk_site.specs.History.{History, Every}
use Rattle.chk_site.specs.Site.{Adds}
use Rattle.chk_world.specs.Sight.{job}
use Rattle.chk_ctl_status_rows.specs.declared.agents.AgentSeen.{AgentSeen}
use Rattle.chk_ctl_status_rows.specs.declared.agents.AgentsFault.{AgentsFault}
use Rattle.chk_ctl_status_rows.specs.Agents.{listed, FindsAgents, Listed, LooksAtLogs, SeesAgents}
use Rattle.chk_ctl_status_rows.proofs.Own.{finds_own}

pub found_ok : {T : Type 0} (items : T → List AgentSeen) (result : Result T AgentsFault)
    {who : Who} {names : List (List ℕ)} {old : Option History} (mid new : Option History)
    → Listed who (Ok names) old mid
    → IfOk result (λ (a : T). SeesAgents who [] names (Ok (items a)) mid new)
    → IfOk result (λ (a : T). FindsAgents who (Ok (items a)) old new)
found_ok items (Ok a) mid new told sees = listed told sees
found_ok items (Err fault) mid new told sees = tt

pub found_err : {T : Type 0} (result : Result T AgentsFault)
    {who : Who} {names : List (List ℕ)} {old : Option History} (mid new : Option History)
    → Listed who (Ok names) old mid
    → IfErr result (λ (f : AgentsFault). SeesAgents who [] names (Err f) mid new)
    → IfErr result (λ (f : AgentsFault). FindsAgents who (Err f) old new)
found_err (Ok a) mid new told sees = tt
found_err (Err fault) mid new told sees = listed told sees

pub found_own : {T : Type 0} (items : T → List AgentSeen) (result : Result T AgentsFault)
    {who : Who} {old new : Option History} → who ≡ job
    → IfOk result (λ (a : T). FindsAgents who (Ok (items a)) old new)
    → IfErr result (λ (f : AgentsFault). FindsAgents who (Err f) old new)
    → Adds old new (Every LooksAtLogs)
found_own items (Ok a) is found failed = finds_own is found
found_own items (Err fault) is found failed = finds_own is failed

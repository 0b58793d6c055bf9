use Rattle.std.proofs.Common.{ℕ, List, map, Err, Bor, subst}
use Rattle.std.specs.Prelude.{Contains}
use Rattle.chk_site.specs.Site.{Adds}
use Rattle.chk_site.specs.Runs.{Leads}
use Rattle.chk_cmd_line.specs.declared.usage.Usage.{Usage}
use Rattle.chk_cmd_line.specs.Commands.{Asked, asked_of}
use Rattle.chk_cmd_line.specs.Usages.{usage_text}
use Rattle.chk_cmd_line.specs.declared.endings.Ending.TheVariants.{NoMemory}
use Rattle.chk_cmd_line.specs.Usages.{usage_line}
use Rattle.chukwa_run.specs.Demuxing.{SuitsTypes}
use Rattle.chukwa_run.specs.Processes.{RunSide}
use Rattle.chukwa_run.specs.Runs.{Begins, Ends, Caused, SaysUsage}
use Rattle.chukwa_run.specs.Statuses.{statuses_of}
use Rattle.chukwa_run.proofs.Asking.{of_command, ends_told, ends_caused, unread_told, unread_caused, unread_says, usage_says}
use Rattle.chukwa_run.proofs.Complete.{calm_status, completes}
use Rattle.chukwa_run.proofs.Headline.{headline}
use Rattle.chukwa_run.proofs.Statuses.{its_status, unread_status}
use Rattle.chukwa_run.proofs.runs.run_with_hasher.Goals as goal

pub returns-in-Ok-clause-whole : goal.returns-in-Ok-clause-whole
returns-in-Ok-clause-whole g c stamped command earlier suits is =
    let old = g.S.Site.told c.args.site.now in
    let new = g.S.Site.told c.ends.new.site in
    let this = asked_of c.in-Ok.command in
    of_command this c.in-Ok.ensures.asked
    (λ (k : Asked). SuitsTypes stamped k
    → Adds old new (Leads (RunSide stamped k) (Begins stamped earlier) (Ends stamped k c.ends.result earlier)))
    (λ fits. ends_told stamped this earlier c.run_command-done.result c.ends.result new
    (c.run_command-done.ensures.works.told stamped earlier fits) c.ends.ensures.says)
    command is suits

pub returns-in-Ok-clause-headline : goal.returns-in-Ok-clause-headline
returns-in-Ok-clause-headline g c stamped command earlier suits is =
    headline stamped command earlier c.ends.result
    (returns-in-Ok-clause-whole g c stamped command earlier suits is)

pub returns-in-Ok-clause-causes : goal.returns-in-Ok-clause-causes
returns-in-Ok-clause-causes g c command is =
    let old = g.S.Site.told c.args.site.now in
    let new = g.S.Site.told c.ends.new.site in
    let this = asked_of c.in-Ok.command in
    of_command this c.in-Ok.ensures.asked (λ (k : Asked). Adds old new (Caused k c.ends.result))
    (ends_caused this c.run_command-done.result c.ends.result new c.run_command-done.ensures.works.causes
    c.ends.ensures.says)
    command is

-- where no fault rose
pub returns-in-Ok-clause-complete : goal.returns-in-Ok-clause-complete
returns-in-Ok-clause-complete g c stamped command earlier suits is calm =
    completes stamped command earlier c.ends.result
    (calm_status c.run_command-done.result c.ends.result _ _ _
    c.ends.ensures.outside c.run_command-done.ensures.works.cause c.ends.ensures.count calm)
    (returns-in-Ok-clause-whole g c stamped command earlier suits is)

pub returns-in-Ok-clause-statuses : goal.returns-in-Ok-clause-statuses
returns-in-Ok-clause-statuses g c command is =
    let this = asked_of c.in-Ok.command in
    of_command this c.in-Ok.ensures.asked (λ (k : Asked). Contains (statuses_of k) c.ends.result)
    (its_status this c.run_command-done.result c.ends.result _ _ c.run_command-done.ensures.works.status
    c.ends.ensures.says)
    command is

pub returns-in-Err-Usage-clause-unasked : goal.returns-in-Err-Usage-clause-unasked
returns-in-Err-Usage-clause-unasked g c none =
    subst (λ (u : Usage). Adds (g.S.Site.told c.args.site.now) (g.S.Site.told c.say_usage.new.site) (SaysUsage (usage_text u) 2))
    c.usage_of.ensures (usage_says (usage_text c.usage_of.result) c.say_usage.ensures.says)

-- without memory to read the words
pub returns-in-Err-NoMemory-clause-whole : goal.returns-in-Err-NoMemory-clause-whole
returns-in-Err-NoMemory-clause-whole g c stamped command earlier suits is =
    unread_told stamped command earlier c.ends-in-Err-NoMemory.result (g.S.Site.told c.ends-in-Err-NoMemory.new.site)
    c.ends-in-Err-NoMemory.ensures.says

pub returns-in-Err-NoMemory-clause-headline : goal.returns-in-Err-NoMemory-clause-headline
returns-in-Err-NoMemory-clause-headline g c stamped command earlier suits is =
    headline stamped command earlier c.ends-in-Err-NoMemory.result
    (returns-in-Err-NoMemory-clause-whole g c stamped command earlier suits is)

pub returns-in-Err-NoMemory-clause-causes : goal.returns-in-Err-NoMemory-clause-causes
returns-in-Err-NoMemory-clause-causes g c command is =
    unread_caused command c.ends-in-Err-NoMemory.result (g.S.Site.told c.ends-in-Err-NoMemory.new.site)
    c.ends-in-Err-NoMemory.ensures.says

pub returns-in-Err-NoMemory-clause-unasked : goal.returns-in-Err-NoMemory-clause-unasked
returns-in-Err-NoMemory-clause-unasked g c none =
    unread_says (usage_line (map {A = Bor (List ℕ)} {B = List ℕ} (λ w. w.now) c.args.words.now))
    c.ends-in-Err-NoMemory.result (g.S.Site.told c.ends-in-Err-NoMemory.new.site) c.ends-in-Err-NoMemory.ensures.says

pub returns-in-Err-NoMemory-clause-statuses : goal.returns-in-Err-NoMemory-clause-statuses
returns-in-Err-NoMemory-clause-statuses g c command is =
    its_status command (Err NoMemory) c.ends-in-Err-NoMemory.result _ _ (unread_status command)
    c.ends-in-Err-NoMemory.ensures.says

pub returns-in-Err-NoMemory-clause-complete : goal.returns-in-Err-NoMemory-clause-complete
returns-in-Err-NoMemory-clause-complete g c stamped command earlier suits is calm =
    completes stamped command earlier c.ends-in-Err-NoMemory.result c.ends-in-Err-NoMemory.ensures.outside
    (returns-in-Err-NoMemory-clause-whole g c stamped command earlier suits is)

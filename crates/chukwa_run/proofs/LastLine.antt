-- A command and then the line of its ending.
use Rattle.std.proofs.Common.{◌≡◌, inl, ℕ, Bool, true, false, List, [], ◌++◌, Ok, Err, Option, refl, sym, ◌∙◌, ap, subst, append_assoc}
use Rattle.chk_site.specs.History.{History, is_stopped}
use Rattle.chk_site.specs.Site.{Adds}
use Rattle.chk_site.specs.Runs.{Leads, own_acts}
use Rattle.chk_site.proofs.Runs.{adds_then, adds_as, adds_both, adds_none}
use Rattle.chk_site.proofs.Leads.{leads_then, leads_as}
use Rattle.chk_cmd_line.specs.Commands.{Asked}
use Rattle.chk_cmd_line.specs.declared.endings.Ending.{Ending}
use Rattle.chukwa_run.specs.Processes.{RunSide}
use Rattle.chk_cmd_line.specs.Endings.{ending_status, ending_line}
use Rattle.chukwa_run.specs.Endings.{SaysAtMost, Ended, done, ended, stopped}
use Rattle.chukwa_run.specs.Showing.{Shows, IsOf}
use Rattle.chukwa_run.specs.Whole.{Whole, Did}
use Rattle.chukwa_run.specs.Saying.{SaysOnce, unsaid, said}
use Rattle.chukwa_run.specs.Runs.{Begins, Ends, EndsWith, CameTo, Caused, CausedBy}
use Rattle.chukwa_run.proofs.Acts.{said_acts}
use Rattle.chukwa_run.proofs.Writing.{say_legal}

-- what stands behind a command: its line at most, and nothing after a stop
record IsTail (line : List ℕ) (tail before : History) : Type 0 where
  said : SaysAtMost line (own_acts tail)
  after_stop : is_stopped before ≡ true → tail ≡ []

says_tail : (line : List ℕ) {old new : Option History} → SaysOnce line old new → Adds old new (IsTail line)
says_tail line (unsaid {now = now}) = adds_none now (IsTail line) (λ history. record { said = inl refl; after_stop = λ e. refl })
says_tail line (said given told) =
    adds_as (IsTail line) told
    (λ added history calls. record { said = said_acts line given added history calls; after_stop = λ e. (calls.stopped e).0 })

ended_after : (Done : History → Type 0) (Shows : Ending → History → Type 0) (e : Ending) (tail body earlier : History)
    → CameTo Done Shows (Err e) body earlier → IsTail (ending_line e) tail (body ++ earlier)
    → Ended Done Shows (tail ++ body) earlier (ending_status e)
ended_after Done Shows e tail body earlier came behind = by (is_stopped (body ++ earlier)) refl
  where
    by : (b : Bool) → is_stopped (body ++ earlier) ≡ b → Ended Done Shows (tail ++ body) earlier (ending_status e)
    by true is =
        let same : is_stopped ((tail ++ body) ++ earlier) ≡ true =
        ap (λ (t : History). is_stopped ((t ++ body) ++ earlier)) (behind.after_stop is) ∙ is in
        stopped e same
    by false is =
        ended e
        (record { tail = tail; body = body; is = refl; running = is; shows = came.running is; said = behind.said })

done_now : (Done : History → Type 0) (Shows : Ending → History → Type 0) (body earlier : History)
    → CameTo Done Shows (Ok tt) body earlier → Ended Done Shows body earlier 0
done_now Done Shows body earlier came = by (is_stopped (body ++ earlier)) refl
  where
    by : (b : Bool) → is_stopped (body ++ earlier) ≡ b → Ended Done Shows body earlier 0
    by true is = absurd (came.stopped is)
    by false is = done is (came.running is)

-- ---- under the suppositions of a run

pub ends_well : (stamped : List (List ℕ)) (command : Asked) (earlier : History) {old new : Option History}
    → Adds old new (Leads (RunSide stamped command) (Begins stamped earlier) (EndsWith stamped command (Ok tt) earlier))
    → Adds old new (Leads (RunSide stamped command) (Begins stamped earlier) (Ends stamped command 0 earlier))
ends_well stamped command earlier told =
    leads_as (λ h begins. begins)
    (λ h end. record {
      legal = end.legal;
      since = record {
        added = end.since.added;
        goes_on = end.since.goes_on;
        holds = done_now (Whole stamped command earlier) (Shows command earlier) end.since.added earlier end.since.holds;
      };
    }) told

line_ends : (stamped : List (List ℕ)) (command : Asked) (earlier : History) (e : Ending) {old new : Option History}
    → SaysOnce (ending_line e) old new
    → Adds old new (Leads (RunSide stamped command) (EndsWith stamped command (Err e) earlier) (Ends stamped command (ending_status e) earlier))
line_ends stamped command earlier e says =
    adds_both (Leads (RunSide stamped command) (EndsWith stamped command (Err e) earlier) (Ends stamped command (ending_status e) earlier))
    (say_legal stamped command (ending_line e) says) (says_tail (ending_line e) says)
    (λ added history x tail. record {
      leads =
          λ others end. record {
            legal = x.leads others end.legal;
            since = record {
              added = added ++ end.since.added;
              goes_on = ap (λ (h : History). added ++ h) end.since.goes_on ∙ sym (append_assoc added end.since.added earlier);
              holds =
                  ended_after (Whole stamped command earlier) (Shows command earlier) e added end.since.added earlier end.since.holds
                  (subst (IsTail (ending_line e) added) end.since.goes_on tail);
            };
          };
      own = x.own;
    })

pub ends_by_line : (stamped : List (List ℕ)) (command : Asked) (earlier : History) (e : Ending) {old mid new : Option History}
    → Adds old mid (Leads (RunSide stamped command) (Begins stamped earlier) (EndsWith stamped command (Err e) earlier))
    → SaysOnce (ending_line e) mid new
    → Adds old new (Leads (RunSide stamped command) (Begins stamped earlier) (Ends stamped command (ending_status e) earlier))
ends_by_line stamped command earlier e told says = leads_then told (line_ends stamped command earlier e says)

-- ---- by the run's own acts alone

pub caused_well : (command : Asked) {old new : Option History}
    → Adds old new (CausedBy command (Ok tt)) → Adds old new (Caused command 0)
caused_well command told =
    adds_as (Caused command 0) told (λ added history came. done_now (Did command history) (IsOf command history) added history came)

pub caused_by_line : (command : Asked) (e : Ending) {old mid new : Option History}
    → Adds old mid (CausedBy command (Err e)) → SaysOnce (ending_line e) mid new → Adds old new (Caused command (ending_status e))
caused_by_line command e told says =
    adds_then (Caused command (ending_status e)) told (says_tail (ending_line e) says)
    (λ body tail history came behind. ended_after (Did command history) (IsOf command history) e tail body history came behind)

-- what a line alone says
pub line_said : (line : List ℕ) {old new : Option History} → SaysOnce line old new
    → Adds old new (λ added history. SaysAtMost line (own_acts added))
line_said line says = adds_as (λ added history. SaysAtMost line (own_acts added)) (says_tail line says) (λ added history tail. tail.said)

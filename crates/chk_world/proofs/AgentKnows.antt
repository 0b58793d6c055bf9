-- The calls of an agent that leave files and logs: what was known stays known, and a fact is added.
use Rattle.std.proofs.Common.{◌≡◌, ℕ, Bool, true, false, ◌&&◌, List, [], ◌∷◌, Option, Result, ap, sym, subst, ◌∙◌, refl, true≢false, if◌then◌else◌}
use Rattle.std.specs.Prelude.{IsTrue}
use Rattle.std.proofs.lemmas.Bool.{and_right, and_left}
use Rattle.chk_site.specs.declared.acts.Who.{Who}
use Rattle.chk_site.specs.declared.acts.CallFault.{CallFault}
use Rattle.chk_site.specs.declared.acts.OutsideFault.{OutsideFault}
use Rattle.chk_site.specs.declared.acts.ActAnswer.{ActAnswer}
use Rattle.chk_site.specs.Files.{Files, Change, Nothing, changed}
use Rattle.chk_site.specs.Logs.{Logs}
use Rattle.chk_site.specs.Acts.{Deed, ReadsLog, AsksNewest, AsksSize, Reads, Lists, AsksClock, Pauses, Sends, Gets, Takes, TakesMore, Answers, Says, deed, change_of, same_who, is_done}
use Rattle.chk_site.specs.History.{Step, History, files_after, since_start, is_by, is_start}
use Rattle.chk_site.specs.Site.{Adds, Asked, own_step, answered, Calls, Ends, IsTaken, Took}
use Rattle.chk_site.specs.Runs.{Leads}
use Rattle.chk_world.specs.Names.{CheckFile, is_source, spell}
use Rattle.chk_world.specs.Checkpoints.{Line, lines_in}
use Rattle.chk_world.specs.Agents.{AgentRule, OfCluster, AllOfCluster}
use Rattle.chk_world.specs.Rules.{Framed, OnlyWritersGrowLogs, OnlyAgentsPost, is_named_so, Legal}
use Rattle.chk_world.specs.Places.{Making, AtTold}
use Rattle.chk_world.specs.Knowing.{agent, Grows, Both, Knows, Told}
use Rattle.chk_world.proofs.AgentCalls.{agent_rule}
use Rattle.chk_world.proofs.Frames.{files_stay, steps_stay}
use Rattle.chk_world.proofs.Outcomes.{CameTo, whole, nothing, junk, leaves}
use Rattle.chk_world.proofs.PlacesStay.{Stays}
use Rattle.chk_world.proofs.ToldCalls.{Allowed, GoesOn, came_on, goes_on_taken, told_taken, told_ends, who_self}

-- ---- calls that leave the files

-- a call of an agent that changes no file and is no start
abbrev pub is_quiet : Deed → Bool
is_quiet (ReadsLog path part at max) = true
is_quiet (AsksNewest path) = true
is_quiet (AsksSize w) = true
is_quiet (Reads w at max) = true
is_quiet (Lists w) = true
is_quiet AsksClock = true
is_quiet (Pauses k) = true
is_quiet (Sends m address bytes) = true
is_quiet (Gets m) = true
is_quiet (Takes door wait) = true
is_quiet (TakesMore t) = true
is_quiet (Answers t bytes) = true
is_quiet (Says bytes) = true
is_quiet call = false

-- the common rules allow a call that changes no file, whoever makes it
record Quiet (who : Who) (files : Files) (call : Deed) : Type 0 where
  framed : Framed who files call
  logs : OnlyWritersGrowLogs who.role call
  same : change_of call ≡ Nothing
  no_start : is_start call ≡ false

quiet : (who : Who) (files : Files) (call : Deed) → is_quiet call ≡ true → Quiet who files call
quiet who files (ReadsLog path part at max) e = record { framed = tt; logs = tt; same = refl; no_start = refl }
quiet who files (AsksNewest path) e = record { framed = tt; logs = tt; same = refl; no_start = refl }
quiet who files (AsksSize w) e = record { framed = tt; logs = tt; same = refl; no_start = refl }
quiet who files (Reads w at max) e = record { framed = tt; logs = tt; same = refl; no_start = refl }
quiet who files (Lists w) e = record { framed = tt; logs = tt; same = refl; no_start = refl }
quiet who files AsksClock e = record { framed = tt; logs = tt; same = refl; no_start = refl }
quiet who files (Pauses k) e = record { framed = tt; logs = tt; same = refl; no_start = refl }
quiet who files (Sends m address bytes) e = record { framed = tt; logs = tt; same = refl; no_start = refl }
quiet who files (Gets m) e = record { framed = tt; logs = tt; same = refl; no_start = refl }
quiet who files (Takes door wait) e = record { framed = tt; logs = tt; same = refl; no_start = refl }
quiet who files (TakesMore t) e = record { framed = tt; logs = tt; same = refl; no_start = refl }
quiet who files (Answers t bytes) e = record { framed = tt; logs = tt; same = refl; no_start = refl }
quiet who files (Says bytes) e = record { framed = tt; logs = tt; same = refl; no_start = refl }
quiet who files call e = absurd (true≢false (sym e))

abbrev is_change : Change → Bool
is_change Nothing = false
is_change change = true

came_same : (call : Deed) (d : Bool) (before after : Files) → change_of call ≡ Nothing
    → CameTo call d before after → (w : List ℕ) → after w ≡ before w
came_same call d before after none (whole e) w = e w ∙ ap (λ did. changed did before w) none
came_same call d before after none (nothing not_done e) w = e w
came_same call d before after none (junk n piece bytes is not_done e) w =
    absurd (true≢false (ap is_change (sym (ap change_of is) ∙ none)))

-- the own call leaves each file
quiet_same : (stamped : List (List ℕ)) (before : History) (step : Step)
    → Legal stamped (step ∷ before) → is_quiet (deed step.act) ≡ true
    → GoesOn step.act.answer → (w : List ℕ) → step.files w ≡ files_after before w
quiet_same stamped before step legal q goes =
    let e = legal.1.honest.modelled.effect in
    came_same (deed step.act) (is_done step.act.answer) (files_after before) step.files (quiet step.act.who (files_after before) (deed step.act) q).same
    (came_on (deed step.act) step.act.answer (files_after before) step.files goes
    (leaves (deed step.act) step.act.answer (files_after before) step.files e.did e.may e.files_left))

-- an own call is the first of the steps since the start
pub own_first : (me : Who) (before : History) (step : Step) → step.act.who ≡ me
    → is_quiet (deed step.act) ≡ true
    → since_start me (step ∷ before) ≡ step ∷ since_start me before
own_first me before step by q =
    ap (λ b. if b then (if is_start (deed step.act) then [] else step ∷ since_start me before) else since_start me before)
    (ap (same_who me) by ∙ who_self me)
    ∙ ap (λ b. if b then [] else step ∷ since_start me before) (quiet step.act.who (files_after before) (deed step.act) q).no_start

-- ---- what is known stays

pub both_grow : (stamped : List (List ℕ)) (who : Who) (F G : History → Type 0) → Grows stamped who F
    → Grows stamped who G → Grows stamped who (Both F G)
both_grow stamped who F G f g history step legal no_start h =
    record { one = f history step legal no_start h.one; two = g history step legal no_start h.two }

-- a fact of the agent's steps since its start that stays among more of them
pub steps_grow : (stamped : List (List ℕ)) (who : Who) (B : List Step → Type 0)
    → ((step : Step) (mine : List Step) → B mine → B (step ∷ mine))
    → Grows stamped who (λ h. B (since_start who h))
steps_grow stamped who B more history step legal no_start h = go (is_by who step) (is_start (deed step.act)) no_start
  where
    go : (b t : Bool) → (b && t) ≡ false
        → B (if b then (if t then [] else step ∷ since_start who history) else since_start who history)
    go true true e = absurd (true≢false e)
    go true false e = more step (since_start who history) h
    go false t e = h

module _ (stamped : List (List ℕ)) (source : List ℕ) (known : IsTrue (is_source source))
    (cluster : List ℕ) (lines : List Line) (F : History → Type 0)
    (grows : Grows stamped (agent source) F) where
  abbrev Me : Who
  Me = agent source

  pub knows_stays : Stays stamped Me (Knows source cluster lines F)
  knows_stays history step legal f h = record {
    one_cluster = subst (AllOfCluster cluster) (sym (steps_stay stamped Me history step f)) h.one_cluster;
    lines_are = ap lines_in (files_stay stamped Me history step (CheckFile source) f (record { own = refl; known = known })) ∙ h.lines_are;
    holds = grows history step (legal, f.obeys) (and_left (same_who Me step.act.who) (is_start (deed step.act)) f.other) h.holds;
  }

  -- an own call that leaves the files
  pub own_knows : (before : History) (step : Step) → step.act.who ≡ Me
      → is_quiet (deed step.act) ≡ true → OfCluster cluster (deed step.act)
      → GoesOn step.act.answer → Legal stamped (step ∷ before)
      → Knows source cluster lines F before → Knows source cluster lines F (step ∷ before)
  own_knows before step by q of goes legal h = record {
    one_cluster = subst (AllOfCluster cluster) (sym (own_first Me before step by q)) (of, h.one_cluster);
    lines_are = ap lines_in (quiet_same stamped before step legal q goes (spell (CheckFile source))) ∙ h.lines_are;
    holds = grows before step legal
        (and_right (is_by Me step) (is_start (deed step.act)) (quiet step.act.who (files_after before) (deed step.act) q).no_start) h.holds;
  }

  module _ (q : Asked) (by : q.who ≡ Me)
      (is_q : (answer : ActAnswer) (files : Files) (logs : Logs) → is_quiet (deed (own_step q answer files logs).act) ≡ true)
      (of : (answer : ActAnswer) (files : Files) (logs : Logs) → OfCluster cluster (deed (own_step q answer files logs).act)) where
    allowed : (before : History) (answer : ActAnswer) (files : Files) (logs : Logs)
        → AgentRule Me before (own_step q answer files logs)
        (deed (own_step q answer files logs).act)
        → Allowed stamped before (own_step q answer files logs)
    allowed before answer files logs rule =
        let step = own_step q answer files logs in
        let k = quiet q.who (files_after before) (deed step.act) (is_q answer files logs) in
        record {
          own_files = k.framed;
          logs = k.logs;
          requests = subst (λ (w : Who). OnlyAgentsPost w.role (deed step.act)) (sym by) tt;
          rule = agent_rule stamped Me before step (deed step.act) refl by refl rule;
        }

    abbrev MayBy : Type 0
    MayBy =
        (before : History) (answer : ActAnswer) (files : Files) (logs : Logs) → Legal stamped before → Knows source cluster lines F before
        → AgentRule Me before (own_step q answer files logs)
        (deed (own_step q answer files logs).act)

    so_named : IsTrue (is_named_so q.who.role q.who.name)
    so_named = subst (λ (w : Who). IsTrue (is_named_so w.role w.name)) (sym by) known

    by_agent : {C : History → Type 0} {old new : Option History}
        → Adds old new (Leads (Making stamped q.who q.call) (AtTold stamped q.who (Knows source cluster lines F)) (AtTold stamped q.who C))
        → Adds old new (Leads (Making stamped Me q.call) (AtTold stamped Me (Knows source cluster lines F)) (AtTold stamped Me C))
    by_agent {C = C} {old = old} {new = new} p =
        subst (λ w. Adds old new (Leads (Making stamped w q.call) (AtTold stamped w (Knows source cluster lines F)) (AtTold stamped w C))) by p

    stays_by : Stays stamped q.who (Knows source cluster lines F)
    stays_by = subst (λ w. Stays stamped w (Knows source cluster lines F)) (sym by) knows_stays

    -- a call that gave something, or was refused for the state of the files: what was known stays,
    -- and G is added
    pub agent_took : (G : History → Type 0) {V : Type 0} (how : V → ActAnswer)
        (given : Result V CallFault) (taken : Option V) {old new : Option History}
        → MayBy → ((value : V) → GoesOn (how value))
        → ((before : History) (answer : ActAnswer) (files : Files) (logs : Logs) → Took how taken answer
        → Legal stamped (own_step q answer files logs ∷ before)
        → Knows source cluster lines F before → G (own_step q answer files logs ∷ before))
        → IsTaken given taken → Adds old new (Calls q (answered how given))
        → Adds old new (Leads (Making stamped Me q.call) (Told stamped source cluster lines F) (Told stamped source cluster lines (Both F G)))
    agent_took G how given taken may goes gains is call =
        by_agent (told_taken stamped q so_named (Knows source cluster lines F) (Knows source cluster lines (Both F G)) how given taken stays_by
        (λ before answer files logs legal h. allowed before answer files logs (may before answer files logs legal h)) goes
        (λ before answer files logs took legal h.
        let k = own_knows before (own_step q answer files logs) by (is_q answer files logs) (of answer files logs) (goes_on_taken how taken answer goes took) legal h in
        record { one_cluster = k.one_cluster; lines_are = k.lines_are; holds = record { one = k.holds; two = gains before answer files logs took legal h } })
        is call)

    -- a call that ended the work
    pub agent_ends : {V : Type 0} (how : V → ActAnswer) (given : Result V CallFault)
        (fault : OutsideFault) {old new : Option History}
        → MayBy → Ends q.call given fault → Adds old new (Calls q (answered how given))
        → Adds old new (Leads (Making stamped Me q.call) (Told stamped source cluster lines F) (Told stamped source cluster lines F))
    agent_ends how given fault may ends call =
        by_agent (told_ends stamped q so_named (Knows source cluster lines F) (λ f. Knows source cluster lines F) how given fault stays_by
        (λ before answer files logs legal h. allowed before answer files logs (may before answer files logs legal h))
        (λ before answer files logs failed legal h.
        own_knows before (own_step q answer files logs) by (is_q answer files logs) (of answer files logs) (subst GoesOn (sym failed) tt) legal h)
        (λ history h. h) ends call)

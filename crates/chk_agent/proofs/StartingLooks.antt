-- Reads of the agent's own file obey its rule and leave what is known.
use Rattle.std.proofs.Common.{◌≡◌, inl, inr, Bool, true, false, List, [], ◌∷◌, ◌++◌, ℕ, ap, sym}
use Rattle.std.proofs.Common.{subst, ◌∙◌, refl, true≢false}
use Rattle.std.specs.Prelude.{IsTrue}
use Rattle.std.proofs.lemmas.Bool.{and_right}
use Rattle.chk_site.specs.declared.acts.Who.{Who}
use Rattle.chk_site.specs.declared.acts.ActAnswer.{ActAnswer}
use Rattle.chk_site.specs.declared.acts.ActAnswer.TheVariants.{Done, Refused, Stopped, Rotated}
use Rattle.chk_site.specs.declared.acts.ActAnswer.TheVariants.{Deleted}
use Rattle.chk_site.specs.Acts.{Reads, deed, same_who, is_stop}
use Rattle.chk_site.specs.History.{Step, History, Every, Others, files_after, is_stopped}
use Rattle.chk_replace.specs.Load.{IsLook, IsRead, asks_at}
use Rattle.chk_world.specs.Names.{is_source}
use Rattle.chk_world.specs.Checkpoints.{Line}
use Rattle.chk_world.specs.Agents.{OfCluster}
use Rattle.chk_world.specs.Rules.{Framed, OnlyWritersGrowLogs, OnlyAgentsPost, StartsAfterStop}
use Rattle.chk_world.specs.Rules.{Obeys, Legal, is_named_so, must_start, starts_anew, stopped_by}
use Rattle.chk_world.specs.Places.{Foreign}
use Rattle.chk_world.specs.Knowing.{agent, Grows, Knows, Told}
use Rattle.chk_world.proofs.PlacesStay.{told_stays}
use Rattle.chk_world.proofs.ToldCalls.{GoesOn, who_self}
use Rattle.chk_world.proofs.AgentCalls.{agent_rule}
use Rattle.chk_world.proofs.AgentKnows.{knows_stays, own_knows, is_quiet}

module _ (stamped : List (List ℕ)) (source : List ℕ) (known : IsTrue (is_source source))
    (cluster : List ℕ) (lines : List Line) (F : History → Type 0)
    (grows : Grows stamped (agent source) F) (name : List ℕ) where
  abbrev Me : Who
  Me = agent source

  abbrev Now : History → Type 0
  Now h = Told stamped source cluster lines F h

  no_stop : (answer : ActAnswer) → is_stop answer ≡ false → GoesOn answer
  no_stop (Done words number of) e = tt
  no_stop (Refused fault) e = tt
  no_stop (Stopped left) e = absurd (true≢false e)
  no_stop (Rotated suffix) e = tt
  no_stop (Deleted suffix) e = tt

  acts_on : (own : Bool) (answer : ActAnswer) (earlier : Bool) → own ≡ true → GoesOn answer
      → stopped_by Me own answer earlier ≡ false
  acts_on own (Done words number of) earlier mine goes = rw mine refl
  acts_on own (Refused fault) earlier mine goes = rw mine refl
  acts_on own (Stopped left) earlier mine goes = absurd goes
  acts_on own (Rotated suffix) earlier mine goes = rw mine refl
  acts_on own (Deleted suffix) earlier mine goes = rw mine refl

  -- one read of the agent's own
  read_on : (before : History) (step : Step) → IsRead Me name before step → Now before → Now (step ∷ before)
  read_on before step r h = record {
    legal = legal;
    may_act = λ run.
        acts_on (same_who Me step.act.who) step.act.answer (must_start Me before) (ap (same_who Me) r.by ∙ who_self Me) (goes run);
    alive = λ run.
        own_knows stamped source known cluster lines F grows before step r.by (ap is_quiet r.asks) (subst (OfCluster cluster) (sym r.asks) tt)
        (goes run) legal (h.alive r.running);
  }
    where
      goes : is_stopped (step ∷ before) ≡ false → GoesOn step.act.answer
      goes run =
          no_stop step.act.answer
          (sym (ap (λ b. elim b [ true ↦ is_stop step.act.answer | false ↦ is_stopped before ]) r.own) ∙ run)

      starts : StartsAfterStop step.act.who before (deed step.act)
      starts =
          subst (λ (w : Who). StartsAfterStop w before (deed step.act)) (sym r.by)
          (subst (StartsAfterStop Me before) (sym r.asks)
          (and_right (starts_anew Me.role) (must_start Me before) (h.may_act r.running)))

      obeys : Obeys stamped before step
      obeys = record {
        honest = r.honest;
        named = subst (λ (w : Who). IsTrue (is_named_so w.role w.name)) (sym r.by) known;
        starts = starts;
        own_files = subst (Framed step.act.who (files_after before)) (sym r.asks) tt;
        logs = subst (OnlyWritersGrowLogs step.act.who.role) (sym r.asks) tt;
        requests = subst (λ (w : Who). OnlyAgentsPost w.role (deed step.act)) (sym r.by) tt;
        rule = agent_rule stamped Me before step (Reads name r.at (asks_at r.at)) refl r.by r.asks tt;
      }

      legal : Legal stamped (step ∷ before)
      legal = (h.legal, obeys)

  -- what is known stays over the load of a file
  pub looks_on : (added history : History) → Every (IsLook Me name) added history
      → Others (Foreign stamped Me) added history → Now history → Now (added ++ history)
  looks_on [] history looks others h = h
  looks_on (step ∷ added) history looks others h =
      let earlier = looks_on added history looks.0 others.0 h in
      elim looks.1 [
        | inl theirs ↦
            told_stays stamped Me (Knows source cluster lines F) (knows_stays stamped source known cluster lines F grows)
            (added ++ history) step theirs.0 (others.1 theirs.0) earlier
        | inr mine ↦ read_on (added ++ history) step mine earlier
      ]

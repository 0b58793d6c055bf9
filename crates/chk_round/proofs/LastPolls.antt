-- A length ends a round only where the sink was given up or is gone.
use Rattle.std.proofs.Common.{◌≡◌, ◌⊎◌, inl, inr, ℕ, ◌≤◌, ◌<◌, Bool, true, false, List, ◌++◌, length, Option, Some, Ok, Err, refl, ap, sym, subst, ◌∙◌, arith, append_assoc, true≢false}
use Rattle.std.specs.Prelude.{Contains, IsTrue}
use Rattle.std.proofs.lemmas.List.{append_cancel_right}
use Rattle.std.proofs.lemmas.Option.{same_Some}
use Rattle.chk_bytes.specs.Stems.{is_collector, is_stem}
use Rattle.chk_site.specs.declared.acts.Who.{Who}
use Rattle.chk_site.specs.History.{History, Others, files_after, is_stopped}
use Rattle.chk_site.specs.Site.{Adds}
use Rattle.chk_site.specs.Runs.{Leads, Owns}
use Rattle.chk_site.proofs.Leads.{leads_as}
use Rattle.chk_site.proofs.Runs.{adds_both, every_early, every_join, every_late}
use Rattle.chk_agent.proofs.TalkingTold.{ran_before}
use Rattle.chk_world.specs.Committed.{committed_length}
use Rattle.chk_world.specs.DoneSinks.{IsGone}
use Rattle.chk_world.specs.Laws.{wrote}
use Rattle.chk_world.specs.NamedEnds.{IsAllCommitted, gave_up}
use Rattle.chk_world.specs.Knowing.{agent}
use Rattle.chk_world.specs.Rules.{Legal}
use Rattle.chk_world.specs.Together.{IsByOne, Outside, Together}
use Rattle.chk_sink.specs.Least.{EachFront}
use Rattle.chk_sink.specs.States.{IsSameStart, State as Sinks, process}
use Rattle.chk_collector.specs.Passing.{HasPassed}
use Rattle.chk_collector_run.proofs.SettledSinks.{all_committed}
use Rattle.chk_http_grammar.specs.Messages.{ack_of}
use Rattle.chk_agent_delivery.specs.declared.answers.Below.{Below}
use Rattle.chk_agent.specs.States.{State as Agents}
use Rattle.chk_exchange.specs.declared.fault.ExchangeFault.{ExchangeFault}
use Rattle.chk_exchange.specs.declared.fault.ExchangeFault.TheVariants.{Outside as call_failed, NoMemory as wanting, Damaged as was_damaged, Spent as was_spent, Refused as was_refused}
use Rattle.chk_exchange.specs.Exchanges.{PollsInside}
use Rattle.chk_exchange.specs.Least.{TellsLeast}
use Rattle.chk_round.specs.declared.faults.RoundFault.{RoundFault}
use Rattle.chk_round.specs.declared.faults.RoundFault.TheVariants.{Outside as failed, NoMemory, Damaged, Length, Growing, Shrank, Spent, Refused, Checkpoint}
use Rattle.chk_round.specs.Faults.{of_exchange}
use Rattle.chk_round.specs.Joint.{AreIn, BothAt, GoesOn, JointTo}
use Rattle.chk_round.specs.Keeping.{KeepsSinks, NoneGivenUp, SinksKept}
use Rattle.chk_round.specs.LastPolls.{LengthTold, MayBeLost}
use Rattle.chk_round.specs.Lengths.{HasCommitted, PolledOnce, PollsOn}
use Rattle.chk_round.specs.Polled.{PollTo, PolledTo}
use Rattle.chk_round.specs.Spent.{WhereRunning}
use Rattle.chk_round.proofs.Joining.{in_on, joint_then}
use Rattle.chk_round.proofs.KeptInside.{Known, poll_keeps_by}
use Rattle.chk_round.proofs.Reached.{answered_within, gave_early, gone_on, here_all, here_at}
use Rattle.chk_round.proofs.Rows.{all_rows, polled_rows, rows_on}

-- ---- one poll

-- a fault of an exchange is no length
pub polled_err : (stamped : List (List ℕ)) (s : Sinks) (a : Agents) (fault : ExchangeFault) (h : History)
    → GoesOn stamped s a (Err (of_exchange fault)) h → PolledTo stamped s a (Err (of_exchange fault)) h
polled_err stamped s a (call_failed call) h x = x
polled_err stamped s a wanting h x = x
polled_err stamped s a (was_damaged name at) h x = x
polled_err stamped s a (was_spent number) h x = x
polled_err stamped s a (was_refused code) h x = x

pub polled_ends : (s t : Sinks) (a b : Agents) (fault : ExchangeFault) {old new : Option History}
    → JointTo s a t b (Err (of_exchange fault)) old new → PollTo s a t b (Err (of_exchange fault)) old new
polled_ends s t a b fault told stamped started acting run =
    leads_as (λ h x. x) (polled_err stamped t b fault) (told stamped started acting run)

module _ (x : Below) (fault : RoundFault) (is : fault ≡ Length x.stem x.got x.want) where
  pub below_polled : (s t : Sinks) (a b : Agents) {old new : Option History} → JointTo s a t b (Ok tt) old new
      → PollTo s a t b (Err fault) old new
  below_polled s t a b {old = old} {new = new} told stamped started acting run =
      subst (λ f. Adds old new (Leads (Together stamped started acting) (BothAt stamped s a) (PolledTo stamped t b (Err f)))) (sym is)
      (leads_as (λ h x. x) (λ h x. x.0.legal) (told stamped started acting run))

  pub below_told : (who : Who) (s : Sinks) (a : Agents) {old new : Option History} → TellsLeast who s a (Some x) old new
      → LengthTold {T = Unit {0}} who s a (Err fault) old new
  below_told who s a {old = old} {new = new} least =
      subst (λ f. LengthTold {T = Unit {0}} who s a (Err f) old new) (sym is) least

pub untold_length : (who : Who) (s : Sinks) (a : Agents) (fault : ExchangeFault) (old new : Option History)
    → LengthTold {T = Unit {0}} who s a (Err (of_exchange fault)) old new
untold_length who s a (call_failed call) old new = tt
untold_length who s a wanting old new = tt
untold_length who s a (was_damaged name at) old new = tt
untold_length who s a (was_spent number) old new = tt
untold_length who s a (was_refused code) old new = tt

-- ---- the last one behind a commit

module _ (who : Who) (s t u : Sinks) (a b c : Agents) (is : who ≡ process s) (c_is : t.collector ≡ s.collector)
    (a_is : b.source ≡ a.source) (named : IsTrue (is_collector who.name)) (same : IsSameStart t u) (ready : a.ready ≡ true) (all : HasCommitted s)
    {old mid : Option History} (on : PollsOn who s a t b old mid) (joint : JointTo s a t b (Ok tt) old mid) where
  last_is : u.collector ≡ t.collector
  last_is = same.collector

  same_t : who ≡ process t
  same_t = is ∙ ap (λ n. record (process s) { name = n }) (sym c_is)

  module _ {new : Option History} (x : Below) (polls : PollsInside who t b (Ok (Some x)) u c mid new) (least : TellsLeast who t b (Some x) mid new)
      (told : PollTo t b u c (Err (Length x.stem x.got x.want)) mid new)
      (stamped : List (List ℕ)) (started acting : List Who) (run : AreIn started acting s a) where
    run_t : AreIn started acting t b
    run_t = in_on s t a b c_is a_is run

    -- so much was written to the sink
    place_at : (history : History) → BothAt stamped s a history → is_stopped history ≡ false
        → IsTrue (is_stem x.stem) × (x.want ≤ length (wrote x.stem history))
    place_at history both running =
        (polled_rows (Some x) polls (λ z n. IsTrue (is_stem z) × (n ≤ length (wrote z history)))
        (rows_on on (λ z n. IsTrue (is_stem z) × (n ≤ length (wrote z history)))
        (all_rows (λ z n. IsTrue (is_stem z) × (n ≤ length (wrote z history))) a.delivery.table.rows
        (λ row one.
        let r = ((both.1.0.alive running) ready).holds.delivery.rows row one in
        answered_within stamped history both.0.legal (agent a.source) r.c (ack_of row.stem row.offset) r.answered)))).left x refl

    -- where the sink was given up, one of the start was full
    passed_at : (history : History) → IsTrue (is_stem x.stem) → KeepsSinks u history → x.stem.collector ≡ u.collector
        → x.stem.born ≡ u.born → IsTrue (gave_up x.stem history) → HasPassed u.collector u.born history
    passed_at history good keeps own born gave = go keeps.none
      where
        go : NoneGivenUp u history ⊎ HasPassed u.collector u.born history → HasPassed u.collector u.born history
        go (inl none) = absurd (true≢false (sym gave ∙ none x.stem good own born))
        go (inr passed) = passed

    -- behind the first polls, and behind the last one
    lost_at : (early late history : History) → mid ≡ Some (early ++ history) → new ≡ Some (late ++ (early ++ history))
        → Others (Outside stamped started) late (early ++ history)
        → BothAt stamped s a history → BothAt stamped t b (early ++ history) → Legal stamped (late ++ (early ++ history))
        → is_stopped history ≡ false → x.stem.collector ≡ u.collector
        → IsTrue (gave_up x.stem (late ++ (early ++ history))) ⊎ IsGone (late ++ (early ++ history)) x.stem
    lost_at early late history at_mid at_new others both both_t legal running own =
        go (gave_up x.stem (late ++ (early ++ history))) refl
      where
        place : IsTrue (is_stem x.stem) × (x.want ≤ length (wrote x.stem history))
        place = place_at history both running

        committed : IsAllCommitted x.stem.collector (files_after history)
        committed =
            subst (λ n. IsAllCommitted n (files_after history)) (sym (own ∙ (last_is ∙ c_is)))
            (all_committed stamped s history both.0.legal (both.0.alive running)
            (record { none_left = all.settled; marked = all.marked }))

        some : 0 < x.want
        some = let less = least.0 in omega (arith, less)

        -- what stays committed was told
        told_least : EachFront (λ h. x.want ≤ committed_length (files_after h) x.stem) late (early ++ history) → ⊥
        told_least each =
            let z = (least.1 stamped started acting x.want
            (subst (Contains started) (sym same_t) run_t.collector_started) run_t.agent_started
            (subst (Contains acting) (sym same_t) run_t.collector_acts) run_t.agent_acts (own ∙ last_is)).told (early ++ history) at_mid in
            let same_late : z.0 ≡ late =
            append_cancel_right z.0 late (early ++ history)
            (same_Some (z.0 ++ (early ++ history)) (late ++ (early ++ history)) (sym z.1 ∙ at_new)) in
            let most = z.2 (subst (λ l. Others (Outside stamped started) l (early ++ history)) (sym same_late) others)
            (both_t.0, (both_t.1.0, both_t.1.1.0))
            (subst (λ l. EachFront (λ h. x.want ≤ committed_length (files_after h) x.stem) l (early ++ history)) (sym same_late) each) in
            let less = least.0 in
            omega (arith, most, less)

        go : (g : Bool) → gave_up x.stem (late ++ (early ++ history)) ≡ g
            → IsTrue g ⊎ IsGone (late ++ (early ++ history)) x.stem
        go true e = inl refl
        go false e =
            elim (here_at stamped x.stem place.0 x.want some history both.0.legal place.1 committed
            (gave_early x.stem early history (gave_early x.stem late (early ++ history) e))) [
              | inr gone ↦ inr (gone_on stamped x.stem place.0 late (early ++ history) legal
                  (gone_on stamped x.stem place.0 early history both_t.0.legal gone))
              | inl here ↦ elim (here_all stamped x.stem place.0 x.want some early history both_t.0.legal here) [
                | inr gone ↦ inr (gone_on stamped x.stem place.0 late (early ++ history) legal gone)
                | inl first ↦ elim (here_all stamped x.stem place.0 x.want some late (early ++ history) legal first.1) [
                  | inr gone ↦ inr gone
                  | inl then ↦ absurd (told_least then.0)
                ]
              ]
            ]

    last_poll : Adds old new
        (Leads (Together stamped started acting) (BothAt stamped s a)
        (WhereRunning stamped (MayBeLost u.collector u.born x.stem x.got x.want)))
    last_poll =
        let one = joint stamped started acting run in
        let two = adds_both Last (told stamped started acting run_t)
        (poll_keeps_by same_t named same polls stamped started acting run_t.collector_started) (λ added h x y. (x, y)) in
        record {
          told =
              λ history e.
              let y = one.told history e in
              let z = two.told (y.0 ++ history) y.1 in
              let split = append_assoc z.0 y.0 history in (
                z.0 ++ y.0,
                z.1 ∙ ap (λ h. Some h) (sym split),
                record {
                  leads = λ others both.
                      let both_t = y.2.leads (every_early (λ before step. step.own ≡ false → Outside stamped started before step) z.0 y.0 history others) both in
                      let later = every_late (λ before step. step.own ≡ false → Outside stamped started before step) z.0 y.0 history others in
                      let legal = z.2.0.leads later both_t in
                      let kept = z.2.1 legal later z.2.0.own (both_t.0, both_t.1.1.1) in
                      subst (WhereRunning stamped (MayBeLost u.collector u.born x.stem x.got x.want)) (sym split)
                      (record {
                        legal = legal;
                        alive = λ running.
                            let ran_t = ran_before (IsByOne acting) (λ before step by. by.running) z.0 (y.0 ++ history) z.2.0.own running in
                            let ran_s = ran_before (IsByOne acting) (λ before step by. by.running) y.0 history y.2.own ran_t in
                            record {
                              poll = record {
                                polled = z.0;
                                earlier = y.0 ++ history;
                                split = refl;
                                sinks = t;
                                agent = b;
                                sinks_then = u;
                                agent_then = c;
                                collector_is = sym last_is;
                                held = both_t.0.alive ran_t;
                                polls = subst (λ w. PollsInside w t b (Ok (Some x)) u c (Some (y.0 ++ history)) (Some (z.0 ++ (y.0 ++ history)))) same_t
                                    (subst (λ o. PollsInside who t b (Ok (Some x)) u c o (Some (z.0 ++ (y.0 ++ history)))) y.1
                                    (subst (λ o. PollsInside who t b (Ok (Some x)) u c mid o) z.1 polls));
                                below = least.0;
                                known = (place_at history both ran_s).0;
                              };
                              start = sym same.born;
                              lost = λ own. lost_at y.0 z.0 history y.1 z.1 later both both_t legal ran_s own;
                              passed = passed_at (z.0 ++ (y.0 ++ history)) (place_at history both ran_s).0 (kept running);
                            };
                      });
                  own = every_join (λ before step. step.own ≡ true → IsByOne acting before step) z.0 y.0 history y.2.own z.2.0.own;
                },
              );
          untold = λ e. two.untold (one.untold e);
        }
      where
        -- what the last poll leads to and keeps
        Last : History → History → Type 0
        Last added h =
            Leads (Together stamped started acting) (BothAt stamped t b) (PolledTo stamped u c (Err (Length x.stem x.got x.want))) added h
            × (Legal stamped (added ++ h) → Others (Outside stamped started) added h → Owns (IsByOne acting) added h
            → Known stamped t h → SinksKept u (added ++ h))

  -- however a poll behind them ended
  pub until_ends : {new : Option History} (fault : RoundFault) → PolledOnce who t b (Err fault) u c mid new
      → LengthTold {T = Unit {0}} who t b (Err fault) mid new → PollTo t b u c (Err fault) mid new
      → JointTo s a u c (Err fault) old new
  until_ends (Length stem got want) polls least told =
      last_poll (record { stem = stem; got = got; want = want }) polls least told
  until_ends (failed call) polls least told = joint_then s t u a b c (Err (failed call)) c_is a_is joint told
  until_ends NoMemory polls least told = joint_then s t u a b c (Err NoMemory) c_is a_is joint told
  until_ends (Damaged name at) polls least told = joint_then s t u a b c (Err (Damaged name at)) c_is a_is joint told
  until_ends (Checkpoint at) polls least told = joint_then s t u a b c (Err (Checkpoint at)) c_is a_is joint told
  until_ends (Growing path reads) polls least told = joint_then s t u a b c (Err (Growing path reads)) c_is a_is joint told
  until_ends (Shrank path had size) polls least told = joint_then s t u a b c (Err (Shrank path had size)) c_is a_is joint told
  until_ends (Spent number) polls least told = joint_then s t u a b c (Err (Spent number)) c_is a_is joint told
  until_ends (Refused code) polls least told = joint_then s t u a b c (Err (Refused code)) c_is a_is joint told

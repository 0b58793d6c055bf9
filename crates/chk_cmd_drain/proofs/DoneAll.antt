-- A drain that is done, from its beginning to its end.
use Rattle.std.proofs.Common.{◌≡◌, inl, inr, ℕ, true, false, List, [], ◌∷◌, ◌++◌, map, Option, Ok, Err, Result, refl, sym, ◌∙◌, ap, subst, arith, append_assoc}
use Rattle.std.specs.Prelude.{Contains}
use Rattle.chk_site.specs.declared.acts.Who.{Who}
use Rattle.chk_site.specs.History.{History, Step, Others, is_stopped}
use Rattle.chk_site.specs.Site.{Adds}
use Rattle.chk_site.specs.Runs.{Leads}
use Rattle.chk_site.proofs.Runs.{adds_as, adds_both, adds_then, every_early, every_late}
use Rattle.chk_world.specs.Agents.{stream_of}
use Rattle.chk_world.specs.Checkpoints.{Line}
use Rattle.chk_world.specs.Places.{Foreign, IsMadeBy, Talking}
use Rattle.chk_world.specs.Rules.{Legal}
use Rattle.chk_world.specs.Streams.{whole_end}
use Rattle.chk_world.specs.Together.{Outside}
use Rattle.chk_world.proofs.Beside.{others_foreign}
use Rattle.chk_agent_adaptor.specs.Adaptors.{is_stepped, stream_at}
use Rattle.chk_agent.specs.Facts.{Matches}
use Rattle.chk_agent.specs.States.{State, process}
use Rattle.chk_agent.proofs.TalkingTold.{ran_before}
use Rattle.chk_agent.proofs.TurningTold.{TalksOn}
use Rattle.chk_agent_run.specs.declared.faults.RunFault.{RunFault}
use Rattle.chk_agent_run.specs.Runs.{InRun}
use Rattle.chk_agent_drain.specs.Whole.{Meanwhile}
use Rattle.chk_cmd_output.specs.Printing.{by}
use Rattle.chk_cmd_output.proofs.Printed.{prints_join}
use Rattle.chk_cmd_drain.specs.declared.faults.DrainFault.{DrainFault}
use Rattle.chk_cmd_drain.specs.declared.faults.DrainFault.TheVariants.{Growing, Pending, Refused, Run, Shrank}
use Rattle.chk_cmd_drain.specs.Done.{DoneSo, DrainDone, HasLiveLine, lines_here, lines_then}
use Rattle.chk_cmd_drain.specs.Drains.{Finishes}
use Rattle.chk_cmd_drain.specs.Parts.{AreSteady, BegunTo, FinishedTo, FinishesSo, SavedAreRead}
use Rattle.chk_cmd_drain.proofs.Saved.{SavedFor, saved_for}

-- what held at a moment behind some steps held at one of all of them
meanwhile_later : (P : History → Type 0) (b a history : History) → Meanwhile P b (a ++ history)
    → Meanwhile P (b ++ a) history
meanwhile_later P b a history m = record {
  later = m.later;
  earlier = m.earlier ++ a;
  split = ap (λ x. x ++ a) m.split ∙ append_assoc m.later m.earlier a;
  holds = subst P (sym (append_assoc m.earlier a history)) m.holds;
}

module _ (stamped : List (List ℕ)) (who writer : Who) (initial : Option (List ℕ)) (s t : State)
    (me : who ≡ process s) (saved_by : AreSteady s.adaptors → SavedAreRead s → SavedFor s t) where
  -- ---- both parts in their order

  record First (added history : History) : Type 0 where
    leads : Leads (InRun stamped who writer) (Legal stamped) (Matches stamped s) added history
    so : BegunTo stamped who writer initial s added history

  record Second (added history : History) : Type 0 where
    leads : Leads (Talking stamped (process s)) (Matches stamped s) (Matches stamped t) added
        history
    so : FinishedTo stamped who s t added history

  module _ (a b history : History) (x : First a history) (y : Second b (a ++ history))
      (others : Others (Outside stamped (who ∷ [])) (b ++ a) history)
      (legal : Legal stamped history)
      (running : is_stopped ((b ++ a) ++ history) ≡ false) where
    abbrev Theirs : History → Step → Type 0
    Theirs before step = step.own ≡ false → Outside stamped (who ∷ []) before step

    saved : SavedFor s t
    saved = saved_by x.so.steady x.so.saved

    abbrev begin_at : History
    begin_at = x.so.start ++ (x.so.reads ++ history)

    goes : is_stopped (b ++ (a ++ history)) ≡ false
    goes = ap is_stopped (sym (append_assoc b a history)) ∙ running

    began : is_stopped (a ++ history) ≡ false
    began = ran_before (IsMadeBy (process s)) (λ before step made. made.running) b (a ++ history)
        y.leads.own goes

    foreign : Others (Foreign stamped (process s)) b (a ++ history)
    foreign =
        subst (λ (w : Who). Others (Foreign stamped w) b (a ++ history)) me
        (others_foreign stamped (who ∷ []) who (0, omega arith, refl) b (a ++ history)
        (every_late Theirs b a history others))

    known : Matches stamped s (a ++ history)
    known = x.leads.leads (every_early Theirs b a history others) legal

    left : Matches stamped t (b ++ (a ++ history))
    left = y.leads.leads foreign known

    named : who.name ≡ t.source
    named = ap (λ (w : Who). w.name) me ∙ sym saved.source

    lines_now : lines_then who.name ((b ++ a) ++ history) ≡ t.saved
    lines_now =
        (λ i. lines_then (named i) (append_assoc b a history i))
        ∙ (left.alive goes y.so.ready).lines_are

    lines_begun : lines_then who.name begin_at ≡ x.so.lines
    lines_begun = x.so.lines_are (every_early Theirs b a history others) legal began

    -- a live line's log was read to its end
    was_read : (l : Line) → Contains t.saved l → l.live ≡ true
        → Meanwhile (λ h. whole_end h (stream_of who.name l) ≡ l.offset) (b ++ x.so.later)
        begin_at
    was_read l one live =
        let k = saved.lines l one live in
        let stream : stream_at s.source k.1 ≡ stream_of who.name l =
        λ i. record {
          source = ap (λ (w : Who). w.name) (sym me) i;
          kind = k.3.kind_is i;
          name = k.3.path_is i;
        } in
        let moment = y.so.whole foreign known goes k.0 k.1 k.2 (ap is_stepped k.4) in
        let P : History → Type 0 = λ h. whole_end h (stream_of who.name l) ≡ l.offset in
        meanwhile_later P b x.so.later begin_at
        (subst (λ (h : History). Meanwhile P b h)
        (ap (λ (k : History). k ++ history) x.so.split
        ∙ (append_assoc x.so.later (x.so.start ++ x.so.reads) history
        ∙ ap (λ (k : History). x.so.later ++ k) (append_assoc x.so.start x.so.reads history)))
        (record {
          later = moment.later;
          earlier = moment.earlier;
          split = moment.split;
          holds = ap (whole_end (moment.earlier ++ (a ++ history))) (sym stream)
              ∙ (moment.holds ∙ k.5);
        }))

    now_has : {kind path : List ℕ} → HasLiveLine kind path t.saved
        → HasLiveLine kind path (lines_then who.name ((b ++ a) ++ history))
    now_has {kind} {path} h = subst (HasLiveLine kind path) (sym lines_now) h

    done_at : DrainDone who writer initial (b ++ a) history
    done_at =
        record {
          reads = x.so.reads;
          start = x.so.start;
          later = b ++ x.so.later;
          split = ap (λ (k : History). b ++ k) x.so.split
              ∙ sym (append_assoc b x.so.later (x.so.start ++ x.so.reads));
          text = x.so.text;
          file = x.so.file;
          started = x.so.started;
          read = λ l one live. was_read l (subst (λ ls. Contains ls l) lines_now one) live;
          printed_is = prints_join b x.so.later
              ∙ ((λ i. x.so.silent i ++ y.so.printed_is i)
              ∙ ap (map (by who))
              (sym ((λ i. lines_here (named i) (lines_now i)) ∙ saved.shown)));
          live = λ line among.
              elim (x.so.met line among) [
                | inl blank ↦ inl blank
                | inr r ↦ inr (r.0, r.1, r.2, now_has (saved.has r.0 r.1 r.3))
              ];
          kept = λ kind path h.
              now_has (saved.has kind path
              (x.so.kept kind path (subst (HasLiveLine kind path) lines_begun h)));
          only = λ kind path h.
              elim (x.so.only kind path
              (saved.from kind path (subst (HasLiveLine kind path) lines_now h))) [
                | inl old ↦ inl (subst (HasLiveLine kind path) (sym lines_begun) old)
                | inr new ↦ inr new
              ];
        }

  module _ {old mid new : Option History}
      (began : Adds old mid (Leads (InRun stamped who writer) (Legal stamped) (Matches stamped s)))
      (begun : Adds old mid (BegunTo stamped who writer initial s)) (talks : TalksOn s t mid new)
      (finished : Adds mid new (FinishedTo stamped who s t)) where
    pub done_all : Adds old new (DoneSo stamped who writer initial (Ok tt))
    done_all =
        adds_then (DoneSo stamped who writer initial (Ok tt))
        (adds_both First began begun (λ a h x y. record { leads = x; so = y }))
        (adds_both Second (talks stamped) finished (λ b h x y. record { leads = x; so = y }))
        (λ a b history x y others legal running. done_at a b history x y others legal running)

pub done_so : (stamped : List (List ℕ)) (who writer : Who) (initial : Option (List ℕ)) (s t : State)
    → who ≡ process s → (now reads polls : ℕ) (result : Result (Unit {0}) DrainFault)
    → {old mid new : Option History}
    → Adds old mid (Leads (InRun stamped who writer) (Legal stamped) (Matches stamped s))
    → Adds old mid (BegunTo stamped who writer initial s)
    → Finishes who now reads polls s result t mid new → TalksOn s t mid new
    → Adds mid new (FinishesSo stamped who s result t)
    → Adds old new (DoneSo stamped who writer initial result)
done_so stamped who writer initial s t me now reads polls (Ok value) began begun script talks
    finished =
    done_all stamped who writer initial s t me (saved_for script refl) began begun talks finished
done_so stamped who writer initial s t me now reads polls (Err (Shrank path had size)) began begun
    script talks finished =
    adds_then (DoneSo stamped who writer initial (Err (Shrank path had size))) began finished
    (λ a b history x y others legal running.
    y (subst (λ (w : Who). Others (Foreign stamped w) b (a ++ history)) me
    (others_foreign stamped (who ∷ []) who (0, omega arith, refl) b (a ++ history)
    (every_late (λ before step. step.own ≡ false → Outside stamped (who ∷ []) before step) b a
    history others)))
    (x.leads (every_early (λ before step. step.own ≡ false → Outside stamped (who ∷ []) before step)
    b a history others) legal)
    (ap is_stopped (sym (append_assoc b a history)) ∙ running))
done_so stamped who writer initial s t me now reads polls (Err (Run fault)) began begun script talks
    finished = adds_then (DoneSo stamped who writer initial (Err (Run fault))) began finished
    (λ a b history x y. tt)
done_so stamped who writer initial s t me now reads polls (Err (Pending stem got want)) began begun
    script talks finished = adds_then
    (DoneSo stamped who writer initial (Err (Pending stem got want))) began finished
    (λ a b history x y. tt)
done_so stamped who writer initial s t me now reads polls (Err (Growing path most)) began begun
    script talks finished = adds_then (DoneSo stamped who writer initial (Err (Growing path most)))
    began finished (λ a b history x y. tt)
done_so stamped who writer initial s t me now reads polls (Err (Refused code)) began begun script
    talks finished = adds_then (DoneSo stamped who writer initial (Err (Refused code))) began finished
    (λ a b history x y. tt)

-- where it didn't begin nothing is said
pub not_begun_so : (stamped : List (List ℕ)) (who writer : Who) (initial : Option (List ℕ))
    (fault : RunFault) {P : History → History → Type 0} {old new : Option History}
    → Adds old new P → Adds old new (DoneSo stamped who writer initial (Err (Run fault)))
not_begun_so stamped who writer initial fault p =
    adds_as (DoneSo stamped who writer initial (Err (Run fault))) p (λ a h x. tt)

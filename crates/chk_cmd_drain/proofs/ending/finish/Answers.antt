use Rattle.std.proofs.Common.{◌≡◌, eq-eqb, ℕ, List, Ok, Err, ◌∙◌, sym, ap, subst, map, length, true≢false, arith}
use Rattle.std.specs.Prelude.{vec_len}
use Rattle.std.proofs.lemmas.Bool.{eqb-true}
use Rattle.std.proofs.lemmas.List.{nil_from_length}
use Rattle.chk_site.proofs.Leads.{leads_none}
use Rattle.chk_site.proofs.Runs.{adds_none}
use Rattle.chk_replace.proofs.CallSteps.{script_last}
use Rattle.chk_cmd_output.proofs.Printed.{prints_made}
use Rattle.chk_agent_run.specs.declared.faults.RunFault.TheVariants as runs
use Rattle.chk_agent_run.specs.Faults.{fault_of}
use Rattle.chk_agent_run.proofs.Turned.{process_on}
use Rattle.chk_cmd_output.specs.Printing.{PrintsInTurn}
use Rattle.chk_cmd_drain.specs.declared.faults.DrainFault.TheVariants.{Run}
use Rattle.chk_cmd_drain.specs.Drains.{Finishes, LastOfDrain}
use Rattle.chk_cmd_drain.specs.Parts.{FinishesSo}
use Rattle.chk_cmd_drain.specs.Streams.{told_line}
use Rattle.chk_cmd_drain.proofs.DoneParts.{idle_to, told_to, undone_to, unfinished}
use Rattle.chk_cmd_drain.proofs.Silent.{drained_silent}
use Rattle.chk_cmd_drain.proofs.SameSource.{drained_source}
use Rattle.chk_cmd_drain.proofs.Finished.{drain_talks, refused_undamaged, refused_last, refused_cause, undone_undamaged, undone_last, undone_cause, told_talks, told_undamaged, told_last, told_cause}
use Rattle.chk_cmd_drain.proofs.ending.finish.Goals as goal

pub returns-in_default : goal.returns-in_default
returns-in_default g c = record {
  script = Finishes.unbegun;
  told = λ stamped. leads_none (g.S.Site.told c.args.site.now) (λ h x. x);
  done = λ stamped. adds_none (g.S.Site.told c.args.site.now)
      (FinishesSo stamped c.args.who.now c.args.agent.now (Err (Run runs.NoMemory))
      c.args.agent.now)
      (λ h. tt);
  undamaged = tt;
  last = adds_none (g.S.Site.told c.args.site.now) (LastOfDrain (Err (Run runs.NoMemory)))
      (λ h. tt);
  cause = omega arith;
}

pub returns-then-is_empty : goal.returns-then-is_empty
returns-then-is_empty g c =
    let ok = c.in-Ok.numbers.ok in
    let empty = eqb-true (vec_len c.in-Ok.numbers) 0
    (sym c.is_empty.ensures ∙ c.if-is_empty.true) in
    let size : length c.in-Ok.numbers.items ≡ 0 = omega (arith, ok, empty) in
    let none = nil_from_length c.in-Ok.numbers.items size in
    record {
      script = Finishes.none_live (sym c.in-Ok.ensures ∙ none);
      told = λ stamped. leads_none (g.S.Site.told c.args.site.now) (λ h x. x);
      done = λ stamped. idle_to stamped c.args.who.now c.args.agent.now
          (sym c.in-Ok.ensures ∙ none) c.requires.ready (g.S.Site.told c.args.site.now);
      undamaged = tt;
      last = adds_none (g.S.Site.told c.args.site.now) (LastOfDrain (Ok (tt {0}))) (λ h. tt);
      cause = omega arith;
    }

pub returns-in-Ok-Done : goal.returns-in-Ok-Done
returns-in-Ok-Done g c =
    let s = c.args.agent.now in let t = c.drain.new.agent in
    let drained = rw c.in-Ok-Done.field-0-is at c.in-Ok-Done.ensures.state in
    let prints = c.tell_streams.ensures.told in
    let are = c.as_slice.ensures.value ∙ c.in-Ok.ensures in
    let ok = c.in-Ok.numbers.ok in
    let prints_all =
    subst (λ (n : List ℕ). PrintsInTurn c.args.who.now
    (map (told_line t) n) c.tell_streams.result
    (g.S.Site.told c.drain.new.site) (g.S.Site.told c.tell_streams.new.site)) are prints in
    rw c.told.ensures
    (record {
      script = Finishes.told c.tell_streams.result
          (λ none.
          let size : length c.in-Ok.numbers.items ≡ 0 = ap length (c.in-Ok.ensures ∙ none) in
          let empty : vec_len c.in-Ok.numbers ≡ 0 = omega (arith, ok, size) in
          true≢false (sym (eq-eqb (vec_len c.in-Ok.numbers) 0 empty)
          ∙ (sym c.is_empty.ensures ∙ c.if-is_empty.false)))
          drained prints_all;
      told = told_talks s t c.requires.who c.requires.ready c.in-Ok-Done.ensures.ready
          c.ready-sound_still.ensures.sound (drained_source s drained)
          (drain_talks s _ t c.in-Ok-Done.ensures.told) prints;
      done = λ stamped. told_to stamped c.args.who.now s t c.ready-sound_still.ensures.sound
          c.in-Ok-Done.ensures.ready
          (process_on c.args.who.now s t c.requires.who (drained_source s drained))
          c.tell_streams.result
          (rw c.in-Ok-Done.field-0-is at (c.in-Ok-Done.ensures.told stamped))
          (drained_silent s drained) prints_all;
      undamaged = told_undamaged c.tell_streams.result;
      last = told_last c.tell_streams.result c.in-Ok-Done.ensures.last
          (script_last (prints_made prints));
      cause = told_cause c.tell_streams.result _ _ _ c.in-Ok-Done.ensures.cause
          c.tell_streams.ensures.cause;
    })

pub returns-in-Ok-drain : goal.returns-in-Ok-drain
returns-in-Ok-drain g c =
    let s = c.args.agent.now in let t = c.drain.new.agent in
    let drained = c.in-Ok-drain.drained in let fault = c.undone.result in
    record {
      script = Finishes.undone drained fault c.in-Ok-drain.ensures.state c.undone.ensures;
      told = drain_talks s _ t c.in-Ok-drain.ensures.told;
      done = λ stamped. undone_to stamped c.args.who.now s t drained fault c.undone.ensures
          (c.in-Ok-drain.ensures.told stamped);
      undamaged = undone_undamaged t drained fault c.undone.ensures;
      last = undone_last t drained fault c.undone.ensures c.in-Ok-drain.ensures.last;
      cause = undone_cause t drained fault c.undone.ensures _ _ c.in-Ok-drain.ensures.cause;
    }

pub returns : goal.returns
returns g c =
    let fault = c.in-Err.fault in
    rw c.from.ensures
    (record {
      script = Finishes.refused fault c.in-Err.ensures.state;
      told = drain_talks c.args.agent.now _ c.drain.new.agent c.in-Err.ensures.told;
      done = λ stamped. unfinished stamped c.args.who.now c.args.agent.now c.drain.new.agent
          (fault_of fault) (c.in-Err.ensures.told stamped);
      undamaged = refused_undamaged fault c.in-Err.ensures.undamaged;
      last = refused_last fault c.in-Err.ensures.last;
      cause = refused_cause _ _ fault c.in-Err.ensures.cause;
    })

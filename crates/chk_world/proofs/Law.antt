-- The law on the sinks of every legal history.
use Rattle.std.proofs.Common.{◌≡◌, inl, inr, ℕ, ◌≤◌, Bool, true, false, ◌&&◌, List, [], ◌∷◌, ◌++◌, length, Option, Some, None, refl, ap, sym, subst, ◌∙◌, true≢false, arith, append-nil, if◌then◌else◌, bytes_eq}
use Rattle.std.specs.Prelude.{IsTrue}
use Rattle.std.proofs.lemmas.Bool.{and_parts}
use Rattle.std.proofs.lemmas.Option.{none-some}
use Rattle.chk_bytes.specs.Stems.{Stem, is_stem}
use Rattle.chk_site.specs.declared.acts.Role.{Role}
use Rattle.chk_site.specs.declared.acts.Role.TheVariants.{Agent, Collector, Job, Writer}
use Rattle.chk_site.specs.declared.acts.Who.{Who}
use Rattle.chk_site.specs.declared.acts.ActAnswer.{ActAnswer}
use Rattle.chk_site.specs.declared.acts.ActAnswer.TheVariants.{Done, Refused, Stopped, Rotated, Deleted}
use Rattle.chk_site.specs.declared.acts.CallFault.TheVariants.{Failed}
use Rattle.chk_site.specs.declared.lists.Left.{Left}
use Rattle.chk_site.specs.Files.{File, Files}
use Rattle.chk_site.specs.Acts.{Deed, Appends, deed, is_done, same_role, same_who, tail_of}
use Rattle.chk_site.specs.History.{Step, History, files_after}
use Rattle.chk_world.specs.Names.{Name, BornFile, SinkFile, MarkFile, DoneFile, spell, file, is_known, owns_open, stop_names}
use Rattle.chk_world.specs.Committed.{OnFile, committed_of}
use Rattle.chk_world.specs.Collectors.{View, CollectorRule, view, view_after, own_view, new_view}
use Rattle.chk_world.specs.Rules.{Framed, RoleMay, Obeys, Legal}
use Rattle.chk_world.specs.Laws.{collector, wrote, written_by, IsOpenSink, Shape}
use Rattle.chk_world.proofs.Ends.{bytes_same, bytes_self}
use Rattle.chk_world.proofs.Outcomes.{Leaves, went_on, was_stopped, leaves}
use Rattle.chk_world.proofs.Kept.{Kept, on_file}
use Rattle.chk_world.proofs.Own.{InvAt, seen}
use Rattle.chk_world.proofs.OwnSteps.{Known, known_stem, own_came, at_same}
use Rattle.chk_world.proofs.Stops.{forgotten, forgets, stopped, no_tail, untailed, done_untailed}
use Rattle.chk_world.proofs.Others.{others_came, others_write}

pub role_same : (a b : Role) → same_role a b ≡ true → a ≡ b
role_same Agent Agent e = refl
role_same Collector Collector e = refl
role_same Job Job e = refl
role_same Writer Writer e = refl
role_same _ _ e = absurd (true≢false (sym e))

pub who_same : (a b : Who) → same_who a b ≡ true → a ≡ b
who_same a b e =
    let p = and_parts (same_role a.role b.role) (bytes_eq a.name b.name) e in
    let r = role_same a.role b.role p.0 in
    let n = bytes_same a.name b.name p.1 in
    λ i. record { role = r i; name = n i }

-- a step that is no stop
view_goes_on : (who : Who) (own : Bool) (call : Deed) (answer : ActAnswer) (before after : Files) (v : View) → ((left : List Left) → answer ≡ Stopped left → ⊥)
    → view_after who own call answer before after v ≡ (if own then own_view before after v call answer else v)
view_goes_on who own call (Done words number of) before after v no_stop = refl
view_goes_on who own call (Refused fault) before after v no_stop = refl
view_goes_on who own call (Stopped left) before after v no_stop = absurd (no_stop left refl)
view_goes_on who own call (Rotated suffix) before after v no_stop = refl
view_goes_on who own call (Deleted suffix) before after v no_stop = refl

-- the invariant after a step
abbrev pub InvAfter : Stem → History → Type 0
InvAfter x history = InvAt x (seen (view (collector x) history) (wrote x history)) (λ n. file (files_after history) n)

-- a stopped call writes nothing that counts
stop_writes : (x : Stem) (call : Deed) (left : List Left) → written_by x call (Stopped left) ≡ []
stop_writes x (Appends w piece) left = refl
stop_writes x call left = refl

stop_wrote : (x : Stem) (wr : List ℕ) (call : Deed) (left : List Left) → wr ++ written_by x call (Stopped left) ≡ wr
stop_wrote x wr call left = ap (λ l. wr ++ l) (stop_writes x call left) ∙ append-nil wr

module _ (x : Stem) (known : Known x) (history : History) (step : Step) (inv : InvAfter x history) where
  abbrev v : View
  v = view (collector x) history

  abbrev wr : List ℕ
  wr = wrote x history

  abbrev Goal : Bool → ActAnswer → Type 0
  Goal own answer = InvAt x (seen (view_after (collector x) own (deed step.act) answer (files_after history) step.files (view (collector x) history)) (wrote x history ++ written_by x (deed step.act) answer))
      (λ n. file step.files n)

  stopped_seen : (call : Deed) (left : List Left) → forgotten (wrote x history) ≡ forgotten (wrote x history ++ written_by x call (Stopped left))
  stopped_seen call left = ap forgotten (sym (stop_wrote x (wrote x history) call left))

  own_steps : Leaves (deed step.act) step.act.answer (files_after history) step.files → Framed (collector x) (files_after history) (deed step.act)
      → CollectorRule (collector x) history (view (collector x) history) (deed step.act) → Goal true step.act.answer
  own_steps (went_on no_stop came) framed may =
      subst (λ w. InvAt x (seen w (wrote x history ++ written_by x (deed step.act) step.act.answer)) (λ n. file step.files n))
      (sym (view_goes_on (collector x) true (deed step.act) step.act.answer (files_after history) step.files (view (collector x) history) no_stop))
      (own_came x known (view (collector x) history) (wrote x history) history step.files (deed step.act) step.act.answer came framed may inv)
  own_steps (was_stopped left is middle came tails) framed may =
      subst (Goal true) (sym is)
      (subst (λ s. InvAt x s (λ n. file step.files n)) (stopped_seen (deed step.act) left)
      (stopped x known (wrote x history) (collector x) (files_after history) (deed step.act) left middle step.files framed tails
      (subst (λ l. InvAt x (forgotten l) (λ n. file middle n)) (ap (λ l. wrote x history ++ l) (unwritten (deed step.act)) ∙ append-nil (wrote x history))
      (forgets x (seen (own_view (files_after history) middle (view (collector x) history) (deed step.act) (Refused Failed)) (wrote x history ++ written_by x (deed step.act) (Refused Failed)))
      (file middle (SinkFile x)) (file middle (MarkFile x)) (file middle (DoneFile x)) (file middle (BornFile x.collector))
      (own_came x known (view (collector x) history) (wrote x history) history middle (deed step.act) (Refused Failed) came framed may inv)))))
    where
      unwritten : (call : Deed) → written_by x call (Refused Failed) ≡ []
      unwritten (Appends w piece) = refl
      unwritten call = refl

  others_steps : same_who (collector x) step.act.who ≡ false → Leaves (deed step.act) step.act.answer (files_after history) step.files
      → Framed step.act.who (files_after history) (deed step.act) → Goal false step.act.answer
  others_steps other (went_on no_stop came) framed =
      subst (λ w. InvAt x (seen w (wrote x history ++ written_by x (deed step.act) step.act.answer)) (λ n. file step.files n))
      (sym (view_goes_on (collector x) false (deed step.act) step.act.answer (files_after history) step.files (view (collector x) history) no_stop))
      (subst (λ l. InvAt x (seen (view (collector x) history) l) (λ n. file step.files n))
      (sym (ap (λ l. wrote x history ++ l) (others_write x step.act.who other (deed step.act) step.act.answer (files_after history) framed) ∙ append-nil (wrote x history)))
      (others_came x step.act.who other known (deed step.act) (is_done step.act.answer) (files_after history) step.files (seen (view (collector x) history) (wrote x history)) came framed inv))
  others_steps other (was_stopped left is middle came tails) framed =
      subst (Goal false) (sym is)
      (subst (λ l. InvAt x (seen (if stop_names (collector x) left then new_view (view (collector x) history).handled else view (collector x) history) l) (λ n. file step.files n))
      (sym (stop_wrote x (wrote x history) (deed step.act) left))
      (named_or_not (stop_names (collector x) left) refl))
    where
      there : InvAt x (seen (view (collector x) history) (wrote x history)) (λ n. file middle n)
      there = others_came x step.act.who other known (deed step.act) false (files_after history) middle (seen (view (collector x) history) (wrote x history)) came framed inv

      mine : bytes_eq x.collector x.collector && true ≡ true
      mine = rw (bytes_self x.collector) refl

      same_at : (n : Name) → IsTrue (is_known n) → owns_open (collector x) n ≡ true → stop_names (collector x) left ≡ false → file step.files n ≡ file middle n
      same_at n k o e = (tails (spell n)).0 ∙ untailed (file middle n) (tail_of left (spell n)) (no_tail (collector x) left n k o e)

      named_or_not : (b : Bool) → stop_names (collector x) left ≡ b
          → InvAt x (seen (if b then new_view (view (collector x) history).handled else view (collector x) history) (wrote x history)) (λ n. file step.files n)
      named_or_not true e =
          stopped x known (wrote x history) step.act.who (files_after history) (deed step.act) left middle step.files framed tails
          (forgets x (seen (view (collector x) history) (wrote x history)) (file middle (SinkFile x)) (file middle (MarkFile x)) (file middle (DoneFile x)) (file middle (BornFile x.collector)) there)
      named_or_not false e =
          at_same x (seen (view (collector x) history) (wrote x history)) (λ n. file step.files n) (λ n. file middle n)
          (same_at (SinkFile x) known.stem mine e) (same_at (MarkFile x) known.stem mine e)
          (done_untailed x known (seen (view (collector x) history) (wrote x history)) step.act.who (files_after history) (deed step.act) left middle step.files
          framed tails there) (same_at (BornFile x.collector) known.collector mine e) there

  -- the rule of a step of the collector
  pub its_rule : (stamped : List (List ℕ)) → step.act.who ≡ collector x → RoleMay stamped step.act.who.role history step
      → CollectorRule (collector x) history (view (collector x) history) (deed step.act)
  its_rule stamped is rule =
      subst (λ w. CollectorRule w history (view w history) (deed step.act)) is
      (subst (λ r. RoleMay stamped r history step) (ap (λ (w : Who). w.role) is) rule)

  pub step_keeps : (stamped : List (List ℕ)) → Obeys stamped history step → InvAfter x (step ∷ history)
  step_keeps stamped obeys = go (same_who (collector x) step.act.who) refl
    where
      left_so : Leaves (deed step.act) step.act.answer (files_after history) step.files
      left_so =
          let e = obeys.honest.modelled.effect in
          leaves (deed step.act) step.act.answer (files_after history) step.files e.did e.may e.files_left

      go : (b : Bool) → same_who (collector x) step.act.who ≡ b → Goal b step.act.answer
      go true e =
          let is = sym (who_same (collector x) step.act.who e) in
          own_steps left_so (subst (λ w. Framed w (files_after history) (deed step.act)) is obeys.own_files) (its_rule stamped is obeys.rule)
      go false e = others_steps e left_so obeys.own_files

pub holds_always : (x : Stem) → Known x → (stamped : List (List ℕ)) (history : History) → Legal stamped history → InvAfter x history
holds_always x known stamped [] legal = record {
  files = record { of_sink = tt; of_mark = tt; of_done = tt };
  form = inl refl;
  number = tt;
  born_is = λ b e. absurd (none-some b e);
  unused = λ u. (tt, tt, tt);
  unwritten = λ u. refl;
  holds = λ cur e s. tt;
}
holds_always x known stamped (step ∷ history) legal = step_keeps x known history step (holds_always x known stamped history legal.0) stamped legal.1

-- what the invariant says of the committed length
open_at : (l : List ℕ) (sink mark shut : Option File) → Kept l sink mark shut → OnFile sink (IsOpenSink l (committed_of shut mark))
open_at l None mark shut k = tt
open_at l (Some f) mark (Some d) k = absurd k.of_done.no_sink
open_at l (Some f) None None k = inl refl
open_at l (Some f) (Some m) None k = inr k.of_mark.on_sink

most : (l : List ℕ) (sink mark shut : Option File) → Kept l sink mark shut → committed_of shut mark ≤ length l
most l sink mark (Some d) k = k.of_done.within
most l sink (Some m) None k = k.of_mark.within
most l sink None None k = omega arith

-- the sinks of every legal history have their shape
pub shape : (stamped : List (List ℕ)) (history : History) → Legal stamped history → (x : Stem) → IsTrue (is_stem x) → Shape history x
shape stamped history legal x is =
    let inv = holds_always x (known_stem x is) stamped history legal in
    let S = file (files_after history) (SinkFile x) in
    let M = file (files_after history) (MarkFile x) in
    let D = file (files_after history) (DoneFile x) in
    record {
      under_writing = open_at (wrote x history) S M D inv.files;
      done = on_file D (λ d h. h.done) inv.files.of_done;
      mark = on_file M (λ m h. h.mark) inv.files.of_mark;
      born = inv.number;
      committed = most (wrote x history) S M D inv.files;
      mark_within = on_file M (λ m h. on_file S (λ f s. s.there) h.on_sink) inv.files.of_mark;
      mark_of_done = on_file M (λ m h. h.on_done) inv.files.of_mark;
      no_later = λ later. let a = inv.unused (inl later) in (a.0, a.2);
      current = inv.holds;
    }

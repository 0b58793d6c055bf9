-- No sink of the start is given up by the steps of others, nor by calls that neither cut nor remove one.
use Rattle.std.proofs.Common.{◌≡◌, ◌⊎◌, inl, inr, ℕ, Bool, true, false, ◌&&◌, ◌||◌, not, nat_lt, List, [], ◌∷◌, ◌++◌, length, length-append, Option, Some, refl, ap, sym, subst, ◌∙◌, arith, append_assoc, true≢false}
use Rattle.std.specs.Prelude.{Contains, IsTrue}
use Rattle.std.proofs.lemmas.Bool.{and_parts}
use Rattle.chk_bytes.specs.Stems.{Stem, is_stem}
use Rattle.chk_bytes.proofs.StemLemmas.{stem_facts}
use Rattle.chk_site.specs.declared.acts.ActAnswer.{ActAnswer}
use Rattle.chk_site.specs.declared.acts.ActAnswer.TheVariants.{Done, Refused, Stopped, Rotated, Deleted}
use Rattle.chk_site.specs.declared.acts.Role.TheVariants.{Collector}
use Rattle.chk_site.specs.declared.acts.Who.{Who}
use Rattle.chk_site.specs.Acts.{Deed, Cuts, Removes, deed, is_stop, same_who}
use Rattle.chk_site.specs.History.{Step, History, Others, files_after, is_by, is_stopped}
use Rattle.chk_site.specs.Site.{Adds}
use Rattle.chk_site.specs.Runs.{Owns}
use Rattle.chk_site.proofs.Runs.{adds_as, adds_then, every_early, every_late}
use Rattle.chk_world.specs.Collectors.{view}
use Rattle.chk_world.specs.Laws.{collector, wrote, written_by}
use Rattle.chk_world.specs.NamedEnds.{cuts_sink, gave_up, gives_up, is_sink_of, stops}
use Rattle.chk_world.specs.Names.{Name, BornFile, SinkFile, MarkFile, DoneFile, CheckFile, BookFile, SegmentFile, Temporary, OtherFile, owns, read, stop_names}
use Rattle.chk_world.specs.Places.{Foreign, touched_by_stop}
use Rattle.chk_world.specs.Rules.{Framed, Legal, is_fixed}
use Rattle.chk_world.specs.Together.{IsByOne, Outside}
use Rattle.chk_world.proofs.Beside.{StaysOver, all_stay, no_stop_touches as not_touched}
use Rattle.chk_world.proofs.Frames.{apart, apart_removed}
use Rattle.chk_world.proofs.Law.{holds_always}
use Rattle.chk_world.proofs.NameTests.{same_name}
use Rattle.chk_world.proofs.OwnSteps.{known_stem}
use Rattle.chk_sink.specs.Held.{Holds}
use Rattle.chk_sink.specs.States.{State as Sinks, process}
use Rattle.chk_sink.proofs.Holding.{own_sink}
use Rattle.chk_collector.specs.Passing.{HasPassed}
use Rattle.chk_collector.proofs.Passing.{passed_on}
use Rattle.chk_round.specs.Keeping.{KeepsSinks, NoneGivenUp, SinksKept}

-- ---- the same start

module _ (s t : Sinks) (collector_is : t.collector ≡ s.collector) (born_is : t.born ≡ s.born) where
  pub passed_of : (h : History) → HasPassed s.collector s.born h → HasPassed t.collector t.born h
  passed_of h p = record {
    stem = p.stem;
    is_one = p.is_one;
    of_collector = p.of_collector ∙ sym collector_is;
    of_start = p.of_start ∙ sym born_is;
    more = p.more;
  }

  pub none_of : (h : History) → NoneGivenUp s h ⊎ HasPassed s.collector s.born h → NoneGivenUp t h ⊎ HasPassed t.collector t.born h
  none_of h (inl all) = inl (λ x good own born. all x good (own ∙ collector_is) (born ∙ born_is))
  none_of h (inr p) = inr (passed_of h p)

-- ---- one step

sink_test : (x : Stem) (n : Name) → is_sink_of x n ≡ same_name (SinkFile x) n
sink_test x (SinkFile y) = refl
sink_test x (BornFile c) = refl
sink_test x (MarkFile y) = refl
sink_test x (DoneFile y) = refl
sink_test x (CheckFile source) = refl
sink_test x (BookFile folder) = refl
sink_test x (SegmentFile folder n) = refl
sink_test x (Temporary n) = refl
sink_test x (OtherFile w) = refl

not_named : (who : Who) (own : Bool) (answer : ActAnswer) → own ≡ false → touched_by_stop who answer ≡ false
    → stops who own answer ≡ false
not_named who own (Stopped left) e spares = ap (λ b. b || stop_names who left) e ∙ spares
not_named who own (Done words number of) e spares = refl
not_named who own (Refused fault) e spares = refl
not_named who own (Rotated suffix) e spares = refl
not_named who own (Deleted suffix) e spares = refl

not_stopped : (who : Who) (own : Bool) (answer : ActAnswer) → is_stop answer ≡ false → stops who own answer ≡ false
not_stopped who own (Stopped left) goes = absurd (true≢false goes)
not_stopped who own (Done words number of) goes = refl
not_stopped who own (Refused fault) goes = refl
not_stopped who own (Rotated suffix) goes = refl
not_stopped who own (Deleted suffix) goes = refl

neither : (a b : Bool) → a ≡ false → b ≡ false → (a || b) ≡ false
neither a b e f = ap (λ a. a || b) e ∙ f

never_both : (a : Bool) → (a && false) ≡ false
never_both true = refl
never_both false = refl

module _ (stamped : List (List ℕ)) (s : Sinks) (history : History) (step : Step)
    (f : Foreign stamped (process s) history step) (x : Stem) (good : IsTrue (is_stem x)) (own : x.collector ≡ s.collector) where
  same_process : collector x ≡ process s
  same_process = ap (λ n. record { role = Collector; name = n }) own

  uncut : (call : Deed) → Framed step.act.who (files_after history) call → cuts_sink x call ≡ false
  uncut (Cuts w n) framed =
      sink_test x (read w)
      ∙ apart (process s) step.act.who f.obeys.named f.other (SinkFile x) (own_sink s x own good) (read w)
      (and_parts (owns step.act.who (read w)) (not (is_fixed (read w))) framed).0
  uncut (Removes w) framed =
      sink_test x (read w)
      ∙ apart_removed (process s) step.act.who f.obeys.named f.other (SinkFile x) (own_sink s x own good) (read w) framed
  uncut call framed = refl

  by_others : gives_up x step ≡ false
  by_others =
      neither (stops (collector x) (is_by (collector x) step) step.act.answer) (cuts_sink x (deed step.act))
      (not_named (collector x) (is_by (collector x) step) step.act.answer
      (ap (λ w. same_who w step.act.who) same_process ∙ f.other)
      (ap (λ w. touched_by_stop w step.act.answer) same_process ∙ f.spares))
      (uncut (deed step.act) f.obeys.own_files)

not_now : (x : Stem) (history : History) (step : Step) → gives_up x step ≡ false → gave_up x history ≡ false
    → gave_up x (step ∷ history) ≡ false
not_now x history step e before =
    neither (nat_lt 0 (length (wrote x history)) && gives_up x step) (gave_up x history)
    (ap (λ g. nat_lt 0 (length (wrote x history)) && g) e ∙ never_both (nat_lt 0 (length (wrote x history)))) before

keeps_step : (s : Sinks) (history : History) (step : Step)
    → ((x : Stem) → IsTrue (is_stem x) → x.collector ≡ s.collector → gives_up x step ≡ false)
    → KeepsSinks s history → KeepsSinks s (step ∷ history)
keeps_step s history step spares k = record {
  none = go k.none;
  full = λ left. passed_on (step ∷ []) history (k.full left);
}
  where
    go : NoneGivenUp s history ⊎ HasPassed s.collector s.born history
        → NoneGivenUp s (step ∷ history) ⊎ HasPassed s.collector s.born (step ∷ history)
    go (inl all) = inl (λ x good own born. not_now x history step (spares x good own) (all x good own born))
    go (inr p) = inr (passed_on (step ∷ []) history p)

-- ---- over steps

-- the call cuts and removes no sink under writing
abbrev pub Cutless : History → Step → Type 0
Cutless before step = (x : Stem) → cuts_sink x (deed step.act) ≡ false

-- and it was made while the site wasn't stopped
pub record IsSparing (before : History) (step : Step) : Type 0 where
  pub running : is_stopped before ≡ false
  pub cutless : Cutless before step

module _ (stamped : List (List ℕ)) (started : List Who) (s : Sinks) (one : Contains started (process s)) where
  theirs_kept : (history : History) (step : Step) → step.own ≡ false → Outside stamped started history step
      → SinksKept s history → SinksKept s (step ∷ history)
  theirs_kept history step is outside h running =
      let was : is_stopped history ≡ false = rw is at running in
      keeps_step s history step
      (λ x good own. by_others stamped s history step (outside.foreign (process s) one) x good own) (h was)

  pub sparing_over : StaysOver stamped started IsSparing (SinksKept s)
  sparing_over = record {
    theirs = λ history step is legal outside h. theirs_kept history step is outside h;
    ours = λ history step is legal sparing h running.
        let goes : is_stop step.act.answer ≡ false = rw is at running in
        keeps_step s history step
        (λ x good own. neither (stops (collector x) (is_by (collector x) step) step.act.answer) (cuts_sink x (deed step.act))
        (not_stopped (collector x) (is_by (collector x) step) step.act.answer goes) (sparing.cutless x)) (h sparing.running);
  }

  -- another process acts
  pub other_over : (me : Who) → same_who (process s) me ≡ false → (Own : History → Step → Type 0)
      → ((before : History) (step : Step) → Own before step → step.act.who ≡ me)
      → ((before : History) (step : Step) → Own before step → is_stopped before ≡ false)
      → StaysOver stamped started Own (SinksKept s)
  other_over me other Own by runs = record {
    theirs = λ history step is legal outside h. theirs_kept history step is outside h;
    ours = λ history step is legal own h running.
        let goes : is_stop step.act.answer ≡ false = rw is at running in
        let foreign : Foreign stamped (process s) history step = record {
          obeys = legal.1;
          other = ap (same_who (process s)) (by history step own) ∙ other;
          spares = not_touched (process s) step.act.answer goes;
        } in
        keeps_step s history step (λ x good mine. by_others stamped s history step foreign x good mine) (h (runs history step own));
  }

-- ---- what some steps carry on

-- where they are legal, others do as is supposed and the site's own are by one of these, A before leads to B behind them
abbrev pub Carries : List (List ℕ) → List Who → List Who → (History → Type 0) → (History → Type 0)
    → Option History → Option History → Type 0
Carries stamped started acting A B old new =
    Adds old new
    (λ added history. Legal stamped (added ++ history) → Others (Outside stamped started) added history
    → Owns (IsByOne acting) added history → A history → B (added ++ history))

pub legal_before : (stamped : List (List ℕ)) (added history : History) → Legal stamped (added ++ history) → Legal stamped history
legal_before stamped [] history legal = legal
legal_before stamped (step ∷ added) history legal = legal_before stamped added history legal.0

pub owns_join : (P Q R : History → Step → Type 0)
    → ((before : History) (step : Step) → P before step → Q before step → R before step)
    → (added history : History) → Owns P added history → Owns Q added history → Owns R added history
owns_join P Q R both [] history p q = tt
owns_join P Q R both (step ∷ added) history p q =
    (owns_join P Q R both added history p.0 q.0, λ own. both (added ++ history) step (p.1 own) (q.1 own))

module _ (stamped : List (List ℕ)) (started acting : List Who) where
  pub carries_then : (A B C : History → Type 0) {old mid new : Option History}
      → Carries stamped started acting A B old mid → Carries stamped started acting B C mid new
      → Carries stamped started acting A C old new
  carries_then A B C p q =
      adds_then
      (λ added history. Legal stamped (added ++ history) → Others (Outside stamped started) added history
      → Owns (IsByOne acting) added history → A history → C (added ++ history)) p q
      (λ a b history x y legal others own h.
      let whole = append_assoc b a history in
      let legal_b = subst (Legal stamped) whole legal in
      subst C (sym whole)
      (y legal_b (every_late (λ before step. step.own ≡ false → Outside stamped started before step) b a history others)
      (every_late (λ before step. step.own ≡ true → IsByOne acting before step) b a history own)
      (x (legal_before stamped b (a ++ history) legal_b)
      (every_early (λ before step. step.own ≡ false → Outside stamped started before step) b a history others)
      (every_early (λ before step. step.own ≡ true → IsByOne acting before step) b a history own) h)))

  pub carries_as : (A A' B B' : History → Type 0) {old new : Option History}
      → ((h : History) → A' h → A h) → ((h : History) → B h → B' h)
      → Carries stamped started acting A B old new → Carries stamped started acting A' B' old new
  carries_as A A' B B' first last p =
      adds_as
      (λ added history. Legal stamped (added ++ history) → Others (Outside stamped started) added history
      → Owns (IsByOne acting) added history → A' history → B' (added ++ history)) p
      (λ added history x legal others own h. last (added ++ history) (x legal others own (first history h)))

  -- what stays over such steps
  pub carries_over : {E : History → Type 0} (P Own : History → Step → Type 0)
      → ((before : History) (step : Step) → P before step → IsByOne acting before step → Own before step)
      → StaysOver stamped started Own E → {old new : Option History} → Adds old new (Owns P)
      → Carries stamped started acting E E old new
  carries_over {E = E} P Own both stays p =
      adds_as
      (λ added history. Legal stamped (added ++ history) → Others (Outside stamped started) added history
      → Owns (IsByOne acting) added history → E history → E (added ++ history)) p
      (λ added history x legal others own h.
      all_stay stamped started Own E stays added history legal others
      (owns_join P (IsByOne acting) Own both added history x own) h)

  -- calls that neither cut nor remove a sink
  pub cutless_carries : (s : Sinks) → Contains started (process s) → {old new : Option History} → Adds old new (Owns Cutless)
      → Carries stamped started acting (SinksKept s) (SinksKept s) old new
  cutless_carries s one p =
      carries_over Cutless IsSparing (λ before step cutless by. record { running = by.running; cutless = cutless })
      (sparing_over stamped started s one) p

-- ---- at the start

nothing_yet : (x : Stem) (history : History) → length (wrote x history) ≡ 0 → gave_up x history ≡ false
nothing_yet x [] none = refl
nothing_yet x (step ∷ history) none =
    let before : length (wrote x history) ≡ 0 =
    omega (arith, none, length-append (wrote x history) (written_by x (deed step.act) step.act.answer)) in
    neither (nat_lt 0 (length (wrote x history)) && gives_up x step) (gave_up x history)
    (ap (λ n. nat_lt 0 n && gives_up x step) before) (nothing_yet x history before)

pub fresh_keeps : (stamped : List (List ℕ)) (s : Sinks) (history : History) → Legal stamped history → Holds s history
    → s.number ≡ 0 → s.abandoned ≡ false → KeepsSinks s history
fresh_keeps stamped s history legal holds first none_left = record {
  none = inl (λ x good own born.
      let same : collector x ≡ process s = ap (λ n. record { role = Collector; name = n }) own in
      let some = (stem_facts x good).number_from in
      let made : (view (collector x) history).made ≡ 0 = ap (λ w. (view w history).made) same ∙ (holds.made ∙ first) in
      let is = ap (λ w. (view w history).born) same ∙ (holds.born ∙ ap Some (sym born)) in
      nothing_yet x history
      (ap length ((holds_always x (known_stem x good) stamped history legal).unwritten (inr (is, omega (arith, made, some))))));
  full = λ left. absurd (true≢false (sym left ∙ none_left));
}

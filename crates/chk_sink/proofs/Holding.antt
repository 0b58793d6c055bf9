-- What the history holds of the sinks stays over steps that leave the collector's view and its files.
use Rattle.std.proofs.Common.{◌≡◌, ℕ, Bool, true, false, ◌&&◌, List, ◌∷◌, Option, Some, None, Result, Ok, Err, ap, sym, subst, ◌∙◌, refl, is_some, true≢false, if◌then◌else◌}
use Rattle.std.specs.Prelude.{IsTrue, length}
use Rattle.std.proofs.lemmas.Bool.{or_parts}
use Rattle.chk_bytes.specs.Stems.{Stem, is_stem, same_stem}
use Rattle.chk_site.specs.Files.{File, Files}
use Rattle.chk_site.specs.History.{Step, History, files_after}
use Rattle.chk_world.specs.Names.{Name, SinkFile, MarkFile, read, spell, file, is_known}
use Rattle.chk_world.proofs.NameLemmas.{read-spell}
use Rattle.chk_world.proofs.NameTests.{same_name, name_self}
use Rattle.chk_world.specs.Committed.{HasFile, IsAbsent, number_in}
use Rattle.chk_world.specs.Collectors.{View, Handling, view}
use Rattle.chk_world.specs.Places.{Foreign, IsOwn, AtTold}
use Rattle.chk_site.specs.declared.acts.Who.{Who}
use Rattle.chk_site.specs.declared.acts.CallFault.{CallFault}
use Rattle.chk_site.specs.declared.acts.OutsideFault.{OutsideFault}
use Rattle.chk_site.specs.Site.{Adds, Asked, answered, plain, Calls, IsDone, Ends}
use Rattle.chk_site.specs.Runs.{Side, Leads}
use Rattle.chk_site.proofs.Leads.{leads_as}
use Rattle.chk_world.proofs.Frames.{files_stay, view_stays}
use Rattle.chk_world.proofs.PlacesStay.{Stays}
use Rattle.chk_sink.specs.States.{State, Writing, process, last_stem, let_go, given_up}
use Rattle.chk_sink.specs.Held.{IsAsKept, Holds, Handles}
use Rattle.chk_sink.specs.Calls.{MadeOnce}

-- ---- one call, by its result

-- it was done
pub record WasMade (q : Asked) (old new : Option History) : Type 0 where
  pub given : Result (Unit {0}) CallFault
  pub fine : IsDone given
  pub told : Adds old new (Calls q (answered plain given))

pub was_made : {q : Asked} (made : Result (Unit {0}) OutsideFault) {old new : Option History} (value : Unit {0}) → made ≡ Ok value
    → MadeOnce q made old new → WasMade q old new
was_made (Ok u) value e m = record { given = m.given; fine = m.came; told = m.told }
was_made (Err fault) value e m = absurd (cc)

-- it ended the work
pub record HasEnded (q : Asked) (fault : OutsideFault) (old new : Option History) : Type 0 where
  pub given : Result (Unit {0}) CallFault
  pub ends : Ends q.call given fault
  pub told : Adds old new (Calls q (answered plain given))

pub has_ended : {q : Asked} (made : Result (Unit {0}) OutsideFault) {old new : Option History} (fault : OutsideFault) → made ≡ Err fault
    → MadeOnce q made old new → HasEnded q fault old new
has_ended {q = q} made {old = old} {new = new} fault e m =
    let n = subst (λ r. MadeOnce q r old new) e m in
    record { given = n.given; ends = n.came; told = n.told }

-- what a call that was done on one file leaves: that one changed so, and the others as they were
pub record Changed (n : Name) (change : Option File → Option File) (before after : Files) : Type 0 where
  pub there : file after n ≡ change (file before n)
  pub others : (m : Name) → IsTrue (is_known m) → same_name m n ≡ false → file after m ≡ file before m

pub changed_by : (n : Name) (w : List ℕ) → w ≡ spell n → IsTrue (is_known n) → (change : Option File → Option File) (before after : Files)
    → ((m : Name) → IsTrue (is_known m) → file after m ≡ (if same_name m (read w) then change (file before m) else file before m))
    → Changed n change before after
changed_by n w w_is known change before after changes =
    record { there = by n known true (name_self n); others = λ m k e. by m k false e }
  where
    by : (m : Name) → IsTrue (is_known m) → (b : Bool) → same_name m n ≡ b → file after m ≡ (if b then change (file before m) else file before m)
    by m k b e =
        changes m k
        ∙ (ap (λ j. if same_name m j then change (file before m) else file before m) (ap read w_is ∙ read-spell n known)
        ∙ ap (λ b. if b then change (file before m) else file before m) e)

-- ---- the sinks

-- the sink that is written to has a good name
abbrev pub HasStem : State → Type 0
HasStem s = is_some s.current ≡ true → IsTrue (is_stem (last_stem s))

-- what the collector sees is the same, and its sinks and marks are
pub record IsAlike (s : State) (before after : History) : Type 0 where
  pub sight : view (process s) after ≡ view (process s) before
  pub sinks : (x : Stem) → x.collector ≡ s.collector → IsTrue (is_stem x)
      → file (files_after after) (SinkFile x) ≡ file (files_after before) (SinkFile x)
  pub marks : (x : Stem) → x.collector ≡ s.collector → IsTrue (is_stem x)
      → file (files_after after) (MarkFile x) ≡ file (files_after before) (MarkFile x)

pub own_sink : (s : State) (x : Stem) → x.collector ≡ s.collector → IsTrue (is_stem x) → IsOwn (process s) (SinkFile x)
own_sink s x own good = record { own = sym own; known = good }

pub own_mark : (s : State) (x : Stem) → x.collector ≡ s.collector → IsTrue (is_stem x) → IsOwn (process s) (MarkFile x)
own_mark s x own good = record { own = sym own; known = good }

-- a step of others leaves them
pub foreign_alike : (stamped : List (List ℕ)) (s : State) (history : History) (step : Step) → Foreign stamped (process s) history step
    → IsAlike s history (step ∷ history)
foreign_alike stamped s history step f = record {
  sight = view_stays stamped (process s) history step f;
  sinks = λ x own good. files_stay stamped (process s) history step (SinkFile x) f (own_sink s x own good);
  marks = λ x own good. files_stay stamped (process s) history step (MarkFile x) f (own_mark s x own good);
}

-- what is known of a told history by more that was known, and so what calls lead to
pub told_by : {stamped : List (List ℕ)} {who : Who} {A B : History → Type 0} (h : History) → (A h → B h) → AtTold stamped who A h
    → AtTold stamped who B h
told_by h more x = record { legal = x.legal; may_act = x.may_act; alive = λ r. more (x.alive r) }

pub leads_by : {S : Side} {stamped : List (List ℕ)} {who : Who} {Before A B : History → Type 0} {old new : Option History}
    → ((h : History) → A h → B h) → Adds old new (Leads S Before (AtTold stamped who A)) → Adds old new (Leads S Before (AtTold stamped who B))
leads_by more told = leads_as (λ h x. x) (λ h x. told_by h (more h) x) told

pub absent_as : (a b : Option File) → b ≡ a → IsAbsent a → IsAbsent b
absent_as a b e h = subst IsAbsent (sym e) h

pub both_absent : {a b c d : Option File} → b ≡ a → d ≡ c → IsAbsent a × IsAbsent c → IsAbsent b × IsAbsent d
both_absent e f h = (absent_as _ _ e h.0, absent_as _ _ f h.1)

kept_alike : (x : Stem) (v w : View) (f g : Files) (o : Option Writing) → w ≡ v
    → (is_some o ≡ true → file g (SinkFile x) ≡ file f (SinkFile x)) → (is_some o ≡ true → file g (MarkFile x) ≡ file f (MarkFile x))
    → IsAsKept x v f o → IsAsKept x w g o
kept_alike x v w f g None e sink mark h = tt
kept_alike x v w f g (Some o) e sink mark h = record {
  current = ap (λ (v : View). v.current) e ∙ h.current;
  size = subst (λ a. HasFile a (λ b. length b.bytes ≡ o.size)) (sym (sink refl)) h.size;
  marked = ap number_in (mark refl) ∙ h.marked;
}

pub holds_alike : (s : State) (before after : History) → HasStem s → IsAlike s before after → Holds s before → Holds s after
holds_alike s before after stem same h = record {
  born = ap (λ (v : View). v.born) same.sight ∙ h.born;
  made = ap (λ (v : View). v.made) same.sight ∙ h.made;
  writing = kept_alike (last_stem s) (view (process s) before) (view (process s) after) (files_after before) (files_after after) s.current
      same.sight (λ some. same.sinks (last_stem s) refl (stem some)) (λ some. same.marks (last_stem s) refl (stem some)) h.writing;
  tidy = λ none x other. both_absent (same.sinks x other.own other.stem) (same.marks x other.own other.stem) (h.tidy none x other);
}

pub handles_alike : (s : State) (messages : List Handling) (before after : History) → HasStem s → IsAlike s before after
    → Handles s messages before → Handles s messages after
handles_alike s messages before after stem same h = record {
  holds = holds_alike s before after stem same h.holds;
  handled = ap (λ (v : View). v.handled) same.sight ∙ h.handled;
}

pub holds_stays : (stamped : List (List ℕ)) (s : State) → HasStem s → Stays stamped (process s) (Holds s)
holds_stays stamped s stem history step legal f h = holds_alike s history (step ∷ history) stem (foreign_alike stamped s history step f) h

pub handles_stays : (stamped : List (List ℕ)) (s : State) (messages : List Handling) → HasStem s → Stays stamped (process s) (Handles s messages)
handles_stays stamped s messages stem history step legal f h =
    handles_alike s messages history (step ∷ history) stem (foreign_alike stamped s history step f) h

-- the sink that is written to is as it is kept
pub writing_kept : (s : State) (o : Writing) → s.current ≡ Some o → (history : History) → Holds s history
    → IsAsKept (last_stem s) (view (process s) history) (files_after history) (Some o)
writing_kept s o some history h = subst (IsAsKept (last_stem s) (view (process s) history) (files_after history)) some h.writing

-- the sink that is written to is let go of
none_other : (s : State) (o : Option Writing) (x : Stem) → is_some o ≡ false → (is_some o && same_stem x (last_stem s)) ≡ false
none_other s None x e = refl
none_other s (Some o) x e = absurd (cc)

pub let_go_holds : (s : State) (history : History) → Holds s history → Holds (let_go s) history
let_go_holds s history h = record {
  born = h.born;
  made = h.made;
  writing = tt;
  tidy = λ none x other.
      let both = or_parts s.abandoned (is_some s.current) none in
      h.tidy both.0 x (record { own = other.own; stem = other.stem; other = none_other s s.current x both.1 });
}

pub let_go_handles : (s : State) (messages : List Handling) (history : History) → Handles s messages history → Handles (let_go s) messages history
let_go_handles s messages history h = record { holds = let_go_holds s history h.holds; handled = h.handled }

-- of sinks that are given up no more is held than the number of the start and the count of sinks
pub given_up_with : (s : State) (history : History) → (view (process s) history).born ≡ Some s.born → (view (process s) history).made ≡ s.number
    → Holds (given_up s) history
given_up_with s history born made = record { born = born; made = made; writing = tt; tidy = λ e. absurd (true≢false e) }

pub given_up_holds : (s : State) (history : History) → Holds s history → Holds (given_up s) history
given_up_holds s history h = given_up_with s history h.born h.made

pub given_up_handles : (s : State) (messages : List Handling) (history : History) → Handles s messages history → Handles (given_up s) messages history
given_up_handles s messages history h = record { holds = given_up_holds s history h.holds; handled = h.handled }

-- The sink that a collector may append to is the last one that it created since its start.
use Rattle.std.proofs.Common.{◌≡◌, ℕ, ◌+◌, Bool, true, false, ◌&&◌, List, [], ◌∷◌, Option, Some, ap, sym, subst, ◌∙◌, refl, if◌then◌else◌}
use Rattle.std.proofs.lemmas.Option.{same_Some, none-some}
use Rattle.chk_bytes.specs.Stems.{Stem}
use Rattle.chk_site.specs.declared.acts.Role.TheVariants.{Collector}
use Rattle.chk_site.specs.declared.acts.Who.{Who}
use Rattle.chk_site.specs.declared.acts.ActAnswer.{ActAnswer}
use Rattle.chk_site.specs.declared.acts.ActAnswer.TheVariants.{Stopped}
use Rattle.chk_site.specs.Files.{Files}
use Rattle.chk_site.specs.Acts.{Deed, Starts, Creates, Appends, Renames, deed, is_done}
use Rattle.chk_site.specs.History.{History, files_after, is_by, took_effect}
use Rattle.chk_world.specs.Names.{Name, BornFile, SinkFile, Temporary, read, stop_names}
use Rattle.chk_world.specs.Committed.{number_in}
use Rattle.chk_world.specs.Collectors.{View, Current, CollectorRule, SinkNamesFresh, MayRename, view, view_after, own_view, new_view, sink_of, next_mark_of, still, created, made_by, appended_to, went_well, concern, born_after, is_born_file, size_in}
use Rattle.chk_world.specs.Rules.{Legal, RoleMay}
use Rattle.chk_world.proofs.Invariant.{still_less, appended_from}
use Rattle.chk_world.proofs.Law.{who_same}

-- the sink is this start's, and the last one that was created
pub record IsNewest (born : Option ℕ) (made : ℕ) (x : Stem) : Type 0 where
  pub born_is : born ≡ Some x.born
  pub made_is : made ≡ x.number

abbrev pub Names : View → Type 0
Names v = (cur : Current) → v.current ≡ Some cur → IsNewest v.born v.made cur.stem

-- the same, of what is known after a call
abbrev NamesBy : Option ℕ → ℕ → Option Current → Type 0
NamesBy born made current = (cur : Current) → current ≡ Some cur → IsNewest born made cur.stem

module _ (v : View) (before : Files) (now : Names v) where
  less : (well : Bool) (y : Option Stem) → NamesBy v.born v.made (still well y v.current)
  less well y cur e = now cur (still_less well y v.current cur e)

  creates : (n : Name) (well : Bool) → SinkNamesFresh v n
      → NamesBy v.born (made_by (sink_of n) v.made)
      (created (sink_of n) well (still well (next_mark_of n) v.current))
  creates (SinkFile y) true fresh cur e =
      let same : y ≡ cur.stem =
      ap (λ (c : Current). c.stem) (same_Some (record { stem = y; sync_end = 0 }) cur e) in
      subst (IsNewest v.born (v.made + 1)) same
      (record { born_is = fresh.0; made_is = sym fresh.1 })
  creates (SinkFile y) false fresh cur e = absurd (none-some cur e)
  creates (Temporary n) well fresh cur e = less well (next_mark_of (Temporary n)) cur e
  creates n well fresh cur e = absurd fresh

  appends : (y z : Option Stem) (well : Bool) (size : ℕ) (piece : List ℕ)
      → NamesBy v.born v.made (appended_to y well size piece (still well z v.current))
  appends y z well size piece cur e =
      let a = appended_from y well size piece (still well z v.current) cur e in
      subst (IsNewest v.born v.made) a.2 (less well z a.0 a.1)

  -- who has created a sink has published its number of starts already
  born_stays : (old new : Name) → MayRename v before old new → (b : ℕ) → v.born ≡ Some b
      → is_born_file new ≡ false
  born_stays (Temporary (BornFile c)) (BornFile d) may b e = absurd (none-some b (sym may.1 ∙ e))
  born_stays old (BornFile d) may b e = absurd may
  born_stays old new may b e = refl

  renames : (old new : List ℕ) (after : Files) (well : Bool) (y : Option Stem)
      → MayRename v before (read old) (read new)
      → NamesBy (born_after before after (Renames old new) v.born) v.made (still well y v.current)
  renames old new after well y may cur e =
      let is = less well y cur e in
      let none = born_stays (read old) (read new) may cur.stem.born is.born_is in
      record {
        born_is = ap (λ b. if b && took_effect before after old then Some (number_in (after new))
            else v.born) none ∙ is.born_is;
        made_is = is.made_is;
      }

own_names : (who : Who) (history : History) (after : Files) (v : View) (call : Deed)
    (answer : ActAnswer) → CollectorRule who history v call → Names v
    → Names (own_view (files_after history) after v call answer)
own_names who history after v Starts answer rule now = λ cur e. absurd (none-some cur e)
own_names who history after v (Creates w) answer rule now =
    creates v (files_after history) now (read w) (is_done answer) rule
own_names who history after v (Appends w piece) answer rule now =
    appends v (files_after history) now (sink_of (read w)) (next_mark_of (read w))
    (is_done answer) (size_in (files_after history w)) piece
own_names who history after v (Renames old new) answer rule now =
    renames v (files_after history) now old new after (went_well (Renames old new) answer)
    (concern (Renames old new)) rule
own_names who history after v call answer rule now =
    less v (files_after history) now (went_well call answer) (concern call)

none_named : (v : View) → Names (new_view v.handled)
none_named v cur e = absurd (none-some cur e)

names_after : (who : Who) (history : History) (after : Files) (v : View) (own : Bool)
    (call : Deed) (answer : ActAnswer)
    → (own ≡ true → CollectorRule who history v call) → Names v
    → Names (view_after who own call answer (files_after history) after v)
names_after who history after v true call (Stopped left) rule now =
    λ cur e. absurd (none-some cur e)
names_after who history after v false call (Stopped left) rule now = go (stop_names who left)
  where
    go : (b : Bool) → Names (if b then new_view v.handled else v)
    go true = none_named v
    go false = now
names_after who history after v true call answer rule now =
    own_names who history after v call answer (rule refl) now
names_after who history after v false call answer rule now = now

-- in every legal history
pub current_is_newest : (stamped : List (List ℕ)) (history : History) → Legal stamped history
    → (who : Who) → who.role ≡ Collector
    → Names (view who history)
current_is_newest stamped [] legal who collects = λ cur e. absurd (none-some cur e)
current_is_newest stamped (step ∷ history) legal who collects =
    names_after who history step.files (view who history) (is_by who step) (deed step.act)
    step.act.answer rule
    (current_is_newest stamped history legal.0 who collects)
  where
    rule : is_by who step ≡ true → CollectorRule who history (view who history) (deed step.act)
    rule e =
        let is : step.act.who ≡ who = sym (who_same who step.act.who e) in
        subst (λ w. CollectorRule w history (view w history) (deed step.act)) is
        (subst (λ role. RoleMay stamped role history step)
        (ap (λ (w : Who). w.role) is ∙ collects) legal.1.rule)

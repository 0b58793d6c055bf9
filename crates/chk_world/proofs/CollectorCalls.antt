-- What a collector's own calls leave of its view, and the replacement of its number of starts and of a mark.
use Rattle.std.proofs.Common.{◌≡◌, ℕ, ◌+◌, ◌<◌, ◌≤◌, ◌^◌, Bool, true, false, ◌&&◌, List, ◌∷◌, Option, Some, None, ap, sym, subst, ◌∙◌, refl, true≢false, if◌then◌else◌, arith, is_some, is_none}
use Rattle.std.specs.Prelude.{Result}
use Rattle.chk_bytes.specs.Numbers.{be64, limit, spelled}
use Rattle.chk_bytes.specs.Stems.{Stem}
use Rattle.chk_bytes.proofs.NumberLemmas.{spelled-be64}
use Rattle.chk_site.specs.declared.acts.Role.TheVariants.{Collector}
use Rattle.chk_site.specs.declared.acts.Who.{Who}
use Rattle.chk_site.specs.declared.acts.CallFault.TheVariants.{Failed, Missing}
use Rattle.chk_site.specs.declared.acts.OutsideFault.{OutsideFault}
use Rattle.chk_site.specs.declared.acts.ActAnswer.{ActAnswer}
use Rattle.chk_site.specs.declared.acts.ActAnswer.TheVariants.{Done, Refused, Stopped, Rotated, Deleted}
use Rattle.chk_site.specs.Files.{File, Files}
use Rattle.chk_site.specs.Acts.{Deed, Renames, Removes, deed, is_done, same_who}
use Rattle.chk_site.specs.History.{Step, History, files_after}
use Rattle.chk_site.specs.Honest.{Honest}
use Rattle.chk_site.specs.Site.{Adds}
use Rattle.chk_site.specs.Runs.{Leads, MadeInTurn}
use Rattle.chk_replace.specs.Replace.{tmp, replacement}
use Rattle.chk_world.specs.Names.{Name, BornFile, SinkFile, MarkFile, Temporary, read, spell, file}
use Rattle.chk_world.specs.Committed.{OnFile, HasFile, IsNumber, number_in}
use Rattle.chk_world.specs.Collectors.{View, Current, view, view_after, own_view, born_after, still, is_born_file, CollectorRule, IsCurrent, IsCommitted}
use Rattle.chk_world.specs.Rules.{RoleMay, Legal, is_small}
use Rattle.chk_world.specs.Places.{As, AtTold, AtPlace, IsPlace}
use Rattle.chk_world.proofs.NameLemmas.{read-spell}
use Rattle.chk_world.proofs.NameTests.{same_name}
use Rattle.chk_world.proofs.Frames.{view_stays}
use Rattle.chk_world.proofs.ToldCalls.{GoesOn, who_self}
use Rattle.chk_world.proofs.Replacing.{Target, around, OnNext, on_remove, on_create, on_append, on_sync, Went, settled, Next, anything, Replaces, EndedAt, next_word, replaced}

-- the view after an own step that is no stop
own_goes : (who : Who) (own : Bool) (call : Deed) (answer : ActAnswer) (before after : Files) (v : View) → own ≡ true → GoesOn answer
    → view_after who own call answer before after v ≡ own_view before after v call answer
own_goes who own call (Done words number of) before after v mine goes = rw mine refl
own_goes who own call (Refused fault) before after v mine goes = rw mine refl
own_goes who own call (Stopped left) before after v mine goes = absurd goes
own_goes who own call (Rotated suffix) before after v mine goes = rw mine refl
own_goes who own call (Deleted suffix) before after v mine goes = rw mine refl

pub own_sight : (who : Who) (before : History) (step : Step) → step.act.who ≡ who → GoesOn step.act.answer
    → view who (step ∷ before) ≡ own_view (files_after before) step.files (view who before) (deed step.act) step.act.answer
own_sight who before step by goes =
    own_goes who (same_who who step.act.who) (deed step.act) step.act.answer (files_after before) step.files (view who before)
    (ap (same_who who) by ∙ who_self who) goes

-- the collector's rule is the one that its step owes
pub collector_rule : (stamped : List (List ℕ)) (who : Who) (before : History) (step : Step) (call : Deed) → who.role ≡ Collector
    → step.act.who ≡ who → deed step.act ≡ call → CollectorRule who before (view who before) call
    → RoleMay stamped step.act.who.role before step
collector_rule stamped who before step call role by is may =
    subst (λ r. RoleMay stamped r before step) (sym (ap (λ (k : Who). k.role) by ∙ role))
    (subst (λ (k : Who). CollectorRule k before (view k before) (deed step.act)) (sym by)
    (subst (CollectorRule who before (view who before)) (sym is) may))

-- the start's number, the count of sinks and the current sink are as they were
pub record Alike (v w : View) : Type 0 where
  pub born : w.born ≡ v.born
  pub made : w.made ≡ v.made
  pub current : w.current ≡ v.current

-- a call that was done leaves the current sink as it is
pub still_well : (y : Option Stem) (o : Option Current) → still true y o ≡ o
still_well None o = refl
still_well (Some y) None = refl
still_well (Some y) (Some cur) = refl

pub went_goes : (call : Deed) (answer : ActAnswer) → Went call answer → GoesOn answer
went_goes call (Done words number of) went = tt
went_goes call (Refused fault) went = tt
went_goes (Removes w) (Stopped left) went = went
went_goes call (Stopped left) went = absurd (stopped call went)
  where
    stopped : (call : Deed) → Went call (Stopped left) → ⊥
    stopped (Removes w) h = h
    stopped call h = h
went_goes call (Rotated suffix) went = tt
went_goes call (Deleted suffix) went = tt

-- the calls on a next content, where they went well
module _ (n : Name) (w : List ℕ) (reads : read w ≡ Temporary n) (before after : Files) (v : View) where
  went_alike : (call : Deed) → OnNext w call → (answer : ActAnswer) → Went call answer → Alike v (own_view before after v call answer)
  went_alike call on_remove (Done words number of) went =
      record { born = refl; made = refl; current = rw reads (still_well _ v.current) }
  went_alike call on_remove (Refused Missing) went =
      record { born = refl; made = refl; current = rw reads (still_well _ v.current) }
  went_alike call on_remove answer went = absurd went
  went_alike call on_create (Done words number of) went =
      record { born = refl; made = rw reads refl; current = rw reads (still_well _ v.current) }
  went_alike call on_create answer went = absurd went
  went_alike call (on_append bytes) (Done words number of) went =
      record { born = refl; made = refl; current = rw reads (still_well _ v.current) }
  went_alike call (on_append bytes) answer went = absurd went
  went_alike call on_sync (Done words number of) went =
      record { born = refl; made = refl; current = rw reads (still_well _ v.current) }
  went_alike call on_sync answer went = absurd went

  -- whatever they answered, they make no sink and publish no number
  next_born : (call : Deed) → OnNext w call → (answer : ActAnswer)
      → ((own_view before after v call answer).born ≡ v.born) × ((own_view before after v call answer).made ≡ v.made)
  next_born call on_remove answer = (refl, refl)
  next_born call on_create answer = (refl, rw reads refl)
  next_born call (on_append bytes) answer = (refl, refl)
  next_born call on_sync answer = (refl, refl)

pub goes_failed : (answer : ActAnswer) → answer ≡ Refused Failed → GoesOn answer
goes_failed answer e = subst GoesOn (sym e) tt

pub goes_is_done : (answer : ActAnswer) → is_done answer ≡ true → GoesOn answer
goes_is_done (Done words number of) e = tt
goes_is_done (Refused fault) e = tt
goes_is_done (Stopped left) e = absurd (true≢false (sym e))
goes_is_done (Rotated suffix) e = tt
goes_is_done (Deleted suffix) e = tt

-- a small file of a collector, beside another file of its
pub collector_target : (stamped : List (List ℕ)) (who : Who) (a n : Name) → IsPlace (around who (view who) a n)
    → is_small n ≡ true → same_name a (Temporary n) ≡ false → Target stamped who (view who) a n
collector_target stamped who a n place small apart_next = record {
  place = place;
  sight = λ history step legal f. view_stays stamped who history step f;
  small = small;
  apart_next = apart_next;
}

-- eight bytes that are synced are a number
number_settled : (k : ℕ) (o : Option File) → k < limit → o ≡ settled (be64 k) → OnFile o (λ f. IsNumber f × (spelled f.bytes ≡ k))
number_settled k o small e =
    let s : k < 2 ^ 63 = small in
    let is : spelled (be64 k) ≡ k = spelled-be64 k (omega arith) in
    subst (λ o. OnFile o (λ f. IsNumber f × (spelled f.bytes ≡ k))) (sym e)
    ((refl, refl, subst (λ m. m < limit) (sym is) small), is)

number_is : (k : ℕ) (o : Option File) → k < limit → o ≡ settled (be64 k) → number_in o ≡ k
number_is k o small e = let s : k < 2 ^ 63 = small in ap number_in e ∙ spelled-be64 k (omega arith)

published_born : (b : Bool) (f g h : Option File) (born : Option ℕ) {bytes : List ℕ} → b ≡ true → f ≡ settled bytes → g ≡ None
    → (if b && (is_some f && is_none g) then Some (number_in h) else born) ≡ Some (number_in h)
published_born b f g h born x y z = rw (x, y, z) refl

-- ---- the number of starts

-- no number is published yet, and the last one was k
pub record Unborn (k : ℕ) (v : View) (s m : Option File) : Type 0 where
  pub born : v.born ≡ None
  pub made : v.made ≡ 0
  pub number : number_in m ≡ k

-- no sink is created yet
abbrev pub NoneMade : View → Type 0
NoneMade v = v.made ≡ 0

-- the number is published
pub record Born (k : ℕ) (v : View) (s t m : Option File) : Type 0 where
  pub born : v.born ≡ Some k
  pub made : v.made ≡ 0
  pub number : number_in m ≡ k

module _ (stamped : List (List ℕ)) (c : List ℕ) (a : Name) (target : Target stamped (record { role = Collector; name = c })
    (view (record { role = Collector; name = c })) a (BornFile c)) (k : ℕ) (small : k + 1 < limit) (w name : List ℕ)
    (reads : read w ≡ Temporary (BornFile c)) (reads_name : read name ≡ BornFile c) (w_is : w ≡ spell (Temporary (BornFile c)))
    (name_is : name ≡ spell (BornFile c)) where
  abbrev Me : Who
  Me = record { role = Collector; name = c }

  unborn_keeps : (before : History) (step : Step) (s m : Option File) → step.act.who ≡ Me → OnNext w (deed step.act)
      → Went (deed step.act) step.act.answer → Legal stamped (step ∷ before) → Unborn k (view Me before) s m → Unborn k (view Me (step ∷ before)) s m
  unborn_keeps before step s m by on went legal h =
      let sight = own_sight Me before step by (went_goes (deed step.act) step.act.answer went) in
      let alike = went_alike (BornFile c) w reads (files_after before) step.files (view Me before) (deed step.act) on step.act.answer went in
      subst (λ v. Unborn k v s m) (sym sight)
      (record { born = alike.born ∙ h.born; made = alike.made ∙ h.made; number = h.number })

  unborn_fails : (before : History) (step : Step) (s m : Option File) → step.act.who ≡ Me → OnNext w (deed step.act)
      → step.act.answer ≡ Refused Failed → Legal stamped (step ∷ before) → Unborn k (view Me before) s m → NoneMade (view Me (step ∷ before))
  unborn_fails before step s m by on failed legal h =
      ap (λ (v : View). v.made) (own_sight Me before step by (goes_failed step.act.answer failed))
      ∙ (next_born (BornFile c) w reads (files_after before) step.files (view Me before) (deed step.act) on step.act.answer).1 ∙ h.made

  renamed_made : (before : History) (step : Step) → step.act.who ≡ Me → deed step.act ≡ Renames w name → GoesOn step.act.answer
      → (view Me (step ∷ before)).made ≡ (view Me before).made
  renamed_made before step by is goes =
      ap (λ (v : View). v.made) (own_sight Me before step by goes)
      ∙ ap (λ call. (own_view (files_after before) step.files (view Me before) call step.act.answer).made) is

  born_may : (before : History) (step : Step) → step.act.who ≡ Me → deed step.act ≡ Renames w name → Honest before step → Legal stamped before
      → Unborn k (view Me before) (file (files_after before) a) (file (files_after before) (BornFile c))
      → file (files_after before) (Temporary (BornFile c)) ≡ settled (be64 (k + 1)) → RoleMay stamped step.act.who.role before step
  born_may before step by is honest legal h next =
      collector_rule stamped Me before step (Renames w name) refl by is
      (rw (reads, reads_name) (refl, h.born, published (file (files_after before) (Temporary (BornFile c))) (number_settled (k + 1) _ small next)))
    where
      published : (o : Option File) → OnFile o (λ f. IsNumber f × (spelled f.bytes ≡ k + 1))
          → OnFile o (λ f. IsNumber f × (spelled f.bytes ≡ number_in (file (files_after before) (BornFile c)) + 1))
      published None p = tt
      published (Some f) p = (p.0, p.1 ∙ ap (λ j. j + 1) (sym h.number))

  born_renamed : (before : History) (step : Step) → step.act.who ≡ Me → deed step.act ≡ Renames w name → is_done step.act.answer ≡ true
      → Legal stamped (step ∷ before) → Unborn k (view Me before) (file (files_after before) a) (file (files_after before) (BornFile c))
      → file (files_after before) (Temporary (BornFile c)) ≡ settled (be64 (k + 1))
      → file step.files (Temporary (BornFile c)) ≡ None → file step.files (BornFile c) ≡ settled (be64 (k + 1))
      → Born (k + 1) (view Me (step ∷ before)) (file step.files a) (file step.files (Temporary (BornFile c))) (file step.files (BornFile c))
  born_renamed before step by is done legal h was gone there =
      let goes = goes_is_done step.act.answer done in
      let sight = own_sight Me before step by goes in
      let published : born_after (files_after before) step.files (Renames w name) (view Me before).born ≡ Some (k + 1) =
      published_born (is_born_file (read name)) (files_after before w) (step.files w) (step.files name) (view Me before).born
      (ap is_born_file reads_name) (ap (files_after before) w_is ∙ was) (ap step.files w_is ∙ gone)
      ∙ ap Some (ap (λ o. number_in (step.files o)) name_is ∙ number_is (k + 1) (file step.files (BornFile c)) small there) in
      record {
        born = ap (λ (v : View). v.born) sight
            ∙ (ap (λ call. (own_view (files_after before) step.files (view Me before) call step.act.answer).born) is ∙ published);
        made = renamed_made before step by is goes ∙ h.made;
        number = number_is (k + 1) (file step.files (BornFile c)) small there;
      }

  -- what is to be known of the replacement of the number of starts
  born_replaces : Replaces stamped Me (view Me) a (BornFile c) w name (be64 (k + 1)) (Unborn k) NoneMade (Born (k + 1))
  born_replaces = record {
    keeps = unborn_keeps;
    less = λ v s m h. h.made;
    fails = unborn_fails;
    rename_fails = λ before step s m by is failed legal h. renamed_made before step by is (goes_failed step.act.answer failed) ∙ h.made;
    at_last = λ v s t m g. g.made;
    may = born_may;
    renamed = λ before step by is done legal h was same gone there. born_renamed before step by is done legal h was gone there;
  }

-- the number of starts is replaced by the next one
pub born_replaced : (stamped : List (List ℕ)) (c : List ℕ) (a : Name) → Target stamped (record { role = Collector; name = c })
    (view (record { role = Collector; name = c })) a (BornFile c) → (k : ℕ) → k + 1 < limit → (name : List ℕ) → name ≡ spell (BornFile c)
    → {result : Result (Unit {0}) OutsideFault} {old new : Option History}
    → MadeInTurn (replacement (record { role = Collector; name = c }) name (be64 (k + 1))) result old new
    → Adds old new (Leads (As stamped (record { role = Collector; name = c }))
    (AtPlace stamped (around (record { role = Collector; name = c }) (view (record { role = Collector; name = c })) a (BornFile c)) (Next (Unborn k) anything))
    (AtTold stamped (record { role = Collector; name = c })
    (EndedAt (record { role = Collector; name = c }) (view (record { role = Collector; name = c })) a (BornFile c) NoneMade (Born (k + 1)) result)))
born_replaced stamped c a target k small name e script =
    let me : Who = record { role = Collector; name = c } in
    let n = BornFile c in
    let next = next_word name n e in
    replaced stamped me (view me) a n target name (be64 (k + 1)) e (Unborn k) NoneMade (Born (k + 1))
    (born_replaces stamped c a target k small (tmp name) name
    (ap read next ∙ read-spell (Temporary n) target.place.second.known) (ap read e ∙ read-spell n target.place.third.known) next e) script

-- ---- a mark

-- the sink is the current one, and all of it is synced, so many bytes
pub record Marking (born : Option ℕ) (made : ℕ) (cur : Current) (size : ℕ) (v : View) (s m : Option File) : Type 0 where
  pub born_is : v.born ≡ born
  pub made_is : v.made ≡ made
  pub current : v.current ≡ Some cur
  pub synced : HasFile s (IsCommitted size)

-- the start's number and its count of sinks
pub record Started (born : Option ℕ) (made : ℕ) (v : View) : Type 0 where
  pub born_is : v.born ≡ born
  pub made_is : v.made ≡ made

-- the mark is the sink's length
pub record Marked (born : Option ℕ) (made : ℕ) (cur : Current) (size : ℕ) (v : View) (s t m : Option File) : Type 0 where
  pub marking : Marking born made cur size v s m
  pub mark : number_in m ≡ size

module _ (stamped : List (List ℕ)) (x : Stem) (target : Target stamped (record { role = Collector; name = x.collector })
    (view (record { role = Collector; name = x.collector })) (SinkFile x) (MarkFile x)) (born : Option ℕ) (made : ℕ) (cur : Current)
    (same : cur.stem ≡ x) (size : ℕ) (some : 96 ≤ size) (small : size < limit) (w name : List ℕ)
    (reads : read w ≡ Temporary (MarkFile x)) (reads_name : read name ≡ MarkFile x) where
  abbrev Us : Who
  Us = record { role = Collector; name = x.collector }

  abbrev B : View → Option File → Option File → Type 0
  B v s m = Marking born made cur size v s m

  as_before : (v u : View) (s m m' : Option File) → Alike v u → B v s m → B u s m'
  as_before v u s m m' alike h = record {
    born_is = alike.born ∙ h.born_is;
    made_is = alike.made ∙ h.made_is;
    current = alike.current ∙ h.current;
    synced = h.synced;
  }

  marking_keeps : (before : History) (step : Step) (s m : Option File) → step.act.who ≡ Us → OnNext w (deed step.act)
      → Went (deed step.act) step.act.answer → Legal stamped (step ∷ before) → B (view Us before) s m → B (view Us (step ∷ before)) s m
  marking_keeps before step s m by on went legal h =
      subst (λ v. B v s m) (sym (own_sight Us before step by (went_goes (deed step.act) step.act.answer went)))
      (as_before (view Us before) _ s m m
      (went_alike (MarkFile x) w reads (files_after before) step.files (view Us before) (deed step.act) on step.act.answer went) h)

  marking_fails : (before : History) (step : Step) (s m : Option File) → step.act.who ≡ Us → OnNext w (deed step.act)
      → step.act.answer ≡ Refused Failed → Legal stamped (step ∷ before) → B (view Us before) s m → Started born made (view Us (step ∷ before))
  marking_fails before step s m by on failed legal h =
      let sight = own_sight Us before step by (goes_failed step.act.answer failed) in
      let kept = next_born (MarkFile x) w reads (files_after before) step.files (view Us before) (deed step.act) on step.act.answer in
      record {
        born_is = ap (λ (v : View). v.born) sight ∙ (kept.0 ∙ h.born_is);
        made_is = ap (λ (v : View). v.made) sight ∙ (kept.1 ∙ h.made_is);
      }

  -- what the rename of a mark leaves of the view
  renamed_view : (before : History) (step : Step) → step.act.who ≡ Us → deed step.act ≡ Renames w name → GoesOn step.act.answer
      → view Us (step ∷ before) ≡ own_view (files_after before) step.files (view Us before) (Renames w name) step.act.answer
  renamed_view before step by is goes =
      own_sight Us before step by goes ∙ ap (λ call. own_view (files_after before) step.files (view Us before) call step.act.answer) is

  mark_rename_fails : (before : History) (step : Step) (s m : Option File) → step.act.who ≡ Us → deed step.act ≡ Renames w name
      → step.act.answer ≡ Refused Failed → Legal stamped (step ∷ before) → B (view Us before) s m → Started born made (view Us (step ∷ before))
  mark_rename_fails before step s m by is failed legal h =
      subst (Started born made) (sym (renamed_view before step by is (goes_failed step.act.answer failed)))
      (record { born_is = rw reads_name h.born_is; made_is = h.made_is })

  renamed_alike : (before after : Files) (v : View) (answer : ActAnswer) → is_done answer ≡ true → Alike v (own_view before after v (Renames w name) answer)
  renamed_alike before after v (Done words number of) done =
      record { born = rw reads_name refl; made = refl; current = rw reads_name (still_well (Some x) v.current) }
  renamed_alike before after v (Refused fault) done = absurd (true≢false (sym done))
  renamed_alike before after v (Stopped left) done = absurd (true≢false (sym done))
  renamed_alike before after v (Rotated suffix) done = absurd (true≢false (sym done))
  renamed_alike before after v (Deleted suffix) done = absurd (true≢false (sym done))

  is_current : (v : View) → v.current ≡ Some cur → IsCurrent v.current x (λ c. Unit {0})
  is_current v e = subst (λ o. IsCurrent o x (λ c. Unit {0})) (sym e) (same, tt)

  committed_as : (o : Option File) (v : View) (k : ℕ) → k ≡ size → v.current ≡ Some cur → HasFile o (IsCommitted size)
      → HasFile o (λ g. IsCommitted k g × IsCurrent v.current x (λ c. Unit {0}))
  committed_as None v k e c h = absurd h
  committed_as (Some g) v k e c h = (subst (λ k. IsCommitted k g) (sym e) h, is_current v c)

  mark_may : (before : History) (step : Step) → step.act.who ≡ Us → deed step.act ≡ Renames w name → Honest before step → Legal stamped before
      → B (view Us before) (file (files_after before) (SinkFile x)) (file (files_after before) (MarkFile x))
      → file (files_after before) (Temporary (MarkFile x)) ≡ settled (be64 size) → RoleMay stamped step.act.who.role before step
  mark_may before step by is honest legal h next =
      collector_rule stamped Us before step (Renames w name) refl by is
      (rw (reads, reads_name) (refl, published (file (files_after before) (Temporary (MarkFile x))) (number_settled size _ small next)))
    where
      published : (o : Option File) → OnFile o (λ f. IsNumber f × (spelled f.bytes ≡ size))
          → OnFile o (λ f. IsNumber f × (96 ≤ spelled f.bytes) × HasFile (file (files_after before) (SinkFile x))
          (λ g. IsCommitted (spelled f.bytes) g × IsCurrent (view Us before).current x (λ c. Unit {0})))
      published None p = tt
      published (Some f) p =
          let e : spelled f.bytes ≡ size = p.1 in
          (p.0, omega (arith, e), committed_as (file (files_after before) (SinkFile x)) (view Us before) (spelled f.bytes) e h.current h.synced)

  mark_replaces : Replaces stamped Us (view Us) (SinkFile x) (MarkFile x) w name (be64 size) B (Started born made) (Marked born made cur size)
  mark_replaces = record {
    keeps = marking_keeps;
    less = λ v s m h. record { born_is = h.born_is; made_is = h.made_is };
    fails = marking_fails;
    rename_fails = mark_rename_fails;
    at_last = λ v s t m g. record { born_is = g.marking.born_is; made_is = g.marking.made_is };
    may = mark_may;
    renamed = λ before step by is done legal h was sink_same gone there.
        let moved = as_before (view Us before) _ (file (files_after before) (SinkFile x)) _ (file step.files (MarkFile x))
        (renamed_alike (files_after before) step.files (view Us before) step.act.answer done) h in
        record {
          marking = subst (λ s. B (view Us (step ∷ before)) s (file step.files (MarkFile x))) (sym (sink_same refl))
              (subst (λ v. B v (file (files_after before) (SinkFile x)) (file step.files (MarkFile x)))
              (sym (renamed_view before step by is (goes_is_done step.act.answer done))) moved);
          mark = number_is size (file step.files (MarkFile x)) small there;
        };
  }

-- the mark of the current sink is replaced by its length
pub mark_replaced : (stamped : List (List ℕ)) (x : Stem) → Target stamped (record { role = Collector; name = x.collector })
    (view (record { role = Collector; name = x.collector })) (SinkFile x) (MarkFile x)
    → (born : Option ℕ) (made : ℕ) (cur : Current) → cur.stem ≡ x → (size : ℕ) → 96 ≤ size → size < limit
    → (name : List ℕ) → name ≡ spell (MarkFile x) → {result : Result (Unit {0}) OutsideFault} {old new : Option History}
    → MadeInTurn (replacement (record { role = Collector; name = x.collector }) name (be64 size)) result old new
    → Adds old new (Leads (As stamped (record { role = Collector; name = x.collector }))
    (AtPlace stamped (around (record { role = Collector; name = x.collector }) (view (record { role = Collector; name = x.collector })) (SinkFile x) (MarkFile x))
    (Next (Marking born made cur size) anything))
    (AtTold stamped (record { role = Collector; name = x.collector })
    (EndedAt (record { role = Collector; name = x.collector }) (view (record { role = Collector; name = x.collector })) (SinkFile x) (MarkFile x)
    (Started born made) (Marked born made cur size) result)))
mark_replaced stamped x target born made cur same size some small name e script =
    let me : Who = record { role = Collector; name = x.collector } in
    let n = MarkFile x in
    let next = next_word name n e in
    replaced stamped me (view me) (SinkFile x) n target name (be64 size) e (Marking born made cur size) (Started born made) (Marked born made cur size)
    (mark_replaces stamped x target born made cur same size some small (tmp name) name
    (ap read next ∙ read-spell (Temporary n) target.place.second.known) (ap read e ∙ read-spell n target.place.third.known)) script

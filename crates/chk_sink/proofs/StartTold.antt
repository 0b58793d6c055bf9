-- What the calls of a start lead to.
use Rattle.std.proofs.Common.{◌≡◌, inl, ℕ, ◌+◌, ◌<◌, List, [], ◌∷◌, Option, Some, None, Result, Ok, Err, ap, sym, subst, ◌∙◌, refl, arith, if◌then◌else◌}
use Rattle.std.specs.Prelude.{IsTrue, IfOk}
use Rattle.std.proofs.lemmas.Bool.{and_from}
use Rattle.std.proofs.lemmas.Option.{same_Some}
use Rattle.chk_bytes.specs.Numbers.{spelled, limit, be64}
use Rattle.chk_bytes.specs.Stems.{Stem, is_stem, is_collector}
use Rattle.chk_site.specs.declared.acts.Role.TheVariants.{Collector}
use Rattle.chk_site.specs.declared.acts.Who.{Who}
use Rattle.chk_site.specs.declared.acts.Call.TheVariants.{Start, Read}
use Rattle.chk_site.specs.declared.acts.CallFault.TheVariants.{Failed}
use Rattle.chk_site.specs.declared.acts.OutsideFault.{OutsideFault}
use Rattle.chk_site.specs.declared.acts.OutsideFault.TheVariants.{Outside, NoMemory as no_memory}
use Rattle.chk_site.specs.declared.acts.ActAnswer.{ActAnswer}
use Rattle.chk_site.specs.declared.acts.ActAnswer.TheVariants.{Refused, Stopped}
use Rattle.chk_site.specs.Files.{File}
use Rattle.chk_site.specs.History.{History, files_after}
use Rattle.chk_site.specs.Honest.{AtRead}
use Rattle.chk_site.specs.Site.{Adds, Asked, asked, own_step, plain, bytes_given, WasDone, Took}
use Rattle.chk_site.specs.Runs.{HasStarted, Leads, MadeInTurn}
use Rattle.chk_site.proofs.Runs.{adds_as, done_answer}
use Rattle.chk_site.proofs.Leads.{Shows, leads_then, leads_as, ends_leads}
use Rattle.chk_replace.specs.Replace.{replacement}
use Rattle.chk_world.specs.Names.{BornFile, SinkFile, spell, file}
use Rattle.chk_world.specs.Committed.{OnFile, IsNumber, number_in}
use Rattle.chk_world.specs.Collectors.{View, view}
use Rattle.chk_world.specs.Rules.{Legal}
use Rattle.chk_world.specs.Places.{As, AtTold, Place, SeenAt, IsPlace}
use Rattle.chk_world.proofs.Law.{shape}
use Rattle.chk_world.proofs.OwnFiles.{looked_file}
use Rattle.chk_world.proofs.PlacesStay.{Stays, seen_stays}
use Rattle.chk_world.proofs.Replacing.{Target, around, Next, anything, EndedAt}
use Rattle.chk_world.proofs.ToldCalls.{MayCall, LeavesCall, goes_on_done, goes_on_taken, told_taken, told_ends, told_start, owned}
use Rattle.chk_world.proofs.CollectorCalls.{own_sight, collector_target, Unborn, NoneMade, Born, born_replaced}
use Rattle.chk_sink.specs.Calls.{MadeOnce}
use Rattle.chk_sink.specs.Faults.{sink_fault}
use Rattle.chk_sink.specs.declared.fault.SinkFault.{SinkFault}
use Rattle.chk_sink.proofs.Holding.{told_by}
use Rattle.chk_sink.proofs.Putting.{the_collector}
use Rattle.chk_sink.proofs.NumberBytes.{read_whole, number_good, refused_done, missing_read}
use Rattle.chk_sink.specs.Starting.{start_number, ReadsNumber, HasLooked, Looked, Published}

took_done : (taken : Option (List ℕ)) (answer : ActAnswer) → Took bytes_given taken answer → WasDone answer
took_done (Some bytes) answer took = subst WasDone (sym took) tt
took_done None answer took = refused_done answer took

-- what an honest read gives of the file is its number
number_given : (taken : Option (List ℕ)) (answer : ActAnswer) (o : Option File) → Took bytes_given taken answer → AtRead answer 0 9 o
    → OnFile o IsNumber → start_number taken ≡ Some (number_in o)
number_given (Some bytes) answer None took agrees sound = absurd (subst (λ a. AtRead a 0 9 None) took agrees)
number_given (Some bytes) answer (Some f) took agrees sound =
    let at = subst (λ a. AtRead a 0 9 (Some f)) took agrees in
    let same : bytes ≡ f.bytes = read_whole bytes f at.1 sound.1 in
    ap (λ b. start_number (Some b)) same ∙ ap (λ b. if b then Some (spelled f.bytes) else None) (number_good 0 f.bytes sound.1 (omega arith) sound.2)
number_given None answer o took agrees sound = rw (missing_read answer 9 o took agrees) refl

-- after a call of the outside that ended the work the history is legal
pub legal_published : (stamped : List (List ℕ)) (who : Who) (fault : OutsideFault) (h : History) → Legal stamped h
    → Published stamped who (Err (sink_fault fault)) h
legal_published stamped who (Outside call) h legal = legal
legal_published stamped who no_memory h legal = legal

-- what the publishing of this number comes to
abbrev pub published_as : ℕ → Result (Unit {0}) OutsideFault → Result ℕ SinkFault
published_as born (Ok value) = Ok born
published_as born (Err fault) = Err (sink_fault fault)

module _ (stamped : List (List ℕ)) (c : List ℕ) (named : IsTrue (is_collector c)) where
  abbrev Me : Who
  Me = record { role = Collector; name = c }

  -- a sink of the collector, and its number of starts
  abbrev X : Stem
  X = record { collector = c; born = 1; number = 1 }

  good : IsTrue (is_stem X)
  good = and_from _ _ named refl

  abbrev P : Place View
  P = around Me (view Me) (SinkFile X) (BornFile c)

  place : IsPlace P
  place = record {
    named = named;
    first = record { own = refl; known = good };
    second = record { own = refl; known = named };
    third = record { own = refl; known = named };
  }

  target : Target stamped Me (view Me) (SinkFile X) (BornFile c)
  target = collector_target stamped Me (SinkFile X) (BornFile c) place refl refl

  -- nothing was done since the start
  abbrev Unstarted : View → Option File → Option File → Option File → Type 0
  Unstarted v s t m = (v.born ≡ None) × (v.made ≡ 0)

  abbrev Begun : History → Type 0
  Begun history = SeenAt P Unstarted history

  begun_stays : Stays stamped Me Begun
  begun_stays = seen_stays stamped P Unstarted place target.sight

  abbrev StartQ : Asked
  StartQ = asked Me Start [] 0 0

  start_shows : (answer : ActAnswer) → Shows (Legal stamped) (Legal stamped) StartQ answer
  start_shows answer before files logs running honest legal = (
    legal,
    record { honest = honest; named = named; starts = tt; own_files = tt; logs = tt; requests = tt; rule = tt },
  )

  -- the start of the process
  begin_done : (u : Unit {0}) {old new : Option History} → MadeOnce StartQ (Ok u) old new
      → Adds old new (Leads (As stamped Me) (Legal stamped) (AtTold stamped Me Begun))
  begin_done u m =
      told_start stamped Me Begun m.given named
      (λ before answer files logs was legal.
      let sight = own_sight Me before (own_step StartQ answer files logs) refl (goes_on_done answer was) in
      (ap (λ (v : View). v.born) sight, ap (λ (v : View). v.made) sight))
      m.came m.told

  begin_ended : (fault : OutsideFault) {old new : Option History} → MadeOnce StartQ (Err fault) old new
      → Adds old new (Leads (As stamped Me) (Legal stamped) (Legal stamped))
  begin_ended fault m =
      ends_leads (λ f. Legal stamped) plain m.given fault (owned stamped StartQ named) m.came (λ before step theirs f h. (h, f.obeys))
      (start_shows (Refused Failed)) (λ left. start_shows (Stopped left)) (λ before stopped h. h) (λ before h. h) m.told

  module _ (name : List ℕ) (name_is : name ≡ spell (BornFile c)) where
    abbrev ReadQ : Asked
    ReadQ = asked Me Read (name ∷ []) 0 9

    read_may : MayCall stamped ReadQ named Begun
    read_may before answer files logs legal h = record { own_files = tt; logs = tt; requests = tt; rule = tt }

    read_leaves : (taken : Option (List ℕ)) (number : Option ℕ) → number ≡ start_number taken
        → LeavesCall stamped ReadQ named Begun (Took bytes_given taken) (HasLooked Me number)
    read_leaves taken number is before answer files logs took legal h =
        let step = own_step ReadQ answer files logs in
        let sight = own_sight Me before step refl (goes_on_taken bytes_given taken answer (λ v. tt) took) in
        let sound = (shape stamped before legal.0 X good).born in
        let agrees : AtRead answer 0 9 (file (files_after before) (BornFile c)) =
        subst (λ w. AtRead answer 0 9 (files_after before w)) name_is legal.1.honest.agrees in
        let same = looked_file before step (BornFile c) legal.1.honest refl (took_done taken answer took) in
        record {
          born = ap (λ (v : View). v.born) sight ∙ h.0;
          made = ap (λ (v : View). v.made) sight ∙ h.1;
          is = is ∙ (number_given taken answer _ took agrees sound ∙ ap (λ o. Some (number_in o)) (sym same));
        }

    read_looked : (result : Result (Option ℕ) OutsideFault) {old new : Option History} → ReadsNumber Me name result old new
        → Adds old new (Leads (As stamped Me) (AtTold stamped Me Begun) (Looked stamped Me result))
    read_looked (Ok number) m =
        told_taken stamped ReadQ named Begun (HasLooked Me number) bytes_given m.given m.came.taken begun_stays read_may (λ v. tt)
        (read_leaves m.came.taken number m.came.is) m.came.is_taken m.told
    read_looked (Err fault) m =
        leads_as (λ h x. x) (λ h x. x.legal)
        (told_ends stamped ReadQ named Begun (λ f h. Unit {0}) bytes_given m.given fault begun_stays read_may
        (λ before answer files logs failed legal h. tt) (λ h x. tt) m.came m.told)

    looked_me : (u : Unit {0}) (result : Result (Option ℕ) OutsideFault) {old mid new : Option History} → MadeOnce StartQ (Ok u) old mid
        → ReadsNumber Me name result mid new → Adds old new (Leads (As stamped Me) (Legal stamped) (Looked stamped Me result))
    looked_me u result m r = leads_then (begin_done u m) (read_looked result r)

    -- the next number is published where the last one was looked up
    looked_next : (last : ℕ) (h : History) → HasLooked Me (Some last) h → SeenAt P (Next (Unborn last) anything) h
    looked_next last h x = record {
      base = record { born = x.born; made = x.made; number = same_Some _ _ (sym x.is) };
      next = tt;
    }

    publishes : (last : ℕ) → last + 1 < limit → (result : Result (Unit {0}) OutsideFault) {old new : Option History}
        → MadeInTurn (replacement Me name (be64 (last + 1))) result old new
        → Adds old new (Leads (As stamped Me) (AtTold stamped Me (HasLooked Me (Some last))) (Published stamped Me (published_as (last + 1) result)))
    publishes last small result script =
        leads_as (λ h x. told_by h (looked_next last h) x) (at_end result)
        (born_replaced stamped c (SinkFile X) target last small name name_is script)
      where
        at_end : (result : Result (Unit {0}) OutsideFault) (h : History)
            → AtTold stamped Me (EndedAt Me (view Me) (SinkFile X) (BornFile c) NoneMade (Born (last + 1)) result) h
            → Published stamped Me (published_as (last + 1) result) h
        at_end (Ok value) h x = told_by h (λ e. record { born_is = e.born; made = e.made }) x
        at_end (Err fault) h x = legal_published stamped Me fault h x.legal

-- ---- the same of a process that is a collector

pub unbegun_told : (stamped : List (List ℕ)) (fault : OutsideFault) {old new : Option History} (who : Who) → who.role ≡ Collector
    → IsTrue (is_collector who.name) → MadeOnce (asked who Start [] 0 0) (Err fault) old new
    → Adds old new (Leads (As stamped who) (Legal stamped) (Looked stamped who (Err fault)))
unbegun_told stamped fault who role named m =
    let me = the_collector who who.name role refl in
    rw me (begin_ended stamped who.name named fault (rw me at m))

pub looked_told : (stamped : List (List ℕ)) (name : List ℕ) (u : Unit {0}) (result : Result (Option ℕ) OutsideFault) {old mid new : Option History}
    (who : Who) → who.role ≡ Collector → IsTrue (is_collector who.name) → name ≡ spell (BornFile who.name)
    → MadeOnce (asked who Start [] 0 0) (Ok u) old mid → ReadsNumber who name result mid new
    → Adds old new (Leads (As stamped who) (Legal stamped) (Looked stamped who result))
looked_told stamped name u result who role named name_is m r =
    let me = the_collector who who.name role refl in
    rw me (looked_me stamped who.name named name name_is u result (rw me at m) (rw me at r))

pub published_told : (stamped : List (List ℕ)) (name : List ℕ) (last : ℕ) → last + 1 < limit → (result : Result (Unit {0}) OutsideFault)
    {old new : Option History} (who : Who) → who.role ≡ Collector → IsTrue (is_collector who.name) → name ≡ spell (BornFile who.name)
    → MadeInTurn (replacement who name (be64 (last + 1))) result old new
    → Adds old new (Leads (As stamped who) (AtTold stamped who (HasLooked who (Some last))) (Published stamped who (published_as (last + 1) result)))
published_told stamped name last small result who role named name_is script =
    let me = the_collector who who.name role refl in
    rw me (publishes stamped who.name named name name_is last small result (rw me at script))

-- a start begins with the start of its process
pub start_begun : (who : Who) {old new : Option History} → MadeOnce (asked who Start [] 0 0) (Ok tt) old new → Adds old new (HasStarted who)
start_begun who m =
    adds_as (HasStarted who) m.told
    (λ added history calls.
    let acted = (done_answer m.given m.came calls).2 in
    subst (λ (a : History). HasStarted who a history) (sym acted.added_is) (inl (refl, refl)))

pub if_ok : {T E : Type 0} (P : Type 0) (result : Result T E) → P → IfOk result (λ value. P)
if_ok P (Ok value) p = p
if_ok P (Err e) p = tt

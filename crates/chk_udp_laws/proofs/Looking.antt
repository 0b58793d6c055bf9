-- What a start leads to.
use Rattle.std.proofs.Common.{◌≡◌, ◌⊎◌, inl, inr, ℕ, ◌≤◌, ◌==◌, Bool, true, false, List, [], ◌∷◌, ◌++◌, length, take, Option, Some, None, Result, Ok, Err, refl, sym, ◌∙◌, ap, subst, arith, append-nil, true≢false}
use Rattle.std.specs.Prelude.{nat_lt}
use Rattle.std.proofs.lemmas.Bool.{lt-ltb, false_from_ne_true, ltb-true, eqb-true}
use Rattle.std.proofs.lemmas.Option.{same_Some}
use Rattle.chk_bytes.specs.Numbers.{be64, spelled, limit}
use Rattle.chk_site.specs.declared.acts.Call.{Call}
use Rattle.chk_site.specs.declared.acts.Call.TheVariants.{Start, Read, Size, Cut, Rename, Remove}
use Rattle.chk_site.specs.declared.acts.CallFault.TheVariants.{Failed, Missing, Exists, Short, NoMemory}
use Rattle.chk_site.specs.declared.acts.ActAnswer.{ActAnswer}
use Rattle.chk_site.specs.declared.acts.ActAnswer.TheVariants.{Done, Refused, Stopped, Rotated, Deleted}
use Rattle.chk_site.specs.declared.acts.OutsideFault.{OutsideFault}
use Rattle.chk_site.specs.Files.{File, Files}
use Rattle.chk_site.specs.Acts.{deed_by, tail_in}
use Rattle.chk_site.specs.History.{History, files_after}
use Rattle.chk_site.specs.Honest.{Honest, AtRead, AtSize}
use Rattle.chk_site.specs.Logs.{Logs}
use Rattle.chk_site.specs.Runs.{Leads, MadeInTurn}
use Rattle.chk_site.specs.Site.{Adds, Asked, own_step, bytes_given, sized, WasDone, WasRefused, Took}
use Rattle.chk_site.proofs.Leads.{leads_then, leads_as, leads_none, Keeps, Shows, taken_leads, ends_leads}
use Rattle.chk_site.proofs.Stays.{unnamed_stays}
use Rattle.chk_site.proofs.Runs.{adds_as}
use Rattle.chk_site.proofs.Leads.{script_owned, AllOwned}
use Rattle.chk_replace.specs.Replace.{whole}
use Rattle.chk_wahead.specs.declared.fault.WaheadFault.{WaheadFault}
use Rattle.chk_wahead.specs.Names.{writer}
use Rattle.chk_wahead.specs.Starting.{is_number, found_of, plan_of, settling, number_in}
use Rattle.chk_wahead.specs.States.{State, last_number}
use Rattle.chk_wahead.specs.Telling.{TakenOnce, Looks, unstarted as unstarted_look, no_number, no_mark, no_size, looked, Starts, unbegun, unlooked, damaged, unnamed, settled, start_result, starting}
use Rattle.chk_udp_laws.specs.Marked.{Tally, tally, took, joined, IsPart, forgotten}
use Rattle.chk_udp_laws.specs.Histories.{NextTemporary, IsApart}
use Rattle.chk_udp_laws.proofs.Naming.{B, M, N, C}
use Rattle.chk_udp_laws.proofs.Standing.{Numbered, MarkFits, small_spelled, stands_as}
use Rattle.chk_udp_laws.proofs.Steps.{At, Some_at, Untouched, at_untouched}
use Rattle.chk_udp_laws.proofs.Parts.{part_front}
use Rattle.chk_udp_laws.proofs.Phases.{View, Anything, mine, All, now, view, Plain, S, owned, keeps, keeps_all, view_as, tally_own, took_own, Move, Walk, rest, step_on, Ends, walk_leads}
use Rattle.chk_udp_laws.proofs.Moves.{Quiet, any_away, reaches}
use Rattle.chk_udp_laws.proofs.Marking.{Idle, Closing}
use Rattle.chk_udp_laws.proofs.Ending.{Dropping, Cutting, shutting_walk, unmark_move, drop_move, cut_move}

-- ---- what was read

abbrev Saw : Option (List ℕ) → Option File → Type 0
Saw None o = o ≡ None
Saw (Some bytes) o = (f : File) × (o ≡ Some f) × (bytes ≡ take 9 f.bytes)

read_done : (bytes : List ℕ) (o : Option File) → AtRead (bytes_given bytes) 0 9 o
    → Saw (Some bytes) o
read_done bytes None agrees = absurd agrees
read_done bytes (Some f) agrees =
    let same : bytes ∷ [] ≡ take 9 f.bytes ∷ [] = agrees.1 in
    let is : bytes ≡ take 9 f.bytes = cc in
    (f, refl, is)

read_refused : (answer : ActAnswer) (o : Option File) → WasRefused answer → AtRead answer 0 9 o
    → o ≡ None
read_refused (Refused Missing) o was agrees = agrees
read_refused (Refused (Short size)) None was agrees = refl
read_refused (Refused (Short size)) (Some f) was agrees = absurd (let z : ⊥ =
    omega (arith, agrees.0) in z)
read_refused (Refused Exists) o was agrees = absurd agrees
read_refused (Refused Failed) o was agrees = absurd was
read_refused (Refused NoMemory) o was agrees = absurd was
read_refused (Done words number of) o was agrees = absurd was
read_refused (Stopped left) o was agrees = absurd was
read_refused (Rotated suffix) o was agrees = absurd was
read_refused (Deleted suffix) o was agrees = absurd was

read_saw : (taken : Option (List ℕ)) (answer : ActAnswer) (o : Option File)
    → Took bytes_given taken answer → AtRead answer 0 9 o → Saw taken o
read_saw None answer o came agrees = read_refused answer o came agrees
read_saw (Some bytes) answer o came agrees =
    read_done bytes o (subst (λ a. AtRead a 0 9 o) came agrees)

abbrev SizeSaw : Option ℕ → Option File → Type 0
SizeSaw size None = size ≡ None
SizeSaw size (Some f) = size ≡ Some (length f.bytes)

size_done : (size : ℕ) (o : Option File) → AtSize (sized size) o → SizeSaw (Some size) o
size_done size None agrees = absurd agrees
size_done size (Some f) agrees = ap Some agrees

size_refused : (answer : ActAnswer) (o : Option File) → WasRefused answer → AtSize answer o
    → SizeSaw None o
size_refused (Refused Missing) o was agrees = subst (SizeSaw None) (sym agrees) refl
size_refused (Refused (Short size)) o was agrees = absurd agrees
size_refused (Refused Exists) o was agrees = absurd agrees
size_refused (Refused Failed) o was agrees = absurd was
size_refused (Refused NoMemory) o was agrees = absurd was
size_refused (Done words number of) o was agrees = absurd was
size_refused (Stopped left) o was agrees = absurd was
size_refused (Rotated suffix) o was agrees = absurd was
size_refused (Deleted suffix) o was agrees = absurd was

size_saw : (taken : Option ℕ) (answer : ActAnswer) (o : Option File) → Took sized taken answer
    → AtSize answer o → SizeSaw taken o
size_saw None answer o came agrees = size_refused answer o came agrees
size_saw (Some size) answer o came agrees = size_done size o (subst (λ a. AtSize a o) came agrees)

-- 8 bytes of a number are it
number_is : (k : ℕ) → k ≤ last_number → is_number (be64 k) ≡ true
number_is k low =
    let small : nat_lt k limit ≡ true = lt-ltb k limit (omega (arith, low)) in
    rw (small_spelled k low, small) refl

abbrev NextSaw : Option (List ℕ) → ℕ → Type 0
NextSaw None k = k ≡ 0
NextSaw (Some bytes) k = bytes ≡ be64 k

bytes_saw : (f g : File) (bytes : List ℕ) (k : ℕ) → Some f ≡ Some g → bytes ≡ take 9 g.bytes
    → f ≡ whole (be64 k) → bytes ≡ be64 k
bytes_saw f g bytes k same is from = is
    ∙ ap (λ (h : File). take 9 h.bytes) (sym (same_Some f g same) ∙ from)

next_saw : (next : Option (List ℕ)) (o : Option File) (k : ℕ) → Numbered k o → Saw next o
    → NextSaw next k
next_saw None None k is saw = is
next_saw None (Some f) k is saw = absurd (cc)
next_saw (Some bytes) None k is saw = absurd (let z : ◌≡◌ {A = Option File} None (Some saw.0) =
    saw.1 in cc)
next_saw (Some bytes) (Some f) k is saw = bytes_saw f saw.0 bytes k saw.1 saw.2 is

-- the mark that was read
pub record MarkIn (bytes : List ℕ) (o : Option File) : Type 0 where
  pub size : ℕ
  pub there : o ≡ Some (whole (be64 size))
  pub some : 1 ≤ size
  pub low : size ≤ last_number
  pub is : bytes ≡ be64 size

abbrev MarkSaw : Option (List ℕ) → Option File → Type 0
MarkSaw None o = o ≡ None
MarkSaw (Some bytes) o = MarkIn bytes o

mark_saw : (taken : Option (List ℕ)) (o b : Option File) → MarkFits o b → Saw taken o
    → MarkSaw taken o
mark_saw None o b fits saw = saw
mark_saw (Some bytes) None b fits saw = absurd (let z : ◌≡◌ {A = Option File} None (Some saw.0) =
    saw.1 in cc)
mark_saw (Some bytes) (Some g) b fits saw = record {
  size = fits.size;
  there = ap Some fits.is;
  some = fits.some;
  low = fits.low;
  is = bytes_saw g saw.0 bytes fits.size saw.1 saw.2 fits.is;
}

-- the number that was read
abbrev number_read : Option (List ℕ) → ℕ
number_read None = 0
number_read (Some bytes) = spelled bytes

size_none : (o : Option File) → SizeSaw None o → o ≡ None
size_none None saw = refl
size_none (Some f) saw = absurd (cc)

size_some : (size : ℕ) (o : Option File) → SizeSaw (Some size) o
    → (f : File) × (o ≡ Some f) × (size ≡ length f.bytes)
size_some size None saw = absurd (cc)
size_some size (Some f) saw = (f, refl, same_Some size (length f.bytes) saw)

refused_tail : (answer : ActAnswer) (name : List ℕ) → WasRefused answer → tail_in answer name ≡ None
refused_tail (Refused fault) name was = refl
refused_tail (Done words number of) name was = refl
refused_tail (Stopped left) name was = absurd was
refused_tail (Rotated suffix) name was = refl
refused_tail (Deleted suffix) name was = refl

took_tail : {V : Type 0} (how : V → ActAnswer) (taken : Option V) (answer : ActAnswer)
    (name : List ℕ)
    → ((value : V) → tail_in (how value) name ≡ None) → Took how taken answer
    → tail_in answer name ≡ None
took_tail how None answer name none came = refused_tail answer name came
took_tail how (Some value) answer name none came = ap (λ a. tail_in a name) came ∙ none value

same_bool : (a b : Bool) → (a ≡ b) ⊎ ((a ≡ b) → ⊥)
same_bool true true = inl refl
same_bool false false = inl refl
same_bool true false = inr (λ e. true≢false e)
same_bool false true = inr (λ e. true≢false (sym e))

module _ (n : List ℕ) where
  -- the files stand with some number, of which this is known
  pub record Begun (P : ℕ → Type 0) (E : View → Type 0) (h : History) : Type 0 where
    pub number : ℕ
    pub is : P number
    pub phase : Plain n number E h

  keeps_begun : (P : ℕ → Type 0) (E : View → Type 0) → Keeps (IsApart n) (Begun P E)
  keeps_begun P E before step theirs apart b =
      record {
        number = b.number;
        is = b.is;
        phase =
            keeps n b.number E NextTemporary Anything before step theirs apart b.phase;
      }

  abbrev Any : ℕ → Type 0
  Any k = Unit {0}

  abbrev Fresh : View → Type 0
  Fresh v = joined v.tally.unsaved ≡ []

  -- ---- the start

  start_move : Move n (mine n Start [] 0 0) (All n) (Begun Any Fresh)
  start_move = record { any = any; done = done; weak = λ h a. a; keeps = keeps_all n }
    where
      Q : Asked
      Q = mine n Start [] 0 0

      tally_is : (answer : ActAnswer) (files : Files) (logs : Logs) (h : History)
          → tally n (own_step Q answer files logs ∷ h) ≡ forgotten (tally n h)
      tally_is answer files logs h = tally_own n Start [] 0 0 answer files logs h

      took_is : (answer : ActAnswer) (files : Files) (logs : Logs) (h : History)
          → took n (own_step Q answer files logs ∷ h) ≡ took n h
      took_is answer files logs h = took_own n Start [] 0 0 answer files logs h
          ∙ append-nil (took n h)

      away : Untouched n (deed_by Start [] 0 0)
      away = record { next = refl; buffer = refl; mark = refl; closed = λ j low. refl }

      any : (answer : ActAnswer) → Shows (All n) (All n) Q answer
      any answer before files logs running honest a =
          let k = now n before a in
          let t = tally n before in (
            a,
            record {
              stands =
                  subst (λ (u : Tally). Some_at n files (joined u.saved))
                  (sym (tally_is answer files logs before))
                  (record {
                    number = k.stands.number;
                    stands = at_untouched n before (own_step Q answer files logs) k.stands.number _
                        honest.modelled away k.stands.stands;
                  });
              part =
                  subst (λ (u : Tally). IsPart (u.saved ++ u.unsaved)
                  (took n (own_step Q answer files logs ∷ before)))
                  (sym (tally_is answer files logs before))
                  (subst (λ l. IsPart (t.saved ++ []) l) (sym (took_is answer files logs before))
                  (subst (λ l. IsPart l (took n before)) (sym (append-nil t.saved))
                  (part_front t.saved t.unsaved k.part)));
            },
          )

      done : (answer : ActAnswer) → WasDone answer → Shows (All n) (Begun Any Fresh) Q answer
      done answer was before files logs running honest a =
          let k = now n before a in
          record {
            number = k.stands.number;
            is = tt;
            phase = record {
              all = any answer before files logs running honest a;
              at =
                  subst (λ (u : Tally). At n files k.stands.number (joined u.saved))
                  (sym (tally_is answer files logs before))
                  (at_untouched n before (own_step Q answer files logs) k.stands.number _
                  honest.modelled away k.stands.stands);
              fits = subst (λ (u : Tally). joined u.unsaved ≡ [])
                  (sym (tally_is answer files logs before)) refl;
              next = tt;
            };
          }

  start_walk : Walk n (starting (writer n)) (All n) (Begun Any Fresh)
  start_walk = step_on start_move (rest (λ h b. b.phase.all))

  -- ---- a look

  module _ {V : Type 0} (call : Call) (words : List (List ℕ)) (number max : ℕ) (how : V → ActAnswer)
      (quiet : Quiet n (deed_by call words number max))
      (away : Untouched n (deed_by call words number max))
      (no_tail : (value : V) (name : List ℕ) → tail_in (how value) name ≡ None) where
    abbrev Q : Asked
    Q = mine n call words number max

    any_look : (P : ℕ → Type 0) (E : View → Type 0) (answer : ActAnswer)
        → Shows (Begun P E) (All n) Q answer
    any_look P E answer before files logs running honest b =
        any_away n call words number max quiet {A =
        Begun P E} (λ h b. b.phase.all) away answer before files logs running honest b

    -- the call gave this, and more is known
    look_on : (P P' : ℕ → Type 0) (E E' : View → Type 0) (taken : Option V)
        {old new : Option History}
        → ((answer : ActAnswer) → Took how taken answer
        → (before : History) (files : Files) (logs : Logs)
        → Honest before (own_step Q answer files logs) → (b : Begun P E before)
        → P' b.number × E' (view n before))
        → TakenOnce Q how (Ok taken) old new → Adds old new (Leads (S n) (Begun P E) (Begun P' E'))
    look_on P P' E E' taken fact t =
        taken_leads how t.given taken (owned n Q) t.came (keeps_begun P E)
        (λ answer came before files logs running honest b.
        let step = own_step Q answer files logs in
        let more = fact answer came before files logs honest b in
        let at_b = unnamed_stays before step (B n) honest.modelled away.buffer
        (took_tail how taken answer (B n) (λ v. no_tail v (B n)) came) in
        let at_m = unnamed_stays before step (M n) honest.modelled away.mark
        (took_tail how taken answer (M n) (λ v. no_tail v (M n)) came) in
        record {
          number = b.number;
          is = more.0;
          phase =
              reaches n call words number max quiet {A =
              Begun P E} (any_look P E) answer before files logs running honest b
              (at_untouched n before step b.number _ honest.modelled away b.phase.at)
              (view_as E' at_b at_m refl refl more.1) tt;
        })
        t.told

    look_ends : (P : ℕ → Type 0) (E : View → Type 0) (fault : OutsideFault)
        {old new : Option History}
        → TakenOnce Q how (Err fault) old new → Adds old new (Leads (S n) (Begun P E) (All n))
    look_ends P E fault t =
        ends_leads (λ f. All n) how t.given fault (owned n Q) t.came (keeps_begun P E)
        (any_look P E (Refused Failed))
        (λ left. any_look P E (Stopped left)) (λ before stopped b. b.phase.all)
        (λ before b. b.phase.all) t.told

  quiet_read : (w : List ℕ) → Quiet n (deed_by Read (w ∷ []) 0 9)
  quiet_read w = record { by = λ answer before after t. refl; gives = λ answer. refl }

  away_read : (w : List ℕ) → Untouched n (deed_by Read (w ∷ []) 0 9)
  away_read w = record { next = refl; buffer = refl; mark = refl; closed = λ j low. refl }

  quiet_size : Quiet n (deed_by Size (B n ∷ []) 0 0)
  quiet_size = record { by = λ answer before after t. refl; gives = λ answer. refl }

  away_size : Untouched n (deed_by Size (B n ∷ []) 0 0)
  away_size = record { next = refl; buffer = refl; mark = refl; closed = λ j low. refl }

  abbrev MarkSeen : Option (List ℕ) → View → Type 0
  MarkSeen mark v = Fresh v × MarkSaw mark v.mark

  abbrev Seen : Option (List ℕ) → Option ℕ → View → Type 0
  Seen mark size v = MarkSeen mark v × SizeSaw size v.buffer

  see_next : (next : Option (List ℕ)) {old new : Option History}
      → TakenOnce (mine n Read (N n ∷ []) 0 9) bytes_given (Ok next) old new
      → Adds old new (Leads (S n) (Begun Any Fresh) (Begun (NextSaw next) Fresh))
  see_next next t =
      look_on Read (N n ∷ []) 0 9 bytes_given (quiet_read (N n)) (away_read (N n))
      (λ value name. refl) Any (NextSaw next) Fresh Fresh next
      (λ answer came before files logs honest b. (
        next_saw next (files_after before (N n)) b.number b.phase.at.number
            (read_saw next answer (files_after before (N n)) came honest.agrees),
        b.phase.fits,
      )) t

  see_mark : (next mark : Option (List ℕ)) {old new : Option History}
      → TakenOnce (mine n Read (M n ∷ []) 0 9) bytes_given (Ok mark) old new
      → Adds old new (Leads (S n) (Begun (NextSaw next) Fresh)
      (Begun (NextSaw next) (MarkSeen mark)))
  see_mark next mark t =
      look_on Read (M n ∷ []) 0 9 bytes_given (quiet_read (M n)) (away_read (M n))
      (λ value name. refl) (NextSaw next) (NextSaw next) Fresh (MarkSeen mark) mark
      (λ answer came before files logs honest b. (
        b.is,
        (
          b.phase.fits,
          mark_saw mark (files_after before (M n)) (files_after before (B n)) b.phase.at.mark
              (read_saw mark answer (files_after before (M n)) came honest.agrees),
        ),
      )) t

  see_size : (next mark : Option (List ℕ)) (size : Option ℕ) {old new : Option History}
      → TakenOnce (mine n Size (B n ∷ []) 0 0) sized (Ok size) old new
      → Adds old new (Leads (S n) (Begun (NextSaw next) (MarkSeen mark))
      (Begun (NextSaw next) (Seen mark size)))
  see_size next mark size t =
      look_on Size (B n ∷ []) 0 0 sized quiet_size away_size (λ value name. refl) (NextSaw next)
      (NextSaw next) (MarkSeen mark) (Seen mark size) size
      (λ answer came before files logs honest b.
      (b.is, (b.phase.fits, size_saw size answer (files_after before (B n)) came honest.agrees))) t

  -- ---- what is made of it

  each_tt : (qs : List Asked) → AllOwned (λ before step. Unit {0}) qs
  each_tt [] = tt
  each_tt (q ∷ qs) = (λ before answer files logs running. tt, each_tt qs)

  -- from where none is, a script leads anywhere
  never : {A A' : History → Type 0} {qs : List Asked} {outside : Result (Unit {0}) OutsideFault}
      {old new : Option History}
      → ((h : History) → A h → ⊥) → MadeInTurn qs outside old new → Adds old new (Leads (S n) A A')
  never {A = A} {A' = A'} {qs = qs} none script =
      adds_as (Leads (S n) A A') (script_owned (λ before step. Unit {0}) (each_tt qs) script)
      (λ added h x. record { leads = λ others a. absurd (none h a); own = x })

  abbrev pub Before : Option (List ℕ) → Option (List ℕ) → Option ℕ → History → Type 0
  Before next mark size = Begun (NextSaw next) (Seen mark size)

  pub not_zero : (k : ℕ) → 1 ≤ k → (k == 0) ≡ false
  not_zero k some = false_from_ne_true (k == 0) (λ e. omega (arith, some, eqb-true k 0 e))

  -- the number is that of the phase
  at_number : (next : Option (List ℕ)) (k : ℕ) → k ≤ last_number → NextSaw next k
      → number_read next ≡ k
  at_number None k low saw = sym saw
  at_number (Some bytes) k low saw = ap spelled saw ∙ small_spelled k low

  phase_at : (next : Option (List ℕ)) (E : View → Type 0) (P : ℕ → Type 0) (h : History)
      (b : Begun P E h) → NextSaw next b.number
      → Plain n (number_read next) E h
  phase_at next E P h b saw =
      subst (λ i. Plain n i E h) (sym (at_number next b.number b.phase.at.low saw)) b.phase

  phase_of : (next : Option (List ℕ)) (E E' : View → Type 0) → ((v : View) → E v → E' v)
      → (h : History) → Begun (NextSaw next) E h
      → Plain n (number_read next) E' h
  phase_of next E E' so h b =
      phase_at next E' (NextSaw next) h
      (record {
        number = b.number;
        is = b.is;
        phase = record {
          all = b.phase.all;
          at =
              b.phase.at;
          fits = so (view n h) b.phase.fits;
          next = tt;
        };
      }) b.is

  closing_of : (mark : Option (List ℕ)) (v : View) → Seen mark None v → Closing v
  closing_of mark v seen = record { buffer = size_none v.buffer seen.1; unsaved = seen.0.0 }

  idle_of : (v : View) → Seen None None v → Idle v
  idle_of v seen = record {
    buffer = size_none v.buffer seen.1;
    mark = seen.0.1;
    unsaved =
        seen.0.0;
  }

  dropping_of : (size : ℕ) (v : View) → Seen None (Some size) v → Dropping v
  dropping_of size v seen =
      let there = size_some size v.buffer seen.1 in
      record { file = there.0; buffer = there.1; mark = seen.0.1; unsaved = seen.0.0 }

  cutting_of : (bytes : List ℕ) (size : ℕ) (v : View) → Seen (Some bytes) (Some size) v
      → Cutting (spelled bytes) v
  cutting_of bytes size v seen =
      let there = size_some size v.buffer seen.1 in
      let m = seen.0.1 in
      let value : spelled bytes ≡ m.size = ap spelled m.is ∙ small_spelled m.size m.low in
      subst (λ i. Cutting i v) (sym value)
      (record {
        file = there.0;
        buffer = there.1;
        mark = m.there;
        some = m.some;
        low =
            m.low;
        unsaved = seen.0.0;
      })

  -- what was read is a number, and a mark of something
  pub next_good : (bytes : List ℕ) (mark : Option (List ℕ)) (size : Option ℕ) (h : History)
      → Before (Some bytes) mark size h → is_number bytes ≡ true
  next_good bytes mark size h b = ap is_number b.is ∙ number_is b.number b.phase.at.low

  pub mark_good : (next : Option (List ℕ)) (bytes : List ℕ) (size : Option ℕ) (h : History)
      → Before next (Some bytes) size h
      → (is_number bytes ≡ true) × ((spelled bytes == 0) ≡ false)
  mark_good next bytes size h b =
      let m = b.phase.fits.0.1 in
      let value : spelled bytes ≡ m.size = ap spelled m.is ∙ small_spelled m.size m.low in (
        ap is_number m.is ∙ number_is m.size m.low,
        not_zero (spelled bytes)
            (omega (arith, value, m.some)),
      )

  -- a buffer has a number that isn't 0, and is as long as its mark says
  pub beside_number : (next mark : Option (List ℕ)) (size : ℕ) (h : History)
      → Before next mark (Some size) h → 1 ≤ number_read next
  beside_number next mark size h b =
      let there = size_some size (files_after h (B n)) b.phase.fits.1 in
      let st = stands_as (λ j under. refl) (sym there.1) refl refl b.phase.at in
      let e : number_read next ≡ b.number = at_number next b.number b.phase.at.low b.is in
      omega (arith, st.fresh.1, e)

  pub beside_mark : (next : Option (List ℕ)) (bytes : List ℕ) (size : ℕ) (h : History)
      → Before next (Some bytes) (Some size) h
      → nat_lt size (spelled bytes) ≡ false
  beside_mark next bytes size h b =
      let there = size_some size (files_after h (B n)) b.phase.fits.1 in
      let m = b.phase.fits.0.1 in
      let st = stands_as (λ j under. refl) (sym there.1) (sym m.there) refl b.phase.at in
      let same : st.mark.size ≡ m.size =
      sym (small_spelled st.mark.size st.mark.low)
      ∙ (ap (λ (g : File). spelled g.bytes) (sym st.mark.is) ∙ small_spelled m.size m.low) in
      let value : spelled bytes ≡ m.size = ap spelled m.is ∙ small_spelled m.size m.low in
      let within : spelled bytes ≤ size = omega (arith, value, same, st.mark.covers, there.2) in
      false_from_ne_true (nat_lt size (spelled bytes))
      (λ e. omega (arith, within, ltb-true size (spelled bytes) e))

  -- either a fact is so, or it never is where this script begins
  decided : {A A' : History → Type 0} (a b : Bool) {qs : List Asked}
      {outside : Result (Unit {0}) OutsideFault} {old new : Option History}
      → ((h : History) → A h → a ≡ b) → MadeInTurn qs outside old new
      → (a ≡ b → Adds old new (Leads (S n) A A')) → Adds old new (Leads (S n) A A')
  decided {A = A} {A' = A'} a b {old = old} {new = new} fact script goes = go (same_bool a b)
    where
      go : (a ≡ b) ⊎ ((a ≡ b) → ⊥) → Adds old new (Leads (S n) A A')
      go (inl e) = goes e
      go (inr differ) = never (λ h p. differ (fact h p)) script

  abbrev plan_script : Option (List ℕ) → Option (List ℕ) → Option ℕ → List Asked
  plan_script next mark size = settling (writer n) (plan_of (found_of next mark size))

  abbrev plan_number : Option (List ℕ) → Option (List ℕ) → Option ℕ → ℕ
  plan_number next mark size = number_in (plan_of (found_of next mark size))

  abbrev Goal : Option (List ℕ) → Option (List ℕ) → Option ℕ → Result (Unit {0}) OutsideFault
      → Option History → Option History → Type 0
  Goal next mark size outside old new =
      Adds old new (Leads (S n) (Before next mark size)
      (Ends n (Plain n (plan_number next mark size) Idle) outside))

  -- the script that is made, where it is this one
  ends_with : (next mark : Option (List ℕ)) (size : Option ℕ) {A : History → Type 0}
      (rs : List Asked) {outside : Result (Unit {0}) OutsideFault}
      {old new : Option History} → Walk n rs A (Plain n (number_read next) Idle)
      → ((h : History) → Before next mark size h → A h)
      → plan_script next mark size ≡ rs → plan_number next mark size ≡ number_read next
      → MadeInTurn (plan_script next mark size) outside old new
      → Goal next mark size outside old new
  ends_with next mark size rs {outside = outside} {old = old} {new =
      new} walk first script_is number_is script =
      subst (λ i. Adds old new (Leads (S n) (Before next mark size)
      (Ends n (Plain n i Idle) outside))) (sym number_is)
      (leads_as first (λ h x. x) (walk_leads n walk
      (subst (λ l. MadeInTurn l outside old new) script_is script)))

  module _ {outside : Result (Unit {0}) OutsideFault} {old new : Option History} where
    marked_good : (next : Option (List ℕ)) (m : List ℕ) (size : Option ℕ)
        → MadeInTurn (plan_script next (Some m) size) outside old new
        → (is_number m ≡ true → (spelled m == 0) ≡ false → Goal next (Some m) size outside old new)
        → Goal next (Some m) size outside old new
    marked_good next m size script goes =
        decided (is_number m) true (λ h b. (mark_good next m size h b).0) script
        (λ e. decided (spelled m == 0) false (λ h b. (mark_good next m size h b).1) script
        (λ z. goes e z))

    settle_leads : (next mark : Option (List ℕ)) (size : Option ℕ)
        → MadeInTurn (plan_script next mark size) outside old new
        → Goal next mark size outside old new
    settle_leads None None None script =
        ends_with None None None [] (rest (λ h p. p.all))
        (phase_of None (Seen None None) Idle idle_of) refl refl script
    settle_leads None (Some m) None script =
        marked_good None m None script
        (λ e z. ends_with None (Some m) None (mine n Remove (M n ∷ []) 0 0 ∷ [])
        (step_on (unmark_move n 0) (rest (λ h p. p.all)))
        (phase_of None (Seen (Some m) None) Closing (closing_of (Some m))) (rw (e, z) refl)
        (rw (e, z) refl) script)
    settle_leads None mark (Some size) script =
        never (λ h b. let some : 1 ≤ 0 =
        beside_number None mark size h b in omega (arith, some)) script
    settle_leads (Some x) None None script =
        decided (is_number x) true (next_good x None None) script
        (λ e. ends_with (Some x) None None [] (rest (λ h p. p.all))
        (phase_of (Some x) (Seen None None) Idle idle_of) (rw e refl) (rw e refl) script)
    settle_leads (Some x) (Some m) None script =
        decided (is_number x) true (next_good x (Some m) None) script
        (λ g. marked_good (Some x) m None script
        (λ e z. ends_with (Some x) (Some m) None (mine n Remove (M n ∷ []) 0 0 ∷ [])
        (step_on (unmark_move n (spelled x)) (rest (λ h p. p.all)))
        (phase_of (Some x) (Seen (Some m) None) Closing (closing_of (Some m))) (rw (g, e, z) refl)
        (rw (g, e, z) refl) script))
    settle_leads (Some x) None (Some size) script =
        decided (is_number x) true (next_good x None (Some size)) script
        (λ g. decided (spelled x == 0) false (λ h b. not_zero (spelled x)
        (beside_number (Some x) None size h b)) script
        (λ o. ends_with (Some x) None (Some size) (mine n Remove (B n ∷ []) 0 0 ∷ [])
        (step_on (drop_move n (spelled x)) (rest (λ h p. p.all)))
        (phase_of (Some x) (Seen None (Some size)) Dropping (dropping_of size)) (rw (g, o) refl)
        (rw (g, o) refl) script))
    settle_leads (Some x) (Some m) (Some size) script =
        decided (is_number x) true (next_good x (Some m) (Some size)) script
        (λ g. decided (spelled x == 0) false (λ h b. not_zero (spelled x)
        (beside_number (Some x) (Some m) size h b)) script
        (λ o. marked_good (Some x) m (Some size) script
        (λ e z. decided (nat_lt size (spelled m)) false (beside_mark (Some x) m size) script
        (λ l. ends_with (Some x) (Some m) (Some size)
        (mine n Cut (B n ∷ []) (spelled m) 0 ∷ mine n Rename (B n ∷ C n (spelled x) ∷ []) 0 0 ∷ mine
        n Remove (M n ∷ []) 0 0 ∷ [])
        (step_on (cut_move n (spelled x) (spelled m)) (shutting_walk n (spelled x) (spelled m)))
        (phase_of (Some x) (Seen (Some m) (Some size)) (Cutting (spelled m)) (cutting_of m size))
        (rw (g, o, e, z, l) refl) (rw (g, o, e, z, l) refl) script))))

  -- ---- the whole start

  pub look_script : (next mark : Option (List ℕ)) (size : Option ℕ)
      {old mid late last new : Option History} → MadeInTurn (starting (writer n)) (Ok tt) old mid
      → TakenOnce (mine n Read (N n ∷ []) 0 9) bytes_given (Ok next) mid late
      → TakenOnce (mine n Read (M n ∷ []) 0 9) bytes_given (Ok mark) late last
      → TakenOnce (mine n Size (B n ∷ []) 0 0) sized (Ok size) last new
      → Adds old new (Leads (S n) (All n) (Before next mark size))
  look_script next mark size script one two three =
      leads_then (walk_leads n start_walk script)
      (leads_then (see_next next one) (leads_then (see_mark next mark two)
      (see_size next mark size three)))

  all_of : (next mark : Option (List ℕ)) (size : Option ℕ) (h : History) → Before next mark size h
      → All n h
  all_of next mark size h b = b.phase.all

  -- what is known of the buffers of a run that has started
  abbrev pub Begins : Result State WaheadFault → History → Type 0
  Begins (Ok s) h = Plain n s.number Idle h
  Begins (Err fault) h = All n h

  begins_by : (number : ℕ) (outside : Result (Unit {0}) OutsideFault) (h : History)
      → Ends n (Plain n number Idle) outside h
      → Begins (start_result (writer n) number outside) h
  begins_by number (Ok value) h e = e
  begins_by number (Err fault) h e = e

  unlooked_leads : {fault : OutsideFault} {old new : Option History}
      → Looks (writer n) (Err fault) old new
      → Adds old new (Leads (S n) (All n) (All n))
  unlooked_leads (unstarted_look script) = walk_leads n start_walk script
  unlooked_leads (no_number {fault = fault} script one) =
      leads_then (walk_leads n start_walk script)
      (look_ends Read (N n ∷ []) 0 9 bytes_given (quiet_read (N n)) (away_read (N n))
      (λ value name. refl) Any Fresh fault one)
  unlooked_leads (no_mark {fault = fault} {next = next} script one two) =
      leads_then (walk_leads n start_walk script) (leads_then (see_next next one)
      (look_ends Read (M n ∷ []) 0 9 bytes_given (quiet_read (M n)) (away_read (M n))
      (λ value name. refl) (NextSaw next) Fresh fault two))
  unlooked_leads (no_size {fault = fault} {next = next} {mark = mark} script one two three) =
      leads_then (walk_leads n start_walk script)
      (leads_then (see_next next one) (leads_then (see_mark next mark two)
      (look_ends Size (B n ∷ []) 0 0 sized quiet_size away_size (λ value name. refl) (NextSaw next)
      (MarkSeen mark) fault three)))

  pub start_leads : (result : Result State WaheadFault) {old new : Option History}
      → Starts (writer n) result old new
      → Adds old new (Leads (S n) (All n) (Begins result))
  start_leads result (unbegun {now = now}) = leads_none now (λ h a. a)
  start_leads result (unlooked looks) = unlooked_leads looks
  start_leads result (damaged (looked {next = next} {mark = mark} {size =
      size} script one two three e) is) =
      leads_as (λ h a. a) (all_of next mark size) (look_script next mark size script one two three)
  start_leads result (unnamed (looked {next = next} {mark = mark} {size =
      size} script one two three e) is) =
      leads_as (λ h a. a) (all_of next mark size) (look_script next mark size script one two three)
  start_leads result (settled {outside = outside} {old = old} {mid = mid} {new = new}
      (looked {next = next} {mark = mark} {size = size} {found =
      found} script one two three e) is made) =
      subst (λ f. MadeInTurn (settling (writer n) (plan_of f)) outside mid new
      → Adds old new (Leads (S n) (All n) (Begins
      (start_result (writer n) (number_in (plan_of f)) outside)))) (sym e)
      (λ made. leads_then (look_script next mark size script one two three)
      (leads_as (λ h b. b) (begins_by (plan_number next mark size) outside)
      (settle_leads next mark size made)))
      made

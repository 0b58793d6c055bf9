-- Why a result tells of a damaged file: what its calls showed.
use Rattle.std.proofs.Common.{◌≡◌, List, ℕ, [], ◌∷◌, ◌++◌, Option, Some, None, Result, Ok, Err, ap, sym, subst, ◌∙◌, refl, if◌then◌else◌}
use Rattle.std.specs.Prelude.{IfErr}
use Rattle.chk_bytes.specs.Stems.{Stem}
use Rattle.chk_site.specs.declared.acts.Who.{Who}
use Rattle.chk_site.specs.declared.acts.Call.TheVariants.{Read}
use Rattle.chk_site.specs.declared.acts.CallFault.{CallFault}
use Rattle.chk_site.specs.declared.acts.CallFault.TheVariants.{Failed, NoMemory as NoRoom}
use Rattle.chk_site.specs.declared.acts.OutsideFault.{OutsideFault}
use Rattle.chk_site.specs.declared.acts.OutsideFault.TheVariants.{Outside as site_failed, NoMemory as no_memory}
use Rattle.chk_site.specs.declared.acts.ActAnswer.{ActAnswer}
use Rattle.chk_site.specs.Acts.{Deed}
use Rattle.chk_site.specs.History.{History}
use Rattle.chk_site.specs.Site.{Adds, Asked, asked, answered, bytes_given, Calls, Ends, IsTaken}
use Rattle.chk_site.proofs.Runs.{adds_then, adds_as}
use Rattle.chk_world.specs.Names.{MarkFile, read}
use Rattle.chk_world.specs.Works.{deed_of}
use Rattle.chk_sink.specs.declared.fault.SinkFault.{SinkFault}
use Rattle.chk_sink.specs.declared.fault.SinkFault.TheVariants.{Outside, Damaged, NoMemory}
use Rattle.chk_sink.specs.Asking.{IsMarkNumber}
use Rattle.chk_sink.specs.Damage.{is_number_from, is_number_of, damage_in, DamageCause, IsDamageOf}
use Rattle.chk_sink.specs.Faults.{IsOutside, sink_result, sink_fault}
use Rattle.chk_sink.proofs.Showing.{damage, shown, behind, call_shows, silent_shown, works_silent, IsSilent}
use Rattle.chk_sink.proofs.Owning.{Made}

-- ---- one call after another

pub damage_later : {T : Type 0} (result : Result T SinkFault) (b a history : History) → damage_in a ≡ None
    → DamageCause result b (a ++ history) → DamageCause result (b ++ a) history
damage_later (Ok value) b a history none shows = behind damage b a none ∙ shows
damage_later (Err (Damaged name at)) b a history none shows = (behind damage b a none ∙ shows.0, shows.1)
damage_later (Err NoMemory) b a history none shows = tt
damage_later (Err fault) b a history none shows = behind damage b a none ∙ shows

-- after a part that was done
pub cause_then : {T U : Type 0} (part : Result T SinkFault) (value : T) (result : Result U SinkFault) {old mid new : Option History}
    → part ≡ Ok value → Adds old mid (DamageCause part) → Adds mid new (DamageCause result) → Adds old new (DamageCause result)
cause_then part value result e p q =
    adds_then (DamageCause result) p q (λ a b h x y. damage_later result b a h (subst (λ r. DamageCause r a h) e x) y)

-- the same refusal, of another call
pub cause_as : {T U : Type 0} (part : Result T SinkFault) (result : Result U SinkFault) (fault : SinkFault) {old new : Option History}
    → part ≡ Err fault → result ≡ Err fault → Adds old new (DamageCause part) → Adds old new (DamageCause result)
cause_as {T = T} {U = U} part result fault e f told =
    adds_as (DamageCause result) told
    (λ a h x. subst (λ r. DamageCause r a h) (sym f) (same fault a h (subst (λ r. DamageCause r a h) e x)))
  where
    same : (fault : SinkFault) (a h : History) → DamageCause {T = T} (Err fault) a h → DamageCause {T = U} (Err fault) a h
    same NoMemory a h shows = tt
    same fault a h shows = shows

-- ---- by what was shown

-- it tells of just the file that was shown
abbrev pub Causes : {T : Type 0} → Result T SinkFault → Option (List ℕ) → Type 0
Causes (Ok value) name = name ≡ None
Causes (Err (Damaged w at)) name = (name ≡ Some w) × (at ≡ 0)
Causes (Err NoMemory) name = Unit {0}
Causes (Err fault) name = name ≡ None

caused : {T : Type 0} (result : Result T SinkFault) (a h : History) → Causes result (damage_in a) → DamageCause result a h
caused (Ok value) a h so = so
caused (Err NoMemory) a h so = so
caused (Err fault) a h so = so

pub call_cause : {T : Type 0} (result : Result T SinkFault) (q : Asked) (r : Result ActAnswer CallFault) {old new : Option History}
    → Causes result (shown damage q r) → Adds old new (Calls q r) → Adds old new (DamageCause result)
call_cause result q r so told =
    adds_as (DamageCause result) told
    (λ a h calls. caused result a h (subst (λ name. Causes result name) (sym (call_shows damage q r calls)) so))

-- a call that gave this
pub gave_cause : {T V : Type 0} {q : Asked} (result : Result T SinkFault) (how : V → ActAnswer) (given : Result V CallFault) {r : Result V CallFault}
    {old new : Option History} → Adds old new (Calls q (answered how given)) → given ≡ r → Causes result (shown damage q (answered how r))
    → Adds old new (DamageCause result)
gave_cause {q = q} result how given told is so =
    call_cause result q (answered how given) (subst (λ k. Causes result (shown damage q (answered how k))) (sym is) so) told

-- a fault of the outside
pub of_outside : {T : Type 0} (result : Result T SinkFault) (made : Result T OutsideFault) → result ≡ sink_result made → IfErr result IsOutside
of_outside {T = T} result made e = subst (λ r. IfErr r IsOutside) (sym e) (by made)
  where
    by : (made : Result T OutsideFault) → IfErr (sink_result made) IsOutside
    by (Ok value) = tt
    by (Err (site_failed call)) = tt
    by (Err no_memory) = tt

none_causes : {T : Type 0} (result : Result T SinkFault) (name : Option (List ℕ)) → IfErr result IsOutside → name ≡ None → Causes result name
none_causes (Ok value) name only none = none
none_causes (Err (Outside call)) name only none = none
none_causes (Err NoMemory) name only none = tt
none_causes (Err fault) name only none = absurd only

-- calls that show nothing
pub silent_cause : {T : Type 0} {who : Who} {P : Deed → Type 0} (result : Result T SinkFault) {old new : Option History}
    → ((call : Deed) → P call → IsSilent damage call) → IfErr result IsOutside → Made who P result old new → Adds old new (DamageCause result)
silent_cause result silent only own =
    adds_as (DamageCause result) (works_silent damage silent own) (λ a h none. caused result a h (none_causes result (damage_in a) only none))

-- a call that ended the work
pub ends_cause : {T V : Type 0} {q : Asked} (result : Result T SinkFault) (how : V → ActAnswer) (given : Result V CallFault) (fault : OutsideFault)
    {old new : Option History} → Adds old new (Calls q (answered how given)) → Ends q.call given fault → result ≡ Err (sink_fault fault)
    → Adds old new (DamageCause result)
ends_cause {V = V} {q = q} result how given fault told ends e =
    call_cause result q (answered how given) (none_causes result _ (of_outside result (Err fault) e) (none given ends)) told
  where
    none : (given : Result V CallFault) → Ends q.call given fault → shown damage q (answered how given) ≡ None
    none (Ok value) ends = absurd ends
    none (Err Failed) ends = refl
    none (Err NoRoom) ends = refl
    none (Err other) ends = absurd ends

-- a call that shows nothing, and was done
pub done_cause : {T V : Type 0} {q : Asked} (value : T) (how : V → ActAnswer) (given : Result V CallFault) {old new : Option History}
    → Adds old new (Calls q (answered how given)) → IsSilent damage (deed_of q) → Adds old new (DamageCause {T = T} (Ok value))
done_cause {q = q} value how given told silent =
    call_cause (Ok value) q (answered how given) (silent_shown damage q silent (answered how given)) told

-- ---- a mark

-- the refusal of a damaged file
pub damage_causes : (T : Type 0) (w : List ℕ) (fault : SinkFault) (name : Option (List ℕ)) → IsDamageOf w fault → name ≡ Some w
    → Causes {T = T} (Err fault) name
damage_causes T w (Damaged n at) name is e = (e ∙ ap Some (sym is.0), is.1)
damage_causes T w NoMemory name is e = tt
damage_causes T w fault name is e = absurd is

-- the damage that shows where bytes are to be a number of a mark
abbrev pub shown_by : List ℕ → Option (List ℕ) → Option (List ℕ)
shown_by w None = None
shown_by w (Some bytes) = if is_number_from 96 bytes then None else Some w

pub number_causes : (w bytes : List ℕ) (result : Result ℕ SinkFault) → IsMarkNumber w bytes result → Causes result (shown_by w (Some bytes))
number_causes w bytes (Ok n) is = ap (λ b. if b then None else Some w) is.0
number_causes w bytes (Err (Damaged name at)) is = (ap (λ b. if b then None else Some w) is.0 ∙ ap Some (sym is.1), is.2)
number_causes w bytes (Err NoMemory) is = tt
number_causes w bytes (Err fault) is = absurd is

module _ (who : Who) (w : List ℕ) (x : Stem) (reads : read w ≡ MarkFile x) where
  abbrev Q : Asked
  Q = asked who Read (w ∷ []) 0 9

  mark_shows : (given : Result (List ℕ) CallFault) (taken : Option (List ℕ)) → IsTaken given taken
      → shown damage Q (answered bytes_given given) ≡ shown_by w taken
  mark_shows (Ok bytes) taken is = ap (λ n. if is_number_of n bytes then None else Some w) reads ∙ ap (shown_by w) (sym is)
  mark_shows (Err Failed) taken is = absurd is
  mark_shows (Err NoRoom) taken is = absurd is
  mark_shows (Err fault) taken is = ap (shown_by w) (sym is)

  -- a reading of the mark
  pub mark_cause : {T : Type 0} (result : Result T SinkFault) (given : Result (List ℕ) CallFault) (taken : Option (List ℕ)) {old new : Option History}
      → IsTaken given taken → Causes result (shown_by w taken) → Adds old new (Calls Q (answered bytes_given given))
      → Adds old new (DamageCause result)
  mark_cause result given taken is so told =
      call_cause result Q (answered bytes_given given) (subst (λ name. Causes result name) (sym (mark_shows given taken is)) so) told

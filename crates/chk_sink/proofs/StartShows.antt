-- What the calls of a start show of its number of starts.
use Rattle.std.proofs.Common.{◌≡◌, ℕ, ◌==◌, Bool, true, false, ◌&&◌, List, [], ◌∷◌, ◌++◌, length, Option, Some, None, Result, Ok, Err, sym, subst, ◌∙◌, refl, arith, if◌then◌else◌}
use Rattle.std.specs.Prelude.{nat_lt, nat_le, IfErr}
use Rattle.chk_bytes.specs.Numbers.{spelled, limit}
use Rattle.chk_site.specs.declared.acts.Who.{Who}
use Rattle.chk_site.specs.declared.acts.Call.TheVariants.{Start, Read}
use Rattle.chk_site.specs.declared.acts.CallFault.{CallFault}
use Rattle.chk_site.specs.declared.acts.CallFault.TheVariants.{Failed, NoMemory as NoRoom}
use Rattle.chk_site.specs.declared.acts.OutsideFault.{OutsideFault}
use Rattle.chk_site.specs.declared.acts.OutsideFault.TheVariants.{NoMemory as no_memory}
use Rattle.chk_site.specs.declared.acts.ActAnswer.{ActAnswer}
use Rattle.chk_site.specs.Acts.{Deed}
use Rattle.chk_site.specs.History.{History}
use Rattle.chk_site.specs.Site.{Adds, Asked, asked, answered, plain, bytes_given, Calls, Ends, IsTaken}
use Rattle.chk_site.proofs.Runs.{adds_then, adds_as, every_join}
use Rattle.chk_replace.proofs.CallSteps.{OfOthers, OfOwn, call_each}
use Rattle.chk_world.specs.Names.{BornFile, read}
use Rattle.chk_sink.specs.declared.fault.SinkFault.{SinkFault}
use Rattle.chk_sink.specs.declared.fault.SinkFault.TheVariants.{Outside, NoMemory}
use Rattle.chk_sink.specs.States.{last_number}
use Rattle.chk_sink.specs.Calls.{MadeOnce}
use Rattle.chk_sink.specs.Faults.{IsOutside}
use Rattle.chk_sink.specs.Damage.{is_number_from, has_read_last, IsLookOnly, DamageCause, SpentCause}
use Rattle.chk_sink.specs.Starting.{start_number, ReadsNumber, damaged_name, is_last_start, ShowsStart}
use Rattle.chk_sink.proofs.Showing.{damage, last, shown, behind, call_shows, silent_shown, works_silent, IsSilent}
use Rattle.chk_sink.proofs.JoinedCauses.{silent_cause, cause_then}
use Rattle.chk_sink.proofs.Owning.{Made}

-- one call after another that showed nothing
pub shows_then : (name : List ℕ) (result : Result (Option ℕ) OutsideFault) {old mid new : Option History}
    → Adds old mid (ShowsStart name (Err no_memory)) → Adds mid new (ShowsStart name result) → Adds old new (ShowsStart name result)
shows_then name result first later =
    adds_then (ShowsStart name result) first later
    (λ a b history x y. record {
      damage = behind damage b a x.damage ∙ y.damage;
      read_last = behind last b a x.read_last ∙ y.read_last;
      looks = every_join IsLookOnly b a history x.looks y.looks;
    })

-- a call that only looks, by what its answer shows
call_look : (name : List ℕ) (result : Result (Option ℕ) OutsideFault) (q : Asked) (r : Result ActAnswer CallFault) {old new : Option History}
    → OfOwn IsLookOnly q → shown damage q r ≡ damaged_name name result → shown last q r ≡ is_last_start result
    → Adds old new (Calls q r) → Adds old new (ShowsStart name result)
call_look name result q r looks damages reads told =
    adds_as (ShowsStart name result) told
    (λ a history calls. record {
      damage = call_shows damage q r calls ∙ damages;
      read_last = call_shows last q r calls ∙ reads;
      looks = call_each IsLookOnly r others_look looks calls;
    })
  where
    others_look : OfOthers IsLookOnly
    others_look before step theirs = λ own. absurd (let e : step.own ≡ false = theirs.0 in cc)

-- the start of the process shows nothing
pub begin_shows : (who : Who) (name : List ℕ) (begun : Result (Unit {0}) OutsideFault) (fault : OutsideFault) {old new : Option History}
    → MadeOnce (asked who Start [] 0 0) begun old new → Adds old new (ShowsStart name (Err fault))
begin_shows who name begun fault m =
    let q = asked who Start [] 0 0 in
    let r = answered plain m.given in
    call_look name (Err fault) q r (λ before answer files logs running honest own. refl)
    (silent_shown damage q (λ answer. refl) r) (silent_shown last q (λ answer. refl) r) m.told

-- ---- the read

-- the number's bounds
not_last : (n : ℕ) → nat_lt n limit ≡ false → (n == last_number) ≡ false
not_last n large = grind arith

last_of : (b : Bool) (n size : ℕ) → ((size == 8) && (nat_le 0 n && nat_lt n limit)) ≡ b
    → is_last_start (Ok (if b then Some n else None)) ≡ ((size == 8) && (n == last_number))
last_of b n size e = go b (size == 8) (nat_lt n limit) refl e
  where
    zero_least : nat_le 0 n ≡ true
    zero_least = grind arith

    go : (b eight small : Bool) → nat_lt n limit ≡ small → (eight && (nat_le 0 n && nat_lt n limit)) ≡ b
        → is_last_start (Ok (if b then Some n else None)) ≡ (eight && (n == last_number))
    go true true small s e = refl
    go true false small s e = absurd (cc)
    go false false small s e = refl
    go false true small s e =
        let large : nat_lt n limit ≡ false = rw zero_least at e in
        sym (not_last n large)

damage_of : (name : List ℕ) (n : ℕ) (b : Bool) → damaged_name name (Ok (if b then Some n else None)) ≡ (if b then None else Some name)
damage_of name n true = refl
damage_of name n false = refl

module _ (who : Who) (name : List ℕ) where
  abbrev Q : Asked
  Q = asked who Read (name ∷ []) 0 9

  -- the answer shows just this result
  abbrev Shows : Result (List ℕ) CallFault → Result (Option ℕ) OutsideFault → Type 0
  Shows given result =
      (shown damage Q (answered bytes_given given) ≡ damaged_name name result)
      × (shown last Q (answered bytes_given given) ≡ is_last_start result)

  taken_shows : (c : List ℕ) → read name ≡ BornFile c → (given : Result (List ℕ) CallFault) (taken : Option (List ℕ)) → IsTaken given taken
      → Shows given (Ok (start_number taken))
  taken_shows c reads (Ok bytes) taken is = rw is (
    rw reads (sym (damage_of name (spelled bytes) (is_number_from 0 bytes))),
    rw reads (sym (last_of (is_number_from 0 bytes) (spelled bytes) (length bytes) refl)),
  )
  taken_shows c reads (Err Failed) taken is = absurd is
  taken_shows c reads (Err NoRoom) taken is = absurd is
  taken_shows c reads (Err fault) taken is = rw is (refl, refl)

  ended_shows : (given : Result (List ℕ) CallFault) (fault : OutsideFault) → Ends Read given fault → Shows given (Err fault)
  ended_shows (Ok bytes) fault ends = absurd ends
  ended_shows (Err Failed) fault ends = (refl, refl)
  ended_shows (Err NoRoom) fault ends = (refl, refl)
  ended_shows (Err other) fault ends = absurd ends

  pub read_shows : read name ≡ BornFile who.name → (result : Result (Option ℕ) OutsideFault) {old new : Option History}
      → ReadsNumber who name result old new → Adds old new (ShowsStart name result)
  read_shows reads result {old = old} {new = new} m = by result m
    where
      just : (given : Result (List ℕ) CallFault) (result : Result (Option ℕ) OutsideFault) → Shows given result
          → Adds old new (Calls Q (answered bytes_given given)) → Adds old new (ShowsStart name result)
      just given result shows told =
          call_look name result Q (answered bytes_given given) (λ before answer files logs running honest own. refl) shows.0 shows.1 told

      by : (result : Result (Option ℕ) OutsideFault) → ReadsNumber who name result old new → Adds old new (ShowsStart name result)
      by (Ok number) m =
          just m.given (Ok number) (subst (λ n. Shows m.given (Ok n)) (sym m.came.is) (taken_shows who.name reads m.given m.came.taken m.came.is_taken)) m.told
      by (Err fault) m = just m.given (Err fault) (ended_shows m.given fault m.came) m.told

-- ---- the number that was read isn't the last one, and calls follow that show nothing

pub shown_damage : {who : Who} {P : Deed → Type 0} (name : List ℕ) (n : ℕ) (result : Result ℕ SinkFault) {old mid new : Option History}
    → ((call : Deed) → P call → IsSilent damage call) → IfErr result IsOutside → Adds old mid (ShowsStart name (Ok (Some n)))
    → Made who P result mid new → Adds old new (DamageCause result)
shown_damage name n result silent only first own =
    cause_then (Ok n) n result refl (adds_as (DamageCause (Ok n)) first (λ a h x. x.damage)) (silent_cause result silent only own)

none_spent : (result : Result ℕ SinkFault) (a h : History) → IfErr result IsOutside → has_read_last a ≡ false → SpentCause result a h
none_spent (Ok value) a h only none = none
none_spent (Err (Outside call)) a h only none = none
none_spent (Err NoMemory) a h only none = tt
none_spent (Err fault) a h only none = absurd only

pub shown_spent : {who : Who} {P : Deed → Type 0} (name : List ℕ) (n : ℕ) (result : Result ℕ SinkFault) {old mid new : Option History}
    → ((call : Deed) → P call → IsSilent last call) → (n == last_number) ≡ false → IfErr result IsOutside
    → Adds old mid (ShowsStart name (Ok (Some n))) → Made who P result mid new → Adds old new (SpentCause result)
shown_spent name n result silent other only first own =
    adds_then (SpentCause result) first (works_silent last silent own)
    (λ a b h x y. none_spent result (b ++ a) h only (behind last b a (x.read_last ∙ other) ∙ y))

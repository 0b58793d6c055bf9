-- What the calls of the buffers add stays legal.
use Rattle.std.proofs.Common.{◌≡◌, ℕ, ◌==◌, Bool, true, false, List, [], ◌∷◌, ◌++◌, Option, Some, None, Result, Ok, Err, sym, subst, refl, ◌∙◌, if◌then◌else◌}
use Rattle.std.specs.Prelude.{IsFalse, MatchBool}
use Rattle.chk_bytes.specs.Numbers.{be64}
use Rattle.chk_site.specs.declared.acts.Role.TheVariants.{Writer}
use Rattle.chk_site.specs.declared.acts.Who.{Who}
use Rattle.chk_site.specs.declared.acts.Call.TheVariants.{Create, Read, Size}
use Rattle.chk_site.specs.declared.acts.OutsideFault.{OutsideFault}
use Rattle.chk_site.specs.declared.acts.ActAnswer.{ActAnswer}
use Rattle.chk_site.specs.declared.acts.ActAnswer.TheVariants.{Refused, Stopped}
use Rattle.chk_site.specs.declared.acts.CallFault.TheVariants.{Failed}
use Rattle.chk_site.specs.History.{History}
use Rattle.chk_site.specs.Site.{Adds, Asked, asked}
use Rattle.chk_site.specs.Runs.{Leads, MadeInTurn, finished, unbegun, went_on, ended}
use Rattle.chk_site.proofs.Leads.{leads_then, leads_none, Keeps, Owned, Shows, done_leads, taken_leads, ends_leads}
use Rattle.chk_replace.specs.Replace.{replacement}
use Rattle.chk_world.specs.Rules.{Obeys, Legal}
use Rattle.chk_world.specs.Places.{IsBy, is_message}
use Rattle.chk_world.specs.Works.{deed_of}
use Rattle.chk_wahead.specs.declared.fault.WaheadFault.{WaheadFault}
use Rattle.chk_wahead.specs.declared.found.Found.{Found}
use Rattle.chk_wahead.specs.declared.found.Plan.{Plan}
use Rattle.chk_wahead.specs.declared.found.Plan.TheVariants.{Close, DropBuffer, DropMark}
use Rattle.chk_wahead.specs.Names.{next_name, buffer_name, mark_name, closed_name}
use Rattle.chk_wahead.specs.States.{State, Held, last_number}
use Rattle.chk_wahead.specs.Scripts.{beginning, adding, marking, shutting, first_calls, commit_of, close_of, Did, IsSpent, PutsIn, Puts}
use Rattle.chk_wahead.specs.Starting.{plan_of, settling}
use Rattle.chk_wahead.specs.Telling.{TakenOnce, Looks, unstarted, no_number, no_mark, no_size, looked, Starts, unbegun as unmade, unlooked, damaged, unnamed, settled, starting}
use Rattle.chk_wahead.specs.Legality.{Beside, StaysLegal}
use Rattle.chk_wahead.proofs.Obeying.{OfWahead, starting as of_start, creating, appending, syncing, renaming, removing, cutting, reading, sizing, writer_obeys}

-- the call is the process's, and such a one
pub record IsCall (who : Who) (q : Asked) : Type 0 where
  pub by : q.who ≡ who
  pub of : OfWahead (deed_of q)
  pub quiet : IsFalse (is_message q.call)

abbrev AllCalls : Who → List Asked → Type 0
AllCalls who [] = Unit {0}
AllCalls who (q ∷ qs) = IsCall who q × AllCalls who qs

-- from legal to legal
abbrev Stays : List (List ℕ) → Who → Option History → Option History → Type 0
Stays stamped who old new = Adds old new (Leads (Beside stamped who) (Legal stamped) (Legal stamped))

module _ (stamped : List (List ℕ)) (who : Who) (is : who.role ≡ Writer) where
  me : who ≡ record { role = Writer; name = who.name }
  me = λ i. record { role = is i; name = who.name }

  keeps : Keeps (Obeys stamped) (Legal stamped)
  keeps before step theirs obeys legal = (legal, obeys)

  owned : (q : Asked) → IsCall who q → Owned (IsBy who) q
  owned q c before answer files logs running = record { by = c.by; running = running; quiet = c.quiet }

  shows : (q : Asked) → IsCall who q → (answer : ActAnswer) → Shows (Legal stamped) (Legal stamped) q answer
  shows q c answer before files logs running honest legal =
      (legal, writer_obeys stamped who.name before _ (c.by ∙ me) c.of honest)

  script_stays : {qs : List Asked} {result : Result (Unit {0}) OutsideFault} {old new : Option History} → AllCalls who qs
      → MadeInTurn qs result old new → Stays stamped who old new
  script_stays all finished = leads_none _ (λ h legal. legal)
  script_stays all unbegun = leads_none _ (λ h legal. legal)
  script_stays all (went_on {q = q} given done told script) =
      leads_then (done_leads given (owned q all.0) done keeps (λ answer was. shows q all.0 answer) told) (script_stays all.1 script)
  script_stays all (ended {q = q} {fault = fault} given ends told) =
      ends_leads (λ f h. Legal stamped h) _ given fault (owned q all.0) ends keeps (shows q all.0 (Refused Failed))
      (λ left. shows q all.0 (Stopped left)) (λ before stopped legal. legal) (λ before legal. legal) told

  taken_stays : {V : Type 0} {q : Asked} {how : V → ActAnswer} (result : Result (Option V) OutsideFault) {old new : Option History}
      → IsCall who q → TakenOnce q how result old new → Stays stamped who old new
  taken_stays {q = q} {how = how} (Ok value) c t =
      taken_leads how t.given value (owned q c) t.came keeps (λ answer took. shows q c answer) t.told
  taken_stays {q = q} {how = how} (Err fault) c t =
      ends_leads (λ f h. Legal stamped h) how t.given fault (owned q c) t.came keeps (shows q c (Refused Failed))
      (λ left. shows q c (Stopped left)) (λ before stopped legal. legal) (λ before legal. legal) t.told

  -- ---- the calls of each

  all_both : (qs rs : List Asked) → AllCalls who qs → AllCalls who rs → AllCalls who (qs ++ rs)
  all_both [] rs one two = two
  all_both (q ∷ qs) rs one two = (one.0, all_both qs rs one.1 two)

  replaced_next : (bytes : List ℕ) → AllCalls who (replacement who (next_name who.name) bytes)
  replaced_next bytes = (
    record { by = refl; of = removing _; quiet = refl },
    (
      record { by = refl; of = creating _; quiet = refl },
      (
        record { by = refl; of = appending _ bytes; quiet = refl },
        (
          record { by = refl; of = syncing _; quiet = refl },
          (record { by = refl; of = renaming _ _; quiet = refl }, tt),
        ),
      ),
    ),
  )

  replaced_mark : (bytes : List ℕ) → AllCalls who (replacement who (mark_name who.name) bytes)
  replaced_mark bytes = (
    record { by = refl; of = removing _; quiet = refl },
    (
      record { by = refl; of = creating _; quiet = refl },
      (
        record { by = refl; of = appending _ bytes; quiet = refl },
        (
          record { by = refl; of = syncing _; quiet = refl },
          (record { by = refl; of = renaming _ _; quiet = refl }, tt),
        ),
      ),
    ),
  )

  all_added : (bytes : List ℕ) → AllCalls who (adding who (buffer_name who.name) bytes ∷ [])
  all_added bytes = (record { by = refl; of = appending _ bytes; quiet = refl }, tt)

  all_begun : (number : ℕ) → AllCalls who (beginning who (next_name who.name) (buffer_name who.name) number)
  all_begun number =
      all_both (replacement who (next_name who.name) (be64 number)) (asked who Create (buffer_name who.name ∷ []) 0 0 ∷ [])
      (replaced_next (be64 number)) (record { by = refl; of = creating _; quiet = refl }, tt)

  all_first : (number : ℕ) (bytes : List ℕ) → AllCalls who (first_calls who number bytes)
  all_first number bytes =
      all_both (beginning who (next_name who.name) (buffer_name who.name) number) (adding who (buffer_name who.name) bytes ∷ [])
      (all_begun number) (all_added bytes)

  all_marked : (size : ℕ) → AllCalls who (marking who (buffer_name who.name) (mark_name who.name) size)
  all_marked size = (record { by = refl; of = syncing _; quiet = refl }, replaced_mark (be64 size))

  all_shut : (number : ℕ) → AllCalls who (shutting who (buffer_name who.name) (closed_name who.name number) (mark_name who.name))
  all_shut number = (record { by = refl; of = renaming _ _; quiet = refl }, (record { by = refl; of = removing _; quiet = refl }, tt))

  all_if : (b : Bool) (qs : List Asked) → AllCalls who qs → AllCalls who (if b then [] else qs)
  all_if true qs all = tt
  all_if false qs all = all

  all_commit : (held : Option Held) → AllCalls who (commit_of who held)
  all_commit None = tt
  all_commit (Some h) = all_if (h.marked == h.length_now) (marking who (buffer_name who.name) (mark_name who.name) h.length_now) (all_marked h.length_now)

  all_close : (number : ℕ) (held : Option Held) → AllCalls who (close_of who number held)
  all_close number None = tt
  all_close number (Some h) =
      all_both (commit_of who (Some h)) (shutting who (buffer_name who.name) (closed_name who.name number) (mark_name who.name))
      (all_commit (Some h)) (all_shut number)

  all_settled : (plan : Plan) → AllCalls who (settling who plan)
  all_settled (Close number size) = (record { by = refl; of = cutting _ size; quiet = refl }, all_shut number)
  all_settled (DropBuffer number) = (record { by = refl; of = removing _; quiet = refl }, tt)
  all_settled (DropMark number) = (record { by = refl; of = removing _; quiet = refl }, tt)
  all_settled plan = tt

  all_started : AllCalls who (starting who)
  all_started = (record { by = refl; of = of_start; quiet = refl }, tt)

  read_call : (w : List ℕ) → IsCall who (asked who Read (w ∷ []) 0 9)
  read_call w = record { by = refl; of = reading w 0 9; quiet = refl }

  size_call : (w : List ℕ) → IsCall who (asked who Size (w ∷ []) 0 0)
  size_call w = record { by = refl; of = sizing w; quiet = refl }

  looks_stay : (result : Result Found OutsideFault) {old new : Option History} → Looks who result old new → Stays stamped who old new
  looks_stay result (unstarted script) = script_stays all_started script
  looks_stay result (no_number {fault = fault} script one) = leads_then (script_stays all_started script) (taken_stays (Err fault) (read_call _) one)
  looks_stay result (no_mark {fault = fault} {next = next} script one two) =
      leads_then (script_stays all_started script)
      (leads_then (taken_stays (Ok next) (read_call _) one) (taken_stays (Err fault) (read_call _) two))
  looks_stay result (no_size {fault = fault} {next = next} {mark = mark} script one two three) =
      leads_then (script_stays all_started script)
      (leads_then (taken_stays (Ok next) (read_call _) one)
      (leads_then (taken_stays (Ok mark) (read_call _) two) (taken_stays (Err fault) (size_call _) three)))
  looks_stay result (looked {next = next} {mark = mark} {size = size} script one two three e) =
      leads_then (script_stays all_started script)
      (leads_then (taken_stays (Ok next) (read_call _) one)
      (leads_then (taken_stays (Ok mark) (read_call _) two) (taken_stays (Ok size) (size_call _) three)))

  starts_stay : (result : Result State WaheadFault) {old new : Option History} → Starts who result old new → Stays stamped who old new
  starts_stay result unmade = leads_none _ (λ h legal. legal)
  starts_stay result (unlooked {fault = fault} looks) = looks_stay (Err fault) looks
  starts_stay result (damaged {found = found} looks e) = looks_stay (Ok found) looks
  starts_stay result (unnamed {found = found} looks e) = looks_stay (Ok found) looks
  starts_stay result (settled {found = found} looks e made) =
      leads_then (looks_stay (Ok found) looks) (script_stays (all_settled (plan_of found)) made)

  none_stays : {old new : Option History} → new ≡ old → Stays stamped who old new
  none_stays {old = old} same = subst (λ h. Stays stamped who old h) (sym same) (leads_none old (λ h legal. legal))

-- ---- of each call

pub start_legal : (who : Who) (result : Result State WaheadFault) {old new : Option History} → Starts who result old new
    → StaysLegal who old new
start_legal who result starts is stamped = starts_stay stamped who is result starts

pub commit_legal : (s : State) (number : ℕ) (held : Option Held) {result : Result (Unit {0}) WaheadFault} {s' : State} {old new : Option History}
    → Did (commit_of s.who s.held) s number held result s' old new → StaysLegal s.who old new
commit_legal s number held did is stamped = script_stays stamped s.who is (all_commit stamped s.who is s.held) did.made

pub close_legal : (s : State) (number : ℕ) (held : Option Held) {result : Result (Unit {0}) WaheadFault} {s' : State} {old new : Option History}
    → Did (close_of s.who s.number s.held) s number held result s' old new → StaysLegal s.who old new
close_legal s number held did is stamped = script_stays stamped s.who is (all_close stamped s.who is s.number s.held) did.made

first_legal : (b : Bool) (s : State) (bytes : List ℕ) (number : ℕ) (held : Option Held) (result : Result (Unit {0}) WaheadFault) (s' : State)
    (old new : Option History) → MatchBool b (IsSpent s result s' old new) (Did (first_calls s.who number bytes) s number held result s' old new)
    → StaysLegal s.who old new
first_legal true s bytes number held result s' old new spent is stamped = none_stays stamped s.who is spent.told_is
first_legal false s bytes number held result s' old new did is stamped =
    script_stays stamped s.who is (all_first stamped s.who is number bytes) did.made

in_legal : (at : Option Held) (s : State) (bytes : List ℕ) (result : Result (Unit {0}) WaheadFault) (s' : State) (old new : Option History)
    → PutsIn at s bytes result s' old new → StaysLegal s.who old new
in_legal None s bytes result s' old new did = first_legal (s.number == last_number) s bytes _ _ result s' old new did
in_legal (Some h) s bytes result s' old new did = λ is stamped. script_stays stamped s.who is (all_added stamped s.who is bytes) did.made

pub put_legal : (s : State) (bytes : List ℕ) (result : Result (Unit {0}) WaheadFault) (s' : State) (old new : Option History)
    → Puts s bytes result s' old new → StaysLegal s.who old new
put_legal s [] result s' old new did = λ is stamped. none_stays stamped s.who is did.told_is
put_legal s (b ∷ bytes) result s' old new did = in_legal s.held s (b ∷ bytes) result s' old new did

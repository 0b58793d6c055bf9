-- What is known of the fields, and what a call did by them.
use Rattle.std.proofs.Common.{◌≡◌, ◌≢◌, ℕ, ◌+◌, ◌≤◌, ◌==◌, Bool, true, false, List, [], ◌∷◌, ◌++◌, length, Option, Some, None, option_map, Result, Ok, Err, ap, sym, subst, refl, ◌∙◌, true≢false}
use Rattle.std.specs.Prelude.{string_bytes, MatchBool}
use Rattle.std.proofs.lemmas.Bool.{eq-eqb, eqb-true, ne_eqb}
use Rattle.std.proofs.lemmas.List.{nil_from_length}
use Rattle.chk_site.specs.declared.acts.Who.{Who}
use Rattle.chk_site.specs.declared.acts.OutsideFault.{OutsideFault}
use Rattle.chk_site.specs.History.{History}
use Rattle.chk_site.specs.declared.acts.Call.TheVariants.{Remove, Cut}
use Rattle.chk_site.specs.Site.{Adds, asked}
use Rattle.chk_site.specs.Runs.{finished}
use Rattle.chk_wahead.specs.declared.fault.WaheadFault.{WaheadFault}
use Rattle.chk_wahead.specs.declared.fault.WaheadFault.TheVariants.{Spent}
use Rattle.chk_wahead.specs.declared.wahead.Wahead.TheInside.{Inside}
use Rattle.chk_wahead.specs.Faults.{FailsLast}
use Rattle.chk_wahead.specs.Names.{writer, file_name, next_name, buffer_name, mark_name, closed_name}
use Rattle.chk_wahead.specs.declared.found.Plan.{Plan}
use Rattle.chk_wahead.specs.Telling.{IsSettled}
use Rattle.chk_wahead.specs.States.{State, Held, left, longer, all_marked, last_number}
use Rattle.chk_wahead.specs.Fields.{held_of, wahead_view, IsSound}
use Rattle.chk_wahead.specs.Scripts.{beginning, adding, marking, shutting, first_calls, commit_of, close_of, Did, IsSpent, PutsIn, Puts}
use Rattle.chk_wahead.proofs.Joining.{script_as, did_last, none_last}

-- the fields of a value with this state
pub record IsSeenAs (s : State) (i : Inside) : Type 0 where
  pub who : i.who ≡ s.who
  pub next : string_bytes i.next ≡ next_name s.who.name
  pub buffer : string_bytes i.buffer ≡ buffer_name s.who.name
  pub mark : string_bytes i.mark ≡ mark_name s.who.name
  pub number : i.number ≡ s.number
  pub number_low : i.number ≤ last_number
  pub held : option_map held_of i.held ≡ s.held

pub seen_as : (i : Inside) (s : State) → wahead_view i ≡ s → IsSound i → IsSeenAs s i
seen_as i s e sound =
    subst (λ s. IsSeenAs s i) e
    (record {
      who = refl;
      next = sound.next;
      buffer = sound.buffer;
      mark = sound.mark;
      number = refl;
      number_low = sound.number;
      held = refl;
    })

-- ---- the calls, by other words

pub first_by : (s : State) (who : Who) (next buffer again bytes : List ℕ) (number : ℕ) → who ≡ s.who → next ≡ next_name s.who.name
    → buffer ≡ buffer_name s.who.name → again ≡ buffer_name s.who.name
    → beginning who next buffer number ++ (adding who again bytes ∷ []) ≡ first_calls s.who number bytes
first_by s who next buffer again bytes number w n b a = λ i. beginning (w i) (n i) (b i) number ++ (adding (w i) (a i) bytes ∷ [])

pub adding_by : (s : State) (who : Who) (buffer bytes : List ℕ) → who ≡ s.who → buffer ≡ buffer_name s.who.name
    → adding who buffer bytes ∷ [] ≡ adding s.who (buffer_name s.who.name) bytes ∷ []
adding_by s who buffer bytes w b = λ i. adding (w i) (b i) bytes ∷ []

pub marking_by : (s : State) (who : Who) (buffer mark : List ℕ) (size : ℕ) → who ≡ s.who → buffer ≡ buffer_name s.who.name
    → mark ≡ mark_name s.who.name → marking who buffer mark size ≡ marking s.who (buffer_name s.who.name) (mark_name s.who.name) size
marking_by s who buffer mark size w b m = λ i. marking (w i) (b i) (m i) size

pub shutting_by : (s : State) (who : Who) (buffer closed mark : List ℕ) (number : ℕ) → who ≡ s.who → buffer ≡ buffer_name s.who.name
    → closed ≡ closed_name s.who.name number → mark ≡ mark_name s.who.name
    → shutting who buffer closed mark ≡ shutting s.who (buffer_name s.who.name) (closed_name s.who.name number) (mark_name s.who.name)
shutting_by s who buffer closed mark number w b c m = λ i. shutting (w i) (b i) (c i) (m i)

-- ---- commits

pub commit_none : (who : Who) (h : Held) → h.marked ≡ h.length_now → commit_of who (Some h) ≡ []
commit_none who h e = rw (eq-eqb h.marked h.length_now e) refl

pub commit_some : (who : Who) (h : Held) → h.marked ≢ h.length_now
    → marking who (buffer_name who.name) (mark_name who.name) h.length_now ≡ commit_of who (Some h)
commit_some who h e = rw (ne_eqb h.marked h.length_now e) refl

pub commit_held : (s : State) (h : Held) {result : Result (Unit {0}) WaheadFault} {s' : State} {old new : Option History} → s.held ≡ Some h
    → Did (commit_of s.who (Some h)) s s.number (all_marked (Some h)) result s' old new
    → Did (commit_of s.who s.held) s s.number (all_marked s.held) result s' old new
commit_held s h {result = result} {s' = s'} {old = old} {new = new} e did =
    subst (λ held. Did (commit_of s.who held) s s.number (all_marked held) result s' old new) (sym e) did

pub commit_idle : (s : State) (now : Option History) → s.held ≡ None
    → Did (commit_of s.who s.held) s s.number (all_marked s.held) (Ok tt) s now now
commit_idle s now e =
    record {
      outside = Ok tt;
      result_is = refl;
      made = script_as (ap (commit_of s.who) (sym e)) finished;
      state_is = ap (λ held. record s { held = held }) (e ∙ sym (ap all_marked e));
    }

pub close_held : (s : State) (h : Held) {result : Result (Unit {0}) WaheadFault} {s' : State} {old new : Option History} → s.held ≡ Some h
    → Did (close_of s.who s.number (Some h)) s s.number None result s' old new
    → Did (close_of s.who s.number s.held) s s.number None result s' old new
close_held s h {result = result} {s' = s'} {old = old} {new = new} e did =
    subst (λ held. Did (close_of s.who s.number held) s s.number None result s' old new) (sym e) did

pub close_idle : (s : State) (now : Option History) → s.held ≡ None
    → Did (close_of s.who s.number s.held) s s.number None (Ok tt) s now now
close_idle s now e =
    record {
      outside = Ok tt;
      result_is = refl;
      made = script_as (ap (close_of s.who s.number) (sym e)) finished;
      state_is = ap (λ held. record s { held = held }) e;
    }

-- ---- puts

pub put_nothing : (s : State) (bytes : List ℕ) (now : Option History) → bytes ≡ [] → Puts s bytes (Ok tt) s now now
put_nothing s bytes now e =
    subst (λ b. Puts s b (Ok tt) s now now) (sym e) (record { result_is = refl; state_is = refl; told_is = refl })

some_put : (s : State) (bytes : List ℕ) (result : Result (Unit {0}) WaheadFault) (s' : State) (old new : Option History) → bytes ≢ []
    → PutsIn s.held s bytes result s' old new → Puts s bytes result s' old new
some_put s [] result s' old new more puts = absurd (more refl)
some_put s (b ∷ bytes) result s' old new more puts = puts

pub put_held : (s : State) (h : Held) (bytes : List ℕ) (result : Result (Unit {0}) WaheadFault) (s' : State) (old new : Option History)
    → bytes ≢ [] → s.held ≡ Some h
    → Did (adding s.who (buffer_name s.who.name) bytes ∷ []) s s.number (Some (longer (length bytes) (Some h))) result s' old new
    → Puts s bytes result s' old new
put_held s h bytes result s' old new more e did =
    some_put s bytes result s' old new more (subst (λ held. PutsIn held s bytes result s' old new) (sym e) did)

pub put_first : (s : State) (bytes : List ℕ) (result : Result (Unit {0}) WaheadFault) (s' : State) (old new : Option History)
    → bytes ≢ [] → s.held ≡ None
    → MatchBool (s.number == last_number) (IsSpent s result s' old new)
    (Did (first_calls s.who (s.number + 1) bytes) s (s.number + 1) (Some (longer (length bytes) None)) result s' old new)
    → Puts s bytes result s' old new
put_first s bytes result s' old new more e did =
    some_put s bytes result s' old new more (subst (λ held. PutsIn held s bytes result s' old new) (sym e) did)

-- the name of the closed buffer, by the fields
pub closed_as : (s : State) (i : Inside) (name : List ℕ) {text : List ℕ} → IsSeenAs s i → name ≡ i.who.name → text ≡ closed_name name i.number
    → text ≡ closed_name s.who.name s.number
closed_as s i name known n e = e ∙ ap (λ m. closed_name m i.number) (n ∙ ap (λ (w : Who). w.name) known.who) ∙ ap (closed_name s.who.name) known.number

-- the same of a buffer of this number
pub closed_at : (s : State) (i : Inside) (name : List ℕ) (number : ℕ) {text : List ℕ} → IsSeenAs s i → name ≡ i.who.name
    → text ≡ closed_name name number → text ≡ closed_name s.who.name number
closed_at s i name number known n e = e ∙ ap (λ m. closed_name m number) (n ∙ ap (λ (w : Who). w.name) known.who)

pub removing_by : (who mine : Who) (name file : List ℕ) → who ≡ mine → name ≡ file
    → asked who Remove (name ∷ []) 0 0 ∷ [] ≡ asked mine Remove (file ∷ []) 0 0 ∷ []
removing_by who mine name file w n = λ i. asked (w i) Remove (n i ∷ []) 0 0 ∷ []

pub cutting_by : (who mine : Who) (name file : List ℕ) (size : ℕ) → who ≡ mine → name ≡ file
    → asked who Cut (name ∷ []) size 0 ∷ [] ≡ asked mine Cut (file ∷ []) size 0 ∷ []
cutting_by who mine name file size w n = λ i. asked (w i) Cut (n i ∷ []) size 0 ∷ []

-- the name of a file, by the name of the process
pub named_by : (who : Who) (name text ending : List ℕ) {given : List ℕ} → who ≡ writer name → text ≡ name → given ≡ file_name text ending
    → given ≡ file_name who.name ending
named_by who name text ending w t e = e ∙ ap (λ n. file_name n ending) (t ∙ sym (ap (λ (k : Who). k.name) w))

pub settle_by : (plan same : Plan) (s : State) (result : Result (Unit {0}) WaheadFault) (s' : State) (old new : Option History) → plan ≡ same
    → IsSettled same s result s' old new → IsSettled plan s result s' old new
settle_by plan same s result s' old new e did =
    subst (λ (p : Plan). IsSettled p s result s' old new) (sym e) did

-- ---- the last call of a put

spent_last : (s : State) (result : Result (Unit {0}) WaheadFault) {old new : Option History} → result ≡ Err (Spent s.number) → new ≡ old
    → Adds old new (FailsLast result)
spent_last s result {old = old} {new = new} e same =
    subst (λ r. Adds old new (FailsLast {T = Unit {0}} r)) (sym e) (none_last {T = Unit {0}} (Err (Spent s.number)) same (λ h. tt))

-- what is done for the first bytes of a buffer
abbrev FirstMade : State → List ℕ → Result (Unit {0}) WaheadFault → State → Option History → Option History → Type 0
FirstMade s bytes result s' old new =
    Did (first_calls s.who (s.number + 1) bytes) s (s.number + 1) (Some (longer (length bytes) None)) result s' old new

first_last : (b : Bool) (s : State) (bytes : List ℕ) (result : Result (Unit {0}) WaheadFault) (s' : State) (old new : Option History)
    → MatchBool b (IsSpent s result s' old new) (FirstMade s bytes result s' old new) → Adds old new (FailsLast result)
first_last true s bytes result s' old new spent = spent_last s result spent.result_is spent.told_is
first_last false s bytes result s' old new made = did_last made

in_last : (held : Option Held) (s : State) (bytes : List ℕ) (result : Result (Unit {0}) WaheadFault) (s' : State) (old new : Option History)
    → PutsIn held s bytes result s' old new → Adds old new (FailsLast result)
in_last (Some h) s bytes result s' old new did = did_last did
in_last None s bytes result s' old new did = first_last (s.number == last_number) s bytes result s' old new did

pub put_last : (s : State) (bytes : List ℕ) (result : Result (Unit {0}) WaheadFault) (s' : State) (old new : Option History)
    → Puts s bytes result s' old new → Adds old new (FailsLast result)
put_last s [] result s' old new did =
    subst (λ r. Adds old new (FailsLast {T = Unit {0}} r)) (sym did.result_is) (none_last {T = Unit {0}} (Ok tt) did.told_is (λ h. tt))
put_last s (b ∷ bytes) result s' old new did = in_last s.held s (b ∷ bytes) result s' old new did

-- the bytes are some
pub is_more : {bytes : List ℕ} {b : Bool} → b ≡ (length bytes == 0) → b ≡ false → bytes ≢ []
is_more {bytes = bytes} e some empty = true≢false (sym (e ∙ ap (λ (l : List ℕ). length l == 0) empty) ∙ some)

-- the number stays
pub left_at : (s : State) (i : Inside) (held : Option Held) (done : Result (Unit {0}) OutsideFault) {s' : State} → wahead_view i ≡ s
    → s' ≡ left s i.number held done → s' ≡ left s s.number held done
left_at s i held done view e = e ∙ ap (λ k. left s k held done) (ap (λ (v : State). v.number) view)

-- there are none
pub is_none : {bytes : List ℕ} {b : Bool} → b ≡ (length bytes == 0) → b ≡ true → bytes ≡ []
is_none {bytes = bytes} e empty = nil_from_length bytes (eqb-true (length bytes) 0 (sym e ∙ empty))

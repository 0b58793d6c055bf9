-- What the start of a run leads to, with what it took and added.
use Rattle.std.proofs.Common.{◌≡◌, ℕ, ◌≤◌, ◌==◌, Bool, true, false, List, [], ◌∷◌, ◌++◌, Option, Some, None, Result, Ok, Err, if◌then◌else◌, refl, sym, ◌∙◌, ap, subst, arith, append-nil}
use Rattle.std.specs.Prelude.{nat_lt}
use Rattle.chk_bytes.specs.Numbers.{spelled}
use Rattle.chk_site.specs.declared.acts.Call.TheVariants.{Start, Read, Size, Remove, Cut}
use Rattle.chk_site.specs.declared.acts.OutsideFault.{OutsideFault}
use Rattle.chk_site.specs.declared.acts.Who.{Who}
use Rattle.chk_site.specs.History.{History}
use Rattle.chk_site.specs.Runs.{Leads, MadeInTurn, finished, went_on}
use Rattle.chk_site.specs.Site.{Adds, Asked, asked, bytes_given, sized}
use Rattle.chk_site.proofs.Leads.{leads_then, leads_as, leads_none, done_leads, Keeps, taken_leads}
use Rattle.chk_wahead.specs.declared.fault.WaheadFault.{WaheadFault}
use Rattle.chk_wahead.specs.declared.fault.WaheadFault.TheVariants.{NoMemory}
use Rattle.chk_wahead.specs.Faults.{wahead_fault}
use Rattle.chk_wahead.specs.Names.{writer, buffer_name, mark_name, closed_name}
use Rattle.chk_wahead.specs.Starting.{is_number, small_of, left_buffer, left_mark, plan_beside, plan_without, found_of, plan_of, settling, number_in, damaged_file}
use Rattle.chk_wahead.specs.Scripts.{shutting}
use Rattle.chk_wahead.specs.States.{State}
use Rattle.chk_wahead.specs.Telling.{TakenOnce, looked, Starts, unbegun, unlooked, damaged, unnamed, settled, start_result, starting, started}
use Rattle.chk_udp_laws.specs.Marked.{tally, took, joined}
use Rattle.chk_udp_laws.specs.Histories.{IsApart}
use Rattle.chk_udp_laws.proofs.Naming.{B, M, N, C}
use Rattle.chk_udp_laws.proofs.Phases.{All, Plain, S, mine, owned, tally_own, took_own, tally_other, took_other}
use Rattle.chk_udp_laws.proofs.Marking.{Idle}
use Rattle.chk_udp_laws.proofs.Looking.{Before, look_script, next_good, mark_good, beside_number, beside_mark, not_zero, start_leads}
use Rattle.chk_udp_laws.proofs.Ledger.{all_in, Ledger, keeps_ledger, AllEven}
use Rattle.chk_udp_laws.proofs.Leaving.{both_lead, by_even, removes, renames, cuts, Shown, outside_shown}

-- one of two
if_by : {A : Type 0} (P : A → Type 0) (b : Bool) {x y : A} → P x → P y
    → P (if b then x else y)
if_by P true p q = p
if_by P false p q = q

-- what each list of calls has that may be made of what was found, that has the one that is made
module _ (who : Who) (P : List Asked → Type 0) where
  abbrev Rename_it : ℕ → List Asked
  Rename_it k = shutting who (buffer_name who.name) (closed_name who.name k) (mark_name who.name)

  module _ (none : P []) (unmark : P (asked who Remove (mark_name who.name ∷ []) 0 0 ∷ []))
      (drop : P (asked who Remove (buffer_name who.name ∷ []) 0 0 ∷ []))
      (close : (k size : ℕ)
      → P (asked who Cut (buffer_name who.name ∷ []) size 0 ∷ Rename_it k)) where
    unmarked : (k : ℕ) (m : List ℕ) → P (settling who (left_mark k (small_of (Some m))))
    unmarked k m =
        if_by (λ s. P (settling who (left_mark k s))) (is_number m)
        (if_by (λ p. P (settling who p)) (spelled m == 0) none unmark) none

    closed_by : (k : ℕ) (m : List ℕ) (size : ℕ)
        → P (settling who (left_buffer k (small_of (Some m)) size))
    closed_by k m size =
        if_by (λ s. P (settling who (left_buffer k s size))) (is_number m)
        (if_by (λ p. P (settling who p)) (spelled m == 0) none
        (if_by (λ p. P (settling who p)) (nat_lt size (spelled m)) none
        (close k (spelled m)))) none

    pub settling_by : (next mark : Option (List ℕ)) (size : Option ℕ)
        → P (settling who (plan_of (found_of next mark size)))
    settling_by None None None = none
    settling_by None (Some m) None = unmarked 0 m
    settling_by None mark (Some size) = none
    settling_by (Some x) None None =
        if_by (λ s. P (settling who (plan_without s (small_of None)))) (is_number x) none none
    settling_by (Some x) (Some m) None =
        if_by (λ s. P (settling who (plan_without s (small_of (Some m))))) (is_number x)
        (unmarked (spelled x) m) none
    settling_by (Some x) None (Some size) =
        if_by (λ s. P (settling who (plan_beside s (small_of None) size))) (is_number x)
        (if_by (λ p. P (settling who p)) (spelled x == 0) none drop) none
    settling_by (Some x) (Some m) (Some size) =
        if_by (λ s. P (settling who (plan_beside s (small_of (Some m)) size))) (is_number x)
        (if_by (λ p. P (settling who p)) (spelled x == 0) none (closed_by (spelled x) m size)) none

module _ (n : List ℕ) where
  -- what was found is never damaged
  sound : (next mark : Option (List ℕ)) (size : Option ℕ) (h : History)
      → Before n next mark size h → damaged_file n (plan_of (found_of next mark size)) ≡ None
  sound None None None h b = refl
  sound None (Some m) None h b =
      let g = mark_good n None m None h b in rw (g.0, g.1) refl
  sound None mark (Some size) h b =
      absurd (let some : 1 ≤ 0 = beside_number n None mark size h b in
      let z : ⊥ = omega (arith, some) in z)
  sound (Some x) None None h b = rw (next_good n x None None h b) refl
  sound (Some x) (Some m) None h b =
      let g = mark_good n (Some x) m None h b in
      rw (next_good n x (Some m) None h b, g.0, g.1) refl
  sound (Some x) None (Some size) h b =
      rw (
        next_good n x None (Some size) h b,
        not_zero n (spelled x) (beside_number n (Some x) None size h b),
      ) refl
  sound (Some x) (Some m) (Some size) h b =
      let g = mark_good n (Some x) m (Some size) h b in
      rw (
        next_good n x (Some m) (Some size) h b,
        not_zero n (spelled x) (beside_number n (Some x) (Some m) size h b),
        g.0,
        g.1,
        beside_mark n (Some x) m size h b,
      ) refl

module _ (n d : List ℕ) (l : List (List ℕ)) where
  abbrev L : List (List ℕ) → History → Type 0
  L last = Ledger n d l last

  -- before the start this is saved, and this was taken
  pub record Prior (h : History) : Type 0 where
    pub saved : joined (tally n h).saved ≡ d
    pub took_is : took n h ≡ l

  keeps_prior : Keeps (IsApart n) Prior
  keeps_prior before step theirs apart b = record {
    saved = ap (λ t. joined t.saved) (tally_other n before step apart.by) ∙ b.saved;
    took_is = took_other n before step apart.by ∙ b.took_is;
  }

  start_ledger : {old new : Option History} → MadeInTurn (starting (writer n)) (Ok tt) old new
      → Adds old new (Leads (S n) Prior (L []))
  start_ledger (went_on given is told finished) =
      done_leads given (owned n (mine n Start [] 0 0)) is keeps_prior
      (λ answer was before files logs running honest b. record {
        more = [];
        took_is = took_own n Start [] 0 0 answer files logs before
            ∙ (append-nil (took n before) ∙ (b.took_is ∙ sym (append-nil l)));
        all_is = ap all_in (tally_own n Start [] 0 0 answer files logs before)
            ∙ ap (λ x. x ++ []) b.saved;
      })
      told

  even_leads : {qs : List Asked} {old new : Option History} → AllEven n d l qs
      → MadeInTurn qs (Ok tt) old new → Adds old new (Leads (S n) (L []) (L []))
  even_leads {old = old} all finished = leads_none old (λ h x. x)
  even_leads {qs = q ∷ qs} all (went_on given is told script) =
      leads_then
      (done_leads {A = L []} {B = L []} given (owned n q) is (keeps_ledger n d l [])
      (λ answer was before files logs running honest b. all.0 [] answer before files logs b) told)
      (even_leads all.1 script)

  settling_even : (next mark : Option (List ℕ)) (size : Option ℕ)
      → AllEven n d l (settling (writer n) (plan_of (found_of next mark size)))
  settling_even next mark size =
      settling_by (writer n) (AllEven n d l) tt (removes n d l (M n), tt) (removes n d l (B n), tt)
      (λ k size. (
        cuts n d l (B n) size,
        (
          renames n d l (B n) (C n k),
          (removes n d l (M n), tt),
        ),
      )) next mark size

  read_ledger : (w : List ℕ) (taken : Option (List ℕ)) {old new : Option History}
      → TakenOnce (mine n Read (w ∷ []) 0 9) bytes_given (Ok taken) old new
      → Adds old new (Leads (S n) (L []) (L []))
  read_ledger w taken t =
      taken_leads bytes_given t.given taken (owned n (mine n Read (w ∷ []) 0 9)) t.came
      (keeps_ledger n d l [])
      (λ answer came before files logs running honest b.
      by_even n d l Read (w ∷ []) 0 9
      (record { by = λ answer before after t. refl; gives = λ answer. refl }) [] answer before files
      logs b)
      t.told

  size_ledger : (w : List ℕ) (taken : Option ℕ) {old new : Option History}
      → TakenOnce (mine n Size (w ∷ []) 0 0) sized (Ok taken) old new
      → Adds old new (Leads (S n) (L []) (L []))
  size_ledger w taken t =
      taken_leads sized t.given taken (owned n (mine n Size (w ∷ []) 0 0)) t.came
      (keeps_ledger n d l [])
      (λ answer came before files logs running honest b.
      by_even n d l Size (w ∷ []) 0 0
      (record { by = λ answer before after t. refl; gives = λ answer. refl }) [] answer before files
      logs b)
      t.told

  -- what a start leads to
  abbrev pub Begun : Result State WaheadFault → History → Type 0
  Begun (Ok s) h = Plain n s.number Idle h × L [] h
  Begun (Err fault) h = Shown n fault h

  abbrev Before0 : History → Type 0
  Before0 h = All n h × Prior h

  settled_after : (next mark : Option (List ℕ)) (size : Option ℕ)
      (outside : Result (Unit {0}) OutsideFault) {old mid late last low new : Option History}
      → Starts (writer n) (start_result (writer n)
      (number_in (plan_of (found_of next mark size))) outside) old new
      → MadeInTurn (starting (writer n)) (Ok tt) old mid
      → TakenOnce (mine n Read (N n ∷ []) 0 9) bytes_given (Ok next) mid late
      → TakenOnce (mine n Read (M n ∷ []) 0 9) bytes_given (Ok mark) late last
      → TakenOnce (mine n Size (B n ∷ []) 0 0) sized (Ok size) last low
      → MadeInTurn (settling (writer n) (plan_of (found_of next mark size))) outside low new
      → Adds old new (Leads (S n) Before0 (Begun (start_result (writer n)
      (number_in (plan_of (found_of next mark size))) outside)))
  settled_after next mark size (Ok value) starts one two three four made =
      both_lead
      (start_leads n (Ok (started (writer n) (number_in (plan_of (found_of next mark size)))))
      starts)
      (leads_then (start_ledger one) (leads_then (read_ledger (N n) next two)
      (leads_then (read_ledger (M n) mark three)
      (leads_then (size_ledger (B n) size four)
      (even_leads (settling_even next mark size) made)))))
  settled_after next mark size (Err fault) starts one two three four made =
      leads_as (λ h x. x.0) (λ h x. outside_shown n fault h)
      (start_leads n (Err (wahead_fault fault)) starts)

  pub starts_after : (result : Result State WaheadFault) {old new : Option History}
      → Starts (writer n) result old new → Adds old new (Leads (S n) Before0 (Begun result))
  starts_after result (unbegun {now = now}) = leads_none now (λ h a. tt)
  starts_after result (unlooked {fault = fault} looks) =
      leads_as (λ h x. x.0) (λ h a. outside_shown n fault h)
      (start_leads n (Err (wahead_fault fault)) (unlooked looks))
  starts_after result (damaged {name = name} (looked {next = next} {mark = mark} {size =
      size} script one two three e) is) =
      leads_as (λ h x. x.0)
      (λ h b.
      let none = sound n next mark size h b in
      let some : damaged_file n (plan_of (found_of next mark size)) ≡ Some name =
      subst (λ f. damaged_file n (plan_of f) ≡ Some name) e is in
      absurd (let z : ◌≡◌ {A = Option (List ℕ)} None (Some name) = sym none ∙ some in cc))
      (look_script n next mark size script one two three)
  starts_after result (unnamed {name = name} looks is) =
      leads_as (λ h x. x.0) (λ h a. tt)
      (start_leads n (Err NoMemory) (unnamed {name = name} looks is))
  starts_after result (settled {outside = outside} {old = old} {mid = mid} {new = new}
      (looked {next = next} {mark = mark} {size = size} {found = found} script one two three e) is
      made) =
      subst (λ f. damaged_file n (plan_of f) ≡ None
      → MadeInTurn (settling (writer n) (plan_of f)) outside mid new
      → Adds old new (Leads (S n) Before0
      (Begun (start_result (writer n) (number_in (plan_of f)) outside)))) (sym e)
      (λ is made. settled_after next mark size outside
      (settled {outside = outside} (looked script one two three refl) is made)
      script one two three made) is made

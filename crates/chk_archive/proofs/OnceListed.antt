-- How often a call lists the sinks.
use Rattle.std.proofs.Common.{◌≡◌, inl, inr, ℕ, ◌+◌, ◌≤◌, Bool, true, false, List, [], ◌∷◌, ◌++◌, Option, Ok, Err, Result, ap, sym, ◌∙◌, refl, arith, true≢false, if◌then◌else◌, cond}
use Rattle.std.specs.Prelude.{IfOk, IfErr, OnOk, codes, count_by}
use Rattle.std.proofs.lemmas.List.Sums.{sum_by-append, sum_by-cons}
use Rattle.std.proofs.lemmas.Bool.{and_parts}
use Rattle.chk_site.specs.declared.acts.Act.{Act}
use Rattle.chk_site.specs.declared.acts.ActAnswer.TheVariants.{Done}
use Rattle.chk_site.specs.declared.acts.Role.TheVariants.{Job}
use Rattle.chk_site.specs.Acts.{Deed, Lists, deed, same_role}
use Rattle.chk_site.specs.History.{History, Every, IsTheirs, is_stopped}
use Rattle.chk_site.specs.Site.{Adds, Asked, Acted, Added, Calls, own_step, answered, names_given}
use Rattle.chk_site.specs.Runs.{own_acts}
use Rattle.chk_site.specs.declared.acts.OutsideFault.{OutsideFault}
use Rattle.chk_site.specs.declared.acts.CallFault.{CallFault}
use Rattle.chk_site.specs.declared.acts.CallFault.TheVariants.{Failed, Missing, Exists, Short, NoMemory}
use Rattle.chk_site.specs.declared.acts.ActAnswer.{ActAnswer}
use Rattle.chk_site.proofs.Runs.{adds_as, adds_then, ran}
use Rattle.chk_world.specs.JobSteps.{IsOf}
use Rattle.chk_world.specs.Sight.{job}
use Rattle.chk_record_index.specs.declared.fault.JobFault.{JobFault}
use Rattle.chk_archive.specs.Archived.{GivenOnce, ListedOnce, ListsNoSinks, gives_sinks, is_job_listing, is_sinks_listing, lists_sinks}
use Rattle.chk_archive.specs.Calling.{listing, Listed}

-- ---- how often the sinks were listed

-- so often, and unlike more where it isn't said
abbrev pub Counted : ℕ → History → History → Type 0
Counted n added history = count_by lists_sinks (own_acts added) ≡ n

-- steps that list other folders don't list the sinks
pub none_listed : (K : Deed → Type 0) → ((call : Deed) → K call → is_sinks_listing call ≡ false)
    → {old new : Option History} → Adds old new (Every (IsOf K)) → Adds old new (Counted 0)
none_listed K none own = adds_as (Counted 0) own (λ added history made. go added history made)
  where
    go : (added history : History) → Every (IsOf K) added history
        → count_by lists_sinks (own_acts added) ≡ 0
    go [] history made = refl
    go (step ∷ added) history made = elim made.1 [
      | inl theirs ↦
          ap (λ t. count_by lists_sinks (if t then step.act ∷ own_acts added else own_acts added)) theirs.0
          ∙ go added history made.0
      | inr mine ↦
          ap (λ t. count_by lists_sinks (if t then step.act ∷ own_acts added else own_acts added)) mine.0.own
          ∙ (one (lists_sinks step.act) (own_acts added) step.act refl (none (deed step.act) mine.1)
          ∙ go added history made.0)
    ]
      where
        one : (b : Bool) (acts : List Act) (a : Act) → lists_sinks a ≡ b → lists_sinks a ≡ false
            → count_by lists_sinks (a ∷ acts) ≡ count_by lists_sinks acts
        one b acts a is unlike = rw unlike refl

pub own_join : (b a : History) → own_acts (b ++ a) ≡ own_acts b ++ own_acts a
own_join [] a = refl
own_join (step ∷ b) a = go step.own (own_join b a)
  where
    go : (t : Bool) → own_acts (b ++ a) ≡ own_acts b ++ own_acts a
        → (if t then step.act ∷ own_acts (b ++ a) else own_acts (b ++ a))
        ≡ (if t then step.act ∷ own_acts b else own_acts b) ++ own_acts a
    go true rest = ap (λ l. step.act ∷ l) rest
    go false rest = rest

count_join : (xs ys : List Act) → count_by lists_sinks (xs ++ ys) ≡ count_by lists_sinks xs + count_by lists_sinks ys
count_join xs ys = sum_by-append (λ x. cond (lists_sinks x) 1 0) xs ys

at_most : {n : ℕ} → n ≡ 1 → n ≤ 1
at_most e = omega (arith, e)

none_most : {n : ℕ} → n ≡ 0 → n ≤ 1
none_most e = omega (arith, e)

-- the steps of two calls
joined : (b a : History)
    → count_by lists_sinks (own_acts (b ++ a)) ≡ count_by lists_sinks (own_acts b) + count_by lists_sinks (own_acts a)
joined b a = ap (count_by lists_sinks) (own_join b a) ∙ count_join (own_acts b) (own_acts a)

-- calls behind others
pub listed_then : {m n : ℕ} {old mid new : Option History} → Adds old mid (Counted m) → Adds mid new (Counted n)
    → Adds old new (Counted (n + m))
listed_then {m = m} {n = n} first second =
    adds_then (Counted (n + m)) first second
    (λ a b history p q.
    joined b a ∙ (ap (λ k. k + count_by lists_sinks (own_acts a)) q ∙ ap (λ k. n + k) p))

-- a refusal before the listing
pub refused_before : (T : Type 0) (fault : JobFault) {old new : Option History} → Adds old new ListsNoSinks
    → Adds old new (ListedOnce {T = T} (Err fault))
refused_before T fault none =
    adds_as (ListedOnce {T = T} (Err fault)) none (λ added history e. none_most e)

-- a refusal of the listing
pub refused_then : (T U : Type 0) (fault : OutsideFault) (last : JobFault) {old mid new : Option History}
    → Adds old mid ListsNoSinks → Adds mid new (ListedOnce {T = T} (Err fault))
    → Adds old new (ListedOnce {T = U} (Err last))
refused_then T U fault last first second =
    adds_then (ListedOnce {T = U} (Err last)) first second
    (λ a b history p q. let e = joined b a in omega (arith, e, p, q))

-- a listing between calls that list others
pub listed_between : {T U : Type 0} (names : T) (r : Result U JobFault) {old mid next new : Option History}
    → Adds old mid ListsNoSinks → Adds mid next (ListedOnce {E = OutsideFault} (Ok names)) → Adds next new ListsNoSinks
    → Adds old new (ListedOnce r)
listed_between {U = U} names r first listing last =
    adds_as (ListedOnce r) (listed_then {m = 1} {n = 0} (listed_then {m = 0} {n = 1} first listing) last)
    (λ added history e. go r added history e)
  where
    go : (r : Result U JobFault) (added history : History) → Counted 1 added history → ListedOnce r added history
    go (Ok value) added history e = e
    go (Err fault) added history e = at_most e

-- ---- one listing

pub theirs_none : (added history : History) → Every IsTheirs added history → own_acts added ≡ []
theirs_none [] history theirs = refl
theirs_none (step ∷ added) history theirs =
    ap (λ t. if t then step.act ∷ own_acts added else own_acts added) theirs.1.0
    ∙ theirs_none added history theirs.0

abbrev Q : Asked
Q = listing job (codes "sinks")

acted_one : {answer : ActAnswer} {added history : History} → Acted Q answer added history → Counted 1 added history
acted_one {answer = answer} {history = history} acted =
    ap (count_by lists_sinks) (ap own_acts acted.added_is
    ∙ ap (λ l. (own_step Q answer acted.files acted.logs).act ∷ l) (theirs_none acted.others history acted.theirs))

added_most : (r : Result ActAnswer CallFault) (added history : History) → Added Q r added history
    → count_by lists_sinks (own_acts added) ≤ 1
added_most (Ok answer) added history acted = at_most (acted_one acted)
added_most (Err NoMemory) added history theirs = none_most (ap (count_by lists_sinks) (theirs_none added history theirs))
added_most (Err Failed) added history (inl acted) = at_most (acted_one acted)
added_most (Err Failed) added history (inr stopped) = at_most (acted_one stopped.1)
added_most (Err Missing) added history acted = at_most (acted_one acted)
added_most (Err Exists) added history acted = at_most (acted_one acted)
added_most (Err (Short size)) added history acted = at_most (acted_one acted)

call_most : (r : Result ActAnswer CallFault) (added history : History) → Calls Q r added history
    → count_by lists_sinks (own_acts added) ≤ 1
call_most r added history calls = by (is_stopped history) refl
  where
    by : (b : Bool) → is_stopped history ≡ b → count_by lists_sinks (own_acts added) ≤ 1
    by true e = none_most (ap (λ a. count_by lists_sinks (own_acts a)) (calls.stopped e).0)
    by false e = added_most r added history (calls.running e)

-- of a listing of the sinks, by its result
pub once_listed : {T : Type 0} (items : T → List (List ℕ)) (r : Result T OutsideFault) {old new : Option History}
    → IfOk r (λ v. Listed job (codes "sinks") (Ok (items v)) old new)
    → IfErr r (λ fault. Listed job (codes "sinks") (Err fault) old new)
    → Adds old new (ListedOnce r)
once_listed items (Ok v) gave refused =
    adds_as (ListedOnce {E = OutsideFault} (Ok v)) gave
    (λ added history calls. acted_one (ran (Ok (names_given (items v))) (λ e. cc) calls))
once_listed {T = T} items (Err fault) gave refused =
    adds_as (ListedOnce {T = T} (Err fault)) refused.2
    (λ added history calls. call_most (answered names_given refused.0) added history calls)

-- ---- the names were given

-- a listing that gave names is a listing
given_listed : (call : Deed) (answer : ActAnswer) → gives_sinks call answer ≡ true → is_sinks_listing call ≡ true
given_listed (Lists folder) (Done names number of) e = e
given_listed call answer e = absurd (true≢false (sym e))

counted_less : (a : Act) → cond {A = ℕ} (is_job_listing a) 1 0 ≤ cond {A = ℕ} (lists_sinks a) 1 0
counted_less a = go (is_job_listing a) refl
  where
    go : (b : Bool) → is_job_listing a ≡ b → cond {A = ℕ} (is_job_listing a) 1 0 ≤ cond {A = ℕ} (lists_sinks a) 1 0
    go true is =
        let listed : lists_sinks a ≡ true =
        given_listed (deed a) a.answer (and_parts (same_role a.who.role Job) (gives_sinks (deed a) a.answer) is).1 in
        let one : cond {A = ℕ} (lists_sinks a) 1 0 ≡ 1 = ap (λ b. cond {A = ℕ} b 1 0) listed in
        let here : cond {A = ℕ} (is_job_listing a) 1 0 ≡ 1 = ap (λ b. cond {A = ℕ} b 1 0) is in
        omega (arith, one, here)
    go false is =
        let here : cond {A = ℕ} (is_job_listing a) 1 0 ≡ 0 = ap (λ b. cond {A = ℕ} b 1 0) is in
        omega (arith, here)

-- they are no more than the listings
given_less : (acts : List Act) → count_by is_job_listing acts ≤ count_by lists_sinks acts
given_less [] = omega arith
given_less (a ∷ acts) =
    let first = sum_by-cons (λ x. cond {A = ℕ} (is_job_listing x) 1 0) a acts in
    let second = sum_by-cons (λ x. cond {A = ℕ} (lists_sinks x) 1 0) a acts in
    let one = counted_less a in
    let rest = given_less acts in
    omega (arith, first, second, one, rest)

none_given : (added history : History) → ListsNoSinks added history → count_by is_job_listing (own_acts added) ≡ 0
none_given added history none = let less = given_less (own_acts added) in omega (arith, less, none)

given_join : (b a : History)
    → count_by is_job_listing (own_acts (b ++ a))
    ≡ count_by is_job_listing (own_acts b) + count_by is_job_listing (own_acts a)
given_join b a =
    ap (count_by is_job_listing) (own_join b a)
    ∙ sum_by-append (λ x. cond {A = ℕ} (is_job_listing x) 1 0) (own_acts b) (own_acts a)

-- a listing that gave names between calls that list none
pub given_between : {old mid next new : Option History} → Adds old mid ListsNoSinks → Adds mid next GivenOnce
    → Adds next new ListsNoSinks → Adds old new GivenOnce
given_between first given last =
    adds_then GivenOnce
    (adds_then GivenOnce first given
    (λ a b history p q. let all = given_join b a in let none = none_given a history p in omega (arith, all, none, q)))
    last
    (λ a b history p q.
    let all = given_join b a in let none = none_given b (a ++ history) q in omega (arith, all, none, p))

acted_given : {names : List (List ℕ)} {added history : History} → Acted Q (names_given names) added history
    → GivenOnce added history
acted_given {names = names} {history = history} acted =
    ap (count_by is_job_listing) (ap own_acts acted.added_is
    ∙ ap (λ l. (own_step Q (names_given names) acted.files acted.logs).act ∷ l) (theirs_none acted.others history acted.theirs))

-- of a listing of the sinks that gave names
pub once_given : {T : Type 0} (items : T → List (List ℕ)) (r : Result T OutsideFault) (old new : Option History)
    → IfOk r (λ v. Listed job (codes "sinks") (Ok (items v)) old new) → OnOk r (Adds old new GivenOnce)
once_given items (Ok v) old new gave =
    adds_as GivenOnce gave (λ added history calls. acted_given (ran (Ok (names_given (items v))) (λ e. cc) calls))
once_given items (Err fault) old new gave = tt

-- what holds at each end holds at Ok
pub at_ok : {T : Type 0} (r : Result T JobFault) (P : Type 0) → P → OnOk r P
at_ok (Ok value) P p = p
at_ok (Err fault) P p = tt

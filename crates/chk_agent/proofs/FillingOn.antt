-- A fill so far: what the steps have made of the state, and what is left of the order.
use Rattle.std.proofs.Common.{◌≡◌, inl, inr, ℕ, zero, suc, ◌+◌, ◌-◌, ◌≤◌, ◌<◌, true, false, List}
use Rattle.std.proofs.Common.{[], ◌∷◌, ◌++◌, length, Some, Option, None, Result, Ok, Err, ap, sym}
use Rattle.std.proofs.Common.{subst, ◌∙◌, refl, arith, true≢false, append_assoc, if◌then◌else◌}
use Rattle.std.specs.Prelude.{filter, slice_get, slice_set}
use Rattle.std.proofs.lemmas.List.Sums.{sum_by-append}
use Rattle.std.proofs.lemmas.Bool.{lt-ltb, le-ltb, cases_lt}
use Rattle.chk_site.specs.declared.acts.Role.TheVariants.{Agent}
use Rattle.chk_chunk.specs.declared.Chunk.{Chunk}
use Rattle.chk_agent_adaptor.specs.Steps.{IsStepped}
use Rattle.chk_site.specs.declared.acts.Call.{Call}
use Rattle.chk_site.specs.History.{History, is_stopped}
use Rattle.chk_site.proofs.Runs.{adds_then, adds_as}
use Rattle.chk_site.specs.Site.{Adds, EndsIn}
use Rattle.chk_site.specs.Runs.{Leads}
use Rattle.chk_site.proofs.Leads.{leads_then, leads_as, leads_none}
use Rattle.chk_tail.specs.declared.step.Step.{Step}
use Rattle.chk_tail.specs.declared.step.Step.TheVariants.{Bytes, AtEnd as gave_none}
use Rattle.chk_tail.specs.declared.step.Step.TheVariants.{Shrank as is_short}
use Rattle.chk_queue.specs.Queues.{data_size}
use Rattle.chk_world.specs.Places.{As}
use Rattle.chk_agent_adaptor.specs.Adaptors.{Adaptor, is_stepped}
use Rattle.chk_agent_delivery.specs.Turns.{is_held}
use Rattle.chk_agent.specs.declared.answers.AgentFault.{AgentFault}
use Rattle.chk_agent.specs.declared.answers.AgentFault.TheVariants.{Damaged, Outside, NoMemory}
use Rattle.chk_agent.specs.Faults.{FailsLast}
use Rattle.chk_agent.specs.declared.answers.Filled.{Filled}
use Rattle.chk_agent.specs.declared.answers.Filled.TheVariants.{Held, Shrank}
use Rattle.chk_agent.specs.declared.answers.Stepped.{Stepped}
use Rattle.chk_agent.specs.declared.answers.Stepped.TheVariants.{Read as step_read}
use Rattle.chk_agent.specs.declared.answers.Stepped.TheVariants.{AtEnd as step_at_end}
use Rattle.chk_agent.specs.declared.answers.Stepped.TheVariants.{Held as step_held}
use Rattle.chk_agent.specs.declared.answers.Stepped.TheVariants.{Shrank as step_shrank}
use Rattle.chk_agent.specs.States.{State, process, is_read_on, to_step, chunk_given}
use Rattle.chk_agent.specs.Fills.{after_step, given_bytes, filled_by, IsFilled, all_stepped, full}
use Rattle.chk_agent.specs.Fills.{none_before, stepped, shrank, refused as fill_refused}
use Rattle.chk_agent.specs.Fills.{unkept as fill_unkept, wanting as fill_wanting, step_answer}
use Rattle.chk_agent.specs.Fills.{IsOneStepped, held, made, refused, unkept, wanting}
use Rattle.chk_agent.specs.Facts.{Matches, AfterStep}
use Rattle.chk_agent.specs.Within.{first_of, number_at, held_by}
use Rattle.chk_agent.proofs.FillingOrder.{rest_from, order_is}
use Rattle.chk_site.proofs.LastCalls.{ends_in_both as ends_early}

-- those of these numbers whose adaptors are read in this state
abbrev pub left_of : State → ℕ → List ℕ
left_of s k =
    filter (λ i. is_read_on (slice_get s.adaptors i))
    (rest_from (length s.adaptors) (first_of (length s.adaptors) s.last) k (length s.adaptors - k))

-- the number at a place
abbrev pub at_place : State → ℕ → ℕ
at_place s k = number_at (length s.adaptors) (first_of (length s.adaptors) s.last) k

pub record FilledOn (s : State) (k : ℕ) (t : State) (before here : Option History) : Type 0 where
  pub sum : ℕ
  pub joins : (result : Result Filled AgentFault) (u : State) (later : Option History) → IsFilled (left_of s k) sum t result u here later
      → IsFilled (to_step s) 0 s result u before later
  pub same : (j : ℕ) → k ≤ j → j < length s.adaptors → slice_get t.adaptors (at_place s j) ≡ slice_get s.adaptors (at_place s j)
  pub told : (stamped : List (List ℕ)) → Adds before here (Leads (As stamped (process s)) (Matches stamped s) (Matches stamped t))
  pub size : data_size t.delivery.queue.chunks ≡ data_size s.delivery.queue.chunks + sum
  pub ready : t.ready ≡ true
  pub source : t.source ≡ s.source
  pub many : length t.adaptors ≡ length s.adaptors

-- before the first
pub fill_begun : (s : State) (now : Option History) → s.ready ≡ true → FilledOn s 0 s now now
fill_begun s now ready = record {
  sum = 0;
  joins = λ result u later f. subst (λ order. IsFilled order 0 s result u now later) begin f;
  same = λ j on below. refl;
  told = λ stamped. leads_none now (λ h x. x);
  size = omega arith;
  ready = ready;
  source = refl;
  many = refl;
}
  where
    begin : left_of s 0 ≡ to_step s
    begin =
        ap (λ n. filter (λ i. is_read_on (slice_get s.adaptors i)) (rest_from (length s.adaptors) (first_of (length s.adaptors) s.last) 0 n))
        (let z : length s.adaptors - 0 ≡ length s.adaptors = omega arith in z)
        ∙ ap (filter (λ i. is_read_on (slice_get s.adaptors i))) (order_is (length s.adaptors) s.last)

-- what is left at a place: its number, where its adaptor is read, and the rest
pub left_next : (s : State) (k : ℕ) → k < length s.adaptors
    → left_of s k ≡ (if is_read_on (slice_get s.adaptors (at_place s k)) then at_place s k ∷ left_of s (k + 1) else left_of s (k + 1))
left_next s k below =
    ap (λ n. filter (λ i. is_read_on (slice_get s.adaptors i)) (rest_from (length s.adaptors) (first_of (length s.adaptors) s.last) k n))
    (let z : length s.adaptors - k ≡ suc (length s.adaptors - (k + 1)) = omega (arith, below) in z)
    ∙ ap (λ j. if is_read_on (slice_get s.adaptors (at_place s k))
    then at_place s k ∷ filter (λ i. is_read_on (slice_get s.adaptors i))
    (rest_from (length s.adaptors) (first_of (length s.adaptors) s.last) j
    (length s.adaptors - (k + 1)))
    else filter (λ i. is_read_on (slice_get s.adaptors i))
    (rest_from (length s.adaptors) (first_of (length s.adaptors) s.last) j
    (length s.adaptors - (k + 1))))
    (let z : suc k ≡ k + 1 = omega arith in z)

-- one that isn't read is passed over
pub fill_skips : (s : State) (k : ℕ) (t : State) (before here : Option History) → FilledOn s k t before here → k < length s.adaptors
    → is_read_on (slice_get t.adaptors (at_place s k)) ≡ false → FilledOn s (k + 1) t before here
fill_skips s k t before here f below unread = record {
  sum = f.sum;
  joins = λ result u later g. f.joins result u later (subst (λ order. IsFilled order f.sum t result u here later) (sym left) g);
  same = λ j on less. f.same j (omega (arith, on)) less;
  told = f.told;
  size = f.size;
  ready = f.ready;
  source = f.source;
  many = f.many;
}
  where
    left : left_of s k ≡ left_of s (k + 1)
    left =
        left_next s k below
        ∙ ap (λ b. if b then at_place s k ∷ left_of s (k + 1) else left_of s (k + 1))
        (ap is_read_on (sym (f.same k (omega arith) below)) ∙ unread)

-- ---- the exits of a step, as those of a fill

abbrev ok_of : Stepped → Result Stepped AgentFault
ok_of r = Ok r

abbrev err_of : AgentFault → Result Stepped AgentFault
err_of f = Err f

held_with : (x : ℕ) (order : List ℕ) (sum : ℕ) (t : State) (used : ℕ) (now : Option History) → is_held t.delivery ≡ true
    → used ≡ data_size t.delivery.queue.chunks → IsFilled (x ∷ order) sum t (Ok (held_by used sum)) t now now
held_with x order zero t used now room is =
    subst (λ k. IsFilled (x ∷ order) 0 t (Ok (Held k)) t now now) (sym is) (none_before room)
held_with x order (suc n) t used now room is = full room (omega arith)

answer_held : (step : Step) (used : ℕ) → step_answer step ≡ step_held used → ⊥
answer_held (Bytes bytes end) used e = cc
answer_held gave_none used e = cc
answer_held (is_short had is) used e = cc

same_ok : {a b : Stepped} → ok_of a ≡ ok_of b → a ≡ b
same_ok e = cc

pub held_fills : (x : ℕ) (a : Adaptor) (t u : State) (order : List ℕ) (sum used : ℕ) (res : Result Stepped AgentFault) {here new : Option History}
    → IsOneStepped x a t res u here new → res ≡ Ok (step_held used) → IsFilled (x ∷ order) sum t (Ok (held_by used sum)) u here new
held_fills x a t u order sum used res (held {now = now} room) e =
    held_with x order sum t used now room (used_is e)
  where
    used_is : ok_of (step_held (data_size t.delivery.queue.chunks)) ≡ Ok (step_held used) → used ≡ data_size t.delivery.queue.chunks
    used_is e = cc
held_fills x a t u order sum used res (made b step room st) e = absurd (answer_held step used (same_ok e))
held_fills x a t u order sum used res (refused b fault room st) e = absurd (cc)
held_fills x a t u order sum used res (unkept b step room st) e = absurd (cc)
held_fills x a t u order sum used res (wanting room) e = absurd (cc)

pub err_fills : (x : ℕ) (a : Adaptor) (t u : State) (order : List ℕ) (sum : ℕ) (fault : AgentFault)
    (res : Result Stepped AgentFault) {here new : Option History}
    → slice_get t.adaptors x ≡ Some a → is_stepped a.phase ≡ true
    → IsOneStepped x a t res u here new → res ≡ Err fault → IsFilled (x ∷ order) sum t (Err fault) u here new
err_fills x a t u order sum fault res at on (held room) e = absurd (cc)
err_fills x a t u order sum fault res at on (made b step room st) e = absurd (cc)
err_fills x a t u order sum fault res {here = here} {new = new} at on (refused b f room st) e =
    subst (λ f. IsFilled (x ∷ order) sum t (Err f) t here new) (same_err e) (fill_refused a b f room at on st)
  where
    same_err : {f g : AgentFault} → err_of f ≡ err_of g → f ≡ g
    same_err e = cc
err_fills x a t u order sum fault res {here = here} {new = new} at on (unkept b step room st) e =
    subst (λ f. IsFilled (x ∷ order) sum t (Err f) t here new) (same_err e) (fill_unkept a b step room at on st)
  where
    same_err : {f g : AgentFault} → err_of f ≡ err_of g → f ≡ g
    same_err e = cc
err_fills x a t u order sum fault res {here = here} at on (wanting room) e =
    subst (λ f. IsFilled (x ∷ order) sum t (Err f) t here here) (same_err e) (fill_wanting room)
  where
    same_err : {f g : AgentFault} → err_of f ≡ err_of g → f ≡ g
    same_err e = cc

answer_short : (step : Step) (had size : ℕ) → step_answer step ≡ step_shrank had size → step ≡ is_short had size
answer_short (Bytes bytes end) had size e = absurd (cc)
answer_short gave_none had size e = absurd (cc)
answer_short (is_short had' size') had size e = cc

pub shrank_fills : (x : ℕ) (a : Adaptor) (t u : State) (order : List ℕ) (sum had size : ℕ) (res : Result Stepped AgentFault) {here new : Option History}
    → slice_get t.adaptors x ≡ Some a → is_stepped a.phase ≡ true
    → IsOneStepped x a t res u here new → res ≡ Ok (step_shrank had size) → IsFilled (x ∷ order) sum t (Ok (Shrank x had size)) u here new
shrank_fills x a t u order sum had size res at on (held room) e = absurd (cc)
shrank_fills x a t u order sum had size res {here = here} {new = new} at on (made b step room st) e =
    let is = answer_short step had size (same_ok e) in
    subst (λ k. IsFilled (x ∷ order) sum t (Ok (Shrank x had size)) (after_step x k a b t) here new) (sym is)
    (shrank a b had size room at on (subst (λ k. IsStepped (process t) a (Ok k) b here new) is st))
shrank_fills x a t u order sum had size res at on (refused b fault room st) e = absurd (cc)
shrank_fills x a t u order sum had size res at on (unkept b step room st) e = absurd (cc)
shrank_fills x a t u order sum had size res at on (wanting room) e = absurd (cc)

-- ---- a step that gave bytes, or none

-- how many bytes
abbrev pub GaveSo : ℕ → Stepped → Type 0
GaveSo n (step_read k) = n ≡ k
GaveSo n step_at_end = n ≡ 0
GaveSo n r = ⊥

gave : (step : Step) (n : ℕ) → GaveSo n (step_answer step) → given_bytes step ≡ Some n
gave (Bytes bytes end) n g = ap (λ k. Some k) (sym g)
gave gave_none n g = ap (λ k. Some k) (sym g)
gave (is_short had size) n g = absurd g

size_more : (chunks : List Chunk) (c : Chunk) → data_size (chunks ++ c ∷ []) ≡ data_size chunks + length c.body
size_more chunks c =
    sum_by-append (λ (c : Chunk). length c.body) chunks (c ∷ [])
    ∙ ap (λ k. data_size chunks + k) (let z : 0 + length c.body ≡ length c.body = omega arith in z)

size_after : (x : ℕ) (step : Step) (a b : Adaptor) (t : State) (n : ℕ) → GaveSo n (step_answer step)
    → data_size (after_step x step a b t).delivery.queue.chunks ≡ data_size t.delivery.queue.chunks + n
size_after x (Bytes bytes end) a b t n g =
    size_more t.delivery.queue.chunks (chunk_given t a bytes end) ∙ ap (λ k. data_size t.delivery.queue.chunks + k) (sym g)
size_after x gave_none a b t n g = omega (arith, g)
size_after x (is_short had size) a b t n g = absurd g

set_other : (xs : List Adaptor) (i j : ℕ) (b : Adaptor) → (j ≡ i → ⊥) → slice_get (slice_set xs i b) j ≡ slice_get xs j
set_other [] i j b other = refl
set_other (y ∷ xs) zero zero b other = absurd (other refl)
set_other (y ∷ xs) zero (suc j) b other = refl
set_other (y ∷ xs) (suc i) zero b other = refl
set_other (y ∷ xs) (suc i) (suc j) b other = set_other xs i j b (λ e. other (ap suc e))

set_size : (xs : List Adaptor) (i : ℕ) (b : Adaptor) → length (slice_set xs i b) ≡ length xs
set_size [] i b = refl
set_size (y ∷ xs) zero b = refl
set_size (y ∷ xs) (suc i) b = ap suc (set_size xs i b)

first_within : (count : ℕ) (last : Option ℕ) → first_of count last ≤ count
first_within count None = omega arith
first_within count (Some i) = elim (cases_lt i count) [
  | inl below ↦ let e = ap (λ b. if b then i + 1 else 0) (lt-ltb i count below) in omega (arith, below, e)
  | inr past ↦ let e = ap (λ b. if b then i + 1 else 0) (le-ltb i count past) in omega (arith, past, e)
]

-- two places have two numbers
apart : (count first j k : ℕ) → first ≤ count → j < count → k < count → number_at count first j ≡ number_at count first k → j ≡ k
apart count first j k few jn kn e = elim (cases_lt j (count - first)) [
  | inl jl ↦ elim (cases_lt k (count - first)) [
    | inl kl ↦
        let p = ap (λ b. if b then first + j else j - (count - first)) (lt-ltb j (count - first) jl) in
        let q = ap (λ b. if b then first + k else k - (count - first)) (lt-ltb k (count - first) kl) in omega (arith, e, p, q)
    | inr kh ↦
        let p = ap (λ b. if b then first + j else j - (count - first)) (lt-ltb j (count - first) jl) in
        let q = ap (λ b. if b then first + k else k - (count - first)) (le-ltb k (count - first) kh) in omega (arith, e, p, q, few, kn, kh)
  ]
  | inr jh ↦ elim (cases_lt k (count - first)) [
    | inl kl ↦
        let p = ap (λ b. if b then first + j else j - (count - first)) (le-ltb j (count - first) jh) in
        let q = ap (λ b. if b then first + k else k - (count - first)) (lt-ltb k (count - first) kl) in omega (arith, e, p, q, few, jn, jh)
    | inr kh ↦
        let p = ap (λ b. if b then first + j else j - (count - first)) (le-ltb j (count - first) jh) in
        let q = ap (λ b. if b then first + k else k - (count - first)) (le-ltb k (count - first) kh) in omega (arith, e, p, q, jh, kh)
  ]
]

pub fill_steps : (s : State) (k : ℕ) (t u : State) (a : Adaptor) (r : Stepped) (n : ℕ) (res : Result Stepped AgentFault) {before here new : Option History}
    → FilledOn s k t before here → k < length s.adaptors → slice_get t.adaptors (at_place s k) ≡ Some a → is_stepped a.phase ≡ true
    → IsOneStepped (at_place s k) a t res u here new → res ≡ Ok r → GaveSo n r
    → (y : ℕ) → ((stamped : List (List ℕ)) → Adds here new (Leads (As stamped (process t)) (Matches stamped t) (AfterStep stamped y u res)))
    → FilledOn s (k + 1) u before new
fill_steps s k t u a r n res f below at on (held room) e g y told = absurd (not_held r n (same_ok e) g)
  where
    not_held : (r : Stepped) (n : ℕ) → step_held (data_size t.delivery.queue.chunks) ≡ r → GaveSo n r → ⊥
    not_held r n is g = subst (GaveSo n) (sym is) g
fill_steps s k t u a r n res {before = before} {here = here} {new = new} f below at on (made b step room st) e g y told =
    let x = at_place s k in
    let so : GaveSo n (step_answer step) = subst (GaveSo n) (sym (same_ok e)) g in
    record {
      sum = f.sum + n;
      joins = λ result v later h. f.joins result v later
          (subst (λ order. IsFilled order f.sum t result v here later) (sym (left step))
          (stepped a b step n room at on st (gave step n so) h));
      same = λ j later less. set_other t.adaptors x (at_place s j) b
          (λ e. let z : j ≡ k = apart (length s.adaptors) (first_of (length s.adaptors) s.last) j k (first_within (length s.adaptors) s.last) less below e in
          omega (arith, z, later)) ∙ f.same j (omega (arith, later)) less;
      told = λ stamped. leads_then (f.told stamped)
          (subst (λ source. Adds here new
          (Leads (As stamped (record { role = Agent; name = source })) (Matches stamped t)
          (Matches stamped (after_step x step a b t))))
          f.source (leads_as (λ h z. z) (λ h z. z.matches) (told stamped)));
      size = let now = size_after x step a b t n so in let was = f.size in omega (arith, now, was);
      ready = f.ready;
      source = f.source;
      many = set_size t.adaptors x b ∙ f.many;
    }
  where
    left : (step : Step) → left_of s k ≡ at_place s k ∷ left_of s (k + 1)
    left step =
        left_next s k below
        ∙ ap (λ b. if b then at_place s k ∷ left_of s (k + 1) else left_of s (k + 1))
        (ap is_read_on (sym (f.same k (omega arith) below) ∙ at) ∙ on)
fill_steps s k t u a r n res f below at on (refused b fault room st) e g y told = absurd (cc)
fill_steps s k t u a r n res f below at on (unkept b step room st) e g y told = absurd (cc)
fill_steps s k t u a r n res f below at on (wanting room) e g y told = absurd (cc)

-- all were stepped
pub fill_ends : (s : State) (k : ℕ) (t : State) (before here : Option History) → FilledOn s k t before here → length s.adaptors ≤ k
    → (sum : ℕ) → data_size t.delivery.queue.chunks ≡ data_size s.delivery.queue.chunks + sum
    → IsFilled (to_step s) 0 s (Ok (filled_by sum)) t before here
fill_ends s k t before here f past sum is =
    let same : f.sum ≡ sum = let size = f.size in omega (arith, size, is) in
    subst (λ k. IsFilled (to_step s) 0 s (Ok (filled_by k)) t before here) same
    (f.joins (Ok (filled_by f.sum)) t here (subst (λ order. IsFilled order f.sum t (Ok (filled_by f.sum)) t here here) (sym none) all_stepped))
  where
    none : left_of s k ≡ []
    none =
        ap (λ n. filter (λ i. is_read_on (slice_get s.adaptors i)) (rest_from (length s.adaptors) (first_of (length s.adaptors) s.last) k n))
        (let z : length s.adaptors - k ≡ 0 = omega (arith, past) in z)

-- ---- the last call

abbrev failed_with : (T : Type 0) → AgentFault → Result T AgentFault
failed_with T fault = Err fault

-- the failure of a call behind others is the last one of all
pub last_on : {T U : Type 0} (r : Result T AgentFault) (q : Result U AgentFault) (fault : AgentFault) {before here new : Option History}
    {P : History → History → Type 0} → Adds before here P → r ≡ Err fault → q ≡ Err fault → Adds here new (FailsLast r) → Adds before new (FailsLast q)
last_on {T = T} {U = U} r q fault {before = before} {here = here} {new = new} earlier is so told =
    subst (λ q. Adds before new (FailsLast q)) (sym so)
    (adds_then (FailsLast (failed_with U fault)) earlier (subst (λ r. Adds here new (FailsLast r)) is told)
    (λ a b history x y. by fault a b history y))
  where
    by : (fault : AgentFault) (a b history : History) → FailsLast (failed_with T fault) b (a ++ history) → FailsLast (failed_with U fault) (b ++ a) history
    by (Outside call) a b history y = λ run. ends_early call b a (y (subst (λ h. is_stopped h ≡ false) (append_assoc b a history) run))
    by (Damaged at) a b history y = tt
    by NoMemory a b history y = tt

pub last_none : {T : Type 0} (value : T) {before here : Option History} {P : History → History → Type 0} → Adds before here P
    → Adds before here (FailsLast {T = T} (Ok value))
last_none {T = T} value earlier = adds_as (FailsLast {T = T} (Ok value)) earlier (λ added history x. tt)

pub last_none_then : {T : Type 0} (value : T) {before here new : Option History} {P Q : History → History → Type 0} → Adds before here P → Adds here new Q
    → Adds before new (FailsLast {T = T} (Ok value))
last_none_then {T = T} value earlier later = adds_then (FailsLast {T = T} (Ok value)) earlier later (λ a b history x y. tt)

-- ---- what the calls of the loop say

pub place_is : (s : State) (n count first : ℕ) (last : Option ℕ) (k : ℕ) → n ≡ number_at count first k → count ≡ length s.adaptors
    → first ≡ first_of count last → last ≡ s.last → n ≡ at_place s k
place_is s n count first last k number count_is first_is last_is =
    number ∙ (λ i. number_at (count_is i) ((first_is ∙ (λ j. first_of (count_is j) (last_is j))) i) k)

pub read_one : (o : Option Adaptor) → is_read_on o ≡ true → (a : Adaptor) × (o ≡ Some a) × (is_stepped a.phase ≡ true)
read_one None e = absurd (true≢false (sym e))
read_one (Some a) e = (a, refl, e)

pub held_size : (x : ℕ) (a : Adaptor) (t u : State) (used : ℕ) (res : Result Stepped AgentFault) {here new : Option History}
    → IsOneStepped x a t res u here new → res ≡ Ok (step_held used) → used ≡ data_size t.delivery.queue.chunks
held_size x a t u used res (held room) e = used_is e
  where
    used_is : ok_of (step_held (data_size t.delivery.queue.chunks)) ≡ Ok (step_held used) → used ≡ data_size t.delivery.queue.chunks
    used_is e = cc
held_size x a t u used res (made b step room st) e = absurd (answer_held step used (same_ok e))
held_size x a t u used res (refused b fault room st) e = absurd (cc)
held_size x a t u used res (unkept b step room st) e = absurd (cc)
held_size x a t u used res (wanting room) e = absurd (cc)

module _ (s : State) (k : ℕ) (t u : State) {before here new : Option History} (f : FilledOn s k t before here) (below : k < length s.adaptors)
    (a : Adaptor) (at : slice_get t.adaptors (at_place s k) ≡ Some a) (on : is_stepped a.phase ≡ true) (res : Result Stepped AgentFault)
    (st : IsOneStepped (at_place s k) a t res u here new) where
  -- an exit behind the steps so far
  fill_out : (result : Result Filled AgentFault) → IsFilled (at_place s k ∷ left_of s (k + 1)) f.sum t result u here new
      → IsFilled (to_step s) 0 s result u before new
  fill_out result g = f.joins result u new (subst (λ order. IsFilled order f.sum t result u here new) (sym left) g)
    where
      left : left_of s k ≡ at_place s k ∷ left_of s (k + 1)
      left =
          left_next s k below
          ∙ ap (λ b. if b then at_place s k ∷ left_of s (k + 1) else left_of s (k + 1))
          (ap is_read_on (sym (f.same k (omega arith) below) ∙ at) ∙ on)

  pub held_sum : (used : ℕ) → res ≡ Ok (step_held used) → used ≡ data_size s.delivery.queue.chunks + f.sum
  held_sum used e = held_size (at_place s k) a t u used res st e ∙ f.size

  pub held_out : (used sum : ℕ) → res ≡ Ok (step_held used) → sum ≡ used - data_size s.delivery.queue.chunks
      → IsFilled (to_step s) 0 s (Ok (held_by used sum)) u before new
  held_out used sum e is =
      let same : f.sum ≡ sum = let size = held_sum used e in omega (arith, size, is) in
      subst (λ k. IsFilled (to_step s) 0 s (Ok (held_by used k)) u before new) same
      (fill_out (Ok (held_by used f.sum)) (held_fills (at_place s k) a t u (left_of s (k + 1)) f.sum used res st e))

  pub shrank_out : (had size : ℕ) → res ≡ Ok (step_shrank had size) → IsFilled (to_step s) 0 s (Ok (Shrank (at_place s k) had size)) u before new
  shrank_out had size e =
      fill_out (Ok (Shrank (at_place s k) had size)) (shrank_fills (at_place s k) a t u (left_of s (k + 1)) f.sum had size res at on st e)

  pub err_out : (fault : AgentFault) → res ≡ Err fault → IsFilled (to_step s) 0 s (Err fault) u before new
  err_out fault e = fill_out (Err fault) (err_fills (at_place s k) a t u (left_of s (k + 1)) f.sum fault res at on st e)

  pub told_out : (stamped : List (List ℕ)) {x : ℕ} → Adds here new (Leads (As stamped (process t)) (Matches stamped t) (AfterStep stamped x u res))
      → Adds before new (Leads (As stamped (process s)) (Matches stamped s) (Matches stamped u))
  told_out stamped told =
      leads_then (f.told stamped)
      (subst (λ source. Adds here new (Leads (As stamped (record { role = Agent; name = source })) (Matches stamped t) (Matches stamped u)))
      f.source (leads_as (λ h y. y) (λ h y. y.matches) told))

-- Each row of a round's agent is of a sink of the collector's start.
use Rattle.std.proofs.Common.{◌≡◌, ℕ, false, List, Option, Some, Result, Ok, Err, refl, sym, subst, ◌∙◌}
use Rattle.std.specs.Prelude.{Contains}
use Rattle.chk_bytes.specs.Stems.{Stem}
use Rattle.chk_site.specs.declared.acts.Who.{Who}
use Rattle.chk_site.specs.History.{History, Step, Others}
use Rattle.chk_site.specs.Site.{Adds}
use Rattle.chk_site.specs.Runs.{Leads}
use Rattle.chk_site.proofs.Runs.{adds_as, adds_both, adds_none, adds_then, every_early, every_late}
use Rattle.chk_world.specs.Together.{Outside as OutsideOf, Together}
use Rattle.chk_acks.specs.Table.{Table}
use Rattle.chk_sink.specs.States.{IsSameStart, State as Sinks, process}
use Rattle.chk_agent.specs.declared.answers.AgentFault.{AgentFault}
use Rattle.chk_agent.specs.declared.answers.Stepped.{Stepped}
use Rattle.chk_tail.specs.declared.step.Step.{Step as Read}
use Rattle.chk_tail.specs.declared.step.Step.TheVariants.{Bytes, AtEnd as gave_none, Shrank as is_short}
use Rattle.chk_agent_adaptor.specs.Adaptors.{Adaptor}
use Rattle.chk_agent.specs.Fills as fill
use Rattle.chk_agent.specs.Fills.{IsOneStepped, after_step}
use Rattle.chk_agent.specs.States.{State as Agents}
use Rattle.chk_exchange.specs.OwnRows.{AllRows, IsOwnSink, KeepsOwn, RowsOwn}
use Rattle.chk_exchange.proofs.OwnRows.{rows_later}
use Rattle.chk_round.specs.declared.faults.RoundFault.{RoundFault}
use Rattle.chk_round.specs.declared.faults.RoundFault.TheVariants.{Outside, NoMemory, Damaged, Length, Growing, Shrank, Spent, Refused, Checkpoint}
use Rattle.chk_round.specs.Joint.{BothAt, JointTo}
use Rattle.chk_round.specs.Lengths.{IsPlain, PolledOnce, PollsOn}
use Rattle.chk_round.specs.OwnRows.{OwnBehind, OwnTo}
use Rattle.chk_round.specs.Reading as told
use Rattle.chk_round.specs.Reading.{IsGrowing, IsShrank}
use Rattle.chk_round.proofs.Joining.{in_on}
use Rattle.chk_round.proofs.Rows.{polled_rows, rows_on}

-- ---- ends of which nothing is said

own_as : (s t : Sinks) (a b : Agents) (r : Result (Unit {0}) RoundFault) → (RowsOwn s a → OwnBehind t b r)
    → {P : History → History → Type 0} {old new : Option History} → Adds old new P → OwnTo s a t b r old new
own_as s t a b r own p stamped started acting run =
    adds_as
    (λ added history. Others (OutsideOf stamped started) added history → BothAt stamped s a history → RowsOwn s a → OwnBehind t b r)
    p (λ added history x others both. own)

plain_behind : (t : Sinks) (b : Agents) (fault : RoundFault) → IsPlain fault → OwnBehind t b (Err fault)
plain_behind t b (Outside call) is = tt
plain_behind t b NoMemory is = tt
plain_behind t b (Damaged name at) is = tt
plain_behind t b (Checkpoint at) is = tt
plain_behind t b (Length stem got want) is = absurd is
plain_behind t b (Growing path reads) is = tt
plain_behind t b (Shrank path had size) is = tt
plain_behind t b (Spent number) is = tt
plain_behind t b (Refused code) is = tt

growing_behind : (t : Sinks) (b : Agents) {path : List ℕ} {reads : ℕ} {fault : RoundFault} → IsGrowing path reads fault
    → OwnBehind t b (Err fault)
growing_behind t b told.grows = tt
growing_behind t b told.untold = tt

shrank_behind : (t : Sinks) (b : Agents) {path : List ℕ} {had size : ℕ} {fault : RoundFault} → IsShrank path had size fault
    → OwnBehind t b (Err fault)
shrank_behind t b told.shrinks = tt
shrank_behind t b told.untold = tt

module _ (s t : Sinks) (a b : Agents) (fault : RoundFault) {P : History → History → Type 0} {old new : Option History}
    (p : Adds old new P) where
  pub own_plain : IsPlain fault → OwnTo s a t b (Err fault) old new
  own_plain is = own_as s t a b (Err fault) (λ own. plain_behind t b fault is) p

  pub own_growing : {path : List ℕ} {reads : ℕ} → IsGrowing path reads fault → OwnTo s a t b (Err fault) old new
  own_growing is = own_as s t a b (Err fault) (λ own. growing_behind t b is) p

  pub own_shrank : {path : List ℕ} {had size : ℕ} → IsShrank path had size fault → OwnTo s a t b (Err fault) old new
  own_shrank is = own_as s t a b (Err fault) (λ own. shrank_behind t b is) p

-- ---- in turn

pub own_none : (s : Sinks) (a : Agents) (now : Option History) → OwnTo s a s a (Ok tt) now now
own_none s a now stamped started acting run =
    adds_none now
    (λ added history. Others (OutsideOf stamped started) added history → BothAt stamped s a history → RowsOwn s a → RowsOwn s a)
    (λ history others both own. own)

pub own_then : (s t u : Sinks) (a b c : Agents) (r : Result (Unit {0}) RoundFault) → t.collector ≡ s.collector
    → b.source ≡ a.source → {old mid new : Option History}
    → OwnTo s a t b (Ok tt) old mid → JointTo s a t b (Ok tt) old mid → OwnTo t b u c r mid new → OwnTo s a u c r old new
own_then s t u a b c r c_is a_is {old = old} {mid = mid} p joint q stamped started acting run =
    adds_then
    (λ added history. Others (OutsideOf stamped started) added history → BothAt stamped s a history → RowsOwn s a → OwnBehind u c r)
    (adds_both First (p stamped started acting run) (joint stamped started acting run) (λ x history one two. (one, two)))
    (q stamped started acting (in_on s t a b c_is a_is run))
    (λ x y history first second others both own.
    let before = every_early Beside y x history others in
    second (every_late Beside y x history others) (first.1.leads before both) (first.0 before both own))
  where
    Beside : History → Step → Type 0
    Beside before step = step.own ≡ false → OutsideOf stamped started before step

    First : History → History → Type 0
    First x history =
        (Others (OutsideOf stamped started) x history → BothAt stamped s a history → RowsOwn s a → RowsOwn t b)
        × Leads (Together stamped started acting) (BothAt stamped s a) (BothAt stamped t b) x history

-- ---- what leaves the rows

-- the collector acted
pub own_tick : (s t : Sinks) (a : Agents) → IsSameStart s t → {P : History → History → Type 0} {old new : Option History}
    → Adds old new P → OwnTo s a t a (Ok tt) old new
own_tick s t a same p = own_as s t a a (Ok tt) (rows_later s t same a.delivery.table.rows) p

step_rows : {i : ℕ} {x : Adaptor} {b c : Agents} {result : Result Stepped AgentFault} {old new : Option History}
    → IsOneStepped i x b result c old new → c.delivery.table ≡ b.delivery.table
step_rows (fill.held is) = refl
step_rows {i = i} {x = x} {b = b} (fill.made d step held is) = go step
  where
    go : (step : Read) → (after_step i step x d b).delivery.table ≡ b.delivery.table
    go (Bytes bytes end) = refl
    go gave_none = refl
    go (is_short had size) = refl
step_rows (fill.refused d fault held is) = refl
step_rows (fill.unkept d step held is) = refl
step_rows (fill.wanting held) = refl

-- the agent read of one log
pub own_step : (s : Sinks) {i : ℕ} {x : Adaptor} {b c : Agents} {result : Result Stepped AgentFault} {old new : Option History}
    → IsOneStepped i x b result c old new → {P : History → History → Type 0} → Adds old new P → OwnTo s b s c (Ok tt) old new
own_step s {b = b} {c = c} is p =
    own_as s s b c (Ok tt) (subst (λ (t : Table). AllRows (λ x n. IsOwnSink s x) t.rows) (sym (step_rows is))) p

-- ---- an exchange

pub own_posted : (who : Who) (s t : Sinks) (a b : Agents) → who ≡ process s → {old new : Option History}
    → KeepsOwn who s a t b old new → OwnTo s a t b (Ok tt) old new
own_posted who s t a b is keeps stamped started acting run =
    adds_as
    (λ added history. Others (OutsideOf stamped started) added history → BothAt stamped s a history → RowsOwn s a → RowsOwn t b)
    (keeps stamped started acting (subst (Contains started) (sym is) run.collector_started) run.agent_started
    (subst (Contains acting) (sym is) run.collector_acts) run.agent_acts)
    (λ added history x others both. x others (both.0, (both.1.0, both.1.1.0)))

-- ---- polls behind a commit

later_sink : (s t : Sinks) (x : Stem) → IsSameStart s t → IsOwnSink s x → IsOwnSink t x
later_sink s t x same own =
    record { collector = own.collector ∙ sym same.collector; born = own.born ∙ sym same.born }

once_own : (who : Who) (s t u : Sinks) (b c : Agents) → IsSameStart s u → (fault : RoundFault) (mid new : Option History)
    → PolledOnce who t b (Err fault) u c mid new → AllRows (λ x n. IsOwnSink s x) b.delivery.table.rows
    → OwnBehind u c (Err fault)
once_own who s t u b c same (Length stem got want) mid new polls own =
    later_sink s u stem same
    ((polled_rows (Some (record { stem = stem; got = got; want = want })) polls (λ x n. IsOwnSink s x) own).left
    (record { stem = stem; got = got; want = want }) refl)
once_own who s t u b c same (Outside call) mid new polls own = tt
once_own who s t u b c same NoMemory mid new polls own = tt
once_own who s t u b c same (Damaged name at) mid new polls own = tt
once_own who s t u b c same (Checkpoint at) mid new polls own = tt
once_own who s t u b c same (Growing path reads) mid new polls own = tt
once_own who s t u b c same (Shrank path had size) mid new polls own = tt
once_own who s t u b c same (Spent number) mid new polls own = tt
once_own who s t u b c same (Refused code) mid new polls own = tt

module _ (who : Who) (s t : Sinks) (a b : Agents) {old mid : Option History} (on : PollsOn who s a t b old mid) where
  -- none of them ended it
  pub own_polls : IsSameStart s t → {P : History → History → Type 0} → Adds old mid P → OwnTo s a t b (Ok tt) old mid
  own_polls same p =
      own_as s t a b (Ok tt)
      (λ own. rows_later s t same b.delivery.table.rows (rows_on on (λ x n. IsOwnSink s x) own)) p

  -- the last one did
  pub own_once : (u : Sinks) (c : Agents) → IsSameStart s u → (fault : RoundFault) {new : Option History}
      → PolledOnce who t b (Err fault) u c mid new → {P : History → History → Type 0} → Adds old new P
      → OwnTo s a u c (Err fault) old new
  own_once u c same fault {new = new} polls p =
      own_as s u a c (Err fault)
      (λ own. once_own who s t u b c same fault mid new polls (rows_on on (λ x n. IsOwnSink s x) own)) p

-- The reads of logs that a round makes, and what held at one of them.
use Rattle.std.proofs.Common.{◌≡◌, inl, inr, ℕ, true, List, ◌∷◌, ◌++◌, Option, Some, Result, Ok, Err, ap, sym, subst, ◌∙◌, refl, arith, append_assoc}
use Rattle.std.specs.Prelude.{slice_get}
use Rattle.std.proofs.lemmas.Option.{same_Some}
use Rattle.chk_site.specs.declared.acts.CallFault.{CallFault}
use Rattle.chk_site.specs.declared.acts.CallFault.TheVariants.{Exists, Failed, Missing, NoMemory, Short}
use Rattle.chk_site.specs.declared.acts.OutsideFault.{OutsideFault}
use Rattle.chk_site.specs.declared.acts.Role.TheVariants.{Agent}
use Rattle.chk_site.specs.declared.acts.Who.{Who}
use Rattle.chk_site.specs.declared.suffixes.Piece.{Piece}
use Rattle.chk_site.specs.Acts.{Deed, ReadsLog, deed}
use Rattle.chk_site.specs.History.{History, Step as OneStep}
use Rattle.chk_site.specs.Logs.{Part, part_of}
use Rattle.chk_site.specs.Runs.{Owns}
use Rattle.chk_site.specs.Site.{Adds, Calls, answered, piece_given}
use Rattle.chk_site.proofs.Leads.{call_owned}
use Rattle.chk_site.proofs.Runs.{adds_as, adds_none, adds_then, every_join, ran}
use Rattle.chk_chunk.specs.Keys.{Stream}
use Rattle.chk_replace.specs.Replace.{replacement}
use Rattle.chk_world.specs.Laws.{agent_of}
use Rattle.chk_world.specs.Names.{CheckFile, spell}
use Rattle.chk_world.specs.Works.{IsOneOf}
use Rattle.chk_world.proofs.Beside.{owns_as}
use Rattle.chk_tail.specs.declared.step.Step.{Step}
use Rattle.chk_tail.specs.declared.step.Step.TheVariants.{Bytes, AtEnd as gave_none, Shrank as is_short}
use Rattle.chk_tail.specs.Walks as walk
use Rattle.chk_tail.specs.Walks.{Decides, Spot, Walks, Way, in_file, part, reading}
use Rattle.chk_tail.specs.Taking.{asks_at}
use Rattle.chk_agent_adaptor.specs.Adaptors.{Adaptor}
use Rattle.chk_agent.specs.declared.answers.AgentFault.{AgentFault}
use Rattle.chk_agent.specs.declared.answers.Stepped.{Stepped}
use Rattle.chk_agent.specs.declared.answers.Stepped.TheVariants.{AtEnd}
use Rattle.chk_agent.proofs.Soundness.{below_at}
use Rattle.chk_agent.specs.Fills as fill
use Rattle.chk_agent.specs.Fills.{IsOneStepped}
use Rattle.chk_agent.specs.States.{State as Agents, process}
use Rattle.chk_round.specs.declared.faults.RoundFault.{RoundFault}
use Rattle.chk_round.specs.Calls as calls
use Rattle.chk_round.specs.Calls.{IsRestCall, IsRestStep, RestCalls, TalksBy}
use Rattle.chk_round.specs.Done.{AtOwnRead, IsOwnRead, NoneRead}
use Rattle.chk_round.specs.Reading.{ReadOn}
use Rattle.chk_round.specs.Scripts as scripts
use Rattle.chk_round.specs.Scripts.{ReadsOut}
use Rattle.chk_round.proofs.Acts.{step_acts}
use Rattle.chk_round.proofs.Lasting.{went_then}
use Rattle.chk_agent_drain.proofs.DrainingAll.{some_at}
use Rattle.chk_round.proofs.Stepping.{on_same, on_then, step_on}

-- ---- moments

module _ {who : Who} {path : List ℕ} (P : History → Type 0) where
  -- what held at a read before further steps held at one before them
  pub at_read_early : (b a history : History) → AtOwnRead who path P a history
      → AtOwnRead who path P (b ++ a) history
  at_read_early b a history m = record {
    later = b ++ m.later;
    step = m.step;
    earlier = m.earlier;
    split = ap (λ x. b ++ x) m.split ∙ sym (append_assoc b m.later (m.step ∷ m.earlier));
    read = m.read;
    holds = m.holds;
  }

  -- and behind earlier ones
  pub at_read_late : (Q : History → Type 0) → ((h : History) → P h → Q h) → (b a history : History)
      → AtOwnRead who path P b (a ++ history) → AtOwnRead who path Q (b ++ a) history
  at_read_late Q weaker b a history m = record {
    later = m.later;
    step = m.step;
    earlier = m.earlier ++ a;
    split = ap (λ x. x ++ a) m.split ∙ append_assoc m.later (m.step ∷ m.earlier) a;
    read = m.read;
    holds = subst Q (sym (append_assoc (m.step ∷ m.earlier) a history)) (weaker _ m.holds);
  }

-- ---- the last read of a log

-- the newest of these steps is a read of this log
pub record EndsWithRead (who : Who) (path : List ℕ) (added history : History) : Type 0 where
  pub step : OneStep
  pub earlier : History
  pub is : added ≡ step ∷ earlier
  pub read : IsOwnRead who path step

-- behind earlier steps
pub ends_more : {who : Who} {path : List ℕ} (b a history : History)
    → EndsWithRead who path b (a ++ history) → EndsWithRead who path (b ++ a) history
ends_more b a history x = record {
  step = x.step;
  earlier = x.earlier ++ a;
  is = ap (λ k. k ++ a) x.is;
  read = x.read;
}

ends_then : (who : Who) (path : List ℕ) {P : History → History → Type 0}
    {old mid new : Option History}
    → Adds old mid P → Adds mid new (EndsWithRead who path) → Adds old new (EndsWithRead who path)
ends_then who path p q =
    adds_then (EndsWithRead who path) p q (λ a b history x y. ends_more b a history y)

-- a read that gave a piece
piece_read : (way : Way) (p : Spot) (piece : Piece) {old new : Option History}
    → Adds old new (Calls (reading way p) (answered piece_given (Ok piece)))
    → Adds old new (EndsWithRead way.who way.path)
piece_read way p piece call =
    adds_as (EndsWithRead way.who way.path) call
    (λ a history made.
    let acted = ran (Ok (piece_given piece)) (λ e. let z : ⊥ = cc in z) made in
    record {
      step = _;
      earlier = acted.others;
      is = acted.added_is;
      read = record {
        own = refl;
        by = refl;
        part = part_of (part way.rotated p.after);
        at = in_file p;
        max = asks_at p.offset;
        asks = refl;
        piece = piece;
        gave = refl;
      };
    })

walk_ends : {way : Way} {result : Result Step OutsideFault} {next p : Spot} {marks : List Spot}
    {old new : Option History}
    → result ≡ Ok gave_none → Walks way result next p marks old new
    → Adds old new (EndsWithRead way.who way.path)
walk_ends {way = way} {result = result} {next = next} is
    (walk.decided {p = p} {old = old} {new = new} given call decides) =
    go given call (subst (λ r. Decides way p given r next) is decides)
  where
    go : (given : Result Piece CallFault)
        → Adds old new (Calls (reading way p) (answered piece_given given))
        → Decides way p given (Ok gave_none) next → Adds old new (EndsWithRead way.who way.path)
    go (Ok piece) call decides = piece_read way p piece call
    go (Err (Short size)) call decides = absurd (let e = decides.0 in let z : ⊥ = cc in z)
    go (Err Failed) call decides = absurd decides
    go (Err Missing) call decides = absurd decides
    go (Err Exists) call decides = absurd decides
    go (Err NoMemory) call decides = absurd decides
walk_ends {way = way} is (walk.walked {p = p} piece suffix ended after none call more) =
    ends_then way.who way.path call (walk_ends is more)
walk_ends is (walk.unkept piece some call same next) = absurd (let z : ⊥ = cc in z)

-- a step that found the end of the log
step_ends : {i : ℕ} {a : Adaptor} {s t : Agents} {result : Result Stepped AgentFault}
    {old new : Option History}
    → result ≡ Ok AtEnd → IsOneStepped i a s result t old new
    → Adds old new (EndsWithRead (process s) a.path)
step_ends e (fill.held is) = absurd (let z : ⊥ = cc in z)
step_ends {a = a} {s = s} {old = old} {new = new} e (fill.made b step held is) = go step refl e
  where
    go : (k : Step) → step ≡ k
        → ◌≡◌ {A = Result Stepped AgentFault} (Ok (fill.step_answer k)) (Ok AtEnd)
        → Adds old new (EndsWithRead (process s) a.path)
    go (Bytes bytes end) same e = absurd (let z : ⊥ = cc in z)
    go gave_none same e = walk_ends (ap Ok same) is.walks
    go (is_short had size) same e = absurd (let z : ⊥ = cc in z)
step_ends e (fill.refused b fault held is) = absurd (let z : ⊥ = cc in z)
step_ends e (fill.unkept b step held is) = absurd (let z : ⊥ = cc in z)
step_ends e (fill.wanting held) = absurd (let z : ⊥ = cc in z)

-- the adaptor is still there, of the same path, and its agent of the same source
ends_behind : (i : ℕ) (s t : Agents) → ReadOn i s t → (x : Adaptor)
    → slice_get s.adaptors i ≡ Some x → {P : History → History → Type 0}
    {old mid new : Option History} → Adds old mid P
    → ((y : Adaptor) → slice_get t.adaptors i ≡ Some y
    → Adds mid new (EndsWithRead (process t) y.path))
    → Adds old new (EndsWithRead (process s) x.path)
ends_behind i s t on x at {mid = mid} {new = new} first more =
    let below = below_at s.adaptors i x at in
    let size = on.adaptors.size in
    let y = some_at t.adaptors i (omega (arith, below, size)) in
    let m = on.adaptors.here y.0 y.1 in
    let path : y.0.path ≡ x.path =
    m.3 ∙ ap (λ (k : Adaptor). k.path) (same_Some m.0 x (sym m.1 ∙ at)) in
    ends_then (process s) x.path first
    (subst (λ p. Adds mid new (EndsWithRead (process s) p)) path
    (subst (λ n. Adds mid new (EndsWithRead (record { role = Agent; name = n }) y.0.path)) on.source
    (more y.0 y.1)))

-- the reads of one log that came to its end
pub out_ends : {i reads n : ℕ} {s t : Agents} {result : Result (Unit {0}) RoundFault}
    {old new : Option History}
    → result ≡ Ok tt → ReadsOut i reads n s result t old new
    → (x : Adaptor) → slice_get s.adaptors i ≡ Some x
    → Adds old new (EndsWithRead (process s) x.path)
out_ends {s = s} {old = old} {new = new} e (scripts.at_end a there is) x at =
    subst (λ p. Adds old new (EndsWithRead (process s) p))
    (ap (λ (k : Adaptor). k.path) (same_Some a x (sym there ∙ at))) (step_ends refl is)
out_ends {i = i} {s = s} e (scripts.read_on {t = t} a k there less is more) x at =
    ends_behind i s t (step_on is there) x at (step_acts is) (out_ends e more)
out_ends e (scripts.grows a k fault there last is kind) x at = absurd (let z : ⊥ = cc in z)
out_ends e (scripts.shrinks a had size fault there is kind) x at = absurd (let z : ⊥ = cc in z)
out_ends e (scripts.unread a fault there is) x at = absurd (let z : ⊥ = cc in z)
out_ends {i = i} {s = s} e (scripts.held {t = t} {u = u} a used there is went posted more) x at =
    ends_behind i s u (on_then i s t u (step_on is there) (on_same i t u posted.same)) x at
    (went_then (step_acts is) went) (out_ends e more)
out_ends e (scripts.unposted a used fault there is went other) x at = absurd (let z : ⊥ = cc in z)

-- ---- which logs are read

-- each own read of a log by an agent among these steps is of this path
abbrev pub OnlyReads : List ℕ → History → History → Type 0
OnlyReads path =
    Owns (λ before step. step.act.who.role ≡ Agent → (p : List ℕ) (part : Part) (at max : ℕ)
    → deed step.act ≡ ReadsLog p part at max → p ≡ path)

only_none : (path : List ℕ) (now : Option History) → Adds now now (OnlyReads path)
only_none path now = adds_none now (OnlyReads path) (λ history. tt)

only_then : (path : List ℕ) {old mid new : Option History} → Adds old mid (OnlyReads path)
    → Adds mid new (OnlyReads path) → Adds old new (OnlyReads path)
only_then path p q =
    adds_then (OnlyReads path) p q
    (λ a b history x y. every_join
    (λ before step. step.own ≡ true → step.act.who.role ≡ Agent
    → (p : List ℕ) (part : Part) (at max : ℕ) → deed step.act ≡ ReadsLog p part at max → p ≡ path)
    b a history x y)

saves_none : (who : Who) (name bytes : List ℕ) (call : Deed)
    → IsOneOf (replacement who name bytes) call
    → {path : List ℕ} {part : Part} {at max : ℕ} → call ≡ ReadsLog path part at max → ⊥
saves_none who name bytes call (inl is) e = let z : ⊥ = cc in z
saves_none who name bytes call (inr (inl is)) e = let z : ⊥ = cc in z
saves_none who name bytes call (inr (inr (inl is))) e = let z : ⊥ = cc in z
saves_none who name bytes call (inr (inr (inr (inl is)))) e = let z : ⊥ = cc in z
saves_none who name bytes call (inr (inr (inr (inr (inl is))))) e = let z : ⊥ = cc in z
saves_none who name bytes call (inr (inr (inr (inr (inr is))))) e = is

talks_none : {who : Who} {call : Deed} → TalksBy who call
    → {path : List ℕ} {part : Part} {at max : ℕ} → call ≡ ReadsLog path part at max → ⊥
talks_none {who = who} (calls.saves text call is) e =
    saves_none who (spell (CheckFile who.name)) text call is e
talks_none (calls.sends message bytes) e = let z : ⊥ = cc in z
talks_none (calls.gets message) e = let z : ⊥ = cc in z

-- a call that reads no log
rest_none_read : {who : Who} {call : Deed} → IsRestCall who call → who.role ≡ Agent
    → {path : List ℕ} {part : Part} {at max : ℕ} → call ≡ ReadsLog path part at max → ⊥
rest_none_read (calls.collects who role call is) agent e = let z : ⊥ = cc in z
rest_none_read (calls.talks who role call is) agent e = talks_none is e
rest_none_read (calls.archives call is) agent e = let z : ⊥ = cc in z

pub rest_only : (path : List ℕ) {old new : Option History} → Adds old new RestCalls
    → Adds old new (OnlyReads path)
rest_only path p =
    adds_as (OnlyReads path) p
    (owns_as IsRestStep
    (λ before step. step.act.who.role ≡ Agent → (p : List ℕ) (part : Part) (at max : ℕ)
    → deed step.act ≡ ReadsLog p part at max → p ≡ path)
    (λ before step is agent p part at max e.
    absurd (rest_none_read is agent e)))

pub rest_reads_none : (s : Stream) (added history : History) → RestCalls added history
    → NoneRead (agent_of s) s.name added history
rest_reads_none s =
    owns_as IsRestStep
    (λ before step. step.act.who ≡ agent_of s → (part : Part) (at max : ℕ)
    → deed step.act ≡ ReadsLog s.name part at max → ⊥)
    (λ before step is by part at max e.
    rest_none_read is (ap (λ (w : Who). w.role) by) e)

-- reads of another log
pub only_reads_none : (s : Stream) (path : List ℕ) → (path ≡ s.name → ⊥)
    → (added history : History)
    → OnlyReads path added history → NoneRead (agent_of s) s.name added history
only_reads_none s path apart =
    owns_as
    (λ before step. step.act.who.role ≡ Agent → (p : List ℕ) (part : Part) (at max : ℕ)
    → deed step.act ≡ ReadsLog p part at max → p ≡ path)
    (λ before step. step.act.who ≡ agent_of s → (part : Part) (at max : ℕ)
    → deed step.act ≡ ReadsLog s.name part at max → ⊥)
    (λ before step only by part at max e.
    apart (sym (only (ap (λ (w : Who). w.role) by) s.name part at max e)))

only_read : (way : Way) (p : Spot) (given : Result Piece CallFault) {old new : Option History}
    → Adds old new (Calls (reading way p) (answered piece_given given))
    → Adds old new (OnlyReads way.path)
only_read way p given call =
    adds_as (OnlyReads way.path) call
    (λ a h made. call_owned
    (λ before step. step.act.who.role ≡ Agent → (q : List ℕ) (k : Part) (at max : ℕ)
    → deed step.act ≡ ReadsLog q k at max → q ≡ way.path)
    (answered piece_given given)
    (λ before answer files logs running by q k at max e. let z : q ≡ way.path = cc in z) made)

walks_only : {way : Way} {result : Result Step OutsideFault} {next p : Spot} {marks : List Spot}
    {old new : Option History}
    → Walks way result next p marks old new → Adds old new (OnlyReads way.path)
walks_only {way = way} (walk.decided {p = p} given call decides) = only_read way p given call
walks_only {way = way} (walk.walked {p = p} piece suffix ended after none call more) =
    only_then way.path (only_read way p (Ok piece) call) (walks_only more)
walks_only {way = way} (walk.unkept {p = p} piece some call same next) =
    only_read way p (Ok piece) call

step_only : {i : ℕ} {a : Adaptor} {s t : Agents} {result : Result Stepped AgentFault}
    {old new : Option History}
    → IsOneStepped i a s result t old new → Adds old new (OnlyReads a.path)
step_only {a = a} (fill.held {now = now} is) = only_none a.path now
step_only (fill.made b step held is) = walks_only is.walks
step_only (fill.refused b fault held is) = walks_only is.walks
step_only (fill.unkept b step held is) = walks_only is.walks
step_only {a = a} (fill.wanting {now = now} held) = only_none a.path now

-- the adaptor is still there, of the same path
only_behind : (i : ℕ) (s t : Agents) → ReadOn i s t → (x : Adaptor)
    → slice_get s.adaptors i ≡ Some x → {old mid new : Option History}
    → Adds old mid (OnlyReads x.path)
    → ((y : Adaptor) → slice_get t.adaptors i ≡ Some y → Adds mid new (OnlyReads y.path))
    → Adds old new (OnlyReads x.path)
only_behind i s t on x at {mid = mid} {new = new} first more =
    let below = below_at s.adaptors i x at in
    let size = on.adaptors.size in
    let y = some_at t.adaptors i (omega (arith, below, size)) in
    let m = on.adaptors.here y.0 y.1 in
    let path : y.0.path ≡ x.path =
    m.3 ∙ ap (λ (k : Adaptor). k.path) (same_Some m.0 x (sym m.1 ∙ at)) in
    only_then x.path first (subst (λ p. Adds mid new (OnlyReads p)) path (more y.0 y.1))

step_only_of : {i : ℕ} {a : Adaptor} {s t : Agents} {result : Result Stepped AgentFault}
    {old new : Option History} → IsOneStepped i a s result t old new
    → slice_get s.adaptors i ≡ Some a
    → (x : Adaptor) → slice_get s.adaptors i ≡ Some x → Adds old new (OnlyReads x.path)
step_only_of {a = a} {old = old} {new = new} is there x at =
    subst (λ p. Adds old new (OnlyReads p))
    (ap (λ (k : Adaptor). k.path) (same_Some a x (sym there ∙ at))) (step_only is)

-- the reads of one log that came to its end, and the posts between them
pub out_only : {i reads n : ℕ} {s t : Agents} {result : Result (Unit {0}) RoundFault}
    {old new : Option History}
    → result ≡ Ok tt → ReadsOut i reads n s result t old new
    → (x : Adaptor) → slice_get s.adaptors i ≡ Some x → Adds old new (OnlyReads x.path)
out_only e (scripts.at_end a there is) x at = step_only_of is there x at
out_only {i = i} {s = s} e (scripts.read_on {t = t} a k there less is more) x at =
    only_behind i s t (step_on is there) x at (step_only_of is there x at) (out_only e more)
out_only e (scripts.grows a k fault there last is kind) x at = absurd (let z : ⊥ = cc in z)
out_only e (scripts.shrinks a had size fault there is kind) x at = absurd (let z : ⊥ = cc in z)
out_only e (scripts.unread a fault there is) x at = absurd (let z : ⊥ = cc in z)
out_only {i = i} {s = s} e (scripts.held {t = t} {u = u} a used there is went posted more) x at =
    only_behind i s u (on_then i s t u (step_on is there) (on_same i t u posted.same)) x at
    (only_then x.path (step_only_of is there x at) (rest_only x.path went)) (out_only e more)
out_only e (scripts.unposted a used fault there is went other) x at = absurd (let z : ⊥ = cc in z)

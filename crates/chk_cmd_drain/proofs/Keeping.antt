-- A drain that is done leaves each adaptor to its stream, a live one live and a past one past.
use Rattle.std.proofs.Common.{◌≡◌, ℕ, zero, suc, ◌+◌, Bool, true, false, if◌then◌else◌, List, [], ◌∷◌, Option, Some, None, Result, Ok, Err, ap, sym, subst, ◌∙◌, refl, true≢false}
use Rattle.std.specs.Prelude.{slice_get, slice_set, slice_index}
use Rattle.std.proofs.lemmas.Option.{same_Some, none-some}
use Rattle.chk_site.specs.declared.acts.Call.{Call}
use Rattle.chk_site.specs.History.{History}
use Rattle.chk_tail.specs.declared.step.Step.{Step}
use Rattle.chk_tail.specs.declared.step.Step.TheVariants.{Bytes, AtEnd as gave_none, Shrank as is_short}
use Rattle.chk_tail.specs.Walks.{Spot}
use Rattle.chk_agent_adaptor.specs.declared.adaptor.Phase.{Phase}
use Rattle.chk_agent_adaptor.specs.declared.adaptor.Phase.TheVariants.{Live, Stopping, Shrank, Past}
use Rattle.chk_agent_adaptor.specs.Adaptors.{Adaptor, is_past, phase_at, phase_back, sent_back}
use Rattle.chk_agent_adaptor.specs.Steps.{phase_after, stepped}
use Rattle.chk_agent_delivery.specs.Turns.{is_one_of}
use Rattle.chk_agent.specs.declared.answers.AgentFault.{AgentFault}
use Rattle.chk_agent.specs.declared.answers.AgentFault.TheVariants.{Outside}
use Rattle.chk_agent.specs.declared.answers.Stepped.{Stepped}
use Rattle.chk_agent.specs.declared.answers.Stepped.TheVariants.{Shrank as step_shrank}
use Rattle.chk_agent.specs.Commands.{live_from}
use Rattle.chk_agent.specs.Fills.{IsOneStepped}
use Rattle.chk_agent.specs.Fills as fill
use Rattle.chk_agent.specs.Settles.{IsSettled, all_back, gone_at, settled_all}
use Rattle.chk_agent.specs.Settles as settle
use Rattle.chk_agent.specs.States.{State, lines_of}
use Rattle.chk_agent.specs.declared.answers.Settled.{Settled}
use Rattle.chk_agent_drain.specs.declared.answers.Drained.{Drained}
use Rattle.chk_agent_drain.specs.declared.answers.Drained.TheVariants.{AllTried, Done}
use Rattle.chk_agent_drain.specs.Drains as drain
use Rattle.chk_agent_drain.specs.Drains.{Drains, IsDrained, PollGives, PollTries, PostTries, Progress, tried_answer}
use Rattle.chk_cmd_drain.specs.Parts.{AreSteady}

-- ---- adaptors

pub record Keeps (a b : Adaptor) : Type 0 where
  pub kind : b.kind ≡ a.kind
  pub path : b.path ≡ a.path
  pub live : a.phase ≡ Live → b.phase ≡ Live
  pub past : is_past a.phase ≡ true → is_past b.phase ≡ true

abbrev pub AllKeep : List Adaptor → List Adaptor → Type 0
AllKeep [] [] = Unit {0}
AllKeep (a ∷ xs) (b ∷ ys) = Keeps a b × AllKeep xs ys
AllKeep xs ys = ⊥

one_same : (a : Adaptor) → Keeps a a
one_same a = record { kind = refl; path = refl; live = λ e. e; past = λ e. e }

pub all_same : (xs : List Adaptor) → AllKeep xs xs
all_same [] = tt
all_same (a ∷ xs) = (one_same a, all_same xs)

one_then : (a b c : Adaptor) → Keeps a b → Keeps b c → Keeps a c
one_then a b c x y = record {
  kind = y.kind ∙ x.kind;
  path = y.path ∙ x.path;
  live = λ e. y.live (x.live e);
  past = λ e. y.past (x.past e);
}

pub all_then : (xs ys zs : List Adaptor) → AllKeep xs ys → AllKeep ys zs → AllKeep xs zs
all_then [] [] zs x y = y
all_then [] (b ∷ ys) zs x y = absurd x
all_then (a ∷ xs) [] zs x y = absurd x
all_then (a ∷ xs) (b ∷ ys) [] x y = absurd y
all_then (a ∷ xs) (b ∷ ys) (c ∷ zs) x y = (one_then a b c x.0 y.0, all_then xs ys zs x.1 y.1)

set_keeps : (xs : List Adaptor) (i : ℕ) (a b : Adaptor) → slice_get xs i ≡ Some a → Keeps a b
    → AllKeep xs (slice_set xs i b)
set_keeps [] i a b at keeps = tt
set_keeps (x ∷ xs) zero a b at keeps =
    (subst (λ k. Keeps k b) (sym (same_Some x a at)) keeps, all_same xs)
set_keeps (x ∷ xs) (suc i) a b at keeps = (one_same x, set_keeps xs i a b at keeps)

-- what an adaptor was before
pub was_kept : (xs ys : List Adaptor) → AllKeep xs ys → (i : ℕ) (b : Adaptor)
    → slice_get ys i ≡ Some b → (a : Adaptor) × (slice_get xs i ≡ Some a) × Keeps a b
was_kept [] [] all i b at = absurd (none-some b at)
was_kept [] (y ∷ ys) all i b at = absurd all
was_kept (x ∷ xs) [] all i b at = absurd all
was_kept (x ∷ xs) (y ∷ ys) all zero b at = (x, refl, subst (Keeps x) (same_Some y b at) all.0)
was_kept (x ∷ xs) (y ∷ ys) all (suc i) b at = was_kept xs ys all.1 i b at

-- and what it is then
pub is_kept : (xs ys : List Adaptor) → AllKeep xs ys → (i : ℕ) (a : Adaptor)
    → slice_get xs i ≡ Some a → (b : Adaptor) × (slice_get ys i ≡ Some b) × Keeps a b
is_kept [] ys all i a at = absurd (none-some a at)
is_kept (x ∷ xs) [] all i a at = absurd all
is_kept (x ∷ xs) (y ∷ ys) all zero a at =
    (y, refl, subst (λ k. Keeps k y) (same_Some x a at) all.0)
is_kept (x ∷ xs) (y ∷ ys) all (suc i) a at = is_kept xs ys all.1 i a at

-- ---- which of them are live

past_still : (a b : Adaptor) → Keeps a b → (is_past a.phase ≡ false → a.phase ≡ Live)
    → is_past b.phase ≡ is_past a.phase
past_still a b keeps steady = go (is_past a.phase) refl
  where
    go : (p : Bool) → is_past a.phase ≡ p → is_past b.phase ≡ is_past a.phase
    go true is = keeps.past is ∙ sym is
    go false is = ap is_past (keeps.live (steady is)) ∙ sym is

pub live_still : (i : ℕ) (xs ys : List Adaptor) → AllKeep xs ys → AreSteady xs
    → live_from i ys ≡ live_from i xs
live_still i [] [] all steady = refl
live_still i [] (b ∷ ys) all steady = absurd all
live_still i (a ∷ xs) [] all steady = absurd all
live_still i (a ∷ xs) (b ∷ ys) all steady =
    let rest = live_still (i + 1) xs ys all.1 (λ k x at. steady (suc k) x at) in
    ap (λ p. if p then live_from (i + 1) ys else i ∷ live_from (i + 1) ys)
    (past_still a b all.0 (steady 0 a refl))
    ∙ ap (λ ks. if is_past a.phase then ks else i ∷ ks) rest

-- ---- a step

-- the log wasn't shorter than the place
abbrev pub IsNotShort : Stepped → Type 0
IsNotShort (step_shrank had is) = ⊥
IsNotShort given = Unit {0}

after_step : (step : Step) (a b : Adaptor) (marks : List Spot) (next : Spot)
    → IsNotShort (fill.step_answer step) → b ≡ stepped marks next (Ok step) a → Keeps a b
after_step step a b marks next given is = record {
  kind = ap (λ (x : Adaptor). x.kind) is;
  path = ap (λ (x : Adaptor). x.path) is;
  live = λ e. ap (λ (x : Adaptor). x.phase) is ∙ (ap (phase_after step next) e ∙ live step given);
  past = λ e. ap (λ (x : Adaptor). is_past x.phase) is ∙ past step given a.phase e;
}
  where
    live : (step : Step) → IsNotShort (fill.step_answer step) → phase_after step next Live ≡ Live
    live (Bytes bytes end) given = refl
    live gave_none given = refl
    live (is_short had size) given = absurd given

    past : (step : Step) → IsNotShort (fill.step_answer step) → (p : Phase) → is_past p ≡ true
        → is_past (phase_after step next p) ≡ true
    past (Bytes bytes end) given p e = e
    past gave_none given Live e = e
    past gave_none given (Stopping end) e = absurd (true≢false (sym e))
    past gave_none given Shrank e = e
    past gave_none given Past e = e
    past (is_short had size) given p e = absurd given

step_keeps : {i : ℕ} {a : Adaptor} {s t : State} {given : Stepped} {old new : Option History}
    → IsOneStepped i a s (Ok given) t old new → IsNotShort given → slice_get s.adaptors i ≡ Some a
    → AllKeep s.adaptors t.adaptors
step_keeps {s = s} (fill.held is) given there = all_same s.adaptors
step_keeps {i = i} {a = a} {s = s} (fill.made b step held is) given there =
    set_keeps s.adaptors i a b there (after_step step a b is.marks is.next given is.is)

-- ---- a settle

back_keeps : (gone committed : List ℕ) (i : ℕ) (xs : List Adaptor)
    → AllKeep xs (all_back gone committed i xs)
back_keeps gone committed i [] = tt
back_keeps gone committed i (a ∷ xs) =
    (one (is_one_of gone i), back_keeps gone committed (suc i) xs)
  where
    past : (p : Phase) → is_past p ≡ true → is_past (phase_back p) ≡ true
    past Live e = e
    past (Stopping end) e = e
    past Shrank e = e
    past Past e = e

    one : (b : Bool) → Keeps a (if b then sent_back (slice_index committed i) a else a)
    one true = record { kind = refl; path = refl; live = λ e. ap phase_back e; past = past a.phase }
    one false = one_same a

settle_keeps : (xs : List Adaptor) (ends : List ℕ) → AllKeep xs (settled_all xs ends)
settle_keeps [] ends = tt
settle_keeps (a ∷ xs) [] = (one_same a, settle_keeps xs [])
settle_keeps (a ∷ xs) (o ∷ ends) = (
  record { kind = refl; path = refl; live = λ e. ap (phase_at o) e; past = past a.phase },
  settle_keeps xs ends,
)
  where
    past : (p : Phase) → is_past p ≡ true → is_past (phase_at o p) ≡ true
    past Live e = e
    past (Stopping None) e = e
    past (Stopping (Some end)) e = absurd (true≢false (sym e))
    past Shrank e = e
    past Past e = e

both_keep : (now : ℕ) (s : State)
    → AllKeep s.adaptors (settle.settled (settle.reset (gone_at now s) s)).adaptors
both_keep now s =
    let ends = s.delivery.table.committed in
    let back = all_back (gone_at now s) ends 0 s.adaptors in
    all_then s.adaptors back _ (back_keeps (gone_at now s) ends 0 s.adaptors)
    (settle_keeps back (settle.reset (gone_at now s) s).delivery.table.committed)

settled_keeps : {now : ℕ} {s t : State} {given : Settled} {old new : Option History}
    → IsSettled now s (Ok given) t old new → AllKeep s.adaptors t.adaptors
settled_keeps {now = now} {s = s} (settle.same same) = both_keep now s
settled_keeps {now = now} {s = s} (settle.written other writes) = both_keep now s

-- ---- a drain

-- the adaptors are kept, and the checkpoint has their lines
pub record DrainKeeps (s t : State) : Type 0 where
  pub adaptors : AllKeep s.adaptors t.adaptors
  pub saved : t.saved ≡ lines_of t

on : {s t u : State} → AllKeep s.adaptors t.adaptors → DrainKeeps t u → DrainKeeps s u
on {s = s} {t = t} {u = u} first rest = record {
  adaptors = all_then s.adaptors t.adaptors u.adaptors first rest.adaptors;
  saved = rest.saved;
}

on_same : {s t u : State} → t.adaptors ≡ s.adaptors → DrainKeeps t u → DrainKeeps s u
on_same {u = u} same rest = record {
  adaptors = subst (λ xs. AllKeep xs u.adaptors) same rest.adaptors;
  saved = rest.saved;
}

-- where no address gave a good reply, it isn't done
pub not_done : (q : Progress) → tried_answer q ≡ Ok Done → ⊥
not_done q is = go q.failed is
  where
    answer : Option Call → Result Drained AgentFault
    answer failed = elim failed
        [ None ↦ Ok (AllTried q.tried q.code) | Some call ↦ Err (Outside call) ]

    go : (o : Option Call) → answer o ≡ Ok Done → ⊥
    go None is = let z : ⊥ = cc in z
    go (Some call) is = let z : ⊥ = cc in z

-- what is sent and what replies give leave the adaptors
abbrev adaptors_of : State → List Adaptor
adaptors_of s = s.adaptors

post_tries : {now : ℕ} {p q : Progress} {s t : State} {old new : Option History}
    → PostTries now p s q t old new → t.adaptors ≡ s.adaptors
post_tries (drain.unsent may posts) = ap adaptors_of posts.state_is
post_tries (drain.silent n may posts replies) =
    ap adaptors_of replies.state_is ∙ ap adaptors_of posts.state_is
post_tries (drain.refused n code may posts replies) =
    ap adaptors_of replies.state_is ∙ ap adaptors_of posts.state_is

poll_tries : {p q : Progress} {s t : State} {old new : Option History} → PollTries p s q t old new
    → t.adaptors ≡ s.adaptors
poll_tries (drain.unsent polls) = ap adaptors_of polls.state_is
poll_tries (drain.silent n polls lengths) =
    ap adaptors_of lengths.state_is ∙ ap adaptors_of polls.state_is
poll_tries (drain.refused n code polls lengths) =
    ap adaptors_of lengths.state_is ∙ ap adaptors_of polls.state_is

poll_gives : {p q : Progress} {s t : State} {old new : Option History} → PollGives p s q t old new
    → t.adaptors ≡ s.adaptors
poll_gives (drain.given n m below polls lengths) =
    ap adaptors_of lengths.state_is ∙ ap adaptors_of polls.state_is

drains_keep : {now reads polls : ℕ} {p : Progress} {s t : State}
    {result : Result Drained AgentFault} {old new : Option History}
    → Drains now reads polls p s result t old new → result ≡ Ok Done → DrainKeeps s t
drains_keep (drain.read_on i n a at go left more steps rest) is =
    on (step_keeps steps tt at) (drains_keep rest is)
drains_keep (drain.growing i n a at go left last steps) is = absurd (cc)
drains_keep (drain.at_end i a at go left steps rest) is =
    on (step_keeps steps tt at) (drains_keep rest is)
drains_keep (drain.shrank i had size a at go left steps) is = absurd (cc)
drains_keep (drain.unread i a fault at go left steps) is = absurd (cc)
drains_keep (drain.posted n m may posts replies rest) is =
    on_same (ap adaptors_of replies.state_is ∙ ap adaptors_of posts.state_is) (drains_keep rest is)
drains_keep (drain.unposted tries more rest) is =
    on_same (post_tries tries) (drains_keep rest is)
drains_keep (drain.none_took {q = q} tries all) is = absurd (not_done q is)
drains_keep (drain.polled may gives waits some pauses rest) is =
    on_same (poll_gives gives) (drains_keep rest is)
drains_keep (drain.polled_last may gives none rest) is =
    on_same (poll_gives gives) (drains_keep rest is)
drains_keep (drain.pending b may gives most last) is = absurd (cc)
drains_keep (drain.unpolled may tries more rest) is =
    on_same (poll_tries tries) (drains_keep rest is)
drains_keep (drain.none_told {q = q} may tries all) is = absurd (not_done q is)
drains_keep (drain.unpaused given fault may gives waits some ends pauses) is = absurd (cc)
drains_keep (drain.wanting wants) is = absurd (cc)
drains_keep (drain.unsettled fault ended none rows settles) is = absurd (cc)
drains_keep (drain.done_all settled ended settles all) is =
    record { adaptors = settled_keeps settles; saved = all.saved }

pub drained_keeps : {now reads polls : ℕ} (s : State) {t : State} {old new : Option History}
    → IsDrained now reads polls s (Ok Done) t old new → DrainKeeps s t
drained_keeps s drains =
    let k = drains_keep drains refl in record { adaptors = k.adaptors; saved = k.saved }

-- Which calls send nothing of a stream past an offset.
use Rattle.std.proofs.Common.{◌≡◌, ℕ, zero, suc, ◌≤◌, Bool, true, false, List, [], ◌∷◌, ◌++◌, Option, Result, ap, sym, subst, ◌∙◌, refl, arith, append-nil, true≢false}
use Rattle.std.specs.Prelude.{Contains, IsTrue}
use Rattle.chk_bytes.specs.Stems.{Stem}
use Rattle.chk_site.specs.declared.acts.OutsideFault.{OutsideFault}
use Rattle.chk_site.specs.declared.acts.ActAnswer.{ActAnswer}
use Rattle.chk_site.specs.declared.acts.Call.TheVariants.{Send}
use Rattle.chk_site.specs.declared.acts.CallFault.{CallFault}
use Rattle.chk_site.specs.declared.acts.Who.{Who}
use Rattle.chk_site.specs.Acts.{Deed, Sends, deed, same_who}
use Rattle.chk_site.specs.Files.{Files}
use Rattle.chk_site.specs.History.{Step, History, Others}
use Rattle.chk_site.specs.Logs.{Logs}
use Rattle.chk_site.specs.Runs.{Leads, Owns}
use Rattle.chk_site.specs.Site.{Adds, Asked, asked, answered, sized, own_step, Calls}
use Rattle.chk_site.proofs.Leads.{call_owned}
use Rattle.chk_site.proofs.Runs.{adds_as, adds_none, adds_then, every_early, every_join, every_late}
use Rattle.chk_chunk.specs.Keys.{Stream, Chunk, chunk_end, is_of}
use Rattle.chk_http_grammar.specs.Messages.{WrittenPoll, WrittenPost}
use Rattle.chk_http_grammar.proofs.Fronts.{front_of_post_chunks, front_of_post_is_no_poll}
use Rattle.chk_http_grammar.proofs.Written.{written_is_poll, written_is_post}
use Rattle.chk_world.specs.Laws.{agent_of}
use Rattle.chk_world.specs.Places.{As, IsBy, is_message}
use Rattle.chk_world.specs.Rounds.{SendsNonePast}
use Rattle.chk_world.specs.Together.{Outside}
use Rattle.chk_world.specs.Works.{Works, rests, unbegun, works, ends}
use Rattle.chk_world.proofs.ToldCalls.{talks, talks_by, who_self}
use Rattle.chk_agent_delivery.specs.Scripts.{Sends as SendsTo}
use Rattle.chk_round.specs.Sending.{NonePast, SendsBelow}

-- ---- one step

-- what is handed over
abbrev handed : Deed → List ℕ
handed (Sends m address bytes) = bytes
handed call = []

module _ (s : Stream) (end : ℕ) where
  -- one that is no message
  pub quiet_none : (step : Step) → is_message step.act.call ≡ false → SendsNonePast s end step
  quiet_none step quiet by m address bytes is chunks written c one of =
      absurd (true≢false (ap talks (sym is)
      ∙ sym (talks_by step.act.call step.act.words step.act.number step.act.max) ∙ quiet))

  -- one of another process than the stream's agent
  pub apart_none : (step : Step) → (step.act.who ≡ agent_of s → ⊥) → SendsNonePast s end step
  apart_none step apart by m address bytes is chunks written c one of = absurd (apart by)

  pub other_none : (step : Step) → same_who (agent_of s) step.act.who ≡ false
      → SendsNonePast s end step
  other_none step other =
      apart_none step
      (λ by. true≢false (sym (ap (same_who (agent_of s)) by ∙ who_self (agent_of s)) ∙ other))

  -- one that hands over a post of these chunks, each of which ends there or before
  pub front_none : (step : Step) (n : ℕ) (to sent : List ℕ) (front : List Chunk)
      → deed step.act ≡ Sends n to sent
      → WrittenPost to front sent
      → ((c : Chunk) → Contains front c → IsTrue (is_of s c) → chunk_end c ≤ end)
      → SendsNonePast s end step
  front_none step n to sent front call post low by m address bytes is chunks written c one of =
      let same : sent ≡ bytes = ap handed (sym call ∙ is) in
      let chunks_same : front ≡ chunks =
      (front_of_post_chunks address chunks front bytes []
      (subst (WrittenPost address chunks) (sym (append-nil bytes)) written)
      (written_is_post to front bytes (subst (WrittenPost to front) same post))).1 in
      low c (subst (λ (cs : List Chunk). Contains cs c) (sym chunks_same) one) of

  -- one that hands over a poll
  pub poll_none : (step : Step) (n : ℕ) (to sent : List ℕ) (stems : List Stem)
      → deed step.act ≡ Sends n to sent
      → WrittenPoll to stems sent → SendsNonePast s end step
  poll_none step n to sent stems call poll by m address bytes is chunks written c one of =
      let same : sent ≡ bytes = ap handed (sym call ∙ is) in
      absurd (front_of_post_is_no_poll address chunks stems bytes []
      (subst (WrittenPost address chunks) (sym (append-nil bytes)) written)
      (written_is_poll to stems bytes (subst (WrittenPoll to stems) same poll)))

  -- ---- several steps

  pub none_past_in : (added history : History) → NonePast s end added history
      → (step : Step) → Contains added step → SendsNonePast s end step
  none_past_in [] history none step (k, below, at) = absurd (let z : ⊥ = omega (arith, below) in z)
  none_past_in (x ∷ added) history none step (zero, below, at) =
      subst (SendsNonePast s end) at none.1
  none_past_in (x ∷ added) history none step (suc k, below, at) =
      none_past_in added history none.0 step (k, omega (arith, below), at)

  pub none_past_join : (b a history : History) → NonePast s end a history
      → NonePast s end b (a ++ history)
      → NonePast s end (b ++ a) history
  none_past_join b a history x y =
      every_join (λ before step. SendsNonePast s end step) b a history x y

  module _ (stamped : List (List ℕ)) (started : List Who) where
    pub sends_then : {old mid new : Option History}
        → Adds old mid (SendsBelow stamped started s end)
        → Adds mid new (SendsBelow stamped started s end)
        → Adds old new (SendsBelow stamped started s end)
    sends_then p q =
        adds_then (SendsBelow stamped started s end) p q
        (λ a b history x y others. none_past_join b a history
        (x (every_early
        (λ before step. step.own ≡ false → Outside stamped started before step) b a history others))
        (y (every_late
        (λ before step. step.own ≡ false → Outside stamped started before step) b a history
        others)))

    pub sends_none : (now : Option History) → Adds now now (SendsBelow stamped started s end)
    sends_none now = adds_none now (SendsBelow stamped started s end) (λ history others. tt)

    module _ (one : Contains started (agent_of s)) where
      -- the agent is among the processes that the run started, so that no step of others is by it
      pub over : (P : History → Step → Type 0)
          → ((before : History) (step : Step) → P before step → SendsNonePast s end step)
          → (added history : History) → Others (Outside stamped started) added history
          → Owns P added history → NonePast s end added history
      over P less [] history others own = tt
      over P less (step ∷ added) history others own =
          (over P less added history others.0 own.0, go step.own refl)
        where
          go : (b : Bool) → step.own ≡ b → SendsNonePast s end step
          go true is = less (added ++ history) step (own.1 is)
          go false is = other_none step ((others.1 is).foreign (agent_of s) one).other

      -- calls of a library that makes no message
      pub quiet_none_past : (who : Who) {A B : History → Type 0} {old new : Option History}
          → Adds old new (Leads (As stamped who) A B)
          → Adds old new (SendsBelow stamped started s end)
      quiet_none_past who told =
          adds_as (SendsBelow stamped started s end) told
          (λ added history x others. over (IsBy who)
          (λ before step by. quiet_none step by.quiet) added history
          others x.own)

      -- one call
      pub call_none_past : {q : Asked} (given : Result ActAnswer CallFault)
          → ((answer : ActAnswer) (files : Files) (logs : Logs)
          → SendsNonePast s end (own_step q answer files logs)) → {old new : Option History}
          → Adds old new (Calls q given) → Adds old new (SendsBelow stamped started s end)
      call_none_past given none told =
          adds_as (SendsBelow stamped started s end) told
          (λ added history calls others. over (λ before step. SendsNonePast s end step)
          (λ before step x. x) added
          history others (call_owned (λ before step. SendsNonePast s end step) given
          (λ before answer files logs running. none answer files logs) calls))

      -- a call of another process
      pub apart_call : {q : Asked} (given : Result ActAnswer CallFault) → (q.who ≡ agent_of s → ⊥)
          → {old new : Option History} → Adds old new (Calls q given)
          → Adds old new (SendsBelow stamped started s end)
      apart_call {q = q} given apart told =
          call_none_past given
          (λ answer files logs. apart_none (own_step q answer files logs) apart) told

      -- calls of another process in turn
      pub works_none_past : (who : Who) → (who ≡ agent_of s → ⊥) → {P : Deed → Type 0}
          {fault : Option OutsideFault} {old new : Option History} → Works who P fault old new
          → Adds old new (SendsBelow stamped started s end)
      works_none_past who apart rests = sends_none _
      works_none_past who apart unbegun = sends_none _
      works_none_past who apart (works q given by allowed on told more) =
          sends_then (apart_call given (λ e. apart (sym by ∙ e)) told)
          (works_none_past who apart more)
      works_none_past who apart (ends q given by allowed is told) =
          apart_call given (λ e. apart (sym by ∙ e)) told

      -- what is handed over is a post of these chunks
      pub front_sent : (who : Who) (to sent : List ℕ) (front : List Chunk)
          (given : Result ℕ CallFault)
          → WrittenPost to front sent
          → ((c : Chunk) → Contains front c → IsTrue (is_of s c) → chunk_end c ≤ end)
          → {old new : Option History} → SendsTo who to sent given old new
          → Adds old new (SendsBelow stamped started s end)
      front_sent who to sent front given post low call =
          adds_as (SendsBelow stamped started s end) call
          (λ added history x others. over (λ before step. SendsNonePast s end step)
          (λ before step y. y) added history
          others (call_owned (λ before step. SendsNonePast s end step) (answered sized given)
          (λ before answer files logs running. front_none
          (own_step (asked who Send (to ∷ sent ∷ []) x.0 0) answer files logs) x.0 to sent
          front refl post low) x.1))

      -- what is handed over is a poll
      pub poll_sent : (who : Who) (to sent : List ℕ) (stems : List Stem)
          (given : Result ℕ CallFault)
          → WrittenPoll to stems sent → {old new : Option History}
          → SendsTo who to sent given old new
          → Adds old new (SendsBelow stamped started s end)
      poll_sent who to sent stems given poll call =
          adds_as (SendsBelow stamped started s end) call
          (λ added history x others. over (λ before step. SendsNonePast s end step)
          (λ before step y. y) added history
          others (call_owned (λ before step. SendsNonePast s end step) (answered sized given)
          (λ before answer files logs running. poll_none
          (own_step (asked who Send (to ∷ sent ∷ []) x.0 0) answer files logs) x.0 to sent
          stems refl poll) x.1))

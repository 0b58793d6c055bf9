-- A poll tells at least what stays committed.
use Rattle.std.proofs.Common.{◌≡◌, inl, inr, ℕ, ◌≤◌, ◌<◌, Bool, true, false, nat_lt, List, [], ◌∷◌, ◌++◌, length, map, Option, Some, None, Result, Ok, refl, ap, sym, subst, ◌∙◌, arith, if◌then◌else◌}
use Rattle.std.specs.Prelude.{IfOk, Contains, filter, find, is_some, option_map}
use Rattle.std.specs.List.{list_all}
use Rattle.std.proofs.lemmas.Bool.{and_parts, and_from}
use Rattle.std.proofs.lemmas.List.{append_cancel_right}
use Rattle.std.proofs.lemmas.Option.{same_Some, none-some}
use Rattle.chk_bytes.specs.declared.NoMemory.{NoMemory as Wanting}
use Rattle.chk_bytes.specs.Numbers.{limit}
use Rattle.chk_bytes.specs.Stems.{Stem, is_stem, same_stem}
use Rattle.chk_site.specs.declared.acts.Who.{Who}
use Rattle.chk_site.specs.History.{History, Others}
use Rattle.chk_site.specs.Site.{Adds}
use Rattle.chk_site.specs.Runs.{Leads}
use Rattle.chk_site.proofs.Leads.{leads_then}
use Rattle.chk_site.proofs.Runs.{adds_as, adds_then}
use Rattle.chk_http_grammar.specs.Messages.{Ack, is_ack, acks_text, PollRequest, IsReply, IsGoodReply}
use Rattle.chk_http_grammar.proofs.Accepted.{IsReply-same, never_both}
use Rattle.chk_http_grammar.proofs.Apart.{acks_text-same}
use Rattle.chk_http_grammar.proofs.Written.{written_is_poll}
use Rattle.chk_world.specs.Places.{As, Foreign}
use Rattle.chk_world.specs.Rules.{Legal}
use Rattle.chk_world.specs.Together.{Outside, Together}
use Rattle.chk_world.proofs.NameTests.{stem_same}
use Rattle.chk_sink.specs.Least.{StaysReached}
use Rattle.chk_sink.specs.States.{State as Sinks, IsSameStart, process}
use Rattle.chk_sink.proofs.LeastLengths.{early, late}
use Rattle.chk_collector.specs.Least.{LinesAreLeast, TellLeast}
use Rattle.chk_collector.specs.Outcomes.{Outcome, Refused, BadPost, Lines, Fails, HasLines, IsOutcomeOf, OutcomeLeast, body_of, code_of}
use Rattle.chk_collector.proofs.Refused.{bad_code}
use Rattle.chk_http.specs.Faults.{fault_code}
use Rattle.chk_acks.specs.declared.row.Row.{Row}
use Rattle.chk_acks.specs.Rows.{is_unmarked}
use Rattle.chk_acks.specs.Table.{Table}
use Rattle.chk_agent_delivery.specs.declared.answers.Below.{Below}
use Rattle.chk_agent_delivery.specs.declared.answers.PollAnswer.{PollAnswer}
use Rattle.chk_agent_delivery.specs.declared.answers.PollAnswer.TheVariants.{Lengths}
use Rattle.chk_agent_delivery.specs.Scripts.{AsksReply, IsPollReplied, TakesPollReply}
use Rattle.chk_agent_delivery.specs.States.{Poll, State as Delivery}
use Rattle.chk_agent_delivery.specs.Turns.{SeesAll, below_in, below_row, first_below, length_of}
use Rattle.chk_agent.specs.Facts.{Matches as AgentMatches}
use Rattle.chk_agent.specs.States.{State as Agents, process as agent_of}
use Rattle.chk_agent.specs.Turns.{GetsLengths}
use Rattle.chk_exchange.specs.declared.fault.ExchangeFault.{ExchangeFault}
use Rattle.chk_exchange.specs.Exchanges.{EndsPoll, SendsPoll, ungot, silent, taken, told, refused}
use Rattle.chk_exchange.specs.Least.{IsToldOf, RepliedIn, TellsLeast}
use Rattle.chk_exchange.specs.Legality.{BothAt, IsServed}
use Rattle.chk_exchange.proofs.Ending.{got_such}
use Rattle.chk_exchange.proofs.Given.{given_is}
use Rattle.chk_exchange.proofs.Polling.{is_written, poll_out, sends_keep, sent_message}
use Rattle.chk_exchange.proofs.Unreached.{below_above}
use Rattle.chk_exchange.proofs.Ways.{any, any_then}
use Rattle.chk_exchange.proofs.Whole.{of_agent, of_later}

-- ---- the lines that were got are those of the outcome

valid : (who : Who) (x : Stem) (k : ℕ) (acks : List Ack)
    → list_all is_stem (map (λ (a : Ack). a.stem) acks) ≡ true → LinesAreLeast who x k acks
    → list_all is_ack acks ≡ true
valid who x k [] stems all = refl
valid who x k (a ∷ acks) stems all =
    let p = and_parts (is_stem a.stem) (list_all is_stem (map (λ (a : Ack). a.stem) acks)) stems in
    and_from (is_ack a) (list_all is_ack acks)
    (and_from (is_stem a.stem) (nat_lt a.number limit) p.0 (less a.number limit all.0.small))
    (valid who x k acks p.1 all.1)
  where
    less : (m n : ℕ) → m < n → nat_lt m n ≡ true
    less m n h = grind (arith, h)

module _ (lengths : List Ack) (stems : List Stem) (request got : List ℕ)
    (poll : PollRequest stems request) (good : IsGoodReply lengths got) where
  of_stems : (acks : List Ack) → HasLines request acks
      → list_all is_stem (map (λ (a : Ack). a.stem) acks) ≡ true
  of_stems acks (inl p) = absurd (never_both p.1.0 stems request p.1.1 poll)
  of_stems acks (inr p) = subst (λ l. list_all is_stem l ≡ true) (sym p.2) p.1.are

  tell : (s : Sinks) (o : Outcome) {before after : Option History} → IsOutcomeOf request o
      → IsReply (code_of o) (body_of o) got → OutcomeLeast request s before after o
      → TellLeast (process s) lengths before after
  tell s (Refused f) of read least =
      absurd (bad_code f (IsReply-same (fault_code f) 200 _ (acks_text lengths) got read good.1).0)
  tell s (BadPost f) of read least =
      absurd (let e = (IsReply-same 400 200 _ (acks_text lengths) got read good.1).0 in omega (arith, e))
  tell s (Fails f) of read least =
      absurd (let e = (IsReply-same 503 200 _ (acks_text lengths) got read good.1).0 in omega (arith, e))
  tell s (Lines acks) of read least = λ stamped x k.
      adds_as (λ added history. StaysReached stamped (process s) x k added history → LinesAreLeast (process s) x k lengths)
      (least stems poll stamped x k)
      (λ added history so st.
      let all = so st in
      let same = acks_text-same acks lengths (valid (process s) x k acks (of_stems acks of) all) good.0
      (IsReply-same 200 200 (acks_text acks) (acks_text lengths) got read good.1).1 in
      subst (LinesAreLeast (process s) x k) same all)

-- ---- the length that is told of a sink

named : (lengths : List Ack) (rows : List Row) (x : Below) → first_below lengths rows ≡ Some x
    → length_of x.stem lengths ≡ Some x.got
named lengths [] x e = absurd (none-some x e)
named lengths (row ∷ rows) x e =
    go (is_some (length_of row.stem lengths)) (λ q. named lengths rows x q) e
  where
    at : (o : Option ℕ) → length_of row.stem lengths ≡ o
        → option_map {U = Below} (λ got. record { stem = row.stem; got = got; want = row.offset }) o ≡ Some x
        → length_of x.stem lengths ≡ Some x.got
    at None is q = absurd (none-some x q)
    at (Some n) is q =
        let same = same_Some (record { stem = row.stem; got = n; want = row.offset }) x q in
        ap (λ (b : Below). length_of b.stem lengths) (sym same) ∙ is ∙ ap (λ (b : Below). Some b.got) same

    go : (b : Bool) → (first_below lengths rows ≡ Some x → length_of x.stem lengths ≡ Some x.got)
        → (if b then below_row lengths row else first_below lengths rows) ≡ Some x
        → length_of x.stem lengths ≡ Some x.got
    go true later q = at (length_of row.stem lengths) refl q
    go false later q = later q

least_of : (who : Who) (x : Stem) (k : ℕ) (lengths : List Ack) → LinesAreLeast who x k lengths
    → x.collector ≡ who.name → (n : ℕ) → length_of x lengths ≡ Some n → k ≤ n
least_of who x k [] all own n e = absurd (none-some n e)
least_of who x k (a ∷ lengths) all own n e =
    go (same_stem a.stem x) refl (λ q. least_of who x k lengths all.1 own n q) e
  where
    go : (b : Bool) → same_stem a.stem x ≡ b → (length_of x lengths ≡ Some n → k ≤ n)
        → option_map (λ (k : Ack). k.number) (if b then Some a else find (λ (k : Ack). same_stem k.stem x) lengths) ≡ Some n
        → k ≤ n
    go true same later q =
        let here = all.0.least (stem_same a.stem x same) own in
        let is = same_Some a.number n q in
        omega (arith, here, is)
    go false same later q = later q

-- ---- what the agent got

record GotLengths (b : Agents) (below : Option Below) (old new : Option History) : Type 0 where
  poll : Poll
  out : b.delivery.poll ≡ Some poll
  bytes : List ℕ
  asks : AsksReply (agent_of b) poll.message (Ok bytes) old new
  lengths : List Ack
  good : IsGoodReply lengths bytes
  table : Table
  sees : SeesAll lengths b.delivery.table table
  below_is : below ≡ below_in lengths table

got_lengths : (b : Agents) {given : Result PollAnswer Wanting} {d : Delivery} {old new : Option History}
    → IsPollReplied (agent_of b) b.delivery given d old new → (k : ℕ) (below : Option Below)
    → given ≡ Ok (Lengths k below) → GotLengths b below old new
got_lengths b (IsPollReplied.nothing none) k below e = absurd (let z : ⊥ = cc in z)
got_lengths b (IsPollReplied.got p bytes is asks (TakesPollReply.good {t = t} lengths good are sees)) k below e = record {
  poll = p;
  out = is;
  bytes = bytes;
  asks = asks;
  lengths = lengths;
  good = good;
  table = t;
  sees = sees;
  below_is = let z : below_in lengths t ≡ below = cc in sym z;
}
got_lengths b (IsPollReplied.got p bytes is asks (TakesPollReply.bad code no_good of)) k below e = absurd (let z : ⊥ = cc in z)
got_lengths b (IsPollReplied.silent p is asks) k below e = absurd (let z : ⊥ = cc in z)
got_lengths b (IsPollReplied.wanting fault p is asks) k below e = absurd (let z : ⊥ = cc in z)

-- ---- the whole poll

module _ (who : Who) (s u : Sinks) (a b c : Agents) (made : Option ExchangeFault) (is : who ≡ process s) (same : IsSameStart s u)
    {old mid next new : Option History} (sends : SendsPoll a (Ok tt) b old mid)
    (served : (stamped : List (List ℕ)) (started acting : List Who) → Contains started (process s) → Contains started (agent_of a)
    → Contains acting (process s) → Contains acting (agent_of a)
    → Adds old next (Leads (Together stamped started acting) (BothAt stamped s a)
    (IsServed stamped u b (sent_message sends).message (sent_message sends).bytes (RepliedIn s u mid next) made)))
    (reply_told : (stamped : List (List ℕ))
    → Adds next new (Leads (As stamped (agent_of b)) (AgentMatches stamped b) (AgentMatches stamped c))) where
  abbrev Bytes : List ℕ
  Bytes = (sent_message sends).bytes

  polled : PollRequest (poll_out sends).stems Bytes
  polled = let w = is_written sends in written_is_poll w.address (poll_out sends).stems Bytes w.written

  theirs : (stamped : List (List ℕ)) (started : List Who) → Contains started (process s) → (added history : History)
      → Others (Outside stamped started) added history → Others (Foreign stamped (process s)) added history
  theirs stamped started in_c [] history others = tt
  theirs stamped started in_c (step ∷ added) history others = (
    theirs stamped started in_c added history others.0,
    λ own. (others.1 own).foreign (process s) in_c,
  )

  -- the lines that were got are at least what stays committed
  all_least : (lengths : List Ack) (got : List ℕ) → IsGoodReply lengths got → RepliedIn s u mid next Bytes got
      → (stamped : List (List ℕ)) (x : Stem) (k : ℕ)
      → Adds old new (λ added history. StaysReached stamped (process s) x k added history → LinesAreLeast (process s) x k lengths)
  all_least lengths got good r stamped x k =
      adds_then P
      (adds_then P (any_then (any (sent_message sends).sends) r.went)
      (tell lengths (poll_out sends).stems Bytes got polled good s r.replied.outcome r.replied.by_bytes r.read r.replied.least stamped x k)
      (λ a b history none so st. so (late b a history st)))
      (any_then r.left (any (reply_told [])))
      (λ a b history so none st. so (early b a history st))
    where
      P : History → History → Type 0
      P added history = StaysReached stamped (process s) x k added history → LinesAreLeast (process s) x k lengths

  module _ (count : ℕ) (x : Below) (gets : GetsLengths b (Ok (Lengths count (Some x))) c next new) where
    g : GotLengths b (Some x) next new
    g = got_lengths b gets.made count (Some x) (given_is gets.given (Lengths count (Some x)) gets.result_is)

    told_length : length_of x.stem g.lengths ≡ Some x.got
    told_length = named g.lengths (filter is_unmarked g.table.rows) x (sym g.below_is)

    asks : AsksReply (agent_of b) (sent_message sends).message (Ok g.bytes) next new
    asks =
        subst (λ (q : Poll). AsksReply (agent_of b) q.message (Ok g.bytes) next new)
        (same_Some g.poll (poll_out sends) (sym g.out ∙ (is_written sends).out)) g.asks

    is_told : IsToldOf who s a x old new
    is_told stamped started acting k in_who in_a acts_who acts_a own = record {
      told =
          λ history e.
          let y = first.told history e in (
            y.0,
            y.1,
            λ others both reached.
                let r = y.2.leads others both in
                let z = (all_least g.lengths g.bytes g.good r.1 stamped x.stem k).told history e in
                let added : z.0 ≡ y.0 =
                append_cancel_right z.0 y.0 history (same_Some (z.0 ++ history) (y.0 ++ history) (sym z.1 ∙ y.1)) in
                let lines =
                subst (λ l. StaysReached stamped (process s) x.stem k l history → LinesAreLeast (process s) x.stem k g.lengths) added z.2
                (record { legal = r.0; others = theirs stamped started in_c y.0 history others; reached = reached }) in
                least_of (process s) x.stem k g.lengths lines own x.got told_length,
          );
      untold = first.untold;
    }
      where
        in_c : Contains started (process s)
        in_c = subst (Contains started) is in_who

        acts_c : Contains acting (process s)
        acts_c = subst (Contains acting) is acts_who

        first : Adds old new (Leads (Together stamped started acting) (BothAt stamped s a)
            (λ h. Legal stamped h × RepliedIn s u mid next Bytes g.bytes))
        first =
            leads_then (served stamped started acting in_c in_a acts_c acts_a)
            (got_such stamped started acting u b c (sent_message sends).message Bytes made (of_later started s u same in_c)
            (of_agent started a b (sends_keep sends) in_a) (of_agent acting a b (sends_keep sends) acts_a) g.bytes (reply_told stamped) asks)

  main : (count : ℕ) (below : Option Below) → GetsLengths b (Ok (Lengths count below)) c next new → TellsLeast who s a below old new
  main count None gets = tt
  main count (Some x) gets = (
    below_above (g count x gets).lengths b.delivery.table (g count x gets).table (g count x gets).sees x (told_length count x gets)
        (sym (g count x gets).below_is),
    is_told count x gets,
  )

  pub ends_least : {count : ℕ} {result : Result (Option Below) ExchangeFault} → EndsPoll count b made result c next new
      → IfOk result (λ below. TellsLeast who s a below old new)
  ends_least (ungot gets) = tt
  ends_least (silent gets) = tt
  ends_least {count = count} (taken below none gets) = main count below gets
  ends_least (told fault answer some came gets) = tt
  ends_least (refused code other gets) = tt

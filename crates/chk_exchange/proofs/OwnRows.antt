-- The rows that a post adds are of sinks of the collector's start.
use Rattle.std.proofs.Common.{◌≡◌, ℕ, ◌-◌, ◌<◌, ◌≤◌, ◌^◌, true, not, nat_lt, List, [], ◌∷◌, ◌++◌, length, take, Option, Some, Result, Ok, refl, ap, sym, subst, ◌∙◌, arith}
use Rattle.std.specs.Prelude.{OnOk, Contains, decimal, IsTrue, ◌==◌}
use Rattle.std.specs.List.{list_all}
use Rattle.std.proofs.lemmas.Bool.{and_parts, ltb-true, ne_eqb}
use Rattle.std.proofs.lemmas.Fmt.{decimal_injective}
use Rattle.std.proofs.lemmas.Option.{same_Some}
use Rattle.chk_bytes.specs.declared.NoMemory.{NoMemory as Wanting}
use Rattle.chk_bytes.specs.Numbers.{limit}
use Rattle.chk_bytes.specs.Stems.{Stem, is_stem, stem_text}
use Rattle.chk_bytes.specs.Words.{lacks}
use Rattle.chk_bytes.proofs.PartLemmas.{same_split}
use Rattle.chk_chunk.specs.declared.Chunk.{Chunk}
use Rattle.chk_chunk.specs.Keys.{Chunk as Written}
use Rattle.chk_chunk.specs.Lent.{chunks_of}
use Rattle.chk_site.specs.declared.acts.Who.{Who}
use Rattle.chk_site.specs.History.{History}
use Rattle.chk_site.specs.Site.{Adds}
use Rattle.chk_site.specs.Runs.{Leads}
use Rattle.chk_site.proofs.Leads.{leads_then}
use Rattle.chk_http_grammar.specs.Messages.{Ack, ack_of, ack_text, acks_text, is_ack, IsPostOf, IsReply, IsGoodReply}
use Rattle.chk_http_grammar.proofs.Accepted.{IsReply-same}
use Rattle.chk_http_grammar.proofs.Apart.{ack_line, no_mark_in_stem, stem_text-same, unparted}
use Rattle.chk_http_grammar.proofs.Texts.{decimal_between, is_between, list_all-weaker}
use Rattle.chk_http_grammar.proofs.Written.{written_is_post}
use Rattle.chk_http.specs.Faults.{fault_code}
use Rattle.chk_world.specs.Places.{As}
use Rattle.chk_world.specs.Rules.{Legal}
use Rattle.chk_world.specs.Together.{Together}
use Rattle.chk_acks.specs.declared.row.Row.{Row}
use Rattle.chk_acks.specs.Table.{Table, added, answer_row}
use Rattle.chk_sink.specs.States.{State as Sinks, IsSameStart, process}
use Rattle.chk_collector.specs.Outcomes.{Outcome, Refused, BadPost, Lines, Fails, OutcomeOfStart, body_of, code_of}
use Rattle.chk_collector.specs.OwnLines.{AreOfStart}
use Rattle.chk_collector.proofs.Refused.{bad_code}
use Rattle.chk_agent_delivery.specs.declared.answers.Answered.{Answered}
use Rattle.chk_agent_delivery.specs.declared.answers.Answered.TheVariants.{Taken}
use Rattle.chk_agent_delivery.specs.declared.answers.Posted.{Posted}
use Rattle.chk_agent_delivery.specs.Scripts.{AsksReply, IsPosted, IsPostReplied, TakesPostReply}
use Rattle.chk_agent_delivery.specs.States.{Post, State as Delivery}
use Rattle.chk_agent_delivery.specs.Turns.{answered_rows}
use Rattle.chk_agent.specs.Facts.{Matches as AgentMatches}
use Rattle.chk_agent.specs.States.{State as Agents, process as agent_of}
use Rattle.chk_agent.specs.Turns.{GetsPostReply}
use Rattle.chk_exchange.specs.declared.fault.ExchangeFault.{ExchangeFault}
use Rattle.chk_exchange.specs.Exchanges.{EndsPost, SendsPost, ungot, silent, taken, told, refused}
use Rattle.chk_exchange.specs.Least.{RepliedIn}
use Rattle.chk_exchange.specs.Legality.{BothAt, IsServed}
use Rattle.chk_exchange.specs.OwnRows.{AllRows, IsOwnSink, KeepsOwn, RowsOwn}
use Rattle.chk_exchange.proofs.Ending.{got_such}
use Rattle.chk_exchange.proofs.Given.{given_is}
use Rattle.chk_exchange.proofs.Posting.{is_written, post_out, sends_keep, sent_message, sent_so}
use Rattle.chk_exchange.proofs.Whole.{of_agent, of_later}

-- ---- the lines that were got are those of the outcome

-- a number of 8 bytes has no space and no line end
no_mark_wide : (c n : ℕ) → c ≤ 47 → n < 2 ^ 64 → IsTrue (lacks c (decimal n))
no_mark_wide c n below wide =
    list_all-weaker (is_between 47 58) (λ b. not (b == c))
    (λ b e. above b (ltb-true 47 b (and_parts (nat_lt 47 b) (nat_lt b 58) e).0)) (decimal n) (decimal_between n wide)
  where
    above : (b : ℕ) → 47 < b → not (b == c) ≡ true
    above b more = ap not (ne_eqb b c (λ same. omega arith))

one_line : (u : Sinks) (a b : Ack) (r s : List ℕ) → IsTrue (is_ack a) → IsTrue (is_stem b.stem) → b.number < 2 ^ 64
    → ack_text a ++ r ≡ ack_text b ++ s → (a ≡ b) × (r ≡ s)
one_line u a b r s a_is b_stem b_wide e =
    let a_parts = and_parts (is_stem a.stem) (nat_lt a.number limit) a_is in
    let a_small = ltb-true a.number limit a_parts.1 in
    let stems = same_split 32 (stem_text a.stem) (decimal a.number ++ 10 ∷ r) (stem_text b.stem) (decimal b.number ++ 10 ∷ s)
    (no_mark_in_stem 32 a.stem (omega arith) a_parts.0) (no_mark_in_stem 32 b.stem (omega arith) b_stem)
    (sym (ack_line a r) ∙ (e ∙ ack_line b s)) in
    let numbers = same_split 10 (decimal a.number) r (decimal b.number) s
    (no_mark_wide 10 a.number (omega arith) (omega (arith, a_small))) (no_mark_wide 10 b.number (omega arith) b_wide) stems.1 in
    let same_stem = stem_text-same a.stem b.stem a_parts.0 b_stem stems.0 in
    let same_number = decimal_injective a.number b.number (omega (arith, a_small)) b_wide numbers.0 in
    (ap (λ x. ack_of x a.number) same_stem ∙ ap (λ n. ack_of b.stem n) same_number, numbers.1)

same_lines : (u : Sinks) (xs ys : List Ack) → IsTrue (list_all is_ack xs) → AreOfStart u ys
    → acks_text xs ≡ acks_text ys → xs ≡ ys
same_lines u [] [] are own e = refl
same_lines u [] (y ∷ ys) are own e =
    absurd (unparted 32 (stem_text y.stem) [] (decimal y.number ++ 10 ∷ acks_text ys) refl
    (sym (ack_line y (acks_text ys)) ∙ sym e))
same_lines u (x ∷ xs) [] are own e =
    absurd (unparted 32 (stem_text x.stem) [] (decimal x.number ++ 10 ∷ acks_text xs) refl
    (sym (ack_line x (acks_text xs)) ∙ e))
same_lines u (x ∷ xs) (y ∷ ys) are own e =
    let parts = and_parts (is_ack x) (list_all is_ack xs) are in
    let first = one_line u x y (acks_text xs) (acks_text ys) parts.0 own.0.stem own.0.wide e in
    ap (λ a. a ∷ xs) first.0 ∙ ap (λ l. y ∷ l) (same_lines u xs ys parts.1 own.1 first.1)

module _ (u : Sinks) (lines : List Ack) (request got : List ℕ) (chunks : List Written)
    (post : IsPostOf chunks request) (good : IsGoodReply lines got) where
  own_lines : (o : Outcome) → IsReply (code_of o) (body_of o) got → OutcomeOfStart request u o
      → AreOfStart u lines
  own_lines (Refused f) read own =
      absurd (bad_code f (IsReply-same (fault_code f) 200 _ (acks_text lines) got read good.1).0)
  own_lines (BadPost f) read own =
      absurd (let e = (IsReply-same 400 200 _ (acks_text lines) got read good.1).0 in omega (arith, e))
  own_lines (Fails f) read own =
      absurd (let e = (IsReply-same 503 200 _ (acks_text lines) got read good.1).0 in omega (arith, e))
  own_lines (Lines acks) read own =
      let all = own chunks post in
      subst (AreOfStart u)
      (sym (same_lines u lines acks good.0 all
      (sym (IsReply-same 200 200 (acks_text acks) (acks_text lines) got read good.1).1))) all

-- ---- the rows behind it

rows_more : (P : Stem → ℕ → Type 0) (rows : List Row) (row : Row) → AllRows P rows
    → P row.stem row.offset → AllRows P (rows ++ row ∷ [])
rows_more P [] row all one = (one, tt)
rows_more P (r ∷ rows) row all one = (all.0, rows_more P rows row all.1 one)

rows_answered : (u : Sinks) (now : ℕ) (owners : List ℕ) (chunks : List Chunk) (acks : List Ack) (t : Table)
    → AllRows (λ x n. IsOwnSink u x) t.rows → AreOfStart u acks
    → AllRows (λ x n. IsOwnSink u x) (answered_rows now owners chunks acks t).rows
rows_answered u now [] chunks acks t all own = all
rows_answered u now (i ∷ owners) [] acks t all own = all
rows_answered u now (i ∷ owners) (c ∷ chunks) [] t all own = all
rows_answered u now (i ∷ owners) (c ∷ chunks) (k ∷ acks) t all own =
    rows_answered u now owners chunks acks
    (added (answer_row i (c.seq - length c.body) c.seq k.stem k.number now) t)
    (rows_more (λ x n. IsOwnSink u x) t.rows (answer_row i (c.seq - length c.body) c.seq k.stem k.number now) all
    (record { collector = own.0.collector; born = own.0.born })) own.1

pub rows_later : (s u : Sinks) → IsSameStart s u → (rows : List Row)
    → AllRows (λ x n. IsOwnSink s x) rows → AllRows (λ x n. IsOwnSink u x) rows
rows_later s u same [] all = tt
rows_later s u same (row ∷ rows) all = (
  record { collector = all.0.collector ∙ sym same.collector; born = all.0.born ∙ sym same.born },
  rows_later s u same rows all.1,
)

-- ---- what the agent got

table_posted : {who : Who} {s d : Delivery} {given : Result Posted Wanting} {old new : Option History}
    → IsPosted who s given d old new → d.table ≡ s.table
table_posted (IsPosted.empty none) = refl
table_posted (IsPosted.no_rows some none) = refl
table_posted (IsPosted.sent front bytes m is_front written sends) = refl
table_posted (IsPosted.failed front bytes is_front written sends) = refl
table_posted (IsPosted.unsent fault) = refl
table_posted (IsPosted.refused fault front bytes is_front written sends) = refl

record GotLines (now : ℕ) (b : Agents) (d : Delivery) (old new : Option History) : Type 0 where
  post : Post
  out : b.delivery.post ≡ Some post
  bytes : List ℕ
  asks : AsksReply (agent_of b) post.message (Ok bytes) old new
  acks : List Ack
  good : IsGoodReply acks bytes
  table_is : d.table ≡ answered_rows now b.delivery.owners (take post.count b.delivery.queue.chunks) acks b.delivery.table

got_lines : (now : ℕ) (b : Agents) {given : Result Answered Wanting} {d : Delivery} {old new : Option History}
    → IsPostReplied (agent_of b) now b.delivery given d old new → (k : ℕ) → given ≡ Ok (Taken k)
    → GotLines now b d old new
got_lines now b (IsPostReplied.nothing none) k e = absurd (let z : ⊥ = cc in z)
got_lines now b (IsPostReplied.got p bytes is asks (TakesPostReply.good acks good size)) k e = record {
  post = p;
  out = is;
  bytes = bytes;
  asks = asks;
  acks = acks;
  good = good;
  table_is = refl;
}
got_lines now b (IsPostReplied.got p bytes is asks (TakesPostReply.bad code no_good of)) k e = absurd (let z : ⊥ = cc in z)
got_lines now b (IsPostReplied.silent p is asks) k e = absurd (let z : ⊥ = cc in z)
got_lines now b (IsPostReplied.wanting fault p is asks) k e = absurd (let z : ⊥ = cc in z)

-- ---- the whole post

module _ (who : Who) (now : ℕ) (s u : Sinks) (a b c : Agents) (made : Option ExchangeFault) (is : who ≡ process s)
    (same : IsSameStart s u)
    {old mid next new : Option History} (sends : SendsPost a (Ok tt) b old mid)
    (served : (stamped : List (List ℕ)) (started acting : List Who) → Contains started (process s) → Contains started (agent_of a)
    → Contains acting (process s) → Contains acting (agent_of a)
    → Adds old next (Leads (Together stamped started acting) (BothAt stamped s a)
    (IsServed stamped u b (sent_message sends).message (sent_message sends).bytes (RepliedIn s u mid next) made)))
    (reply_told : (stamped : List (List ℕ))
    → Adds next new (Leads (As stamped (agent_of b)) (AgentMatches stamped b) (AgentMatches stamped c))) where
  abbrev Bytes : List ℕ
  Bytes = (sent_message sends).bytes

  module _ (count : ℕ) (gets : GetsPostReply now b (Ok (Taken count)) c next new) where
    g : GotLines now b gets.delivery next new
    g = got_lines now b gets.made count (given_is gets.given (Taken count) gets.result_is)

    asks : AsksReply (agent_of b) (sent_message sends).message (Ok g.bytes) next new
    asks =
        subst (λ (q : Post). AsksReply (agent_of b) q.message (Ok g.bytes) next new)
        (same_Some g.post (post_out sends) (sym g.out ∙ (is_written sends).out)) g.asks

    table_before : b.delivery.table ≡ a.delivery.table
    table_before =
        let posts = (sent_so sends).1 in
        ap (λ (k : Agents). k.delivery.table) posts.state_is ∙ table_posted posts.made

    table_behind : c.delivery.table ≡ answered_rows now b.delivery.owners (take g.post.count b.delivery.queue.chunks) g.acks b.delivery.table
    table_behind = ap (λ (k : Agents). k.delivery.table) gets.state_is ∙ g.table_is

    rows_behind : RepliedIn s u mid next Bytes g.bytes → RowsOwn s a → RowsOwn u c
    rows_behind r own =
        let w = is_written sends in
        let lines = own_lines u g.acks Bytes g.bytes (chunks_of w.front)
        (written_is_post w.address (chunks_of w.front) Bytes w.written) g.good r.replied.outcome r.read r.replied.of_start in
        subst (λ (t : Table). AllRows (λ x n. IsOwnSink u x) t.rows) (sym table_behind)
        (rows_answered u now b.delivery.owners (take g.post.count b.delivery.queue.chunks) g.acks b.delivery.table
        (subst (λ (t : Table). AllRows (λ x n. IsOwnSink u x) t.rows) (sym table_before)
        (rows_later s u same a.delivery.table.rows own)) lines)

    keeps_own : KeepsOwn who s a u c old new
    keeps_own stamped started acting in_who in_a acts_who acts_a = record {
      told =
          λ history e.
          let y = first.told history e in (
            y.0,
            y.1,
            λ others both own. rows_behind (y.2.leads others both).1 own,
          );
      untold = first.untold;
    }
      where
        in_c : Contains started (process s)
        in_c = subst (Contains started) is in_who

        acts_c : Contains acting (process s)
        acts_c = subst (Contains acting) is acts_who

        first : Adds old new (Leads (Together stamped started acting) (BothAt stamped s a)
            (λ h. Legal stamped h × RepliedIn s u mid next Bytes g.bytes))
        first =
            leads_then (served stamped started acting in_c in_a acts_c acts_a)
            (got_such stamped started acting u b c (sent_message sends).message Bytes made (of_later started s u same in_c)
            (of_agent started a b (sends_keep sends) in_a) (of_agent acting a b (sends_keep sends) acts_a) g.bytes (reply_told stamped) asks)

  pub ends_own : {count : ℕ} {result : Result (Unit {0}) ExchangeFault} → EndsPost now count b made result c next new
      → OnOk result (KeepsOwn who s a u c old new)
  ends_own (ungot gets) = tt
  ends_own (silent gets) = tt
  ends_own {count = count} (taken none gets) = keeps_own count gets
  ends_own (told fault answer some came gets) = tt
  ends_own (refused code other gets) = tt

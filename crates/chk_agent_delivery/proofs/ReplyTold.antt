-- The reply to a post: what the history holds of the state goes on.
use Rattle.std.proofs.Common.{◌≡◌, ◌⊎◌, inl, inr, ℕ, zero, suc, ◌-◌, ◌≤◌, List, [], ◌∷◌, ◌++◌, length, take, drop, Option, Some, Result, Ok, Err, sym, subst, ◌∙◌, refl, arith, true≢false}
use Rattle.std.specs.Prelude.{IsTrue, Contains, slice_get, slice_index}
use Rattle.std.proofs.lemmas.List.{length-map}
use Rattle.chk_bytes.specs.declared.NoMemory.{NoMemory}
use Rattle.chk_site.specs.declared.acts.Who.{Who}
use Rattle.chk_site.specs.declared.acts.Call.TheVariants.{Got}
use Rattle.chk_site.specs.declared.acts.CallFault.{CallFault}
use Rattle.chk_site.specs.declared.acts.CallFault.TheVariants.{Failed, NoMemory as no_memory}
use Rattle.chk_site.specs.declared.acts.OutsideFault.{OutsideFault}
use Rattle.chk_site.specs.declared.acts.OutsideFault.TheVariants.{Outside, NoMemory as wanting_memory}
use Rattle.chk_site.specs.History.{History, since_start}
use Rattle.chk_site.specs.Site.{Adds, asked, Ends, bytes_given}
use Rattle.chk_site.specs.Runs.{Leads}
use Rattle.chk_site.proofs.Leads.{leads_as, leads_none}
use Rattle.chk_chunk.specs.Keys.{Chunk, is_chunk}
use Rattle.chk_chunk.specs.declared.Chunk.{Chunk as OwnedChunk}
use Rattle.chk_chunk.specs.Lent.{chunk_of, chunks_of, AreValid}
use Rattle.chk_http_grammar.specs.Messages.{Ack, IsGoodReply, WrittenPost}
use Rattle.chk_acks.specs.Table.{Table, answer_row, added}
use Rattle.chk_acks.specs.declared.row.Row.{Row}
use Rattle.chk_world.specs.Names.{is_source}
use Rattle.chk_world.specs.Agents.{Sent, GotFor, LineFor}
use Rattle.chk_world.specs.Places.{As}
use Rattle.chk_world.specs.Reading.{ChunkStands}
use Rattle.chk_world.specs.Knowing.{agent, Both}
use Rattle.chk_world.proofs.AgentDoes.{Gained, got_told}
use Rattle.chk_world.proofs.AgentKnows.{agent_ends}
use Rattle.chk_agent_delivery.specs.declared.answers.Answered.{Answered}
use Rattle.chk_agent_delivery.specs.States.{Post, State}
use Rattle.chk_agent_delivery.specs.Turns.{answered_rows, post_taken, post_refused}
use Rattle.chk_agent_delivery.specs.Scripts.{AsksReply, TakesPostReply, good, bad, IsPostReplied, nothing, got, silent, wanting}
use Rattle.chk_agent_delivery.specs.Basis.{Basis, Fits, AreOwned, stream_of_chunk}
use Rattle.chk_agent_delivery.specs.Facts.{RowStands, PostStands, EndStands, Holds, Matches}
use Rattle.chk_agent_delivery.proofs.Members.{valid_in}
use Rattle.chk_agent_delivery.proofs.Growing.{holds_grows}
use Rattle.chk_agent_delivery.proofs.Rows.{answered_same}
use Rattle.chk_agent_delivery.specs.Sound.{IsSound, PostFits}
use Rattle.chk_agent_delivery.proofs.Fronts.{taken_size}
use Rattle.chk_agent_delivery.proofs.PostTold.{matches_as, holds_refused}

pub in_end : (xs : List Row) (r row : Row) → Contains (xs ++ r ∷ []) row → Contains xs row ⊎ (r ≡ row)
in_end [] r row (zero, below, at) = inr at
in_end [] r row (suc k, below, at) = absurd (let z : ⊥ = omega (arith, below) in z)
in_end (x ∷ xs) r row (zero, below, at) = inl (zero, omega arith, at)
in_end (x ∷ xs) r row (suc k, below, at) = elim (in_end xs r row (k, omega (arith, below), at)) [
  | inl c ↦ let b = c.1 in inl (suc c.0, omega (arith, b), c.2)
  | inr same ↦ inr same
]

pub in_drop : {X : Type 0} (n : ℕ) (xs : List X) (x : X) → Contains (drop n xs) x → Contains xs x
in_drop zero xs x one = one
in_drop (suc n) [] x one = one
in_drop (suc n) (y ∷ ys) x one =
    let r = in_drop n ys x one in
    let b = r.1 in (suc r.0, omega (arith, b), r.2)

-- ---- the rows of a good reply

module _ (b : Basis) (history : History) (now post : ℕ) (address bytes reply : List ℕ) (all : List Chunk) (every : List Ack)
    (sent : Sent (since_start (agent b.source) history) post address bytes) (written : WrittenPost address all bytes)
    (replied : GotFor (since_start (agent b.source) history) post reply) (is_good : IsGoodReply every reply)
    (of_source : (i : ℕ) (c : OwnedChunk) → slice_get b.streams i ≡ Some (stream_of_chunk c) → c.source ≡ b.source) where
  abbrev AllStand : Table → Type 0
  AllStand t = (row : Row) → Contains t.rows row → RowStands b.source b.streams row history

  abbrev made_row : ℕ → OwnedChunk → Ack → Row
  made_row i c k = answer_row i (c.seq - length c.body) c.seq k.stem k.number now

  row_made : (i : ℕ) (c : OwnedChunk) (k : Ack) → slice_get b.streams i ≡ Some (stream_of_chunk c) → IsTrue (is_chunk (chunk_of c))
      → ChunkStands history (chunk_of c) → LineFor all every (chunk_of c) k → RowStands b.source b.streams (made_row i c k) history
  row_made i c k there valid stands line = record {
    t = stream_of_chunk c;
    known = there;
    c = chunk_of c;
    valid = valid;
    stream = refl;
    of = of_source i c there;
    begin = refl;
    end = refl;
    stands = stands;
    answered = record {
      post = post;
      address = address;
      sent_bytes = bytes;
      chunks = all;
      posted = sent;
      is_post = written;
      reply = reply;
      acks = every;
      replied = replied;
      is_good = is_good;
      line = line;
    };
    marked = λ m. absurd (true≢false (sym m));
  }

  -- each row that the reply adds stands
  rows_made : (owners : List ℕ) (queue : List OwnedChunk) (n : ℕ) (acks : List Ack) (t : Table) → length acks ≡ length (take n queue)
      → ((d : Chunk) (a : Ack) → LineFor (chunks_of (take n queue)) acks d a → LineFor all every d a)
      → AreOwned b owners queue → ((c : OwnedChunk) → Contains queue c → IsTrue (is_chunk (chunk_of c)) × ChunkStands history (chunk_of c))
      → AllStand t → AllStand (answered_rows now owners (take n queue) acks t)
  rows_made [] queue n acks t long up owned stands stand = stand
  rows_made (i ∷ owners) queue zero acks t long up owned stands stand = stand
  rows_made (i ∷ owners) [] (suc n) acks t long up owned stands stand = stand
  rows_made (i ∷ owners) (c ∷ queue) (suc n) [] t long up owned stands stand = stand
  rows_made (i ∷ owners) (c ∷ queue) (suc n) (k ∷ acks) t long up owned stands stand =
      let here = stands c (0, omega arith, refl) in
      rows_made owners queue n acks (added (made_row i c k) t) (omega (arith, long)) (λ d a line. up d a (inr line)) owned.2
      (λ d one. let below = one.1 in stands d (suc one.0, omega (arith, below), one.2))
      (λ row one. elim (in_end t.rows (made_row i c k) row one) [
        | inl old ↦ stand row old
        | inr same ↦
            subst (λ r. RowStands b.source b.streams r history) same
            (row_made i c k owned.0 here.0 here.1
            (up (chunk_of c) k (inl (refl, refl, length-map (take n queue) chunk_of ∙ (let z : length (take n queue) ≡ length acks = omega (arith, long) in z)))))
      ])

-- ---- the state behind it

module _ (stamped : List (List ℕ)) (b : Basis) (s : State) (known : IsTrue (is_source b.source)) (fits : Fits b s)
    (valid : AreValid s.queue.chunks) where
  abbrev Me : Who
  Me = agent b.source

  of_source : (i : ℕ) (c : OwnedChunk) → slice_get b.streams i ≡ Some (stream_of_chunk c) → c.source ≡ b.source
  of_source i c there = (fits.saved i (stream_of_chunk c) there).source

  -- the rows of a good reply stand, and no committed end has moved
  holds_taken : (now : ℕ) (p : Post) (acks : List Ack) (reply : List ℕ) → s.post ≡ Some p → IsGoodReply acks reply → length acks ≡ p.count
      → p.count ≤ length s.queue.chunks → (h : History) → Holds b s h → GotFor (since_start Me h) p.message reply
      → Holds b (post_taken now p.count acks s) h
  holds_taken now p acks reply out is_good many few h x replied =
      let o = subst (λ o. PostStands b.source s.queue.chunks o h) out x.post in
      let same = (answered_same now s.owners (take p.count s.queue.chunks) acks s.table).0 in
      record {
        queue = λ c one. x.queue c (in_drop p.count s.queue.chunks c one);
        rows = rows_made b h now p.message o.0 o.1 reply (chunks_of (take p.count s.queue.chunks)) acks o.2 o.3 replied is_good of_source
            s.owners s.queue.chunks p.count acks s.table (many ∙ sym (taken_size p.count s.queue.chunks few)) (λ d a line. line) fits.owned
            (λ c one. (valid_in s.queue.chunks valid c one, x.queue c one)) x.rows;
        ends = λ i t saved there found.
            subst (λ ends. EndStands b.source (slice_index ends i) t saved h) (sym same) (x.ends i t saved there found);
        post = tt;
        poll = x.poll;
      }

  -- what was got
  pub got_leads : (m : ℕ) (reply : List ℕ) (t : State)
      → ((h : History) → Holds b s h → GotFor (since_start Me h) m reply → Holds b t h)
      → {old new : Option History} → AsksReply Me m (Ok reply) old new
      → Adds old new (Leads (As stamped Me) (Matches stamped b s) (Matches stamped b t))
  got_leads m reply t held call =
      leads_as (λ h x. x)
      (matches_as stamped b (Both (Holds b s) (Gained (λ bytes h. GotFor (since_start Me h) m bytes) (Some reply))) t
      (λ h x. held h x.one x.two))
      (got_told stamped b.source known b.cluster b.lines (Holds b s) (holds_grows stamped b s known fits valid) m (Ok reply) (Some reply) refl call)

  -- the question failed
  pub ungot_leads : (m : ℕ) (given : Result (List ℕ) CallFault) (fault : OutsideFault) → Ends Got given fault
      → {old new : Option History} → AsksReply Me m given old new
      → Adds old new (Leads (As stamped Me) (Matches stamped b s) (Matches stamped b s))
  ungot_leads m given fault ends call =
      agent_ends stamped b.source known b.cluster b.lines (Holds b s) (holds_grows stamped b s known fits valid)
      (asked Me Got [] m 0) refl (λ answer files logs. refl) (λ answer files logs. tt) bytes_given given fault
      (λ before answer files logs legal k. tt) ends call

  reply_taken : (now : ℕ) (p : Post) (reply : List ℕ) (answer : Answered) (t : State) → s.post ≡ Some p → p.count ≤ length s.queue.chunks
      → TakesPostReply now p.count reply s answer t → (h : History) → Holds b s h → GotFor (since_start Me h) p.message reply → Holds b t h
  reply_taken now p reply answer t out few (good acks is_good many) h x replied = holds_taken now p acks reply out is_good many few h x replied
  reply_taken now p reply answer t out few (bad code none is) h x replied = holds_refused b s h x

  replied_told : (now : ℕ) → ((p : Post) → s.post ≡ Some p → p.count ≤ length s.queue.chunks)
      → {result : Result Answered NoMemory} {t : State} {old new : Option History} → IsPostReplied Me now s result t old new
      → Adds old new (Leads (As stamped Me) (Matches stamped b s) (Matches stamped b t))
  replied_told now few (nothing {at} none) = leads_none at (λ h x. x)
  replied_told now few (got {answer = answer} {t = t} p bytes out call takes) =
      got_leads p.message bytes t (reply_taken now p bytes answer t out (few p out) takes) call
  replied_told now few (silent p out call) =
      leads_as (λ h x. x) (matches_as stamped b (Holds b s) (post_refused s) (holds_refused b s))
      (ungot_leads p.message (Err Failed) (Outside Got) refl call)
  replied_told now few (wanting fault p out call) = ungot_leads p.message (Err no_memory) wanting_memory refl call

pub reply_leads : (stamped : List (List ℕ)) (b : Basis) (who : Who) (now : ℕ) (s : State) → IsSound s
    → who ≡ agent b.source → IsTrue (is_source b.source) → Fits b s
    → {result : Result Answered NoMemory} {t : State} {old new : Option History} → IsPostReplied who now s result t old new
    → Adds old new (Leads (As stamped who) (Matches stamped b s) (Matches stamped b t))
reply_leads stamped b who now s sound is known fits {result = result} {t = t} {old = old} {new = new} =
    subst (λ w. IsPostReplied w now s result t old new → Adds old new (Leads (As stamped w) (Matches stamped b s) (Matches stamped b t)))
    (sym is) (replied_told stamped b s known fits sound.valid now (λ p out. (subst (PostFits s) out sound.post).there))

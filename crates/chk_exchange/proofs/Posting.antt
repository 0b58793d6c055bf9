-- The post of an exchange: what was sent, and what was got for it.
use Rattle.std.proofs.Common.{◌≡◌, ◌≢◌, inl, inr, ℕ, suc, Bool, true, false, List, [], ◌∷◌, length, Option, Some, None, Result, Ok, Err, refl, ap, sym, subst, ◌∙◌, true≢false}
use Rattle.std.specs.Prelude.{◌==◌, is_some, option_map}
use Rattle.std.proofs.lemmas.Option.{same_Some}
use Rattle.chk_bytes.specs.declared.NoMemory.{NoMemory as Wanting}
use Rattle.chk_chunk.specs.declared.Chunk.{Chunk}
use Rattle.chk_chunk.specs.Lent.{chunks_of}
use Rattle.chk_http_grammar.specs.Messages.{WrittenPost, IsGoodReply}
use Rattle.chk_site.specs.declared.acts.Who.{Who}
use Rattle.chk_site.specs.declared.acts.Call.TheVariants.{Send}
use Rattle.chk_site.specs.declared.acts.CallFault.TheVariants.{Failed}
use Rattle.chk_site.specs.History.{History}
use Rattle.chk_site.specs.Site.{Adds, asked, sized}
use Rattle.chk_world.proofs.NameTests.{nat_same}
use Rattle.chk_agent_delivery.specs.declared.answers.Posted.{Posted}
use Rattle.chk_agent_delivery.specs.declared.answers.Posted.TheVariants.{Sent, Failed as post_failed}
use Rattle.chk_agent_delivery.specs.declared.answers.Answered.{Answered}
use Rattle.chk_agent_delivery.specs.declared.answers.Answered.TheVariants.{Taken, Refused as post_refused_by, Silent, Nothing}
use Rattle.chk_agent_delivery.specs.Scripts.{Sends, AsksReply, IsPosted, IsPostReplied, TakesPostReply, IsCode, IsNoPostReply}
use Rattle.chk_agent_delivery.specs.States.{Post, State as Delivery, address_now}
use Rattle.chk_agent_delivery.specs.Turns.{posted}
use Rattle.chk_agent.specs.declared.answers.AgentFault.{AgentFault}
use Rattle.chk_agent.specs.States.{State as Agents, process as agent_of}
use Rattle.chk_agent.specs.Turns.{Posts, GetsPostReply, with_delivery}
use Rattle.chk_exchange.specs.declared.fault.ExchangeFault.{ExchangeFault}
use Rattle.chk_exchange.specs.declared.fault.ExchangeFault.TheVariants.{Outside, NoMemory, Refused}
use Rattle.chk_exchange.specs.Faults.{IsOtherCode, FailsLast}
use Rattle.chk_exchange.specs.Exchanges.{SendsPost, EndsPost, ungot, silent, taken, told, refused}
use Rattle.chk_exchange.specs.Legality.{IsReplyTo}
use Rattle.chk_exchange.proofs.Given.{given_is, fault_is}
use Rattle.chk_exchange.proofs.Lasting.{ended_some}
use Rattle.chk_exchange.proofs.Ways.{any, wanting_last}
use Rattle.chk_exchange.proofs.Ending.{IsOutside, other_code}
use Rattle.chk_exchange.proofs.Keeping.{KeepsAgent, SentMessage}
use Rattle.chk_exchange.proofs.Closing.{Closes}

-- ---- what was sent

-- the post that is out
pub record IsOut (a : Agents) (count : ℕ) (b : Agents) (old new : Option History) : Type 0 where
  pub front : List Chunk
  pub bytes : List ℕ
  pub message : ℕ
  pub written : WrittenPost (address_now a.delivery.ring) (chunks_of front) bytes
  pub sends : Sends (agent_of a) (address_now a.delivery.ring) bytes (Ok message) old new
  pub as_many : count ≡ length front
  pub state : b ≡ with_delivery a (posted message (length front) a.delivery)

-- what the agent's answer to a sending tells
abbrev SendTells : Agents → Agents → Option History → Option History → Result Posted Wanting
    → Type 0
SendTells a b old new (Ok (Sent count)) = IsOut a count b old new
SendTells a b old new (Ok post_failed) =
    (address : List ℕ) × (bytes : List ℕ) × Sends (agent_of a) address bytes (Err Failed) old new
SendTells a b old new given = Unit {0}

send_tells : (a b : Agents) {given : Result Posted Wanting} {d : Delivery}
    {old new : Option History}
    → b ≡ with_delivery a d → IsPosted (agent_of a) a.delivery given d old new
    → SendTells a b old new given
send_tells a b state (IsPosted.empty none) = tt
send_tells a b state (IsPosted.no_rows some none) = tt
send_tells a b state (IsPosted.sent front bytes m is_front written sends) = record {
  front = front;
  bytes = bytes;
  message = m;
  written = written;
  sends = sends;
  as_many = refl;
  state = state;
}
send_tells a b state (IsPosted.failed front bytes is_front written sends) =
    (address_now a.delivery.ring, bytes, sends)
send_tells a b state (IsPosted.unsent fault) = tt
send_tells a b state (IsPosted.refused fault front bytes is_front written sends) = tt

pub posts_tell : {a b : Agents} (answer : Posted) {old new : Option History}
    → Posts a (Ok answer) b old new
    → SendTells a b old new (Ok answer)
posts_tell {a = a} {b = b} answer {old = old} {new = new} posts =
    subst (SendTells a b old new) (given_is posts.given answer posts.result_is)
    (send_tells a b posts.state_is posts.made)

pub sized_chunks : (front : List Chunk) → length (chunks_of front) ≡ length front
sized_chunks [] = refl
sized_chunks (c ∷ front) = ap suc (sized_chunks front)

pub unsent_so : {a b : Agents} (fault : AgentFault) {old new : Option History}
    → Posts a (Err fault) b old new
    → SendsPost a (Err NoMemory) b old new
unsent_so {a = a} {b = b} fault {old = old} {new = new} posts =
    SendsPost.unsent
    (subst (λ f. Posts a (Err f) b old new) (fault_is posts.given fault posts.result_is) posts)

-- a post was sent, or its sending failed, as the agent's answer says
pub sent_by_answer : {a b : Agents} {result : Result Posted AgentFault} (answer : Posted)
    (count : ℕ) {old new : Option History}
    → result ≡ Ok answer → answer ≡ Sent count → Posts a result b old new
    → SendsPost a (Ok tt) b old new
sent_by_answer {a = a} {b = b} answer count {old = old} {new = new} given is posts =
    SendsPost.sent count (subst (λ r. Posts a r b old new) (given ∙ ap Ok is) posts)

pub failed_by_answer : {a b : Agents} {result : Result Posted AgentFault}
    (answer : Posted) {old new : Option History}
    → result ≡ Ok answer → answer ≡ post_failed → Posts a result b old new
    → SendsPost a (Err (Outside Send)) b old new
failed_by_answer {a = a} {b = b} answer {old = old} {new = new} given is posts =
    SendsPost.failed (subst (λ r. Posts a r b old new) (given ∙ ap Ok is) posts)

-- a sending that ended the exchange
pub sends_last : (T : Type 0) {a b : Agents} {fault : ExchangeFault} {P : History → History
    → Type 0}
    {old new : Option History} → SendsPost a (Err fault) b old new → Adds old new P
    → Adds old new (FailsLast {T = T} (Err fault))
sends_last T {a = a} (SendsPost.failed posts) also =
    let was = posts_tell post_failed posts in
    ended_some T Send (λ n. asked (agent_of a) Send (was.0 ∷ was.1 ∷ []) n 0) (λ n. refl)
    (λ n. sized) (Err Failed) (Outside Send) refl was.2
sends_last T (SendsPost.unsent posts) also = wanting_last T (any also)

pub sends_outside : {a b : Agents} {fault : ExchangeFault} {old new : Option History}
    → SendsPost a (Err fault) b old new → IsOutside fault
sends_outside (SendsPost.failed posts) = tt
sends_outside (SendsPost.unsent posts) = tt

-- ---- what was got

-- the reply to the post that is out
record IsGot (b : Agents) (old new : Option History) : Type 0 where
  post : Post
  out : b.delivery.post ≡ Some post
  bytes : List ℕ
  asks : AsksReply (agent_of b) post.message (Ok bytes) old new

-- what the agent's answer to a question for the reply tells
abbrev ReplyTells : Agents → Option History → Option History → Result Answered Wanting → Type 0
ReplyTells b old new (Ok Nothing) = b.delivery.post ≡ None
ReplyTells b old new (Ok (Taken k)) = (got : IsGot b old new) × (k ≡ got.post.count)
ReplyTells b old new (Ok (post_refused_by code)) =
    (got : IsGot b old new) × IsNoPostReply got.post.count got.bytes × IsCode got.bytes code
ReplyTells b old new (Ok Silent) =
    (p : Post) × (b.delivery.post ≡ Some p) × AsksReply (agent_of b) p.message (Err Failed) old new
ReplyTells b old new (Err fault) = Unit {0}

reply_tells : (now : ℕ) (b : Agents) {given : Result Answered Wanting} {d : Delivery}
    {old new : Option History}
    → IsPostReplied (agent_of b) now b.delivery given d old new → ReplyTells b old new given
reply_tells now b (IsPostReplied.nothing none) = none
reply_tells now b (IsPostReplied.got p bytes is asks (TakesPostReply.good acks good size)) =
    (record { post = p; out = is; bytes = bytes; asks = asks }, refl)
reply_tells now b (IsPostReplied.got p bytes is asks (TakesPostReply.bad code no_good of)) =
    (record { post = p; out = is; bytes = bytes; asks = asks }, no_good, of)
reply_tells now b (IsPostReplied.silent p is asks) = (p, is, asks)
reply_tells now b (IsPostReplied.wanting fault p is asks) = tt

gets_tell : {now : ℕ} {b c : Agents} (answer : Answered) {old new : Option History}
    → GetsPostReply now b (Ok answer) c old new → ReplyTells b old new (Ok answer)
gets_tell {now = now} {b = b} answer {old = old} {new = new} gets =
    subst (ReplyTells b old new) (given_is gets.given answer gets.result_is)
    (reply_tells now b gets.made)

pub never_nothing : {now : ℕ} {b c : Agents} {old new : Option History}
    → GetsPostReply now b (Ok Nothing) c old new → is_some b.delivery.post ≡ true → ⊥
never_nothing gets out = true≢false (sym out ∙ ap is_some (gets_tell Nothing gets))

-- all of the post was answered
count_so : {now : ℕ} {b c : Agents} (k count : ℕ) {old new : Option History}
    → option_map (λ (p : Post). p.count) b.delivery.post ≡ Some count
    → GetsPostReply now b (Ok (Taken k)) c old new → k ≡ count
count_so k count out gets =
    let told = gets_tell (Taken k) gets in
    told.1 ∙ same_Some told.0.post.count count
    (sym (ap (option_map (λ (p : Post). p.count)) told.0.out) ∙ out)

-- the ends of a post, by what was answered
module _ (now count : ℕ) {b c : Agents} {old new : Option History} where
  pub ungot_end : (made : Option ExchangeFault) (fault : AgentFault)
      → GetsPostReply now b (Err fault) c old new
      → EndsPost now count b made (Err NoMemory) c old new
  ungot_end made fault gets =
      ungot (subst (λ f. GetsPostReply now b (Err f) c old new)
      (fault_is gets.given fault gets.result_is) gets)

  pub taken_end : (k : ℕ) → option_map (λ (p : Post). p.count) b.delivery.post ≡ Some count
      → GetsPostReply now b (Ok (Taken k)) c old new → EndsPost now count b None (Ok tt) c old new
  taken_end k out gets =
      taken refl
      (subst (λ n. GetsPostReply now b (Ok (Taken n)) c old new) (count_so k count out gets) gets)

  pub told_end : (k : ℕ) (fault : ExchangeFault)
      → option_map (λ (p : Post). p.count) b.delivery.post ≡ Some count
      → GetsPostReply now b (Ok (Taken k)) c old new
      → EndsPost now count b (Some fault) (Err fault) c old new
  told_end k fault out gets =
      told fault (Taken k) refl (inl (ap Taken (count_so k count out gets))) gets

  pub refused_end : (made : Option ExchangeFault) (code : ℕ) (result : ExchangeFault)
      → ((fault : ExchangeFault) → made ≡ Some fault → code ≡ 503 → result ≡ fault)
      → (IsOtherCode made code → result ≡ Refused code)
      → GetsPostReply now b (Ok (post_refused_by code)) c old new
      → EndsPost now count b made (Err result) c old new
  refused_end None code result tells other gets =
      subst (λ f. EndsPost now count b None (Err f) c old new) (sym (other tt))
      (refused code tt gets)
  refused_end (Some fault) code result tells other gets = go (code == 503) refl
    where
      go : (t : Bool) → (code == 503) ≡ t → EndsPost now count b (Some fault) (Err result) c old new
      go true e =
          let same = nat_same code 503 e in
          subst (λ f. EndsPost now count b (Some fault) (Err f) c old new)
          (sym (tells fault refl same))
          (told fault (post_refused_by code) refl (inr (ap post_refused_by same)) gets)
      go false e =
          let apart : code ≢ 503 = λ same. true≢false (sym (ap (λ k. k == 503) same) ∙ e) in
          subst (λ f. EndsPost now count b (Some fault) (Err f) c old new) (sym (other apart))
          (refused code apart gets)

-- ---- how a post closes

-- of what was got for a post of these chunks
module _ (bytes got : List ℕ) (address : List ℕ) (front : List Chunk)
    (written : WrittenPost address (chunks_of front) bytes)
    (made : Option ExchangeFault) where
  never_refused : (count code : ℕ) → count ≡ length front → IsOtherCode made code
      → IsNoPostReply count got → IsCode got code
      → (reply : List ℕ) → IsReplyTo bytes reply made → got ≡ reply → ⊥
  never_refused count code as_many other no_good is_code reply to same = go made refl
    where
      go : (o : Option ExchangeFault) → made ≡ o → ⊥
      go None is =
          let good = to.post is address (chunks_of front) written in
          no_good good.0 (subst (IsGoodReply good.0) (sym same) good.1)
          (good.2 ∙ (sized_chunks front ∙ sym as_many))
      go (Some fault) is = other_code bytes reply got made fault code is other is_code to same

-- the post that is out was written so
pub record IsWritten (count : ℕ) (b : Agents) (bytes : List ℕ) (p : Post) : Type 0 where
  pub address : List ℕ
  pub front : List Chunk
  pub written : WrittenPost address (chunks_of front) bytes
  pub as_many : count ≡ length front
  pub out : b.delivery.post ≡ Some p
  pub counted : p.count ≡ count

module _ (count : ℕ) (b : Agents) (bytes : List ℕ) (p : Post) (is : IsWritten count b bytes p) where
  this : (q : Post) → b.delivery.post ≡ Some q → q ≡ p
  this q out = same_Some q p (sym out ∙ is.out)

  asked_so : {old new : Option History} (got : IsGot b old new)
      → AsksReply (agent_of b) p.message (Ok got.bytes) old new
  asked_so {old = old} {new = new} got =
      subst (λ (q : Post). AsksReply (agent_of b) q.message (Ok got.bytes) old new)
      (this got.post got.out) got.asks

  pub closes : {now : ℕ} (made : Option ExchangeFault) {result : Result (Unit {0}) ExchangeFault}
      {c : Agents}
      {old new : Option History} → EndsPost now count b made result c old new
      → Closes (Unit {0}) b p.message bytes made result old new
  closes made (ungot gets) = Closes.ungot
  closes made {old = old} {new = new} (silent gets) =
      let told = gets_tell Silent gets in
      Closes.silent
      (subst (λ (q : Post). AsksReply (agent_of b) q.message (Err Failed) old new)
      (this told.0 told.1) told.2)
  closes {now = now} made (taken none gets) =
      let got = (gets_tell (Taken count) gets).0 in Closes.taken tt got.bytes none (asked_so got)
  closes {now = now} made {c = c} {old = old} {new = new} (told fault answer some (inl e) gets) =
      let got =
      (gets_tell (Taken count) (subst (λ x. GetsPostReply now b (Ok x) c old new) e gets)).0 in
      Closes.told fault got.bytes some (asked_so got)
  closes {now = now} made {c = c} {old = old} {new = new} (told fault answer some (inr e) gets) =
      let got =
      (gets_tell (post_refused_by 503)
      (subst (λ x. GetsPostReply now b (Ok x) c old new) e gets)).0 in
      Closes.told fault got.bytes some (asked_so got)
  closes made (refused code other gets) =
      let told = gets_tell (post_refused_by code) gets in
      let same = ap (λ (q : Post). q.count) (this told.0.post told.0.out) in
      Closes.refused code told.0.bytes (asked_so told.0)
      (never_refused bytes told.0.bytes is.address is.front is.written made told.0.post.count code
      (same ∙ (is.counted ∙ is.as_many)) other told.1 told.2)

-- ---- the agent goes on

posted_keeps : {who : Who} {s : Delivery} {given : Result Posted Wanting} {d : Delivery}
    {old new : Option History}
    → IsPosted who s given d old new → d.ring.addresses ≡ s.ring.addresses
posted_keeps (IsPosted.empty none) = refl
posted_keeps (IsPosted.no_rows some none) = refl
posted_keeps (IsPosted.sent front bytes m is_front written sends) = refl
posted_keeps (IsPosted.failed front bytes is_front written sends) = refl
posted_keeps (IsPosted.unsent fault) = refl
posted_keeps (IsPosted.refused fault front bytes is_front written sends) = refl

posts_keep : {a b : Agents} {result : Result Posted AgentFault} {old new : Option History}
    → Posts a result b old new
    → KeepsAgent a b
posts_keep posts = record {
  delivery = posts.delivery;
  state = posts.state_is;
  addresses =
      posted_keeps posts.made;
}

pub sends_keep : {a b : Agents} {result : Result (Unit {0}) ExchangeFault}
    {old new : Option History}
    → SendsPost a result b old new → KeepsAgent a b
sends_keep (SendsPost.sent count posts) = posts_keep posts
sends_keep (SendsPost.failed posts) = posts_keep posts
sends_keep (SendsPost.unsent posts) = posts_keep posts

replied_keeps : {who : Who} {now : ℕ} {s : Delivery} {given : Result Answered Wanting}
    {d : Delivery} {old new : Option History}
    → IsPostReplied who now s given d old new → d.ring.addresses ≡ s.ring.addresses
replied_keeps (IsPostReplied.nothing none) = refl
replied_keeps (IsPostReplied.got p bytes is asks (TakesPostReply.good acks good size)) = refl
replied_keeps (IsPostReplied.got p bytes is asks (TakesPostReply.bad code no_good of)) = refl
replied_keeps (IsPostReplied.silent p is asks) = refl
replied_keeps (IsPostReplied.wanting fault p is asks) = refl

gets_keep : {now : ℕ} {a b : Agents} {result : Result Answered AgentFault}
    {old new : Option History}
    → GetsPostReply now a result b old new → KeepsAgent a b
gets_keep gets =
    record { delivery = gets.delivery; state = gets.state_is; addresses = replied_keeps gets.made }

ends_keep : {now count : ℕ} {a b : Agents} {made : Option ExchangeFault}
    {result : Result (Unit {0}) ExchangeFault}
    {old new : Option History} → EndsPost now count a made result b old new → KeepsAgent a b
ends_keep (ungot gets) = gets_keep gets
ends_keep (silent gets) = gets_keep gets
ends_keep (taken none gets) = gets_keep gets
ends_keep (told fault answer some came gets) = gets_keep gets
ends_keep (refused code other gets) = gets_keep gets

-- the post was sent
pub sent_so : {a b : Agents} {old new : Option History} → SendsPost a (Ok tt) b old new
    → (count : ℕ) × Posts a (Ok (Sent count)) b old new
sent_so (SendsPost.sent count posts) = (count, posts)

module _ {a b : Agents} {old mid : Option History} (sends : SendsPost a (Ok tt) b old mid) where
  abbrev pub Count : ℕ
  Count = (sent_so sends).0

  abbrev out : IsOut a Count b old mid
  out = posts_tell (Sent Count) (sent_so sends).1

  abbrev pub sent_message : SentMessage a b old mid
  sent_message = record {
    message = out.message;
    bytes = out.bytes;
    word = out.written.to;
    sends = out.sends;
    keeps = sends_keep sends;
  }

  abbrev pub post_out : Post
  post_out = record { message = out.message; count = length out.front }

  out_post : b.delivery.post ≡ Some post_out
  out_post = ap (λ (x : Agents). x.delivery.post) out.state

  pub post_is_out : is_some b.delivery.post ≡ true
  post_is_out = ap is_some out_post

  pub is_written : IsWritten Count b out.bytes post_out
  is_written = record {
    address = address_now a.delivery.ring;
    front = out.front;
    written = out.written;
    as_many = out.as_many;
    out = out_post;
    counted = sym out.as_many;
  }

  -- of the end that is said of each count
  module _ {now : ℕ} {made : Option ExchangeFault} {result : Result (Unit {0}) ExchangeFault}
      {c : Agents}
      {next new : Option History}
      (ends : (count : ℕ) → option_map (λ (p : Post). p.count) b.delivery.post ≡ Some count
      → EndsPost now count b made result c next new) where
    pub ends_so : EndsPost now Count b made result c next new
    ends_so =
        ends Count (ap (option_map (λ (p : Post). p.count)) out_post ∙ ap Some (sym out.as_many))

    pub closes_so : Closes (Unit {0}) b sent_message.message sent_message.bytes made result next new
    closes_so = closes Count b out.bytes post_out is_written made ends_so

    pub end_keeps : KeepsAgent b c
    end_keeps = ends_keep ends_so

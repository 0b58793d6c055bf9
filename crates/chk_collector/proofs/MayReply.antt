-- Which replies a collector may send.
use Rattle.std.proofs.Common.{◌≡◌, inl, inr, ℕ, ◌≤◌, ◌==◌, true, false, List, [], ◌∷◌, ◌++◌, length, map, Option, Some, Result, Ok, Err, refl, sym, ap, subst, ◌∙◌, arith, if◌then◌else◌}
use Rattle.std.specs.Prelude.{IfOk}
use Rattle.chk_bytes.specs.Stems.{Stem}
use Rattle.chk_site.specs.declared.acts.Who.{Who}
use Rattle.chk_site.specs.History.{History}
use Rattle.chk_site.specs.Site.{Adds}
use Rattle.chk_site.specs.Runs.{Leads}
use Rattle.chk_site.proofs.Leads.{leads_none}
use Rattle.chk_chunk.specs.Keys.{Chunk}
use Rattle.chk_chunk.specs.Posts.{IsPost, post_limit}
use Rattle.chk_chunk.proofs.PostGrammar.{one_post}
use Rattle.chk_http_grammar.specs.Messages.{Ack, IsPostOf, PollRequest, IsReply}
use Rattle.chk_http_grammar.proofs.Accepted.{PostRequest-same, IsReply-same}
use Rattle.chk_world.specs.Collectors.{Appended, Handling, TellAll, view, with_appends, handling_of, NoSyncBeforeAnswer, AnswersWell}
use Rattle.chk_world.specs.Places.{As}
use Rattle.chk_sink.specs.declared.fault.SinkFault.{SinkFault}
use Rattle.chk_sink.specs.States.{State, process}
use Rattle.chk_sink.specs.Held.{Handles}
use Rattle.chk_sink.specs.Closes.{OnceDone}
use Rattle.chk_collector.specs.Answering.{Taken, TellFirst, MayAnswer, Stands, Answered, taken_with}
use Rattle.chk_collector.specs.Posting.{ArePosted, PutsHold, WroteAll, HasLineEach}
use Rattle.chk_collector.specs.Polling.{CountedAll, HasLineOf}
use Rattle.chk_collector.specs.Replies.{code_by, body_by}
use Rattle.chk_sink.proofs.Holding.{told_by}
use Rattle.chk_collector.proofs.PutLoop.{no_appends}

-- the last message taken is found
found : (t : ℕ) (m : Handling) (others : List Handling) → m.taking ≡ t → handling_of t (m ∷ others) ≡ Some m
found t m others is =
    ap (λ b. if b then Some m else handling_of t others) same
  where
    same : (m.taking == t) ≡ true
    same = grind arith

-- it was answered by nothing but this reply, and there was no sync
may_answer : (s : State) (m : Handling) (others : List Handling) (reply : List ℕ) (h : History) → m.synced ≡ false → Handles s (m ∷ others) h
    → AnswersWell (process s) h (Some m) reply → MayAnswer s m.taking reply h
may_answer s m others reply h unsynced x well =
    let is : handling_of m.taking (view (process s) h).handled ≡ Some m = ap (handling_of m.taking) x.handled ∙ found m.taking m others refl in
    record {
      holds = x.holds;
      may =
          subst (λ (o : Option Handling). NoSyncBeforeAnswer o × AnswersWell (process s) h o reply) (sym is) (unsynced, well);
    }

-- a reply of another code is no good one
not_good : (s : State) (h : History) (m : Option Handling) (code : ℕ) (body reply : List ℕ) → (code ≡ 200 → ⊥) → IsReply code body reply
    → AnswersWell (process s) h m reply
not_good s h m code body reply other is text good = absurd (other (IsReply-same code 200 body text reply is good).0)

-- earlier appends are passed over
tell_later : (earlier : List Appended) (chunks : List Chunk) (acks : List Ack)
    (appends : List Appended)
    → TellAll chunks acks appends → TellAll chunks acks (earlier ++ appends)
tell_later [] chunks acks appends tell = tell
tell_later (w ∷ earlier) [] [] appends tell = tt
tell_later (w ∷ earlier) [] (a ∷ acks) appends tell = absurd tell
tell_later (w ∷ earlier) (c ∷ chunks) [] appends tell = absurd tell
tell_later (w ∷ earlier) (c ∷ chunks) (a ∷ acks) appends tell =
    inr (tell_later earlier (c ∷ chunks) (a ∷ acks) appends tell)

-- ---- what stands in the sinks

-- nothing was appended
none_stands : (s : State) (t : ℕ) (request : List ℕ) (earlier : List Appended)
    (others : List Handling) (h : History) → Handles s (taken_with t request earlier ∷ others) h
    → Stands s t request earlier others h
none_stands s t request earlier others h x = record {
  appends = [];
  handled = subst (λ ms. Handles s ms h) (no_appends (taken_with t request earlier ∷ others)) x;
  first = λ chunks post. tt;
  none = λ no. refl;
}

-- a message is a post of these chunks alone
same_chunks : (chunks others : List Chunk) (bytes : List ℕ) → IsPostOf chunks bytes → IsPostOf others bytes → chunks ≡ others
same_chunks chunks others bytes p q =
    one_post chunks others p.0 p.2 (subst (λ (body : List ℕ). IsPost others body) (sym (PostRequest-same p.0 q.0 bytes p.1 q.1)) q.2)

-- the records of a post's first chunks
post_stands : (s : State) (t : ℕ) (request : List ℕ) (earlier : List Appended)
    (others : List Handling) (chunks : List Chunk) (lines : List ℕ)
    (done : Result (Unit {0}) SinkFault)
    (h : History) → IsPostOf chunks request → PutsHold s (taken_with t request earlier ∷ others)
    chunks lines done h → Stands s t request earlier others h
post_stands s t request earlier others chunks lines done h post q = record {
  appends = q.appends;
  handled = q.handles;
  first = λ same is. subst (λ (cs : List Chunk). TellFirst cs q.appends) (same_chunks chunks same request post is) q.first;
  none = λ no. absurd (no chunks post);
}

-- ---- where nothing was called

pub refused_told : {E : Type 0} (stamped : List (List ℕ)) (s : State) (t : ℕ) (request : List ℕ)
    (earlier : List Appended) (others : List Handling) (code : ℕ) (body : List ℕ)
    (result : Result (List ℕ) E) (now : Option History) → (code ≡ 200 → ⊥) → IfOk result (IsReply code body)
    → Adds now now (Leads (As stamped (process s)) (Taken stamped s t request earlier others)
    (Answered stamped s t request earlier others result))
refused_told stamped s t request earlier others code body (Ok reply) now other is =
    leads_none now
    (λ h x. told_by h (λ handles. record {
      answer = may_answer s (taken_with t request earlier) others reply h refl handles
          (not_good s h (Some (taken_with t request earlier)) code body reply other is);
      stands = none_stands s t request earlier others h handles;
    }) x)
refused_told stamped s t request earlier others code body (Err fault) now other is =
    leads_none now (λ h x. told_by h (none_stands s t request earlier others h) x)

-- ---- a post

-- the chunks of the last message's post are posted
pub are_posted : (t : ℕ) (request : List ℕ) (earlier : List Appended) (others : List Handling)
    (chunks : List Chunk) → IsPostOf chunks request
    → ArePosted (taken_with t request earlier ∷ others) chunks
are_posted t request earlier others chunks post c one = record {
  message = taken_with t request earlier;
  taken = (0, omega arith, refl);
  open_yet = refl;
  chunks = chunks;
  post = post;
  one = one;
}

pub post_told : {E : Type 0} (stamped : List (List ℕ)) (s : State) (t : ℕ) (request : List ℕ)
    (earlier : List Appended) (others : List Handling) (chunks : List Chunk)
    (lines : List ℕ) (done : Result (Unit {0}) SinkFault) (result : Result (List ℕ) E) → IsPostOf chunks request → OnceDone done (length lines ≤ post_limit)
    → IfOk result (λ reply. OnceDone done (length lines ≤ post_limit) → IsReply (code_by done) (body_by done lines) reply)
    → (h : History) → WroteAll stamped s (taken_with t request earlier ∷ others) chunks lines
    done h → Answered stamped s t request earlier others result h
post_told stamped s t request earlier others chunks lines (Ok value) (Ok reply) post short
    accepted h x =
    told_by h (λ q. record {
      answer =
          may_answer s (with_appends q.appends (taken_with t request earlier))
          (map (with_appends q.appends) others) reply h refl q.handles
          (λ text good. (
            q.told.acks,
            (IsReply-same 200 200 text lines reply good (accepted short)).1 ∙ q.told.lines_are,
            inl record {
              newest = refl;
              open_yet = refl;
              chunks = chunks;
              post = post;
              lines = tell_later earlier chunks q.told.acks q.appends q.told.tell;
            },
          ));
      stands = post_stands s t request earlier others chunks lines (Ok value) h post q;
    }) x
post_told stamped s t request earlier others chunks lines (Err fault) (Ok reply) post short
    accepted h x =
    told_by h (λ q. record {
      answer =
          may_answer s (with_appends q.appends (taken_with t request earlier))
          (map (with_appends q.appends) others) reply h refl q.handles
          (not_good s h (Some (with_appends q.appends (taken_with t request earlier))) 503 (body_by
          (Err fault) lines) reply (λ e. omega (arith, e)) (accepted tt));
      stands = post_stands s t request earlier others chunks lines (Err fault) h post q;
    }) x
post_told stamped s t request earlier others chunks lines done (Err fault) post short
    accepted h x =
    told_by h (post_stands s t request earlier others chunks lines done h post) x

-- ---- a poll

pub poll_told : {E : Type 0} (stamped : List (List ℕ)) (s : State) (t : ℕ) (request : List ℕ)
    (earlier : List Appended) (others : List Handling) (stems : List Stem)
    (lines : List ℕ) (done : Result (Unit {0}) SinkFault) (result : Result (List ℕ) E) → PollRequest stems request → OnceDone done (length lines ≤ post_limit)
    → IfOk result (λ reply. OnceDone done (length lines ≤ post_limit) → IsReply (code_by done) (body_by done lines) reply)
    → (h : History) → CountedAll stamped s (taken_with t request earlier ∷ others) t stems lines
    done h → Answered stamped s t request earlier others result h
poll_told stamped s t request earlier others stems lines (Ok value) (Ok reply) poll short
    accepted h x =
    told_by h (λ q. record {
      answer =
          may_answer s (taken_with t request earlier) others reply h refl q.handles
          (λ text good. (
            q.told.acks,
            (IsReply-same 200 200 text lines reply good (accepted short)).1 ∙ q.told.lines_are,
            inr record { stems = stems; poll = poll; lines = q.told.lengths },
          ));
      stands = none_stands s t request earlier others h q.handles;
    }) x
poll_told stamped s t request earlier others stems lines (Err fault) (Ok reply) poll short
    accepted h x =
    told_by h (λ q. record {
      answer =
          may_answer s (taken_with t request earlier) others reply h refl q.handles
          (not_good s h (Some (taken_with t request earlier)) 503 (body_by (Err fault) lines) reply
          (λ e. omega (arith, e)) (accepted tt));
      stands = none_stands s t request earlier others h q.handles;
    }) x
poll_told stamped s t request earlier others stems lines done (Err fault) poll short accepted h x =
    told_by h (λ q. none_stands s t request earlier others h q.handles) x

-- ---- the lines are short

pub post_short : (s : State) (chunks : List Chunk) (lines : List ℕ) (done : Result (Unit {0}) SinkFault) → length chunks ≤ 1000 → OnceDone done (HasLineEach s chunks lines)
    → OnceDone done (length lines ≤ post_limit)
post_short s chunks lines (Ok value) few each = omega (arith, each.short)
post_short s chunks lines (Err fault) few each = tt

pub poll_short : (who : Who) (stems : List Stem) (lines : List ℕ) (done : Result (Unit {0}) SinkFault) (old new : Option History)
    → length stems ≤ 64 → OnceDone done (HasLineOf who stems lines old new) → OnceDone done (length lines ≤ post_limit)
poll_short who stems lines (Ok value) old new few each = omega (arith, each.short)
poll_short who stems lines (Err fault) old new few each = tt

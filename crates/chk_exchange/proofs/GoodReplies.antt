-- A reply that tells no fault is the good one.
use Rattle.std.proofs.Common.{◌≡◌, inl, inr, ℕ, ◌≤◌, ◌<◌, Bool, true, false, suc, List, [], ◌∷◌, length, map, Option, Some, None, ap, sym, subst, ◌∙◌, refl, arith, nat_lt, if◌then◌else◌}
use Rattle.std.specs.Prelude.{IsTrue, MatchBool}
use Rattle.std.specs.List.{list_all}
use Rattle.std.proofs.lemmas.Bool.{and_parts, and_from}
use Rattle.std.proofs.lemmas.List.{append-nil}
use Rattle.std.proofs.lemmas.Option.{same_Some, none-some}
use Rattle.chk_bytes.specs.Numbers.{limit}
use Rattle.chk_bytes.specs.Stems.{Stem, is_stem}
use Rattle.chk_site.specs.declared.acts.Who.{Who}
use Rattle.chk_site.specs.History.{History, Ever, files_after}
use Rattle.chk_chunk.specs.Keys.{Chunk}
use Rattle.chk_http_grammar.specs.Messages.{Ack, is_ack, acks_text, IsPostOf, PollRequest, IsReply, IsGoodReply, WrittenPost, WrittenPoll}
use Rattle.chk_http_grammar.proofs.Accepted.{never_both}
use Rattle.chk_http_grammar.proofs.Fronts.{front_of_post_chunks, front_of_poll}
use Rattle.chk_http_grammar.proofs.Written.{written_is_post, written_is_poll}
use Rattle.chk_world.specs.Agents.{AreFor}
use Rattle.chk_world.specs.Collectors.{Appended, Handling, with_appends, TellAll, SinceTaking, is_taking, CommittedLengths, GoodAnswer, AnswersWell, handling_of, view}
use Rattle.chk_world.specs.Committed.{committed_length}
use Rattle.chk_world.specs.Rules.{Legal}
use Rattle.chk_world.proofs.AppendsStand.{AllStand, Stand, appends_stand, wrote_small}
use Rattle.chk_world.proofs.Commits.{below}
use Rattle.chk_world.proofs.TakenChunks.{AllOf}
use Rattle.chk_world.proofs.NameTests.{nat_self}
use Rattle.chk_world.proofs.RepliesTell.{told_are, ever_since}
use Rattle.chk_sink.specs.States.{State, process}
use Rattle.chk_collector.specs.Answering.{MayAnswer, Stands, taken_with}
use Rattle.chk_collector.specs.Outcomes.{Outcome, Refused, BadPost, Lines, Fails, IsOutcomeOf, code_of, body_of}
use Rattle.chk_sink.specs.declared.fault.SinkFault.{SinkFault}
use Rattle.chk_sink.specs.declared.fault.SinkFault.TheVariants.{Outside as sink_outside, Damaged as sink_damaged, Spent as sink_spent, NoMemory as sink_wanting}
use Rattle.chk_exchange.specs.declared.fault.ExchangeFault.{ExchangeFault}
use Rattle.chk_exchange.specs.Faults.{IsTold, IsMade}
use Rattle.chk_exchange.specs.Legality.{IsSoundly, IsReplyTo}

-- ---- the lines can be spelled

-- there are as many lines as chunks
as_many : (chunks : List Chunk) (acks : List Ack) (ws : List Appended) → TellAll chunks acks ws
    → length acks ≡ length chunks
as_many [] [] ws tells = refl
as_many [] (a ∷ acks) ws tells = absurd tells
as_many (c ∷ cs) [] ws tells = absurd tells
as_many (c ∷ cs) (a ∷ acks) [] tells = absurd tells
as_many (c ∷ cs) (a ∷ acks) (w ∷ ws) (inl t) = ap suc (as_many cs acks ws t.1)
as_many (c ∷ cs) (a ∷ acks) (w ∷ ws) (inr t) = as_many (c ∷ cs) (a ∷ acks) ws t

module _ (stamped : List (List ℕ)) (history : History) (legal : Legal stamped history) (who : Who)
    (t : ℕ) where
  line_is : (a : Ack) → IsTrue (is_stem a.stem)
      → SinceTaking who t (λ front. a.number ≤ committed_length (files_after front) a.stem) history
      → is_ack a ≡ true
  line_is a stem since =
      let b = below stamped history legal a.stem stem a.number
      (ever_since (λ front. a.number ≤ committed_length (files_after front) a.stem) who t history
      since) in
      let small = wrote_small stamped history legal a.stem in
      and_from (is_stem a.stem) (nat_lt a.number limit) stem
      (less a.number limit (omega (arith, b, small)))
    where
      less : (m n : ℕ) → m < n → nat_lt m n ≡ true
      less m n h = grind (arith, h)

  lengths_are : (stems : List Stem) (acks : List Ack) → IsTrue (list_all is_stem stems)
      → CommittedLengths who history t stems acks
      → IsTrue (list_all is_ack acks) × AreFor stems acks
  lengths_are [] [] are h = (refl, tt)
  lengths_are [] (a ∷ acks) are h = absurd h
  lengths_are (x ∷ stems) [] are h = absurd h
  lengths_are (x ∷ stems) (a ∷ acks) are h =
      let parts = and_parts (is_stem x) (list_all is_stem stems) are in
      let rest = lengths_are stems acks parts.1 h.2 in (
        and_from (is_ack a) (list_all is_ack acks)
            (line_is a (subst (λ x. IsTrue (is_stem x)) (sym h.0) parts.0) h.1.at_most) rest.0,
        (h.0, rest.1),
      )

-- ---- what was written is accepted

one_post : (address : List ℕ) (chunks others : List Chunk) (bytes : List ℕ)
    → WrittenPost address chunks bytes
    → IsPostOf others bytes → others ≡ chunks
one_post address chunks others bytes written post =
    (front_of_post_chunks address chunks others bytes []
    (subst (WrittenPost address chunks) (sym (append-nil bytes)) written) post).1

one_poll : (address : List ℕ) (stems others : List Stem) (bytes : List ℕ)
    → WrittenPoll address stems bytes
    → PollRequest others bytes → others ≡ stems
one_poll address stems others bytes written poll =
    (front_of_poll address stems others bytes []
    (subst (WrittenPoll address stems) (sym (append-nil bytes)) written) poll).1

-- ---- the reply

-- a reply that tells no fault made none
no_fault : (o : Outcome) (made : Option ExchangeFault) → IsMade o made → made ≡ None → (f : _)
    → o ≡ Fails f → ⊥
no_fault o made is none f e = let told = subst (λ o. IsMade o made) e is in
    none-some told.0 (sym none ∙ told.1)

-- the sinks' files are sound
abbrev pub IsUndamaged : Outcome → Type 0
IsUndamaged (Fails (sink_damaged name at)) = ⊥
IsUndamaged o = Unit {0}

told_soundly : (f : SinkFault) (fault : ExchangeFault) → IsTold f fault → IsUndamaged (Fails f)
    → IsSoundly fault
told_soundly (sink_outside call) fault is sound = subst IsSoundly (sym is) tt
told_soundly (sink_damaged name at) fault is sound = absurd sound
told_soundly (sink_spent born) fault is sound = subst IsSoundly (sym is.1) tt
told_soundly sink_wanting fault is sound = absurd is

soundly : (o : Outcome) (made : Option ExchangeFault) → IsMade o made → IsUndamaged o
    → (fault : ExchangeFault)
    → made ≡ Some fault → IsSoundly fault
soundly (Refused f) made is sound fault e = absurd (none-some fault (sym is ∙ e))
soundly (BadPost f) made is sound fault e = absurd (none-some fault (sym is ∙ e))
soundly (Lines acks) made is sound fault e = absurd (none-some fault (sym is ∙ e))
soundly (Fails f) made is sound fault e =
    subst IsSoundly (same_Some is.0 fault (sym is.1 ∙ e)) (told_soundly f is.0 is.2 sound)

coded : (o : Outcome) (made : Option ExchangeFault) → IsMade o made → (reply : List ℕ)
    → IsReply (code_of o) (body_of o) reply
    → (fault : ExchangeFault) → made ≡ Some fault → (body : List ℕ) × IsReply 503 body reply
coded (Refused f) made is reply read fault e = absurd (none-some fault (sym is ∙ e))
coded (BadPost f) made is reply read fault e = absurd (none-some fault (sym is ∙ e))
coded (Lines acks) made is reply read fault e = absurd (none-some fault (sym is ∙ e))
coded (Fails f) made is reply read fault e = (body_of (Fails f), read)

module _ (stamped : List (List ℕ)) (s : State) (t : ℕ) (request reply : List ℕ)
    (others : List Handling) (h : History)
    (legal : Legal stamped h) (may : MayAnswer s t reply h)
    (stands : Stands s t request [] others h) where
  abbrev Message : Handling
  Message = with_appends stands.appends (taken_with t request [])

  found : handling_of t (view (process s) h).handled ≡ Some Message
  found =
      ap (handling_of t) stands.handled.handled
      ∙ ap (λ b. if b then Some Message else handling_of t
      (map (with_appends stands.appends) others)) (nat_self t)

  stand : AllStand h stands.appends
  stand = (subst (AllOf (Stand h)) stands.handled.handled
      (appends_stand stamped h legal (process s))).0

  well : AnswersWell (process s) h (Some Message) reply
  well = subst (λ o. AnswersWell (process s) h o reply) found may.may.1

  good_post : (acks : List Ack) → IsReply 200 (acks_text acks) reply
      → (address : List ℕ) (chunks : List Chunk)
      → WrittenPost address chunks request
      → (lines : List Ack) × IsGoodReply lines reply × (length lines ≡ length chunks)
  good_post acks read address chunks written = go answer.2
    where
      answer : (lines : List Ack) × (acks_text acks ≡ acks_text lines)
          × GoodAnswer (process s) h (Some Message) lines
      answer = well (acks_text acks) read

      go : GoodAnswer (process s) h (Some Message) answer.0
          → (lines : List Ack) × IsGoodReply lines reply × (length lines ≡ length chunks)
      go (inl p) = (
        answer.0,
        (
          told_are h p.chunks answer.0 stands.appends p.lines stand,
          subst (λ text. IsReply 200 text reply) answer.1 read,
        ),
        as_many p.chunks answer.0 stands.appends p.lines
            ∙ ap length (one_post address chunks p.chunks request written p.post),
      )
      go (inr p) =
          let post = written_is_post address chunks request written in
          absurd (never_both post.0 p.stems request post.1 p.poll)

  good_poll : (acks : List Ack) → IsReply 200 (acks_text acks) reply
      → (address : List ℕ) (stems : List Stem)
      → WrittenPoll address stems request
      → (lines : List Ack) × IsGoodReply lines reply × AreFor stems lines
  good_poll acks read address stems written = go answer.2
    where
      answer : (lines : List Ack) × (acks_text acks ≡ acks_text lines)
          × GoodAnswer (process s) h (Some Message) lines
      answer = well (acks_text acks) read

      go : GoodAnswer (process s) h (Some Message) answer.0
          → (lines : List Ack) × IsGoodReply lines reply × AreFor stems lines
      go (inl p) =
          absurd (never_both p.post.0 stems request p.post.1
          (written_is_poll address stems request written))
      go (inr p) =
          let all = lengths_are stamped h legal (process s) t p.stems answer.0 p.poll.are p.lines in (
            answer.0,
            (all.0, subst (λ text. IsReply 200 text reply) answer.1 read),
            subst (λ xs. AreFor xs answer.0) (one_poll address stems p.stems request written p.poll)
                all.1,
          )

  post_so : (o : Outcome) (made : Option ExchangeFault) → IsOutcomeOf request o → IsMade o made
      → IsReply (code_of o) (body_of o) reply → made ≡ None
      → (address : List ℕ) (chunks : List Chunk)
      → WrittenPost address chunks request
      → (lines : List Ack) × IsGoodReply lines reply × (length lines ≡ length chunks)
  post_so (Refused fault) made of is read none address chunks written =
      let post = written_is_post address chunks request written in
      absurd (of.no_request (inl (post.0, post.1)))
  post_so (BadPost fault) made of is read none address chunks written =
      absurd (of.no_post chunks (written_is_post address chunks request written))
  post_so (Lines acks) made of is read none address chunks written =
      good_post acks read address chunks written
  post_so (Fails fault) made of is read none address chunks written =
      absurd (no_fault (Fails fault) made is none fault refl)

  poll_so : (o : Outcome) (made : Option ExchangeFault) → IsOutcomeOf request o → IsMade o made
      → IsReply (code_of o) (body_of o) reply → made ≡ None → (address : List ℕ) (stems : List Stem)
      → WrittenPoll address stems request
      → (lines : List Ack) × IsGoodReply lines reply × AreFor stems lines
  poll_so (Refused fault) made of is read none address stems written =
      absurd (of.no_request (inr (stems, written_is_poll address stems request written)))
  poll_so (BadPost fault) made of is read none address stems written =
      absurd (never_both of.body stems request of.request
      (written_is_poll address stems request written))
  poll_so (Lines acks) made of is read none address stems written =
      good_poll acks read address stems written
  poll_so (Fails fault) made of is read none address stems written =
      absurd (no_fault (Fails fault) made is none fault refl)

  pub reply_is : (o : Outcome) (made : Option ExchangeFault) → IsOutcomeOf request o → IsMade o made
      → IsReply (code_of o) (body_of o) reply → IsUndamaged o → IsReplyTo request reply made
  reply_is o made of is read sound = record {
    soundly = soundly o made is sound;
    coded = coded o made is reply read;
    post = post_so o made of is read;
    poll = poll_so o made of is read;
  }

-- What a good answer of a collector tells of its message is so, and stays so.
use Rattle.std.proofs.Common.{◌≡◌, inl, inr, ℕ, ◌≤◌, ◌<◌, Bool, true, false, ◌&&◌, List, [], ◌∷◌, ◌++◌, Option, Some, None, ap, sym, subst, ◌∙◌, refl, arith, true≢false, if◌then◌else◌, nat_lt}
use Rattle.std.specs.Prelude.{IsTrue, MatchBool, ◌==◌}
use Rattle.std.specs.List.{list_all}
use Rattle.std.proofs.lemmas.Bool.{and_parts, and_from}
use Rattle.std.proofs.lemmas.Option.{same_Some}
use Rattle.chk_bytes.specs.Numbers.{limit}
use Rattle.chk_bytes.specs.Words.{BeginsWith}
use Rattle.chk_bytes.specs.Stems.{Stem, is_stem}
use Rattle.chk_site.specs.declared.acts.Role.TheVariants.{Collector}
use Rattle.chk_site.specs.declared.acts.Who.{Who}
use Rattle.chk_site.specs.Acts.{Deed, Answers, deed, is_done, same_role, same_who}
use Rattle.chk_site.specs.History.{Step, History, Ever, files_after}
use Rattle.chk_site.specs.Messages.{Message, Taken, Reply, message, taken, is_of, is_inside, replies, replies_in}
use Rattle.chk_site.specs.Honest.{IsFrontOf}
use Rattle.chk_chunk.specs.Keys.{Chunk, is_chunk}
use Rattle.chk_http_grammar.specs.Messages.{Ack, is_ack, acks_text, IsReply, IsGoodReply, WrittenPost, WrittenPoll}
use Rattle.chk_http_grammar.proofs.Accepted.{IsReply-append}
use Rattle.chk_http_grammar.proofs.Apart.{acks_text-same}
use Rattle.chk_http_grammar.proofs.Fronts.{front_of_post_chunks, front_of_post_is_no_poll, front_of_poll_is_no_post}
use Rattle.chk_world.specs.Committed.{committed_length}
use Rattle.chk_world.specs.Collectors.{Appended, Handling, TellAll, SinceTaking, is_taking, CommittedLengths, GoodAnswer, AnswersWell, CollectorRule, handling_of, view}
use Rattle.chk_world.specs.Agents.{LineFor}
use Rattle.chk_world.specs.Rules.{Legal, RoleMay}
use Rattle.chk_world.specs.Laws.{StandsWithin, wrote, written_by}
use Rattle.chk_world.proofs.NameTests.{nat_same}
use Rattle.chk_world.proofs.Law.{role_same, who_same}
use Rattle.chk_world.proofs.Commits.{below}
use Rattle.chk_world.proofs.CheckpointsMove.{IsFound, found}
use Rattle.chk_world.proofs.SentMessages.{message_stays}
use Rattle.chk_world.proofs.TakenChunks.{TakenTrue, all_one, taken_true}
use Rattle.chk_world.proofs.TakenFronts.{taken_is_front}
use Rattle.chk_world.proofs.AppendsStand.{AllStand, Stand, stands_on, appends_stand, wrote_small}

-- the line is of a sink, and the chunk stands there up to its number
pub record LineStands (history : History) (c : Chunk) (a : Ack) : Type 0 where
  pub stem : IsTrue (is_stem a.stem)
  pub stands : StandsWithin (wrote a.stem history) a.number c

-- at some moment the line's number was at most the committed length
abbrev pub WasCommitted : History → Ack → Type 0
WasCommitted history a = Ever (λ front. a.number ≤ committed_length (files_after front) a.stem) history

abbrev pub AllCommitted : History → List Ack → Type 0
AllCommitted history [] = Unit {0}
AllCommitted history (a ∷ acks) = WasCommitted history a × AllCommitted history acks

-- what these bytes tell as a good reply to the message: each line of a reply to a post is where its chunk stands, and
-- each of a reply to a poll was committed
pub record AnswerTells (history : History) (number : ℕ) (bytes : List ℕ) : Type 0 where
  pub m : Message
  pub is : message history number ≡ Some m
  pub of_post : (acks : List Ack) → IsGoodReply acks bytes → (address : List ℕ) (chunks : List Chunk) → WrittenPost address chunks m.bytes
      → (c : Chunk) (a : Ack) → LineFor chunks acks c a → LineStands history c a
  pub of_poll : (acks : List Ack) → IsGoodReply acks bytes → (address : List ℕ) (stems : List Stem) → WrittenPoll address stems m.bytes
      → AllCommitted history acks

-- ---- it stays so

committed_stays : (history : History) (step : Step) (acks : List Ack) → AllCommitted history acks → AllCommitted (step ∷ history) acks
committed_stays history step [] all = tt
committed_stays history step (a ∷ acks) all = (inr all.0, committed_stays history step acks all.1)

pub answer_stays : (stamped : List (List ℕ)) (history : History) (step : Step) → Legal stamped (step ∷ history) → (n : ℕ) (bytes : List ℕ)
    → AnswerTells history n bytes → AnswerTells (step ∷ history) n bytes
answer_stays stamped history step legal n bytes t = record {
  m = t.m;
  is = message_stays stamped history step legal n t.m t.is;
  of_post = λ acks good address chunks post c a line.
      let l : LineStands history c a = t.of_post acks good address chunks post c a line in record {
        stem = l.stem;
        stands = stands_on (wrote a.stem history) (written_by a.stem (deed step.act) step.act.answer) a.number c l.stands;
      };
  of_poll = λ acks good address stems poll. committed_stays history step acks (t.of_poll acks good address stems poll);
}

-- what the bytes tell as a good reply each front of them tells
pub front_tells : (history : History) (n : ℕ) (bytes front : List ℕ) → BeginsWith bytes front → AnswerTells history n bytes → AnswerTells history n front
front_tells history n bytes front begins t = record {
  m = t.m;
  is = t.is;
  of_post = λ acks good. t.of_post acks (longer acks good);
  of_poll = λ acks good. t.of_poll acks (longer acks good);
}
  where
    longer : (acks : List Ack) → IsGoodReply acks front → IsGoodReply acks bytes
    longer acks good =
        (good.0, subst (IsReply 200 (acks_text acks)) (sym begins.1) (IsReply-append 200 (acks_text acks) front begins.0 good.1))

-- ---- an answer to a post

-- a line of a known sink and a small number can be spelled
line_is : (a : Ack) → IsTrue (is_stem a.stem) → a.number < limit → is_ack a ≡ true
line_is a stem small = and_from (is_stem a.stem) (nat_lt a.number limit) stem (is_less a.number limit small)
  where
    is_less : (m n : ℕ) → m < n → nat_lt m n ≡ true
    is_less m n h = grind (arith, h)

-- lines that tell of appends that stand can be spelled
pub told_are : (history : History) (chunks : List Chunk) (acks : List Ack) (ws : List Appended) → TellAll chunks acks ws → AllStand history ws
    → list_all is_ack acks ≡ true
told_are history [] [] ws tells all = refl
told_are history [] (a ∷ acks) ws tells all = absurd tells
told_are history (c ∷ cs) [] ws tells all = absurd tells
told_are history (c ∷ cs) (a ∷ acks) [] tells all = absurd tells
told_are history (c ∷ cs) (a ∷ acks) (w ∷ ws) (inl t) all =
    and_from (is_ack a) (list_all is_ack acks)
    (line_is a (subst (λ x. IsTrue (is_stem x)) (sym t.0.stem) all.0.stem) (subst (λ n. n < limit) (sym t.0.end) all.0.small))
    (told_are history cs acks ws t.1 all.1)
told_are history (c ∷ cs) (a ∷ acks) (w ∷ ws) (inr t) all = told_are history (c ∷ cs) (a ∷ acks) ws t all.1

-- each chunk stands where its line says
told_stand : (history : History) (chunks : List Chunk) (acks : List Ack) (ws : List Appended) → IsTrue (list_all is_chunk chunks)
    → TellAll chunks acks ws → AllStand history ws → (c : Chunk) (a : Ack) → LineFor chunks acks c a → LineStands history c a
told_stand history [] [] ws are tells all c a line = absurd line
told_stand history [] (b ∷ acks) ws are tells all c a line = absurd tells
told_stand history (d ∷ cs) [] ws are tells all c a line = absurd tells
told_stand history (d ∷ cs) (b ∷ acks) [] are tells all c a line = absurd tells
told_stand history (d ∷ cs) (b ∷ acks) (w ∷ ws) are (inr t) all c a line = told_stand history (d ∷ cs) (b ∷ acks) ws are t all.1 c a line
told_stand history (d ∷ cs) (b ∷ acks) (w ∷ ws) are (inl t) all c a (inr line) =
    told_stand history cs acks ws (and_parts (is_chunk d) (list_all is_chunk cs) are).1 t.1 all.1 c a line
told_stand history (d ∷ cs) (b ∷ acks) (w ∷ ws) are (inl t) all c a (inl line) =
    let valid = (and_parts (is_chunk d) (list_all is_chunk cs) are).0 in
    let here : StandsWithin (wrote w.stem history) w.end d = all.0.stands d valid b t.0 in
    let there : LineStands history d b = record {
      stem = subst (λ x. IsTrue (is_stem x)) (sym t.0.stem) all.0.stem;
      stands = subst (λ x. StandsWithin (wrote x history) b.number d) (sym t.0.stem) (subst (λ n. StandsWithin (wrote w.stem history) n d) (sym t.0.end) here);
    } in
    subst (λ e. LineStands history e a) line.0 (subst (LineStands history d) line.1 there)

-- ---- an answer to a poll

-- what held since a taking held at some moment
pub ever_since : (P : History → Type 0) (who : Who) (t : ℕ) (history : History) → SinceTaking who t P history → Ever P history
ever_since P who t [] h = absurd h
ever_since P who t (step ∷ history) (inl h) = inl h
ever_since P who t (step ∷ history) (inr h) = pick (is_taking who t step) (λ h. ever_since P who t history h) h
  where
    pick : (b : Bool) → (SinceTaking who t P history → Ever P history) → MatchBool b ⊥ (SinceTaking who t P history) → Ever P (step ∷ history)
    pick true earlier h = absurd h
    pick false earlier h = inr (earlier h)

-- a length that was ever committed is below 2^63
committed_less : (stamped : List (List ℕ)) (history : History) → Legal stamped history → (a : Ack) → IsTrue (is_stem a.stem) → WasCommitted history a
    → a.number < limit
committed_less stamped history legal a stem was =
    let b = below stamped history legal a.stem stem a.number was in
    let small = wrote_small stamped history legal a.stem in
    let z : a.number < limit = omega (arith, b, small) in z

module _ (stamped : List (List ℕ)) (history : History) (legal : Legal stamped history) (who : Who) (t : ℕ) where
  lengths_committed : (stems : List Stem) (acks : List Ack) → CommittedLengths who history t stems acks → AllCommitted history acks
  lengths_committed [] [] h = tt
  lengths_committed [] (a ∷ acks) h = absurd h
  lengths_committed (x ∷ stems) [] h = absurd h
  lengths_committed (x ∷ stems) (a ∷ acks) h = (
    ever_since (λ front. a.number ≤ committed_length (files_after front) a.stem) who t history h.1.at_most,
    lengths_committed stems acks h.2,
  )

  lengths_are : (stems : List Stem) (acks : List Ack) → IsTrue (list_all is_stem stems) → CommittedLengths who history t stems acks
      → list_all is_ack acks ≡ true
  lengths_are [] [] are h = refl
  lengths_are [] (a ∷ acks) are h = absurd h
  lengths_are (x ∷ stems) [] are h = absurd h
  lengths_are (x ∷ stems) (a ∷ acks) are h =
      let parts = and_parts (is_stem x) (list_all is_stem stems) are in
      let stem : IsTrue (is_stem a.stem) = subst (λ x. IsTrue (is_stem x)) (sym h.0) parts.0 in
      and_from (is_ack a) (list_all is_ack acks)
      (line_is a stem (committed_less stamped history legal a stem (ever_since (λ front. a.number ≤ committed_length (files_after front) a.stem) who t history h.1.at_most)))
      (lengths_are stems acks parts.1 h.2)

-- ---- a collector's answer

-- what a collector has got is a front of this message, and its appends since stand
pub record IsHandled (history : History) (number : ℕ) (h : Handling) : Type 0 where
  pub m : Message
  pub is : message history number ≡ Some m
  pub begins : BeginsWith m.bytes h.bytes
  pub stand : AllStand history h.appends

module _ (stamped : List (List ℕ)) (history : History) (legal : Legal stamped history) (who : Who) (h : Handling) (number : ℕ)
    (handled : IsHandled history number h) (bytes : List ℕ) (well : AnswersWell who history (Some h) bytes) where
  same_lines : (acks others : List Ack) → IsGoodReply acks bytes → acks_text acks ≡ acks_text others → list_all is_ack others ≡ true → others ≡ acks
  same_lines acks others good e are = acks_text-same others acks are good.0 (sym e)

  post_tells : (acks : List Ack) → IsGoodReply acks bytes → (address : List ℕ) (chunks : List Chunk) → WrittenPost address chunks handled.m.bytes
      → (c : Chunk) (a : Ack) → LineFor chunks acks c a → LineStands history c a
  post_tells acks good address chunks post c a line = go answer.2
    where
      answer : (others : List Ack) × (acks_text acks ≡ acks_text others) × GoodAnswer who history (Some h) others
      answer = well (acks_text acks) good.1

      written : WrittenPost address chunks (h.bytes ++ handled.begins.0)
      written = subst (WrittenPost address chunks) handled.begins.1 post

      go : GoodAnswer who history (Some h) answer.0 → LineStands history c a
      go (inl p) =
          let same : p.chunks ≡ chunks = (front_of_post_chunks address chunks p.chunks h.bytes handled.begins.0 written p.post).1 in
          let lines : acks ≡ answer.0 = sym (same_lines acks answer.0 good answer.1 (told_are history p.chunks answer.0 h.appends p.lines handled.stand)) in
          told_stand history chunks answer.0 h.appends post.are (subst (λ cs. TellAll cs answer.0 h.appends) same p.lines) handled.stand c a
          (subst (λ l. LineFor chunks l c a) lines line)
      go (inr p) = absurd (front_of_post_is_no_poll address chunks p.stems h.bytes handled.begins.0 written p.poll)

  poll_tells : (acks : List Ack) → IsGoodReply acks bytes → (address : List ℕ) (stems : List Stem) → WrittenPoll address stems handled.m.bytes
      → AllCommitted history acks
  poll_tells acks good address stems poll = go answer.2
    where
      answer : (others : List Ack) × (acks_text acks ≡ acks_text others) × GoodAnswer who history (Some h) others
      answer = well (acks_text acks) good.1

      go : GoodAnswer who history (Some h) answer.0 → AllCommitted history acks
      go (inl p) =
          absurd (front_of_poll_is_no_post address stems p.post.0 h.bytes handled.begins.0 (subst (WrittenPoll address stems) handled.begins.1 poll) p.post.1)
      go (inr p) =
          subst (AllCommitted history)
          (same_lines acks answer.0 good answer.1 (lengths_are stamped history legal who h.taking p.stems answer.0 p.poll.are p.lines))
          (lengths_committed stamped history legal who h.taking p.stems answer.0 p.lines)

  pub tells : AnswerTells history number bytes
  tells = record { m = handled.m; is = handled.is; of_post = post_tells; of_poll = poll_tells }

-- ---- all answers

-- each of these answers tells what is so of the message
abbrev pub AllTell : History → ℕ → List Reply → Type 0
AllTell history number [] = Unit {0}
AllTell history number (r ∷ rs) = AnswerTells history number r.bytes × AllTell history number rs

all_stay : (stamped : List (List ℕ)) (history : History) (step : Step) → Legal stamped (step ∷ history) → (number : ℕ) (rs : List Reply)
    → AllTell history number rs → AllTell (step ∷ history) number rs
all_stay stamped history step legal number [] all = tt
all_stay stamped history step legal number (r ∷ rs) all =
    (answer_stays stamped history step legal number r.bytes all.0, all_stay stamped history step legal number rs all.1)

module _ (stamped : List (List ℕ)) (history : History) (step : Step) (legal : Legal stamped (step ∷ history)) (t : ℕ) (bytes : List ℕ)
    (is : deed step.act ≡ Answers t bytes) (collects : step.act.who.role ≡ Collector) (number : ℕ) (taking : Taken) (at : taken history t ≡ Some taking)
    (by : same_who step.act.who taking.taker ≡ true) (of : taking.of ≡ number) where
  well : AnswersWell step.act.who history (handling_of t (view step.act.who history).handled) bytes
  well =
      (subst (CollectorRule step.act.who history (view step.act.who history)) is
      (subst (λ role. RoleMay stamped role history step) collects legal.1.rule)).1

  front : IsFrontOf (message history number) taking.bytes
  front =
      subst (λ n. IsFrontOf (message history n) taking.bytes) of
      (taken_is_front stamped history legal.0 t taking at
      (sym (ap (λ (w : Who). w.role) (who_same step.act.who taking.taker by)) ∙ collects))

  -- the taking is what the collector has of the message
  same_bytes : (h : Handling) → TakenTrue history step.act.who h → h.taking ≡ t → taking.bytes ≡ h.bytes
  same_bytes h now e =
      ap (λ (t : Taken). t.bytes) (same_Some taking now.t (sym at ∙ (ap (taken history) (sym e) ∙ now.is))) ∙ sym now.same

  handled_so : (m : Message) → message history number ≡ Some m → BeginsWith m.bytes taking.bytes → (h : Handling)
      → IsFound (λ h. h.taking == t) (view step.act.who history).handled h → IsHandled history number h
  handled_so m e begins h found =
      let hs = (view step.act.who history).handled in
      let now = all_one (TakenTrue history step.act.who) hs h (taken_true stamped history legal.0 step.act.who collects) found.one in
      record {
        m = m;
        is = e;
        begins = subst (BeginsWith m.bytes) (same_bytes h now (nat_same h.taking t found.passes)) begins;
        stand = all_one (Stand history) hs h (appends_stand stamped history legal.0 step.act.who) found.one;
      }

  with_handling : (m : Message) → message history number ≡ Some m → BeginsWith m.bytes taking.bytes → (o : Option Handling)
      → handling_of t (view step.act.who history).handled ≡ o → AnswersWell step.act.who history o bytes → AnswerTells history number bytes
  with_handling m e begins None none w = record {
    m = m;
    is = e;
    of_post = λ acks good. absurd (w (acks_text acks) good.1).2;
    of_poll = λ acks good. absurd (w (acks_text acks) good.1).2;
  }
  with_handling m e begins (Some h) some w =
      let hs = (view step.act.who history).handled in
      tells stamped history legal.0 step.act.who h number (handled_so m e begins h (found (λ h. h.taking == t) hs h some)) bytes w

  with_message : (o : Option Message) → message history number ≡ o → IsFrontOf o taking.bytes → AnswerTells history number bytes
  with_message None e begins = absurd begins
  with_message (Some m) e begins = with_handling m e begins (handling_of t (view step.act.who history).handled) refl well

  pub answer_tells : AnswerTells history number bytes
  answer_tells = with_message (message history number) refl front

-- each answer that a collector gave tells what is so
pub replies_tell : (stamped : List (List ℕ)) (history : History) → Legal stamped history → (number : ℕ) → AllTell history number (replies history number)
replies_tell stamped [] legal number = tt
replies_tell stamped (step ∷ history) legal number =
    all_stay stamped history step legal number (replies (step ∷ history) number) (go (deed step.act) refl (replies_tell stamped history legal.0 number))
  where
    go : (call : Deed) → deed step.act ≡ call → AllTell history number (replies history number)
        → AllTell history number (replies_in number call step.act.who (is_done step.act.answer) history (replies history number))
    go (Answers t bytes) is earlier =
        pick (same_role step.act.who.role Collector) (is_of step.act.who number (taken history t)) refl refl
      where
        here : (o : Option Taken) → taken history t ≡ o → is_of step.act.who number o ≡ true → step.act.who.role ≡ Collector → AnswerTells history number bytes
        here None at mine collects = absurd (true≢false (sym mine))
        here (Some taking) at mine collects =
            let parts = and_parts (same_who step.act.who taking.taker) (taking.of == number) mine in
            answer_tells stamped history step legal t bytes is collects number taking at parts.0 (nat_same taking.of number parts.1)

        pick : (a b : Bool) → same_role step.act.who.role Collector ≡ a → is_of step.act.who number (taken history t) ≡ b
            → AllTell history number (if a && b then record { bytes = bytes; done = is_done step.act.answer; inside = is_inside (taken history t) } ∷ replies history number else replies history number)
        pick true true a b = (here (taken history t) refl b (role_same step.act.who.role Collector a), earlier)
        pick true false a b = earlier
        pick false b e f = earlier
    go call is earlier = earlier
